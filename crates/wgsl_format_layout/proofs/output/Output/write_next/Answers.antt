use Rattle.std.proofs.Common.{List, refl, ap, ◌∙◌}
use Rattle.std.specs.List.{list_all}
use Rattle.wgsl_model_tidy.specs.Open.{Operands}
use Rattle.wgsl_format_layout.specs.View.{joint_view}
use Rattle.wgsl_format_layout.specs.States.{state_view}
use Rattle.wgsl_format_layout.specs.Lines.{is_printable}
use Rattle.wgsl_format_layout.proofs.TokensCut.{left_boundary}
use Rattle.wgsl_format_layout.proofs.NextWritten.{place_at, written_at}
use Rattle.wgsl_format_layout.proofs.output.Output.write_next.Goals as goal

pub write_before-requires-clause-forward : goal.write_before-requires-clause-forward
write_before-requires-clause-forward c = (place_at _ c.args.source.now c.args.tokens.now c.args.place c.args.byte
    c.args.self.now _ _ _ c.utf8.source c.requires.place c.requires.next.3).forward

pub write_before-requires-clause-from : goal.write_before-requires-clause-from
write_before-requires-clause-from c = left_boundary c.args.source.now c.args.byte c.requires.next.3.left c.utf8.source
    c.requires.next.3.places

pub write_before-requires-clause-to : goal.write_before-requires-clause-to
write_before-requires-clause-to c = (place_at _ c.args.source.now c.args.tokens.now c.args.place c.args.byte
    c.args.self.now _ _ _ c.utf8.source c.requires.place c.requires.next.3).start

pub write_before-requires-clause-none : goal.write_before-requires-clause-none
write_before-requires-clause-none c = (place_at _ c.args.source.now c.args.tokens.now c.args.place c.args.byte
    c.args.self.now _ _ _ c.utf8.source c.requires.place c.requires.next.3).none

pub range-text-requires-clause-start_le_end : goal.range-text-requires-clause-start_le_end
range-text-requires-clause-start_le_end c = (place_at _ c.args.source.now c.args.tokens.now c.args.place c.args.byte
    c.args.self.now _ _ _ c.utf8.source c.requires.place c.requires.next.3).inside

pub range-text-requires-clause-start_boundary : goal.range-text-requires-clause-start_boundary
range-text-requires-clause-start_boundary c =
    λ _. (place_at _ c.args.source.now c.args.tokens.now c.args.place c.args.byte
    c.args.self.now _ _ _ c.utf8.source c.requires.place c.requires.next.3).start

pub range-text-requires-clause-end_boundary : goal.range-text-requires-clause-end_boundary
range-text-requires-clause-end_boundary c = (place_at _ c.args.source.now c.args.tokens.now c.args.place c.args.byte
    c.args.self.now _ _ _ c.utf8.source c.requires.place c.requires.next.3).stop

pub write_token-requires : goal.write_token-requires
write_token-requires c h = ap (list_all is_printable) c.range-text.ensures.value
    ∙ (place_at _ c.args.source.now c.args.tokens.now c.args.place c.args.byte
    c.args.self.now _ _ _ c.utf8.source c.requires.place c.requires.next.3).printable h

pub returns : goal.returns
returns c =
    let old = c.args.self.now in
    written_at _ c.args.source.now c.args.tokens.now c.args.place c.args.byte old _ c.write_before.new.self
    c.write_token.new.self c.take.new.self (joint_view c.joint_before-joint.result)
    (joint_view c.joint_after-joint.result) c.in_ok-line_ends.line_ends c.range-text.result.now c.utf8.source
    c.requires.place (ap (λ (ops : List Operands). record (state_view old.state) { operands = ops }) c.go_on.ensures)
    refl refl c.joint_before-joint.ensures c.in_ok-line_ends.ensures c.joint_after-joint.ensures
    c.range-text.ensures.value c.in_ok-write_token.ensures c.in_ok-take.ensures.text c.in_ok-take.ensures.last
    c.in_ok-take.ensures.end c.in_ok-take.ensures.state
