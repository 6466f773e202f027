use Rattle.std.proofs.Common.{◌≡◌, ◌&&◌, true, ap, ◌∙◌}
use Rattle.std.proofs.lemmas.Result.{IfOk-weaker}
use Rattle.wgsl_model_tidy.specs.Roles.{Role, begins_operand}
use Rattle.wgsl_model_tidy.specs.Open.{Operands, enclosing}
use Rattle.wgsl_model_tidy.specs.LaidOut.{may_break}
use Rattle.wgsl_format_layout.specs.States.{state_view}
use Rattle.wgsl_format_layout.specs.Outputs.{layout_of}
use Rattle.std.specs.Prelude.{List}
use Rattle.wgsl_format_layout.proofs.Past.{operand_closes_none, begins_both, operands_begun}
use Rattle.wgsl_format_layout.proofs.output.Output.begin_operands.Goals as goal

pub returns-then-may_begin_operands-clause-begun : goal.returns-then-may_begin_operands-clause-begun
returns-then-may_begin_operands-clause-begun c =
    let old = c.args.self.now in
    let state = state_view old.state in
    IfOk-weaker c.part_operands.result _ _ (λ _ h n t ts p e.
    (let begins : true ≡ ((state.fresh && begins_operand t.role) && may_break (enclosing state.opened)) =
    c.if-may_begin_operands.ensures
    ∙ ap (λ (r : Role). (state.fresh && begins_operand r) && may_break (enclosing state.opened)) e in
    h n t ts p (operand_closes_none t.role
    (begins_both state.fresh (begins_operand t.role) (may_break (enclosing state.opened)) begins))
    ∙ ap (λ (ops : List Operands). record state { operands = ops })
    (operands_begun (layout_of old) state c.args.depth old.text.line.column n t ts p.here.order.0 begins)))
    c.part_operands.ensures.parted
