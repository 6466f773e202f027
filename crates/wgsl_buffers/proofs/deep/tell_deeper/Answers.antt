use Rattle.std.proofs.Common.{◌≡◌, ◌∙◌, ℕ, List, ap, chars, subst}
use Rattle.std.specs.Prelude.{Option, Some, IfSome}
use Rattle.wgsl_span.specs.declared.Span.{Span}
use Rattle.wgsl_span.specs.View.{span_view}
use Rattle.wgsl_format.specs.Deeper.{NestsDeeper}
use Rattle.wgsl_buffers.specs.Answers.{HoldsOrKeeps}
use Rattle.wgsl_buffers.specs.Deep.{texts_at}
use Rattle.wgsl_buffers.proofs.Deeper.{deeper_within}
use Rattle.wgsl_buffers.proofs.deep.tell_deeper.Goals as goal

pub returns-clause-deeper : goal.returns-clause-deeper
returns-clause-deeper c seven =
    let span = c.in-Ok-Some.span in
    let one = c.in-Ok-Some.is in
    let two = c.in-Ok-Some.field-0-is in
    let three = c.in-Ok-Some.span-is in
    let found : c.in-Ok-Some.field-0 ≡ Some span = cc in
    let nests = subst (λ (m : Option Span). IfSome m (λ s. NestsDeeper c.args.depth (chars c.args.source.now)
    (span_view s))) found c.in-Ok-Some.ensures in
    let told = c.as_str.ensures.value ∙ c.in-Ok.ensures in (
      span,
      nests,
      deeper_within c.args.depth c.args.source.now span c.utf8.source nests,
      c.tell_place.ensures.place ∙ ap (λ (texts : List ℕ). texts_at texts 0 span) told,
      subst (λ (texts : List ℕ). HoldsOrKeeps texts c.args.buffer.now c.tell_place.new.buffer) told
          c.tell_place.ensures.texts,
    )
