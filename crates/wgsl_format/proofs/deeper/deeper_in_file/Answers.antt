use Rattle.std.proofs.Common.{◌∙◌, ℕ, List, ap, chars, subst}
use Rattle.std.specs.Prelude.{Option, IfSome}
use Rattle.wgsl_span.specs.declared.Span.{Span}
use Rattle.wgsl_span.specs.View.{span_view}
use Rattle.wgsl_report.specs.Messages.{reported}
use Rattle.wgsl_format.specs.Deeper.{NestsDeeper}
use Rattle.wgsl_format.proofs.deeper.deeper_in_file.Goals as goal

pub returns : goal.returns
returns c =
    let text = chars c.args.text.now in (
      span_view c.in-Some.span,
      subst (λ (m : Option Span). IfSome m (λ s. NestsDeeper c.args.depth text (span_view s)))
          c.in-Some.is c.in_ok-span.ensures,
      c.in_ok-told.ensures
          ∙ ap (λ (m : List ℕ). reported c.args.name.now m text (span_view c.in-Some.span))
          (c.as_str.ensures.value ∙ c.in_ok-message.ensures),
    )
