use Rattle.std.proofs.Common.{◌≡◌, ◌∙◌, ◌++◌, ℕ, List, ap, append_assoc, chars, codes, subst}
use Rattle.std.specs.Prelude.{Option, IfSome}
use Rattle.std.specs.Fmt.{decimal}
use Rattle.wgsl_model.specs.Program.{complaint}
use Rattle.wgsl_span.specs.declared.Span.{Span}
use Rattle.wgsl_span.specs.View.{span_view}
use Rattle.wgsl_format.specs.Deeper.{deeper_message, NestsDeeper}
use Rattle.wgsl_format.proofs.report.too_deep.Goals as goal

-- the parts in the groups of the definition
regrouped : (a b c d e f g : List ℕ) → a ++ (b ++ (c ++ (d ++ (e ++ (f ++ g))))) ≡ a ++ b ++ c ++ d ++ e ++ f ++ g
regrouped a b c d e f g = simp append_assoc

pub returns : goal.returns
returns c =
    let span = c.in-Some.span in (
      span_view span,
      subst (λ (m : Option Span). IfSome m (λ s. NestsDeeper c.args.depth (chars c.args.source.now) (span_view s)))
          c.in-Some.is c.in_ok-span.ensures,
      ap (complaint 3) (c.in_ok-line.ensures.ok
          ∙ ap (λ (m : List ℕ). codes "chars " ++ (decimal span.start ++ (codes ".." ++ (decimal span.end
          ++ (codes ": " ++ (m ++ codes "\n")))))) c.in_ok-message.ensures
          ∙ regrouped (codes "chars ") (decimal span.start) (codes "..") (decimal span.end) (codes ": ")
          (deeper_message c.args.depth) (codes "\n")),
    )
