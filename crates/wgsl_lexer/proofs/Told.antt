-- Whether a template list ends after a `<`, by what the lists of the source tell.
use Rattle.std.proofs.Common.{◌≡◌, ◌∙◌, ◌+◌, ◌≤◌, ℕ, List, Some, None, ap}
use Rattle.wgsl_model.specs.Tokens.ClassTable.{SymLessThan}
use Rattle.wgsl_model.specs.Tokens.Kind.{Kind}
use Rattle.wgsl_model.specs.Tokens.Raw.{token, raw}
use Rattle.wgsl_model.specs.Tokens.TokenList.{place, width}
use Rattle.wgsl_span.specs.declared.Span.{Span}
use Rattle.wgsl_theory_grammar.proofs.Tokens.Cuts.{cut_at}
use Rattle.wgsl_lex_templates.specs.Spans.{end_from}
use Rattle.wgsl_lex_templates.specs.Lists.{AreTold}
use Rattle.wgsl_theory_templates.specs.Attempts.{EndsAt, HasNoEnd}
use Rattle.wgsl_lex_templates.proofs.TextLists.Fronts.{raw_again, less_first}
use Rattle.wgsl_theory_templates.proofs.Swaps.Attempts.{list_front}
use Rattle.wgsl_lex_templates.proofs.Readings.Reached.{no_end_after}
use Rattle.wgsl_lex_templates.proofs.TextLists.Known.{known_end, known_some, known_none, end_place}

-- the end that is told is after the `>` of the list
pub end_told : (total : ℕ) (spans : List Span) (rest from after : List ℕ) (kind : Kind) (start end : ℕ)
    → raw rest ≡ token kind from after → AreTold total spans rest → width after ≤ total
    → kind.class ≡ SymLessThan → start ≡ place total from
    → end_from spans start ≡ Some end
    → (list_end : List ℕ) × EndsAt total after list_end × (end ≡ place total list_end + 1)
end_told total spans rest from after kind start end r told fits less s e =
    let first = less_first rest from after kind r less in
    let h = known_some total spans from first.0 start end
    (known_end total spans rest from (cut_at rest from after kind r).0 told) first.1 s e in
    let f = list_front total from from after kind h.0 h.1 (raw_again rest from after kind r) h.2 in
    (f.1, f.2, h.3 ∙ ap (place total) f.4 ∙ end_place total after f.2.0 f.1 fits f.2.1)

-- where none is told, no list ends
pub no_end_told : (total : ℕ) (spans : List Span) (rest from after : List ℕ) (kind : Kind) (start : ℕ)
    → raw rest ≡ token kind from after → AreTold total spans rest → kind.class ≡ SymLessThan
    → start ≡ place total from
    → end_from spans start ≡ None → HasNoEnd total after
no_end_told total spans rest from after kind start r told less s e =
    let first = less_first rest from after kind r less in
    no_end_after total from after kind (raw_again rest from after kind r) less
    (known_none total spans from first.0 start
    (known_end total spans rest from (cut_at rest from after kind r).0 told) first.1 s e)
