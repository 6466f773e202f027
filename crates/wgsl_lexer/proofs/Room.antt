-- How many template lists may still be entered.
use Rattle.std.proofs.Common.{◌≡◌, ℕ, ◌-◌, ◌<◌, ◌≤◌, Bool, true, false, List, [], ◌∷◌, length, chars, refl, arith, if◌then◌else◌}
use Rattle.std.specs.Prelude.{◌==◌, Some}
use Rattle.std.specs.Str.{IsUtf8}
use Rattle.std.proofs.lemmas.Bool.Decides.{nat_tests}
use Rattle.wgsl_model.specs.Tokens.Kind.{Kind}
use Rattle.wgsl_model.specs.Tokens.Raw.{token, raw}
use Rattle.wgsl_model.specs.Tokens.TokenList.{place, width}
use Rattle.wgsl_span.specs.declared.Span.{Span}
use Rattle.wgsl_theory_grammar.proofs.Tokens.Cuts.{cut_at}
use Rattle.wgsl_theory_grammar.proofs.Tokens.Widths.{past}
use Rattle.wgsl_theory_grammar.proofs.Tokens.Places.{bytes_width}
use Rattle.wgsl_lex_templates.specs.Spans.{end_from}
use Rattle.wgsl_lexer.specs.Room.{starts_from}

-- fewer start from a later place on
pub fewer : (p q : ℕ) (spans : List Span) → p ≤ q → starts_from q spans ≤ starts_from p spans
fewer p q [] h = omega arith
fewer p q (s ∷ spans) h = let more = fewer p q spans h in grind (arith, nat_tests, more, h)

-- no more than there are
pub at_most_all : (p : ℕ) (spans : List Span) → starts_from p spans ≤ length spans
at_most_all p [] = omega arith
at_most_all p (s ∷ spans) = let more = at_most_all p spans in grind (arith, nat_tests, more)

-- one fewer after one of them
pub one_fewer : (p q start end : ℕ) (spans : List Span) → end_from spans start ≡ Some end
    → p ≤ start → start < q → starts_from q spans < starts_from p spans
one_fewer p q start end [] e low high = absurd cc
one_fewer p q start end (s ∷ spans) e low high = by_test (s.start == start) refl e (one_fewer p q start end spans)
  where
    by_test : (b : Bool) → (s.start == start) ≡ b
        → (if b then Some s.end else end_from spans start) ≡ Some end
        → (end_from spans start ≡ Some end → p ≤ start → start < q → starts_from q spans < starts_from p spans)
        → starts_from q (s ∷ spans) < starts_from p (s ∷ spans)
    by_test true same f again =
        let more = fewer p q spans (omega (arith, low, high)) in
        grind (arith, nat_tests, same, more, low, high)
    by_test false other f again = let more = again f low high in grind (arith, nat_tests, more, low, high)

-- one fewer after the `<` of a list
pub entered : (total : ℕ) (spans : List Span) (rest from after : List ℕ) (kind : Kind) (start end : ℕ)
    → IsUtf8 from → IsUtf8 after → raw (chars rest) ≡ token kind (chars from) (chars after)
    → length from ≤ length rest → length rest ≤ total
    → start ≡ place total (chars from) → end_from spans start ≡ Some end
    → starts_from (total - length after) spans < starts_from (total - length rest) spans
entered total spans rest from after kind start end uf ua r within fits s e =
    let wf = bytes_width from uf in
    let wa = bytes_width after ua in
    let less : width (chars after) < width (chars from) = past (chars from) (chars after)
    (cut_at (chars rest) (chars from) (chars after) kind r).1 in
    one_fewer (total - length rest) (total - length after) start end spans e
    (omega (arith, s, wf, within, fits)) (omega (arith, s, wf, wa, less, within, fits))
