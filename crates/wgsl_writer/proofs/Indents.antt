-- Indented text, piece by piece.
use Rattle.std.proofs.Common.{ℕ, suc, ◌<◌, ◌≡◌, refl, sym, ◌∙◌, ap, true, false, List, [], ◌∷◌, ◌++◌, length, ◌==◌, arith, if◌then◌else◌, get_or, ◌≢◌, inl, inr, not, ◌&&◌, true≢false, take, ◌+◌, ◌-◌, codes}
use Rattle.std.proofs.lemmas.List.{append_assoc, take_more, get_or-take, length-take-le}
use Rattle.std.proofs.lemmas.Bool.Decides.{eqb_tells}
use Rattle.std.specs.List.{slice_range}
use Rattle.wgsl_model.specs.Printed.Indentation.{after_line_ends}
use Rattle.wgsl_writer.specs.LineEnds.{IsLineEnd, is_one_line}

pub after_append : (gap xs ys : List ℕ)
    → after_line_ends gap (xs ++ ys) ≡ after_line_ends gap xs ++ after_line_ends gap ys
after_append gap [] ys = refl
after_append gap (x ∷ xs) ys = elim (x == 10) as (λ t.
    (if t then x ∷ (gap ++ after_line_ends gap (xs ++ ys)) else x ∷ after_line_ends gap (xs ++ ys))
    ≡ (if t then x ∷ (gap ++ after_line_ends gap xs) else x ∷ after_line_ends gap xs) ++ after_line_ends gap ys) [
      | true ↦ ap (λ u. x ∷ (gap ++ u)) (after_append gap xs ys)
          ∙ ap (λ u. x ∷ u) (sym (append_assoc gap (after_line_ends gap xs) (after_line_ends gap ys)))
      | false ↦ ap (λ u. x ∷ u) (after_append gap xs ys)
    ]

-- a text without an LF stays, and one with an LF is cut there
pub after_none : (gap bs : List ℕ) → ((i : ℕ) → i < length bs → get_or bs i 0 ≢ 10) → after_line_ends gap bs ≡ bs
after_none gap [] h = refl
after_none gap (x ∷ xs) h = elim (eqb_tells x 10) [
  | inl e ↦ absurd (h 0 (omega arith) e.1)
  | inr e ↦ ap (λ t. if t then x ∷ (gap ++ after_line_ends gap xs) else x ∷ after_line_ends gap xs) e.0
      ∙ ap (λ u. x ∷ u) (after_none gap xs (λ i p. h (suc i) (omega (arith, p))))
]

pub after_one_line : (gap bs : List ℕ) → is_one_line bs ≡ true → after_line_ends gap bs ≡ bs
after_one_line gap [] h = refl
after_one_line gap (x ∷ xs) h = elim (eqb_tells x 10) [
  | inl e ↦ absurd (true≢false (sym (ap (λ b. not b && is_one_line xs) (sym e.0) ∙ h)))
  | inr e ↦ ap (λ t. if t then x ∷ (gap ++ after_line_ends gap xs) else x ∷ after_line_ends gap xs) e.0
      ∙ ap (λ u. x ∷ u) (after_one_line gap xs (sym (ap (λ b. not b && is_one_line xs) e.0) ∙ h))
]

pub front_range : (bs : List ℕ) (end : ℕ) → slice_range bs 0 end ≡ take end bs
front_range bs end = let e : end - 0 ≡ end = omega arith in ap (λ n. take n bs) e

-- the text up to an LF, and that LF
pub after_line : (gap bs : List ℕ) (end : ℕ) → IsLineEnd bs end → after_line_ends gap (take end bs) ≡ take end bs
after_line gap bs end h = after_none gap (take end bs) (λ i p.
    let inside : i < end = omega (arith, p, h.0, length-take-le end bs (omega (arith, h.0))) in
    λ e. h.2 i inside (sym (get_or-take end bs i 0 inside) ∙ e))

pub line_then_end : (bs : List ℕ) (end : ℕ) → IsLineEnd bs end → take end bs ++ codes "\n" ≡ take (end + 1) bs
line_then_end bs end h = sym (take_more bs end 0 h.0 ∙ ap (λ b. take end bs ++ (b ∷ [])) h.1)
