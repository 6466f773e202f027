-- The position of an offset in a line that begins before it.
use Rattle.std.proofs.Common.{◌≡◌, refl, ap, sym, ◌∙◌, subst, ℕ, zero, suc, ◌+◌, ◌-◌, ◌<◌, ◌≤◌, Bool, true, false, List, [], ◌∷◌, length, take, drop, slice_index, arith}
use Rattle.std.specs.Bool.{⊤}
use Rattle.std.proofs.lemmas.Bool.{cond-true, cond-false}
use Rattle.std.proofs.lemmas.List.{length-drop}
use Rattle.wgsl_server_text.specs.Lines.{ends_line, starts_from, line_starts}
use Rattle.wgsl_server_text.specs.Positions.{units, width, after, position_from, position_at}
use Rattle.wgsl_server_text.specs.declared.encoding.PositionEncoding.{PositionEncoding}
use Rattle.wgsl_server_text.specs.declared.position.Position.{Position}
use Rattle.wgsl_server_text.proofs.LineStarts.{place, first_of, after_within, on_line}

-- the next line begins after an offset, if there is one
abbrev NextAfter : List ℕ → ℕ → Type 0
NextAfter [] n = ⊤
NextAfter (s ∷ ss) n = n < s

-- a position some units on
abbrev moved : Position → ℕ → Position
moved p n = place p.line (p.character + n)

unmoved : (p : Position) → p ≡ moved p 0
unmoved p = let e : p.character ≡ p.character + 0 = omega arith in ap (place p.line) e

module _ (e : PositionEncoding) (p : Position) (at b : ℕ) (bs : List ℕ) (m : ℕ) where
  step : (m ≤ length bs → NextAfter (starts_from (suc at) bs) (suc at + m)
      → position_from e (moved p (units e b)) bs m ≡ moved (moved p (units e b)) (width e (take m bs)))
      → (c : Bool) → ends_line b bs ≡ c → m ≤ length bs → NextAfter (starts_from at (b ∷ bs)) (at + suc m)
      → position_from e (after e p b bs) bs m ≡ moved p (units e b + width e (take m bs))
  step known true holds low next =
      let starts : starts_from at (b ∷ bs) ≡ suc at ∷ starts_from (suc at) bs
      = cond-true (ends_line b bs) (suc at ∷ starts_from (suc at) bs) (starts_from (suc at) bs) holds in
      let fails : at + suc m < suc at = subst (λ ss. NextAfter ss (at + suc m)) starts next in
      absurd (omega arith)
  step known false fails low next =
      let starts : starts_from at (b ∷ bs) ≡ starts_from (suc at) bs
      = cond-false (ends_line b bs) (suc at ∷ starts_from (suc at) bs) (starts_from (suc at) bs) fails in
      let same : at + suc m ≡ suc at + m = omega arith in
      let later : NextAfter (starts_from (suc at) bs) (suc at + m)
      = subst (λ n. NextAfter (starts_from (suc at) bs) n) same (subst (λ ss. NextAfter ss (at + suc m)) starts next) in
      let sum : p.character + units e b + width e (take m bs) ≡ p.character + (units e b + width e (take m bs)) = omega arith in
      ap (λ q. position_from e q bs m) (after_within e p b bs fails)
      ∙ known low later
      ∙ ap (place p.line) sum

same_line : (e : PositionEncoding) (p : Position) (at : ℕ) (bs : List ℕ) (m : ℕ) → m ≤ length bs
    → NextAfter (starts_from at bs) (at + m) → position_from e p bs m ≡ moved p (width e (take m bs))
same_line e p at [] zero low next = unmoved p
same_line e p at [] (suc m) low next = unmoved p
same_line e p at (b ∷ bs) zero low next = unmoved p
same_line e p at (b ∷ bs) (suc m) low next =
    let less : m ≤ length bs = omega arith in
    step e p at b bs m (same_line e (moved p (units e b)) (suc at) bs m) (ends_line b bs) refl less next

next_after : (starts : List ℕ) (i n : ℕ) → (i < length starts → n < slice_index starts i) → NextAfter (drop i starts) n
next_after [] zero n below = tt
next_after [] (suc i) n below = tt
next_after (s ∷ ss) zero n below = let low : 0 < suc (length ss) = omega arith in below low
next_after (s ∷ ss) (suc i) n below =
    next_after ss i n (λ h. let low : suc i < suc (length ss) = omega arith in below low)

-- the position of an offset in a line
pub position_on : (e : PositionEncoding) (text : List ℕ) (line offset : ℕ) → line < length (line_starts text)
    → slice_index (line_starts text) line ≤ offset → offset ≤ length text
    → (line + 1 < length (line_starts text) → offset < slice_index (line_starts text) (line + 1))
    → position_at e text offset
    ≡ place line (width e (take (offset - slice_index (line_starts text) line) (drop (slice_index (line_starts text) line) text)))
position_on e text line offset inside from low below =
    let starts = line_starts text in
    let s = slice_index starts line in
    let m = offset - s in
    let known = on_line text line inside in
    let same : offset ≡ s + m = omega arith in
    let less : m ≤ length (drop s text) = rw (length-drop s text) (omega arith) in
    let next : suc line ≡ line + 1 = omega arith in
    let after : NextAfter (drop (suc line) starts) offset
    = next_after starts (suc line) offset (subst (λ n. n < length starts → offset < slice_index starts n) (sym next) below) in
    let later : NextAfter (starts_from s (drop s text)) (s + m)
    = subst (λ n. NextAfter (starts_from s (drop s text)) n) same (subst (λ ss. NextAfter ss offset) known.rest after) in
    let sum : 0 + width e (take m (drop s text)) ≡ width e (take m (drop s text)) = omega arith in
    ap (position_at e text) same
    ∙ known.position e m
    ∙ same_line e (first_of line) s (drop s text) m less later
    ∙ ap (place line) sum

-- the same of lines that are known to begin at these places
pub position_in : (e : PositionEncoding) (text starts : List ℕ) (line offset character : ℕ) → starts ≡ line_starts text
    → line < length starts → slice_index starts line ≤ offset → offset ≤ length text
    → (line + 1 < length starts → offset < slice_index starts (line + 1))
    → character ≡ width e (take (offset - slice_index starts line) (drop (slice_index starts line) text))
    → place line character ≡ position_at e text offset
position_in e text starts line offset character same =
    subst (λ (ss : List ℕ). line < length ss → slice_index ss line ≤ offset → offset ≤ length text
    → (line + 1 < length ss → offset < slice_index ss (line + 1))
    → character ≡ width e (take (offset - slice_index ss line) (drop (slice_index ss line) text))
    → place line character ≡ position_at e text offset)
    (sym same)
    (λ inside from low below is. ap (place line) is ∙ sym (position_on e text line offset inside from low below))
