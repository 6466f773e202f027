-- How many bytes of a line there are before a character, as far as a loop has gone over it.
use Rattle.std.proofs.Common.{◌≡◌, refl, ap, ◌∙◌, ℕ, suc, ◌+◌, ◌-◌, ◌<◌, ◌≤◌, ◌==◌, nat_lt, Bool, true, false, cond, ◌&&◌, ◌||◌, List, ◌∷◌, length, drop, slice_index, Option, Some, None, arith}
use Rattle.std.proofs.lemmas.Bool.{cond-true, cond-false}
use Rattle.std.proofs.lemmas.List.{drop_more, drop_all}
use Rattle.std.specs.Option.{option_map}
use Rattle.wgsl_server_text.specs.Lines.{is_break}
use Rattle.wgsl_server_text.specs.Positions.{is_first, units, bytes_before}
use Rattle.wgsl_server_text.specs.declared.encoding.PositionEncoding.{PositionEncoding}

abbrev pub is_reached : ℕ → ℕ → Bool
is_reached b left = is_break b || (left == 0 && is_first b)

-- what is before the character, as the loop has it
abbrev pub so_far : PositionEncoding → ℕ → List ℕ → ℕ → Option ℕ
so_far e left line at = option_map (λ n. at + n) (bytes_before e left (drop at line))

-- a byte on
pub past_byte : (e : PositionEncoding) (left b : ℕ) (bs : List ℕ)
    → is_reached b left ≡ false → nat_lt left (units e b) ≡ false
    → bytes_before e left (b ∷ bs) ≡ option_map suc (bytes_before e (left - units e b) bs)
past_byte e left b bs fails enough =
    let rest = option_map suc (bytes_before e (left - units e b) bs) in
    cond-false (is_reached b left) (Some 0) (cond (nat_lt left (units e b)) None rest) fails
    ∙ cond-false (nat_lt left (units e b)) None rest enough

moved : (at : ℕ) (o : Option ℕ) → option_map (λ n. at + n) (option_map suc o) ≡ option_map (λ n. at + 1 + n) o
moved at None = refl
moved at (Some n) = let e : at + suc n ≡ at + 1 + n = omega arith in ap Some e

module _ (e : PositionEncoding) (left : ℕ) (line : List ℕ) (at : ℕ) (within : at < length line) where
  opened : bytes_before e left (drop at line) ≡ bytes_before e left (slice_index line at ∷ drop (at + 1) line)
  opened = ap (bytes_before e left) (drop_more line at 0 within)

  -- the character is in front of the byte
  pub found : is_reached (slice_index line at) left ≡ true → so_far e left line at ≡ Some at
  found holds =
      let b = slice_index line at in
      let rest = option_map suc (bytes_before e (left - units e b) (drop (at + 1) line)) in
      let zero : at + 0 ≡ at = omega arith in
      ap (option_map (λ n. at + n)) (opened ∙ cond-true (is_reached b left) (Some 0) (cond (nat_lt left (units e b)) None rest) holds)
      ∙ ap Some zero

  -- the character is inside of another one
  pub inside : is_reached (slice_index line at) left ≡ false → nat_lt left (units e (slice_index line at)) ≡ true
      → so_far e left line at ≡ None
  inside fails less =
      let b = slice_index line at in
      let rest = option_map suc (bytes_before e (left - units e b) (drop (at + 1) line)) in
      ap (option_map (λ n. at + n)) (opened
      ∙ cond-false (is_reached b left) (Some 0) (cond (nat_lt left (units e b)) None rest) fails
      ∙ cond-true (nat_lt left (units e b)) None rest less)

  -- the character is after the byte
  pub gone_on : is_reached (slice_index line at) left ≡ false → nat_lt left (units e (slice_index line at)) ≡ false
      → so_far e left line at ≡ so_far e (left - units e (slice_index line at)) line (at + 1)
  gone_on fails enough =
      let b = slice_index line at in
      ap (option_map (λ n. at + n)) (opened ∙ past_byte e left b (drop (at + 1) line) fails enough)
      ∙ moved at (bytes_before e (left - units e b) (drop (at + 1) line))

-- the character is the end
pub at_end : (e : PositionEncoding) (left : ℕ) (line : List ℕ) (at : ℕ) → at ≡ length line
    → so_far e left line at ≡ Some (length line)
at_end e left line at ended =
    let zero : at + 0 ≡ length line = omega arith in
    let past : length line ≤ at = omega arith in
    ap (λ bs. option_map (λ n. at + n) (bytes_before e left bs)) (drop_all at line past) ∙ ap Some zero
