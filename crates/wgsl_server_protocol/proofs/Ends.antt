-- Where the fields end, as far as a loop has gone over the bytes.
use Rattle.std.proofs.Common.{◌≡◌, refl, ap, sym, ◌∙◌, ℕ, suc, ◌+◌, ◌<◌, ◌≤◌, nat_eq, Bool, true, false, List, ◌∷◌, length, drop, slice_index, Option, Some, None, arith}
use Rattle.std.proofs.lemmas.Bool.{cond-true, cond-false}
use Rattle.std.proofs.lemmas.List.{drop_more, drop_all}
use Rattle.std.specs.List.{starts_with}
use Rattle.std.specs.Option.{option_map}
use Rattle.wgsl_server_protocol.specs.Heads.{empty_line, head_end}

-- where the fields end, as the loop has it
abbrev pub so_far : List ℕ → ℕ → Option ℕ
so_far bytes at = option_map (λ n. at + n) (head_end (drop at bytes))

moved : (at : ℕ) (o : Option ℕ) → option_map (λ n. at + n) (option_map suc o) ≡ option_map (λ n. at + 1 + n) o
moved at None = refl
moved at (Some n) = let e : at + suc n ≡ at + 1 + n = omega arith in ap Some e

module _ (bytes : List ℕ) (at : ℕ) (within : at < length bytes) where
  opened : (F : List ℕ → Bool) → F (drop at bytes) ≡ F (slice_index bytes at ∷ drop (at + 1) bytes)
  opened F = ap F (drop_more bytes at 0 within)

  -- they end here
  pub found : starts_with nat_eq (drop at bytes) empty_line ≡ true → so_far bytes at ≡ Some (at + 4)
  found here =
      let b = slice_index bytes at in
      let bs = drop (at + 1) bytes in
      let same : starts_with nat_eq (b ∷ bs) empty_line ≡ true = sym (opened (λ t. starts_with nat_eq t empty_line)) ∙ here in
      ap (λ t. option_map (λ n. at + n) (head_end t)) (drop_more bytes at 0 within)
      ∙ ap (option_map (λ n. at + n)) (cond-true (starts_with nat_eq (b ∷ bs) empty_line) (Some 4) (option_map suc (head_end bs)) same)

  -- they go on
  pub gone_on : starts_with nat_eq (drop at bytes) empty_line ≡ false → so_far bytes at ≡ so_far bytes (at + 1)
  gone_on more =
      let b = slice_index bytes at in
      let bs = drop (at + 1) bytes in
      let same : starts_with nat_eq (b ∷ bs) empty_line ≡ false = sym (opened (λ t. starts_with nat_eq t empty_line)) ∙ more in
      ap (λ t. option_map (λ n. at + n) (head_end t)) (drop_more bytes at 0 within)
      ∙ ap (option_map (λ n. at + n)) (cond-false (starts_with nat_eq (b ∷ bs) empty_line) (Some 4) (option_map suc (head_end bs)) same)
      ∙ moved at (head_end bs)

-- the bytes end
pub at_end : (bytes : List ℕ) (at : ℕ) → length bytes ≤ at → so_far bytes at ≡ None
at_end bytes at past = ap (λ t. option_map (λ n. at + n) (head_end t)) (drop_all at bytes past)
