-- Where lines begin, as far as a loop has gone over a text.
use Rattle.std.proofs.Common.{◌≡◌, ap, sym, ◌∙◌, ℕ, suc, ◌+◌, ◌<◌, ◌≤◌, true, false, List, [], ◌∷◌, ◌++◌, length, drop, slice_index, append_assoc, arith}
use Rattle.std.proofs.lemmas.Bool.{cond-true, cond-false}
use Rattle.std.proofs.lemmas.List.{drop_more, drop_all, append-nil}
use Rattle.wgsl_server_text.specs.Lines.{ends_line, starts_from, line_starts}

module _ (starts text : List ℕ) (at : ℕ) (within : at < length text) (before : starts ++ starts_from at (drop at text) ≡ line_starts text) where
  opened : starts_from at (drop at text) ≡ starts_from at (slice_index text at ∷ drop (at + 1) text)
  opened = ap (starts_from at) (drop_more text at 0 within)

  -- a line ends after the byte
  pub line_read : ends_line (slice_index text at) (drop (at + 1) text) ≡ true
      → (starts ++ (at + 1) ∷ []) ++ starts_from (at + 1) (drop (at + 1) text) ≡ line_starts text
  line_read holds =
      let b = slice_index text at in
      let bs = drop (at + 1) text in
      let next : suc at ≡ at + 1 = omega arith in
      let here : starts_from at (drop at text) ≡ (at + 1) ∷ starts_from (at + 1) bs
      = opened ∙ cond-true (ends_line b bs) (suc at ∷ starts_from (suc at) bs) (starts_from (suc at) bs) holds
      ∙ ap (λ n. n ∷ starts_from n bs) next in
      append_assoc starts ((at + 1) ∷ []) (starts_from (at + 1) bs) ∙ (ap (λ t. starts ++ t) (sym here) ∙ before)

  -- the line goes on
  pub byte_read : ends_line (slice_index text at) (drop (at + 1) text) ≡ false
      → starts ++ starts_from (at + 1) (drop (at + 1) text) ≡ line_starts text
  byte_read fails =
      let b = slice_index text at in
      let bs = drop (at + 1) text in
      let next : suc at ≡ at + 1 = omega arith in
      let here : starts_from at (drop at text) ≡ starts_from (at + 1) bs
      = opened ∙ cond-false (ends_line b bs) (suc at ∷ starts_from (suc at) bs) (starts_from (suc at) bs) fails
      ∙ ap (λ n. starts_from n bs) next in
      ap (λ t. starts ++ t) (sym here) ∙ before

-- the text ends
pub all_read : (starts text : List ℕ) (at : ℕ) → length text ≤ at
    → starts ++ starts_from at (drop at text) ≡ line_starts text → starts ≡ line_starts text
all_read starts text at past before =
    sym (append-nil starts) ∙ (ap (λ t. starts ++ starts_from at t) (sym (drop_all at text past)) ∙ before)
