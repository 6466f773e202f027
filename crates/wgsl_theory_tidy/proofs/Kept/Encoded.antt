-- The characters of a text's bytes are the text, whatever numbers its characters are.
use Rattle.std.proofs.Common.{◌≡◌, ◌⊎◌, inl, inr, ℕ, zero, suc, ◌+◌, ◌-◌, ◌*◌, ◌/◌, ◌<◌, ◌≤◌, refl, sym, ap, ◌∙◌, List, [], ◌∷◌, ◌++◌, arith}
use Rattle.std.specs.Str.{continuation_len, lead_bits, chars_after, chars, encode_utf8_all}
use lib.Utf8.{encode, next}
use Rattle.std.proofs.str.Laws.{one, two, three, four, order}

-- the last byte of a character was read
last_read : (c : ℕ) (bytes : List ℕ) → chars_after zero c bytes ≡ c ∷ chars bytes
unfolding chars
last_read c [] = refl
last_read c (b ∷ bytes) = refl

-- the first byte was read
first_read : (b n bits : ℕ) (bytes : List ℕ) → n ≡ continuation_len b → bits ≡ lead_bits b
    → chars (b ∷ bytes) ≡ chars_after n bits bytes
unfolding chars
first_read b n bits bytes e f = ap (λ m. chars_after m (lead_bits b) bytes) (sym e)
    ∙ ap (λ m. chars_after n m bytes) (sym f)

-- a character was read
char_read : (c : ℕ) (bytes : List ℕ) → chars (encode c ++ bytes) ≡ c ∷ chars bytes
char_read c bytes = go (order c 128) (order c 2048) (order c 65536)
  where
    go : (c < 128) ⊎ (128 ≤ c) → (c < 2048) ⊎ (2048 ≤ c) → (c < 65536) ⊎ (65536 ≤ c)
        → chars (encode c ++ bytes) ≡ c ∷ chars bytes
    go (inl h) _ _ = ap (λ p. chars (p ++ bytes)) (one c h)
        ∙ first_read c zero c bytes (grind arith) (grind arith) ∙ last_read c bytes
    go (inr l) (inl h) _ =
        let same : (c / 64) * 64 + (next c - 128) ≡ c = omega arith in
        ap (λ p. chars (p ++ bytes)) (two c l h)
        ∙ first_read (192 + c / 64) (suc zero) (c / 64) (next c ∷ bytes) (grind arith) (grind arith)
        ∙ last_read _ bytes ∙ ap (λ x. x ∷ chars bytes) same
    go (inr _) (inr l) (inl h) =
        let same : ((c / 4096) * 64 + (next (c / 64) - 128)) * 64 + (next c - 128) ≡ c = omega arith in
        ap (λ p. chars (p ++ bytes)) (three c l h)
        ∙ first_read (224 + c / 4096) (suc (suc zero)) (c / 4096) (next (c / 64) ∷ (next c ∷ bytes))
        (grind arith) (grind arith)
        ∙ last_read _ bytes ∙ ap (λ x. x ∷ chars bytes) same
    go (inr _) (inr _) (inr l) =
        let same : (((c / 262144) * 64 + (next (c / 4096) - 128)) * 64 + (next (c / 64) - 128)) * 64
        + (next c - 128) ≡ c = omega arith in
        ap (λ p. chars (p ++ bytes)) (four c l)
        ∙ first_read (240 + c / 262144) (suc (suc (suc zero))) (c / 262144)
        (next (c / 4096) ∷ (next (c / 64) ∷ (next c ∷ bytes))) (grind arith) (grind arith)
        ∙ last_read _ bytes ∙ ap (λ x. x ∷ chars bytes) same

nothing_read : chars [] ≡ []
unfolding chars
nothing_read = refl

pub decoded : (text : List ℕ) → chars (encode_utf8_all text) ≡ text
decoded [] = nothing_read
decoded (c ∷ cs) = char_read c (encode_utf8_all cs) ∙ ap (λ rest. c ∷ rest) (decoded cs)
