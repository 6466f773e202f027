-- What is written of the characters of a text.
use Rattle.std.proofs.Common.{ℕ, ◌+◌, ◌/◌, ◌%◌, ◌<◌, ◌≤◌, ◌≡◌, ◌≢◌, refl, sym, ap, ◌∙◌, true, false, true≢false, List, [], ◌∷◌, ◌++◌, ◌&&◌, length, codes, append-nil, arith}
use lib.Dec.{ltb}
use mathlib.Core.Bool.{cond}
use Rattle.std.specs.Fmt.{digit_glyph}
use Rattle.std.specs.Char.{encode_utf8}
use Rattle.std.specs.List.{list_all}
use Rattle.std.proofs.lemmas.Fmt.{hex_byte}
use Rattle.std.proofs.lemmas.Str.{encode_ascii}
use Rattle.std.proofs.lemmas.Grind.{flat_map-append, common_steps}
use Rattle.wgsl_model_packed.specs.Json.{escaped, escaped_byte}
use Rattle.wgsl_name_map.specs.Texts.{control, is_plain}

-- a byte that is written as it is
plain_byte : (b : ℕ) → 32 ≤ b → b ≢ 34 → b ≢ 92 → escaped_byte b ≡ b ∷ []
plain_byte b large quote slash = grind (arith, common_steps)

-- a control character
control_byte : (b : ℕ) → b < 32 →
    escaped_byte b ≡ codes "\\u00" ++ (digit_glyph false (b / 16) ∷ digit_glyph false (b % 16) ∷ [])
control_byte b small = grind (arith, common_steps)

kept : (b : ℕ) (bs : List ℕ) → escaped_byte b ≡ b ∷ [] → escaped bs ≡ bs → escaped (b ∷ bs) ≡ b ∷ bs
kept b bs one rest = ap (λ u. u ++ escaped bs) one ∙ ap (λ u. b ∷ u) rest

high : (n : ℕ) → 128 ≤ n → escaped_byte n ≡ n ∷ []
high n large = plain_byte n (omega (arith, large)) (λ e. absurd (omega (arith, large, e)))
    (λ e. absurd (omega (arith, large, e)))

plain_kept : (b : ℕ) → is_plain b ≡ true → escaped_byte b ≡ b ∷ []
plain_kept b plain = grind (arith, common_steps)

-- a text of bytes that are written as they are
pub plain_text : (bs : List ℕ) → list_all is_plain bs ≡ true → escaped bs ≡ bs
plain_text [] every = refl
plain_text (b ∷ bs) every = elim (is_plain b) as (λ t. is_plain b ≡ t → (t && list_all is_plain bs) ≡ true →
    escaped (b ∷ bs) ≡ b ∷ bs) [
      | true ↦ λ plain all. kept b bs (plain_kept b plain) (plain_text bs all)
      | false ↦ λ _ none. absurd (true≢false (sym none))
    ] refl every

-- a byte that is not the first of a character
following : (n : ℕ) (bs : List ℕ) → escaped bs ≡ bs →
    escaped ((128 + n % 64) ∷ bs) ≡ (128 + n % 64) ∷ bs
following n bs rest = kept (128 + n % 64) bs (high (128 + n % 64) (omega arith)) rest

-- the bytes of a character past the control characters, the quotation mark and the `\`
pub unchanged : (c : ℕ) → 32 ≤ c → c ≢ 34 → c ≢ 92 → escaped (encode_utf8 c) ≡ encode_utf8 c
unfolding encode_utf8
unchanged c large quote slash = elim (ltb c 128) as (λ t. escaped (cond t one (cond
    (ltb c 2048) two (cond (ltb c 65536) three four)))
    ≡ cond t one (cond (ltb c 2048) two (cond (ltb c 65536) three four))) [
      | true ↦ kept c [] (plain_byte c large quote slash) refl
      | false ↦ elim (ltb c 2048) as (λ t. escaped (cond t two (cond (ltb c 65536) three four))
          ≡ cond t two (cond (ltb c 65536) three four)) [
            | true ↦ kept (192 + c / 64) _ (high (192 + c / 64) (omega arith)) (following c [] refl)
            | false ↦ elim (ltb c 65536) as (λ t. escaped (cond t three four) ≡ cond t three four) [
              | true ↦ kept (224 + c / 4096) _ (high (224 + c / 4096) (omega arith)) (following (c / 64) _
                  (following c [] refl))
              | false ↦ kept (240 + c / 262144) _ (high (240 + c / 262144) (omega arith)) (following
                  (c / 4096) _ (following (c / 64) _ (following c [] refl)))
            ]
          ]
    ] where
      one : List ℕ
      one = c ∷ []

      two : List ℕ
      two = (192 + c / 64) ∷ (128 + c % 64) ∷ []

      three : List ℕ
      three = (224 + c / 4096) ∷ (128 + c / 64 % 64) ∷ (128 + c % 64) ∷ []

      four : List ℕ
      four = (240 + c / 262144) ∷ (128 + c / 4096 % 64) ∷ (128 + c / 64 % 64) ∷ (128 + c % 64) ∷ []

pub controlled : (c : ℕ) → c < 32 → escaped (encode_utf8 c) ≡ control c
controlled c small =
    ap escaped (encode_ascii c (omega (arith, small)))
    ∙ append-nil (escaped_byte c)
    ∙ control_byte c small
    ∙ ap (λ u. codes "\\u00" ++ u) (sym (hex_byte false c (omega (arith, small))))

-- one character more
pub further : (done rest next bs : List ℕ) → rest ≡ bs ++ next →
    (done ++ escaped bs) ++ escaped next ≡ done ++ escaped rest
further done rest next bs e = grind (arith, common_steps, flat_map-append)

-- the end of the text
pub at_end : (rest done text : List ℕ) → length rest ≡ 0 →
    done ++ escaped rest ≡ codes "\"" ++ escaped text →
    done ++ codes "\"" ≡ codes "\"" ++ escaped text ++ codes "\""
at_end [] done text e same = ap (λ u. u ++ codes "\"") (sym (append-nil done) ∙ same)
at_end (x ∷ rest) done text e same = absurd (omega (arith, e))
