-- The byte order mark of a source, by its bytes.
use Rattle.std.proofs.Common.{◌≡◌, ℕ, ◌-◌, ◌==◌, Bool, true, false, refl, sym, ap, ◌∙◌, List, [], ◌∷◌, ◌++◌, length, None, arith}
use Rattle.std.proofs.lemmas.Bool.{eqb-true}
use Rattle.std.proofs.lemmas.Str.{chars_past_char, encodes-chars}
use Rattle.std.specs.Str.{chars, encode_utf8_all, IsUtf8}
use Rattle.std.specs.Char.{encode_utf8}
use Rattle.std.specs.Str.Pattern.{FindsCharPrefix, StripsPrefix}
use Rattle.wgsl_model.specs.Tokens.TokenList.{width}
use Rattle.wgsl_model_tidy.specs.Formatted.{mark_of, unmarked}

-- a source and what is after its mark
pub record IsSplit (source text : List ℕ) (n : ℕ) : Type 0 where
  pub rest : chars text ≡ unmarked (chars source)
  pub bytes : n ≡ width (mark_of (chars source))

-- it begins with the mark
pub with_mark : (source text : List ℕ) → IsUtf8 source → StripsPrefix (FindsCharPrefix 0xFEFF) source text
    → IsSplit source text (length source - length text)
unfolding encode_utf8
with_mark source text utf8 strips =
    let at = strips.1 in
    let split : source ≡ encode_utf8 0xFEFF ++ text = at.split ∙ ap (λ xs. encode_utf8 0xFEFF ++ xs) (sym strips.2) in
    let all : chars source ≡ 0xFEFF ∷ chars text = chars_past_char source text 0xFEFF utf8 split in
    let mark : width (mark_of (chars source)) ≡ 3 = ap (λ xs. width (mark_of xs)) all in
    record { rest = ap unmarked (sym all); bytes = omega (arith, mark, ap length split) }

no_mark_in : (source cs : List ℕ) → encode_utf8_all cs ≡ source
    → ((rest : List ℕ) → source ≡ encode_utf8 0xFEFF ++ rest → ⊥) → (mark_of cs ≡ []) × (unmarked cs ≡ cs)
no_mark_in source [] e none = (refl, refl)
no_mark_in source (c ∷ cs) e none = go (c == 0xFEFF) refl
  where
    go : (b : Bool) → (c == 0xFEFF) ≡ b → (mark_of (c ∷ cs) ≡ []) × (unmarked (c ∷ cs) ≡ c ∷ cs)
    go true t = absurd (none (encode_utf8_all cs)
        (sym e ∙ ap (λ d. encode_utf8 d ++ encode_utf8_all cs) (eqb-true c 0xFEFF t)))
    go false t = (rw t refl, rw t refl)

-- it does not
pub without_mark : (source : List ℕ) → IsUtf8 source → FindsCharPrefix 0xFEFF source None → IsSplit source source 0
without_mark source utf8 none =
    let both = no_mark_in source (chars source) (encodes-chars source utf8) none in
    record { rest = sym both.1; bytes = ap width (sym both.0) }
