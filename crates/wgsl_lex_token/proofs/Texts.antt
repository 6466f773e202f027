-- Tokens that hold nothing: which they are, and their texts.
use Rattle.std.proofs.Common.{◌≡◌, ℕ, ℤ, refl, String, Global}
use Rattle.wgsl_model.specs.Tokens.Texts.{kind_text}
use Rattle.wgsl_lex_token.specs.declared.token_table.Token.{Token}
use Rattle.wgsl_lex_token.specs.declared.token_table.Token.TheVariants.{Ident, ReservedWord, AbstractInt, I32, U32, AbstractFloat, F32, F16}
use Rattle.wgsl_lex_token.specs.Groups.{word_of_class}
use Rattle.wgsl_lex_token.specs.View.{kind_view, view_of_class}

-- a token that is not one of those that hold something is the token of its class, and is named by the
-- words of it
pub plain : (t : Token) → ((x : String Global) → t ≡ Ident x → ⊥)
    → ((x : String Global) → t ≡ ReservedWord x → ⊥) → ((x : ℤ) → t ≡ AbstractInt x → ⊥)
    → ((x : ℤ) → t ≡ I32 x → ⊥) → ((x : ℕ) → t ≡ U32 x → ⊥)
    → ((x : String Global) → t ≡ AbstractFloat x → ⊥) → ((x : String Global) → t ≡ F32 x → ⊥)
    → ((x : String Global) → t ≡ F16 x → ⊥)
    → (view_of_class (kind_view t).class ≡ kind_view t)
    × (word_of_class (kind_view t).class ≡ kind_text (kind_view t).class (kind_view t).payload)
plain (Ident x) a b c d e f g h = absurd (a x refl)
plain (ReservedWord x) a b c d e f g h = absurd (b x refl)
plain (AbstractInt x) a b c d e f g h = absurd (c x refl)
plain (I32 x) a b c d e f g h = absurd (d x refl)
plain (U32 x) a b c d e f g h = absurd (e x refl)
plain (AbstractFloat x) a b c d e f g h = absurd (f x refl)
plain (F32 x) a b c d e f g h = absurd (g x refl)
plain (F16 x) a b c d e f g h = absurd (h x refl)
plain _ a b c d e f g h = (refl, refl)
