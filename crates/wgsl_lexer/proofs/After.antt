-- What is after what is next in a text.
use Rattle.std.proofs.Common.{◌≡◌, ℕ, List, chars, reverse, subst, sym}
use Rattle.grammar.specs.Tokens.{Token}
use Rattle.grammar.specs.Endings.{Ending}
use Rattle.wgsl_model.specs.Tokens.TokenList.{IsTokenList}
use Rattle.wgsl_lexer.specs.declared.text_tokens.TextTokens.{TextTokens}
use Rattle.wgsl_lexer.specs.declared.text_tokens.Next.{Next}
use Rattle.wgsl_lexer.specs.declared.text_tokens.Next.TheVariants as next
use Rattle.wgsl_theory_templates.proofs.Rest.LeftTokens.{left_unique}
use Rattle.wgsl_lexer.specs.TextTokens.{AreAfter, has_left, from_next, end_from_next, IsToken}

-- these tokens are the ones that are after it
pub after_is : (t : TextTokens) (ts : List Token) (e : Ending) → AreAfter t ts e
    → (ts ≡ (has_left t).0) × (e ≡ (has_left t).1)
after_is t ts e h = left_unique t.total (reverse t.ends.items) t.after_word (chars t.rest.now) ts
    (has_left t).0 e (has_left t).1 h (has_left t).2

pub found_after : (old new : TextTokens) (n : Next)
    → ((ts : List Token) (e : Ending) → AreAfter new ts e → AreAfter old (from_next n ts) e) → IsToken n
    → (from_next n (has_left new).0 ≡ (has_left old).0) × (end_from_next n (has_left new).1 ≡ (has_left old).1)
found_after old new (next.Token lexeme span) h is = after_is old _ _
    (h (has_left new).0 (has_left new).1 (has_left new).2)
found_after old new (next.Invalid span) h is = absurd is
found_after old new next.NoneLeft h is = absurd is

-- what is after it is the token list of a source, where any tokens that are after it are
pub whole_after : (source : List ℕ) (t : TextTokens) (ts : List Token) (e : Ending)
    → ((us : List Token) (f : Ending) → AreAfter t us f → IsTokenList source us f)
    → ts ≡ (has_left t).0 → e ≡ (has_left t).1 → IsTokenList source ts e
whole_after source t ts e whole same ending =
    subst (λ f. IsTokenList source ts f) (sym ending)
    (subst (λ (us : List Token). IsTokenList source us (has_left t).1) (sym same)
    (whole (has_left t).0 (has_left t).1 (has_left t).2))
