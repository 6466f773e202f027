-- What is left of a text, by what it begins with, and what a lexer has left.
use Rattle.std.proofs.Common.{◌≡◌, ◌↔◌, ℕ, Bool, true, false, List, [], ◌∷◌, Option, Some, None, Ok, Err, inl, inr, drop, refl, sym, ap, subst, ◌∙◌, arith}
use Rattle.grammar.specs.Tokens.{Token, Fault}
use Rattle.grammar.specs.Endings.{Ending, Ending.carried}
use Rattle.wgsl_model.specs.Tokens.ClassTable.{SymLessThan, TemplateArgsStart, TemplateArgsEnd}
use Rattle.wgsl_model.specs.Tokens.Kind.{Kind, plain, placed}
use Rattle.wgsl_model.specs.Tokens.Raw.{token, raw}
use Rattle.wgsl_model.specs.Tokens.Templates.{is_word}
use Rattle.wgsl_model.specs.Tokens.TokenList.{IsTokenList, place, width}
use Rattle.wgsl_theory_grammar.proofs.Tokens.Lists.{token_list_unique}
use Rattle.wgsl_theory_templates.specs.Attempts.{EndsAt, HasNoEnd}
use Rattle.wgsl_theory_templates.specs.Rest.Left.{IsBeforeEnd, LeftOf, left_end, left_start, left_token}
use Rattle.wgsl_theory_templates.proofs.Swaps.Attempts.{none_begins}
use Rattle.wgsl_theory_templates.proofs.Rest.LeftTokens.{unstream}
use Rattle.wgsl_lexer.specs.declared.lexer.Lexer.{Lexer}
use Rattle.wgsl_lexer.specs.Given.{TokenItem}
use Rattle.wgsl_lexer.specs.TextTokens.{tokens_left, ending_left}
use Rattle.wgsl_lexer.specs.Left.{IsLeft, HasEnded, GivesItem}

-- the same token
same_token : (total : ℕ) (from after : List ℕ) (kind : Kind) (start : ℕ) (same : Kind) (end : ℕ)
    → start ≡ place total from → end ≡ place total after → same ≡ kind
    → placed kind (place total from) (place total after) ≡ placed same start end
same_token total from after kind start same end s d k = cc

-- a token that begins or ends no list
pub token_left : (total : ℕ) (ends : List ℕ) (word : Bool) (text from after : List ℕ) (kind : Kind)
    (start : ℕ) (same : Kind) (end : ℕ) (ts : List Token) (e : Ending)
    → raw text ≡ token kind from after → IsBeforeEnd total ends from
    → (word ≡ true → kind.class ≡ SymLessThan → HasNoEnd total after) → start ≡ place total from
    → end ≡ place total after → same ≡ kind → LeftOf total ends (is_word kind.class) after ts e
    → LeftOf total ends word text (placed same start end ∷ ts) e
token_left total ends word text from after kind start same end ts e r b n s d k h =
    subst (λ (x : Token). LeftOf total ends word text (x ∷ ts) e)
    (same_token total from after kind start same end s d k)
    (left_token ends word text from after kind ts e r b (λ w. none_begins total text from after kind r (n w)) h)

-- the `<` of a list
pub start_left : (total : ℕ) (ends : List ℕ) (word : Bool) (text from after list_end : List ℕ)
    (kind : Kind) (start : ℕ) (end : ℕ) (ts : List Token) (e : Ending)
    → raw text ≡ token kind from after → IsBeforeEnd total ends from
    → word ≡ true → kind.class ≡ SymLessThan → EndsAt total after list_end → start ≡ place total from
    → end ≡ place total after → LeftOf total (place total list_end ∷ ends) false after ts e
    → LeftOf total ends word text (placed (plain TemplateArgsStart) start end ∷ ts) e
start_left total ends word text from after list_end kind start end ts e r b w c k s d h =
    subst (λ x. LeftOf total ends x text (placed (plain TemplateArgsStart) start end ∷ ts) e) (sym w)
    (subst (λ (x : Token). LeftOf total ends true text (x ∷ ts) e)
    (same_token total from after (plain TemplateArgsStart) start (plain TemplateArgsStart) end s d refl)
    (left_start ends text from after list_end kind ts e r b c k h))

-- the `>` of a list
pub end_left : (total : ℕ) (ends outer : List ℕ) (word : Bool) (text from after rest : List ℕ)
    (kind : Kind) (start : ℕ) (end : ℕ) (ts : List Token) (e : Ending)
    → raw text ≡ token kind from after → ends ≡ start ∷ outer
    → rest ≡ drop 1 from → start ≡ place total from → end ≡ place total rest
    → LeftOf total outer false rest ts e
    → LeftOf total ends word text (placed (plain TemplateArgsEnd) start end ∷ ts) e
end_left total ends outer word text from after rest kind start end ts e r o f s d h =
    let same : place total from ∷ outer ≡ ends = ap (λ x. x ∷ outer) (sym s) ∙ sym o in
    subst (λ x. LeftOf total x word text (placed (plain TemplateArgsEnd) start end ∷ ts) e) same
    (subst (λ (x : Token). LeftOf total (place total from ∷ outer) word text (x ∷ ts) e) (same_token total from
    (drop 1 from) (plain TemplateArgsEnd) start (plain TemplateArgsEnd) end s (d ∙ ap (place total) f) refl)
    (left_end outer word text from after kind ts e r (subst (λ x. LeftOf total outer false x ts e) f h)))

-- where the innermost list does not end
pub before_end_of : (total : ℕ) (ends from : List ℕ) (start : ℕ) → start ≡ place total from
    → ((outer : List ℕ) → ends ≡ start ∷ outer → ⊥) → IsBeforeEnd total ends from
before_end_of total [] from start s n = tt
before_end_of total (end ∷ ends) from start s n = λ same. n ends (ap (λ x. x ∷ ends) (sym (s ∙ same)))

-- tokens that are left of a whole source are its token list
pub whole_left : (source : List ℕ) (total : ℕ) (ends : List ℕ) → total ≡ width source → ends ≡ []
    → (ts : List Token) (e : Ending) → LeftOf total ends false source ts e → IsTokenList source ts e
whole_left source total ends t n ts e = rw (t, n) (unstream (width source) source ts e (omega arith))

-- ---- what a lexer has left
-- of a source, its token list alone
pub source_left : (source : List ℕ) (l : Lexer)
    → IsTokenList source (tokens_left l.tokens) (ending_left l.tokens)
    → (ts : List Token) (e : Ending) → IsTokenList source ts e ↔ IsLeft l ts e
source_left source l whole ts e = (
  (λ h. token_list_unique source ts (tokens_left l.tokens) e (ending_left l.tokens) h whole),
  (λ h. subst (λ f. IsTokenList source ts f) (sym h.1)
      (subst (λ (us : List Token). IsTokenList source us (ending_left l.tokens)) (sym h.0) whole)),
)

-- where nothing is left, no token is
no_token : (l : Lexer) (t : Token) (ts : List Token) (e : Ending) → HasEnded l → IsLeft l (t ∷ ts) e → ⊥
no_token l t ts e h k = let same = h.0 ∙ sym k.0 in cc

-- nor a fault
no_fault : (l : Lexer) (x : Fault) → HasEnded l → IsLeft l [] (carried x) → ⊥
no_fault l x h k = let same = h.1 ∙ sym k.1 in cc

-- where nothing is left, a call of `next` gives nothing and leaves nothing
pub ended_gives : (old : Lexer) (item : Option TokenItem) (new : Lexer) → HasEnded old
    → GivesItem old item new → (item ≡ None) × HasEnded new
ended_gives old None new h g = (refl, g.1)
ended_gives old (Some (Ok given)) new h g =
    absurd (no_token old _ _ _ h (g (tokens_left new.tokens) (ending_left new.tokens) (refl, refl)))
ended_gives old (Some (Err x)) new h g = elim g.0 [
  | inl fault ↦ absurd (no_fault old _ h fault)
  | inr refused ↦ absurd (no_token old refused.1.0 refused.1.1 refused.1.2 h refused.1.3)
]
