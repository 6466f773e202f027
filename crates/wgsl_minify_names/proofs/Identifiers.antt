-- Identifiers are the texts that are scanned whole as identifiers.
use Rattle.std.proofs.Common.{◌≡◌, ◌≢◌, ℕ, zero, suc, Bool, true, false, List, [], ◌∷◌, length, refl, sym, ap, subst, ◌∙◌}
use Rattle.std.specs.Prelude.{chars, ◌==◌, ◌&&◌}
use Rattle.std.proofs.lemmas.Bool.{true≢false}
use Rattle.std.proofs.lemmas.Bool.Decides.{Decides-eqb}
use Rattle.std.proofs.lemmas.Str.{chars-nil}
use Rattle.grammar.specs.Tokens.{Token}
use Rattle.grammar.specs.Endings.{Ending, Ending.finished}
use Rattle.wgsl_model.specs.Tokens.ClassTable.{Ident}
use Rattle.wgsl_model.specs.Tokens.Kind.{Kind, named, placed}
use Rattle.wgsl_model.specs.Tokens.Raw.{none_left, token, raw}
use Rattle.wgsl_model.specs.Tokens.Trivia.{after_trivia}
use Rattle.wgsl_model.specs.Tokens.Templates.{TemplateRelation, Enclosed, enclosed, TemplateUpTo}
use Rattle.wgsl_model.specs.Tokens.TokenList.{TokensOf, at_end, at_fault, before_template, before_more, place, width}
use Rattle.wgsl_model_names.specs.RenamedTokens.{begins_with_underscores, IsIdentifier}
use Rattle.wgsl_model_minify.specs.Chosen.{is_letter, AreLetters}
use Rattle.wgsl_minify_names.specs.Short.{IsWhole}

-- letters are no underscores
no_underscores : (x : List ℕ) → AreLetters x → begins_with_underscores x ≡ false
no_underscores [] letters = refl
no_underscores (b ∷ []) letters = refl
no_underscores (b ∷ (c ∷ x)) letters = go (b == 95) refl where
  go : (t : Bool) → (b == 95) ≡ t → (t && c == 95) ≡ false
  go false e = refl
  go true e = absurd (true≢false (sym (subst (λ n. is_letter n ≡ true) ((Decides-eqb b 95).0 e) letters.0)))

-- ---- template lists
-- a template list begins with a token
enclosed_scanned : (total : ℕ) (R : TemplateRelation) (text : List ℕ) (us : List Token) (rest : List ℕ)
    → Enclosed total R text us rest → raw text ≡ none_left → ⊥
enclosed_scanned total R _ _ _ (enclosed text from after end kind us v r c h d) none = absurd (cc)

template_scanned : (n total : ℕ) (text : List ℕ) (us : List Token) (rest : List ℕ)
    → TemplateUpTo n total text us rest → raw text ≡ none_left → ⊥
template_scanned zero total text us rest h none = h
template_scanned (suc n) total text us rest h none = enclosed_scanned total (TemplateUpTo n total) text us rest h none

-- and has one
enclosed_tokens : (total : ℕ) (R : TemplateRelation) (text : List ℕ) (us : List Token) (rest : List ℕ)
    → Enclosed total R text us rest → us ≡ [] → ⊥
enclosed_tokens total R _ _ _ (enclosed text from after end kind us v r c h d) none = absurd (cc)

template_tokens : (n total : ℕ) (text : List ℕ) (us : List Token) (rest : List ℕ)
    → TemplateUpTo n total text us rest → us ≡ [] → ⊥
template_tokens zero total text us rest h none = h
template_tokens (suc n) total text us rest h none = enclosed_tokens total (TemplateUpTo n total) text us rest h none

-- ---- a text with one token
whole_identifier : (x : List ℕ) → IsWhole x → (begins_with_underscores x ≡ false) → IsIdentifier x
whole_identifier x (from, after, e, none) under =
    let total = width (chars x) in (
      placed (named Ident x) (place total from) (place total after),
      before_more (chars x) from after (named Ident x) [] finished e
          (λ w us rest h. template_scanned (length after) total after us rest h none) (at_end after none),
      refl,
      refl,
      under,
    )

pub letters_identifier : (x : List ℕ) → AreLetters x → IsWhole x → IsIdentifier x
letters_identifier x letters whole = whole_identifier x whole (no_underscores x letters)

-- no tokens are left
ended : (total : ℕ) (text : List ℕ) (ts : List Token) (e : Ending) → TokensOf total text ts e → ts ≡ [] → e ≡ finished
    → raw text ≡ none_left
ended total text _ _ (at_end _ r) none end = r
ended total text _ _ (at_fault _ from after r) none end = absurd (cc)
ended total text _ _ (before_template _ from after rest kind us ts e r w t more) none end = absurd (cc)
ended total text _ _ (before_more _ from after kind ts e r w more) none end = absurd (cc)

abbrev kind_of : Token → Kind
kind_of t = record { class = t.class; payload = t.payload }

abbrev IsOne : List ℕ → Token → Type 0
IsOne text t = (from after : List ℕ) × (raw text ≡ token (kind_of t) from after) × (raw after ≡ none_left)

one_token : (total : ℕ) (text : List ℕ) (ts : List Token) (e : Ending) → TokensOf total text ts e → (t : Token)
    → ts ≡ t ∷ [] → e ≡ finished → IsOne text t
one_token total text _ _ (at_end _ r) t one end = absurd (cc)
one_token total text _ _ (at_fault _ from after r) t one end = absurd (cc)
one_token total text _ _ (before_template _ from after rest kind [] ts e r w h more) t one end =
    absurd (template_tokens (length after) total after [] rest h refl)
one_token total text _ _ (before_template _ from after rest kind (u ∷ us) ts e r w h more) t one end = absurd (cc)
one_token total text _ _ (before_more _ from after kind ts e r w more) t one end =
    let none : ts ≡ [] = cc in
    let same : placed kind (place total from) (place total after) ≡ t = cc in
    (from, after, r ∙ ap (λ (s : Token). token (kind_of s) from after) same, ended total after ts e more none end)

pub identifier_whole : (x : List ℕ) → IsIdentifier x → IsWhole x
identifier_whole x (t, tokens, class, payload, under) =
    let one = one_token (width (chars x)) (chars x) (t ∷ []) finished tokens t refl refl in
    (one.0, one.1, one.2 ∙ (λ i. token (record { class = class i; payload = payload i }) one.0 one.1), one.3)

-- ---- an empty text
raw_nothing : raw [] ≡ none_left
unfolding after_trivia
raw_nothing = refl

pub whole_not_empty : (x : List ℕ) → IsWhole x → x ≢ []
whole_not_empty x (from, after, e, none) empty =
    let r : raw (chars x) ≡ none_left = ap (λ y. raw (chars y)) empty ∙ ap raw chars-nil ∙ raw_nothing in
    absurd (cc)
