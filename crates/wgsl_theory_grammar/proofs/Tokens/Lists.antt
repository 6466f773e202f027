-- Every text has one token list.
use Rattle.std.proofs.Common.{◌≡◌, ◌⊎◌, ℕ, zero, suc, ◌<◌, Bool, true, false, refl, sym, ap, ap₂, subst, ◌∙◌, List, [], ◌∷◌, ◌++◌, length, inl, inr, arith}
use Rattle.grammar.specs.Tokens.{Token}
use Rattle.grammar.specs.Endings.{Ending, Ending.finished, Ending.carried}
use Rattle.grammar.proofs.Reading.Sets.{cases, clash}
use Rattle.wgsl_model.specs.Tokens.Kind.{Kind}
use Rattle.wgsl_model.specs.Tokens.Raw.{Raw, none_left, invalid, token, raw}
use Rattle.wgsl_model.specs.Faults.Kinds.{invalid_token}
use Rattle.wgsl_model.specs.Tokens.Templates.{is_word, NoTemplate, Template}
use Rattle.wgsl_model.specs.Tokens.TokenList.{TokensOf, at_end, at_fault, before_template, before_more, IsTokenList, place, width}
use Rattle.wgsl_theory_grammar.proofs.Tokens.Cuts.{ends_length, shorter}
use Rattle.wgsl_theory_grammar.proofs.Tokens.Bounds.{template_leaves}
use Rattle.wgsl_theory_grammar.proofs.Tokens.Inside.{at}
use Rattle.wgsl_theory_grammar.proofs.Tokens.Unique.{template_unique}
use Rattle.wgsl_theory_grammar.proofs.Tokens.Decided.{Decided, Begins, template_decided}

-- some token list, of a text that ends a source of a number of bytes
abbrev pub HasTokens : ℕ → List ℕ → Type 0
HasTokens total text = (ts : List Token) × (e : Ending) × TokensOf total text ts e

-- the fault of an invalid token
abbrev pub fault_at : ℕ → List ℕ → List ℕ → Ending
fault_at total from after = carried (invalid_token (record { start = place total from; end = place total after }))

-- after a token, by whether it is a word and whether a template list follows
tokens_after : (total : ℕ) (text from after : List ℕ) (kind : Kind)
    → raw text ≡ token kind from after → (is_word kind.class ≡ true) ⊎ (is_word kind.class ≡ false)
    → Decided (Begins (Template total) after)
    → ((rest : List ℕ) → length rest < length text → HasTokens total rest) → HasTokens total text
tokens_after total text from after kind e (inl w) (inl (us, rest, q)) more =
    let less = shorter text from after kind e in
    let m = more rest (omega (arith, less, ends_length after rest (template_leaves total after us rest q))) in
    (at total kind from after ∷ (us ++ m.0), m.1, before_template text from after rest kind us m.0 m.1 e w q m.2)
tokens_after total text from after kind e (inl w) (inr none) more =
    let m = more after (shorter text from after kind e) in (
      at total kind from after ∷ m.0,
      m.1,
      before_more text from after kind m.0 m.1 e (λ _ us rest q. none (us, rest, q)) m.2,
    )
tokens_after total text from after kind e (inr w) d more =
    let m = more after (shorter text from after kind e) in
    (at total kind from after ∷ m.0, m.1, before_more text from after kind m.0 m.1 e (λ w'. clash _ w' w) m.2)

tokens_from : (total : ℕ) (text : List ℕ) (r : Raw) → raw text ≡ r
    → ((rest : List ℕ) → length rest < length text → HasTokens total rest) → HasTokens total text
tokens_from total text none_left e more = ([], finished, at_end text e)
tokens_from total text (invalid from after) e more = ([], fault_at total from after, at_fault text from after e)
tokens_from total text (token kind from after) e more = tokens_after total text from after kind e
    (cases (is_word kind.class)) (template_decided total after) more

-- a text of fewer than n characters has one
tokens_below : (n total : ℕ) (text : List ℕ) → length text < n → HasTokens total text
tokens_below zero total text h = absurd (omega arith)
tokens_below (suc n) total text h = tokens_from total text (raw text) refl
    (λ rest lt. tokens_below n total rest (omega arith))

-- every text has a token list, wherever it is
pub tokens_exist : (total : ℕ) (text : List ℕ) → HasTokens total text
tokens_exist total text = tokens_below (suc (length text)) total text (omega arith)

-- every source has a token list
pub token_list_exists : (source : List ℕ) → (ts : List Token) × (e : Ending) × IsTokenList source ts e
token_list_exists source = tokens_exist (width source) source

-- after a token, which may be a word: a template list, or none
pub data Followed (total : ℕ) (word : Bool) (text : List ℕ) (ts : List Token) (e : Ending) : Type 0 where
  followed_list : word ≡ true → (us vs : List Token) (rest : List ℕ) → Template total text us rest
      → ts ≡ us ++ vs → TokensOf total rest vs e → Followed total word text ts e
  followed_none : (word ≡ true → NoTemplate (Template total) text) → TokensOf total text ts e
      → Followed total word text ts e

-- what a token list says of what the text begins with
abbrev pub Says : ℕ → List Token → Ending → Raw → Type 0
Says total ts e none_left = (ts ≡ []) × (e ≡ finished)
Says total ts e (invalid from after) = (ts ≡ []) × (e ≡ fault_at total from after)
Says total ts e (token kind from after) = (us : List Token) × (ts ≡ at total kind from after ∷ us)
    × Followed total (is_word kind.class) after us e

-- a token list begins with what the text begins with
says_raw : (total : ℕ) (text : List ℕ) (ts : List Token) (e : Ending) → TokensOf total text ts e
    → Says total ts e (raw text)
says_raw total text ts e (at_end s r) = subst (Says total [] finished) (sym r) (refl, refl)
says_raw total text ts e (at_fault s from after r) =
    subst (Says total [] (fault_at total from after)) (sym r) (refl, refl)
says_raw total text ts e (before_template s from after rest kind us vs f r w q h) =
    subst (Says total (at total kind from after ∷ (us ++ vs)) e) (sym r)
    (us ++ vs, refl, followed_list w us vs rest q refl h)
says_raw total text ts e (before_more s from after kind us f r n h) =
    subst (Says total (at total kind from after ∷ us) e) (sym r) (us, refl, followed_none n h)

-- the token list of a text whose front is known
pub says : (total : ℕ) (text : List ℕ) (ts : List Token) (e : Ending) (r : Raw) → raw text ≡ r
    → TokensOf total text ts e → Says total ts e r
says total text ts e r is h = subst (Says total ts e) is (says_raw total text ts e h)

-- after a word with a template list
list_follows : (total : ℕ) (word : Bool) (text rest : List ℕ) (us vs ts : List Token) (e f : Ending)
    → word ≡ true → Template total text us rest
    → ((xs : List Token) → TokensOf total rest xs f → (vs ≡ xs) × (e ≡ f))
    → Followed total word text ts f → (us ++ vs ≡ ts) × (e ≡ f)
list_follows total word text rest us vs ts e f w q again (followed_list w' us' vs' rest' q' s h) =
    let same = template_unique total text us us' rest rest' q q' in
    let inner = again vs' (subst (λ x. TokensOf total x vs' f) (sym same.1) h) in
    (ap₂ (λ a b. a ++ b) same.0 inner.0 ∙ sym s, inner.1)
list_follows total word text rest us vs ts e f w q again (followed_none n h) = absurd (n w us rest q)

-- after any other token
none_follows : (total : ℕ) (word : Bool) (text : List ℕ) (vs ts : List Token) (e f : Ending)
    → (word ≡ true → NoTemplate (Template total) text)
    → ((xs : List Token) → TokensOf total text xs f → (vs ≡ xs) × (e ≡ f))
    → Followed total word text ts f → (vs ≡ ts) × (e ≡ f)
none_follows total word text vs ts e f n again (followed_list w us vs' rest q s h) = absurd (n w us rest q)
none_follows total word text vs ts e f n again (followed_none m h) = again ts h

-- a text has one token list
pub tokens_unique : (total : ℕ) (text : List ℕ) (ts us : List Token) (e f : Ending)
    → TokensOf total text ts e → TokensOf total text us f → (ts ≡ us) × (e ≡ f)
tokens_unique total text ts us e f (at_end s r) k = let b = says total text us f none_left r k in (sym b.0, sym b.1)
tokens_unique total text ts us e f (at_fault s from after r) k =
    let b = says total text us f (invalid from after) r k in (sym b.0, sym b.1)
tokens_unique total text ts us e f (before_template s from after rest kind vs ws e' r w q h) k =
    let b = says total text us f (token kind from after) r k in
    let t = list_follows total (is_word kind.class) after rest vs ws b.0 e f w q
    (λ xs j. tokens_unique total rest ws xs e f h j) b.2 in
    (ap (λ l. at total kind from after ∷ l) t.0 ∙ sym b.1, t.1)
tokens_unique total text ts us e f (before_more s from after kind vs e' r n h) k =
    let b = says total text us f (token kind from after) r k in
    let t = none_follows total (is_word kind.class) after vs b.0 e f n
    (λ xs j. tokens_unique total after vs xs e f h j) b.2 in
    (ap (λ l. at total kind from after ∷ l) t.0 ∙ sym b.1, t.1)

-- a source has one token list
pub token_list_unique : (source : List ℕ) (ts us : List Token) (e f : Ending)
    → IsTokenList source ts e → IsTokenList source us f → (ts ≡ us) × (e ≡ f)
token_list_unique source ts us e f h k = tokens_unique (width source) source ts us e f h k
