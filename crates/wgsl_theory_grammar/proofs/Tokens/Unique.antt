-- A text begins with one template list at most.
use Rattle.std.proofs.Common.{◌≡◌, ℕ, zero, suc, Bool, true, List, [], ◌∷◌, ◌++◌, drop, length, refl, sym, ap, ap₂, subst, ◌∙◌}
use Rattle.grammar.specs.Tokens.{Token}
use Rattle.wgsl_model.specs.Tokens.ClassTable.{TemplateArgsStart, TemplateArgsEnd}
use Rattle.wgsl_model.specs.Tokens.Kind.{plain}
use Rattle.wgsl_model.specs.Tokens.Raw.{token}
use Rattle.wgsl_model.specs.Tokens.Templates.{is_word, TemplateRelation, NoTemplate, Inside, at_greater, at_opening, at_closing, at_template, at_other, Enclosed, enclosed, TemplateUpTo, Template}
use Rattle.wgsl_theory_grammar.proofs.Tokens.Classes.{word_goes_on}
use Rattle.wgsl_theory_grammar.proofs.Tokens.Inside.{at, After, after_list, after_none, step_at, from_greater, from_opening, from_closing, from_other}

-- a text has one list and one rest
abbrev pub IsUnique : TemplateRelation → Type 0
IsUnique R = (text : List ℕ) (ts us : List Token) (r q : List ℕ) → R text ts r → R text us q → (ts ≡ us) × (r ≡ q)

one_less : (m n : ℕ) → suc m ≡ suc n → m ≡ n
one_less m n e = cc

with_front : (t : Token) (ts us vs : List Token) (e f : List ℕ) → us ≡ t ∷ vs → (ts ≡ vs) × (e ≡ f)
    → (t ∷ ts ≡ us) × (e ≡ f)
with_front t ts us vs e f g h = (ap (λ l. t ∷ l) h.0 ∙ sym g, h.1)

-- after a word with a template list
list_after : (total : ℕ) (R : TemplateRelation) → IsUnique R
    → (word : Bool) (depth : ℕ) (text rest e f : List ℕ) (us vs ts : List Token) → word ≡ true
    → R text us rest
    → ((xs : List Token) → Inside total R depth rest xs f → (vs ≡ xs) × (e ≡ f))
    → After total R word depth text ts f → (us ++ vs ≡ ts) × (e ≡ f)
list_after total R u word depth text rest e f us vs ts w q again (after_list w' us' vs' rest' q' s j) =
    let same = u text us us' rest rest' q q' in
    let inner = again vs' (subst (λ x. Inside total R depth x vs' f) (sym same.1) j) in
    (ap₂ (λ a b. a ++ b) same.0 inner.0 ∙ sym s, inner.1)
list_after total R u word depth text rest e f us vs ts w q again (after_none n j) = absurd (n w us rest q)

-- after any other token
none_after : (total : ℕ) (R : TemplateRelation) (word : Bool) (depth : ℕ) (text e f : List ℕ)
    (vs ts : List Token) → (word ≡ true → NoTemplate R text)
    → ((xs : List Token) → Inside total R depth text xs f → (vs ≡ xs) × (e ≡ f))
    → After total R word depth text ts f → (vs ≡ ts) × (e ≡ f)
none_after total R word depth text e f vs ts n again (after_list w us' vs' rest q s j) = absurd (n w us' rest q)
none_after total R word depth text e f vs ts n again (after_none m j) = again ts j

-- what is inside is one list, where template lists are
pub inside_unique : (total : ℕ) (R : TemplateRelation) → IsUnique R
    → (depth : ℕ) (text : List ℕ) (ts us : List Token) (e f : List ℕ)
    → Inside total R depth text ts e → Inside total R depth text us f → (ts ≡ us) × (e ≡ f)
inside_unique total R u depth text ts us e f (at_greater t e' after kind r g) k =
    let h = from_greater total R kind e after us f g (step_at total R 0 text us f (token kind e after) r k) in
    (sym h.0, sym h.1)
inside_unique total R u depth text ts us e f (at_opening d t from after e' kind vs r g i) k =
    let h = from_opening total R depth kind from after us f g
    (step_at total R depth text us f (token kind from after) r k) in
    with_front (at total kind from after) vs us h.0 e f h.1
    (inside_unique total R u (suc depth) after vs h.0 e f i h.2)
inside_unique total R u depth text ts us e f (at_closing d t from after e' kind vs r g i) k =
    let h = from_closing total R (suc d) kind from after us f g
    (step_at total R (suc d) text us f (token kind from after) r k) in
    let same = one_less d h.0 h.1 in
    with_front (at total kind from after) vs us h.2 e f h.3
    (inside_unique total R u d after vs h.2 e f i (subst (λ x. Inside total R x after h.2 f) (sym same) h.4))
inside_unique total R u depth text ts us e f (at_template d t from after rest e' kind vs ws r w q i) k =
    let h = from_other total R depth kind from after us f (word_goes_on depth kind.class w)
    (step_at total R depth text us f (token kind from after) r k) in
    with_front (at total kind from after) (vs ++ ws) us h.0 e f h.1
    (list_after total R u (is_word kind.class) depth after rest e f vs ws h.0 w q
    (λ xs j. inside_unique total R u depth rest ws xs e f i j) h.2)
inside_unique total R u depth text ts us e f (at_other d t from after e' kind vs r g n i) k =
    let h = from_other total R depth kind from after us f g
    (step_at total R depth text us f (token kind from after) r k) in
    with_front (at total kind from after) vs us h.0 e f h.1 (none_after total R (is_word kind.class)
    depth after e f vs h.0 n (λ xs j. inside_unique total R u depth after vs xs e f i j) h.2)

-- the marks round a list
abbrev pub marked : ℕ → List ℕ → List ℕ → List Token → List ℕ → List Token
marked total from after ts end = at total (plain TemplateArgsStart) from after
    ∷ (ts ++ at total (plain TemplateArgsEnd) end (drop 1 end) ∷ [])

enclosed_unique : (total : ℕ) (R : TemplateRelation) → IsUnique R → IsUnique (Enclosed total R)
enclosed_unique total R u text ts us r q (enclosed t from after end kind xs v e c i d)
    (enclosed t' from' after' end' kind' ys w e' c' j d') =
    let same : token kind from after ≡ token kind' from' after' = sym e ∙ e' in
    let f : from ≡ from' = cc in
    let a : after ≡ after' = cc in
    let h = inside_unique total R u 0 after xs ys end end' i (subst (λ x. Inside total R 0 x ys end') (sym a) j) in
    (rw (f, a, h.0, h.1) refl, ap (λ x. drop 1 x) h.1)

pub up_to_unique : (n total : ℕ) → IsUnique (TemplateUpTo n total)
up_to_unique zero total text ts us r q h k = absurd h
up_to_unique (suc n) total text ts us r q h k = enclosed_unique total (TemplateUpTo n total)
    (up_to_unique n total) text ts us r q h k

pub template_unique : (total : ℕ) → IsUnique (Template total)
template_unique total text ts us r q h k = up_to_unique (length text) total text ts us r q h k
