-- What a token may be to a template list, by its class.
use Rattle.std.proofs.Common.{◌≡◌, ℕ, zero, suc, Bool, true, false, not, ◌&&◌, ◌||◌, eqb, eqb-true, List, [], ◌∷◌, refl, ap, ◌∙◌, inl, inr}
use Rattle.std.proofs.lemmas.Bool.{false_from_ne_true}
use Rattle.grammar.specs.Grammar.{is_among}
use Rattle.grammar.specs.Tables.{disjoint}
use Rattle.grammar.proofs.Reading.Sets.{and_true, apart, clash, cond_either}
use Rattle.wgsl_model.specs.Tokens.ClassTable.{SymAndAnd, SymBracketLeft, SymBracketRight, SymGreaterThan, SymGreaterThanEqual, SymShiftRight, SymOrOr, SymParenLeft, SymParenRight, SymShiftRightAssign}
use Rattle.wgsl_model.specs.Tokens.Templates.{is_word, is_opening, is_closing, begins_with_greater, is_short_circuit, goes_on}

-- a test passes on all classes of a list
abbrev pub all_pass : (ℕ → Bool) → List ℕ → Bool
all_pass f [] = true
all_pass f (d ∷ s) = f d && all_pass f s

-- and so on each of them
pub passes_on : (f : ℕ → Bool) (c : ℕ) (s : List ℕ) → all_pass f s ≡ true → is_among c s ≡ true → f c ≡ true
passes_on f c [] e m = absurd cc
passes_on f c (d ∷ s) e m =
    let t = and_true (f d) (all_pass f s) e in
    elim (cond_either (eqb c d) (is_among c s) m) [
      | inl q ↦ ap f (eqb-true c d q) ∙ t.0
      | inr q ↦ passes_on f c s t.1 q
    ]

-- no class is in two lists that have none in common
pub in_both : (c : ℕ) (r s : List ℕ) → disjoint r s ≡ true → is_among c r ≡ true → is_among c s ≡ true → ⊥
in_both c r s e m n = clash _ n (apart c r s e m)

no_word : (c : ℕ) (s : List ℕ) → all_pass (λ d. not (is_word d)) s ≡ true → is_among c s ≡ true → is_word c ≡ true → ⊥
no_word c s e m w =
    let p = passes_on (λ d. not (is_word d)) c s e m in
    let q : not (is_word c) ≡ false = ap not w in clash _ p q

abbrev opening : List ℕ
opening = SymParenLeft ∷ SymBracketLeft ∷ []

abbrev closing : List ℕ
closing = SymParenRight ∷ SymBracketRight ∷ []

abbrev greater : List ℕ
greater = SymGreaterThan ∷ SymGreaterThanEqual ∷ SymShiftRight ∷ SymShiftRightAssign ∷ []

abbrev short_circuit : List ℕ
short_circuit = SymAndAnd ∷ SymOrOr ∷ []

pub opening_word : (c : ℕ) → is_opening c ≡ true → is_word c ≡ true → ⊥
opening_word c o w = no_word c opening refl o w

pub closing_word : (c : ℕ) → is_closing c ≡ true → is_word c ≡ true → ⊥
closing_word c o w = no_word c closing refl o w

pub greater_word : (c : ℕ) → begins_with_greater c ≡ true → is_word c ≡ true → ⊥
greater_word c o w = no_word c greater refl o w

pub short_circuit_word : (c : ℕ) → is_short_circuit c ≡ true → is_word c ≡ true → ⊥
short_circuit_word c o w = no_word c short_circuit refl o w

pub opening_closing : (c : ℕ) → is_opening c ≡ true → is_closing c ≡ true → ⊥
opening_closing c o w = in_both c opening closing refl o w

pub opening_greater : (c : ℕ) → is_opening c ≡ true → begins_with_greater c ≡ true → ⊥
opening_greater c o w = in_both c opening greater refl o w

pub opening_short_circuit : (c : ℕ) → is_opening c ≡ true → is_short_circuit c ≡ true → ⊥
opening_short_circuit c o w = in_both c opening short_circuit refl o w

pub closing_greater : (c : ℕ) → is_closing c ≡ true → begins_with_greater c ≡ true → ⊥
closing_greater c o w = in_both c closing greater refl o w

pub greater_short_circuit : (c : ℕ) → begins_with_greater c ≡ true → is_short_circuit c ≡ true → ⊥
greater_short_circuit c o w = in_both c greater short_circuit refl o w

none_of_two : (a b : Bool) → not (a || b) ≡ true → (a ≡ false) × (b ≡ false)
none_of_two false false h = (refl, refl)
none_of_two a b h = absurd cc

none_of_four : (a b c d : Bool) → not (a || b || c || d) ≡ true → (a ≡ false) × (b ≡ false) × (c ≡ false) × (d ≡ false)
none_of_four false false false false h = (refl, refl, refl, refl)
none_of_four a b c d h = absurd cc

-- what a list goes on after is no bracket
pub no_bracket : (depth c : ℕ) → goes_on depth c ≡ true → (is_opening c ≡ false) × (is_closing c ≡ false)
no_bracket zero c g =
    let t = none_of_four (is_opening c) (is_closing c) (begins_with_greater c) (is_short_circuit c) g in
    (t.0, t.1)
no_bracket (suc depth) c g = none_of_two (is_opening c) (is_closing c) g

-- nor, outside brackets, what ends it or breaks it off
pub no_end : (c : ℕ) → goes_on 0 c ≡ true → (begins_with_greater c ≡ false) × (is_short_circuit c ≡ false)
no_end c g =
    let t = none_of_four (is_opening c) (is_closing c) (begins_with_greater c) (is_short_circuit c) g in
    (t.2, t.3)

-- a list goes on after what is none of these
pub goes_on_zero : (c : ℕ) → is_opening c ≡ false → is_closing c ≡ false
    → begins_with_greater c ≡ false → is_short_circuit c ≡ false → goes_on 0 c ≡ true
goes_on_zero c o l g s = rw (o, l, g, s) refl

pub goes_on_deeper : (depth c : ℕ) → is_opening c ≡ false → is_closing c ≡ false → goes_on (suc depth) c ≡ true
goes_on_deeper depth c o l = rw (o, l) refl

-- and so after words
pub word_goes_on : (depth c : ℕ) → is_word c ≡ true → goes_on depth c ≡ true
word_goes_on zero c w =
    goes_on_zero c (false_from_ne_true _ (λ o. opening_word c o w))
    (false_from_ne_true _ (λ o. closing_word c o w)) (false_from_ne_true _ (λ o. greater_word c o w))
    (false_from_ne_true _ (λ o. short_circuit_word c o w))
word_goes_on (suc depth) c w = goes_on_deeper depth c
    (false_from_ne_true _ (λ o. opening_word c o w)) (false_from_ne_true _ (λ o. closing_word c o w))
