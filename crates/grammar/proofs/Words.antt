-- A sentence of each symbol, by a height of the symbols.
use Rattle.std.proofs.Common.{◌≡◌, ℕ, zero, suc, ◌<◌, Bool, true, false, ◌&&◌, ◌||◌, ltb, List, [], ◌∷◌, inl, inr, refl, arith, ltb-true}
use Rattle.grammar.specs.Tokens.{Token, Payload.nothing, span_between}
use Rattle.grammar.specs.Grammar.{Grammar, Grammar.empty, Grammar.token, Grammar.sequence, Grammar.choice, Grammar.mapped, Grammar.node, Grammar.checked, Grammar.symbol, Grammar.left_chain, Chain.base, Mode.unchecked, is_among, Means, Part}
use Rattle.grammar.proofs.Reading.Sets.{and_true, either}
use Rattle.grammar.proofs.Reading.Depth.{roll}
use Rattle.grammar.proofs.Reading.Viable.{HasSentences}

-- a right side has a part, where each symbol below a height has one
abbrev pub builds : {N : Type 0} {Value : N → Type 0} (height : N → ℕ) (h : ℕ) {A : Type 0} → Grammar N Value A → Bool
builds height h (empty a) = true
builds height h (token []) = false
builds height h (token (c ∷ s)) = is_among c (c ∷ s)
builds height h (sequence g i) = builds height h g && builds height h i
builds height h (choice g i) = builds height h g || builds height h i
builds height h (mapped f g) = builds height h g
builds height h (node f g) = builds height h g
builds height h (checked f g) = builds height h g
builds height h (symbol n) = ltb (height n) h
builds height h (left_chain f g i) = builds height h g

-- what is before a list
abbrev Before : {A : Type 0} → (A → List Token → List Token → Type 0) → List Token → Type 0
Before {A} P ys = (xs : List Token) × (v : A) × P v xs ys

build : {N : Type 0} {Value : N → Type 0} (D : (n : N) → Value n → List Token → List Token → Type 0)
    (height : N → ℕ) (h : ℕ) → ((n : N) → height n < h → (ys : List Token) → Before (D n) ys)
    → {A : Type 0} (g : Grammar N Value A) → builds height h g ≡ true → (ys : List Token)
    → Before (Means unchecked D g) ys
build D height h W (empty a) e ys = (ys, a, (refl, refl))
build D height h W (token []) e ys = absurd cc
build D height h W (token (c ∷ s)) e ys =
    let t : Token = record { class = c; payload = nothing; start = 0; end = 0 } in (t ∷ ys, t, (e, refl))
build D height h W (sequence {A} {B} g i) e ys =
    let p = and_true (builds height h g) (builds height h i) e in
    let y = build D height h W i p.1 ys in
    let x = build D height h W g p.0 y.0 in
    let v : A × B = (x.1, y.1) in
    (x.0, v, (y.0, x.2, y.2))
build D height h W (choice g i) e ys = elim (either (builds height h g) (builds height h i) e) [
  | inl p ↦ let x = build D height h W g p ys in (x.0, x.1, inl x.2)
  | inr p ↦ let x = build D height h W i p ys in (x.0, x.1, inr x.2)
]
build D height h W (mapped f g) e ys = let x = build D height h W g e ys in (x.0, f x.1, (x.1, refl, x.2))
build D height h W (node f g) e ys =
    let x = build D height h W g e ys in (x.0, f x.1 (span_between x.0 ys), (x.1, refl, x.2))
build D height h W (checked f g) e ys = let x = build D height h W g e ys in (x.0, x.1, (refl, x.2))
build D height h W (symbol n) e ys = W n (ltb-true (height n) h e) ys
build D height h W (left_chain f g i) e ys = let x = build D height h W g e ys in (x.0, x.1, base x.1 ys x.2)

below : {N : Type 0} {Value : N → Type 0} (height : N → ℕ) (body : (n : N) → Grammar N Value (Value n))
    → ((n : N) → builds height (height n) (body n) ≡ true)
    → (k : ℕ) (n : N) → height n < k → (ys : List Token) → Before (Part unchecked body n) ys
below height body H zero n l ys = absurd (omega (arith, l))
below height body H (suc k) n l ys =
    let w = build (Part unchecked body) height (height n)
    (λ m u. below height body H k m (omega (arith, l, u))) (body n) (H n) ys in
    (w.0, w.1, roll unchecked body n w.1 w.0 ys w.2)

-- each symbol has a part before each list
pub all_parts : {N : Type 0} {Value : N → Type 0} (height : N → ℕ) (body : (n : N) → Grammar N Value (Value n))
    → ((n : N) → builds height (height n) (body n) ≡ true)
    → (n : N) (ys : List Token) → (xs : List Token) × (v : Value n) × Part unchecked body n v xs ys
all_parts height body H n ys = below height body H (suc (height n)) n (omega arith) ys

-- and a sentence
pub all_sentences : {N : Type 0} {Value : N → Type 0} (height : N → ℕ) (body : (n : N) → Grammar N Value (Value n))
    → ((n : N) → builds height (height n) (body n) ≡ true) → HasSentences body
all_sentences height body H n = let w = all_parts height body H n [] in (w.0, (w.1, w.2))
