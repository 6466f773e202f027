-- What surely takes a token.
use Rattle.std.proofs.Common.{◌≡◌, ℕ, zero, suc, ◌+◌, ◌<◌, ◌≤◌, Bool, true, false, ◌&&◌, ◌||◌, List, [], ◌∷◌, ◌++◌, length, inl, inr, ap, ◌∙◌, arith, length-append}
use Rattle.grammar.specs.Tokens.{Token, Span}
use Rattle.grammar.specs.Grammar.{Grammar, Grammar.empty, Grammar.token, Grammar.sequence, Grammar.choice, Grammar.mapped, Grammar.node, Grammar.checked, Grammar.symbol, Grammar.left_chain, Mode, Chain, Chain.base, Chain.more, Means, Within, Part}
use Rattle.grammar.proofs.Reading.Sets.{and_true, either}
use Rattle.grammar.proofs.Reading.Frame.{Framed, framed, framed_within, framed_part}

-- a part takes a token at least, where the symbols K do
abbrev pub surely_takes : {N : Type 0} {Value : N → Type 0} (K : N → Bool) {A : Type 0} → Grammar N Value A → Bool
surely_takes K (empty a) = false
surely_takes K (token s) = true
surely_takes K (sequence g h) = surely_takes K g || surely_takes K h
surely_takes K (choice g h) = surely_takes K g && surely_takes K h
surely_takes K (mapped f g) = surely_takes K g
surely_takes K (node f g) = surely_takes K g
surely_takes K (checked f g) = surely_takes K g
surely_takes K (symbol n) = K n
surely_takes K (left_chain f g h) = surely_takes K g

no_longer : (p xs ys : List Token) → xs ≡ p ++ ys → length ys ≤ length xs
no_longer p xs ys w =
    let e : length xs ≡ length p + length ys = ap (λ (z : List Token). length z) w ∙ length-append p ys in
    omega (arith, e)

abbrev pub Shorter : {A : Type 0} → (A → List Token → List Token → Type 0) → Type 0
Shorter {A} P = (v : A) (xs ys : List Token) → P v xs ys → length ys < length xs

shorter_chain : {A B : Type 0} (f : A → B → Span → A) (P : A → List Token → List Token → Type 0)
    (Q : B → List Token → List Token → Type 0) → Shorter P → Framed Q
    → (xs : List Token) (v : A) (ys : List Token) → Chain f P Q xs v ys → length ys < length xs
shorter_chain f P Q S F xs _ _ (base v ys d) = S v xs ys d
shorter_chain f P Q S F xs _ _ (more a b ys zs c d) =
    let w = F b ys zs d in let i = shorter_chain f P Q S F xs a ys c in
    let j = no_longer w.0 ys zs w.1 in omega (arith, i, j)

pub shorter : {N : Type 0} {Value : N → Type 0} (M : Mode) (D : (n : N) → Value n → List Token → List Token → Type 0)
    → ((n : N) → Framed (D n)) → (K : N → Bool) → ((n : N) → K n ≡ true → Shorter (D n))
    → {A : Type 0} (g : Grammar N Value A) → surely_takes K g ≡ true → Shorter (Means M D g)
shorter M D F K H (empty a) e v xs ys d = absurd cc
shorter M D F K H (token s) e v xs ys d = rw d.1 (omega arith)
shorter M D F K H (sequence g h) e v xs ys d = elim (either (surely_takes K g) (surely_takes K h) e) [
  | inl p ↦ let w = framed M D F h v.1 d.0 ys d.2 in let i = shorter M D F K H g p v.0 xs d.0 d.1 in
      let j = no_longer w.0 d.0 ys w.1 in omega (arith, i, j)
  | inr p ↦ let w = framed M D F g v.0 xs d.0 d.1 in let i = shorter M D F K H h p v.1 d.0 ys d.2 in
      let j = no_longer w.0 xs d.0 w.1 in omega (arith, i, j)
]
shorter M D F K H (choice g h) e v xs ys (inl d) = shorter M D F K H g (and_true _ _ e).0 v xs ys d
shorter M D F K H (choice g h) e v xs ys (inr d) = shorter M D F K H h (and_true _ _ e).1 v xs ys d
shorter M D F K H (mapped f g) e v xs ys d = shorter M D F K H g e d.0 xs ys d.2
shorter M D F K H (node f g) e v xs ys d = shorter M D F K H g e d.0 xs ys d.2
shorter M D F K H (checked f g) e v xs ys d = shorter M D F K H g e v xs ys d.1
shorter M D F K H (symbol n) e v xs ys d = H n e v xs ys d
shorter M D F K H (left_chain f g h) e v xs ys d = shorter_chain f (Means M D g) (Means M D h)
    (λ a us vs q. shorter M D F K H g e a us vs q) (λ a us vs q. framed M D F h a us vs q) xs v ys d

pub shorter_within : {N : Type 0} {Value : N → Type 0} (M : Mode)
    (body : (n : N) → Grammar N Value (Value n)) (K : N → Bool)
    → ((n : N) → K n ≡ true → surely_takes K (body n) ≡ true)
    → (k : ℕ) (n : N) → K n ≡ true → Shorter (Within M body k n)
shorter_within M body K H zero n e v xs ys d = absurd d
shorter_within M body K H (suc k) n e v xs ys d = shorter M (Within M body k)
    (framed_within M body k) K (shorter_within M body K H k) (body n) (H n e) v xs ys d

runs_of : (p xs ys : List Token) → xs ≡ p ++ ys → length ys < length xs
    → (t : Token) × (q : List Token) × (xs ≡ t ∷ (q ++ ys))
runs_of [] xs ys w l =
    let e : length xs ≡ length ys = ap (λ (z : List Token). length z) w in absurd (omega (arith, l, e))
runs_of (t ∷ p) xs ys w l = (t, p, w)

-- a symbol that surely takes a token takes a token
pub takes_one : {N : Type 0} {Value : N → Type 0} (M : Mode) (body : (n : N) → Grammar N Value (Value n))
    (K : N → Bool) → ((n : N) → K n ≡ true → surely_takes K (body n) ≡ true)
    → (n : N) → K n ≡ true → (v : Value n) (xs ys : List Token) → Part M body n v xs ys
    → (t : Token) × (q : List Token) × (xs ≡ t ∷ (q ++ ys))
takes_one M body K H n e v xs ys d =
    let w = framed_part M body n v xs ys d in
    runs_of w.0 xs ys w.1 (shorter_within M body K H d.0 n e v xs ys d.1)

-- a part that surely takes a token takes one
pub part_takes : {N : Type 0} {Value : N → Type 0} (M : Mode) (body : (n : N) → Grammar N Value (Value n))
    (K : N → Bool) → ((n : N) → K n ≡ true → surely_takes K (body n) ≡ true)
    → {A : Type 0} (g : Grammar N Value A) → surely_takes K g ≡ true → (v : A) (xs ys : List Token)
    → Means M (Part M body) g v xs ys → (t : Token) × (q : List Token) × (xs ≡ t ∷ (q ++ ys))
part_takes M body K H g e v xs ys d =
    let w = framed M (Part M body) (framed_part M body) g v xs ys d in
    runs_of w.0 xs ys w.1 (shorter M (Part M body) (framed_part M body) K
    (λ n k a us vs (j, r). shorter_within M body K H j n k a us vs r) g e v xs ys d)
