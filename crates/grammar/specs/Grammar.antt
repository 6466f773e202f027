-- Grammars as data, and what they derive.
use Rattle.std.specs.Prelude.{◌≡◌, ℕ, zero, suc, Bool, true, false, cond, eqb, List, [], ◌∷◌, ◌++◌, ◌⊎◌, Option, None}
use Rattle.grammar.specs.Tokens.{Token, Span, Fault, span_between}

-- right sides over symbols N, whose values are of the types Value
pub data Grammar (N : Type 0) (Value : N → Type 0) : Type 0 → Type 1 where
  empty : {A : Type 0} → A → Grammar N Value A
  token : List ℕ → Grammar N Value Token
  sequence : {A B : Type 0} → Grammar N Value A → Grammar N Value B → Grammar N Value (A × B)
  choice : {A : Type 0} → Grammar N Value A → Grammar N Value A → Grammar N Value A
  mapped : {A B : Type 0} → (A → B) → Grammar N Value A → Grammar N Value B
  node : {A B : Type 0} → (A → Span → B) → Grammar N Value A → Grammar N Value B
  checked : {A : Type 0} → (A → Span → Option Fault) → Grammar N Value A → Grammar N Value A
  symbol : (n : N) → Grammar N Value (Value n)
  left_chain : {A B : Type 0} → (A → B → Span → A) → Grammar N Value A → Grammar N Value B → Grammar N Value A

-- whether checks count
pub data Mode : Type 0 where
  checking : Mode
  unchecked : Mode

-- what a check found, where checks count
abbrev pub found : Mode → Option Fault → Option Fault
found checking x = x
found unchecked x = None

-- a class is one of a list
abbrev pub is_among : ℕ → List ℕ → Bool
is_among c [] = false
is_among c (d ∷ s) = cond (eqb c d) true (is_among c s)

-- the left-recursive rule from xs: X = First, or X Item
pub data Chain {A B : Type 0} (f : A → B → Span → A) (P : A → List Token → List Token → Type 0)
    (Q : B → List Token → List Token → Type 0) (xs : List Token) : A → List Token → Type 0 where
  base : (a : A) (ys : List Token) → P a xs ys → Chain f P Q xs a ys
  more : (a : A) (b : B) (ys zs : List Token) → Chain f P Q xs a ys → Q b ys zs
      → Chain f P Q xs (f a b (span_between xs zs)) zs

-- what a right side derives from xs to the list ys after it, where D is what the symbols derive
abbrev pub Means : {N : Type 0} {Value : N → Type 0} (M : Mode) (D : (n : N) → Value n → List Token
    → List Token → Type 0) {A : Type 0} → Grammar N Value A → A → List Token → List Token → Type 0
Means M D (empty a) v xs ys = (a ≡ v) × (xs ≡ ys)
Means M D (token s) v xs ys = (is_among v.class s ≡ true) × (xs ≡ v ∷ ys)
Means M D (sequence g h) v xs ys = (ms : List Token) × Means M D g v.0 xs ms × Means M D h v.1 ms ys
Means M D (choice g h) v xs ys = Means M D g v xs ys ⊎ Means M D h v xs ys
Means M D (mapped {A} f g) v xs ys = (a : A) × (f a ≡ v) × Means M D g a xs ys
Means M D (node {A} f g) v xs ys = (a : A) × (f a (span_between xs ys) ≡ v) × Means M D g a xs ys
Means M D (checked f g) v xs ys = (found M (f v (span_between xs ys)) ≡ None) × Means M D g v xs ys
Means M D (symbol n) v xs ys = D n v xs ys
Means M D (left_chain f g h) v xs ys = Chain f (Means M D g) (Means M D h) xs v ys

-- what a symbol derives with a number of symbols within one another
abbrev pub Within : {N : Type 0} {Value : N → Type 0} (M : Mode) (body : (n : N) → Grammar N Value (Value n))
    → ℕ → (n : N) → Value n → List Token → List Token → Type 0
Within M body zero n v xs ys = ⊥
Within M body (suc k) n v xs ys = Means M (Within M body k) (body n) v xs ys

-- what a symbol derives from xs to the list ys after it
abbrev pub Part : {N : Type 0} {Value : N → Type 0} (M : Mode) (body : (n : N) → Grammar N Value (Value n))
    → (n : N) → Value n → List Token → List Token → Type 0
Part M body n v xs ys = (k : ℕ) × Within M body k n v xs ys

-- what a symbol derives from a whole list
abbrev pub Derives : {N : Type 0} {Value : N → Type 0} (M : Mode) (body : (n : N) → Grammar N Value (Value n))
    → (n : N) → Value n → List Token → Type 0
Derives M body n v ts = Part M body n v ts []

-- some value is derived, whatever the checks say
abbrev pub IsSentence : {N : Type 0} {Value : N → Type 0} (body : (n : N) → Grammar N Value (Value n)) (n : N)
    → List Token → Type 0
IsSentence {Value} body n ts = (v : Value n) × Derives unchecked body n v ts

-- some sentence begins so
abbrev pub IsViable : {N : Type 0} {Value : N → Type 0} (body : (n : N) → Grammar N Value (Value n)) (n : N)
    → List Token → Type 0
IsViable body n ts = (zs : List Token) × IsSentence body n (ts ++ zs)
