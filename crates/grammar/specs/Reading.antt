-- A reader with one token of lookahead, over lists of tokens.
use Rattle.std.specs.Prelude.{ℕ, zero, suc, ◌+◌, ◌*◌, Bool, true, false, List, [], ◌∷◌, length, Option, Some, None}
use Rattle.grammar.specs.Tokens.{Token, Span, Fault, span_between}
use Rattle.grammar.specs.Grammar.{Grammar, Grammar.empty, Grammar.token, Grammar.sequence, Grammar.choice, Grammar.mapped, Grammar.node, Grammar.checked, Grammar.symbol, Grammar.left_chain, Mode, Mode.checking, found, is_among, Derives, IsSentence, IsViable}
use Rattle.grammar.specs.Faults.{HasNoFaultBefore, IsFirstFault, IsUnexpected}
use Rattle.grammar.specs.Tables.{Tables, first}

-- what a reader says: a value and the rest, where it is stuck, the fault of what ends there, or
-- that its fuel was out
pub data Outcome (A : Type 0) : Type 0 where
  ok : A → List Token → Outcome A
  stuck : List Token → Outcome A
  bad : Fault → List Token → Outcome A
  out : Outcome A

-- what comes after a value
abbrev pub bind : {A B : Type 0} → Outcome A → (A → List Token → Outcome B) → Outcome B
bind (ok a ts) f = f a ts
bind (stuck ts) f = stuck ts
bind (bad x ts) f = bad x ts
bind out f = out

-- a value, unless a check found a fault
abbrev pub judge : {A : Type 0} → Option Fault → A → List Token → Outcome A
judge None a us = ok a us
judge (Some x) a us = bad x us

-- the first token is of one of the classes
abbrev pub chooses : List ℕ → List Token → Bool
chooses s [] = false
chooses s (t ∷ ts) = is_among t.class s

-- the first token, which has to be of one of the classes
abbrev pub take_token : List ℕ → List Token → Outcome Token
take_token s [] = stuck []
take_token s (t ∷ ts) = elim (is_among t.class s) as (λ b. Outcome Token) [ true ↦ ok t ts | false ↦ stuck (t ∷ ts) ]

-- items, as long as the next token begins one
abbrev pub loop : {A B : Type 0} → (A → B → Span → A) → List ℕ → (List Token → Outcome B)
    → List Token → ℕ → A → List Token → Outcome A
loop {A} f s r start zero a us = elim (chooses s us) as (λ b. Outcome A) [ true ↦ out | false ↦ ok a us ]
loop {A} f s r start (suc k) a us = elim (chooses s us) as (λ b. Outcome A) [
  | true ↦ bind (r us) (λ b vs. loop f s r start k (f a b (span_between start vs)) vs)
  | false ↦ ok a us
]

-- a right side, where the symbols are read by another reader
abbrev pub run : {N : Type 0} {Value : N → Type 0} (T : Tables N) (M : Mode) (rec : (n : N)
    → List Token → Outcome (Value n)) {A : Type 0} → Grammar N Value A → List Token → Outcome A
run T M rec (empty a) ts = ok a ts
run T M rec (token s) ts = take_token s ts
run T M rec (sequence g h) ts = bind (run T M rec g ts) (λ a us. bind (run T M rec h us) (λ b vs. ok (a, b) vs))
run T M rec {A} (choice g h) ts =
    elim (chooses (first T g) ts) as (λ b. Outcome A) [ true ↦ run T M rec g ts | false ↦ run T M rec h ts ]
run T M rec (mapped f g) ts = bind (run T M rec g ts) (λ a us. ok (f a) us)
run T M rec (node f g) ts = bind (run T M rec g ts) (λ a us. ok (f a (span_between ts us)) us)
run T M rec (checked f g) ts = bind (run T M rec g ts) (λ a us. judge (found M (f a (span_between ts us))) a us)
run T M rec (symbol n) ts = rec n ts
run T M rec (left_chain f g h) ts = bind (run T M rec g ts)
    (λ a us. loop f (first T h) (run T M rec h) ts (length us) a us)

-- the reader, with fuel for a number of symbols within one another
abbrev pub read : {N : Type 0} {Value : N → Type 0} (T : Tables N) (M : Mode)
    (body : (n : N) → Grammar N Value (Value n)) → ℕ → (n : N) → List Token → Outcome (Value n)
read T M body zero n ts = out
read T M body (suc k) n ts = run T M (read T M body k) (body n) ts

-- the reader with fuel enough for a list of tokens
abbrev pub read_all : {N : Type 0} {Value : N → Type 0} (T : Tables N) (M : Mode)
    (body : (n : N) → Grammar N Value (Value n)) (R : ℕ) (n : N) → List Token → Outcome (Value n)
read_all T M body R n ts = read T M body (R * length ts + suc (T.rank n)) n ts

-- what an outcome says of its list
abbrev pub Says : {N : Type 0} {Value : N → Type 0} (body : (n : N) → Grammar N Value (Value n))
    (apart : N → List ℕ) (n : N) → List Token → Outcome (Value n) → Type 0
Says body apart n ts (ok v []) = Derives checking body n v ts × HasNoFaultBefore body apart ts 0
Says body apart n ts (ok v (t ∷ us)) = IsUnexpected body apart n ts t us
Says body apart n ts (stuck (t ∷ us)) = IsUnexpected body apart n ts t us
Says body apart n ts (stuck []) = IsViable body n ts × (IsSentence body n ts → ⊥) × HasNoFaultBefore body apart ts 0
Says body apart n ts (bad x us) = IsFirstFault body apart n ts x us
Says body apart n ts out = ⊥
