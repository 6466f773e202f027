-- The faults that the checks of any grammar find in a list, and the one fault that is named.
use Rattle.std.specs.Prelude.{◌≡◌, ℕ, suc, ◌≤◌, false, List, [], ◌∷◌, ◌++◌, length, Option, Some, None}
use Rattle.grammar.specs.Tokens.{Token, Span, Fault, last_end, tokens_between, span_between}
use Rattle.grammar.specs.Grammar.{Grammar, Grammar.empty, Grammar.token, Grammar.sequence, Grammar.choice, Grammar.mapped, Grammar.node, Grammar.checked, Grammar.symbol, Grammar.left_chain, Mode.checking, Mode.unchecked, is_among, Part, Derives, IsSentence, IsViable}
use Rattle.grammar.specs.Endings.{last_class, Ending, Ending.finished, Ending.carried, Wording, Answer, Answer.accepted, Answer.denied}

-- what the check at the head of a right side says
abbrev pub head_check : {N : Type 0} {Value : N → Type 0} {A : Type 0} → Grammar N Value A → A → Span → Option Fault
head_check (checked f g) v s = f v s
head_check (empty a) v s = None
head_check (token c) v s = None
head_check (sequence g h) v s = None
head_check (choice g h) v s = None
head_check (mapped f g) v s = None
head_check (node f g) v s = None
head_check (symbol n) v s = None
head_check (left_chain f g h) v s = None

-- a part of a symbol whose check says x, from xs to the list ys after it
abbrev pub IsFaulty : {N : Type 0} {Value : N → Type 0} (body : (n : N) → Grammar N Value (Value n))
    → N → Fault → List Token → List Token → Type 0
IsFaulty {Value} body n x xs ys = (v : Value n) × Part unchecked body n v xs ys
    × (head_check (body n) v (span_between xs ys) ≡ Some x)

-- with the next token it begins no part of n
abbrev pub IsEnded : {N : Type 0} {Value : N → Type 0} (body : (n : N) → Grammar N Value (Value n))
    → N → List Token → List Token → Type 0
IsEnded body n xs ys = (t : Token) (zs : List Token) → ys ≡ t ∷ zs
    → IsViable body n (tokens_between xs ys ++ (t ∷ [])) → ⊥

-- a fault x of a list ts, with ys after its last token: a faulty part of a symbol that goes no
-- further, and is not directly after a token of the classes apart, none of which is 0
pub record FaultIn {N : Type 0} {Value : N → Type 0} (body : (n : N) → Grammar N Value (Value n))
    (apart : N → List ℕ) (ts : List Token) (x : Fault) (ys : List Token) : Type 0 where
  pub symbol_of : N
  pub before : List Token
  pub from : List Token
  pub whole : ts ≡ before ++ from
  pub not_after : is_among (last_class 0 before) (apart symbol_of) ≡ false
  pub ended : IsEnded body symbol_of from ys
  pub faulty : IsFaulty body symbol_of x from ys

-- no fault of ts has a number of tokens after it, or more
abbrev pub HasNoFaultBefore : {N : Type 0} {Value : N → Type 0}
    (body : (n : N) → Grammar N Value (Value n)) (apart : N → List ℕ) → List Token → ℕ → Type 0
HasNoFaultBefore body apart ts k = (x : Fault) (ys : List Token) → FaultIn body apart ts x ys → k ≤ length ys → ⊥

-- a fault x that ends, with us after it, in tokens that begin a sentence, and no fault ends before
-- it
abbrev pub IsFirstFault : {N : Type 0} {Value : N → Type 0} (body : (n : N) → Grammar N Value (Value n))
    (apart : N → List ℕ) (n : N) → List Token → Fault → List Token → Type 0
IsFirstFault body apart n ts x us = (p : List Token) × (ts ≡ p ++ us) × IsViable body n p
    × FaultIn body apart ts x us × HasNoFaultBefore body apart ts (suc (length us))

-- t is the first token with which no sentence goes on, and no fault ends before it
abbrev pub IsUnexpected : {N : Type 0} {Value : N → Type 0} (body : (n : N) → Grammar N Value (Value n))
    (apart : N → List ℕ) (n : N) → List Token → Token → List Token → Type 0
IsUnexpected body apart n ts t us = (p : List Token) × (ts ≡ p ++ (t ∷ us)) × IsViable body n p
    × (IsViable body n (p ++ (t ∷ [])) → ⊥) × HasNoFaultBefore body apart ts (suc (length us))

-- all tokens begin a sentence, and there is no checked fault
abbrev pub IsFaultless : {N : Type 0} {Value : N → Type 0}
    (body : (n : N) → Grammar N Value (Value n)) (apart : N → List ℕ) (n : N) → List Token → Type 0
IsFaultless body apart n ts = IsViable body n ts × HasNoFaultBefore body apart ts 0

-- the fault that is named of a list of tokens and how it ended: the checked fault that ends first;
-- or the first token with which no sentence goes on; or what the list carried; or that a token is
-- missing
pub data IsNamedBy {N : Type 0} {Value : N → Type 0} (body : (n : N) → Grammar N Value (Value n))
    (apart : N → List ℕ) (wording : Wording) (n : N) (ts : List Token) (ending : Ending)
    (x : Fault) : Type 0 where
  first_fault : (us : List Token) → IsFirstFault body apart n ts x us → IsNamedBy body apart wording n ts ending x
  unexpected_token : (t : Token) (us : List Token) → IsUnexpected body apart n ts t us
      → x ≡ wording.unexpected t → IsNamedBy body apart wording n ts ending x
  carried_fault : IsFaultless body apart n ts → ending ≡ carried x → IsNamedBy body apart wording n ts ending x
  missing_token : IsFaultless body apart n ts → (IsSentence body n ts → ⊥) → ending ≡ finished
      → x ≡ wording.missing (last_end 0 ts) → IsNamedBy body apart wording n ts ending x

-- what an answer says: the list ended of itself and derives the value, or the fault is the one that
-- is named
abbrev pub Answers : {N : Type 0} {Value : N → Type 0} (body : (n : N) → Grammar N Value (Value n))
    (apart : N → List ℕ) (wording : Wording) (n : N) → List Token → Ending → Answer (Value n) → Type 0
Answers body apart wording n ts ending (accepted v) = (ending ≡ finished) × Derives checking body n v ts
Answers body apart wording n ts ending (denied x) = IsNamedBy body apart wording n ts ending x
