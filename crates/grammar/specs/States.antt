-- The reader over states, in which the code reads: each state knows where the last token ended, so
-- that no span needs a list.
use Rattle.std.specs.Prelude.{ℕ, zero, suc, Bool, true, false, cond, eqb, List, [], ◌∷◌, length, Option, Some, None}
use Rattle.grammar.specs.Tokens.{Payload.nothing, Token, Span, Fault, last_end, tokens_between}
use Rattle.grammar.specs.Grammar.{Grammar, Grammar.empty, Grammar.token, Grammar.sequence, Grammar.choice, Grammar.mapped, Grammar.node, Grammar.checked, Grammar.symbol, Grammar.left_chain, Mode.checking}
use Rattle.grammar.specs.Endings.{Ending, Ending.finished, Ending.carried, Wording, Answer, Answer.accepted, Answer.denied}
use Rattle.grammar.specs.Tables.{Tables, first}
use Rattle.grammar.specs.Reading.{Outcome, Outcome.ok, Outcome.stuck, Outcome.bad, Outcome.out, read_all}

-- the tokens that are left, and where the last one that was taken ended
pub record State : Type 0 where
  pub end : ℕ
  pub rest : List Token

-- a list of tokens of which none was taken
abbrev pub start_state : List Token → State
start_state ts = record { end = 0; rest = ts }

-- why reading stopped: at a token, at the end, where the last token that was taken ended at a
-- place, by a check's fault, or never, as fuel is enough
pub data Stop : Type 0 where
  unexpected : Token → Stop
  ended : ℕ → Stop
  faulty : Fault → Stop
  never : Stop

-- a value and the state after it, or why there is none
pub data Read (A : Type 0) : Type 0 where
  done : A → State → Read A
  stop : Stop → Read A

infixl 10 ◌>>=◌
-- what comes after a value
abbrev pub ◌>>=◌ : {A B : Type 0} → Read A → (A → State → Read B) → Read B
(done a s) >>= f = f a s
(stop e) >>= f = stop e

-- what is first of the tokens that are left is refused, where the last one that was taken ended
-- at a place
abbrev pub refused_at : {A : Type 0} → ℕ → List Token → Read A
refused_at e [] = stop (ended e)
refused_at e (t ∷ ts) = stop (unexpected t)

-- what is next is refused
abbrev pub refused : {A : Type 0} → State → Read A
refused s = refused_at s.end s.rest

-- the first token of a list is of a class
abbrev pub is_first : ℕ → List Token → Bool
is_first c [] = false
is_first c (t ∷ ts) = eqb t.class c

-- the next token is of a class
unfoldable pub is_at : ℕ → State → Bool
is_at c s = is_first c s.rest

-- the next token is of one of the classes: a test for each
abbrev pub is_any : List ℕ → State → Bool
is_any [] s = false
is_any (c ∷ []) s = is_at c s
is_any (c ∷ (d ∷ cs)) s = cond (is_at c s) true (is_any (d ∷ cs) s)

-- where the first token of a list starts
abbrev pub first_start : List Token → ℕ
first_start [] = 0
first_start (t ∷ ts) = t.start

-- where the next token starts
unfoldable pub next_start : State → ℕ
next_start s = first_start s.rest

-- the first token of a list
abbrev pub head_of : List Token → Token
head_of [] = record { class = 0; payload = nothing; start = 0; end = 0 }
head_of (t ∷ ts) = t

-- the state after the first token of a list
abbrev pub following : ℕ → List Token → State
following e [] = record { end = e; rest = [] }
following e (t ∷ ts) = record { end = t.end; rest = ts }

-- the next token
unfoldable pub first_of : State → Token
first_of s = head_of s.rest

-- the state after the next token
unfoldable pub after : State → State
after s = following s.end s.rest

-- the next token, which has to be of this class
unfoldable pub take : ℕ → State → Read Token
take c s = cond (is_at c s) (done (first_of s) (after s)) (refused s)

-- the next token, which has to be of one of the classes
abbrev pub take_any : List ℕ → State → Read Token
take_any [] s = refused s
take_any (c ∷ []) s = take c s
take_any (c ∷ (d ∷ cs)) s = cond (is_any (c ∷ (d ∷ cs)) s) (done (first_of s) (after s)) (refused s)

-- a value, unless a check found a fault
abbrev pub judged : {A : Type 0} → Option Fault → A → State → Read A
judged None a s = done a s
judged (Some x) a s = stop (faulty x)

-- from a place to the end of the last token that was taken
abbrev pub span_from : ℕ → State → Span
span_from start s = record { start = start; end = s.end }

-- a number of further items of a left-recursive rule at most, each begun by one of the classes
abbrev pub turns_in : {A B : Type 0} → ℕ → (A → B → Span → A) → List ℕ → (State → Read B) → ℕ → A → State → Read A
turns_in {A} zero f c r start a s = elim (is_any c s) as (λ b. Read A) [ true ↦ stop never | false ↦ done a s ]
turns_in {A} (suc k) f c r start a s = elim (is_any c s) as (λ b. Read A) [
  | true ↦ r s >>= λ b s'. turns_in k f c r start (f a b (span_from start s')) s'
  | false ↦ done a s
]

-- the further items; each takes a token, so as many turns as there are tokens are enough
abbrev pub turns : {A B : Type 0} → (A → B → Span → A) → List ℕ → (State → Read B) → ℕ → A → State → Read A
turns f c r start a s = turns_in (length s.rest) f c r start a s

-- a right side, where the symbols are read by another reader
abbrev pub go : {N : Type 0} {Value : N → Type 0} (T : Tables N)
    (rec : (n : N) → State → Read (Value n)) {A : Type 0} → Grammar N Value A → State → Read A
go T rec (empty a) s = done a s
go T rec (token cs) s = take_any cs s
go T rec (sequence g h) s = go T rec g s >>= λ a s'. go T rec h s' >>= λ b s''. done (a, b) s''
go T rec (choice g h) s = cond (is_any (first T g) s) (go T rec g s) (go T rec h s)
go T rec (mapped f g) s = go T rec g s >>= λ a s'. done (f a) s'
go T rec (node f g) s = go T rec g s >>= λ a s'. done (f a (span_from (next_start s) s')) s'
go T rec (checked f g) s = go T rec g s >>= λ a s'. judged (f a (span_from (next_start s) s')) a s'
go T rec (symbol n) s = rec n s
go T rec (left_chain f g h) s = go T rec g s >>= λ a s'. turns f (first T h) (go T rec h) (next_start s) a s'

-- the state of which the tokens before us were taken
abbrev pub state_at : State → List Token → State
state_at s us = record { end = last_end s.end (tokens_between s.rest us); rest = us }

-- an outcome over the tokens that are left, as one over states
abbrev pub tag : {A : Type 0} → State → Outcome A → Read A
tag s (ok a us) = done a (state_at s us)
tag s (stuck us) = refused (state_at s us)
tag s (bad x us) = stop (faulty x)
tag s out = stop never

-- what a symbol reads
unfoldable pub reads : {N : Type 0} {Value : N → Type 0} (T : Tables N)
    (body : (n : N) → Grammar N Value (Value n)) (R : ℕ) (n : N) → State → Read (Value n)
reads T body R n s = tag s (read_all T checking body R n s.rest)

-- what is answered at the end of a list: what the list carried goes first
abbrev pub at_end : {A : Type 0} → Ending → Answer A → Answer A
at_end finished a = a
at_end (carried x) a = denied x

-- a value, where nothing is left after it
abbrev pub whole_answer : {A : Type 0} → Wording → Ending → A → List Token → Answer A
whole_answer wording ending a [] = at_end ending (accepted a)
whole_answer wording ending a (t ∷ ts) = denied (wording.unexpected t)

-- what is answered where a list ended so, and this was read of it (the last case is never met)
abbrev pub answer : {A : Type 0} → Wording → Ending → Read A → Answer A
answer wording ending (done a s) = whole_answer wording ending a s.rest
answer wording ending (stop (unexpected t)) = denied (wording.unexpected t)
answer wording ending (stop (ended place)) = at_end ending (denied (wording.missing place))
answer wording ending (stop (faulty x)) = denied x
answer wording ending (stop never) = denied (wording.missing 0)
