-- What the reader on lists returns of a list of tokens and how it ended.
use Rattle.std.specs.Prelude.{◌≡◌, ◌==◌, if◌then◌else◌, List, [], ◌∷◌, ◌++◌}
use Rattle.grammar.specs.Tokens.{Payload.nothing, Token, Fault, last_end}
use Rattle.grammar.specs.Grammar.{Mode.checking, Derives}
use Rattle.grammar.specs.Endings.{Ending, Ending.finished, Ending.carried, Answer, Answer.accepted, Answer.denied}
use Rattle.grammar.specs.Reading.{Outcome, Outcome.ok, Outcome.stuck, Outcome.bad, Outcome.out, read_all}
use Rattle.grammar.specs.States.{at_end}
use Rattle.wgsl_model.specs.Tokens.ClassTable.{SymParenLeft}
use Rattle.wgsl_model.specs.Faults.Kinds.{unexpected_token, unexpected_end, out_of_memory_kind}
use Rattle.wgsl_model.specs.Grammar.Symbols.{Dialect, Dialect.recognized, Symbol, Value}
use Rattle.wgsl_model.specs.Grammar.Written.{written}
use Rattle.wgsl_model.specs.Grammar.Small.{small}
use Rattle.wgsl_model.specs.Faults.NamedFault.{IsNamed, IsNamedUnchecked}
use Rattle.wgsl_theory_grammar.specs.Factored.{FactoredSymbol.of, body}
use Rattle.wgsl_theory_grammar.specs.Unchecked.{unchecked_body}
use Rattle.wgsl_theory_grammar.specs.Tables.{rank_limit, tables}

-- what an outcome says of all tokens
abbrev pub answer_said : {A : Type 0} → List Token → Ending → Outcome A → Answer A
answer_said ts ending (ok v []) = at_end ending (accepted v)
answer_said ts ending (ok v (t ∷ us)) = denied (unexpected_token t)
answer_said ts ending (stuck []) = at_end ending (denied (unexpected_end (last_end 0 ts)))
answer_said ts ending (stuck (t ∷ us)) = denied (unexpected_token t)
answer_said ts ending (bad x us) = denied x
answer_said ts ending out = denied (unexpected_end (last_end 0 ts))

-- the `(` that is after tokens that ended because an allocation failed
abbrev pub opening : Token
opening = record { class = SymParenLeft; payload = nothing; start = 0; end = 0 }

-- what an outcome says of tokens that ended so, with that `(` after them
abbrev pub answer_in_want : {A : Type 0} → Fault → Outcome A → Answer A
answer_in_want x (ok v []) = denied x
answer_in_want x (ok v (t ∷ [])) = denied x
answer_in_want x (ok v (t ∷ (u ∷ us))) = denied (unexpected_token t)
answer_in_want x (stuck []) = denied x
answer_in_want x (stuck (t ∷ [])) = denied x
answer_in_want x (stuck (t ∷ (u ∷ us))) = denied (unexpected_token t)
answer_in_want x (bad y us) = denied y
answer_in_want x out = denied x

-- what the reader returns
abbrev pub answer_of : (n : Symbol) → List Token → Ending → Answer (Value n)
answer_of n ts finished = answer_said ts finished (read_all tables checking body rank_limit (of n) ts)
answer_of n ts (carried x) =
    if x.kind == out_of_memory_kind
    then answer_in_want x (read_all tables checking body rank_limit (of n) (ts ++ (opening ∷ [])))
    else answer_said ts (carried x) (read_all tables checking body rank_limit (of n) ts)

-- a true answer: the tree that the tokens derive, where they ended of themselves; else the fault
-- that is named
abbrev pub IsAnswer : (n : Symbol) → List Token → Ending → Answer (Value n) → Type 0
IsAnswer n ts ending (accepted v) = (ending ≡ finished) × Derives checking written n v ts
IsAnswer n ts ending (denied x) = IsNamed n ts ending x

-- what the reader of a dialect returns where nothing is checked, so that no end is read in another
-- way
abbrev pub unchecked_answer_of : Dialect → (n : Symbol) → List Token → Ending → Answer (Value n)
unchecked_answer_of L n ts ending = answer_said ts ending
    (read_all tables checking (unchecked_body L) rank_limit (of n) ts)

-- a true answer, where a value is accepted of which something holds
abbrev pub IsUncheckedAnswer : Dialect → (n : Symbol) → (Value n → Type 0) → List Token → Ending
    → Answer (Value n) → Type 0
IsUncheckedAnswer L n Holds ts ending (accepted v) = (ending ≡ finished) × Holds v
IsUncheckedAnswer L n Holds ts ending (denied x) = IsNamedUnchecked L n ts ending x

-- the same in the dialect
abbrev pub small_answer_of : (n : Symbol) → List Token → Ending → Answer (Value n)
small_answer_of n ts ending = unchecked_answer_of recognized n ts ending

abbrev pub IsSmallAnswer : (n : Symbol) → List Token → Ending → Answer (Value n) → Type 0
IsSmallAnswer n ts ending a = IsUncheckedAnswer recognized n (λ v. Derives checking small n v ts) ts ending a
