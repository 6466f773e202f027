-- What is returned for the tokens that an iterator gives.
use Rattle.std.specs.Prelude.{◌≡◌, ◌⊎◌, Option, Result, IfOk, IfErr}
use Rattle.grammar.specs.Grammar.{Mode.checking, Derives}
use Rattle.grammar.specs.Endings.{Ending.finished}
use Rattle.wgsl_model.specs.Grammar.Symbols.{Symbol, Value}
use Rattle.wgsl_model.specs.Grammar.Written.{written}
use Rattle.wgsl_model.specs.Faults.NamedFault.{IsNamed}
use Rattle.wgsl_error.specs.declared.Error.{Error}
use Rattle.wgsl_error.specs.View.{fault_view}
use Rattle.wgsl_lexer.specs.declared.collect.Collected.{Collected}
use Rattle.wgsl_lexer.specs.Given.{TokenItem, Gave}
use Rattle.wgsl_lexer.specs.Placed.{tokens_view, ending_view}
use Rattle.wgsl_read_cursor.specs.Answers.{IsOutOfMemory}

-- the collected tokens ended of themselves and derive the tree
abbrev pub Derived : (n : Symbol) → Value n → Collected → Type 0
Derived n v found = (ending_view found.error ≡ finished) × Derives checking written n v (tokens_view found)

-- the collected tokens, and how they ended, have this fault
abbrev pub Refused : Symbol → Error → Collected → Type 0
Refused n e found = IsNamed n (tokens_view found) (ending_view found.error) (fault_view e)

-- an iterator that starts so gave these tokens up to its first error
abbrev pub Collects : {S : Type 0} → (S → Type 0) → (S → Option TokenItem → S → Type 0) → Collected → Type 0
Collects {S} starts steps found = (it : S) × starts it × Gave steps it found

-- What is returned for what an iterator gave up to its first error: Ok only with what the tokens
-- are; else that an allocation failed, or the fault that is named.
pub record IsParsed {X S : Type 0} (n : Symbol) (accepts : X → Collected → Type 0) (starts : S → Type 0)
    (steps : S → Option TokenItem → S → Type 0) (result : Result X Error) : Type 0 where
  pub accepted : IfOk result (λ v. (found : Collected) × Collects starts steps found × accepts v found)
  pub refused : IfErr result
      (λ e. IsOutOfMemory e ⊎ ((found : Collected) × Collects starts steps found × Refused n e found))
