-- What is returned for what a parse function returned, and of the tokens that it left.
use Rattle.std.specs.Prelude.{◌≡◌, ◌⊎◌, ℕ, false, List, [], ◌∷◌, Result, Ok, Err}
use Rattle.grammar.specs.Tokens.{Token, Fault}
use Rattle.grammar.specs.Endings.{Ending, Ending.finished, Ending.carried, Answer, Answer.accepted, Answer.denied}
use Rattle.grammar.specs.States.{State}
use Rattle.wgsl_model.specs.Faults.Kinds.{unexpected_token, unexpected_end}
use Rattle.wgsl_model.specs.Faults.Checked.{wants_memory}
use Rattle.wgsl_theory_grammar.specs.Answers.{opening}
use Rattle.wgsl_error.specs.declared.Error.{Error}
use Rattle.wgsl_error.specs.declared.ParseError.TheVariants as parse
use Rattle.wgsl_error.specs.Kinds.{error_at}
use Rattle.wgsl_error.specs.View.{fault_view}
use Rattle.wgsl_lex_token.specs.Placed.{placed_view}
use Rattle.wgsl_read_cursor.specs.declared.fault.Refusal.{Refusal}
use Rattle.wgsl_read_cursor.specs.declared.fault.Refusal.TheVariants as refusal
use Rattle.wgsl_read_cursor.specs.declared.fault.Fault as declared
use Rattle.wgsl_read_cursor.specs.declared.fault.Fault.TheVariants as fault

-- an allocation failed, which is nowhere in a text: at 0..0
abbrev pub IsOutOfMemory : Error → Type 0
IsOutOfMemory e = e ≡ error_at parse.OutOfMemory 0 0

-- the fault of an end that comes too early, unless the tokens ended with another
abbrev pub end_fault : Ending → ℕ → Fault
end_fault finished place = unexpected_end place
end_fault (carried x) place = x

-- a token that was refused is named, unless it is the `(` that is where an allocation failed
abbrev pub IsRefusalOf : Token → Ending → Error → Type 0
IsRefusalOf t ending e = ((t ≡ opening) → wants_memory ending ≡ false) × (fault_view e ≡ unexpected_token t)

-- the error that is told of what was refused, where the tokens ended so
abbrev pub IsToldOfRefusal : Refusal → Ending → Error → Type 0
IsToldOfRefusal (refusal.UnexpectedToken t expected) ending e = IsRefusalOf (placed_view t) ending e
IsToldOfRefusal (refusal.UnexpectedEnd place expected) ending e = fault_view e ≡ end_fault ending place
IsToldOfRefusal (refusal.Checked x) ending e = e ≡ x

-- the error that is told of why tokens could not be read, where they ended so
abbrev pub IsToldOf : declared.Fault → Ending → Error → Type 0
IsToldOf (fault.Refused refusal) ending e = IsToldOfRefusal refusal.value ending e
IsToldOf fault.OutOfMemory ending e = ⊥

-- what is told of a value after which these tokens are left
abbrev pub IsToldAfter : List Token → Ending → Error → Type 0
IsToldAfter [] finished e = ⊥
IsToldAfter [] (carried x) e = fault_view e ≡ x
IsToldAfter (t ∷ ts) ending e = IsRefusalOf t ending e

-- what is returned for what was returned: the value, where no token is left after it and the tokens
-- ended of themselves; else an error that is told of it, unless memory ran out
abbrev pub IsAnsweredOf : {T : Type 0} → Result T declared.Fault → State → Ending → Result T Error → Type 0
IsAnsweredOf (Ok v) left ending (Ok w) = (w ≡ v) × (left.rest ≡ []) × (ending ≡ finished)
IsAnsweredOf (Ok v) left ending (Err e) = IsOutOfMemory e ⊎ IsToldAfter left.rest ending e
IsAnsweredOf (Err x) left ending (Ok w) = ⊥
IsAnsweredOf (Err x) left ending (Err e) = IsOutOfMemory e ⊎ IsToldOf x ending e

-- what is answered, seen by view, unless memory ran out
abbrev pub Answered : {X Y : Type 0} → (X → Y) → Result X Error → Answer Y → Type 0
Answered view (Ok x) answer = answer ≡ accepted (view x)
Answered view (Err e) answer = IsOutOfMemory e ⊎ (answer ≡ denied (fault_view e))
