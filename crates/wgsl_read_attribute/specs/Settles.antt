-- What checks settle: a value, or a fault.
use Rattle.std.specs.Prelude.{◌≡◌, ℕ, List, Result, Ok, Err}
use Rattle.grammar.specs.Tokens as plain
use Rattle.grammar.specs.States.{State, Read, done, stop, faulty}
use Rattle.wgsl_model.specs.Grammar.Checks.{Checked, right, wrong}
use Rattle.wgsl_read_cursor.specs.Reading.{stop_of}
use Rattle.wgsl_read_cursor.specs.declared.fault.Fault.{Fault}
use Rattle.wgsl_read_cursor.specs.declared.fault.Fault.TheVariants as fault

-- what is read where a check says this: a value, or the fault with its text
abbrev pub settled : {A B : Type 0} → Checked A → (List ℕ → plain.Fault) → (A → B) → State → Read B
settled (right a) fault made s = done (made a) s
settled (wrong text) fault made s = stop (faulty (fault text))

-- What a function returned, seen by view, is what a check says, or its fault, unless memory ran
-- out.
abbrev pub Settles : {X Y : Type 0} → (X → Y) → Result X Fault → Checked Y → (List ℕ → plain.Fault) → Type 0
Settles view (Ok x) checked fault = checked ≡ right (view x)
Settles view (Err fault.OutOfMemory) checked fault = Unit {0}
Settles view (Err e) checked fault = (text : List ℕ) × (checked ≡ wrong text) × (stop_of e ≡ faulty (fault text))
