-- What a check finds wrong, its fault says.
use Rattle.std.proofs.Common.{◌≡◌, ℕ, List, Err}
use Rattle.grammar.specs.Tokens as plain
use Rattle.grammar.specs.States.{Stop.faulty}
use Rattle.wgsl_model.specs.Grammar.Checks.{Checked, wrong}
use Rattle.wgsl_read_cursor.specs.Reading.{Tells}
use Rattle.wgsl_read_cursor.specs.declared.fault.Fault.{Fault}
use Rattle.wgsl_read_cursor.specs.declared.fault.Fault.TheVariants as fault
use Rattle.wgsl_read_attribute.specs.Settles.{Settles}

pub wrong_told : {X Y : Type 0} (view : X → Y) (x : Fault) (checked : Checked Y)
    (named : List ℕ → plain.Fault) (text : List ℕ) → Tells x (faulty (named text))
    → checked ≡ wrong text → Settles view (Err x) checked named
wrong_told view (fault.Refused refusal) checked named text told is = (text, is, told)
wrong_told view fault.OutOfMemory checked named text told is = tt
