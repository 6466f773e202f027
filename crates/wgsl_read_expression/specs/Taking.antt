-- What a function takes where it can.
use Rattle.std.specs.Prelude.{◌≡◌, ◌<◌, ℕ, Bool, true, false, List, length, Option, Some, None, OnSome}
use Rattle.grammar.specs.States.{State, Read, Read.done, is_any}
use Rattle.wgsl_read_cursor.specs.declared.cursor.Cursor.{Cursor}
use Rattle.wgsl_read_cursor.specs.Reading.{state}

-- Where the next token can be taken, what was taken, seen by view, with the state that was left, is
-- what is read; elsewhere nothing was taken.
abbrev pub IsTakenBy : {X Y : Type 0} → (X → Y) → Option X → State → State → Bool → Read Y → Type 0
IsTakenBy view (Some x) s left can read = (can ≡ true) × (read ≡ done (view x) left)
IsTakenBy view None s left can read = (can ≡ false) × (left ≡ s)

-- What a function returned, seen by view, between these places, is the next token as a rule reads
-- it, where it is of one of the classes.
pub record Takes {X Y : Type 0} (view : X → Y) (result : Option X) (before after : Cursor)
    (classes : List ℕ) (read : State → Read Y) : Type 0 where
  pub value : IsTakenBy view result (state before) (state after) (is_any classes (state before)) (read (state before))
  pub shorter : OnSome result (length (state after).rest < length (state before).rest)
