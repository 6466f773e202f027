-- How a run of a program ends, over what the program writes of the bytes that it read.
use Rattle.std.specs.Prelude.{◌≡◌, ◌⊎◌, ℕ, List, [], take, Option, IfSome, Result, Ok, Err}
use Rattle.std.specs.Io.KnownBytes.{IsAtEnd}
use Rattle.std.specs.declared.alloc.Global.{Global}
use Rattle.std.specs.declared.vec.Vec.{Vec}
use Rattle.wgsl_model.specs.Program.{ProcessOutput, complaint, out_of_memory}
use Rattle.wgsl_format.specs.declared.streams.ReadError.{ReadError}
use Rattle.wgsl_format.specs.declared.streams.ReadError.TheVariants as unread

-- the reader had these bytes to give, where its bytes are known
abbrev pub IsInput : Option (List ℕ) → List ℕ → Type 0
IsInput known bytes = IfSome known (λ all. bytes ≡ all)

-- a read failed: nothing goes out
abbrev pub nothing_read : ProcessOutput
nothing_read = complaint 4 []

-- what is due where the input could not be read: that an allocation failed; nothing where a read
-- failed
abbrev pub IsDueUnread : ReadError → ProcessOutput → Type 0
IsDueUnread unread.OutOfMemory due = due ≡ out_of_memory
IsDueUnread unread.Failed due = due ≡ nothing_read

-- What is due of what was read: what the program writes of its bytes, unless an allocation failed;
-- nothing where a read failed.
abbrev pub IsDue : (List ℕ → ProcessOutput → Type 0) → Result (Vec ℕ Global) ReadError → ProcessOutput → Type 0
IsDue Writes (Ok bytes) due = Writes bytes.items due ⊎ (due ≡ out_of_memory)
IsDue Writes (Err error) due = IsDueUnread error due

-- What a run over this input, of which it left so much, has to write: what the program writes of
-- its bytes, where it read them all; else that an allocation failed, or nothing, where a read
-- failed.
pub data IsOwed (Writes : List ℕ → ProcessOutput → Type 0) (input left : Option (List ℕ)) : ProcessOutput → Type 0 where
  all_read : (bytes : List ℕ) (due : ProcessOutput) → IsInput input bytes → IsAtEnd left
      → Writes bytes due → IsOwed Writes input left due
  memory_refused : IsOwed Writes input left out_of_memory
  read_failed : IsOwed Writes input left nothing_read

-- a write or a flush failed: the first n bytes of each text went out, and status 4
abbrev pub cut : ℕ → ProcessOutput → ProcessOutput
cut n due = record { status = 4; output = take n due.output; errors = take n due.errors }

-- what is due went out whole, or a beginning of it
abbrev pub GoesOut : ProcessOutput → ProcessOutput → Type 0
GoesOut due end = (end ≡ due) ⊎ ((n : ℕ) × (end ≡ cut n due))

-- How a run over this input, of which it left so much, ends: with its status, and what went to the
-- output and to the errors.
pub record Ends (Writes : List ℕ → ProcessOutput → Type 0) (input left : Option (List ℕ))
    (end : ProcessOutput) : Type 0 where
  pub due : ProcessOutput
  pub owed : IsOwed Writes input left due
  pub written : GoesOut due end
