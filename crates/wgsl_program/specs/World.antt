-- What a program finds and leaves, and a text that it writes.
use Rattle.std.specs.Prelude.{◌≡◌, ℕ, Bool, true, false, List, Option}
use Rattle.wgsl_files.specs.Files.{Files}
use Rattle.wgsl_program.specs.Written.{Wrote}

-- the files, what the standard input has to give, and what the output and the errors hold, where it
-- is known
pub record World : Type 0 where
  pub files : Files
  pub left : Option (List ℕ)
  pub output : Option (List ℕ)
  pub errors : Option (List ℕ)

abbrev pub world : Files → Option (List ℕ) → Option (List ℕ) → Option (List ℕ) → World
world files left output errors = record { files = files; left = left; output = output; errors = errors }

-- the status where all was written; 4 where something could not be
abbrev pub said_status : Bool → ℕ → ℕ
said_status true code = code
said_status false code = 4

-- a text is written, with this status
abbrev pub Says : List ℕ → ℕ → Option (List ℕ) → Option (List ℕ) → ℕ → Type 0
Says text code old new status = (whole : Bool) × Wrote whole text old new × (status ≡ said_status whole code)

-- a text is written to the output, and nothing else happens
pub record Shows (text : List ℕ) (code : ℕ) (old new : World) (status : ℕ) : Type 0 where
  pub says : Says text code old.output new.output status
  pub errors : new.errors ≡ old.errors
  pub files : new.files ≡ old.files
  pub left : new.left ≡ old.left

-- a text is written to the errors, and nothing else happens
pub record Tells (text : List ℕ) (code : ℕ) (old new : World) (status : ℕ) : Type 0 where
  pub says : Says text code old.errors new.errors status
  pub output : new.output ≡ old.output
  pub files : new.files ≡ old.files
  pub left : new.left ≡ old.left
