-- What comes of one file, and of the standard input, where a text becomes another or is refused
-- with a message.
use Rattle.std.specs.Prelude.{◌≡◌, ◌≢◌, ℕ, List, Option, string_bytes}
use Rattle.wgsl_format_options.specs.declared.options.Mode.{Mode}
use Rattle.wgsl_format_options.specs.declared.options.Mode.TheVariants.{Write}
use Rattle.wgsl_files.specs.declared.status.Status.{Status}
use Rattle.wgsl_files.specs.Files.{Files, HasNone, Same}
use Rattle.wgsl_files.specs.Rewriting.{IsKept, IsChanged, IsRefused}
use Rattle.wgsl_format.specs.Ends.{IsInput}
use Rattle.wgsl_format_files.specs.declared.event.Event.{Event}
use Rattle.wgsl_format_files.specs.declared.event.Event.TheVariants as event
use Rattle.wgsl_format_files.specs.Events.{IsShown, store_mode_of}

-- the text of the file changes, which is written or reported
pub record Changes (becomes : List ℕ → List ℕ → Type 0) (mode : Mode)
    (Tells : List ℕ → List ℕ → Type 0) (old new : Files) (path : List ℕ) : Type 0 where
  pub before : List ℕ
  pub after : List ℕ
  pub changed : IsChanged becomes (store_mode_of mode) old new path before after
  pub told : Tells before after

-- What comes of the file at a path: it is kept; or it is written, and only where files are written;
-- or it would change, and what is shown reports that, and nothing changes; or it is an error, and
-- nothing changes: its text is refused, or there is no file at the path, or an allocation failed.
abbrev pub ComesOfFile : (List ℕ → List ℕ → Type 0) → (List ℕ → Status → List ℕ → Type 0) → Mode → Files
    → Files → List ℕ → Event → Type 0
ComesOfFile becomes refuses mode old new path event.Unchanged = IsKept becomes old new path
ComesOfFile becomes refuses mode old new path event.Formatted = Changes becomes mode (λ _ _. mode ≡ Write) old new path
ComesOfFile becomes refuses mode old new path (event.Printed text) = ⊥
ComesOfFile becomes refuses mode old new path (event.WouldChange shown) = Changes becomes mode
    (λ before after. IsShown mode path before after shown.items) old new path
ComesOfFile becomes refuses mode old new path (event.Refused refusal) =
    IsRefused refuses old path refusal × Same old new
ComesOfFile becomes refuses mode old new path (event.Failed reason) = HasNone old path × Same old new
ComesOfFile becomes refuses mode old new path event.OutOfMemory = Same old new

-- what comes of a text of the standard input: where files are written, what it becomes is printed
abbrev pub ComesOfText : (List ℕ → List ℕ → Type 0) → (List ℕ → Status → List ℕ → Type 0) → Mode → List ℕ
    → List ℕ → Event → Type 0
ComesOfText becomes refuses mode name text event.Unchanged = becomes text text × (mode ≢ Write)
ComesOfText becomes refuses mode name text event.Formatted = ⊥
ComesOfText becomes refuses mode name text (event.Printed formatted) = becomes text formatted.items × (mode ≡ Write)
ComesOfText becomes refuses mode name text (event.WouldChange shown) = (after : List ℕ)
    × becomes text after × (text ≢ after) × IsShown mode name text after shown.items
ComesOfText becomes refuses mode name text (event.Refused refusal) =
    refuses text refusal.status (string_bytes refusal.message)
ComesOfText becomes refuses mode name text (event.Failed reason) = ⊥
ComesOfText becomes refuses mode name text event.OutOfMemory = Unit {0}

-- an error of the standard input, or what comes of its text
abbrev pub ComesOfInput : (List ℕ → List ℕ → Type 0) → (List ℕ → Status → List ℕ → Type 0) → Mode
    → Option (List ℕ) → List ℕ → Event → Type 0
ComesOfInput becomes refuses mode known name event.OutOfMemory = Unit {0}
ComesOfInput becomes refuses mode known name (event.Failed reason) = Unit {0}
ComesOfInput becomes refuses mode known name event = (text : List ℕ) × IsInput known text
    × ComesOfText becomes refuses mode name text event
