-- What comes of a text, and what is reported of it.
use Rattle.std.specs.Prelude.{◌≡◌, ℕ, Bool, true, false, List, [], ◌++◌, Option, Some, None, codes, string_bytes}
use Rattle.std.specs.Borrow.{Bor}
use Rattle.wgsl_format_options.specs.declared.options.Mode.{Mode}
use Rattle.wgsl_format_options.specs.declared.options.Mode.TheVariants.{Write, Check, Diff}
use Rattle.wgsl_diff.specs.Diffs.{Line, Hunk, IsScript, AreHunks}
use Rattle.wgsl_diff.specs.Lines.{lines_of}
use Rattle.wgsl_diff.specs.Printing.{print_diff}
use Rattle.wgsl_files.specs.declared.file.Mode as declared_mode
use Rattle.wgsl_files.specs.declared.file.Mode.TheVariants as store
use Rattle.wgsl_files.specs.declared.status.Status.{Status}
use Rattle.wgsl_files.specs.declared.status.Status.TheVariants as status
use Rattle.wgsl_format_files.specs.declared.event.Event.{Event}
use Rattle.wgsl_format_files.specs.declared.event.Event.TheVariants as event

-- the status that what came of a text calls for
abbrev pub status_of : Event → Status
status_of event.Unchanged = status.Success
status_of event.Formatted = status.Success
status_of (event.Printed text) = status.Success
status_of (event.WouldChange text) = status.WouldChange
status_of (event.Refused refusal) = refusal.status
status_of (event.Failed reason) = status.Failed
status_of event.OutOfMemory = status.OutOfMemory

-- whether the text changes, or would
abbrev pub is_changed : Event → Bool
is_changed event.Unchanged = false
is_changed event.Formatted = true
is_changed (event.Printed text) = true
is_changed (event.WouldChange text) = true
is_changed (event.Refused refusal) = false
is_changed (event.Failed reason) = false
is_changed event.OutOfMemory = false

-- whether it is an error
abbrev pub is_failed : Event → Bool
is_failed event.Unchanged = false
is_failed event.Formatted = false
is_failed (event.Printed text) = false
is_failed (event.WouldChange text) = false
is_failed (event.Refused refusal) = true
is_failed (event.Failed reason) = true
is_failed event.OutOfMemory = true

-- what the output has of it: a text that is printed, or that reports a change
abbrev pub shown_by : Event → List ℕ
shown_by event.Unchanged = []
shown_by event.Formatted = []
shown_by (event.Printed text) = text.items
shown_by (event.WouldChange text) = text.items
shown_by (event.Refused refusal) = []
shown_by (event.Failed reason) = []
shown_by event.OutOfMemory = []

-- what follows the name of its file in the message, in two parts
abbrev pub message_of : Event → Option (List ℕ × List ℕ)
message_of event.Unchanged = None
message_of event.Formatted = None
message_of (event.Printed text) = None
message_of (event.WouldChange text) = None
message_of (event.Refused refusal) = Some ([], string_bytes refusal.message)
message_of (event.Failed reason) = Some (codes ": error: ", string_bytes reason)
message_of event.OutOfMemory = Some (codes ": error: ", codes "out of memory")

-- the texts of a pair of references
abbrev pub pair_copied : Option (Bor (List ℕ) × Bor (List ℕ)) → Option (List ℕ × List ℕ)
pair_copied None = None
pair_copied (Some pair) = Some (pair.0.now, pair.1.now)

-- a line of the output: the name of a file
abbrev pub line_of : List ℕ → List ℕ
line_of name = name ++ codes "\n"

-- the text is a unified diff of the file of this name: the hunks of all lines of both texts
pub record IsDiff (name before after text : List ℕ) : Type 0 where
  pub lines : List Line
  pub script : IsScript (lines_of before) (lines_of after) lines
  pub hunks : List Hunk
  pub grouped : AreHunks 0 0 hunks lines
  pub printed : text ≡ print_diff name hunks

-- what reports a change: the name of the file, or a diff
abbrev pub IsShown : Mode → List ℕ → List ℕ → List ℕ → List ℕ → Type 0
IsShown Write name before after text = ⊥
IsShown Check name before after text = text ≡ line_of name
IsShown Diff name before after text = IsDiff name before after text

-- what comes of a text that changes: the file has the new one, or what reports the change,
-- unless an allocation failed
abbrev pub IsToldOfChange : Mode → List ℕ → List ℕ → List ℕ → Event → Type 0
IsToldOfChange mode name before after event.Unchanged = ⊥
IsToldOfChange mode name before after event.Formatted = mode ≡ Write
IsToldOfChange mode name before after (event.Printed text) = ⊥
IsToldOfChange mode name before after (event.WouldChange text) = IsShown mode name before after text.items
IsToldOfChange mode name before after (event.Refused refusal) = ⊥
IsToldOfChange mode name before after (event.Failed reason) = ⊥
IsToldOfChange Write name before after event.OutOfMemory = ⊥
IsToldOfChange Check name before after event.OutOfMemory = Unit {0}
IsToldOfChange Diff name before after event.OutOfMemory = Unit {0}

-- what is done with files of a store
abbrev pub store_mode_of : Mode → declared_mode.Mode
store_mode_of Write = store.InPlace
store_mode_of Check = store.Check
store_mode_of Diff = store.Check

-- a text could not be read or written, or an allocation failed
abbrev pub IsFailure : Event → Type 0
IsFailure event.Unchanged = ⊥
IsFailure event.Formatted = ⊥
IsFailure (event.Printed text) = ⊥
IsFailure (event.WouldChange text) = ⊥
IsFailure (event.Refused refusal) = ⊥
IsFailure (event.Failed reason) = Unit {0}
IsFailure event.OutOfMemory = Unit {0}

-- the message of an error, after the name of its file
abbrev pub told_after : List ℕ → Option (List ℕ × List ℕ) → List ℕ
told_after name None = []
told_after name (Some message) = (name ++ message.0) ++ (message.1 ++ codes "\n")

-- what the errors have of what came of the file of this name
abbrev pub told_of : List ℕ → Event → List ℕ
told_of name event = told_after name (message_of event)

-- a count of one, if so
abbrev pub one_if : Bool → ℕ
one_if true = 1
one_if false = 0
