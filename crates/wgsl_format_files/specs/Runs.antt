-- A run over inputs: what comes of each, what is written, and the status.
use Rattle.std.specs.Prelude.{◌≡◌, ◌≤◌, ℕ, ◌+◌, max, Bool, true, false, List, [], ◌∷◌, ◌++◌, length, Option, codes, not, nat_lt, ◌&&◌, if◌then◌else◌}
use Rattle.std.specs.List.{flat_map}
use Rattle.std.specs.Fmt.{decimal}
use Rattle.wgsl_format_options.specs.Options.{Source, standard_input, path}
use Rattle.wgsl_format_options.specs.declared.options.Mode.{Mode}
use Rattle.wgsl_format_options.specs.declared.options.Mode.TheVariants.{Write, Check, Diff}
use Rattle.wgsl_files.specs.declared.status.Status.{Status}
use Rattle.wgsl_files.specs.Files.{Files}
use Rattle.wgsl_files.specs.Statuses.{code_of}
use Rattle.wgsl_format_files.specs.declared.event.Event.{Event}
use Rattle.wgsl_format_files.specs.Events.{status_of, is_changed, is_failed, shown_by, told_of, one_if}
use Rattle.wgsl_format_files.specs.Files.{ComesOfFile, ComesOfInput}
use Rattle.wgsl_format_files.specs.Inputs.{name_in}
use Rattle.wgsl_program.specs.Written.{Wrote}

-- the files of a store, and what a reader has to give where that is known
pub record State : Type 0 where
  pub files : Files
  pub left : Option (List ℕ)

abbrev pub state : Files → Option (List ℕ) → State
state files left = record { files = files; left = left }

-- what comes of one input, whose text becomes another by the files that there are: of the standard
-- input, which changes no file; of a file, for which nothing is read of the standard input
abbrev pub ComesOf : (Files → Source → List ℕ → List ℕ → Type 0) → (List ℕ → Status → List ℕ → Type 0) → Mode
    → List ℕ → State → State → Source → Event → Type 0
ComesOf becomes refuses mode stdin_name old new standard_input event =
    ComesOfInput (becomes old.files standard_input) refuses mode old.left stdin_name event × (new.files ≡ old.files)
ComesOf becomes refuses mode stdin_name old new (path name) event =
    ComesOfFile (becomes old.files (path name)) refuses mode old.files new.files name event × (new.left ≡ old.left)

-- what came of an input, with its name
pub record Came : Type 0 where
  pub name : List ℕ
  pub event : Event

-- more is written, unless something could not be written before
abbrev pub WroteMore : Bool → Bool → List ℕ → Option (List ℕ) → Option (List ℕ) → Type 0
WroteMore true more text old new = Wrote more text old new
WroteMore false more text old new = (more ≡ false) × (new ≡ old)

-- what came of each input, in order, one after another
abbrev pub ComesOfAll : (Files → Source → List ℕ → List ℕ → Type 0) → (List ℕ → Status → List ℕ → Type 0)
    → Mode → List ℕ → State → State → List Source → List Came → Type 0
ComesOfAll becomes refuses mode stdin_name old new [] came = (came ≡ []) × (new ≡ old)
ComesOfAll becomes refuses mode stdin_name old new (source ∷ sources) came =
    (between : State) × (event : Event) × (rest : List Came)
    × (came ≡ record { name = name_in stdin_name source; event = event } ∷ rest)
    × ComesOf becomes refuses mode stdin_name old between source event
    × ComesOfAll becomes refuses mode stdin_name between new sources rest

-- the highest status that is called for
abbrev pub highest : List Came → ℕ
highest [] = 0
highest (first ∷ rest) = max (code_of (status_of first.event)) (highest rest)

-- how many events pass a test
abbrev pub count_of : (Event → Bool) → List Came → ℕ
count_of passes [] = 0
count_of passes (first ∷ rest) = one_if (passes first.event) + count_of passes rest

-- what the output has of it all
abbrev pub shown_all : List Came → List ℕ
shown_all came = flat_map (λ one. shown_by one.event) came

-- the messages
abbrev pub told_all : List Came → List ℕ
told_all came = flat_map (λ one. told_of one.name one.event) came

-- what is said of the files that change
abbrev pub changed_words : Mode → List ℕ
changed_words Write = codes " formatted, "
changed_words Check = codes " would change, "
changed_words Diff = codes " would change, "

-- how many files there are, how many of them change, and how many have errors
abbrev pub counts_of : Mode → ℕ → ℕ → ℕ → List ℕ
counts_of mode count changed failed = decimal count
    ++ (codes " files, " ++ (decimal changed ++ (changed_words mode ++ (decimal failed ++ codes " with errors\n"))))

-- there is a summary for more than one file, unless it is not wanted
abbrev pub has_summary : Bool → ℕ → Bool
has_summary quiet count = not quiet && nat_lt 1 count

abbrev pub summary : Mode → Bool → ℕ → ℕ → ℕ → List ℕ
summary mode quiet count changed failed = if has_summary quiet count then counts_of mode count changed failed else []

-- the status is the one that is called for, unless something could not be written, or an allocation
-- failed for the summary: then it is 4 at least
pub record IsStatus (whole : Bool) (called status : ℕ) : Type 0 where
  pub least : called ≤ status
  pub called_for : whole ≡ true → status ≡ called
  pub not_written : whole ≡ false → 4 ≤ status

-- a run over inputs from one state to another, with what the output and the errors hold before and
-- after it, and its status
pub record Runs (becomes : Files → Source → List ℕ → List ℕ → Type 0) (refuses : List ℕ → Status → List ℕ → Type 0)
    (mode : Mode) (quiet : Bool) (stdin_name : List ℕ) (inputs : List Source) (old new : State)
    (output written errors told : Option (List ℕ)) (status : ℕ) : Type 0 where
  pub came : List Came
  pub each : ComesOfAll becomes refuses mode stdin_name old new inputs came
  pub whole : Bool
  pub shown : Wrote whole (shown_all came) output written
  pub messages : Wrote whole (told_all came ++ summary mode quiet (length came)
      (count_of is_changed came) (count_of is_failed came)) errors told
  pub ended : IsStatus whole (highest came) status
