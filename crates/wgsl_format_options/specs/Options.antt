-- What arguments ask for.
use Rattle.std.specs.Prelude.{ℕ, Bool, true, false, List, [], ◌∷◌, Option, Some, None, Result, Ok, Err, codes, map, if◌then◌else◌}
use Rattle.std.specs.Option.{unwrap_or}
use Rattle.std.specs.Str.{bytes_eq}
use Rattle.clap.specs.Words.{Row, Kinds, matches_of, first_of, all_of, fault_of}
use Rattle.clap.specs.declared.error.kind.ErrorKind.TheVariants.{InvalidValue}
use Rattle.wgsl_choices.specs.declared.Choices.{Choices}
use Rattle.wgsl_format_options.specs.Chosen.{choices_of}
use Rattle.wgsl_format_options.specs.Command.{command}
use Rattle.wgsl_format_options.specs.declared.options.Mode.{Mode}
use Rattle.wgsl_format_options.specs.declared.options.Mode.TheVariants.{Write, Check, Diff}

-- where a text is read: on the standard input, or from the files at a path
pub data Source : Type 0 where
  standard_input : Source
  path : List ℕ → Source

-- `-` is the standard input
abbrev pub source_of : List ℕ → Source
source_of text = if bytes_eq text (codes "-") then standard_input else path text

-- what is asked for: what is done with files, and whether no summary is printed; the path of the
-- standard input, if it has one; what is chosen of the layout; and where texts are read
pub record Options : Type 0 where
  pub mode : Mode
  pub quiet : Bool
  pub stdin_path : Option (List ℕ)
  pub choices : Choices
  pub sources : List Source

-- files are written in place, listed where they would change, or shown with what would change: a
-- diff lists them too
abbrev pub mode_of : Bool → Bool → Mode
mode_of check true = Diff
mode_of true false = Check
mode_of false false = Write

-- an option without a value is given, by what `clap` has as its value
abbrev pub is_given : Option (List ℕ) → Bool
is_given None = false
is_given (Some value) = bytes_eq value (codes "true")

-- what is asked for by the values that were given, with these choices
abbrev pub options_of : List Row → Choices → Options
options_of rows choices = record {
  mode = mode_of (is_given (first_of (codes "check") rows)) (is_given (first_of (codes "diff") rows));
  quiet = is_given (first_of (codes "quiet") rows);
  stdin_path = first_of (codes "stdin-path") rows;
  choices = choices;
  sources = map source_of (unwrap_or (all_of (codes "PATH") rows) []);
}

abbrev pub asked_with : Option Choices → List Row → Result Options Kinds
asked_with None rows = Err (InvalidValue ∷ [])
asked_with (Some choices) rows = Ok (options_of rows choices)

-- what the values choose of the layout
abbrev pub chosen_by : List Row → Option Choices
chosen_by rows = choices_of (first_of (codes "width") rows) (first_of (codes "indent") rows)
    (first_of (codes "newlines") rows)

abbrev pub asked_by : Kinds → List Row → Result Options Kinds
asked_by [] rows = asked_with (chosen_by rows) rows
asked_by (kind ∷ kinds) rows = Err (kind ∷ kinds)

-- what arguments ask for, or of which kind their error is; `--help` and `--version` are such kinds
unfoldable pub asked : List (List ℕ) → Result Options Kinds
asked words = asked_by (fault_of command words) (matches_of command words)
