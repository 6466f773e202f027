-- What arguments ask for.
use Rattle.std.specs.Prelude.{ℕ, ◌==◌, Bool, true, false, ◌||◌, List, [], ◌∷◌, Option, Some, None, option_map, Result, Ok, Err, codes, flat_map, if◌then◌else◌}
use Rattle.std.specs.List.{slice_split}
use Rattle.std.specs.Option.{unwrap_or}
use Rattle.std.specs.Str.{bytes_eq}
use Rattle.clap.specs.Words.{App, Row, Rule, Kinds, new_app, new_rule, with_rule, matches_of, first_of, all_of, fault_of}
use Rattle.clap.specs.declared.builder.action.ArgAction.TheVariants.{Append}
use Rattle.clap.specs.declared.error.kind.ErrorKind.TheVariants.{InvalidValue, ArgumentConflict}
use Rattle.wgsl_model_minify.specs.Renamed.{Which, no_names, local_names, all_names}

-- an option with one value
abbrev pub setting : List ℕ → Rule
setting name = record (new_rule name) { long = Some name; value_names = 1 }

-- the program for `clap`, which is given no name of its own, with `--help` and `--version`
abbrev pub program : App
program = record {
  top = record (new_app (codes "wgslmin")).top { no_binary_name = true; has_version = true };
  subs = [];
}

-- with a file, `--output` or `-o`, `--names`, `--keep`, which may be there more than once, and
-- `--map`
abbrev pub command : App
command = with_rule (with_rule (with_rule (with_rule (with_rule program (new_rule (codes "FILE")))
    (record (setting (codes "output")) { short = Some 111 })) (setting (codes "names")))
    (record (setting (codes "keep")) { action = Some Append })) (setting (codes "map"))

-- where a text is written: to the standard output, or to the file at a path
pub data Target : Type 0 where
  to_stream : Target
  to_file : List ℕ → Target

-- what is asked for: where the module is, a path or with none the standard input; where its text is
-- written; where the new names are, if they are asked for; which names get new ones, and which stay
pub record Options : Type 0 where
  pub input : Option (List ℕ)
  pub output : Target
  pub map : Option Target
  pub which : Which
  pub keep : List (List ℕ)

-- `-` is no path
abbrev pub path_of : Option (List ℕ) → Option (List ℕ)
path_of None = None
path_of (Some text) = if bytes_eq text (codes "-") then None else Some text

-- `-` and `/dev/stdout` are the standard output
abbrev pub target_of : List ℕ → Target
target_of text = if bytes_eq text (codes "-") then to_stream
    else if bytes_eq text (codes "/dev/stdout") then to_stream
    else to_file text

-- where the text is written: to the standard output, if no place is given
abbrev pub output_of : Option (List ℕ) → Target
output_of None = to_stream
output_of (Some text) = target_of text

-- the names that get new ones, for a value of `--names`
abbrev pub which_of : Option (List ℕ) → Option Which
which_of None = Some all_names
which_of (Some value) = if bytes_eq value (codes "none") then Some no_names
    else if bytes_eq value (codes "locals") then Some local_names
    else if bytes_eq value (codes "all") then Some all_names
    else None

abbrev pub is_comma : ℕ → Bool
is_comma c = c == 44

-- what is asked for by the values that were given
abbrev pub options_of : List Row → Which → Options
options_of rows which = record {
  input = path_of (first_of (codes "FILE") rows);
  output = output_of (first_of (codes "output") rows);
  map = option_map target_of (first_of (codes "map") rows);
  which = which;
  keep = flat_map (slice_split is_comma) (unwrap_or (all_of (codes "keep") rows) []);
}

-- two places are one
abbrev pub is_target : Target → Target → Bool
is_target to_stream to_stream = true
is_target (to_file path) (to_file other) = bytes_eq path other
is_target target other = false

-- a place is the file at a path
abbrev pub is_source : Target → Option (List ℕ) → Bool
is_source target None = false
is_source target (Some path) = is_target target (to_file path)

-- the place of the new names is that of the module or of its text
abbrev pub is_taken : Option Target → Option (List ℕ) → Target → Bool
is_taken None input text = false
is_taken (Some map) input text = is_target map text || is_source map input

-- what is asked for, where the new names have a place of their own
abbrev pub with_own_map : Options → Result Options Kinds
with_own_map options =
    if is_taken options.map options.input options.output then Err (ArgumentConflict ∷ []) else Ok options

abbrev pub asked_with : Option Which → List Row → Result Options Kinds
asked_with None rows = Err (InvalidValue ∷ [])
asked_with (Some which) rows = with_own_map (options_of rows which)

abbrev pub asked_by : Kinds → List Row → Result Options Kinds
asked_by [] rows = asked_with (which_of (first_of (codes "names") rows)) rows
asked_by (kind ∷ kinds) rows = Err (kind ∷ kinds)

-- what arguments ask for, or of which kind their error is; `--help` and `--version` are such kinds
unfoldable pub asked : List (List ℕ) → Result Options Kinds
asked words = asked_by (fault_of command words) (matches_of command words)
