-- What some arguments ask for, computed.
use Rattle.std.proofs.Common.{◌≡◌, refl, ℕ, Bool, true, false, List, [], ◌∷◌, Option, Some, None, Result, Ok, Err, codes}
use Rattle.clap.proofs.OnLiterals.{clap_on_literals}
use Rattle.clap.specs.Words.{Kinds}
use Rattle.clap.specs.declared.error.kind.ErrorKind.TheVariants.{DisplayHelp, InvalidValue, TooManyValues, UnknownArgument}
use Rattle.wgsl_choices.specs.declared.Choices.{Choices}
use Rattle.wgsl_choices.specs.declared.IndentSize.TheVariants as indent
use Rattle.wgsl_choices.specs.declared.IndentStyle.TheVariants.{Spaces, Tab}
use Rattle.wgsl_choices.specs.declared.Newlines.TheVariants.{CrLf}
use Rattle.wgsl_choices.specs.Choices.{nothing}
use Rattle.wgsl_format_options.specs.Options.{Options, Source, standard_input, path, asked}
use Rattle.wgsl_format_options.specs.declared.options.Mode.{Mode}
use Rattle.wgsl_format_options.specs.declared.options.Mode.TheVariants.{Write, Check, Diff}

-- files are formatted in this way, with no name of the standard input
abbrev formats : Mode → Bool → List Source → Result Options Kinds
formats mode quiet sources =
    Ok (record { mode = mode; quiet = quiet; stdin_path = None; choices = nothing; sources = sources })

-- the standard input is formatted, with this name and these choices
abbrev formats_with : Option (List ℕ) → Choices → Result Options Kinds
formats_with name choices = Ok (record {
  mode = Write;
  quiet = false;
  stdin_path = name;
  choices = choices;
  sources = standard_input ∷ [];
})

pub no_argument : asked [] ≡ formats Write false (standard_input ∷ [])
unfolding asked clap_on_literals
no_argument = refl

pub paths_in_order : asked (codes "b" ∷ codes "-" ∷ codes "a" ∷ [])
    ≡ formats Write false (path (codes "b") ∷ standard_input ∷ path (codes "a") ∷ [])
unfolding asked clap_on_literals
paths_in_order = refl

pub options_anywhere : asked (codes "a" ∷ codes "--check" ∷ codes "b" ∷ codes "--quiet" ∷ [])
    ≡ formats Check true (path (codes "a") ∷ path (codes "b") ∷ [])
unfolding asked clap_on_literals
options_anywhere = refl

pub after_the_options : asked (codes "--" ∷ codes "--check" ∷ codes "--" ∷ codes "-" ∷ [])
    ≡ formats Write false (path (codes "--check") ∷ path (codes "--") ∷ standard_input ∷ [])
unfolding asked clap_on_literals
after_the_options = refl

pub a_list_and_a_diff : asked (codes "--diff" ∷ codes "--check" ∷ codes "--diff" ∷ [])
    ≡ formats Diff false (standard_input ∷ [])
unfolding asked clap_on_literals
a_list_and_a_diff = refl

pub a_name : asked (codes "--stdin-path" ∷ codes "a" ∷ []) ≡ formats_with (Some (codes "a")) nothing
unfolding asked clap_on_literals
a_name = refl

pub a_name_within : asked (codes "--stdin-path=-a=b" ∷ []) ≡ formats_with (Some (codes "-a=b")) nothing
unfolding asked clap_on_literals
a_name_within = refl

pub the_later_width : asked (codes "--width=0" ∷ codes "--width" ∷ codes "80" ∷ [])
    ≡ formats_with None (record nothing { width = Some 80 })
unfolding asked clap_on_literals
the_later_width = refl

pub spaces : asked (codes "--indent=tab" ∷ codes "--indent" ∷ codes "2" ∷ [])
    ≡ formats_with None (record nothing { style = Some Spaces; size = Some (indent.Columns 2) })
unfolding asked clap_on_literals
spaces = refl

pub a_tab_and_ends : asked (codes "--indent=tab" ∷ codes "--newlines=crlf" ∷ [])
    ≡ formats_with None (record nothing { style = Some Tab; size = Some indent.Tab; newlines = Some CrLf })
unfolding asked clap_on_literals
a_tab_and_ends = refl

pub a_width_too_large : asked (codes "--width" ∷ codes "10000" ∷ []) ≡ Err (InvalidValue ∷ [])
unfolding asked clap_on_literals
a_width_too_large = refl

pub no_width : asked (codes "a" ∷ codes "--width" ∷ []) ≡ Err (InvalidValue ∷ [])
unfolding asked clap_on_literals
no_width = refl

pub a_value_of_a_flag : asked (codes "--check=1" ∷ []) ≡ Err (TooManyValues ∷ [])
unfolding asked clap_on_literals
a_value_of_a_flag = refl

pub an_unknown_option : asked (codes "--chekc" ∷ codes "--help" ∷ []) ≡ Err (UnknownArgument ∷ [])
unfolding asked clap_on_literals
an_unknown_option = refl

pub help_first : asked (codes "--help" ∷ codes "--chekc" ∷ []) ≡ Err (DisplayHelp ∷ [])
unfolding asked clap_on_literals
help_first = refl
