-- What options choose of the layout.
use Rattle.std.specs.Prelude.{ℕ, List, Option, Some, None, codes, option_and_then, if◌then◌else◌}
use Rattle.std.specs.Option.{option_map}
use Rattle.std.specs.Str.{bytes_eq}
use Rattle.wgsl_choices.specs.declared.Choices.{Choices}
use Rattle.wgsl_choices.specs.declared.IndentSize.TheVariants as indent
use Rattle.wgsl_choices.specs.declared.IndentStyle.TheVariants.{Spaces, Tab}
use Rattle.wgsl_choices.specs.declared.Newlines.{Newlines}
use Rattle.wgsl_choices.specs.declared.Newlines.TheVariants.{Auto, Lf, CrLf}
use Rattle.wgsl_choices.specs.Choices.{nothing}
use Rattle.wgsl_choices.specs.Numbers.{width_of, size_of}

-- what ends a line
abbrev pub newlines_of : List ℕ → Option Newlines
newlines_of value =
    if bytes_eq value (codes "auto") then Some Auto
    else if bytes_eq value (codes "lf") then Some Lf
    else if bytes_eq value (codes "crlf") then Some CrLf
    else None

-- choices with the width that a value gives, if it gives one
abbrev pub with_width : Choices → Option (List ℕ) → Option Choices
with_width choices None = Some choices
with_width choices (Some value) = option_map (λ it. record choices { width = Some it }) (width_of value)

-- choices with the indentation that a value gives: a tab, or a number of spaces
abbrev pub with_indent : Choices → Option (List ℕ) → Option Choices
with_indent choices None = Some choices
with_indent choices (Some value) =
    if bytes_eq value (codes "tab") then Some (record choices { style = Some Tab; size = Some indent.Tab })
    else option_map (λ it. record choices { style = Some Spaces; size = Some (indent.Columns it) }) (size_of value)

-- choices with the ends of lines that a value gives
abbrev pub with_newlines : Choices → Option (List ℕ) → Option Choices
with_newlines choices None = Some choices
with_newlines choices (Some value) = option_map (λ it. record choices { newlines = Some it }) (newlines_of value)

-- what the values of `--width`, `--indent` and `--newlines` choose; each may be left out
abbrev pub choices_of : Option (List ℕ) → Option (List ℕ) → Option (List ℕ) → Option Choices
choices_of width indent newlines =
    option_and_then (λ chosen. option_and_then (λ more. with_newlines more newlines)
    (with_indent chosen indent)) (with_width nothing width)
