-- What values say.
use Rattle.std.specs.Prelude.{ℕ, Bool, true, false, List, Option, Some, None, codes, if◌then◌else◌}
use Rattle.std.specs.Option.{option_map}
use Rattle.wgsl_choices.specs.declared.IndentSize.{IndentSize}
use Rattle.wgsl_choices.specs.declared.IndentSize.TheVariants as indent
use Rattle.wgsl_choices.specs.declared.IndentStyle.{IndentStyle}
use Rattle.wgsl_choices.specs.declared.IndentStyle.TheVariants.{Spaces, Tab}
use Rattle.wgsl_choices.specs.declared.Newlines.{Newlines}
use Rattle.wgsl_choices.specs.declared.Newlines.TheVariants.{Lf, CrLf}
use Rattle.wgsl_choices.specs.Numbers.{width_of, size_of}
use Rattle.wgsl_editorconfig.specs.Keys.{is_word}

-- what a value says that may be understood: nothing, if it is not; `unset`, that there is none
abbrev pub said : {T : Type 0} → List ℕ → Option T → Option (Option T)
said value understood = if is_word (codes "unset") value then Some None else option_map Some understood

-- whether files in the folders above are not read
abbrev pub root_of : List ℕ → Option Bool
root_of value =
    if is_word (codes "true") value then Some true
    else if is_word (codes "false") value then Some false
    else None

-- what a line is indented with
abbrev pub style_of : List ℕ → Option IndentStyle
style_of value =
    if is_word (codes "tab") value then Some Tab
    else if is_word (codes "space") value then Some Spaces
    else None

-- how many columns an indentation has: as many as a tab, or so many
abbrev pub indent_size_of : List ℕ → Option IndentSize
indent_size_of value = if is_word (codes "tab") value then Some indent.Tab
    else option_map indent.Columns (size_of value)

-- how many columns a tab has
abbrev pub tab_width_of : List ℕ → Option ℕ
tab_width_of value = size_of value

-- how many columns a line has at most; with 0 no line is broken
abbrev pub line_length_of : List ℕ → Option ℕ
line_length_of value = if is_word (codes "off") value then Some 0 else width_of value

-- what ends a line
abbrev pub newlines_of : List ℕ → Option Newlines
newlines_of value =
    if is_word (codes "lf") value then Some Lf
    else if is_word (codes "crlf") value then Some CrLf
    else None
