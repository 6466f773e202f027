-- What a file says of WGSL files.
use Rattle.std.specs.Prelude.{ℕ, Bool, true, false, List, [], ◌∷◌, Option, None}
use Rattle.std.specs.Option.{unwrap_or}
use Rattle.wgsl_choices.specs.declared.Choices.{Choices}
use Rattle.wgsl_choices.specs.declared.IndentSize.{IndentSize}
use Rattle.wgsl_choices.specs.declared.IndentStyle.{IndentStyle}
use Rattle.wgsl_choices.specs.declared.Newlines.{Newlines}
use Rattle.wgsl_editorconfig.specs.declared.reading.Properties.{Properties}
use Rattle.wgsl_editorconfig.specs.declared.key.Key.{Key}
use Rattle.wgsl_editorconfig.specs.declared.key.Key.TheVariants as keys
use Rattle.wgsl_editorconfig.specs.Values.{said, root_of, style_of, indent_size_of, tab_width_of, line_length_of, newlines_of}
use Rattle.wgsl_editorconfig.specs.Globs.{matches_wgsl}
use Rattle.wgsl_editorconfig.specs.Lines.{Property, Line, section, property, other, lines}

-- the properties before the first section
abbrev pub preamble : List Line → List Property
preamble [] = []
preamble (section glob ∷ rest) = []
preamble (property it ∷ rest) = it ∷ preamble rest
preamble (other ∷ rest) = preamble rest

-- a property before others, if the section is for WGSL files
abbrev pub if_applies : Bool → Property → List Property → List Property
if_applies true it rest = it ∷ rest
if_applies false it rest = rest

-- the properties of the sections for WGSL files, where the first lines are in one or not
abbrev pub applying : Bool → List Line → List Property
applying here [] = []
applying here (section glob ∷ rest) = applying (matches_wgsl glob) rest
applying here (property it ∷ rest) = if_applies here it (applying here rest)
applying here (other ∷ rest) = applying here rest

-- what a property says, if it is of this: whether files in the folders above are not read
abbrev pub says_root : Key → List ℕ → Option (Option Bool)
says_root keys.Root value = said value (root_of value)
says_root _ value = None

-- what a line is indented with
abbrev pub says_style : Key → List ℕ → Option (Option IndentStyle)
says_style keys.IndentStyle value = said value (style_of value)
says_style _ value = None

-- how many columns an indentation has
abbrev pub says_size : Key → List ℕ → Option (Option IndentSize)
says_size keys.IndentSize value = said value (indent_size_of value)
says_size _ value = None

-- how many columns a tab has
abbrev pub says_tab_width : Key → List ℕ → Option (Option ℕ)
says_tab_width keys.TabWidth value = said value (tab_width_of value)
says_tab_width _ value = None

-- how many columns a line has at most
abbrev pub says_width : Key → List ℕ → Option (Option ℕ)
says_width keys.MaxLineLength value = said value (line_length_of value)
says_width _ value = None

-- what ends a line
abbrev pub says_newlines : Key → List ℕ → Option (Option Newlines)
says_newlines keys.EndOfLine value = said value (newlines_of value)
says_newlines _ value = None

-- what the last property of this says, or what was said before
abbrev pub last_said : {T : Type 0} → (Key → List ℕ → Option (Option T)) → Option T → List Property → Option T
last_said says before [] = before
last_said says before (it ∷ rest) = last_said says (unwrap_or (says it.key it.value) before) rest

-- what properties choose of the layout
abbrev pub choices_of : List Property → Choices
choices_of all = record {
  width = last_said says_width None all;
  style = last_said says_style None all;
  size = last_said says_size None all;
  tab_width = last_said says_tab_width None all;
  newlines = last_said says_newlines None all;
}

-- what a file with a text says: before the first section no section applies
abbrev pub properties_of : List ℕ → Properties
properties_of text = record {
  root = unwrap_or (last_said says_root None (preamble (lines text))) false;
  choices = choices_of (applying false (lines text));
}
