-- The layout that a user chooses.
use Rattle.std.specs.Prelude.{ℕ, Bool, true, false, Option, Some, None}
use Rattle.std.specs.Option.{option_or, unwrap_or}
use Rattle.wgsl_choices.specs.declared.Choices.{Choices}
use Rattle.wgsl_choices.specs.declared.IndentSize.{IndentSize}
use Rattle.wgsl_choices.specs.declared.IndentSize.TheVariants as indent
use Rattle.wgsl_choices.specs.declared.IndentStyle.{IndentStyle}
use Rattle.wgsl_choices.specs.declared.IndentStyle.TheVariants.{Spaces, Tab}
use Rattle.wgsl_choices.specs.declared.Newlines.{Newlines}
use Rattle.wgsl_choices.specs.declared.Newlines.TheVariants.{Auto, Lf, CrLf}
use Rattle.wgsl_model_tidy.specs.Layout as plain
use Rattle.wgsl_model_tidy.specs.Layout.{Layout, standard}

-- lines are indented with tabs
abbrev pub has_tabs : Option IndentStyle → Bool
has_tabs None = false
has_tabs (Some Spaces) = false
has_tabs (Some Tab) = true

-- how many columns a size is, where a tab has so many
abbrev pub columns_of : Option IndentSize → Option ℕ → Option ℕ
columns_of None tab_width = None
columns_of (Some indent.Tab) tab_width = tab_width
columns_of (Some (indent.Columns count)) tab_width = Some count

-- how many columns a level has: of tabs those of a tab, or else those of the size
abbrev pub columns_chosen : Bool → Choices → Option ℕ
columns_chosen true choices = option_or choices.tab_width (columns_of choices.size choices.tab_width)
columns_chosen false choices = columns_of choices.size choices.tab_width

-- with what lines end
abbrev pub newlines_of : Option Newlines → plain.Newlines
newlines_of None = standard.newlines
newlines_of (Some Auto) = plain.auto
newlines_of (Some Lf) = plain.lf
newlines_of (Some CrLf) = plain.crlf

-- the layout of what is chosen, and what is standard where a part is left open
abbrev pub layout_of : Choices → Layout
layout_of choices = record {
  width = unwrap_or choices.width standard.width;
  tabs = has_tabs choices.style;
  indent = unwrap_or (columns_chosen (has_tabs choices.style) choices) standard.indent;
  newlines = newlines_of choices.newlines;
}
