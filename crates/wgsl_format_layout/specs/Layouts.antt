-- What a user chooses of the layout, as the definitions see it.
use Rattle.std.specs.Prelude.{ℕ, Bool, true, false}
use Rattle.wgsl_model_tidy.specs.Layout as plain
use Rattle.wgsl_format_layout.specs.declared.layout.Layout.{Layout}
use Rattle.wgsl_format_layout.specs.declared.layout.Indent.{Indent}
use Rattle.wgsl_format_layout.specs.declared.layout.Indent.TheVariants.{Spaces, Tab}
use Rattle.wgsl_format_layout.specs.declared.layout.Newlines.{Newlines}
use Rattle.wgsl_format_layout.specs.declared.layout.Newlines.TheVariants.{Auto, Lf, CrLf}

abbrev pub has_tabs : Indent → Bool
has_tabs (Spaces count) = false
has_tabs (Tab columns) = true

abbrev pub level_columns : Indent → ℕ
level_columns (Spaces count) = count
level_columns (Tab columns) = columns

abbrev pub newlines_view : Newlines → plain.Newlines
newlines_view Auto = plain.auto
newlines_view Lf = plain.lf
newlines_view CrLf = plain.crlf

abbrev pub layout_view : Layout → plain.Layout
layout_view l = record {
  width = l.width;
  tabs = has_tabs l.indent;
  indent = level_columns l.indent;
  newlines = newlines_view l.newlines;
}
