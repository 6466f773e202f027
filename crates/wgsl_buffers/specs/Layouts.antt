-- The layout that a caller chooses.
use Rattle.std.specs.Prelude.{◌==◌, ℕ, Bool, true, false, if◌then◌else◌}
use Rattle.wgsl_model_tidy.specs.Layout.{Layout, Newlines, auto, lf, crlf}
use Rattle.wgsl_buffers.specs.declared.tidied.Choices.{Choices}

-- 0 for the line breaks of the source, 1 for LF, else CR LF
abbrev pub newlines_of : ℕ → Newlines
newlines_of n = if n == 0 then auto else (if n == 1 then lf else crlf)

abbrev pub layout_of : Choices → Layout
layout_of choices = record {
  width = choices.width;
  tabs = if choices.tab == 0 then false else true;
  indent = choices.indent;
  newlines = newlines_of choices.newlines;
}
