-- The lines of the code as plain data.
use Rattle.wgsl_editorconfig.specs.Lines as plain
use Rattle.wgsl_editorconfig.specs.declared.line.Line.{Line}
use Rattle.wgsl_editorconfig.specs.declared.line.Line.TheVariants as line

abbrev pub line_view : Line → plain.Line
line_view (line.Section glob) = plain.section glob.now
line_view (line.Property key value) = plain.property (record { key = key; value = value.now })
line_view line.Other = plain.other
