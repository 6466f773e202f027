use Rattle.wgsl_model_tidy.specs.LaidOut.{indentation}
use Rattle.wgsl_format_layout.specs.Layouts.{layout_view}
use Rattle.wgsl_format_layout.specs.Lines.{Adds}
use Rattle.wgsl_format_layout.proofs.text.Text.indent.Given as goal

abbrev pub invariant-levels : goal.invariant-levels
invariant-levels l = Adds l.fn.self (indentation (layout_view l.fn.self.line.layout) l.counter) l.self
