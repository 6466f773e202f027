use Rattle.std.proofs.Common.{◌*◌, ap, ◌∙◌}
use Rattle.wgsl_format_layout.specs.Layouts.{layout_view}
use Rattle.wgsl_format_layout.proofs.LineColumns.{line_begins}
use Rattle.wgsl_format_layout.proofs.layout.Layout.line_column.Goals as goal

pub returns-in-Some : goal.returns-in-Some
returns-in-Some c = c.in-Some.ensures.1 ∙ ap (λ n. n * c.args.depth) c.indent_columns.ensures
    ∙ line_begins (layout_view c.args.self) c.args.depth
