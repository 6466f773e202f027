use Rattle.wgsl_format_layout.proofs.Added.{printable_column}
use Rattle.wgsl_format_layout.proofs.line.printable_width.Goals as goal

pub returns : goal.returns
returns c layout = printable_column layout c.args.text.now c.requires
