use Rattle.std.proofs.Common.{sym}
use Rattle.wgsl_format_layout.proofs.output.Output.opens_last.Goals as goal

pub returns : goal.returns
returns c n k limit first ts f i w =
    c.opens_last.ensures k n limit first c.args.depth ts f i w (sym c.in_ok-inner.ensures)
