use Rattle.std.proofs.Common.{◌∙◌, arith}
use Rattle.wgsl_report.proofs.Columns.{if_ok, short_front}
use Rattle.wgsl_report.proofs.line.last_columns.Goals as goal

pub returns-then-count-le-SIDE : goal.returns-then-count-le-SIDE
returns-then-count-le-SIDE c = if_ok c.from_str.result _ _ (λ text same. same
    ∙ short_front c.args.front.now c.utf8.front
    (omega (arith, c.if-count-le-SIDE.true, c.columns-count.ensures.count))) c.from_str.ensures.ok
