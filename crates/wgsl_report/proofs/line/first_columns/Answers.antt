use Rattle.std.proofs.Common.{◌∙◌, arith}
use Rattle.wgsl_report.proofs.Columns.{if_ok, short_back}
use Rattle.wgsl_report.proofs.line.first_columns.Goals as goal

pub returns-then-columns-le-SIDE : goal.returns-then-columns-le-SIDE
returns-then-columns-le-SIDE c = if_ok c.from_str.result _ _ (λ text same. same
    ∙ short_back c.args.back.now c.utf8.back
    (omega (arith, c.if-columns-le-SIDE.true, c.columns.ensures.count))) c.from_str.ensures.ok
