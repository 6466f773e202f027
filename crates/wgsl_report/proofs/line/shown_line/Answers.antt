use Rattle.std.proofs.Common.{◌∙◌, arith}
use Rattle.wgsl_report.proofs.Columns.{if_ok, whole_line}
use Rattle.wgsl_report.proofs.line.shown_line.Goals as goal

pub returns-then-before-columns-le-WIDEST : goal.returns-then-before-columns-le-WIDEST
returns-then-before-columns-le-WIDEST c = if_ok c.marked.result _ _ (λ text same. same
    ∙ whole_line c.args.front.now c.args.back.now c.columns-before.result c.args.marks c.max.result
    c.utf8.front c.utf8.back c.columns-before.ensures.count c.max.ensures
    (omega (arith, c.if-before-columns-le-WIDEST.true, c.columns.ensures.count))) c.marked.ensures
