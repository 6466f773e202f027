-- Written by tools/tables/display_answers.py.
use Rattle.std.proofs.Common.{rules}
use Rattle.wgsl_writer.proofs.Within.{printed}
use Rattle.wgsl_tree_statement.proofs.else_clause.ElseClauseDisplay.fmt.Goals as goal

pub returns-clause-writes : goal.returns-clause-writes
returns-clause-writes g c = printed g.W.Write.write_str_gives _ _ _ c.into_inner.result _ _ _
    c.new-out.ensures.to c.new-out.ensures.depth c.write_else_clause-outcome.ensures c.into_inner.ensures
    (λ same. search rules)
