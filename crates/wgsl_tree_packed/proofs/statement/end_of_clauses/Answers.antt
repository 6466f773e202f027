use Rattle.std.proofs.Common.{sym, ◌∙◌}
use Rattle.wgsl_tree_packed.proofs.Statements.{clauses_end}
use Rattle.wgsl_tree_packed.proofs.statement.end_of_clauses.Goals as goal

pub returns-else-is_empty : goal.returns-else-is_empty
returns-else-is_empty c = clauses_end c.args.clauses.now.items c.as_slice.result.now
    c.as_slice.ensures.value (sym c.is_empty.ensures ∙ c.if-is_empty.false)
