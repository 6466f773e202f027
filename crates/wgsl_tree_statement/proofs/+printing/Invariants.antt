use Rattle.std.proofs.Common.{take, codes, ◌≡◌}
use Rattle.wgsl_writer.specs.Writing.{Wrote}
use Rattle.wgsl_tree_simple.proofs.Blocks.{block_lines, is_nil}
use Rattle.wgsl_tree_statement.proofs.Lines.{statement_lines, clause_lines, else_if_text}
use Rattle.wgsl_tree_statement.proofs.+printing.Given as goal

abbrev pub invariant-compound::write_opened-statements : goal.invariant-compound::write_opened-statements
invariant-compound::write_opened-statements g l =
    let lines = statement_lines (take l.statement-index l.statement-items) in
    (l.first ≡ is_nil lines) × Wrote g.W.Write.write_str_gives l.initial.out (block_lines (codes "\n") lines) l.out

abbrev pub invariant-switch::write_switch-clauses : goal.invariant-switch::write_switch-clauses
invariant-switch::write_switch-clauses g l =
    let lines = clause_lines (take l.clause-index l.clause-items) in
    (l.first ≡ is_nil lines) × Wrote g.W.Write.write_str_gives l.initial.out (block_lines (codes "\n") lines) l.out

abbrev pub invariant-if_statement::write_if-clauses : goal.invariant-if_statement::write_if-clauses
invariant-if_statement::write_if-clauses g l = Wrote g.W.Write.write_str_gives l.initial.out
    (else_if_text (take l.clause-index l.clause-items)) l.out
