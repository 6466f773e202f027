-- The definitions that the proofs of the functions open, and the lemmas that they cite.
use Rattle.std.specs.Prelude.{⊤}
use Rattle.wgsl_read_statement.proofs.Blocks.{statements_turn, statement_rest_from, statements_are}
use Rattle.wgsl_theory_grammar.specs.StatementRules.{braced_part_at}
use Rattle.grammar.specs.States.{take}
use Rattle.wgsl_read_statement.proofs.IfChains.{elses_turn, else_rest_from, elses_are, else_if_clause_is, else_clause_is}
use Rattle.wgsl_read_statement.proofs.LoopItems.{loop_items_turn, loop_rest_from, loop_items_are}
use Rattle.wgsl_read_statement.proofs.ContinuingItems.{continuing_items_turn, continuing_rest_from, continuing_items_are}
use Rattle.wgsl_read_statement.proofs.Statements.{statement_parts, statement_by_parts}
use Rattle.wgsl_read_statement.specs.Statements.{statement_part_at, statement_after_at}
use Rattle.wgsl_read_statement.proofs.Switches.{clauses_parts, clauses_turn, clauses_by_parts, clauses_are}
use Rattle.wgsl_theory_grammar.proofs.StatementEquations.{braced_part_is}
use Rattle.std.proofs.lemmas.List.{map_push}

unfoldable pub definitions : ⊤
unfolding braced_part_at statements_turn take elses_turn loop_items_turn continuing_items_turn
    statement_parts statement_after_at statement_part_at clauses_parts clauses_turn
definitions = tt

pub ruleset lemmas = (
  braced_part_is,
  statement_rest_from,
  statements_are,
  map_push,
  else_rest_from,
  elses_are,
  else_if_clause_is,
  else_clause_is,
  loop_rest_from,
  loop_items_are,
  continuing_rest_from,
  continuing_items_are,
  statement_by_parts,
  clauses_by_parts,
  clauses_are,
)
