use Rattle.std.proofs.Common.{◌≡◌, ◌≤◌, ◌<◌, ◌+◌, ◌*◌, length, map}
use Rattle.wgsl_tree_statement.specs.View.{statement_node_view, else_if_clause_view, switch_clause_view}
use Rattle.wgsl_theory_grammar.specs.Factored.{FactoredSymbol.further, Further.statement_rest, Further.loop_rest, Further.continuing_rest, Further.else_rest}
use Rattle.wgsl_theory_grammar.specs.Reader.{reader}
use Rattle.wgsl_read_cursor.specs.Reading.{state}
use Rattle.wgsl_read_statement.specs.Switches.{clauses_at}
use Rattle.wgsl_read_statement.proofs.Blocks.{statements_from}
use Rattle.wgsl_read_statement.proofs.IfChains.{elses_from}
use Rattle.wgsl_read_statement.proofs.Switches.{clauses_from}
use Rattle.wgsl_read_statement.proofs.LoopItems.{loop_items_from}
use Rattle.wgsl_read_statement.proofs.ContinuingItems.{continuing_items_from}
use Rattle.wgsl_read_statement.proofs.+statement.Given as goal

abbrev pub decreases-block::parse_statement_rest : goal.decreases-block::parse_statement_rest
decreases-block::parse_statement_rest l = 9 * length (state l.tokens.now).rest + 8

abbrev pub decreases-loops::parse_loop_rest : goal.decreases-loops::parse_loop_rest
decreases-loops::parse_loop_rest l = 9 * length (state l.tokens.now).rest + 8

abbrev pub decreases-loops::parse_continuing_rest : goal.decreases-loops::parse_continuing_rest
decreases-loops::parse_continuing_rest l = 9 * length (state l.tokens.now).rest + 8

abbrev pub decreases-statement::parse_statement : goal.decreases-statement::parse_statement
decreases-statement::parse_statement l = 9 * length (state l.tokens.now).rest + 7

abbrev pub decreases-statement::parse_statement_after : goal.decreases-statement::parse_statement_after
decreases-statement::parse_statement_after l = 9 * length (state l.tokens.now).rest + 6

abbrev pub decreases-statement::parse_statement_part : goal.decreases-statement::parse_statement_part
decreases-statement::parse_statement_part l = 9 * length (state l.tokens.now).rest + 5

abbrev pub decreases-statement::parse_braced_part : goal.decreases-statement::parse_braced_part
decreases-statement::parse_braced_part l = 9 * length (state l.tokens.now).rest + 4

abbrev pub decreases-block::parse_block_part : goal.decreases-block::parse_block_part
decreases-block::parse_block_part l = 9 * length (state l.tokens.now).rest

abbrev pub decreases-if_chain::parse_if_part : goal.decreases-if_chain::parse_if_part
decreases-if_chain::parse_if_part l = 9 * length (state l.tokens.now).rest

abbrev pub decreases-switch::parse_switch_part : goal.decreases-switch::parse_switch_part
decreases-switch::parse_switch_part l = 9 * length (state l.tokens.now).rest

abbrev pub decreases-loops::parse_loop_part : goal.decreases-loops::parse_loop_part
decreases-loops::parse_loop_part l = 9 * length (state l.tokens.now).rest

abbrev pub decreases-loops::parse_for_part : goal.decreases-loops::parse_for_part
decreases-loops::parse_for_part l = 9 * length (state l.tokens.now).rest

abbrev pub decreases-loops::parse_while_part : goal.decreases-loops::parse_while_part
decreases-loops::parse_while_part l = 9 * length (state l.tokens.now).rest

abbrev pub decreases-block::parse_compound_statement : goal.decreases-block::parse_compound_statement
decreases-block::parse_compound_statement l = 9 * length (state l.tokens.now).rest

abbrev pub decreases-if_chain::parse_else_rest : goal.decreases-if_chain::parse_else_rest
decreases-if_chain::parse_else_rest l = 9 * length (state l.tokens.now).rest

abbrev pub decreases-switch::parse_clauses : goal.decreases-switch::parse_clauses
decreases-switch::parse_clauses l = 9 * length (state l.tokens.now).rest + 1

abbrev pub decreases-switch::parse_switch_clause : goal.decreases-switch::parse_switch_clause
decreases-switch::parse_switch_clause l = 9 * length (state l.tokens.now).rest

abbrev pub decreases-loops::parse_continuing_part : goal.decreases-loops::parse_continuing_part
decreases-loops::parse_continuing_part l = 9 * length (state l.tokens.now).rest

abbrev pub invariant-block::parse_statement_rest-statements : goal.invariant-block::parse_statement_rest-statements
invariant-block::parse_statement_rest-statements l =
    record {
      whole : statements_from (map statement_node_view l.statements.items) (state l.tokens)
          ≡ reader (further statement_rest) (state l.fn.tokens);
      shorter : length (state l.tokens).rest ≤ length (state l.fn.tokens).rest;
    }

abbrev pub decreases-block::parse_statement_rest-statements : goal.decreases-block::parse_statement_rest-statements
decreases-block::parse_statement_rest-statements l = length (state l.tokens).rest

abbrev pub invariant-if_chain::parse_else_rest-clauses : goal.invariant-if_chain::parse_else_rest-clauses
invariant-if_chain::parse_else_rest-clauses l =
    record {
      whole : elses_from (map else_if_clause_view l.clauses.items) (state l.tokens)
          ≡ reader (further else_rest) (state l.fn.tokens);
      shorter : length (state l.tokens).rest ≤ length (state l.fn.tokens).rest;
    }

abbrev pub decreases-if_chain::parse_else_rest-clauses : goal.decreases-if_chain::parse_else_rest-clauses
decreases-if_chain::parse_else_rest-clauses l = length (state l.tokens).rest

abbrev pub invariant-switch::parse_clauses-clauses : goal.invariant-switch::parse_clauses-clauses
invariant-switch::parse_clauses-clauses l =
    record {
      whole : clauses_from (map switch_clause_view l.clauses.items) (state l.tokens) ≡ clauses_at (state l.fn.tokens);
      shorter : length (state l.tokens).rest < length (state l.fn.tokens).rest;
    }

abbrev pub decreases-switch::parse_clauses-clauses : goal.decreases-switch::parse_clauses-clauses
decreases-switch::parse_clauses-clauses l = length (state l.tokens).rest

abbrev pub invariant-loops::parse_loop_rest-statements : goal.invariant-loops::parse_loop_rest-statements
invariant-loops::parse_loop_rest-statements l =
    record {
      whole : loop_items_from (map statement_node_view l.statements.items) (state l.tokens)
          ≡ reader (further loop_rest) (state l.fn.tokens);
      shorter : length (state l.tokens).rest ≤ length (state l.fn.tokens).rest;
    }

abbrev pub decreases-loops::parse_loop_rest-statements : goal.decreases-loops::parse_loop_rest-statements
decreases-loops::parse_loop_rest-statements l = length (state l.tokens).rest

abbrev pub invariant-loops::parse_continuing_rest-statements : goal.invariant-loops::parse_continuing_rest-statements
invariant-loops::parse_continuing_rest-statements l =
    record {
      whole : continuing_items_from (map statement_node_view l.statements.items) (state l.tokens)
          ≡ reader (further continuing_rest) (state l.fn.tokens);
      shorter : length (state l.tokens).rest ≤ length (state l.fn.tokens).rest;
    }

abbrev pub decreases-loops::parse_continuing_rest-statements : goal.decreases-loops::parse_continuing_rest-statements
decreases-loops::parse_continuing_rest-statements l = length (state l.tokens).rest
