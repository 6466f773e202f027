-- Written by tools/tables/tree_voids.py from crates/wgsl_model/nodes.
use Rattle.wgsl_model.specs.Trees.EmptyItems.{full_else_if_clause, full_switch_clause}
use Rattle.wgsl_tree_statement.specs.View.{else_if_clause_view, statement_node_view, switch_clause_view}
use Rattle.wgsl_tree_statement.proofs.EmptyStatements.{Done, full_node}
use Rattle.wgsl_tree_statement.proofs.+remove.Given as goal

abbrev pub invariant-voids_nodes::remove_from_statements-items :
    goal.invariant-voids_nodes::remove_from_statements-items
invariant-voids_nodes::remove_from_statements-items l =
    goal.unvisited-voids_nodes::remove_from_statements-items l
    × Done statement_node_view full_node l.part.items l.initial.part.items l.i

abbrev pub invariant-voids_nodes::remove_from_else_ifs-items : goal.invariant-voids_nodes::remove_from_else_ifs-items
invariant-voids_nodes::remove_from_else_ifs-items l =
    goal.unvisited-voids_nodes::remove_from_else_ifs-items l
    × Done else_if_clause_view full_else_if_clause l.part.items l.initial.part.items l.i

abbrev pub invariant-voids_nodes::remove_from_clauses-items : goal.invariant-voids_nodes::remove_from_clauses-items
invariant-voids_nodes::remove_from_clauses-items l = goal.unvisited-voids_nodes::remove_from_clauses-items l
    × Done switch_clause_view full_switch_clause l.part.items l.initial.part.items l.i
