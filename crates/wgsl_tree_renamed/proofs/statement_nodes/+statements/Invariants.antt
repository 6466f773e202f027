-- Written by tools/tables/renamed_trees.py from crates/wgsl_model/nodes.
use Rattle.std.proofs.Common.{◌≡◌, map, take}
use Rattle.wgsl_model.specs.Trees.Statements.{changed_else_if_clause, changed_node, changed_switch_clause}
use Rattle.wgsl_tree_statement.specs.View.{else_if_clause_view, statement_node_view, switch_clause_view}
use Rattle.wgsl_tree_renamed.specs.NewNames.{change_by}
use Rattle.wgsl_tree_renamed.proofs.statement_nodes.+statements.Given as goal

abbrev pub invariant-renamed_statements-nodes : goal.invariant-renamed_statements-nodes
invariant-renamed_statements-nodes l = map statement_node_view l.copies.items
    ≡ map (changed_node (change_by l.names)) (map statement_node_view (take l.node-index l.part))

abbrev pub invariant-renamed_else_ifs-nodes : goal.invariant-renamed_else_ifs-nodes
invariant-renamed_else_ifs-nodes l = map else_if_clause_view l.copies.items
    ≡ map (changed_else_if_clause (change_by l.names)) (map else_if_clause_view (take l.node-index l.part))

abbrev pub invariant-renamed_clauses-nodes : goal.invariant-renamed_clauses-nodes
invariant-renamed_clauses-nodes l = map switch_clause_view l.copies.items
    ≡ map (changed_switch_clause (change_by l.names)) (map switch_clause_view (take l.node-index l.part))
