-- Written by tools/tables/tree_copies.py from crates/wgsl_model/nodes.
use Rattle.std.proofs.Common.{◌≡◌, map, take}
use Rattle.wgsl_tree_statement.specs.View.{else_if_clause_view, statement_nodes_view, switch_clause_view}
use Rattle.wgsl_tree_statement.proofs.copies_nodes.+clone.Given as goal

abbrev pub invariant-clone_statements-nodes : goal.invariant-clone_statements-nodes
invariant-clone_statements-nodes l = statement_nodes_view l.copies.items
    ≡ statement_nodes_view (take l.node-index l.part)

abbrev pub invariant-clone_else_ifs-nodes : goal.invariant-clone_else_ifs-nodes
invariant-clone_else_ifs-nodes l = map else_if_clause_view l.copies.items
    ≡ map else_if_clause_view (take l.node-index l.part)

abbrev pub invariant-clone_clauses-nodes : goal.invariant-clone_clauses-nodes
invariant-clone_clauses-nodes l = map switch_clause_view l.copies.items
    ≡ map switch_clause_view (take l.node-index l.part)
