-- Written by tools/tables/collected_names.py from crates/wgsl_model/nodes.
use Rattle.std.proofs.Common.{drop, map}
use Rattle.wgsl_model.specs.Trees.Statements.{clauses_of, else_ifs_of}
use Rattle.wgsl_model_names.specs.Names.{clauses_names, else_ifs_names, statements_names}
use Rattle.wgsl_tree_statement.specs.View.{else_if_clause_view, statement_nodes_view, switch_clause_view}
use Rattle.wgsl_tree_names.specs.Found.{Collects}
use Rattle.wgsl_tree_names.proofs.statement_nodes.+statements.Given as goal

abbrev pub invariant-put_statements-nodes : goal.invariant-put_statements-nodes
invariant-put_statements-nodes l =
    Collects (statements_names (statement_nodes_view (drop l.i l.nodes.items))) l.fn.found l.found

abbrev pub invariant-put_else_ifs-nodes : goal.invariant-put_else_ifs-nodes
invariant-put_else_ifs-nodes l = Collects
    (else_ifs_names (else_ifs_of (map else_if_clause_view (drop l.i l.nodes.items)))) l.fn.found l.found

abbrev pub invariant-put_clauses-nodes : goal.invariant-put_clauses-nodes
invariant-put_clauses-nodes l = Collects
    (clauses_names (clauses_of (map switch_clause_view (drop l.i l.nodes.items)))) l.fn.found l.found
