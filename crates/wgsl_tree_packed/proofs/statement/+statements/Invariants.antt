use Rattle.std.proofs.Common.{◌≡◌, ◌++◌, map, drop}
use Rattle.wgsl_model.specs.Trees.Statements.{clauses_of, else_ifs_of}
use Rattle.wgsl_model_packed.specs.Statements.{end_of, end_of_clauses, packed_clauses, packed_else_ifs, packed_in}
use Rattle.wgsl_tree_statement.specs.View.{else_if_clause_view, statement_nodes_view, switch_clause_view}
use Rattle.wgsl_tree_packed.proofs.statement.+statements.Given as goal

-- what is left to write of the statements, and the end that is written if none is printed of them
abbrev pub invariant-pack_block-statements : goal.invariant-pack_block-statements
invariant-pack_block-statements l =
    (l.out.items ++ packed_in (statement_nodes_view (drop l.item-index l.item-items))
    ≡ l.initial.out.items ++ packed_in (statement_nodes_view l.item-items))
    × (end_of l.some l.end (statement_nodes_view (drop l.item-index l.item-items))
    ≡ end_of l.some l.none (statement_nodes_view l.item-items))

-- what is left to write of the clauses
abbrev pub invariant-pack_if-else_if_clauses : goal.invariant-pack_if-else_if_clauses
invariant-pack_if-else_if_clauses l = l.out.items
    ++ packed_else_ifs (else_ifs_of (map else_if_clause_view (drop l.item-index l.item-items)))
    ≡ l.initial.out.items
    ++ packed_else_ifs (else_ifs_of (map else_if_clause_view l.item-items))

abbrev pub invariant-pack_switch-clauses : goal.invariant-pack_switch-clauses
invariant-pack_switch-clauses l =
    let all = clauses_of (map switch_clause_view l.item-items) in
    l.out.items ++ packed_clauses (end_of_clauses all)
    (clauses_of (map switch_clause_view (drop l.item-index l.item-items)))
    ≡ l.initial.out.items ++ packed_clauses (end_of_clauses all) all
