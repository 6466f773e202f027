-- Written by tools/tables/tree_equalities.py from crates/wgsl_model/nodes.
use Rattle.std.proofs.Common.{◌≡◌, drop}
use Rattle.wgsl_tree_code.specs.Lists.{all_same}
use Rattle.wgsl_tree_statement.proofs.EqualityNodes.{statements_item, else_ifs_item, clauses_item}
use Rattle.wgsl_tree_statement.proofs.equality_nodes.+equal.Given as goal

abbrev pub invariant-statements_equal-items : goal.invariant-statements_equal-items
invariant-statements_equal-items l = all_same statements_item l.a l.b
    ≡ all_same statements_item (drop l.i l.a) (drop l.i l.b)

abbrev pub invariant-else_ifs_equal-items : goal.invariant-else_ifs_equal-items
invariant-else_ifs_equal-items l = all_same else_ifs_item l.a l.b ≡ all_same else_ifs_item (drop l.i l.a) (drop l.i l.b)

abbrev pub invariant-clauses_equal-items : goal.invariant-clauses_equal-items
invariant-clauses_equal-items l = all_same clauses_item l.a l.b ≡ all_same clauses_item (drop l.i l.a) (drop l.i l.b)
