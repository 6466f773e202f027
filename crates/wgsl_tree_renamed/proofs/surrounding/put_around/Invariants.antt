use Rattle.std.proofs.Common.{◌≡◌, vec_len}
use Rattle.wgsl_tree_expression.specs.View.{expression_node_view}
use Rattle.wgsl_tree_renamed.specs.Lefts.{all_around}
use Rattle.wgsl_tree_renamed.proofs.surrounding.put_around.Given as goal

abbrev pub invariant-outward : goal.invariant-outward
invariant-outward l = all_around l.above.items (expression_node_view l.node)
    ≡ all_around l.fn.above.items (expression_node_view l.fn.innermost)

abbrev pub decreases-outward : goal.decreases-outward
decreases-outward l = vec_len l.above
