use Rattle.std.proofs.Common.{◌≡◌, ◌+◌, ◌≤◌}
use Rattle.wgsl_tree_expression.specs.declared.expression.Expression.TheViews.{size-Expression}
use Rattle.wgsl_tree_expression.specs.View.{expression_node_view}
use Rattle.wgsl_tree_expression.specs.Chains.{steps_in, below}
use Rattle.wgsl_tree_packed.proofs.chain.descend.Given as goal

abbrev pub invariant-steps : goal.invariant-steps
invariant-steps l =
    (expression_node_view l.bottom ≡ below l.steps (expression_node_view l.top))
    × (steps_in (expression_node_view l.bottom) + l.steps ≡ steps_in (expression_node_view l.top))
    × (size-Expression l.bottom.node.value + l.steps ≤ size-Expression l.top.node.value)
