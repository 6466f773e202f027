use Rattle.std.proofs.Common.{◌≤◌}
use Rattle.wgsl_tree_expression.specs.declared.expression.Expression.TheViews.{size-Expression}
use Rattle.wgsl_tree_expression.proofs.+expression.Given as goal

abbrev pub invariant-chain::drop_chain-loop-chain :
    goal.invariant-chain::drop_chain-loop-chain
invariant-chain::drop_chain-loop-chain l = size-Expression l.chain ≤ size-Expression l.fn.node.node.value
