use Rattle.std.proofs.Common.{◌≡◌, ◌≤◌, take}
use Rattle.wgsl_tree_expression.specs.View.{expression_node_view, expression_nodes_view, template_arg_nodes_view}
use Rattle.wgsl_tree_expression.specs.Chains.{below}
use Rattle.wgsl_tree_expression.proofs.+clone.Given as goal

abbrev pub invariant-function_call::FunctionCallCloneWith::clone_with-arguments :
    goal.invariant-function_call::FunctionCallCloneWith::clone_with-arguments
invariant-function_call::FunctionCallCloneWith::clone_with-arguments l =
    expression_nodes_view l.arguments.items ≡ expression_nodes_view (take l.argument-index l.argument-items)

abbrev pub invariant-type_expression::TypeExpressionCloneWith::clone_with-arguments :
    goal.invariant-type_expression::TypeExpressionCloneWith::clone_with-arguments
invariant-type_expression::TypeExpressionCloneWith::clone_with-arguments l =
    template_arg_nodes_view l.copied.items
    ≡ template_arg_nodes_view (take l.argument-index l.argument-items)

abbrev pub invariant-chain::clone_above-halves : goal.invariant-chain::clone_above-halves
invariant-chain::clone_above-halves l =
    (l.left ≤ l.steps)
    × (expression_node_view l.copy ≡ below l.left (expression_node_view l.top))

abbrev pub decreases-chain::clone_above-halves : goal.decreases-chain::clone_above-halves
decreases-chain::clone_above-halves l = l.left
