use Rattle.std.proofs.Common.{◌≡◌, ◌++◌, ◌+◌, ◌≤◌, ℕ, List, map, length, drop}
use Rattle.wgsl_model.specs.Printed.Expressions.{expression_in}
use Rattle.wgsl_model_packed.specs.Expressions.{leftmost, packed_items, packed_expression_node}
use Rattle.wgsl_model_packed.specs.Rules.{nodes_rule, node_rule}
use Rattle.wgsl_tree_expression.specs.Chains.{below}
use Rattle.wgsl_tree_expression.specs.View.{expression_node_view, template_arg_view}
use Rattle.wgsl_tree_packed.proofs.+expressions.Given as goal

-- what is some steps down, and what follows it, is at the end
abbrev pub invariant-chain::pack_above-halves : goal.invariant-chain::pack_above-halves
invariant-chain::pack_above-halves l =
    (l.left ≤ l.steps)
    × ((done : List ℕ) → l.initial.out.items
    ≡ done ++ leftmost (expression_in (below l.steps (expression_node_view l.top)))
    → l.out.items ≡ done ++ leftmost (expression_in (below l.left (expression_node_view l.top))))

abbrev pub decreases-chain::pack_above-halves : goal.decreases-chain::pack_above-halves
decreases-chain::pack_above-halves l = l.left

-- how many are left, and what is left to write of them
abbrev pub invariant-expression::pack_call-arguments : goal.invariant-expression::pack_call-arguments
invariant-expression::pack_call-arguments l =
    (l.left + l.item-index ≡ length l.item-items)
    × (l.out.items ++ packed_items nodes_rule node_rule packed_expression_node
    (map expression_node_view (drop l.item-index l.item-items))
    ≡ l.initial.out.items ++ packed_items nodes_rule node_rule packed_expression_node
    (map expression_node_view l.item-items))

abbrev pub invariant-expression::pack_type-template_args :
    goal.invariant-expression::pack_type-template_args
invariant-expression::pack_type-template_args l =
    (l.left + l.item-index ≡ length l.item-items)
    × (l.out.items ++ packed_items nodes_rule node_rule packed_expression_node
    (map template_arg_view (drop l.item-index l.item-items))
    ≡ l.initial.out.items ++ packed_items nodes_rule node_rule packed_expression_node
    (map template_arg_view l.item-items))
