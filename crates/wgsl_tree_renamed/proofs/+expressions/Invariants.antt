use Rattle.std.proofs.Common.{◌≡◌, ◌≤◌, map, take}
use Rattle.wgsl_model_names.specs.Renamed.{renamed_node}
use Rattle.wgsl_tree_expression.specs.View.{expression_node_view, template_arg_view}
use Rattle.wgsl_tree_expression.specs.declared.expression.Expression.TheViews.{size-Expression}
use Rattle.wgsl_tree_renamed.specs.Lefts.{all_around}
use Rattle.wgsl_tree_renamed.specs.NewNames.{renaming_by}
use Rattle.wgsl_tree_renamed.proofs.+expressions.Given as goal

abbrev pub invariant-chain::renamed_node-chain : goal.invariant-chain::renamed_node-chain
invariant-chain::renamed_node-chain l =
    record {
      renamed : all_around l.above.items (renamed_node (renaming_by l.names) (expression_node_view l.node))
          ≡ renamed_node (renaming_by l.names) (expression_node_view l.fn.top);
      smaller : size-Expression l.node.node.value ≤ size-Expression l.fn.top.node.value;
    }

abbrev pub invariant-expression::renamed_call-arguments : goal.invariant-expression::renamed_call-arguments
invariant-expression::renamed_call-arguments l = map expression_node_view l.arguments.items
    ≡ map (renamed_node (renaming_by l.names)) (map expression_node_view (take l.argument-index l.argument-items))

abbrev pub invariant-expression::renamed_type-arguments : goal.invariant-expression::renamed_type-arguments
invariant-expression::renamed_type-arguments l = map template_arg_view l.arguments.items
    ≡ map (renamed_node (renaming_by l.names)) (map template_arg_view (take l.argument-index l.argument-items))
