use Rattle.std.proofs.Common.{◌≡◌, ◌≤◌, drop}
use Rattle.wgsl_model_names.specs.Names.{names_in_expression}
use Rattle.wgsl_tree_expression.specs.View.{expression_view}
use Rattle.wgsl_tree_expression.specs.declared.expression.Expression.TheViews.{out-FunctionCall, size-Expression}
use Rattle.wgsl_tree_names.specs.Found.{collected, kind_view, met_before}
use Rattle.wgsl_tree_names.proofs.Views.{arguments_before, template_before}
use Rattle.wgsl_tree_names.proofs.expression.+expressions.Given as goal

-- what is left to put is on the left side
abbrev pub invariant-put_expression-left : goal.invariant-put_expression-left
invariant-put_expression-left l = record {
  size : size-Expression l.node ≤ size-Expression l.fn.top.node.value;
  rest : met_before (names_in_expression (kind_view l.kind) (expression_view l.node)) (collected l.found)
      ≡ met_before (names_in_expression (kind_view l.kind) (expression_view l.fn.top.node.value))
      (collected l.fn.found);
}

abbrev pub decreases-put_expression-left : goal.decreases-put_expression-left
decreases-put_expression-left l = size-Expression l.node

-- what is put are the last arguments
abbrev pub invariant-put_call-arguments : goal.invariant-put_call-arguments
invariant-put_call-arguments l = collected l.found
    ≡ arguments_before (kind_view l.kind) (drop l.i (out-FunctionCall l.call).arguments.items) (collected l.fn.found)

abbrev pub invariant-put_type-arguments : goal.invariant-put_type-arguments
invariant-put_type-arguments l = collected l.found
    ≡ template_before (kind_view l.kind) (drop l.i l.arguments.items) (collected l.fn.found)
