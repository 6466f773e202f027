-- What is seen of a call.
use Rattle.std.proofs.Common.{◌≡◌, List, [], ◌∷◌, map, refl, ap, ◌∙◌}
use Rattle.std.specs.declared.vec.Vec.{Vec}
use Rattle.std.specs.declared.alloc.Global.{Global}
use Rattle.wgsl_model.specs.Trees.Expressions as plain
use Rattle.wgsl_span.specs.declared.Spanned.{Spanned}
use Rattle.wgsl_tree_expression.specs.declared.expression.Expression.{Expression}
use Rattle.wgsl_tree_expression.specs.declared.function_call.FunctionCall.{FunctionCall}
use Rattle.wgsl_tree_expression.specs.declared.type_expression.TypeExpression.{TypeExpression}
use Rattle.wgsl_tree_expression.specs.declared.expression.Expression.TheVariants as expression
use Rattle.wgsl_tree_expression.specs.declared.expression.Expression.TheOpen as layer
use Rattle.wgsl_tree_expression.specs.declared.expression.Expression.TheFolds as folds
use Rattle.wgsl_tree_expression.specs.declared.expression.Expression.TheViews.{roll-Expression, roll-FunctionCall}
use Rattle.wgsl_tree_expression.specs.View as V
use denote.Hole.Carrier as Carrier

called : (c : FunctionCall)
    → V.expression_view (expression.FunctionCall c) ≡ plain.function_call (V.function_call_view c)
unfolding roll-Expression Carrier.roll
called c = folds.fold-roll-Expression plain.Expression plain.Expression plain.FunctionCall
    plain.Expression plain.Expression plain.Expression plain.ExpressionNode plain.TypeExpression
    plain.Expression V.expression_step V.binary_expression_step V.function_call_step
    V.indexing_expression_step V.named_component_expression_step V.parenthesized_expression_step
    V.template_arg_step V.type_expression_step V.unary_expression_step (layer.FunctionCall c)

-- a spanned expression, seen through its box
unfoldable pub seen : Spanned Expression → Spanned plain.Expression
seen e = record {
  node = record { ptr = e.node.ptr; alloc = e.node.alloc; value = V.expression_view e.node.value };
  span = e.span;
}

-- lists of expressions, as they are in a tree
pub nodes_are : (es : List (Spanned Expression))
    → V.nodes_of (map seen es) ≡ plain.expressions_of (map V.expression_node_view es)
unfolding seen
nodes_are [] = refl
nodes_are (e ∷ es) = ap (plain.expression_before (V.expression_node_view e)) (nodes_are es)

pub call_is : (ty : TypeExpression) (arguments : Vec (Spanned Expression) Global)
    → V.expression_view (expression.FunctionCall (roll-FunctionCall (record { ty = ty; arguments = arguments })))
    ≡ plain.function_call (plain.call (V.type_expression_view ty)
    (plain.expressions_of (map V.expression_node_view arguments.items)))
unfolding seen
call_is ty arguments =
    called (roll-FunctionCall (record { ty = ty; arguments = arguments }))
    ∙ ap plain.function_call (folds.fold-roll-FunctionCall plain.Expression plain.Expression
    plain.FunctionCall plain.Expression plain.Expression plain.Expression plain.ExpressionNode
    plain.TypeExpression plain.Expression V.expression_step V.binary_expression_step V.function_call_step
    V.indexing_expression_step V.named_component_expression_step V.parenthesized_expression_step
    V.template_arg_step V.type_expression_step V.unary_expression_step (record { ty = ty; arguments = arguments }))
    ∙ ap (λ es. plain.function_call (plain.call (V.type_expression_view ty) es)) (nodes_are arguments.items)
