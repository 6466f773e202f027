-- What is seen of the expressions that statements make.
use Rattle.std.proofs.Common.{◌≡◌, ◌∙◌, ap₂, Option, None, Some, map}
use Rattle.std.specs.declared.vec.Vec.{Vec}
use Rattle.std.specs.declared.alloc.Global.{Global}
use Rattle.std.specs.Option.{option_map}
use Rattle.wgsl_model.specs.Trees.Expressions as plain
use Rattle.wgsl_span.specs.declared.Spanned.{Spanned}
use Rattle.wgsl_tree_words.specs.declared.words_nodes.UnaryOperator.{UnaryOperator}
use Rattle.wgsl_tree_words.specs.View.{unary_operator_view}
use Rattle.wgsl_tree_expression.specs.declared.ident.Ident.{Ident}
use Rattle.wgsl_tree_expression.specs.declared.expression.Expression.{Expression}
use Rattle.wgsl_tree_expression.specs.declared.type_expression.TemplateArg.{TemplateArg}
use Rattle.wgsl_tree_expression.specs.declared.expression.Expression.TheVariants as expression
use Rattle.wgsl_tree_expression.specs.declared.expression.Expression.TheOpen as layer
use Rattle.wgsl_tree_expression.specs.declared.expression.Expression.TheFolds as folds
use Rattle.wgsl_tree_expression.specs.declared.expression.Expression.TheViews as layers
use Rattle.wgsl_tree_expression.specs.declared.expression.Expression.TheViews.{roll-Expression}
use Rattle.wgsl_tree_expression.specs.View as V
use Rattle.wgsl_read_expression.proofs.Calls.{seen, nodes_are}
use denote.Hole.Carrier as Carrier

pub parenthesized_is : (e : Spanned Expression)
    → V.expression_view (expression.Parenthesized (layers.roll-ParenthesizedExpression (record { expression = e })))
    ≡ plain.parenthesized (V.expression_node_view e)
unfolding roll-Expression Carrier.roll
parenthesized_is e = folds.fold-roll-Expression plain.Expression plain.Expression plain.FunctionCall
    plain.Expression plain.Expression plain.Expression plain.ExpressionNode plain.TypeExpression
    plain.Expression V.expression_step V.binary_expression_step V.function_call_step
    V.indexing_expression_step V.named_component_expression_step V.parenthesized_expression_step
    V.template_arg_step V.type_expression_step V.unary_expression_step
    (layer.Parenthesized (layers.roll-ParenthesizedExpression (record { expression = e })))
    ∙ folds.fold-roll-ParenthesizedExpression plain.Expression plain.Expression plain.FunctionCall
    plain.Expression plain.Expression plain.Expression plain.ExpressionNode plain.TypeExpression
    plain.Expression V.expression_step V.binary_expression_step V.function_call_step
    V.indexing_expression_step V.named_component_expression_step V.parenthesized_expression_step
    V.template_arg_step V.type_expression_step V.unary_expression_step (record { expression = e })

pub unary_is : (operator : UnaryOperator) (operand : Spanned Expression) → V.expression_view
    (expression.Unary (layers.roll-UnaryExpression (record { operator = operator; operand = operand })))
    ≡ plain.unary (unary_operator_view operator) (V.expression_node_view operand)
unfolding roll-Expression Carrier.roll
unary_is operator operand = folds.fold-roll-Expression plain.Expression plain.Expression
    plain.FunctionCall plain.Expression plain.Expression plain.Expression plain.ExpressionNode
    plain.TypeExpression plain.Expression V.expression_step V.binary_expression_step
    V.function_call_step V.indexing_expression_step V.named_component_expression_step
    V.parenthesized_expression_step V.template_arg_step V.type_expression_step V.unary_expression_step
    (layer.Unary (layers.roll-UnaryExpression (record { operator = operator; operand = operand })))
    ∙ folds.fold-roll-UnaryExpression plain.Expression plain.Expression plain.FunctionCall plain.Expression
    plain.Expression plain.Expression plain.ExpressionNode plain.TypeExpression plain.Expression
    V.expression_step V.binary_expression_step V.function_call_step V.indexing_expression_step
    V.named_component_expression_step V.parenthesized_expression_step V.template_arg_step
    V.type_expression_step V.unary_expression_step (record { operator = operator; operand = operand })

type_is : (ident : Ident) (template : Option (Vec TemplateArg Global))
    → V.type_expression_view (layers.roll-TypeExpression (record { ident = ident; template_args = template }))
    ≡ plain.type_expression (V.ident_name ident)
    (plain.template_of (option_map (λ args. map V.template_arg_view args.items) template))
type_is ident None = folds.fold-roll-TypeExpression plain.Expression plain.Expression
    plain.FunctionCall plain.Expression plain.Expression plain.Expression plain.ExpressionNode
    plain.TypeExpression plain.Expression V.expression_step V.binary_expression_step
    V.function_call_step V.indexing_expression_step V.named_component_expression_step
    V.parenthesized_expression_step V.template_arg_step V.type_expression_step V.unary_expression_step
    (record { ident = ident; template_args = None })
type_is ident (Some args) = folds.fold-roll-TypeExpression plain.Expression plain.Expression
    plain.FunctionCall plain.Expression plain.Expression plain.Expression plain.ExpressionNode
    plain.TypeExpression plain.Expression V.expression_step V.binary_expression_step
    V.function_call_step V.indexing_expression_step V.named_component_expression_step
    V.parenthesized_expression_step V.template_arg_step V.type_expression_step V.unary_expression_step
    (record { ident = ident; template_args = Some args })

-- a call of a name
pub call_is : (ident : Ident) (template : Option (Vec TemplateArg Global)) (arguments : Vec (Spanned Expression) Global)
    → V.function_call_view (layers.roll-FunctionCall (record {
      ty = layers.roll-TypeExpression (record { ident = ident; template_args = template });
      arguments = arguments;
    }))
    ≡ plain.call (plain.type_expression (V.ident_name ident)
    (plain.template_of (option_map (λ args. map V.template_arg_view args.items) template)))
    (plain.expressions_of (map V.expression_node_view arguments.items))
unfolding seen
call_is ident template arguments = folds.fold-roll-FunctionCall plain.Expression plain.Expression
    plain.FunctionCall plain.Expression plain.Expression plain.Expression plain.ExpressionNode
    plain.TypeExpression plain.Expression V.expression_step V.binary_expression_step V.function_call_step
    V.indexing_expression_step V.named_component_expression_step V.parenthesized_expression_step
    V.template_arg_step V.type_expression_step V.unary_expression_step (record {
      ty = layers.roll-TypeExpression (record { ident = ident; template_args = template });
      arguments = arguments;
    })
    ∙ ap₂ plain.call (type_is ident template) (nodes_are arguments.items)
