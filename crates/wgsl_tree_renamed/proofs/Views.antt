-- What the view is of one layer of an expression.
use Rattle.std.proofs.Common.{◌≡◌, sym, ◌∙◌, ap}
use Rattle.wgsl_model.specs.Trees.Expressions as plain
use Rattle.wgsl_span.specs.declared.Spanned.{Spanned}
use Rattle.wgsl_tree_words.specs.declared.words_nodes.BinaryOperator.{BinaryOperator}
use Rattle.wgsl_tree_words.specs.declared.words_nodes.UnaryOperator.{UnaryOperator}
use Rattle.wgsl_tree_words.specs.View.{binary_operator_view, unary_operator_view}
use Rattle.wgsl_tree_expression.specs.declared.ident.Ident.{Ident}
use Rattle.wgsl_tree_expression.specs.declared.expression.Expression.{Expression}
use Rattle.wgsl_tree_expression.specs.declared.parenthesized.ParenthesizedExpression.{ParenthesizedExpression}
use Rattle.wgsl_tree_expression.specs.declared.type_expression.TemplateArg.{TemplateArg}
use Rattle.wgsl_tree_expression.specs.declared.unary.UnaryExpression.{UnaryExpression}
use Rattle.wgsl_tree_expression.specs.declared.expression.Expression.TheVariants as tree
use Rattle.wgsl_tree_expression.specs.declared.expression.Expression.TheOpen as layer
use Rattle.wgsl_tree_expression.specs.declared.expression.Expression.TheFolds as folds
use Rattle.wgsl_tree_expression.specs.declared.expression.Expression.TheViews.{roll-Expression}
use Rattle.wgsl_tree_expression.specs.declared.expression.Expression.TheViews as layers
use Rattle.wgsl_tree_expression.specs.View as V
use Rattle.wgsl_tree_expression.proofs.Views.{for_views}
use denote.Hole.Carrier as Carrier

-- expressions by their variants
pub parenthesized_view : (e : Spanned Expression)
    → V.expression_view (tree.Parenthesized (layers.roll-ParenthesizedExpression (record { expression = e })))
    ≡ plain.parenthesized (V.expression_node_view e)
unfolding roll-Expression Carrier.roll
parenthesized_view e =
    for_views folds.fold-roll-Expression
    (layer.Parenthesized (layers.roll-ParenthesizedExpression (record { expression = e })))
    ∙ for_views folds.fold-roll-ParenthesizedExpression (record { expression = e })

pub parenthesized_out : (x : ParenthesizedExpression) → V.expression_view (tree.Parenthesized x)
    ≡ plain.parenthesized (V.expression_node_view (layers.out-ParenthesizedExpression x).expression)
parenthesized_out x =
    ap (λ y. V.expression_view (tree.Parenthesized y)) (sym (layers.roll-out-ParenthesizedExpression x))
    ∙ parenthesized_view (layers.out-ParenthesizedExpression x).expression

pub unary_view : (o : UnaryOperator) (e : Spanned Expression)
    → V.expression_view (tree.Unary (layers.roll-UnaryExpression (record { operator = o; operand = e })))
    ≡ plain.unary (unary_operator_view o) (V.expression_node_view e)
unfolding roll-Expression Carrier.roll
unary_view o e =
    for_views folds.fold-roll-Expression
    (layer.Unary (layers.roll-UnaryExpression (record { operator = o; operand = e })))
    ∙ for_views folds.fold-roll-UnaryExpression (record { operator = o; operand = e })

pub unary_out : (x : UnaryExpression) → V.expression_view (tree.Unary x)
    ≡ plain.unary (unary_operator_view (layers.out-UnaryExpression x).operator)
    (V.expression_node_view (layers.out-UnaryExpression x).operand)
unary_out x =
    ap (λ y. V.expression_view (tree.Unary y)) (sym (layers.roll-out-UnaryExpression x))
    ∙ unary_view (layers.out-UnaryExpression x).operator (layers.out-UnaryExpression x).operand

pub component_view : (base : Spanned Expression) (component : Ident)
    → V.expression_view (tree.NamedComponent (layers.roll-NamedComponentExpression
    (record { base = base; component = component })))
    ≡ plain.named_component (V.expression_node_view base) (V.ident_name component)
unfolding roll-Expression Carrier.roll
component_view base component =
    for_views folds.fold-roll-Expression
    (layer.NamedComponent (layers.roll-NamedComponentExpression (record { base = base; component = component })))
    ∙ for_views folds.fold-roll-NamedComponentExpression (record { base = base; component = component })

pub indexing_view : (base index : Spanned Expression)
    → V.expression_view (tree.Indexing (layers.roll-IndexingExpression (record { base = base; index = index })))
    ≡ plain.indexing (V.expression_node_view base) (V.expression_node_view index)
unfolding roll-Expression Carrier.roll
indexing_view base index =
    for_views folds.fold-roll-Expression
    (layer.Indexing (layers.roll-IndexingExpression (record { base = base; index = index })))
    ∙ for_views folds.fold-roll-IndexingExpression (record { base = base; index = index })

pub binary_view : (o : BinaryOperator) (left right : Spanned Expression)
    → V.expression_view (tree.Binary (layers.roll-BinaryExpression
    (record { operator = o; left = left; right = right })))
    ≡ plain.binary (binary_operator_view o) (V.expression_node_view left) (V.expression_node_view right)
unfolding roll-Expression Carrier.roll
binary_view o left right =
    for_views folds.fold-roll-Expression
    (layer.Binary (layers.roll-BinaryExpression (record { operator = o; left = left; right = right })))
    ∙ for_views folds.fold-roll-BinaryExpression (record { operator = o; left = left; right = right })

-- an argument of a template
pub argument_view : (e : Spanned Expression)
    → V.template_arg_view (layers.roll-TemplateArg (record { expression = e })) ≡ V.expression_node_view e
argument_view e = for_views folds.fold-roll-TemplateArg (record { expression = e })

pub argument_out : (a : TemplateArg)
    → V.template_arg_view a ≡ V.expression_node_view (layers.out-TemplateArg a).expression
argument_out a =
    ap V.template_arg_view (sym (layers.roll-out-TemplateArg a)) ∙ argument_view (layers.out-TemplateArg a).expression
