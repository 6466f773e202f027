-- Names, literals, expressions and types as plain data.
use Rattle.std.specs.Prelude.{ℕ, List, [], ◌∷◌, Option, None, Some, string_bytes}
use Rattle.std.specs.declared.vec.Vec.{Vec}
use Rattle.std.specs.declared.alloc.Global.{Global}
use Rattle.wgsl_model.specs.Trees.Expressions as plain
use Rattle.wgsl_span.specs.declared.Spanned.{Spanned}
use Rattle.wgsl_span.specs.Spanned.{spanned_node, spanned_span}
use Rattle.wgsl_span.specs.View.{span_view}
use Rattle.wgsl_tree_words.specs.View.{unary_operator_view, binary_operator_view}
use Rattle.wgsl_tree_expression.specs.declared.ident.Ident.{Ident}
use Rattle.wgsl_tree_expression.specs.declared.literal.LiteralExpression.{LiteralExpression}
use Rattle.wgsl_tree_expression.specs.declared.literal.LiteralExpression.TheVariants as literal
use Rattle.wgsl_tree_expression.specs.declared.expression.Expression.{Expression}
use Rattle.wgsl_tree_expression.specs.declared.binary.BinaryExpression.{BinaryExpression}
use Rattle.wgsl_tree_expression.specs.declared.function_call.FunctionCall.{FunctionCall}
use Rattle.wgsl_tree_expression.specs.declared.indexing.IndexingExpression.{IndexingExpression}
use Rattle.wgsl_tree_expression.specs.declared.named_component.NamedComponentExpression.{NamedComponentExpression}
use Rattle.wgsl_tree_expression.specs.declared.parenthesized.ParenthesizedExpression.{ParenthesizedExpression}
use Rattle.wgsl_tree_expression.specs.declared.type_expression.TemplateArg.{TemplateArg}
use Rattle.wgsl_tree_expression.specs.declared.type_expression.TypeExpression.{TypeExpression}
use Rattle.wgsl_tree_expression.specs.declared.unary.UnaryExpression.{UnaryExpression}
use Rattle.wgsl_tree_expression.specs.declared.expression.Expression.TheOpen as layer
use Rattle.wgsl_tree_expression.specs.declared.expression.Expression.TheFolds as folds

-- the bytes of a name
abbrev pub ident_name : Ident → List ℕ
ident_name ident = string_bytes ident.name

abbrev pub literal_view : LiteralExpression → plain.LiteralExpression
literal_view (literal.Bool b) = plain.boolean b
literal_view (literal.AbstractInt n) = plain.abstract_int n
literal_view (literal.I32 n) = plain.i32 n
literal_view (literal.U32 n) = plain.u32 n
literal_view (literal.AbstractFloat text) = plain.abstract_float (string_bytes text)
literal_view (literal.F32 text) = plain.f32 (string_bytes text)
literal_view (literal.F16 text) = plain.f16 (string_bytes text)

-- parts whose own parts are plain data
abbrev pub node_of : Spanned plain.Expression → plain.ExpressionNode
node_of s = plain.expression_node (spanned_node s) (span_view (spanned_span s))

abbrev pub nodes_of : List (Spanned plain.Expression) → plain.ExpressionNodes
nodes_of [] = plain.no_expressions
nodes_of (s ∷ ss) = plain.expression_before (node_of s) (nodes_of ss)

abbrev pub template_in : Option (Vec plain.ExpressionNode Global) → plain.TemplateArguments
template_in None = plain.no_template
template_in (Some arguments) = plain.template (plain.expressions_of arguments.items)

-- a layer whose parts are plain data
abbrev pub Layer : ((e b f i n p a t u : Type 0) → Type 0) → Type 0
Layer F = F plain.Expression plain.Expression plain.FunctionCall plain.Expression plain.Expression
    plain.Expression plain.ExpressionNode plain.TypeExpression plain.Expression

-- one layer of each type
abbrev pub expression_step : Layer layer.Expression-F → plain.Expression
expression_step (layer.Literal l) = plain.literal (literal_view l)
expression_step (layer.Parenthesized e) = e
expression_step (layer.NamedComponent e) = e
expression_step (layer.Indexing e) = e
expression_step (layer.Unary e) = e
expression_step (layer.Binary e) = e
expression_step (layer.FunctionCall c) = plain.function_call c
expression_step (layer.TypeOrIdentifier t) = plain.type_or_identifier t

abbrev pub binary_expression_step : Layer layer.BinaryExpression-F → plain.Expression
binary_expression_step e =
    plain.binary (binary_operator_view e.operator) (node_of e.left) (node_of e.right)

abbrev pub function_call_step : Layer layer.FunctionCall-F → plain.FunctionCall
function_call_step c = plain.call c.ty (nodes_of c.arguments.items)

abbrev pub indexing_expression_step : Layer layer.IndexingExpression-F → plain.Expression
indexing_expression_step e = plain.indexing (node_of e.base) (node_of e.index)

abbrev pub named_component_expression_step : Layer layer.NamedComponentExpression-F
    → plain.Expression
named_component_expression_step e = plain.named_component (node_of e.base) (ident_name e.component)

abbrev pub parenthesized_expression_step : Layer layer.ParenthesizedExpression-F → plain.Expression
parenthesized_expression_step e = plain.parenthesized (node_of e.expression)

abbrev pub template_arg_step : Layer layer.TemplateArg-F → plain.ExpressionNode
template_arg_step a = node_of a.expression

abbrev pub type_expression_step : Layer layer.TypeExpression-F → plain.TypeExpression
type_expression_step t = plain.type_expression (ident_name t.ident) (template_in t.template_args)

abbrev pub unary_expression_step : Layer layer.UnaryExpression-F → plain.Expression
unary_expression_step e = plain.unary (unary_operator_view e.operator) (node_of e.operand)

-- a fold with these layers
abbrev pub viewed : {R : (e b f i n p a t u : Type 0) → Type 0}
    → ((e b f i n p a t u : Type 0)
    → (layer.Expression-F e b f i n p a t u → e)
    → (layer.BinaryExpression-F e b f i n p a t u → b)
    → (layer.FunctionCall-F e b f i n p a t u → f)
    → (layer.IndexingExpression-F e b f i n p a t u → i)
    → (layer.NamedComponentExpression-F e b f i n p a t u → n)
    → (layer.ParenthesizedExpression-F e b f i n p a t u → p)
    → (layer.TemplateArg-F e b f i n p a t u → a)
    → (layer.TypeExpression-F e b f i n p a t u → t)
    → (layer.UnaryExpression-F e b f i n p a t u → u)
    → R e b f i n p a t u)
    → Layer R
viewed fold = fold plain.Expression plain.Expression plain.FunctionCall plain.Expression
    plain.Expression plain.Expression plain.ExpressionNode plain.TypeExpression plain.Expression
    expression_step binary_expression_step function_call_step indexing_expression_step
    named_component_expression_step parenthesized_expression_step template_arg_step
    type_expression_step unary_expression_step

-- each type: a fold of its layers
abbrev pub expression_view : Expression → plain.Expression
expression_view = viewed folds.fold-Expression

abbrev pub binary_expression_view : BinaryExpression → plain.Expression
binary_expression_view = viewed folds.fold-BinaryExpression

abbrev pub function_call_view : FunctionCall → plain.FunctionCall
function_call_view = viewed folds.fold-FunctionCall

abbrev pub indexing_expression_view : IndexingExpression → plain.Expression
indexing_expression_view = viewed folds.fold-IndexingExpression

abbrev pub named_component_expression_view : NamedComponentExpression → plain.Expression
named_component_expression_view = viewed folds.fold-NamedComponentExpression

abbrev pub parenthesized_expression_view : ParenthesizedExpression → plain.Expression
parenthesized_expression_view = viewed folds.fold-ParenthesizedExpression

abbrev pub template_arg_view : TemplateArg → plain.ExpressionNode
template_arg_view = viewed folds.fold-TemplateArg

abbrev pub type_expression_view : TypeExpression → plain.TypeExpression
type_expression_view = viewed folds.fold-TypeExpression

abbrev pub unary_expression_view : UnaryExpression → plain.Expression
unary_expression_view = viewed folds.fold-UnaryExpression

-- an expression and where it is
abbrev pub expression_node_view : Spanned Expression → plain.ExpressionNode
expression_node_view s =
    plain.expression_node (expression_view (spanned_node s)) (span_view (spanned_span s))

abbrev pub expression_nodes_view : List (Spanned Expression) → plain.ExpressionNodes
expression_nodes_view [] = plain.no_expressions
expression_nodes_view (s ∷ ss) =
    plain.expression_before (expression_node_view s) (expression_nodes_view ss)

abbrev pub template_arg_nodes_view : List TemplateArg → plain.ExpressionNodes
template_arg_nodes_view [] = plain.no_expressions
template_arg_nodes_view (a ∷ more) =
    plain.expression_before (template_arg_view a) (template_arg_nodes_view more)

abbrev pub template_args_view : Option (Vec TemplateArg Global) → plain.TemplateArguments
template_args_view None = plain.no_template
template_args_view (Some arguments) = plain.template (template_arg_nodes_view arguments.items)
