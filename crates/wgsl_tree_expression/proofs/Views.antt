-- What each view is of one layer.
use Rattle.std.proofs.Common.{◌≡◌, refl, sym, ◌∙◌, ap, List, [], ◌∷◌, Option, None, Some, map}
use Rattle.std.specs.declared.vec.Vec.{Vec}
use Rattle.std.specs.declared.alloc.Global.{Global}
use Rattle.wgsl_model.specs.Trees.Expressions as plain
use Rattle.wgsl_span.specs.declared.Spanned.{Spanned}
use Rattle.wgsl_tree_expression.specs.declared.ident.Ident.{Ident}
use Rattle.wgsl_tree_expression.specs.declared.expression.Expression.{Expression}
use Rattle.wgsl_tree_expression.specs.declared.binary.BinaryExpression.{BinaryExpression}
use Rattle.wgsl_tree_expression.specs.declared.function_call.FunctionCall.{FunctionCall}
use Rattle.wgsl_tree_expression.specs.declared.indexing.IndexingExpression.{IndexingExpression}
use Rattle.wgsl_tree_expression.specs.declared.named_component.NamedComponentExpression.{NamedComponentExpression}
use Rattle.wgsl_tree_expression.specs.declared.parenthesized.ParenthesizedExpression.{ParenthesizedExpression}
use Rattle.wgsl_tree_expression.specs.declared.type_expression.TemplateArg.{TemplateArg}
use Rattle.wgsl_tree_expression.specs.declared.type_expression.TypeExpression.{TypeExpression}
use Rattle.wgsl_tree_expression.specs.declared.unary.UnaryExpression.{UnaryExpression}
use Rattle.wgsl_tree_expression.specs.declared.expression.Expression.TheOpen as layer
use Rattle.wgsl_tree_expression.specs.declared.expression.Expression.TheFolds as folds
use Rattle.wgsl_tree_expression.specs.declared.expression.Expression.TheViews as layers
use Rattle.wgsl_tree_expression.specs.View as V

-- a layer of the types themselves
abbrev pub Opened : ((e b f i n p a t u : Type 0) → Type 0) → Type 0
Opened F = F Expression BinaryExpression FunctionCall IndexingExpression NamedComponentExpression
    ParenthesizedExpression TemplateArg TypeExpression UnaryExpression

-- a law of all folds, for the folds that the views are
abbrev pub for_views : {R : (e b f i n p a t u : Type 0)
    → (layer.Expression-F e b f i n p a t u → e)
    → (layer.BinaryExpression-F e b f i n p a t u → b)
    → (layer.FunctionCall-F e b f i n p a t u → f)
    → (layer.IndexingExpression-F e b f i n p a t u → i)
    → (layer.NamedComponentExpression-F e b f i n p a t u → n)
    → (layer.ParenthesizedExpression-F e b f i n p a t u → p)
    → (layer.TemplateArg-F e b f i n p a t u → a)
    → (layer.TypeExpression-F e b f i n p a t u → t)
    → (layer.UnaryExpression-F e b f i n p a t u → u)
    → Type 0}
    → ((e b f i n p a t u : Type 0)
    (in_e : layer.Expression-F e b f i n p a t u → e)
    (in_b : layer.BinaryExpression-F e b f i n p a t u → b)
    (in_f : layer.FunctionCall-F e b f i n p a t u → f)
    (in_i : layer.IndexingExpression-F e b f i n p a t u → i)
    (in_n : layer.NamedComponentExpression-F e b f i n p a t u → n)
    (in_p : layer.ParenthesizedExpression-F e b f i n p a t u → p)
    (in_a : layer.TemplateArg-F e b f i n p a t u → a)
    (in_t : layer.TypeExpression-F e b f i n p a t u → t)
    (in_u : layer.UnaryExpression-F e b f i n p a t u → u)
    → R e b f i n p a t u in_e in_b in_f in_i in_n in_p in_a in_t in_u)
    → R plain.Expression plain.Expression plain.FunctionCall plain.Expression plain.Expression
    plain.Expression plain.ExpressionNode plain.TypeExpression plain.Expression
    V.expression_step V.binary_expression_step V.function_call_step V.indexing_expression_step
    V.named_component_expression_step V.parenthesized_expression_step V.template_arg_step
    V.type_expression_step V.unary_expression_step
for_views law = law plain.Expression plain.Expression plain.FunctionCall plain.Expression
    plain.Expression plain.Expression plain.ExpressionNode plain.TypeExpression plain.Expression
    V.expression_step V.binary_expression_step V.function_call_step V.indexing_expression_step
    V.named_component_expression_step V.parenthesized_expression_step V.template_arg_step
    V.type_expression_step V.unary_expression_step

-- a spanned expression, seen through its box
pub seen : Spanned Expression → Spanned plain.Expression
seen s = record {
  node = record
      { ptr = s.node.ptr; alloc = s.node.alloc; value = V.expression_view s.node.value };
  span =
      s.span;
}

pub nodes_seen : (xs : List (Spanned Expression)) → V.nodes_of (map seen xs)
    ≡ V.expression_nodes_view xs
unfolding seen
nodes_seen [] = refl
nodes_seen (s ∷ ss) = ap (plain.expression_before (V.expression_node_view s)) (nodes_seen ss)

pub call_view_out : (c : FunctionCall) → V.function_call_view c
    ≡ plain.call (V.type_expression_view (layers.out-FunctionCall c).ty)
    (V.expression_nodes_view (layers.out-FunctionCall c).arguments.items)
unfolding seen
call_view_out c = for_views folds.fold_out-FunctionCall c
    ∙ ap (plain.call (V.type_expression_view (layers.out-FunctionCall c).ty))
    (nodes_seen (layers.out-FunctionCall c).arguments.items)

pub call_view_roll : (x : Opened layer.FunctionCall-F)
    → V.function_call_view (layers.roll-FunctionCall x)
    ≡ plain.call (V.type_expression_view x.ty) (V.expression_nodes_view x.arguments.items)
unfolding seen
call_view_roll x = for_views folds.fold-roll-FunctionCall x
    ∙ ap (plain.call (V.type_expression_view x.ty)) (nodes_seen x.arguments.items)

pub args_seen : (xs : List TemplateArg) → plain.expressions_of (map V.template_arg_view xs)
    ≡ V.template_arg_nodes_view xs
args_seen [] = refl
args_seen (a ∷ xs) = ap (plain.expression_before (V.template_arg_view a)) (args_seen xs)

pub type_view_roll : (i : Ident) (o : Option (Vec TemplateArg Global))
    → V.type_expression_view (layers.roll-TypeExpression (record { ident = i; template_args = o }))
    ≡ plain.type_expression (V.ident_name i) (V.template_args_view o)
type_view_roll i None =
    for_views folds.fold-roll-TypeExpression (record { ident = i; template_args = None })
type_view_roll i (Some v) =
    for_views folds.fold-roll-TypeExpression (record { ident = i; template_args = Some v })
    ∙ ap (λ z. plain.type_expression (V.ident_name i) (plain.template z)) (args_seen v.items)

pub type_view_out : (t : TypeExpression) → V.type_expression_view t
    ≡ plain.type_expression (V.ident_name (layers.out-TypeExpression t).ident)
    (V.template_args_view (layers.out-TypeExpression t).template_args)
type_view_out t = ap V.type_expression_view (sym (layers.roll-out-TypeExpression t))
    ∙ type_view_roll (layers.out-TypeExpression t).ident (layers.out-TypeExpression t).template_args
