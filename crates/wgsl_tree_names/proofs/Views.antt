-- The names of a call and of a type, by their parts.
use Rattle.std.proofs.Common.{◌≡◌, ap, ℕ, List, map}
use Rattle.wgsl_model.specs.Trees.Expressions as plain
use Rattle.wgsl_model_names.specs.Names.{names_in_all, names_in_call, names_in_type}
use Rattle.wgsl_model_names.specs.Scopes.{Names}
use Rattle.wgsl_model_minify.specs.Occurrences.{Occurrence}
use Rattle.wgsl_span.specs.declared.Spanned.{Spanned}
use Rattle.wgsl_tree_expression.specs.declared.expression.Expression.{Expression}
use Rattle.wgsl_tree_expression.specs.declared.function_call.FunctionCall.{FunctionCall}
use Rattle.wgsl_tree_expression.specs.declared.type_expression.TemplateArg.{TemplateArg}
use Rattle.wgsl_tree_expression.specs.declared.expression.Expression.TheFolds as folds
use Rattle.wgsl_tree_expression.specs.declared.expression.Expression.TheViews.{out-FunctionCall}
use Rattle.wgsl_tree_expression.specs.View as V
use Rattle.wgsl_tree_names.specs.Found.{met_before}

-- a spanned expression, seen through its box
abbrev pub seen : Spanned Expression → Spanned plain.Expression
seen s = record {
  node = record {
    ptr = s.node.ptr;
    alloc = s.node.alloc;
    value = V.expression_view s.node.value;
  };
  span = s.span;
}

-- the names of some expressions, each of a kind
abbrev pub arguments_before : (List ℕ → Names) → List (Spanned Expression) → List Occurrence → List Occurrence
arguments_before kind items = met_before (names_in_all kind (V.nodes_of (map seen items)))

abbrev pub template_before : (List ℕ → Names) → List TemplateArg → List Occurrence → List Occurrence
template_before kind items = met_before (names_in_all kind (plain.expressions_of (map V.template_arg_view items)))

pub call_before : (kind : List ℕ → Names) (c : FunctionCall) (after : List Occurrence) →
    met_before (names_in_call kind (V.function_call_view c)) after
    ≡ met_before (names_in_type kind (V.type_expression_view (out-FunctionCall c).ty))
    (arguments_before kind (out-FunctionCall c).arguments.items after)
call_before kind c after = ap (λ v. met_before (names_in_call kind v) after)
    (folds.fold_out-FunctionCall plain.Expression plain.Expression plain.FunctionCall
    plain.Expression plain.Expression plain.Expression plain.ExpressionNode plain.TypeExpression
    plain.Expression V.expression_step V.binary_expression_step V.function_call_step
    V.indexing_expression_step V.named_component_expression_step V.parenthesized_expression_step
    V.template_arg_step V.type_expression_step V.unary_expression_step c)
