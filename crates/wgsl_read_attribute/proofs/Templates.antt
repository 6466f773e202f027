-- What is seen of a template's arguments.
use Rattle.std.proofs.Common.{◌≡◌, ℕ, List, Result, Ok, Err, MatchResult, ◌∙◌}
use Rattle.wgsl_model.specs.Trees.Expressions as plain
use Rattle.wgsl_model.specs.Grammar.Checks.{Checked, right, wrong}
use Rattle.wgsl_tree_expression.specs.declared.type_expression.TemplateArg.{TemplateArg}
use Rattle.wgsl_tree_expression.specs.declared.expression.Expression.TheFolds as folds
use Rattle.wgsl_tree_expression.specs.View as V

-- an argument is seen as its expression
pub argument_view : (a : TemplateArg) → V.template_arg_view a ≡ V.expression_node_view a.expression
argument_view a = folds.fold_out-TemplateArg plain.Expression plain.Expression plain.FunctionCall
    plain.Expression plain.Expression plain.Expression plain.ExpressionNode plain.TypeExpression
    plain.Expression V.expression_step V.binary_expression_step V.function_call_step
    V.indexing_expression_step V.named_component_expression_step V.parenthesized_expression_step
    V.template_arg_step V.type_expression_step V.unary_expression_step a

-- what holds of a check holds of one that says the same
pub told : {A B : Type 0} {Text : Type 0} (result : Result A Text) (view : A → B)
    (text : Text → List ℕ) (one other : Checked B) → one ≡ other
    → MatchResult result (λ a. other ≡ right (view a)) (λ t. other ≡ wrong (text t))
    → MatchResult result (λ a. one ≡ right (view a)) (λ t. one ≡ wrong (text t))
told (Ok a) view text one other e h = e ∙ h
told (Err t) view text one other e h = e ∙ h
