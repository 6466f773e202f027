-- The text of a list is the texts of its items with a separator between each two.
use Rattle.std.proofs.Common.{ℕ, ◌≡◌, refl, ap, List, [], ◌∷◌, ◌++◌}
use Rattle.std.specs.List.{join_by, flat_map}
use Rattle.wgsl_span.specs.declared.Spanned.{Spanned}
use Rattle.wgsl_tree_expression.specs.declared.expression.Expression.{Expression}
use Rattle.wgsl_tree_expression.specs.declared.type_expression.TemplateArg.{TemplateArg}
use Rattle.wgsl_model.specs.Printed.Joining.{joined}
use Rattle.wgsl_model.specs.Printed.Expressions.{print_expression, print_expression_node, expression_texts}
use Rattle.wgsl_tree_expression.specs.View.{expression_view, template_arg_view, expression_nodes_view, template_arg_nodes_view}

further_nodes : (separator : List ℕ) (xs : List (Spanned Expression))
    → flat_map (λ n. separator ++ print_expression (expression_view n.node.value)) xs
    ≡ flat_map (λ t. separator ++ t) (expression_texts (expression_nodes_view xs))
further_nodes separator [] = refl
further_nodes separator (x ∷ xs) =
    ap (λ u. (separator ++ print_expression (expression_view x.node.value)) ++ u)
    (further_nodes separator xs)

pub joined_nodes : (separator : List ℕ) (xs : List (Spanned Expression))
    → join_by (λ n. print_expression (expression_view n.node.value)) separator xs
    ≡ joined separator (expression_texts (expression_nodes_view xs))
joined_nodes separator [] = refl
joined_nodes separator (x ∷ xs) = ap (λ u. print_expression (expression_view x.node.value) ++ u)
    (further_nodes separator xs)

further_args : (separator : List ℕ) (xs : List TemplateArg)
    → flat_map (λ a. separator ++ print_expression_node (template_arg_view a)) xs
    ≡ flat_map (λ t. separator ++ t) (expression_texts (template_arg_nodes_view xs))
further_args separator [] = refl
further_args separator (x ∷ xs) =
    ap (λ u. (separator ++ print_expression_node (template_arg_view x)) ++ u) (further_args separator xs)

pub joined_args : (separator : List ℕ) (xs : List TemplateArg)
    → join_by (λ a. print_expression_node (template_arg_view a)) separator xs
    ≡ joined separator (expression_texts (template_arg_nodes_view xs))
joined_args separator [] = refl
joined_args separator (x ∷ xs) = ap (λ u. print_expression_node (template_arg_view x) ++ u) (further_args separator xs)
