-- Lists of nodes with one more at the end.
use Rattle.std.proofs.Common.{ℕ, ◌+◌, ◌<◌, ◌≡◌, refl, sym, ◌∙◌, ap, List, [], ◌∷◌, ◌++◌, take, length, get_or}
use Rattle.std.proofs.lemmas.List.{take_more}
use Rattle.wgsl_span.specs.declared.Spanned.{Spanned}
use Rattle.wgsl_tree_expression.specs.declared.expression.Expression.{Expression}
use Rattle.wgsl_tree_expression.specs.declared.type_expression.TemplateArg.{TemplateArg}
use Rattle.wgsl_model.specs.Trees.Expressions.{ExpressionNode, ExpressionNodes, no_expressions, expression_before}
use Rattle.wgsl_tree_expression.specs.View.{expression_node_view, template_arg_view, expression_nodes_view, template_arg_nodes_view}

-- one more at the end
abbrev and_then : ExpressionNodes → ExpressionNode → ExpressionNodes
and_then no_expressions e = expression_before e no_expressions
and_then (expression_before n ns) e = expression_before n (and_then ns e)

nodes_and_then : (xs : List (Spanned Expression)) (n : Spanned Expression)
    → expression_nodes_view (xs ++ (n ∷ [])) ≡ and_then (expression_nodes_view xs) (expression_node_view n)
nodes_and_then [] n = refl
nodes_and_then (x ∷ xs) n = ap (expression_before (expression_node_view x)) (nodes_and_then xs n)

pub node_more : (xs ys : List (Spanned Expression)) (k : ℕ) (n m : Spanned Expression) → k < length xs
    → n ≡ get_or xs k n → expression_nodes_view ys ≡ expression_nodes_view (take k xs)
    → expression_node_view m ≡ expression_node_view n
    → expression_nodes_view (ys ++ (m ∷ [])) ≡ expression_nodes_view (take (k + 1) xs)
node_more xs ys k n m h at so same = sym
    (ap expression_nodes_view (take_more xs k n h ∙ ap (λ z. take k xs ++ (z ∷ [])) (sym at))
    ∙ nodes_and_then (take k xs) n
    ∙ ap (λ ns. and_then ns (expression_node_view n)) (sym so)
    ∙ ap (and_then (expression_nodes_view ys)) (sym same)
    ∙ sym (nodes_and_then ys m))

args_and_then : (xs : List TemplateArg) (n : TemplateArg)
    → template_arg_nodes_view (xs ++ (n ∷ [])) ≡ and_then (template_arg_nodes_view xs) (template_arg_view n)
args_and_then [] n = refl
args_and_then (x ∷ xs) n = ap (expression_before (template_arg_view x)) (args_and_then xs n)

pub arg_more : (xs ys : List TemplateArg) (k : ℕ) (n m : TemplateArg) → k < length xs
    → n ≡ get_or xs k n → template_arg_nodes_view ys ≡ template_arg_nodes_view (take k xs)
    → template_arg_view m ≡ template_arg_view n
    → template_arg_nodes_view (ys ++ (m ∷ [])) ≡ template_arg_nodes_view (take (k + 1) xs)
arg_more xs ys k n m h at so same = sym
    (ap template_arg_nodes_view (take_more xs k n h ∙ ap (λ z. take k xs ++ (z ∷ [])) (sym at))
    ∙ args_and_then (take k xs) n
    ∙ ap (λ ns. and_then ns (template_arg_view n)) (sym so)
    ∙ ap (and_then (template_arg_nodes_view ys)) (sym same)
    ∙ sym (args_and_then ys m))
