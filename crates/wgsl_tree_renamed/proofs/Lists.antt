-- Lists of copies with one more at the end, and the lists of expressions that they show.
use Rattle.std.proofs.Common.{ℕ, ◌+◌, ◌<◌, ◌≡◌, refl, sym, ◌∙◌, ap, List, [], ◌∷◌, ◌++◌, take, length, get_or, map}
use Rattle.std.proofs.lemmas.List.{map_push, take_more}
use Rattle.wgsl_span.specs.declared.Spanned.{Spanned}
use Rattle.wgsl_tree_expression.specs.declared.expression.Expression.{Expression}
use Rattle.wgsl_tree_expression.specs.declared.type_expression.TemplateArg.{TemplateArg}
use Rattle.wgsl_model.specs.Trees.Expressions.{ExpressionNode, expression_before, expressions_of}
use Rattle.wgsl_model_names.specs.Renamed.{Renaming, renamed_node, renamed_expressions}
use Rattle.wgsl_tree_expression.specs.View.{expression_node_view, template_arg_view, expression_nodes_view, template_arg_nodes_view}

pub item_more : {X View : Type 0} (view : X → View) (made : View → View) (xs ys : List X) (k : ℕ) (x y : X)
    → k < length xs → x ≡ get_or xs k x → map view ys ≡ map made (map view (take k xs))
    → view y ≡ made (view x) → map view (ys ++ (y ∷ [])) ≡ map made (map view (take (k + 1) xs))
item_more view made xs ys k x y h at so same =
    map_push view ys y ∙ (λ i. so i ++ (same i ∷ []))
    ∙ sym (ap (map made) (ap (map view) (take_more xs k x h ∙ ap (λ z. take k xs ++ (z ∷ [])) (sym at))
    ∙ map_push view (take k xs) x) ∙ map_push made (map view (take k xs)) (view x))

nodes_listed : (xs : List (Spanned Expression))
    → expression_nodes_view xs ≡ expressions_of (map expression_node_view xs)
nodes_listed [] = refl
nodes_listed (x ∷ xs) = ap (expression_before (expression_node_view x)) (nodes_listed xs)

args_listed : (xs : List TemplateArg)
    → template_arg_nodes_view xs ≡ expressions_of (map template_arg_view xs)
args_listed [] = refl
args_listed (x ∷ xs) = ap (expression_before (template_arg_view x)) (args_listed xs)

module _ (f : Renaming) where
  all_renamed : (ns : List ExpressionNode)
      → expressions_of (map (renamed_node f) ns) ≡ renamed_expressions f (expressions_of ns)
  all_renamed [] = refl
  all_renamed (n ∷ ns) = ap (expression_before (renamed_node f n)) (all_renamed ns)

  pub nodes_renamed : (xs ys : List (Spanned Expression))
      → map expression_node_view ys ≡ map (renamed_node f) (map expression_node_view xs)
      → expression_nodes_view ys ≡ renamed_expressions f (expression_nodes_view xs)
  nodes_renamed xs ys h =
      nodes_listed ys ∙ ap expressions_of h ∙ all_renamed (map expression_node_view xs)
      ∙ sym (ap (renamed_expressions f) (nodes_listed xs))

  pub args_renamed : (xs ys : List TemplateArg)
      → map template_arg_view ys ≡ map (renamed_node f) (map template_arg_view xs)
      → template_arg_nodes_view ys ≡ renamed_expressions f (template_arg_nodes_view xs)
  args_renamed xs ys h =
      args_listed ys ∙ ap expressions_of h ∙ all_renamed (map template_arg_view xs)
      ∙ sym (ap (renamed_expressions f) (args_listed xs))
