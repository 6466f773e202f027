-- What is written one part after another, and lists of which some items are written.
use Rattle.std.proofs.Common.{ℕ, ◌≡◌, ◌≢◌, ◌==◌, ◌<◌, ◌≤◌, ◌+◌, refl, sym, ◌∙◌, ap, arith, List, [], ◌∷◌, ◌++◌, map, length, drop, get_or, append_assoc, if◌then◌else◌}
use Rattle.std.proofs.lemmas.Bool.{ne_eqb}
use Rattle.std.proofs.lemmas.List.{append-nil, at_drop_all, at_drop_more, length-drop, length-map}
use Rattle.wgsl_model_packed.specs.Expressions.{packed_items, packed_list, packed_expressions, packed_further, packed_expression_node, rule_before}
use Rattle.wgsl_model_packed.specs.Rules.{nothing_rule, nodes_rule, node_rule}
use Rattle.wgsl_span.specs.declared.Spanned.{Spanned}
use Rattle.wgsl_tree_expression.specs.declared.expression.Expression.{Expression}
use Rattle.wgsl_tree_expression.specs.declared.type_expression.TemplateArg.{TemplateArg}
use Rattle.wgsl_tree_expression.specs.View.{expression_node_view, expression_nodes_view, template_arg_view, template_arg_nodes_view}

-- two parts one after another
pub two_parts : (o p q a b : List ℕ) → p ≡ o ++ a → q ≡ p ++ b → q ≡ o ++ (a ++ b)
two_parts o p q a b e f = f ∙ ap (λ t. t ++ b) e ∙ append_assoc o a b

-- something is written, and the rest is left
pub one_written : (o p a rest whole : List ℕ) → p ≡ o ++ a → o ++ (a ++ rest) ≡ whole
    → p ++ rest ≡ whole
one_written o p a rest whole e h = ap (λ q. q ++ rest) e ∙ append_assoc o a rest ∙ h

-- an item of a list is written, and the rest is left
pub step_written : {X : Type 0} (F : List X → List ℕ) (items : List X) (k : ℕ) (x : X)
    (o p a rest whole : List ℕ) → k < length items → x ≡ get_or items k x
    → F (x ∷ drop (k + 1) items) ≡ a ++ rest → p ≡ o ++ a
    → o ++ F (drop k items) ≡ whole → p ++ rest ≡ whole
step_written F items k x o p a rest whole h is parts e so_far =
    one_written o p a rest whole e (ap (λ t. o ++ t) (sym parts
    ∙ ap (λ y. F (y ∷ drop (k + 1) items)) is ∙ sym (at_drop_more F items k x h)) ∙ so_far)

-- all items are written, and then what is left without items
pub all_written : {X : Type 0} (F : List X → List ℕ) (items : List X) (k : ℕ)
    (p q whole : List ℕ) → length items ≤ k → q ≡ p ++ F []
    → p ++ F (drop k items) ≡ whole → q ≡ whole
all_written F items k p q whole h e so_far =
    e ∙ ap (λ t. p ++ t) (sym (at_drop_all F items k h)) ∙ so_far

-- the rule of an item, by how many are after it
by_number : {X : Type 0} (before last after : ℕ) (xs : List X) → after ≡ length xs
    → rule_before before last xs ≡ (if after == 0 then last else before)
by_number before last after [] e = ap (λ n. if n == 0 then last else before) (sym e)
by_number before last after (x ∷ xs) e =
    ap (λ b. if b then last else before) (sym (ne_eqb after 0 (λ z. omega (arith, e, z))))

-- an item more
pub item_written : {T X : Type 0} (before last : ℕ) (packed : X → List ℕ) (view : T → X)
    (items : List T) (k left rule : ℕ) (x : T) (o p q whole : List ℕ)
    → k < length items → x ≡ get_or items k x → left + (k + 1) ≡ length items
    → rule ≡ (if left == 0 then last else before) → p ≡ o ++ (rule ∷ [])
    → q ≡ p ++ packed (view x)
    → o ++ packed_items before last packed (map view (drop k items)) ≡ whole
    → q ++ packed_items before last packed (map view (drop (k + 1) items)) ≡ whole
item_written before last packed view items k left rule x o p q whole h is count e one two so_far =
    let after = drop (k + 1) items in
    let rest = packed_items before last packed (map view after) in
    let many : left ≡ length (map view after) =
    simp (length-map, length-drop) (omega (arith, count)) in
    step_written (λ xs. packed_items before last packed (map view xs)) items k x o q
    (rule ∷ packed (view x)) rest whole h is
    (ap (λ r. r ∷ (packed (view x) ++ rest)) (by_number before last left (map view after) many ∙ sym e))
    (two_parts o p q (rule ∷ []) (packed (view x)) one two) so_far

-- all items
pub list_written : {T X : Type 0} (none before last : ℕ) (packed : X → List ℕ) (view : T → X)
    (items : List T) (k : ℕ) (o p : List ℕ) → length items ≤ k → length items ≢ 0
    → p ++ packed_items before last packed (map view (drop k items))
    ≡ o ++ packed_items before last packed (map view items)
    → p ≡ o ++ packed_list none before last packed (map view items)
list_written none before last packed view [] k o p h some so_far = absurd (some refl)
list_written none before last packed view (x ∷ xs) k o p h some so_far =
    all_written (λ ys. packed_items before last packed (map view ys)) (x ∷ xs) k p p
    (o ++ packed_items before last packed (map view (x ∷ xs))) h (sym (append-nil p)) so_far

further_nodes : (xs : List (Spanned Expression)) → packed_further (expression_nodes_view xs)
    ≡ packed_items nodes_rule node_rule packed_expression_node (map expression_node_view xs)
further_nodes [] = refl
further_nodes (x ∷ []) = refl
further_nodes (x ∷ y ∷ ys) =
    ap (λ t. nodes_rule ∷ (packed_expression_node (expression_node_view x) ++ t))
    (further_nodes (y ∷ ys))

-- the expressions of a call
pub nodes_list : (xs : List (Spanned Expression)) → packed_expressions (expression_nodes_view xs)
    ≡ packed_list nothing_rule nodes_rule node_rule packed_expression_node (map expression_node_view xs)
nodes_list [] = refl
nodes_list (x ∷ xs) = further_nodes (x ∷ xs)

further_args : (xs : List TemplateArg) → packed_further (template_arg_nodes_view xs)
    ≡ packed_items nodes_rule node_rule packed_expression_node (map template_arg_view xs)
further_args [] = refl
further_args (x ∷ []) = refl
further_args (x ∷ y ∷ ys) =
    ap (λ t. nodes_rule ∷ (packed_expression_node (template_arg_view x) ++ t))
    (further_args (y ∷ ys))

-- those of a template
pub args_list : (xs : List TemplateArg) → packed_expressions (template_arg_nodes_view xs)
    ≡ packed_list nothing_rule nodes_rule node_rule packed_expression_node (map template_arg_view xs)
args_list [] = refl
args_list (x ∷ xs) = further_args (x ∷ xs)
