-- Copies of lists with one more at the end.
use Rattle.std.proofs.Common.{ℕ, ◌+◌, ◌<◌, ◌≡◌, refl, sym, ◌∙◌, ap, List, [], ◌∷◌, ◌++◌, take, length, get_or, map}
use Rattle.std.proofs.lemmas.List.{take_more, map_push}
use Rattle.wgsl_model.specs.Trees.Statements.{StatementNode, StatementNodes, no_statements, statement_before}
use Rattle.wgsl_span.specs.declared.Spanned.{Spanned}
use Rattle.wgsl_tree_statement.specs.declared.statement.Statement.{Statement}
use Rattle.wgsl_tree_statement.specs.View.{statement_node_view, statement_nodes_view}

-- one more at the end
abbrev and_then : StatementNodes → StatementNode → StatementNodes
and_then no_statements n = statement_before n no_statements
and_then (statement_before m ms) n = statement_before m (and_then ms n)

nodes_and_then : (xs : List (Spanned Statement)) (n : Spanned Statement)
    → statement_nodes_view (xs ++ (n ∷ [])) ≡ and_then (statement_nodes_view xs) (statement_node_view n)
nodes_and_then [] n = refl
nodes_and_then (x ∷ xs) n = ap (statement_before (statement_node_view x)) (nodes_and_then xs n)

pub node_more : (xs ys : List (Spanned Statement)) (k : ℕ) (n m : Spanned Statement) → k < length xs
    → n ≡ get_or xs k n → statement_nodes_view ys ≡ statement_nodes_view (take k xs)
    → statement_node_view m ≡ statement_node_view n
    → statement_nodes_view (ys ++ (m ∷ [])) ≡ statement_nodes_view (take (k + 1) xs)
node_more xs ys k n m h at so same = sym
    (ap statement_nodes_view (take_more xs k n h ∙ ap (λ z. take k xs ++ (z ∷ [])) (sym at))
    ∙ nodes_and_then (take k xs) n
    ∙ ap (λ ns. and_then ns (statement_node_view n)) (sym so)
    ∙ ap (and_then (statement_nodes_view ys)) (sym same)
    ∙ sym (nodes_and_then ys m))

pub item_more : {X Y : Type 0} (f : X → Y) (xs ys : List X) (k : ℕ) (x y : X) → k < length xs
    → x ≡ get_or xs k x → map f ys ≡ map f (take k xs) → f y ≡ f x
    → map f (ys ++ (y ∷ [])) ≡ map f (take (k + 1) xs)
item_more f xs ys k x y h at so same = sym
    (ap (map f) (take_more xs k x h ∙ ap (λ z. take k xs ++ (z ∷ [])) (sym at))
    ∙ map_push f (take k xs) x
    ∙ (λ i. sym so i ++ (sym same i ∷ []))
    ∙ sym (map_push f ys y))
