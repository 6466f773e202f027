-- Lists whose items are changed one after another, and lists of statements without the empty ones.
use Rattle.std.proofs.Common.{ℕ, suc, ◌+◌, ◌<◌, ◌≤◌, ◌≡◌, ◌≢◌, refl, ◌∙◌, ap, List, [], ◌∷◌, length, get_or, set, map, arith, true, false, not, cond, filter, if◌then◌else◌, below_more, get_or-set_other, get_or-set_same}
use Rattle.std.proofs.lemmas.List.{length-set, get_or_read}
use Rattle.wgsl_model.specs.Trees.Statements as plain
use Rattle.wgsl_model.specs.Printed.Statements.{is_void}
use Rattle.wgsl_model.specs.Trees.EmptyItems.{full_statement, full_statements, full_else_if_clause, full_else_ifs, full_switch_clause, full_clauses}
use Rattle.wgsl_span.specs.declared.Spanned.{Spanned}
use Rattle.wgsl_span.specs.Spanned.{spanned_node}
use Rattle.wgsl_tree_statement.specs.declared.statement.Statement.{Statement}
use Rattle.wgsl_tree_statement.specs.View.{statement_view, statement_node_view, statement_nodes_view}

-- the first i items of xs are seen as what is made of those of ys
abbrev pub Done : {X View : Type 0} → (X → View) → (View → View) → List X → List X → ℕ → Type 0
Done {X} view made xs ys i = (k : ℕ) (d : X) → k < i → view (get_or xs k d) ≡ made (view (get_or ys k d))

-- from i on, the items of xs are those of ys
abbrev Unvisited : {X : Type 0} → List X → List X → ℕ → Type 0
Unvisited {X} xs ys i = (length xs ≡ length ys) × ((k : ℕ) (d : X) → i ≤ k → get_or xs k d ≡ get_or ys k d)

module _ {X View : Type 0} (view : X → View) (made : View → View) where
  pub next_done : (xs ys : List X) (i : ℕ) (x y : X) → i < length xs → x ≡ get_or xs i x
      → view y ≡ made (view x) → Unvisited xs ys i × Done view made xs ys i
      → Unvisited (set xs i y) ys (i + 1) × Done view made (set xs i y) ys (i + 1)
  next_done xs ys i x y lt at seen h = (
    (
      length-set xs i y ∙ h.0.0,
      λ k d le. let ne : k ≢ i = omega arith in let past : i ≤ k = omega arith in
          get_or-set_other xs i k y d ne ∙ h.0.1 k d past,
    ),
    λ k d below. below_more (λ k. (d : X) → view (get_or (set xs i y) k d) ≡ made (view (get_or ys k d))) i
        (λ k less d. let ne : k ≢ i = omega arith in ap view (get_or-set_other xs i k y d ne) ∙ h.1 k d less)
        (λ d. let here : i ≤ i = omega arith in ap view (get_or-set_same xs i y d lt) ∙ seen
        ∙ ap (λ z. made (view z)) (get_or_read xs i x lt at d ∙ h.0.1 i d here)) k below d,
  )

  pub all_done : (xs ys : List X) → length xs ≡ length ys → Done view made xs ys (length xs)
      → map view xs ≡ map made (map view ys)
  all_done [] [] e h = refl
  all_done (x ∷ xs) (y ∷ ys) e h =
      let first : 0 < suc (length xs) = omega arith in
      let lengths : length xs ≡ length ys = omega arith in
      λ i. h 0 x first i ∷ all_done xs ys lengths
      (λ k d lt. let next : suc k < suc (length xs) = omega arith in h (suc k) d next) i
  all_done [] (y ∷ ys) e h = absurd (omega arith)
  all_done (x ∷ xs) [] e h = absurd (omega arith)

-- clauses
pub else_ifs_full : (cs : List plain.ElseIfClause)
    → plain.else_ifs_of (map full_else_if_clause cs) ≡ full_else_ifs (plain.else_ifs_of cs)
else_ifs_full [] = refl
else_ifs_full (c ∷ cs) = ap (plain.else_if_before (full_else_if_clause c)) (else_ifs_full cs)

pub clauses_full : (cs : List plain.SwitchClause)
    → plain.clauses_of (map full_switch_clause cs) ≡ full_clauses (plain.clauses_of cs)
clauses_full [] = refl
clauses_full (c ∷ cs) = ap (plain.clause_before (full_switch_clause c)) (clauses_full cs)

-- a statement without the empty ones of its lists, where it is
abbrev pub full_node : plain.StatementNode → plain.StatementNode
full_node (plain.statement_node s span) = plain.statement_node (full_statement s) span

-- the statements that are not empty
abbrev not_empty_of : List plain.StatementNode → plain.StatementNodes
not_empty_of [] = plain.no_statements
not_empty_of (plain.statement_node s span ∷ ns) = if is_void s then not_empty_of ns
    else plain.statement_before (plain.statement_node s span) (not_empty_of ns)

empty_full : (s : plain.Statement) → is_void (full_statement s) ≡ is_void s
empty_full (plain.statement attributes plain.void) = refl
empty_full (plain.statement attributes s) = refl

without_full : (ys : List (Spanned Statement))
    → not_empty_of (map full_node (map statement_node_view ys)) ≡ full_statements (statement_nodes_view ys)
without_full [] = refl
without_full (y ∷ ys) =
    let s = statement_view (spanned_node y) in
    λ i. if empty_full s i then without_full ys i
    else plain.statement_before (full_node (statement_node_view y)) (without_full ys i)

filtered : (xs : List (Spanned Statement))
    → statement_nodes_view (filter (λ node. not (is_void (statement_view (spanned_node node)))) xs)
    ≡ not_empty_of (map statement_node_view xs)
filtered [] = refl
filtered (x ∷ xs) =
    let kept = filter (λ (node : Spanned Statement). not (is_void (statement_view (spanned_node node)))) xs in
    let rest = not_empty_of (map statement_node_view xs) in
    elim (is_void (statement_view (spanned_node x))) as (λ b. statement_nodes_view (cond (not b)
    (x ∷ kept) kept) ≡ (if b then rest else plain.statement_before (statement_node_view x) rest)) [
      | true ↦ filtered xs
      | false ↦ ap (plain.statement_before (statement_node_view x)) (filtered xs)
    ]

pub list_full : (xs ys : List (Spanned Statement))
    → map statement_node_view xs ≡ map full_node (map statement_node_view ys)
    → statement_nodes_view (filter (λ node. not (is_void (statement_view (spanned_node node)))) xs)
    ≡ full_statements (statement_nodes_view ys)
list_full xs ys e = filtered xs ∙ ap not_empty_of e ∙ without_full ys
