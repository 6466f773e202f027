-- The texts of lists of statements and of clauses, one more at a time.
use Rattle.std.proofs.Common.{ℕ, ◌+◌, ◌<◌, ◌≡◌, refl, sym, ◌∙◌, ap, Bool, true, false, List, [], ◌∷◌, ◌++◌, map, take, length, get_or, if◌then◌else◌, codes}
use Rattle.std.proofs.lemmas.List.{take_more, append-nil, append_assoc}
use Rattle.wgsl_span.specs.declared.Spanned.{Spanned}
use Rattle.wgsl_span.specs.Spanned.{spanned_node}
use Rattle.wgsl_tree_statement.specs.declared.statement.Statement.{Statement}
use Rattle.wgsl_tree_statement.specs.declared.else_clause.ElseIfClause.{ElseIfClause}
use Rattle.wgsl_tree_statement.specs.declared.switch.SwitchClause.{SwitchClause}
use Rattle.wgsl_model.specs.Trees.Statements.{else_ifs_of, clauses_of}
use Rattle.wgsl_model.specs.Printed.Statements.{is_void, print_statement, statement_texts, print_else_ifs, print_else_if_clause, clause_texts, print_switch_clause}
use Rattle.wgsl_tree_statement.specs.View.{statement_view, statement_nodes_view, else_if_clause_view, switch_clause_view}

-- a list with one more item taken
taken : {X : Type 0} (xs : List X) (k : ℕ) (x : X) → k < length xs → x ≡ get_or xs k x
    → take (k + 1) xs ≡ take k xs ++ (x ∷ [])
taken xs k x h at = take_more xs k x h ∙ ap (λ z. take k xs ++ (z ∷ [])) (sym at)

-- the texts of statements in a block
abbrev pub statement_lines : List (Spanned Statement) → List (List ℕ)
statement_lines xs = statement_texts (statement_nodes_view xs)

statement_append : (xs : List (Spanned Statement)) (x : Spanned Statement) (empty : Bool)
    → is_void (statement_view (spanned_node x)) ≡ empty
    → statement_lines (xs ++ (x ∷ [])) ≡ statement_lines xs
    ++ (if empty then [] else print_statement (statement_view (spanned_node x)) ∷ [])
statement_append [] x empty e = ap (λ b. if b then [] else print_statement (statement_view (spanned_node x)) ∷ []) e
statement_append (y ∷ xs) x empty e =
    let s = statement_view (spanned_node y) in
    let whole = statement_lines (xs ++ (x ∷ [])) in
    let before = statement_lines xs in
    let more = if empty then [] else print_statement (statement_view (spanned_node x)) ∷ [] in
    elim (is_void s) as (λ b. (if b then whole else print_statement s ∷ whole)
    ≡ (if b then before else print_statement s ∷ before) ++ more) [
      | true ↦ statement_append xs x empty e
      | false ↦ ap (λ z. print_statement s ∷ z) (statement_append xs x empty e)
    ]

pub empty_more : (xs : List (Spanned Statement)) (k : ℕ) (x : Spanned Statement) → k < length xs
    → x ≡ get_or xs k x → is_void (statement_view (spanned_node x)) ≡ true
    → statement_lines (take k xs) ≡ statement_lines (take (k + 1) xs)
empty_more xs k x h at e = sym (ap statement_lines (taken xs k x h at)
    ∙ statement_append (take k xs) x true e ∙ append-nil (statement_lines (take k xs)))

pub statement_more : (xs : List (Spanned Statement)) (k : ℕ) (x : Spanned Statement) → k < length xs
    → x ≡ get_or xs k x → is_void (statement_view (spanned_node x)) ≡ false
    → statement_lines (take k xs) ++ (print_statement (statement_view (spanned_node x)) ∷ [])
    ≡ statement_lines (take (k + 1) xs)
statement_more xs k x h at e = sym (ap statement_lines (taken xs k x h at) ∙ statement_append (take k xs) x false e)

-- the texts of clauses in a block
abbrev pub clause_lines : List SwitchClause → List (List ℕ)
clause_lines xs = clause_texts (clauses_of (map switch_clause_view xs))

clause_append : (xs : List SwitchClause) (x : SwitchClause)
    → clause_lines (xs ++ (x ∷ [])) ≡ clause_lines xs ++ (print_switch_clause (switch_clause_view x) ∷ [])
clause_append [] x = refl
clause_append (y ∷ xs) x = ap (λ z. print_switch_clause (switch_clause_view y) ∷ z) (clause_append xs x)

pub clause_more : (xs : List SwitchClause) (k : ℕ) (x : SwitchClause) → k < length xs → x ≡ get_or xs k x
    → clause_lines (take k xs) ++ (print_switch_clause (switch_clause_view x) ∷ []) ≡ clause_lines (take (k + 1) xs)
clause_more xs k x h at = sym (ap clause_lines (taken xs k x h at) ∙ clause_append (take k xs) x)

-- the text of clauses with `else if`
abbrev pub else_if_text : List ElseIfClause → List ℕ
else_if_text xs = print_else_ifs (else_ifs_of (map else_if_clause_view xs))

else_if_append : (xs : List ElseIfClause) (x : ElseIfClause) → else_if_text (xs ++ (x ∷ []))
    ≡ else_if_text xs ++ (codes "\n" ++ print_else_if_clause (else_if_clause_view x))
else_if_append [] x = append-nil (codes "\n" ++ print_else_if_clause (else_if_clause_view x))
else_if_append (y ∷ xs) x =
    let head = codes "\n" ++ print_else_if_clause (else_if_clause_view y) in
    let line = codes "\n" ++ print_else_if_clause (else_if_clause_view x) in
    ap (λ z. head ++ z) (else_if_append xs x) ∙ sym (append_assoc head (else_if_text xs) line)

pub else_if_more : (xs : List ElseIfClause) (k : ℕ) (x : ElseIfClause) → k < length xs → x ≡ get_or xs k x
    → else_if_text (take k xs) ++ (codes "\n" ++ print_else_if_clause (else_if_clause_view x))
    ≡ else_if_text (take (k + 1) xs)
else_if_more xs k x h at = sym (ap else_if_text (taken xs k x h at) ∙ else_if_append (take k xs) x)
