-- Statements in their packed form: what is written of an item of a block, and how a block and
-- clauses end.
use Rattle.std.proofs.Common.{ℕ, ◌≡◌, ◌==◌, ◌<◌, ◌≤◌, ◌+◌, refl, sym, ◌∙◌, ap, map, Bool, true, false, List, [], ◌∷◌, ◌++◌, length, drop, get_or, append_assoc, if◌then◌else◌}
use Rattle.std.proofs.lemmas.Bool.{both_ways}
use Rattle.std.proofs.lemmas.List.{append-nil, at_drop_all, at_drop_more}
use Rattle.wgsl_model.specs.Printed.Statements.{is_void}
use Rattle.wgsl_model.specs.Trees.Attributes.{Attributes}
use Rattle.wgsl_model.specs.Trees.Statements as plain
use Rattle.wgsl_model_packed.specs.Attributes.{packed_attribute_line}
use Rattle.wgsl_model_packed.specs.Printing.{packed_span}
use Rattle.wgsl_model_packed.specs.Rules.{block_rule, block_end_rule, item_rule, void_item_rule}
use Rattle.wgsl_model_packed.specs.Statements.{end_of, end_of_clauses, packed_in, packed_statement}
use Rattle.wgsl_span.specs.declared.Spanned.{Spanned}
use Rattle.wgsl_span.specs.View.{span_view}
use Rattle.wgsl_tree_statement.specs.declared.statement.Statement.{Statement}
use Rattle.wgsl_tree_statement.specs.declared.switch.SwitchClause.{SwitchClause}
use Rattle.wgsl_tree_statement.specs.View.{statement_view, statement_nodes_view, switch_clause_view}
use Rattle.wgsl_tree_packed.specs.Statements.{packed_block}
use Rattle.wgsl_tree_packed.proofs.Lists.{all_written, step_written, two_parts}

-- what is in a block from some statements on
abbrev pub left_in : List (Spanned Statement) → List ℕ
left_in xs = packed_in (statement_nodes_view xs)

-- an empty statement more
pub void_written : (items : List (Spanned Statement)) (k : ℕ) (x : Spanned Statement)
    (o p whole : List ℕ) → k < length items → x ≡ get_or items k x
    → is_void (statement_view x.node.value) ≡ true
    → p ≡ o ++ (void_item_rule ∷ packed_span (span_view x.span))
    → o ++ left_in (drop k items) ≡ whole → p ++ left_in (drop (k + 1) items) ≡ whole
void_written items k x o p whole h is void e so_far =
    let span = packed_span (span_view x.span) in
    let rest = left_in (drop (k + 1) items) in
    step_written left_in items k x o p (void_item_rule ∷ span) rest whole h is
    (ap (λ b. if b then (void_item_rule ∷ (span ++ rest))
    else (item_rule ∷ (span ++ (packed_statement (statement_view x.node.value) ++ rest)))) void)
    e so_far

-- another statement more
pub statement_written : (items : List (Spanned Statement)) (k : ℕ) (x : Spanned Statement)
    (o p q whole : List ℕ) → k < length items → x ≡ get_or items k x
    → is_void (statement_view x.node.value) ≡ false
    → p ≡ o ++ (item_rule ∷ packed_span (span_view x.span))
    → q ≡ p ++ packed_statement (statement_view x.node.value)
    → o ++ left_in (drop k items) ≡ whole → q ++ left_in (drop (k + 1) items) ≡ whole
statement_written items k x o p q whole h is void e f so_far =
    let span = packed_span (span_view x.span) in
    let text = packed_statement (statement_view x.node.value) in
    let rest = left_in (drop (k + 1) items) in
    step_written left_in items k x o q ((item_rule ∷ span) ++ text) rest whole h is
    (ap (λ b. if b then (void_item_rule ∷ (span ++ rest))
    else (item_rule ∷ (span ++ (text ++ rest)))) void
    ∙ ap (λ t. item_rule ∷ t) (sym (append_assoc span text rest)))
    (two_parts o p q (item_rule ∷ span) text e f) so_far

-- the end is the same after an empty statement
pub void_end : (some none end : ℕ) (items : List (Spanned Statement)) (k : ℕ)
    (x : Spanned Statement) {whole : List ℕ} → k < length items → x ≡ get_or items k x
    → is_void (statement_view x.node.value) ≡ true
    → end_of some end (statement_nodes_view (drop k items)) ≡ whole
    → end_of some end (statement_nodes_view (drop (k + 1) items)) ≡ whole
void_end some none end items k x h is void so_far =
    let rest = end_of some end (statement_nodes_view (drop (k + 1) items)) in
    let at : List (Spanned Statement) → List ℕ = λ xs. end_of some end (statement_nodes_view xs) in
    sym (ap (λ b. if b then rest else (some ∷ [])) void)
    ∙ ap (λ y. at (y ∷ drop (k + 1) items)) is ∙ sym (at_drop_more at items k x h) ∙ so_far

same_both : (b : Bool) (t : List ℕ) → (if b then t else t) ≡ t
same_both true t = refl
same_both false t = refl

-- it does not change again
some_end : (some : ℕ) (xs : List (Spanned Statement))
    → end_of some some (statement_nodes_view xs) ≡ some ∷ []
some_end some [] = refl
some_end some (x ∷ xs) =
    ap (λ t. if is_void (statement_view x.node.value) then t else (some ∷ [])) (some_end some xs)
    ∙ same_both (is_void (statement_view x.node.value)) (some ∷ [])

-- after another statement it is the other
pub statement_end : (some none end : ℕ) (items : List (Spanned Statement)) (k : ℕ)
    (x : Spanned Statement) {whole : List ℕ} → k < length items → x ≡ get_or items k x
    → is_void (statement_view x.node.value) ≡ false
    → end_of some end (statement_nodes_view (drop k items)) ≡ whole
    → end_of some some (statement_nodes_view (drop (k + 1) items)) ≡ whole
statement_end some none end items k x h is void so_far =
    let rest = end_of some end (statement_nodes_view (drop (k + 1) items)) in
    let at : List (Spanned Statement) → List ℕ = λ xs. end_of some end (statement_nodes_view xs) in
    some_end some (drop (k + 1) items)
    ∙ sym (ap (λ b. if b then rest else (some ∷ [])) void)
    ∙ ap (λ y. at (y ∷ drop (k + 1) items)) is ∙ sym (at_drop_more at items k x h) ∙ so_far

-- all statements of a block, and its end
pub block_written : (some none end : ℕ) (attributes : Attributes)
    (items : List (Spanned Statement)) (k : ℕ) (o p q r : List ℕ) → length items ≤ k
    → p ≡ o ++ (block_rule ∷ packed_attribute_line attributes)
    → q ++ left_in (drop k items) ≡ p ++ left_in items
    → end_of some end (statement_nodes_view (drop k items))
    ≡ end_of some none (statement_nodes_view items)
    → r ≡ q ++ (end ∷ [])
    → r ≡ o ++ packed_block some none (plain.compound_statement attributes (statement_nodes_view items))
block_written some none end attributes items k o p q r h e so_far ends f =
    let inside = left_in items in
    let head = packed_attribute_line attributes in
    let last = end_of some none (statement_nodes_view items) in
    let at : List (Spanned Statement) → List ℕ = λ xs. end_of some end (statement_nodes_view xs) in
    let written : q ≡ p ++ inside =
    all_written left_in items k q q (p ++ inside) h (sym (append-nil q)) so_far in
    let end_is : end ∷ [] ≡ last = sym (at_drop_all at items k h) ∙ ends in
    two_parts o p r (block_rule ∷ head) (inside ++ last) e
    (two_parts p q r inside last written (f ∙ ap (λ t. q ++ t) end_is))

-- the end of clauses, if there are some
pub clauses_end : (xs ys : List SwitchClause) → ys ≡ xs → (length ys == 0) ≡ false
    → block_end_rule ≡ end_of_clauses (plain.clauses_of (map switch_clause_view xs))
clauses_end [] ys e h = absurd (both_ways (length ys == 0) h (ap (λ l. length l == 0) e))
clauses_end (x ∷ xs) ys e h = refl
