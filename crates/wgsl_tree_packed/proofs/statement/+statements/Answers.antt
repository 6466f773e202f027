use Rattle.std.proofs.Common.{ℕ, ◌≡◌, refl, sym, ap, ◌∙◌, List, ◌++◌, ◌∷◌, [], map, append_assoc, true, false}
use Rattle.std.specs.Option.{option_map}
use Rattle.std.proofs.lemmas.Result.{on_ok_weaker}
use Rattle.wgsl_model.specs.Printed.Statements.{is_void}
use Rattle.wgsl_model.specs.Trees.Statements as plain
use Rattle.wgsl_model_packed.specs.Attributes.{packed_attribute_line}
use Rattle.wgsl_model_packed.specs.Expressions.{packed_expression_node}
use Rattle.wgsl_model_packed.specs.Printing.{packed_span}
use Rattle.wgsl_model_packed.specs.Rules.{if_clause_rule, if_rule, item_rule, lines_rule, switch_rule, void_item_rule, while_rule}
use Rattle.wgsl_model_packed.specs.Statements.{end_of_clauses, packed_clauses, packed_compound, packed_else, packed_else_if_clause, packed_else_ifs, packed_if_clause, packed_statement, packed_switch_clause}
use Rattle.wgsl_span.specs.View.{span_view}
use Rattle.wgsl_tree_attribute.specs.View.{attributes_view}
use Rattle.wgsl_tree_expression.specs.View.{expression_node_view}
use Rattle.wgsl_tree_statement.specs.declared.statement.Statement.{Statement}
use Rattle.wgsl_tree_statement.specs.declared.else_clause.ElseIfClause.{ElseIfClause}
use Rattle.wgsl_tree_statement.specs.declared.switch.SwitchClause.{SwitchClause}
use Rattle.wgsl_tree_statement.specs.declared.statement.Statement.TheViews.{out-CompoundStatement, out-IfClause, out-IfStatement, out-SwitchStatement, out-WhileStatement}
use Rattle.wgsl_tree_statement.specs.View.{compound_statement_view, else_clause_view, else_if_clause_view, if_clause_view, statement_nodes_view, statement_view, switch_clause_view}
use Rattle.wgsl_tree_statement.proofs.Views.{compound_statement_out, if_clause_out, if_statement_out, switch_statement_out, while_statement_out}
use Rattle.wgsl_tree_packed.specs.Statements.{packed_block, packed_unended_of}
use Rattle.wgsl_tree_packed.proofs.Lists.{all_written, step_written, two_parts}
use Rattle.wgsl_tree_packed.proofs.Statements.{block_written, statement_end, statement_written, void_end, void_written}
use Rattle.wgsl_tree_packed.proofs.statement.+statements.Goals as goal

-- the clauses of an `if` and of a `switch` from some on
abbrev else_ifs_left : List ElseIfClause → List ℕ
else_ifs_left xs = packed_else_ifs (plain.else_ifs_of (map else_if_clause_view xs))

abbrev clauses_left : ℕ → List SwitchClause → List ℕ
clauses_left end xs = packed_clauses end (plain.clauses_of (map switch_clause_view xs))

pub pack_block-statements-preserved-then-is_void : goal.pack_block-statements-preserved-then-is_void
pack_block-statements-preserved-then-is_void t c =
    let o = c.statements.out.items in
    let items = c.deref-item-items.result.now in
    let k = c.statements.item-index in
    let x = c.item-item.result in
    let empty : is_void (statement_view x.node.value) ≡ true = sym (c.is_void.ensures
    ∙ ap (λ (s : Statement). is_void (statement_view s)) c.node.ensures) ∙ c.if-is_void.true in (
      void_written items k x o c.pack_placed.new.out.items _ c.statements-test.true c.item-item.is
          empty (c.in_ok-pack_placed.ensures
          ∙ ap (λ s. o ++ (void_item_rule ∷ packed_span (span_view s))) c.span.ensures)
          c.statements.invariant.0,
      void_end c.args.some c.args.none c.statements.end items k x c.statements-test.true
          c.item-item.is empty c.statements.invariant.1,
    )

pub pack_block-statements-preserved : goal.pack_block-statements-preserved
pack_block-statements-preserved t c =
    let o = c.statements.out.items in
    let items = c.deref-item-items.result.now in
    let k = c.statements.item-index in
    let x = c.item-item.result in
    let p = c.pack_placed-in-statements.new.out.items in
    let full : is_void (statement_view x.node.value) ≡ false = sym (c.is_void.ensures
    ∙ ap (λ (s : Statement). is_void (statement_view s)) c.node.ensures) ∙ c.if-is_void.false in (
      statement_written items k x o p c.pack_statement.new.out.items _ c.statements-test.true
          c.item-item.is full (c.in_ok-pack_placed-2.ensures
          ∙ ap (λ s. o ++ (item_rule ∷ packed_span (span_view s))) c.span-in-statements.ensures)
          (c.in_ok-pack_statement.ensures
          ∙ ap (λ s. p ++ packed_statement (statement_view s)) c.node-in-statements.ensures)
          c.statements.invariant.0,
      statement_end c.args.some c.args.none c.statements.end items k x c.statements-test.true
          c.item-item.is full c.statements.invariant.1,
    )

pub pack_block-returns : goal.pack_block-returns
pack_block-returns t c =
    let n = out-CompoundStatement c.args.node.now in
    let some = c.args.some in
    let none = c.args.none in
    let attributes = attributes_view n.attributes.items in
    let o = c.args.out.now.items in
    on_ok_weaker c.pack_rule.result (λ ended.
    block_written some none c.statements.end attributes c.deref-item-items.result.now
    c.statements.item-index o c.pack_attributed.new.out.items c.statements.out.items
    c.pack_rule.new.out.items c.statements-test.false c.in_ok-pack_attributed.ensures
    c.statements.invariant.0 c.statements.invariant.1 ended
    ∙ ap (λ xs. o ++ packed_block some none (plain.compound_statement attributes
    (statement_nodes_view xs))) c.deref-item-items.ensures.value
    ∙ ap (λ b. o ++ packed_block some none b) (sym (compound_statement_out c.args.node.now)))
    c.pack_rule.ensures

pub pack_if-else_if_clauses-preserved : goal.pack_if-else_if_clauses-preserved
pack_if-else_if_clauses-preserved t c =
    let o = c.else_if_clauses.out.items in
    let items = c.deref-item-items.result.now in
    let k = c.else_if_clauses.item-index in
    let x = c.item-item.result in
    let text = packed_else_if_clause (else_if_clause_view x) in
    step_written else_ifs_left items k x o c.pack_else_if_clause.new.out.items (lines_rule ∷ text) _ _
    c.else_if_clauses-test.true c.item-item.is refl
    (two_parts o _ _ (lines_rule ∷ []) text c.in_ok-pack_rule.ensures
    c.in_ok-pack_else_if_clause.ensures) c.else_if_clauses.invariant

pub pack_if-returns : goal.pack_if-returns
pack_if-returns t c =
    let n = out-IfStatement c.args.node.now in
    let o = c.args.out.now.items in
    let p = c.pack_attributed.new.out.items in
    let q = c.pack_if_clause.new.out.items in
    let r = c.pack_rule-2.new.out.items in
    let w = c.pack_else.new.out.items in
    let items = c.deref-item-items.result.now in
    let attributes = packed_attribute_line (attributes_view n.attributes.items) in
    let first = packed_if_clause (if_clause_view n.if_clause) in
    let last = packed_else (plain.else_of (option_map else_clause_view n.else_clause)) in
    let others : r ≡ q ++ else_ifs_left n.else_if_clauses.items =
    all_written else_ifs_left items c.else_if_clauses.item-index c.else_if_clauses.out.items r
    (q ++ else_ifs_left items) c.else_if_clauses-test.false c.in_ok-pack_rule-2.ensures
    c.else_if_clauses.invariant
    ∙ ap (λ xs. q ++ else_ifs_left xs) c.deref-item-items.ensures.value in
    on_ok_weaker c.pack_else.result (λ written.
    two_parts o p w (if_rule ∷ attributes) (first ++ (else_ifs_left n.else_if_clauses.items ++ last))
    c.in_ok-pack_attributed.ensures
    (two_parts p q w first (else_ifs_left n.else_if_clauses.items ++ last)
    c.in_ok-pack_if_clause.ensures
    (two_parts q r w (else_ifs_left n.else_if_clauses.items) last others written))
    ∙ ap (λ v. o ++ packed_unended_of plain.if_statement v) (sym (if_statement_out c.args.node.now)))
    c.pack_else.ensures

pub pack_switch-clauses-preserved : goal.pack_switch-clauses-preserved
pack_switch-clauses-preserved t c =
    let o = c.clauses.out.items in
    let items = c.deref-item-items.result.now in
    let end = end_of_clauses (plain.clauses_of (map switch_clause_view items)) in
    let x = c.item-item.result in
    let text = packed_switch_clause (switch_clause_view x) in
    step_written (clauses_left end) items c.clauses.item-index x o c.pack_switch_clause.new.out.items
    (lines_rule ∷ text) _ _ c.clauses-test.true c.item-item.is refl
    (two_parts o _ _ (lines_rule ∷ []) text c.in_ok-pack_rule.ensures
    c.in_ok-pack_switch_clause.ensures) c.clauses.invariant

pub pack_switch-returns : goal.pack_switch-returns
pack_switch-returns t c =
    let n = out-SwitchStatement c.args.node.now in
    let o = c.args.out.now.items in
    let p = c.pack_on_expression.new.out.items in
    let q = c.pack_attribute_line.new.out.items in
    let items = c.deref-item-items.result.now in
    let end_at : List SwitchClause → ℕ =
    λ xs. end_of_clauses (plain.clauses_of (map switch_clause_view xs)) in
    let head = packed_attribute_line (attributes_view n.attributes.items) in
    let subject = packed_expression_node (expression_node_view n.expression) in
    let body = packed_attribute_line (attributes_view n.body_attributes.items) in
    let clauses = clauses_left (end_at n.clauses.items) n.clauses.items in
    on_ok_weaker c.pack_rule-2.result (λ ended.
    two_parts o p c.pack_rule-2.new.out.items (switch_rule ∷ (head ++ subject)) (body ++ clauses)
    c.in_ok-pack_on_expression.ensures
    (two_parts p q c.pack_rule-2.new.out.items body clauses c.in_ok-pack_attribute_line.ensures
    (all_written (clauses_left (end_at items)) items c.clauses.item-index c.clauses.out.items
    c.pack_rule-2.new.out.items (q ++ clauses_left (end_at items) items) c.clauses-test.false
    (ended ∙ ap (λ e. c.clauses.out.items ++ (e ∷ [])) (c.end_of_clauses.ensures
    ∙ ap end_at (sym c.deref-item-items.ensures.value))) c.clauses.invariant
    ∙ ap (λ xs. q ++ clauses_left (end_at xs) xs) c.deref-item-items.ensures.value))
    ∙ ap (λ t. o ++ (switch_rule ∷ t)) (append_assoc head subject (body ++ clauses))
    ∙ ap (λ v. o ++ packed_unended_of plain.switch_statement v)
    (sym (switch_statement_out c.args.node.now))) c.pack_rule-2.ensures

pub pack_if_clause-returns : goal.pack_if_clause-returns
pack_if_clause-returns t c =
    let n = out-IfClause c.args.node.now in
    let o = c.args.out.now.items in
    let p = c.pack_rule.new.out.items in
    let q = c.pack_expression_node.new.out.items in
    let r = c.pack_compound.new.out.items in
    let condition = packed_expression_node (expression_node_view n.expression) in
    let body = packed_compound (compound_statement_view n.body) in
    on_ok_weaker c.pack_compound.result (λ written.
    two_parts o p r (if_clause_rule ∷ []) (condition ++ body) c.in_ok-pack_rule.ensures
    (two_parts p q r condition body c.in_ok-pack_expression_node.ensures written)
    ∙ ap (λ v. o ++ packed_if_clause v) (sym (if_clause_out c.args.node.now)))
    c.pack_compound.ensures

pub pack_while-returns : goal.pack_while-returns
pack_while-returns t c =
    let n = out-WhileStatement c.args.node.now in
    let o = c.args.out.now.items in
    let p = c.pack_on_expression.new.out.items in
    let q = c.pack_compound.new.out.items in
    let head = packed_attribute_line (attributes_view n.attributes.items) in
    let condition = packed_expression_node (expression_node_view n.condition) in
    let body = packed_compound (compound_statement_view n.body) in
    on_ok_weaker c.pack_compound.result (λ written.
    two_parts o p q (while_rule ∷ (head ++ condition)) body c.in_ok-pack_on_expression.ensures written
    ∙ ap (λ t. o ++ (while_rule ∷ t)) (append_assoc head condition body)
    ∙ ap (λ v. o ++ packed_unended_of plain.while_statement v)
    (sym (while_statement_out c.args.node.now))) c.pack_compound.ensures
