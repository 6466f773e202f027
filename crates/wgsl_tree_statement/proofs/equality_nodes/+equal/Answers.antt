-- Written by tools/tables/tree_equalities.py from crates/wgsl_model/nodes.
use Rattle.std.proofs.Common.{rules, ◌≡◌, false, refl, sym, ◌∙◌, ◌&&◌}
use Rattle.wgsl_tree_code.specs.Code.{attributed_code}
use Rattle.wgsl_tree_code.specs.Same.{same}
use Rattle.wgsl_tree_code.specs.Lists.{next_differs, none_left, unlike}
use Rattle.wgsl_tree_code.specs.ExpressionNodes.{expression_node_code}
use Rattle.wgsl_tree_code.specs.StatementNodes.{break_if_code, selector_code}
use Rattle.wgsl_tree_expression.specs.View.{expression_node_view}
use Rattle.wgsl_tree_simple.specs.View.{break_if_view, selector_view}
use Rattle.wgsl_tree_attribute.proofs.Equalities.{attribute_lists_same, lists_same, options_same}
use Rattle.wgsl_tree_simple.proofs.Equalities.{asserts_same, assignments_same, break_ifs_same, breaks_same, call_statements_same, continues_same, declarations_same, decrements_same, discards_same, increments_same, returns_same, selectors_same}
use Rattle.wgsl_tree_statement.specs.View.{compound_statement_view}
use Rattle.wgsl_tree_statement.proofs.Views.{is_assignment, is_break, is_compound, is_const_assert, is_continue, is_declaration, is_decrement, is_discard, is_for, is_function_call, is_if, is_increment, is_loop, is_return, is_switch, is_while}
use Rattle.wgsl_tree_statement.proofs.BlockStatements.{blocks_same}
use Rattle.wgsl_tree_statement.proofs.Equalities.{and_false, and_true, of_one_kind}
use Rattle.wgsl_tree_statement.proofs.EqualityNodes.{attributes_alike, clauses_alike, clauses_item, clauses_same, compound_alike, compound_statement_same, continuing_statement_same, else_alike, else_clause_same, else_if_clause_same, else_ifs_alike, else_ifs_item, else_ifs_same, expression_alike, for_statement_same, if_clause_alike, if_clause_same, if_statement_same, loop_statement_same, maybe_break_if_alike, maybe_continuing_alike, maybe_expression_alike, part_alike, selectors_alike, statements_alike, statements_item, statements_same, switch_clause_same, switch_statement_same, while_statement_same}
use Rattle.wgsl_tree_statement.specs.declared.statement.Statement.TheViews as layers
use Rattle.wgsl_tree_statement.proofs.equality_nodes.+equal.Goals as goal
use Rattle.wgsl_tree_statement.proofs.equality_nodes.+equal.Goals.{IfStatementPartialEq::eq-then-eq, IfStatementPartialEq::eq-else-eq, IfStatementPartialEq::eq-then-eq-2, IfStatementPartialEq::eq-else-eq-2, ElseIfClausePartialEq::eq-then-eq, ElseIfClausePartialEq::eq-else-eq, SwitchStatementPartialEq::eq-then-eq, SwitchStatementPartialEq::eq-else-eq, SwitchStatementPartialEq::eq-then-eq-2, SwitchStatementPartialEq::eq-else-eq-2, SwitchClausePartialEq::eq-then-eq, SwitchClausePartialEq::eq-else-eq, LoopStatementPartialEq::eq-then-eq, LoopStatementPartialEq::eq-else-eq, ForStatementPartialEq::eq-then-eq, ForStatementPartialEq::eq-else-eq, ForStatementPartialEq::eq-then-part_equal, ForStatementPartialEq::eq-else-part_equal, ForStatementPartialEq::eq-then-eq-2, ForStatementPartialEq::eq-else-eq-2, WhileStatementPartialEq::eq-then-eq, WhileStatementPartialEq::eq-else-eq, ContinuingStatementPartialEq::eq-then-eq, ContinuingStatementPartialEq::eq-else-eq}

pub CompoundStatementPartialEq::eq-returns-then-eq : goal.CompoundStatementPartialEq::eq-returns-then-eq
CompoundStatementPartialEq::eq-returns-then-eq t c =
    let a = layers.out-CompoundStatement c.args.self.now in
    let b = layers.out-CompoundStatement c.args.other.now in
    let part_1 = attributes_alike a.attributes b.attributes in
    let part_2 = statements_alike a.statements.items b.statements.items in
    let tested_1 : c.eq.result ≡ part_1 = c.eq.ensures ∙ attribute_lists_same a.attributes.items b.attributes.items in
    and_true c.if-eq.true tested_1 (c.statements_equal.ensures
    ∙ (λ i. statements_alike (c.deref.ensures.value i) (c.deref-then-eq.ensures.value i)))
    ∙ sym (compound_statement_same c.args.self.now c.args.other.now)

pub CompoundStatementPartialEq::eq-returns-else-eq : goal.CompoundStatementPartialEq::eq-returns-else-eq
CompoundStatementPartialEq::eq-returns-else-eq t c =
    let a = layers.out-CompoundStatement c.args.self.now in
    let b = layers.out-CompoundStatement c.args.other.now in
    let part_1 = attributes_alike a.attributes b.attributes in
    let part_2 = statements_alike a.statements.items b.statements.items in
    let tested_1 : c.eq.result ≡ part_1 = c.eq.ensures ∙ attribute_lists_same a.attributes.items b.attributes.items in
    and_false _ c.if-eq.false tested_1 refl ∙ sym (compound_statement_same c.args.self.now c.args.other.now)

pub IfStatementPartialEq::eq-returns-then-else_ifs_equal : goal.IfStatementPartialEq::eq-returns-then-else_ifs_equal
IfStatementPartialEq::eq-returns-then-else_ifs_equal t c =
    let a = layers.out-IfStatement c.args.self.now in
    let b = layers.out-IfStatement c.args.other.now in
    let part_1 = attributes_alike a.attributes b.attributes in
    let part_2 = if_clause_alike a.if_clause b.if_clause in
    let part_3 = else_ifs_alike a.else_if_clauses.items b.else_if_clauses.items in
    let part_4 = else_alike a.else_clause b.else_clause in
    let tested_1 : c.eq.result ≡ part_1 = c.eq.ensures ∙ attribute_lists_same a.attributes.items b.attributes.items in
    let tested_2 : c.if-eq.value ≡ part_1 && part_2 = elim c.if-eq.branch [
      | IfStatementPartialEq::eq-then-eq w ↦ and_true w.if-eq.true tested_1
          (w.value-is ∙ w.eq-then-eq.ensures)
      | IfStatementPartialEq::eq-else-eq w ↦ and_false _ w.if-eq.false tested_1 w.value-is
    ] in
    let tested_3 : c.if-eq-2.value ≡ (part_1 && part_2) && part_3 = elim c.if-eq-2.branch [
      | IfStatementPartialEq::eq-then-eq-2 w ↦ and_true w.if-eq-2.true tested_2
          (w.value-is ∙ w.else_ifs_equal.ensures
          ∙ (λ i. else_ifs_alike (w.deref.ensures.value i) (w.deref-then-eq-2.ensures.value i)))
      | IfStatementPartialEq::eq-else-eq-2 w ↦ and_false _ w.if-eq-2.false tested_2 w.value-is
    ] in
    and_true c.if-else_ifs_equal.true tested_3 c.else_equal.ensures
    ∙ sym (if_statement_same c.args.self.now c.args.other.now)

pub IfStatementPartialEq::eq-returns-else-else_ifs_equal : goal.IfStatementPartialEq::eq-returns-else-else_ifs_equal
IfStatementPartialEq::eq-returns-else-else_ifs_equal t c =
    let a = layers.out-IfStatement c.args.self.now in
    let b = layers.out-IfStatement c.args.other.now in
    let part_1 = attributes_alike a.attributes b.attributes in
    let part_2 = if_clause_alike a.if_clause b.if_clause in
    let part_3 = else_ifs_alike a.else_if_clauses.items b.else_if_clauses.items in
    let part_4 = else_alike a.else_clause b.else_clause in
    let tested_1 : c.eq.result ≡ part_1 = c.eq.ensures ∙ attribute_lists_same a.attributes.items b.attributes.items in
    let tested_2 : c.if-eq.value ≡ part_1 && part_2 = elim c.if-eq.branch [
      | IfStatementPartialEq::eq-then-eq w ↦ and_true w.if-eq.true tested_1
          (w.value-is ∙ w.eq-then-eq.ensures)
      | IfStatementPartialEq::eq-else-eq w ↦ and_false _ w.if-eq.false tested_1 w.value-is
    ] in
    let tested_3 : c.if-eq-2.value ≡ (part_1 && part_2) && part_3 = elim c.if-eq-2.branch [
      | IfStatementPartialEq::eq-then-eq-2 w ↦ and_true w.if-eq-2.true tested_2
          (w.value-is ∙ w.else_ifs_equal.ensures
          ∙ (λ i. else_ifs_alike (w.deref.ensures.value i) (w.deref-then-eq-2.ensures.value i)))
      | IfStatementPartialEq::eq-else-eq-2 w ↦ and_false _ w.if-eq-2.false tested_2 w.value-is
    ] in
    and_false _ c.if-else_ifs_equal.false tested_3 refl
    ∙ sym (if_statement_same c.args.self.now c.args.other.now)

pub IfClausePartialEq::eq-returns-then-eq : goal.IfClausePartialEq::eq-returns-then-eq
IfClausePartialEq::eq-returns-then-eq t c =
    let a = layers.out-IfClause c.args.self.now in
    let b = layers.out-IfClause c.args.other.now in
    let part_1 = expression_alike a.expression b.expression in
    let part_2 = compound_alike a.body b.body in
    let tested_1 : c.eq.result ≡ part_1 = c.eq.ensures in
    and_true c.if-eq.true tested_1 c.eq-then-eq.ensures ∙ sym (if_clause_same c.args.self.now c.args.other.now)

pub IfClausePartialEq::eq-returns-else-eq : goal.IfClausePartialEq::eq-returns-else-eq
IfClausePartialEq::eq-returns-else-eq t c =
    let a = layers.out-IfClause c.args.self.now in
    let b = layers.out-IfClause c.args.other.now in
    let part_1 = expression_alike a.expression b.expression in
    let part_2 = compound_alike a.body b.body in
    let tested_1 : c.eq.result ≡ part_1 = c.eq.ensures in
    and_false _ c.if-eq.false tested_1 refl ∙ sym (if_clause_same c.args.self.now c.args.other.now)

pub ElseIfClausePartialEq::eq-returns-then-eq-2 : goal.ElseIfClausePartialEq::eq-returns-then-eq-2
ElseIfClausePartialEq::eq-returns-then-eq-2 t c =
    let a = layers.out-ElseIfClause c.args.self.now in
    let b = layers.out-ElseIfClause c.args.other.now in
    let part_1 = attributes_alike a.attributes b.attributes in
    let part_2 = expression_alike a.expression b.expression in
    let part_3 = compound_alike a.body b.body in
    let tested_1 : c.eq.result ≡ part_1 = c.eq.ensures ∙ attribute_lists_same a.attributes.items b.attributes.items in
    let tested_2 : c.if-eq.value ≡ part_1 && part_2 = elim c.if-eq.branch [
      | ElseIfClausePartialEq::eq-then-eq w ↦ and_true w.if-eq.true tested_1 (w.value-is ∙ w.eq-then-eq.ensures)
      | ElseIfClausePartialEq::eq-else-eq w ↦ and_false _ w.if-eq.false tested_1 w.value-is
    ] in
    and_true c.if-eq-2.true tested_2 c.eq-then-eq-2.ensures ∙ sym (else_if_clause_same c.args.self.now c.args.other.now)

pub ElseIfClausePartialEq::eq-returns-else-eq-2 : goal.ElseIfClausePartialEq::eq-returns-else-eq-2
ElseIfClausePartialEq::eq-returns-else-eq-2 t c =
    let a = layers.out-ElseIfClause c.args.self.now in
    let b = layers.out-ElseIfClause c.args.other.now in
    let part_1 = attributes_alike a.attributes b.attributes in
    let part_2 = expression_alike a.expression b.expression in
    let part_3 = compound_alike a.body b.body in
    let tested_1 : c.eq.result ≡ part_1 = c.eq.ensures ∙ attribute_lists_same a.attributes.items b.attributes.items in
    let tested_2 : c.if-eq.value ≡ part_1 && part_2 = elim c.if-eq.branch [
      | ElseIfClausePartialEq::eq-then-eq w ↦ and_true w.if-eq.true tested_1 (w.value-is ∙ w.eq-then-eq.ensures)
      | ElseIfClausePartialEq::eq-else-eq w ↦ and_false _ w.if-eq.false tested_1 w.value-is
    ] in
    and_false _ c.if-eq-2.false tested_2 refl ∙ sym (else_if_clause_same c.args.self.now c.args.other.now)

pub ElseClausePartialEq::eq-returns-then-eq : goal.ElseClausePartialEq::eq-returns-then-eq
ElseClausePartialEq::eq-returns-then-eq t c =
    let a = layers.out-ElseClause c.args.self.now in
    let b = layers.out-ElseClause c.args.other.now in
    let part_1 = attributes_alike a.attributes b.attributes in
    let part_2 = compound_alike a.body b.body in
    let tested_1 : c.eq.result ≡ part_1 = c.eq.ensures ∙ attribute_lists_same a.attributes.items b.attributes.items in
    and_true c.if-eq.true tested_1 c.eq-then-eq.ensures ∙ sym (else_clause_same c.args.self.now c.args.other.now)

pub ElseClausePartialEq::eq-returns-else-eq : goal.ElseClausePartialEq::eq-returns-else-eq
ElseClausePartialEq::eq-returns-else-eq t c =
    let a = layers.out-ElseClause c.args.self.now in
    let b = layers.out-ElseClause c.args.other.now in
    let part_1 = attributes_alike a.attributes b.attributes in
    let part_2 = compound_alike a.body b.body in
    let tested_1 : c.eq.result ≡ part_1 = c.eq.ensures ∙ attribute_lists_same a.attributes.items b.attributes.items in
    and_false _ c.if-eq.false tested_1 refl ∙ sym (else_clause_same c.args.self.now c.args.other.now)

pub SwitchStatementPartialEq::eq-returns-then-eq-3 : goal.SwitchStatementPartialEq::eq-returns-then-eq-3
SwitchStatementPartialEq::eq-returns-then-eq-3 t c =
    let a = layers.out-SwitchStatement c.args.self.now in
    let b = layers.out-SwitchStatement c.args.other.now in
    let part_1 = attributes_alike a.attributes b.attributes in
    let part_2 = expression_alike a.expression b.expression in
    let part_3 = attributes_alike a.body_attributes b.body_attributes in
    let part_4 = clauses_alike a.clauses.items b.clauses.items in
    let tested_1 : c.eq.result ≡ part_1 = c.eq.ensures ∙ attribute_lists_same a.attributes.items b.attributes.items in
    let tested_2 : c.if-eq.value ≡ part_1 && part_2 = elim c.if-eq.branch [
      | SwitchStatementPartialEq::eq-then-eq w ↦ and_true w.if-eq.true tested_1
          (w.value-is ∙ w.eq-then-eq.ensures)
      | SwitchStatementPartialEq::eq-else-eq w ↦ and_false _ w.if-eq.false tested_1 w.value-is
    ] in
    let tested_3 : c.if-eq-2.value ≡ (part_1 && part_2) && part_3 = elim c.if-eq-2.branch [
      | SwitchStatementPartialEq::eq-then-eq-2 w ↦ and_true w.if-eq-2.true tested_2 (w.value-is
          ∙ w.eq-then-eq-2.ensures ∙ attribute_lists_same a.body_attributes.items b.body_attributes.items)
      | SwitchStatementPartialEq::eq-else-eq-2 w ↦ and_false _ w.if-eq-2.false tested_2 w.value-is
    ] in
    and_true c.if-eq-3.true tested_3 (c.clauses_equal.ensures
    ∙ (λ i. clauses_alike (c.deref.ensures.value i) (c.deref-then-eq-3.ensures.value i)))
    ∙ sym (switch_statement_same c.args.self.now c.args.other.now)

pub SwitchStatementPartialEq::eq-returns-else-eq-3 : goal.SwitchStatementPartialEq::eq-returns-else-eq-3
SwitchStatementPartialEq::eq-returns-else-eq-3 t c =
    let a = layers.out-SwitchStatement c.args.self.now in
    let b = layers.out-SwitchStatement c.args.other.now in
    let part_1 = attributes_alike a.attributes b.attributes in
    let part_2 = expression_alike a.expression b.expression in
    let part_3 = attributes_alike a.body_attributes b.body_attributes in
    let part_4 = clauses_alike a.clauses.items b.clauses.items in
    let tested_1 : c.eq.result ≡ part_1 = c.eq.ensures ∙ attribute_lists_same a.attributes.items b.attributes.items in
    let tested_2 : c.if-eq.value ≡ part_1 && part_2 = elim c.if-eq.branch [
      | SwitchStatementPartialEq::eq-then-eq w ↦ and_true w.if-eq.true tested_1
          (w.value-is ∙ w.eq-then-eq.ensures)
      | SwitchStatementPartialEq::eq-else-eq w ↦ and_false _ w.if-eq.false tested_1 w.value-is
    ] in
    let tested_3 : c.if-eq-2.value ≡ (part_1 && part_2) && part_3 = elim c.if-eq-2.branch [
      | SwitchStatementPartialEq::eq-then-eq-2 w ↦ and_true w.if-eq-2.true tested_2 (w.value-is
          ∙ w.eq-then-eq-2.ensures ∙ attribute_lists_same a.body_attributes.items b.body_attributes.items)
      | SwitchStatementPartialEq::eq-else-eq-2 w ↦ and_false _ w.if-eq-2.false tested_2 w.value-is
    ] in
    and_false _ c.if-eq-3.false tested_3 refl ∙ sym (switch_statement_same c.args.self.now c.args.other.now)

pub SwitchClausePartialEq::eq-returns-then-eq-2 : goal.SwitchClausePartialEq::eq-returns-then-eq-2
SwitchClausePartialEq::eq-returns-then-eq-2 t c =
    let a = layers.out-SwitchClause c.args.self.now in
    let b = layers.out-SwitchClause c.args.other.now in
    let part_1 = attributes_alike a.attributes b.attributes in
    let part_2 = selectors_alike a.case_selectors b.case_selectors in
    let part_3 = compound_alike a.body b.body in
    let tested_1 : c.eq.result ≡ part_1 = c.eq.ensures ∙ attribute_lists_same a.attributes.items b.attributes.items in
    let tested_2 : c.if-eq.value ≡ part_1 && part_2 = elim c.if-eq.branch [
      | SwitchClausePartialEq::eq-then-eq w ↦ and_true w.if-eq.true tested_1
          (w.value-is ∙ w.eq-then-eq.ensures ∙ lists_same selector_view selector_code _
          selectors_same a.case_selectors.items b.case_selectors.items)
      | SwitchClausePartialEq::eq-else-eq w ↦ and_false _ w.if-eq.false tested_1 w.value-is
    ] in
    and_true c.if-eq-2.true tested_2 c.eq-then-eq-2.ensures
    ∙ sym (switch_clause_same c.args.self.now c.args.other.now)

pub SwitchClausePartialEq::eq-returns-else-eq-2 : goal.SwitchClausePartialEq::eq-returns-else-eq-2
SwitchClausePartialEq::eq-returns-else-eq-2 t c =
    let a = layers.out-SwitchClause c.args.self.now in
    let b = layers.out-SwitchClause c.args.other.now in
    let part_1 = attributes_alike a.attributes b.attributes in
    let part_2 = selectors_alike a.case_selectors b.case_selectors in
    let part_3 = compound_alike a.body b.body in
    let tested_1 : c.eq.result ≡ part_1 = c.eq.ensures ∙ attribute_lists_same a.attributes.items b.attributes.items in
    let tested_2 : c.if-eq.value ≡ part_1 && part_2 = elim c.if-eq.branch [
      | SwitchClausePartialEq::eq-then-eq w ↦ and_true w.if-eq.true tested_1
          (w.value-is ∙ w.eq-then-eq.ensures ∙ lists_same selector_view selector_code _
          selectors_same a.case_selectors.items b.case_selectors.items)
      | SwitchClausePartialEq::eq-else-eq w ↦ and_false _ w.if-eq.false tested_1 w.value-is
    ] in
    and_false _ c.if-eq-2.false tested_2 refl ∙ sym (switch_clause_same c.args.self.now c.args.other.now)

pub LoopStatementPartialEq::eq-returns-then-eq-2 : goal.LoopStatementPartialEq::eq-returns-then-eq-2
LoopStatementPartialEq::eq-returns-then-eq-2 t c =
    let a = layers.out-LoopStatement c.args.self.now in
    let b = layers.out-LoopStatement c.args.other.now in
    let part_1 = attributes_alike a.attributes b.attributes in
    let part_2 = compound_alike a.body b.body in
    let part_3 = maybe_continuing_alike a.continuing b.continuing in
    let tested_1 : c.eq.result ≡ part_1 = c.eq.ensures ∙ attribute_lists_same a.attributes.items b.attributes.items in
    let tested_2 : c.if-eq.value ≡ part_1 && part_2 = elim c.if-eq.branch [
      | LoopStatementPartialEq::eq-then-eq w ↦ and_true w.if-eq.true tested_1
          (w.value-is ∙ w.eq-then-eq.ensures)
      | LoopStatementPartialEq::eq-else-eq w ↦ and_false _ w.if-eq.false tested_1 w.value-is
    ] in
    and_true c.if-eq-2.true tested_2 c.maybe_continuing_equal.ensures
    ∙ sym (loop_statement_same c.args.self.now c.args.other.now)

pub LoopStatementPartialEq::eq-returns-else-eq-2 : goal.LoopStatementPartialEq::eq-returns-else-eq-2
LoopStatementPartialEq::eq-returns-else-eq-2 t c =
    let a = layers.out-LoopStatement c.args.self.now in
    let b = layers.out-LoopStatement c.args.other.now in
    let part_1 = attributes_alike a.attributes b.attributes in
    let part_2 = compound_alike a.body b.body in
    let part_3 = maybe_continuing_alike a.continuing b.continuing in
    let tested_1 : c.eq.result ≡ part_1 = c.eq.ensures ∙ attribute_lists_same a.attributes.items b.attributes.items in
    let tested_2 : c.if-eq.value ≡ part_1 && part_2 = elim c.if-eq.branch [
      | LoopStatementPartialEq::eq-then-eq w ↦ and_true w.if-eq.true tested_1 (w.value-is ∙ w.eq-then-eq.ensures)
      | LoopStatementPartialEq::eq-else-eq w ↦ and_false _ w.if-eq.false tested_1 w.value-is
    ] in
    and_false _ c.if-eq-2.false tested_2 refl ∙ sym (loop_statement_same c.args.self.now c.args.other.now)

pub ForStatementPartialEq::eq-returns-then-part_equal-2 : goal.ForStatementPartialEq::eq-returns-then-part_equal-2
ForStatementPartialEq::eq-returns-then-part_equal-2 t c =
    let a = layers.out-ForStatement c.args.self.now in
    let b = layers.out-ForStatement c.args.other.now in
    let part_1 = attributes_alike a.attributes b.attributes in
    let part_2 = part_alike a.initializer b.initializer in
    let part_3 = maybe_expression_alike a.condition b.condition in
    let part_4 = part_alike a.update b.update in
    let part_5 = compound_alike a.body b.body in
    let tested_1 : c.eq.result ≡ part_1 = c.eq.ensures ∙ attribute_lists_same a.attributes.items b.attributes.items in
    let tested_2 : c.if-eq.value ≡ part_1 && part_2 = elim c.if-eq.branch [
      | ForStatementPartialEq::eq-then-eq w ↦ and_true w.if-eq.true tested_1
          (w.value-is ∙ w.part_equal.ensures)
      | ForStatementPartialEq::eq-else-eq w ↦ and_false _ w.if-eq.false tested_1 w.value-is
    ] in
    let tested_3 : c.if-part_equal.value ≡ (part_1 && part_2) && part_3 = elim c.if-part_equal.branch [
      | ForStatementPartialEq::eq-then-part_equal w ↦ and_true w.if-part_equal.true tested_2
          (w.value-is ∙ w.eq-then-part_equal.ensures ∙ options_same expression_node_view
          expression_node_code _ (λ x y. refl) (λ x. refl) a.condition b.condition)
      | ForStatementPartialEq::eq-else-part_equal w ↦ and_false _ w.if-part_equal.false tested_2 w.value-is
    ] in
    let tested_4 : c.if-eq-2.value ≡ ((part_1 && part_2) && part_3) && part_4 = elim c.if-eq-2.branch [
      | ForStatementPartialEq::eq-then-eq-2 w ↦ and_true w.if-eq-2.true tested_3
          (w.value-is ∙ w.part_equal-then-eq-2.ensures)
      | ForStatementPartialEq::eq-else-eq-2 w ↦ and_false _ w.if-eq-2.false tested_3 w.value-is
    ] in
    and_true c.if-part_equal-2.true tested_4 c.eq-then-part_equal-2.ensures
    ∙ sym (for_statement_same c.args.self.now c.args.other.now)

pub ForStatementPartialEq::eq-returns-else-part_equal-2 : goal.ForStatementPartialEq::eq-returns-else-part_equal-2
ForStatementPartialEq::eq-returns-else-part_equal-2 t c =
    let a = layers.out-ForStatement c.args.self.now in
    let b = layers.out-ForStatement c.args.other.now in
    let part_1 = attributes_alike a.attributes b.attributes in
    let part_2 = part_alike a.initializer b.initializer in
    let part_3 = maybe_expression_alike a.condition b.condition in
    let part_4 = part_alike a.update b.update in
    let part_5 = compound_alike a.body b.body in
    let tested_1 : c.eq.result ≡ part_1 = c.eq.ensures ∙ attribute_lists_same a.attributes.items b.attributes.items in
    let tested_2 : c.if-eq.value ≡ part_1 && part_2 = elim c.if-eq.branch [
      | ForStatementPartialEq::eq-then-eq w ↦ and_true w.if-eq.true tested_1
          (w.value-is ∙ w.part_equal.ensures)
      | ForStatementPartialEq::eq-else-eq w ↦ and_false _ w.if-eq.false tested_1 w.value-is
    ] in
    let tested_3 : c.if-part_equal.value ≡ (part_1 && part_2) && part_3 = elim c.if-part_equal.branch [
      | ForStatementPartialEq::eq-then-part_equal w ↦ and_true w.if-part_equal.true tested_2
          (w.value-is ∙ w.eq-then-part_equal.ensures ∙ options_same expression_node_view
          expression_node_code _ (λ x y. refl) (λ x. refl) a.condition b.condition)
      | ForStatementPartialEq::eq-else-part_equal w ↦ and_false _ w.if-part_equal.false tested_2 w.value-is
    ] in
    let tested_4 : c.if-eq-2.value ≡ ((part_1 && part_2) && part_3) && part_4 = elim c.if-eq-2.branch [
      | ForStatementPartialEq::eq-then-eq-2 w ↦ and_true w.if-eq-2.true tested_3
          (w.value-is ∙ w.part_equal-then-eq-2.ensures)
      | ForStatementPartialEq::eq-else-eq-2 w ↦ and_false _ w.if-eq-2.false tested_3 w.value-is
    ] in
    and_false _ c.if-part_equal-2.false tested_4 refl
    ∙ sym (for_statement_same c.args.self.now c.args.other.now)

pub WhileStatementPartialEq::eq-returns-then-eq-2 : goal.WhileStatementPartialEq::eq-returns-then-eq-2
WhileStatementPartialEq::eq-returns-then-eq-2 t c =
    let a = layers.out-WhileStatement c.args.self.now in
    let b = layers.out-WhileStatement c.args.other.now in
    let part_1 = attributes_alike a.attributes b.attributes in
    let part_2 = expression_alike a.condition b.condition in
    let part_3 = compound_alike a.body b.body in
    let tested_1 : c.eq.result ≡ part_1 = c.eq.ensures ∙ attribute_lists_same a.attributes.items b.attributes.items in
    let tested_2 : c.if-eq.value ≡ part_1 && part_2 = elim c.if-eq.branch [
      | WhileStatementPartialEq::eq-then-eq w ↦ and_true w.if-eq.true tested_1
          (w.value-is ∙ w.eq-then-eq.ensures)
      | WhileStatementPartialEq::eq-else-eq w ↦ and_false _ w.if-eq.false tested_1 w.value-is
    ] in
    and_true c.if-eq-2.true tested_2 c.eq-then-eq-2.ensures
    ∙ sym (while_statement_same c.args.self.now c.args.other.now)

pub WhileStatementPartialEq::eq-returns-else-eq-2 : goal.WhileStatementPartialEq::eq-returns-else-eq-2
WhileStatementPartialEq::eq-returns-else-eq-2 t c =
    let a = layers.out-WhileStatement c.args.self.now in
    let b = layers.out-WhileStatement c.args.other.now in
    let part_1 = attributes_alike a.attributes b.attributes in
    let part_2 = expression_alike a.condition b.condition in
    let part_3 = compound_alike a.body b.body in
    let tested_1 : c.eq.result ≡ part_1 = c.eq.ensures ∙ attribute_lists_same a.attributes.items b.attributes.items in
    let tested_2 : c.if-eq.value ≡ part_1 && part_2 = elim c.if-eq.branch [
      | WhileStatementPartialEq::eq-then-eq w ↦ and_true w.if-eq.true tested_1 (w.value-is ∙ w.eq-then-eq.ensures)
      | WhileStatementPartialEq::eq-else-eq w ↦ and_false _ w.if-eq.false tested_1 w.value-is
    ] in
    and_false _ c.if-eq-2.false tested_2 refl ∙ sym (while_statement_same c.args.self.now c.args.other.now)

pub ContinuingStatementPartialEq::eq-returns-then-eq-2 : goal.ContinuingStatementPartialEq::eq-returns-then-eq-2
ContinuingStatementPartialEq::eq-returns-then-eq-2 t c =
    let a = layers.out-ContinuingStatement c.args.self.now in
    let b = layers.out-ContinuingStatement c.args.other.now in
    let part_1 = attributes_alike a.attributes b.attributes in
    let part_2 = compound_alike a.body b.body in
    let part_3 = maybe_break_if_alike a.break_if b.break_if in
    let tested_1 : c.eq.result ≡ part_1 = c.eq.ensures ∙ attribute_lists_same a.attributes.items b.attributes.items in
    let tested_2 : c.if-eq.value ≡ part_1 && part_2 = elim c.if-eq.branch [
      | ContinuingStatementPartialEq::eq-then-eq w ↦ and_true w.if-eq.true tested_1
          (w.value-is ∙ w.eq-then-eq.ensures)
      | ContinuingStatementPartialEq::eq-else-eq w ↦ and_false _ w.if-eq.false tested_1 w.value-is
    ] in
    and_true c.if-eq-2.true tested_2 (c.eq-then-eq-2.ensures ∙ options_same break_if_view
    (attributed_code break_if_code) _ break_ifs_same (λ x. refl) a.break_if b.break_if)
    ∙ sym (continuing_statement_same c.args.self.now c.args.other.now)

pub ContinuingStatementPartialEq::eq-returns-else-eq-2 : goal.ContinuingStatementPartialEq::eq-returns-else-eq-2
ContinuingStatementPartialEq::eq-returns-else-eq-2 t c =
    let a = layers.out-ContinuingStatement c.args.self.now in
    let b = layers.out-ContinuingStatement c.args.other.now in
    let part_1 = attributes_alike a.attributes b.attributes in
    let part_2 = compound_alike a.body b.body in
    let part_3 = maybe_break_if_alike a.break_if b.break_if in
    let tested_1 : c.eq.result ≡ part_1 = c.eq.ensures ∙ attribute_lists_same a.attributes.items b.attributes.items in
    let tested_2 : c.if-eq.value ≡ part_1 && part_2 = elim c.if-eq.branch [
      | ContinuingStatementPartialEq::eq-then-eq w ↦ and_true w.if-eq.true tested_1 (w.value-is ∙ w.eq-then-eq.ensures)
      | ContinuingStatementPartialEq::eq-else-eq w ↦ and_false _ w.if-eq.false tested_1 w.value-is
    ] in
    and_false _ c.if-eq-2.false tested_2 refl ∙ sym (continuing_statement_same c.args.self.now c.args.other.now)

pub statements_equal-returns-then-a-b : goal.statements_equal-returns-then-a-b
statements_equal-returns-then-a-b t c =
    let xs = c.args.a.now in
    let ys = c.args.b.now in
    sym (statements_same xs ys ∙ unlike statements_item xs ys (λ e. search rules))

pub statements_equal-returns-then-not-eq : goal.statements_equal-returns-then-not-eq
statements_equal-returns-then-not-eq t c =
    let xs = c.args.a.now in
    let ys = c.args.b.now in
    let differ : same (statements_item c.index-a-i.result) (statements_item c.index-b-i.result)
    ≡ false = search rules in
    sym (statements_same xs ys ∙ next_differs statements_item xs ys c.items.i _ _ (search rules)
    (search rules) c.index-a-i.is c.index-b-i.is c.items.invariant differ)

pub statements_equal-returns : goal.statements_equal-returns
statements_equal-returns t c =
    let xs = c.args.a.now in
    let ys = c.args.b.now in
    sym (statements_same xs ys
    ∙ none_left statements_item xs ys c.items.i (search rules) (search rules) c.items.invariant)

pub else_ifs_equal-returns-then-a-b : goal.else_ifs_equal-returns-then-a-b
else_ifs_equal-returns-then-a-b t c =
    let xs = c.args.a.now in
    let ys = c.args.b.now in
    sym (else_ifs_same xs ys ∙ unlike else_ifs_item xs ys (λ e. search rules))

pub else_ifs_equal-returns-then-not-eq : goal.else_ifs_equal-returns-then-not-eq
else_ifs_equal-returns-then-not-eq t c =
    let xs = c.args.a.now in
    let ys = c.args.b.now in
    let differ : same (else_ifs_item c.index-a-i.result) (else_ifs_item c.index-b-i.result) ≡ false = search rules in
    sym (else_ifs_same xs ys ∙ next_differs else_ifs_item xs ys c.items.i _ _ (search rules)
    (search rules) c.index-a-i.is c.index-b-i.is c.items.invariant differ)

pub else_ifs_equal-returns : goal.else_ifs_equal-returns
else_ifs_equal-returns t c =
    let xs = c.args.a.now in
    let ys = c.args.b.now in
    sym (else_ifs_same xs ys ∙ none_left else_ifs_item xs ys c.items.i (search rules) (search rules) c.items.invariant)

pub clauses_equal-returns-then-a-b : goal.clauses_equal-returns-then-a-b
clauses_equal-returns-then-a-b t c =
    let xs = c.args.a.now in
    let ys = c.args.b.now in
    sym (clauses_same xs ys ∙ unlike clauses_item xs ys (λ e. search rules))

pub clauses_equal-returns-then-not-eq : goal.clauses_equal-returns-then-not-eq
clauses_equal-returns-then-not-eq t c =
    let xs = c.args.a.now in
    let ys = c.args.b.now in
    let differ : same (clauses_item c.index-a-i.result) (clauses_item c.index-b-i.result) ≡ false = search rules in
    sym (clauses_same xs ys ∙ next_differs clauses_item xs ys c.items.i _ _ (search rules)
    (search rules) c.index-a-i.is c.index-b-i.is c.items.invariant differ)

pub clauses_equal-returns : goal.clauses_equal-returns
clauses_equal-returns t c =
    let xs = c.args.a.now in
    let ys = c.args.b.now in
    sym (clauses_same xs ys ∙ none_left clauses_item xs ys c.items.i (search rules) (search rules) c.items.invariant)

-- the kinds of statements
pub StatementPartialEq::eq-returns-in-Compound-matches : goal.StatementPartialEq::eq-returns-in-Compound-matches
StatementPartialEq::eq-returns-in-Compound-matches t c = of_one_kind c.in-Compound.is
    (is_compound c.in-Compound.a) c.in-Compound-matches.is (is_compound c.in-Compound-matches.b)
    (c.eq.ensures ∙ sym (blocks_same (compound_statement_view c.in-Compound.a)
    (compound_statement_view c.in-Compound-matches.b))) (search rules)

pub StatementPartialEq::eq-returns-in_default-matches : goal.StatementPartialEq::eq-returns-in_default-matches
StatementPartialEq::eq-returns-in_default-matches t c = of_one_kind c.in-Compound.is
    (is_compound c.in-Compound.a) c.in-Compound-matches.is (is_compound c.in-Compound-matches.b)
    (c.eq.ensures ∙ sym (blocks_same (compound_statement_view c.in-Compound.a)
    (compound_statement_view c.in-Compound-matches.b))) (search rules)

pub StatementPartialEq::eq-returns-in-Assignment-matches : goal.StatementPartialEq::eq-returns-in-Assignment-matches
StatementPartialEq::eq-returns-in-Assignment-matches t c = of_one_kind c.in-Assignment.is
    (is_assignment c.in-Assignment.a) c.in-Assignment-matches.is (is_assignment c.in-Assignment-matches.b)
    (c.eq-in-Assignment.ensures ∙ assignments_same c.in-Assignment.a c.in-Assignment-matches.b)
    (search rules)

pub StatementPartialEq::eq-returns-in_default-matches-2 : goal.StatementPartialEq::eq-returns-in_default-matches-2
StatementPartialEq::eq-returns-in_default-matches-2 t c = of_one_kind c.in-Assignment.is
    (is_assignment c.in-Assignment.a) c.in-Assignment-matches.is (is_assignment c.in-Assignment-matches.b)
    (c.eq-in-Assignment.ensures ∙ assignments_same c.in-Assignment.a c.in-Assignment-matches.b)
    (search rules)

pub StatementPartialEq::eq-returns-in-Increment-matches : goal.StatementPartialEq::eq-returns-in-Increment-matches
StatementPartialEq::eq-returns-in-Increment-matches t c = of_one_kind c.in-Increment.is
    (is_increment c.in-Increment.a) c.in-Increment-matches.is (is_increment c.in-Increment-matches.b)
    (c.eq-in-Increment.ensures ∙ increments_same c.in-Increment.a c.in-Increment-matches.b) (search rules)

pub StatementPartialEq::eq-returns-in_default-matches-3 : goal.StatementPartialEq::eq-returns-in_default-matches-3
StatementPartialEq::eq-returns-in_default-matches-3 t c = of_one_kind c.in-Increment.is
    (is_increment c.in-Increment.a) c.in-Increment-matches.is (is_increment c.in-Increment-matches.b)
    (c.eq-in-Increment.ensures ∙ increments_same c.in-Increment.a c.in-Increment-matches.b) (search rules)

pub StatementPartialEq::eq-returns-in-Decrement-matches : goal.StatementPartialEq::eq-returns-in-Decrement-matches
StatementPartialEq::eq-returns-in-Decrement-matches t c = of_one_kind c.in-Decrement.is
    (is_decrement c.in-Decrement.a) c.in-Decrement-matches.is (is_decrement c.in-Decrement-matches.b)
    (c.eq-in-Decrement.ensures ∙ decrements_same c.in-Decrement.a c.in-Decrement-matches.b) (search rules)

pub StatementPartialEq::eq-returns-in_default-matches-4 : goal.StatementPartialEq::eq-returns-in_default-matches-4
StatementPartialEq::eq-returns-in_default-matches-4 t c = of_one_kind c.in-Decrement.is
    (is_decrement c.in-Decrement.a) c.in-Decrement-matches.is (is_decrement c.in-Decrement-matches.b)
    (c.eq-in-Decrement.ensures ∙ decrements_same c.in-Decrement.a c.in-Decrement-matches.b) (search rules)

pub StatementPartialEq::eq-returns-in-If-matches : goal.StatementPartialEq::eq-returns-in-If-matches
StatementPartialEq::eq-returns-in-If-matches t c = of_one_kind c.in-If.is
    (is_if c.in-If.a) c.in-If-matches.is (is_if c.in-If-matches.b)
    c.eq-in-If.ensures (search rules)

pub StatementPartialEq::eq-returns-in_default-matches-5 : goal.StatementPartialEq::eq-returns-in_default-matches-5
StatementPartialEq::eq-returns-in_default-matches-5 t c = of_one_kind c.in-If.is
    (is_if c.in-If.a) c.in-If-matches.is (is_if c.in-If-matches.b)
    c.eq-in-If.ensures (search rules)

pub StatementPartialEq::eq-returns-in-Switch-matches : goal.StatementPartialEq::eq-returns-in-Switch-matches
StatementPartialEq::eq-returns-in-Switch-matches t c = of_one_kind c.in-Switch.is
    (is_switch c.in-Switch.a) c.in-Switch-matches.is (is_switch c.in-Switch-matches.b)
    c.eq-in-Switch.ensures (search rules)

pub StatementPartialEq::eq-returns-in_default-matches-6 : goal.StatementPartialEq::eq-returns-in_default-matches-6
StatementPartialEq::eq-returns-in_default-matches-6 t c = of_one_kind c.in-Switch.is
    (is_switch c.in-Switch.a) c.in-Switch-matches.is (is_switch c.in-Switch-matches.b)
    c.eq-in-Switch.ensures (search rules)

pub StatementPartialEq::eq-returns-in-Loop-matches : goal.StatementPartialEq::eq-returns-in-Loop-matches
StatementPartialEq::eq-returns-in-Loop-matches t c = of_one_kind c.in-Loop.is
    (is_loop c.in-Loop.a) c.in-Loop-matches.is (is_loop c.in-Loop-matches.b)
    c.eq-in-Loop.ensures (search rules)

pub StatementPartialEq::eq-returns-in_default-matches-7 : goal.StatementPartialEq::eq-returns-in_default-matches-7
StatementPartialEq::eq-returns-in_default-matches-7 t c = of_one_kind c.in-Loop.is
    (is_loop c.in-Loop.a) c.in-Loop-matches.is (is_loop c.in-Loop-matches.b)
    c.eq-in-Loop.ensures (search rules)

pub StatementPartialEq::eq-returns-in-For-matches : goal.StatementPartialEq::eq-returns-in-For-matches
StatementPartialEq::eq-returns-in-For-matches t c = of_one_kind c.in-For.is
    (is_for c.in-For.a) c.in-For-matches.is (is_for c.in-For-matches.b)
    c.eq-in-For.ensures (search rules)

pub StatementPartialEq::eq-returns-in_default-matches-8 : goal.StatementPartialEq::eq-returns-in_default-matches-8
StatementPartialEq::eq-returns-in_default-matches-8 t c = of_one_kind c.in-For.is
    (is_for c.in-For.a) c.in-For-matches.is (is_for c.in-For-matches.b)
    c.eq-in-For.ensures (search rules)

pub StatementPartialEq::eq-returns-in-While-matches : goal.StatementPartialEq::eq-returns-in-While-matches
StatementPartialEq::eq-returns-in-While-matches t c = of_one_kind c.in-While.is
    (is_while c.in-While.a) c.in-While-matches.is (is_while c.in-While-matches.b)
    c.eq-in-While.ensures (search rules)

pub StatementPartialEq::eq-returns-in_default-matches-9 : goal.StatementPartialEq::eq-returns-in_default-matches-9
StatementPartialEq::eq-returns-in_default-matches-9 t c = of_one_kind c.in-While.is
    (is_while c.in-While.a) c.in-While-matches.is (is_while c.in-While-matches.b)
    c.eq-in-While.ensures (search rules)

pub StatementPartialEq::eq-returns-in-Break-matches : goal.StatementPartialEq::eq-returns-in-Break-matches
StatementPartialEq::eq-returns-in-Break-matches t c = of_one_kind c.in-Break.is
    (is_break c.in-Break.a) c.in-Break-matches.is (is_break c.in-Break-matches.b)
    (c.eq-in-Break.ensures ∙ breaks_same c.in-Break.a c.in-Break-matches.b) (search rules)

pub StatementPartialEq::eq-returns-in_default-matches-10 : goal.StatementPartialEq::eq-returns-in_default-matches-10
StatementPartialEq::eq-returns-in_default-matches-10 t c = of_one_kind c.in-Break.is
    (is_break c.in-Break.a) c.in-Break-matches.is (is_break c.in-Break-matches.b)
    (c.eq-in-Break.ensures ∙ breaks_same c.in-Break.a c.in-Break-matches.b) (search rules)

pub StatementPartialEq::eq-returns-in-Continue-matches : goal.StatementPartialEq::eq-returns-in-Continue-matches
StatementPartialEq::eq-returns-in-Continue-matches t c = of_one_kind c.in-Continue.is
    (is_continue c.in-Continue.a) c.in-Continue-matches.is (is_continue c.in-Continue-matches.b)
    (c.eq-in-Continue.ensures ∙ continues_same c.in-Continue.a c.in-Continue-matches.b) (search rules)

pub StatementPartialEq::eq-returns-in_default-matches-11 : goal.StatementPartialEq::eq-returns-in_default-matches-11
StatementPartialEq::eq-returns-in_default-matches-11 t c = of_one_kind c.in-Continue.is
    (is_continue c.in-Continue.a) c.in-Continue-matches.is (is_continue c.in-Continue-matches.b)
    (c.eq-in-Continue.ensures ∙ continues_same c.in-Continue.a c.in-Continue-matches.b) (search rules)

pub StatementPartialEq::eq-returns-in-Return-matches : goal.StatementPartialEq::eq-returns-in-Return-matches
StatementPartialEq::eq-returns-in-Return-matches t c = of_one_kind c.in-Return.is
    (is_return c.in-Return.a) c.in-Return-matches.is (is_return c.in-Return-matches.b)
    (c.eq-in-Return.ensures ∙ returns_same c.in-Return.a c.in-Return-matches.b) (search rules)

pub StatementPartialEq::eq-returns-in_default-matches-12 : goal.StatementPartialEq::eq-returns-in_default-matches-12
StatementPartialEq::eq-returns-in_default-matches-12 t c = of_one_kind c.in-Return.is
    (is_return c.in-Return.a) c.in-Return-matches.is (is_return c.in-Return-matches.b)
    (c.eq-in-Return.ensures ∙ returns_same c.in-Return.a c.in-Return-matches.b) (search rules)

pub StatementPartialEq::eq-returns-in-Discard-matches : goal.StatementPartialEq::eq-returns-in-Discard-matches
StatementPartialEq::eq-returns-in-Discard-matches t c = of_one_kind c.in-Discard.is
    (is_discard c.in-Discard.a) c.in-Discard-matches.is (is_discard c.in-Discard-matches.b)
    (c.eq-in-Discard.ensures ∙ discards_same c.in-Discard.a c.in-Discard-matches.b) (search rules)

pub StatementPartialEq::eq-returns-in_default-matches-13 : goal.StatementPartialEq::eq-returns-in_default-matches-13
StatementPartialEq::eq-returns-in_default-matches-13 t c = of_one_kind c.in-Discard.is
    (is_discard c.in-Discard.a) c.in-Discard-matches.is (is_discard c.in-Discard-matches.b)
    (c.eq-in-Discard.ensures ∙ discards_same c.in-Discard.a c.in-Discard-matches.b) (search rules)

pub StatementPartialEq::eq-returns-in-FunctionCall-matches : goal.StatementPartialEq::eq-returns-in-FunctionCall-matches
StatementPartialEq::eq-returns-in-FunctionCall-matches t c = of_one_kind c.in-FunctionCall.is
    (is_function_call c.in-FunctionCall.a) c.in-FunctionCall-matches.is
    (is_function_call c.in-FunctionCall-matches.b)
    (c.eq-in-FunctionCall.ensures ∙ call_statements_same c.in-FunctionCall.a c.in-FunctionCall-matches.b)
    (search rules)

pub StatementPartialEq::eq-returns-in_default-matches-14 : goal.StatementPartialEq::eq-returns-in_default-matches-14
StatementPartialEq::eq-returns-in_default-matches-14 t c = of_one_kind c.in-FunctionCall.is
    (is_function_call c.in-FunctionCall.a) c.in-FunctionCall-matches.is
    (is_function_call c.in-FunctionCall-matches.b)
    (c.eq-in-FunctionCall.ensures ∙ call_statements_same c.in-FunctionCall.a c.in-FunctionCall-matches.b)
    (search rules)

pub StatementPartialEq::eq-returns-in-ConstAssert-matches : goal.StatementPartialEq::eq-returns-in-ConstAssert-matches
StatementPartialEq::eq-returns-in-ConstAssert-matches t c = of_one_kind c.in-ConstAssert.is
    (is_const_assert c.in-ConstAssert.a) c.in-ConstAssert-matches.is
    (is_const_assert c.in-ConstAssert-matches.b)
    (c.eq-in-ConstAssert.ensures ∙ asserts_same c.in-ConstAssert.a c.in-ConstAssert-matches.b)
    (search rules)

pub StatementPartialEq::eq-returns-in_default-matches-15 : goal.StatementPartialEq::eq-returns-in_default-matches-15
StatementPartialEq::eq-returns-in_default-matches-15 t c = of_one_kind c.in-ConstAssert.is
    (is_const_assert c.in-ConstAssert.a) c.in-ConstAssert-matches.is
    (is_const_assert c.in-ConstAssert-matches.b)
    (c.eq-in-ConstAssert.ensures ∙ asserts_same c.in-ConstAssert.a c.in-ConstAssert-matches.b)
    (search rules)

pub StatementPartialEq::eq-returns-in-Declaration-matches : goal.StatementPartialEq::eq-returns-in-Declaration-matches
StatementPartialEq::eq-returns-in-Declaration-matches t c = of_one_kind c.in-Declaration.is
    (is_declaration c.in-Declaration.a) c.in-Declaration-matches.is
    (is_declaration c.in-Declaration-matches.b)
    (c.eq-in-Declaration.ensures ∙ declarations_same c.in-Declaration.a c.in-Declaration-matches.b)
    (search rules)

pub StatementPartialEq::eq-returns-in_default-matches-16 : goal.StatementPartialEq::eq-returns-in_default-matches-16
StatementPartialEq::eq-returns-in_default-matches-16 t c = of_one_kind c.in-Declaration.is
    (is_declaration c.in-Declaration.a) c.in-Declaration-matches.is
    (is_declaration c.in-Declaration-matches.b)
    (c.eq-in-Declaration.ensures ∙ declarations_same c.in-Declaration.a c.in-Declaration-matches.b)
    (search rules)
