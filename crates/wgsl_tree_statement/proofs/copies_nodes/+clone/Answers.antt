-- Written by tools/tables/tree_copies.py from crates/wgsl_model/nodes.
use Rattle.std.proofs.Common.{rules, ◌≡◌, ◌∙◌, sym, ap, map, Some}
use Rattle.std.proofs.lemmas.List.{take_all}
use Rattle.std.specs.Option.{option_map}
use Rattle.wgsl_model.specs.Trees.Attributed.{with_attributes}
use Rattle.wgsl_model.specs.Trees.Statements.{block_statement, clauses_of, continuing_of, else_ifs_of, else_of, maybe_statement}
use Rattle.wgsl_tree_expression.specs.View.{expression_node_view}
use Rattle.wgsl_tree_simple.specs.View.{break_if_view, selector_view}
use Rattle.wgsl_tree_attribute.proofs.Copies.{items_copied, maybe_expression_copied, option_copied}
use Rattle.wgsl_tree_statement.specs.View.{continuing_statement_view, else_clause_view, else_if_clause_view, statement_node_view, statement_nodes_view, statement_view, switch_clause_view}
use Rattle.wgsl_tree_statement.proofs.Views.{compound_statement_out, compound_statement_roll, continuing_statement_out, continuing_statement_roll, else_clause_out, else_clause_roll, else_if_clause_out, else_if_clause_roll, for_statement_out, for_statement_roll, if_clause_out, if_clause_roll, if_statement_out, if_statement_roll, is_compound, loop_statement_out, loop_statement_roll, switch_clause_out, switch_clause_roll, switch_statement_out, switch_statement_roll, while_statement_out, while_statement_roll}
use Rattle.wgsl_tree_statement.proofs.Copies.{item_more, node_more}
use Rattle.wgsl_tree_statement.specs.declared.statement.Statement.{Statement}
use Rattle.wgsl_model.specs.Trees.Statements as plain
use Rattle.wgsl_tree_statement.specs.declared.statement.Statement.TheViews as layers
use Rattle.wgsl_tree_statement.proofs.copies_nodes.+clone.Goals as goal

pub CompoundStatementCloneWith::clone_with-returns : goal.CompoundStatementCloneWith::clone_with-returns
CompoundStatementCloneWith::clone_with-returns t c =
    let attributes = c.in_ok-clone_attributes.ensures in
    let statements = c.in_ok-clone_statements.ensures ∙ ap (λ xs. statement_nodes_view xs) c.deref.ensures.value in
    record {
      copy = compound_statement_roll _ ∙ (λ i. plain.compound_statement (attributes i) (statements i))
          ∙ sym (compound_statement_out c.args.self.now);
    }

pub IfStatementCloneWith::clone_with-returns : goal.IfStatementCloneWith::clone_with-returns
IfStatementCloneWith::clone_with-returns t c =
    let attributes = c.in_ok-clone_attributes.ensures in
    let if_clause = c.in_ok-clone_with.ensures.copy in
    let else_if_clauses = c.in_ok-clone_else_ifs.ensures
    ∙ ap (λ xs. map else_if_clause_view xs) c.deref.ensures.value in
    let else_clause = c.in_ok-clone_else.ensures in
    record {
      copy = if_statement_roll _ _ _ _ ∙ (λ i. with_attributes (attributes i)
          (plain.if_else (if_clause i) (else_ifs_of (else_if_clauses i)) (else_of (else_clause i))))
          ∙ sym (if_statement_out c.args.self.now);
    }

pub IfClauseCloneWith::clone_with-returns : goal.IfClauseCloneWith::clone_with-returns
IfClauseCloneWith::clone_with-returns t c =
    let original = layers.out-IfClause c.args.self.now in
    let expression : expression_node_view c.in_ok-clone_with.field-0
    ≡ expression_node_view original.expression = search rules in
    let body = c.in_ok-clone_with-2.ensures.copy in
    record {
      copy = if_clause_roll _ ∙ (λ i. plain.if_clause (expression i) (body i))
          ∙ sym (if_clause_out c.args.self.now);
    }

pub ElseIfClauseCloneWith::clone_with-returns : goal.ElseIfClauseCloneWith::clone_with-returns
ElseIfClauseCloneWith::clone_with-returns t c =
    let original = layers.out-ElseIfClause c.args.self.now in
    let attributes = c.in_ok-clone_attributes.ensures in
    let expression : expression_node_view c.in_ok-clone_with.field-0
    ≡ expression_node_view original.expression = search rules in
    let body = c.in_ok-clone_with-2.ensures.copy in
    record {
      copy = else_if_clause_roll _ ∙ (λ i. plain.else_if_clause (attributes i) (expression i) (body i))
          ∙ sym (else_if_clause_out c.args.self.now);
    }

pub ElseClauseCloneWith::clone_with-returns : goal.ElseClauseCloneWith::clone_with-returns
ElseClauseCloneWith::clone_with-returns t c =
    let attributes = c.in_ok-clone_attributes.ensures in
    let body = c.in_ok-clone_with.ensures.copy in
    record {
      copy = else_clause_roll _ ∙ (λ i. plain.else_clause (attributes i) (body i))
          ∙ sym (else_clause_out c.args.self.now);
    }

pub SwitchStatementCloneWith::clone_with-returns : goal.SwitchStatementCloneWith::clone_with-returns
SwitchStatementCloneWith::clone_with-returns t c =
    let original = layers.out-SwitchStatement c.args.self.now in
    let attributes = c.in_ok-clone_attributes.ensures in
    let expression : expression_node_view c.in_ok-clone_with.field-0
    ≡ expression_node_view original.expression = search rules in
    let body_attributes = c.in_ok-clone_attributes-2.ensures in
    let clauses = c.in_ok-clone_clauses.ensures ∙ ap (λ xs. map switch_clause_view xs) c.deref.ensures.value in
    record {
      copy = switch_statement_roll _ ∙ (λ i. with_attributes (attributes i)
          (plain.switch (expression i) (body_attributes i) (clauses_of (clauses i))))
          ∙ sym (switch_statement_out c.args.self.now);
    }

pub SwitchClauseCloneWith::clone_with-returns : goal.SwitchClauseCloneWith::clone_with-returns
SwitchClauseCloneWith::clone_with-returns t c =
    let original = layers.out-SwitchClause c.args.self.now in
    let attributes = c.in_ok-clone_attributes.ensures in
    let case_selectors = items_copied selector_view original.case_selectors.items _ c.in_ok-clone_with.ensures.copy in
    let body = c.in_ok-clone_with-2.ensures.copy in
    record {
      copy = switch_clause_roll _ ∙ (λ i. plain.switch_clause (attributes i) (case_selectors i) (body i))
          ∙ sym (switch_clause_out c.args.self.now);
    }

pub LoopStatementCloneWith::clone_with-returns : goal.LoopStatementCloneWith::clone_with-returns
LoopStatementCloneWith::clone_with-returns t c =
    let attributes = c.in_ok-clone_attributes.ensures in
    let body = c.in_ok-clone_with.ensures.copy in
    let continuing = c.in_ok-clone_maybe_continuing.ensures in
    record {
      copy = loop_statement_roll _ _ _
          ∙ (λ i. with_attributes (attributes i) (plain.repeat (body i) (continuing_of (continuing i))))
          ∙ sym (loop_statement_out c.args.self.now);
    }

pub ForStatementCloneWith::clone_with-returns : goal.ForStatementCloneWith::clone_with-returns
ForStatementCloneWith::clone_with-returns t c =
    let original = layers.out-ForStatement c.args.self.now in
    let attributes = c.in_ok-clone_attributes.ensures in
    let initializer = c.in_ok-clone_part.ensures in
    let condition = maybe_expression_copied original.condition _ c.in_ok-clone_with.ensures.copy in
    let update = c.in_ok-clone_part-2.ensures in
    let body = c.in_ok-clone_with-2.ensures.copy in
    record {
      copy = for_statement_roll _ _ _ _ _ ∙ (λ i. with_attributes (attributes i) (plain.repeat_for
          (maybe_statement (initializer i)) (condition i) (maybe_statement (update i)) (body i)))
          ∙ sym (for_statement_out c.args.self.now);
    }

pub WhileStatementCloneWith::clone_with-returns : goal.WhileStatementCloneWith::clone_with-returns
WhileStatementCloneWith::clone_with-returns t c =
    let original = layers.out-WhileStatement c.args.self.now in
    let attributes = c.in_ok-clone_attributes.ensures in
    let condition : expression_node_view c.in_ok-clone_with.field-0
    ≡ expression_node_view original.condition = search rules in
    let body = c.in_ok-clone_with-2.ensures.copy in
    record {
      copy = while_statement_roll _
          ∙ (λ i. with_attributes (attributes i) (plain.repeat_while (condition i) (body i)))
          ∙ sym (while_statement_out c.args.self.now);
    }

pub ContinuingStatementCloneWith::clone_with-returns : goal.ContinuingStatementCloneWith::clone_with-returns
ContinuingStatementCloneWith::clone_with-returns t c =
    let original = layers.out-ContinuingStatement c.args.self.now in
    let attributes = c.in_ok-clone_attributes.ensures in
    let body = c.in_ok-clone_with.ensures.copy in
    let break_if = option_copied break_if_view original.break_if _ c.in_ok-clone_with-2.ensures.copy in
    record {
      copy = continuing_statement_roll _ ∙ (λ i. plain.continuing (attributes i) (body i) (break_if i))
          ∙ sym (continuing_statement_out c.args.self.now);
    }

pub clone_statements-nodes-preserved : goal.clone_statements-nodes-preserved
clone_statements-nodes-preserved t c =
    let same : statement_node_view c.in_ok-new.field-0 ≡ statement_node_view c.node-item.result = search rules in
    ap statement_nodes_view c.in_ok-push.ensures.items
    ∙ node_more c.args.part.now c.nodes.copies.items c.nodes.node-index c.node-item.result
    c.in_ok-new.field-0 (search rules) c.node-item.is c.nodes.invariant same

pub clone_statements-returns : goal.clone_statements-returns
clone_statements-returns t c = c.nodes.invariant
    ∙ ap statement_nodes_view (take_all _ c.args.part.now c.nodes-test.false)

pub clone_else_ifs-nodes-preserved : goal.clone_else_ifs-nodes-preserved
clone_else_ifs-nodes-preserved t c =
    ap (map else_if_clause_view) c.in_ok-push.ensures.items ∙ item_more else_if_clause_view
    c.args.part.now c.nodes.copies.items c.nodes.node-index c.node-item.result c.in_ok-clone_with.field-0
    (search rules) c.node-item.is c.nodes.invariant c.in_ok-clone_with.ensures.copy

pub clone_else_ifs-returns : goal.clone_else_ifs-returns
clone_else_ifs-returns t c = c.nodes.invariant
    ∙ ap (map else_if_clause_view) (take_all _ c.args.part.now c.nodes-test.false)

pub clone_clauses-nodes-preserved : goal.clone_clauses-nodes-preserved
clone_clauses-nodes-preserved t c =
    ap (map switch_clause_view) c.in_ok-push.ensures.items ∙ item_more switch_clause_view c.args.part.now
    c.nodes.copies.items c.nodes.node-index c.node-item.result c.in_ok-clone_with.field-0
    (search rules) c.node-item.is c.nodes.invariant c.in_ok-clone_with.ensures.copy

pub clone_clauses-returns : goal.clone_clauses-returns
clone_clauses-returns t c = c.nodes.invariant
    ∙ ap (map switch_clause_view) (take_all _ c.args.part.now c.nodes-test.false)

pub clone_else-returns-in-None : goal.clone_else-returns-in-None
clone_else-returns-in-None t c = sym (ap (option_map else_clause_view) c.in-None.is)

pub clone_else-returns-in_ok-clone_with-in-Some : goal.clone_else-returns-in_ok-clone_with-in-Some
clone_else-returns-in_ok-clone_with-in-Some t c = ap Some c.in_ok-clone_with-in-Some.ensures.copy
    ∙ sym (ap (option_map else_clause_view) c.in-Some.is)

pub clone_maybe_continuing-returns-in-None : goal.clone_maybe_continuing-returns-in-None
clone_maybe_continuing-returns-in-None t c = sym (ap (option_map continuing_statement_view) c.in-None.is)

pub clone_maybe_continuing-returns-in_ok-clone_with-in-Some :
    goal.clone_maybe_continuing-returns-in_ok-clone_with-in-Some
clone_maybe_continuing-returns-in_ok-clone_with-in-Some t c =
    ap Some c.in_ok-clone_with-in-Some.ensures.copy
    ∙ sym (ap (option_map continuing_statement_view) c.in-Some.is)

pub clone_part-returns-in-None : goal.clone_part-returns-in-None
clone_part-returns-in-None t c = sym (ap (option_map statement_node_view) c.in-None.is)

pub StatementCloneWith::clone_with-returns-in_ok-clone_with-in-Compound :
    goal.StatementCloneWith::clone_with-returns-in_ok-clone_with-in-Compound
StatementCloneWith::clone_with-returns-in_ok-clone_with-in-Compound t c = record {
  copy = is_compound _ ∙ ap block_statement c.in_ok-clone_with-in-Compound.ensures.copy
      ∙ sym (ap (λ (s : Statement). statement_view s) c.in-Compound.is ∙ is_compound _);
}
