-- Written by tools/tables/renamed_trees.py from crates/wgsl_model/nodes.
use Rattle.std.proofs.Common.{rules, ◌∙◌, refl, sym, ap, map, Some}
use Rattle.std.proofs.lemmas.List.{take_all}
use Rattle.std.specs.Option.{option_map}
use Rattle.wgsl_tree_renamed.specs.NewNames.{renaming_by}
use Rattle.wgsl_model.specs.Trees.Statements.{changed_compound, changed_continuing, changed_else_clause, changed_else_if_clause, changed_if_clause, changed_node, changed_statement, changed_switch_clause}
use Rattle.wgsl_model_names.specs.Renamed.{renaming}
use Rattle.wgsl_tree_statement.specs.View.{continuing_statement_view, else_clause_view, else_if_clause_view, statement_node_view, statement_view, switch_clause_view}
use Rattle.wgsl_tree_statement.proofs.Views.{compound_statement_out, compound_statement_roll, continuing_statement_out, continuing_statement_roll, else_clause_out, else_clause_roll, else_if_clause_out, else_if_clause_roll, for_statement_out, for_statement_roll, if_clause_out, if_clause_roll, if_statement_out, if_statement_roll, is_assignment, is_break, is_compound, is_const_assert, is_continue, is_declaration, is_decrement, is_discard, is_empty, is_for, is_function_call, is_if, is_increment, is_loop, is_return, is_switch, is_while, loop_statement_out, loop_statement_roll, switch_clause_out, switch_clause_roll, switch_statement_out, switch_statement_roll, while_statement_out, while_statement_roll}
use Rattle.wgsl_tree_renamed.proofs.Lists.{item_more}
use Rattle.wgsl_tree_renamed.proofs.Statements.{block_renamed, clauses_renamed, else_ifs_renamed, else_renamed, maybe_continuing_renamed, node_renamed, part_renamed, statements_renamed, variant_renamed}
use Rattle.wgsl_tree_statement.specs.declared.statement.Statement.{Statement}
use Rattle.wgsl_model.specs.Trees.Statements as plain
use Rattle.wgsl_tree_statement.specs.declared.statement.Statement.TheViews as layers
use Rattle.wgsl_tree_renamed.proofs.statement_nodes.+statements.Goals as goal

pub renamed_compound-returns : goal.renamed_compound-returns
renamed_compound-returns t c =
    let f = renaming_by c.args.names.now in
    let original = layers.out-CompoundStatement c.args.node.now in
    let attributes = c.in_ok-renamed_attributes.ensures in
    let statements = statements_renamed f original.statements.items _ (c.in_ok-renamed_statements.ensures
    ∙ ap (λ xs. map (changed_node (renaming f)) (map statement_node_view xs)) c.deref.ensures.value) in
    compound_statement_roll _ ∙ (λ i. plain.compound_statement (attributes i) (statements i))
    ∙ sym (ap (changed_compound (renaming f)) (compound_statement_out c.args.node.now))

pub renamed_if-returns : goal.renamed_if-returns
renamed_if-returns t c =
    let f = renaming_by c.args.names.now in
    let attributes = c.in_ok-renamed_attributes.ensures in
    let if_clause = c.in_ok-renamed_if_clause.ensures in
    let else_if_clauses = ap plain.else_ifs_of (c.in_ok-renamed_else_ifs.ensures ∙ ap (λ xs.
    map (changed_else_if_clause (renaming f)) (map else_if_clause_view xs)) c.deref.ensures.value)
    ∙ else_ifs_renamed f _ in
    let else_clause = ap plain.else_of c.in_ok-renamed_else.ensures ∙ else_renamed f _ in
    ap (plain.as_statement plain.if_statement) (if_statement_roll _ _ _ _)
    ∙ (λ i. plain.statement (attributes i)
    (plain.if_statement (plain.if_else (if_clause i) (else_if_clauses i) (else_clause i))))
    ∙ sym (ap (λ s. changed_statement (renaming f) (plain.as_statement plain.if_statement s))
    (if_statement_out c.args.node.now))

pub renamed_if_clause-returns : goal.renamed_if_clause-returns
renamed_if_clause-returns t c =
    let f = renaming_by c.args.names.now in
    let expression = c.in_ok-renamed.ensures in
    let body = c.in_ok-renamed_compound.ensures in
    if_clause_roll _ ∙ (λ i. plain.if_clause (expression i) (body i))
    ∙ sym (ap (changed_if_clause (renaming f)) (if_clause_out c.args.node.now))

pub renamed_else_if_clause-returns : goal.renamed_else_if_clause-returns
renamed_else_if_clause-returns t c =
    let f = renaming_by c.args.names.now in
    let attributes = c.in_ok-renamed_attributes.ensures in
    let expression = c.in_ok-renamed.ensures in
    let body = c.in_ok-renamed_compound.ensures in
    else_if_clause_roll _ ∙ (λ i. plain.else_if_clause (attributes i) (expression i) (body i))
    ∙ sym (ap (changed_else_if_clause (renaming f)) (else_if_clause_out c.args.node.now))

pub renamed_else_clause-returns : goal.renamed_else_clause-returns
renamed_else_clause-returns t c =
    let f = renaming_by c.args.names.now in
    let attributes = c.in_ok-renamed_attributes.ensures in
    let body = c.in_ok-renamed_compound.ensures in
    else_clause_roll _ ∙ (λ i. plain.else_clause (attributes i) (body i))
    ∙ sym (ap (changed_else_clause (renaming f)) (else_clause_out c.args.node.now))

pub renamed_switch-returns : goal.renamed_switch-returns
renamed_switch-returns t c =
    let f = renaming_by c.args.names.now in
    let attributes = c.in_ok-renamed_attributes.ensures in
    let expression = c.in_ok-renamed.ensures in
    let body_attributes = c.in_ok-renamed_attributes-2.ensures in
    let clauses = ap plain.clauses_of (c.in_ok-renamed_clauses.ensures ∙ ap (λ xs. map (changed_switch_clause
    (renaming f)) (map switch_clause_view xs)) c.deref.ensures.value) ∙ clauses_renamed f _ in
    ap (plain.as_statement plain.switch_statement) (switch_statement_roll _)
    ∙ (λ i. plain.statement (attributes i)
    (plain.switch_statement (plain.switch (expression i) (body_attributes i) (clauses i))))
    ∙ sym (ap (λ s. changed_statement (renaming f) (plain.as_statement plain.switch_statement s))
    (switch_statement_out c.args.node.now))

pub renamed_switch_clause-returns : goal.renamed_switch_clause-returns
renamed_switch_clause-returns t c =
    let f = renaming_by c.args.names.now in
    let attributes = c.in_ok-renamed_attributes.ensures in
    let case_selectors = c.in_ok-renamed.ensures in
    let body = c.in_ok-renamed_compound.ensures in
    switch_clause_roll _ ∙ (λ i. plain.switch_clause (attributes i) (case_selectors i) (body i))
    ∙ sym (ap (changed_switch_clause (renaming f)) (switch_clause_out c.args.node.now))

pub renamed_loop-returns : goal.renamed_loop-returns
renamed_loop-returns t c =
    let f = renaming_by c.args.names.now in
    let attributes = c.in_ok-renamed_attributes.ensures in
    let body = c.in_ok-renamed_compound.ensures in
    let continuing = ap plain.continuing_of c.in_ok-renamed_maybe_continuing.ensures ∙ maybe_continuing_renamed f _ in
    ap (plain.as_statement plain.loop_statement) (loop_statement_roll _ _ _)
    ∙ (λ i. plain.statement (attributes i) (plain.loop_statement (plain.repeat (body i) (continuing i))))
    ∙ sym (ap (λ s. changed_statement (renaming f) (plain.as_statement plain.loop_statement s))
    (loop_statement_out c.args.node.now))

pub renamed_for-returns : goal.renamed_for-returns
renamed_for-returns t c =
    let f = renaming_by c.args.names.now in
    let attributes = c.in_ok-renamed_attributes.ensures in
    let initializer = ap plain.maybe_statement c.in_ok-renamed_part.ensures ∙ part_renamed f _ in
    let condition = c.in_ok-renamed.ensures in
    let update = ap plain.maybe_statement c.in_ok-renamed_part-2.ensures ∙ part_renamed f _ in
    let body = c.in_ok-renamed_compound.ensures in
    ap (plain.as_statement plain.for_statement) (for_statement_roll _ _ _ _ _)
    ∙ (λ i. plain.statement (attributes i)
    (plain.for_statement (plain.repeat_for (initializer i) (condition i) (update i) (body i))))
    ∙ sym (ap (λ s. changed_statement (renaming f) (plain.as_statement plain.for_statement s))
    (for_statement_out c.args.node.now))

pub renamed_while-returns : goal.renamed_while-returns
renamed_while-returns t c =
    let f = renaming_by c.args.names.now in
    let attributes = c.in_ok-renamed_attributes.ensures in
    let condition = c.in_ok-renamed.ensures in
    let body = c.in_ok-renamed_compound.ensures in
    ap (plain.as_statement plain.while_statement) (while_statement_roll _)
    ∙ (λ i. plain.statement (attributes i) (plain.while_statement (plain.repeat_while (condition i) (body i))))
    ∙ sym (ap (λ s. changed_statement (renaming f) (plain.as_statement plain.while_statement s))
    (while_statement_out c.args.node.now))

pub renamed_continuing-returns : goal.renamed_continuing-returns
renamed_continuing-returns t c =
    let f = renaming_by c.args.names.now in
    let attributes = c.in_ok-renamed_attributes.ensures in
    let body = c.in_ok-renamed_compound.ensures in
    let break_if = c.in_ok-renamed.ensures in
    continuing_statement_roll _ ∙ (λ i. plain.continuing (attributes i) (body i) (break_if i))
    ∙ sym (ap (changed_continuing (renaming f)) (continuing_statement_out c.args.node.now))

pub renamed_statements-nodes-preserved : goal.renamed_statements-nodes-preserved
renamed_statements-nodes-preserved t c =
    let f = renaming_by c.args.names.now in
    ap (map statement_node_view) c.in_ok-push.ensures.items
    ∙ item_more statement_node_view (changed_node (renaming f)) c.args.part.now c.nodes.copies.items
    c.nodes.node-index c.node-item.result c.in_ok-new.field-0 (search rules) c.node-item.is
    c.nodes.invariant (node_renamed f c.node-item.result c.in_ok-new.field-0 c.in_ok-copy.copy
    c.in_ok-new.ensures.node (c.in_ok-new.ensures.span ∙ c.span.ensures) (c.in_ok-copy.ensures
    ∙ ap (λ (s : Statement). changed_statement (renaming f) (statement_view s)) c.node.ensures))

pub renamed_statements-returns : goal.renamed_statements-returns
renamed_statements-returns t c =
    let f = renaming_by c.args.names.now in
    c.nodes.invariant ∙ ap (λ xs. map (changed_node (renaming f)) (map statement_node_view xs))
    (take_all _ c.args.part.now c.nodes-test.false)

pub renamed_else_ifs-nodes-preserved : goal.renamed_else_ifs-nodes-preserved
renamed_else_ifs-nodes-preserved t c =
    let f = renaming_by c.args.names.now in
    ap (map else_if_clause_view) c.in_ok-push.ensures.items
    ∙ item_more else_if_clause_view (changed_else_if_clause (renaming f)) c.args.part.now
    c.nodes.copies.items c.nodes.node-index c.node-item.result c.in_ok-renamed_else_if_clause.field-0
    (search rules) c.node-item.is c.nodes.invariant c.in_ok-renamed_else_if_clause.ensures

pub renamed_else_ifs-returns : goal.renamed_else_ifs-returns
renamed_else_ifs-returns t c =
    let f = renaming_by c.args.names.now in
    c.nodes.invariant ∙ ap (λ xs. map (changed_else_if_clause (renaming f)) (map else_if_clause_view xs))
    (take_all _ c.args.part.now c.nodes-test.false)

pub renamed_clauses-nodes-preserved : goal.renamed_clauses-nodes-preserved
renamed_clauses-nodes-preserved t c =
    let f = renaming_by c.args.names.now in
    ap (map switch_clause_view) c.in_ok-push.ensures.items
    ∙ item_more switch_clause_view (changed_switch_clause (renaming f)) c.args.part.now
    c.nodes.copies.items c.nodes.node-index c.node-item.result c.in_ok-renamed_switch_clause.field-0
    (search rules) c.node-item.is c.nodes.invariant c.in_ok-renamed_switch_clause.ensures

pub renamed_clauses-returns : goal.renamed_clauses-returns
renamed_clauses-returns t c =
    let f = renaming_by c.args.names.now in
    c.nodes.invariant ∙ ap (λ xs. map (changed_switch_clause (renaming f)) (map switch_clause_view xs))
    (take_all _ c.args.part.now c.nodes-test.false)

pub renamed_statement-returns-in-Void : goal.renamed_statement-returns-in-Void
renamed_statement-returns-in-Void t c =
    let f = renaming_by c.args.names.now in
    variant_renamed f _ _ is_empty refl (ap (λ (s : Statement). statement_view s) c.in-Void.is ∙ is_empty)

pub renamed_statement-returns-in_ok-renamed_compound-in-Compound :
    goal.renamed_statement-returns-in_ok-renamed_compound-in-Compound
renamed_statement-returns-in_ok-renamed_compound-in-Compound t c =
    let f = renaming_by c.args.names.now in
    variant_renamed f _ _ (is_compound _)
    (ap plain.block_statement c.in_ok-renamed_compound-in-Compound.ensures ∙ block_renamed f _)
    (ap (λ (s : Statement). statement_view s) c.in-Compound.is ∙ is_compound _)

pub renamed_statement-returns-in_ok-renamed-in-Assignment : goal.renamed_statement-returns-in_ok-renamed-in-Assignment
renamed_statement-returns-in_ok-renamed-in-Assignment t c =
    let f = renaming_by c.args.names.now in
    variant_renamed f _ _ (is_assignment _) c.in_ok-renamed-in-Assignment.ensures
    (ap (λ (s : Statement). statement_view s) c.in-Assignment.is ∙ is_assignment _)

pub renamed_statement-returns-in_ok-renamed-in-Increment : goal.renamed_statement-returns-in_ok-renamed-in-Increment
renamed_statement-returns-in_ok-renamed-in-Increment t c =
    let f = renaming_by c.args.names.now in
    variant_renamed f _ _ (is_increment _) c.in_ok-renamed-in-Increment.ensures
    (ap (λ (s : Statement). statement_view s) c.in-Increment.is ∙ is_increment _)

pub renamed_statement-returns-in_ok-renamed-in-Decrement : goal.renamed_statement-returns-in_ok-renamed-in-Decrement
renamed_statement-returns-in_ok-renamed-in-Decrement t c =
    let f = renaming_by c.args.names.now in
    variant_renamed f _ _ (is_decrement _) c.in_ok-renamed-in-Decrement.ensures
    (ap (λ (s : Statement). statement_view s) c.in-Decrement.is ∙ is_decrement _)

pub renamed_statement-returns-in_ok-renamed_if-in-If : goal.renamed_statement-returns-in_ok-renamed_if-in-If
renamed_statement-returns-in_ok-renamed_if-in-If t c =
    let f = renaming_by c.args.names.now in
    variant_renamed f _ _ (is_if _) c.in_ok-renamed_if-in-If.ensures
    (ap (λ (s : Statement). statement_view s) c.in-If.is ∙ is_if _)

pub renamed_statement-returns-in_ok-renamed_switch-in-Switch :
    goal.renamed_statement-returns-in_ok-renamed_switch-in-Switch
renamed_statement-returns-in_ok-renamed_switch-in-Switch t c =
    let f = renaming_by c.args.names.now in
    variant_renamed f _ _ (is_switch _) c.in_ok-renamed_switch-in-Switch.ensures
    (ap (λ (s : Statement). statement_view s) c.in-Switch.is ∙ is_switch _)

pub renamed_statement-returns-in_ok-renamed_loop-in-Loop : goal.renamed_statement-returns-in_ok-renamed_loop-in-Loop
renamed_statement-returns-in_ok-renamed_loop-in-Loop t c =
    let f = renaming_by c.args.names.now in
    variant_renamed f _ _ (is_loop _) c.in_ok-renamed_loop-in-Loop.ensures
    (ap (λ (s : Statement). statement_view s) c.in-Loop.is ∙ is_loop _)

pub renamed_statement-returns-in_ok-renamed_for-in-For : goal.renamed_statement-returns-in_ok-renamed_for-in-For
renamed_statement-returns-in_ok-renamed_for-in-For t c =
    let f = renaming_by c.args.names.now in
    variant_renamed f _ _ (is_for _) c.in_ok-renamed_for-in-For.ensures
    (ap (λ (s : Statement). statement_view s) c.in-For.is ∙ is_for _)

pub renamed_statement-returns-in_ok-renamed_while-in-While : goal.renamed_statement-returns-in_ok-renamed_while-in-While
renamed_statement-returns-in_ok-renamed_while-in-While t c =
    let f = renaming_by c.args.names.now in
    variant_renamed f _ _ (is_while _) c.in_ok-renamed_while-in-While.ensures
    (ap (λ (s : Statement). statement_view s) c.in-While.is ∙ is_while _)

pub renamed_statement-returns-in_ok-renamed-in-Break : goal.renamed_statement-returns-in_ok-renamed-in-Break
renamed_statement-returns-in_ok-renamed-in-Break t c =
    let f = renaming_by c.args.names.now in
    variant_renamed f _ _ (is_break _) c.in_ok-renamed-in-Break.ensures
    (ap (λ (s : Statement). statement_view s) c.in-Break.is ∙ is_break _)

pub renamed_statement-returns-in_ok-renamed-in-Continue : goal.renamed_statement-returns-in_ok-renamed-in-Continue
renamed_statement-returns-in_ok-renamed-in-Continue t c =
    let f = renaming_by c.args.names.now in
    variant_renamed f _ _ (is_continue _) c.in_ok-renamed-in-Continue.ensures
    (ap (λ (s : Statement). statement_view s) c.in-Continue.is ∙ is_continue _)

pub renamed_statement-returns-in_ok-renamed-in-Return : goal.renamed_statement-returns-in_ok-renamed-in-Return
renamed_statement-returns-in_ok-renamed-in-Return t c =
    let f = renaming_by c.args.names.now in
    variant_renamed f _ _ (is_return _) c.in_ok-renamed-in-Return.ensures
    (ap (λ (s : Statement). statement_view s) c.in-Return.is ∙ is_return _)

pub renamed_statement-returns-in_ok-renamed-in-Discard : goal.renamed_statement-returns-in_ok-renamed-in-Discard
renamed_statement-returns-in_ok-renamed-in-Discard t c =
    let f = renaming_by c.args.names.now in
    variant_renamed f _ _ (is_discard _) c.in_ok-renamed-in-Discard.ensures
    (ap (λ (s : Statement). statement_view s) c.in-Discard.is ∙ is_discard _)

pub renamed_statement-returns-in_ok-renamed-in-FunctionCall :
    goal.renamed_statement-returns-in_ok-renamed-in-FunctionCall
renamed_statement-returns-in_ok-renamed-in-FunctionCall t c =
    let f = renaming_by c.args.names.now in
    variant_renamed f _ _ (is_function_call _) c.in_ok-renamed-in-FunctionCall.ensures
    (ap (λ (s : Statement). statement_view s) c.in-FunctionCall.is ∙ is_function_call _)

pub renamed_statement-returns-in_ok-renamed-in-ConstAssert : goal.renamed_statement-returns-in_ok-renamed-in-ConstAssert
renamed_statement-returns-in_ok-renamed-in-ConstAssert t c =
    let f = renaming_by c.args.names.now in
    variant_renamed f _ _ (is_const_assert _)
    (ap (plain.as_statement plain.const_assert) c.in_ok-renamed-in-ConstAssert.ensures)
    (ap (λ (s : Statement). statement_view s) c.in-ConstAssert.is ∙ is_const_assert _)

pub renamed_statement-returns-in_ok-renamed-in-Declaration : goal.renamed_statement-returns-in_ok-renamed-in-Declaration
renamed_statement-returns-in_ok-renamed-in-Declaration t c =
    let f = renaming_by c.args.names.now in
    variant_renamed f _ _ (is_declaration _)
    (ap (plain.as_statement plain.declaration) c.in_ok-renamed-in-Declaration.ensures)
    (ap (λ (s : Statement). statement_view s) c.in-Declaration.is ∙ is_declaration _)

pub renamed_else-returns-in-None : goal.renamed_else-returns-in-None
renamed_else-returns-in-None t c =
    let f = renaming_by c.args.names.now in
    sym (ap (λ o. option_map (changed_else_clause (renaming f)) (option_map else_clause_view o)) c.in-None.is)

pub renamed_else-returns-in_ok-renamed_else_clause-in-Some : goal.renamed_else-returns-in_ok-renamed_else_clause-in-Some
renamed_else-returns-in_ok-renamed_else_clause-in-Some t c =
    let f = renaming_by c.args.names.now in
    ap Some c.in_ok-renamed_else_clause-in-Some.ensures
    ∙ sym (ap (λ o. option_map (changed_else_clause (renaming f)) (option_map else_clause_view o)) c.in-Some.is)

pub renamed_maybe_continuing-returns-in-None : goal.renamed_maybe_continuing-returns-in-None
renamed_maybe_continuing-returns-in-None t c =
    let f = renaming_by c.args.names.now in
    sym (ap (λ o. option_map (changed_continuing (renaming f)) (option_map continuing_statement_view o)) c.in-None.is)

pub renamed_maybe_continuing-returns-in_ok-renamed_continuing-in-Some :
    goal.renamed_maybe_continuing-returns-in_ok-renamed_continuing-in-Some
renamed_maybe_continuing-returns-in_ok-renamed_continuing-in-Some t c =
    let f = renaming_by c.args.names.now in
    ap Some c.in_ok-renamed_continuing-in-Some.ensures
    ∙ sym (ap (λ o. option_map (changed_continuing (renaming f)) (option_map continuing_statement_view o)) c.in-Some.is)

pub renamed_part-returns-in-None : goal.renamed_part-returns-in-None
renamed_part-returns-in-None t c =
    let f = renaming_by c.args.names.now in
    sym (ap (λ o. option_map (changed_node (renaming f)) (option_map statement_node_view o)) c.in-None.is)
