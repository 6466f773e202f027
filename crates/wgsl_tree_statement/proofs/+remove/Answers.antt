-- Written by tools/tables/tree_voids.py from crates/wgsl_model/nodes.
use Rattle.std.proofs.Common.{rules, ◌≡◌, ◌∙◌, sym, ap, map, Option}
use Rattle.std.proofs.lemmas.List.Elements.{filter_from_retain}
use Rattle.std.specs.Option.{option_map}
use Rattle.wgsl_span.specs.declared.Spanned.{Spanned}
use Rattle.wgsl_model.specs.Trees.Attributed.{with_attributes}
use Rattle.wgsl_model.specs.Trees.EmptyItems.{full_attributed, full_compound, full_continuing, full_else, full_else_clause, full_else_if_clause, full_else_ifs, full_if, full_if_clause, full_maybe_continuing, full_part, full_statement, full_switch, full_switch_clause, without_empty}
use Rattle.wgsl_model.specs.Trees.Statements.{changed_for, changed_loop, changed_while, clauses_of, continuing_of, else_ifs_of, else_of, maybe_statement}
use Rattle.wgsl_tree_expression.specs.View.{expression_node_view}
use Rattle.wgsl_tree_attribute.specs.View.{attributes_view}
use Rattle.wgsl_tree_simple.specs.View.{break_if_view, selector_view}
use Rattle.wgsl_tree_statement.specs.View.{compound_statement_view, continuing_statement_view, else_clause_view, else_if_clause_view, for_statement_view, if_statement_view, loop_statement_view, statement_node_view, statement_nodes_view, switch_clause_view, switch_statement_view, while_statement_view}
use Rattle.wgsl_tree_statement.proofs.Views.{Opened, compound_statement_out, compound_statement_roll, continuing_statement_out, continuing_statement_roll, else_clause_out, else_clause_roll, else_if_clause_out, else_if_clause_roll, for_statement_out, for_statement_roll, if_clause_out, if_clause_roll, if_statement_out, if_statement_roll, is_compound, is_for, is_if, is_loop, is_switch, is_while, loop_statement_out, loop_statement_roll, switch_clause_out, switch_clause_roll, switch_statement_out, switch_statement_roll, while_statement_out, while_statement_roll}
use Rattle.wgsl_tree_statement.proofs.BlockStatements.{block_full}
use Rattle.wgsl_tree_statement.proofs.EmptyStatements.{all_done, clauses_full, else_ifs_full, full_node, list_full, next_done}
use Rattle.wgsl_tree_statement.specs.declared.compound.CompoundStatement.{CompoundStatement}
use Rattle.wgsl_tree_statement.specs.declared.continuing.ContinuingStatement.{ContinuingStatement}
use Rattle.wgsl_tree_statement.specs.declared.else_clause.ElseClause.{ElseClause}
use Rattle.wgsl_tree_statement.specs.declared.for_statement.ForStatement.{ForStatement}
use Rattle.wgsl_tree_statement.specs.declared.if_statement.IfStatement.{IfStatement}
use Rattle.wgsl_tree_statement.specs.declared.loop_statement.LoopStatement.{LoopStatement}
use Rattle.wgsl_tree_statement.specs.declared.statement.Statement.{Statement}
use Rattle.wgsl_tree_statement.specs.declared.switch.SwitchStatement.{SwitchStatement}
use Rattle.wgsl_tree_statement.specs.declared.while_statement.WhileStatement.{WhileStatement}
use Rattle.wgsl_model.specs.Trees.Statements as plain
use Rattle.wgsl_tree_statement.specs.declared.statement.Statement.TheViews as layers
use Rattle.wgsl_tree_statement.specs.declared.statement.Statement.TheOpen as layer
use Rattle.wgsl_tree_statement.specs.declared.statement.Statement.TheViews.{roll-Statement}
use denote.Hole.Carrier as Carrier
use Rattle.wgsl_tree_statement.proofs.+remove.Goals as goal

pub compound::CompoundStatement::remove_voids-returns : goal.compound::CompoundStatement::remove_voids-returns
compound::CompoundStatement::remove_voids-returns t c =
    let original = layers.out-CompoundStatement c.args.self.now in
    let statements = c.remove_from_statements.ensures in
    compound_statement_roll _
    ∙ (λ i. plain.compound_statement (attributes_view original.attributes.items) (statements i))
    ∙ sym (ap full_compound (compound_statement_out c.args.self.now))

pub if_statement::IfStatement::remove_voids-returns : goal.if_statement::IfStatement::remove_voids-returns
if_statement::IfStatement::remove_voids-returns t c =
    let original = layers.out-IfStatement c.args.self.now in
    let if_clause = c.remove_voids.ensures in
    let changed_1 = record original { if_clause = c.remove_voids.new.self } in
    let clean_1 : Opened layer.IfStatement-F = changed_1 in
    let same_1 : layers.out-IfStatement (layers.roll-IfStatement changed_1) ≡ clean_1 =
    layers.out-roll-IfStatement changed_1 in
    let else_if_clauses = c.remove_from_else_ifs.ensures ∙ ap (λ (r : Opened layer.IfStatement-F).
    full_else_ifs (else_ifs_of (map else_if_clause_view r.else_if_clauses.items))) same_1 in
    let changed_2 = record (layers.out-IfStatement
    (layers.roll-IfStatement changed_1)) { else_if_clauses = c.remove_from_else_ifs.new.part } in
    let clean_2 : Opened layer.IfStatement-F = record clean_1 { else_if_clauses = c.remove_from_else_ifs.new.part } in
    let same_2 : layers.out-IfStatement (layers.roll-IfStatement changed_2) ≡ clean_2 =
    layers.out-roll-IfStatement changed_2 ∙ ap (λ (r : Opened layer.IfStatement-F).
    record r { else_if_clauses = c.remove_from_else_ifs.new.part }) same_1 in
    let else_clause = c.remove_from_else.ensures ∙ ap (λ (r : Opened layer.IfStatement-F).
    full_else (else_of (option_map else_clause_view r.else_clause))) same_2 in
    ap (λ (r : Opened layer.IfStatement-F). if_statement_view (layers.roll-IfStatement r))
    (ap (λ (r : Opened layer.IfStatement-F). record r { else_clause = c.remove_from_else.new.part }) same_2)
    ∙ if_statement_roll _ _ _ _ ∙ (λ i. with_attributes (attributes_view original.attributes.items)
    (plain.if_else (if_clause i) (else_if_clauses i) (else_clause i)))
    ∙ sym (ap (full_attributed full_if) (if_statement_out c.args.self.now))

pub if_statement::IfClause::remove_voids-returns : goal.if_statement::IfClause::remove_voids-returns
if_statement::IfClause::remove_voids-returns t c =
    let original = layers.out-IfClause c.args.self.now in
    let body = c.remove_voids.ensures in
    if_clause_roll _ ∙ (λ i. plain.if_clause (expression_node_view original.expression) (body i))
    ∙ sym (ap full_if_clause (if_clause_out c.args.self.now))

pub else_clause::ElseIfClause::remove_voids-returns : goal.else_clause::ElseIfClause::remove_voids-returns
else_clause::ElseIfClause::remove_voids-returns t c =
    let original = layers.out-ElseIfClause c.args.self.now in
    let body = c.remove_voids.ensures in
    else_if_clause_roll _ ∙ (λ i. plain.else_if_clause (attributes_view original.attributes.items)
    (expression_node_view original.expression) (body i))
    ∙ sym (ap full_else_if_clause (else_if_clause_out c.args.self.now))

pub else_clause::ElseClause::remove_voids-returns : goal.else_clause::ElseClause::remove_voids-returns
else_clause::ElseClause::remove_voids-returns t c =
    let original = layers.out-ElseClause c.args.self.now in
    let body = c.remove_voids.ensures in
    else_clause_roll _ ∙ (λ i. plain.else_clause (attributes_view original.attributes.items) (body i))
    ∙ sym (ap full_else_clause (else_clause_out c.args.self.now))

pub switch::SwitchStatement::remove_voids-returns : goal.switch::SwitchStatement::remove_voids-returns
switch::SwitchStatement::remove_voids-returns t c =
    let original = layers.out-SwitchStatement c.args.self.now in
    let clauses = c.remove_from_clauses.ensures in
    switch_statement_roll _
    ∙ (λ i. with_attributes (attributes_view original.attributes.items) (plain.switch
    (expression_node_view original.expression) (attributes_view original.body_attributes.items) (clauses i)))
    ∙ sym (ap (full_attributed full_switch) (switch_statement_out c.args.self.now))

pub switch::SwitchClause::remove_voids-returns : goal.switch::SwitchClause::remove_voids-returns
switch::SwitchClause::remove_voids-returns t c =
    let original = layers.out-SwitchClause c.args.self.now in
    let body = c.remove_voids.ensures in
    switch_clause_roll _ ∙ (λ i. plain.switch_clause (attributes_view original.attributes.items)
    (map selector_view original.case_selectors.items) (body i))
    ∙ sym (ap full_switch_clause (switch_clause_out c.args.self.now))

pub loop_statement::LoopStatement::remove_voids-returns : goal.loop_statement::LoopStatement::remove_voids-returns
loop_statement::LoopStatement::remove_voids-returns t c =
    let original = layers.out-LoopStatement c.args.self.now in
    let body = c.remove_voids.ensures in
    let changed_1 = record original { body = c.remove_voids.new.self } in
    let clean_1 : Opened layer.LoopStatement-F = changed_1 in
    let same_1 : layers.out-LoopStatement (layers.roll-LoopStatement changed_1) ≡ clean_1 =
    layers.out-roll-LoopStatement changed_1 in
    let continuing = c.remove_from_maybe_continuing.ensures ∙ ap (λ (r : Opened layer.LoopStatement-F).
    full_maybe_continuing (continuing_of (option_map continuing_statement_view r.continuing))) same_1 in
    ap (λ (r : Opened layer.LoopStatement-F). loop_statement_view (layers.roll-LoopStatement r)) (ap
    (λ (r : Opened layer.LoopStatement-F). record r { continuing = c.remove_from_maybe_continuing.new.part }) same_1)
    ∙ loop_statement_roll _ _ _
    ∙ (λ i. with_attributes (attributes_view original.attributes.items) (plain.repeat (body i) (continuing i)))
    ∙ sym (ap (full_attributed (changed_loop without_empty)) (loop_statement_out c.args.self.now))

pub for_statement::ForStatement::remove_voids-returns : goal.for_statement::ForStatement::remove_voids-returns
for_statement::ForStatement::remove_voids-returns t c =
    let original = layers.out-ForStatement c.args.self.now in
    let initializer = c.remove_from_part.ensures in
    let changed_1 = record original { initializer = c.remove_from_part.new.part } in
    let clean_1 : Opened layer.ForStatement-F = changed_1 in
    let same_1 : layers.out-ForStatement (layers.roll-ForStatement changed_1) ≡ clean_1 =
    layers.out-roll-ForStatement changed_1 in
    let update = c.remove_from_part-2.ensures ∙ ap (λ (r : Opened layer.ForStatement-F).
    full_part (maybe_statement (option_map statement_node_view r.update))) same_1 in
    let changed_2 = record (layers.out-ForStatement
    (layers.roll-ForStatement changed_1)) { update = c.remove_from_part-2.new.part } in
    let clean_2 : Opened layer.ForStatement-F = record clean_1 { update = c.remove_from_part-2.new.part } in
    let same_2 : layers.out-ForStatement (layers.roll-ForStatement changed_2) ≡ clean_2 =
    layers.out-roll-ForStatement changed_2
    ∙ ap (λ (r : Opened layer.ForStatement-F). record r { update = c.remove_from_part-2.new.part }) same_1 in
    let body = c.remove_voids.ensures
    ∙ ap (λ (r : Opened layer.ForStatement-F). full_compound (compound_statement_view r.body)) same_2 in
    ap (λ (r : Opened layer.ForStatement-F). for_statement_view (layers.roll-ForStatement r))
    (ap (λ (r : Opened layer.ForStatement-F). record r { body = c.remove_voids.new.self }) same_2)
    ∙ for_statement_roll _ _ _ _ _ ∙ (λ i. with_attributes (attributes_view original.attributes.items)
    (plain.repeat_for (initializer i) (option_map expression_node_view original.condition) (update i) (body i)))
    ∙ sym (ap (full_attributed (changed_for without_empty)) (for_statement_out c.args.self.now))

pub while_statement::WhileStatement::remove_voids-returns : goal.while_statement::WhileStatement::remove_voids-returns
while_statement::WhileStatement::remove_voids-returns t c =
    let original = layers.out-WhileStatement c.args.self.now in
    let body = c.remove_voids.ensures in
    while_statement_roll _ ∙ (λ i. with_attributes (attributes_view original.attributes.items)
    (plain.repeat_while (expression_node_view original.condition) (body i)))
    ∙ sym (ap (full_attributed (changed_while without_empty)) (while_statement_out c.args.self.now))

pub continuing::ContinuingStatement::remove_voids-returns : goal.continuing::ContinuingStatement::remove_voids-returns
continuing::ContinuingStatement::remove_voids-returns t c =
    let original = layers.out-ContinuingStatement c.args.self.now in
    let body = c.remove_voids.ensures in
    continuing_statement_roll _ ∙ (λ i. plain.continuing (attributes_view original.attributes.items)
    (body i) (option_map break_if_view original.break_if))
    ∙ sym (ap full_continuing (continuing_statement_out c.args.self.now))

pub voids_nodes::remove_from_statements-items-preserved : goal.voids_nodes::remove_from_statements-items-preserved
voids_nodes::remove_from_statements-items-preserved t c =
    let seen : statement_node_view (record c.index_mut.result.now {
      node = record c.index_mut.result.now.node { value = c.remove_voids.new.self };
    }) ≡ full_node (statement_node_view c.index_mut.result.now) = search rules in
    next_done statement_node_view full_node c.items.part.items c.args.part.now.items c.items.i
    c.index_mut.result.now (record c.index_mut.result.now {
      node = record c.index_mut.result.now.node { value = c.remove_voids.new.self };
    }) (search rules) c.index_mut.ensures.value seen c.items.invariant

pub voids_nodes::remove_from_statements-returns : goal.voids_nodes::remove_from_statements-returns
voids_nodes::remove_from_statements-returns t c =
    ap statement_nodes_view (filter_from_retain _ _ (λ p x b q called. search rules) _ _ _ c.retain.ensures.filtered)
    ∙ list_full c.items.part.items c.args.part.now.items (all_done statement_node_view full_node c.items.part.items
    c.args.part.now.items c.items.invariant.0.0 (λ k d lt. c.items.invariant.1 k d (search rules)))

pub voids_nodes::remove_from_else_ifs-items-preserved : goal.voids_nodes::remove_from_else_ifs-items-preserved
voids_nodes::remove_from_else_ifs-items-preserved t c =
    next_done else_if_clause_view full_else_if_clause c.items.part.items c.args.part.now.items
    c.items.i c.index_mut.result.now c.remove_voids.new.self
    (search rules) c.index_mut.ensures.value c.remove_voids.ensures c.items.invariant

pub voids_nodes::remove_from_else_ifs-returns : goal.voids_nodes::remove_from_else_ifs-returns
voids_nodes::remove_from_else_ifs-returns t c =
    ap else_ifs_of (all_done else_if_clause_view full_else_if_clause c.items.part.items
    c.args.part.now.items c.items.invariant.0.0 (λ k d lt. c.items.invariant.1 k d (search rules)))
    ∙ else_ifs_full (map else_if_clause_view c.args.part.now.items)

pub voids_nodes::remove_from_else-returns-in-Some : goal.voids_nodes::remove_from_else-returns-in-Some
voids_nodes::remove_from_else-returns-in-Some t c =
    ap plain.one_else c.remove_voids.ensures
    ∙ sym (ap (λ (o : Option ElseClause). full_else (else_of (option_map else_clause_view o))) c.in-Some.is)

pub voids_nodes::remove_from_else-returns-in_default : goal.voids_nodes::remove_from_else-returns-in_default
voids_nodes::remove_from_else-returns-in_default t c =
    ap (λ (o : Option ElseClause). else_of (option_map else_clause_view o)) c.in_default.is
    ∙ sym (ap (λ (o : Option ElseClause). full_else (else_of (option_map else_clause_view o))) c.in_default.is)

pub voids_nodes::remove_from_clauses-items-preserved : goal.voids_nodes::remove_from_clauses-items-preserved
voids_nodes::remove_from_clauses-items-preserved t c =
    next_done switch_clause_view full_switch_clause c.items.part.items c.args.part.now.items
    c.items.i c.index_mut.result.now c.remove_voids.new.self
    (search rules) c.index_mut.ensures.value c.remove_voids.ensures c.items.invariant

pub voids_nodes::remove_from_clauses-returns : goal.voids_nodes::remove_from_clauses-returns
voids_nodes::remove_from_clauses-returns t c =
    ap clauses_of (all_done switch_clause_view full_switch_clause c.items.part.items
    c.args.part.now.items c.items.invariant.0.0 (λ k d lt. c.items.invariant.1 k d (search rules)))
    ∙ clauses_full (map switch_clause_view c.args.part.now.items)

pub voids_nodes::remove_from_maybe_continuing-returns-in-Some :
    goal.voids_nodes::remove_from_maybe_continuing-returns-in-Some
voids_nodes::remove_from_maybe_continuing-returns-in-Some t c =
    ap plain.one_continuing c.remove_voids.ensures ∙ sym (ap (λ (o : Option ContinuingStatement).
    full_maybe_continuing (continuing_of (option_map continuing_statement_view o))) c.in-Some.is)

pub voids_nodes::remove_from_maybe_continuing-returns-in_default :
    goal.voids_nodes::remove_from_maybe_continuing-returns-in_default
voids_nodes::remove_from_maybe_continuing-returns-in_default t c =
    ap (λ (o : Option ContinuingStatement). continuing_of (option_map continuing_statement_view o))
    c.in_default.is ∙ sym (ap (λ (o : Option ContinuingStatement).
    full_maybe_continuing (continuing_of (option_map continuing_statement_view o))) c.in_default.is)

pub voids_nodes::remove_from_part-returns-in-Some : goal.voids_nodes::remove_from_part-returns-in-Some
voids_nodes::remove_from_part-returns-in-Some t c =
    let x = c.in-Some.node in
    let y = record x { node = record x.node { value = c.remove_voids.new.self } } in
    let full : statement_node_view y ≡ full_node (statement_node_view x) = search rules in
    ap plain.one_statement full ∙ sym (ap (λ (o : Option (Spanned Statement)).
    full_part (maybe_statement (option_map statement_node_view o))) c.in-Some.is)

pub voids_nodes::remove_from_part-returns-in_default : goal.voids_nodes::remove_from_part-returns-in_default
voids_nodes::remove_from_part-returns-in_default t c =
    ap (λ (o : Option (Spanned Statement)). maybe_statement (option_map statement_node_view o)) c.in_default.is
    ∙ sym (ap (λ (o : Option (Spanned Statement)).
    full_part (maybe_statement (option_map statement_node_view o))) c.in_default.is)

pub statement::Statement::remove_voids-returns-in-Compound : goal.statement::Statement::remove_voids-returns-in-Compound
unfolding roll-Statement Carrier.roll
statement::Statement::remove_voids-returns-in-Compound t c =
    let seen = c.remove_voids.ensures
    ∙ ap (λ (b : CompoundStatement). full_compound (compound_statement_view b)) c.in-Compound.inner-is in
    let whole = is_compound c.remove_voids.new.self ∙ ap plain.block_statement seen
    ∙ sym (block_full (compound_statement_view c.in-Compound.inner))
    ∙ sym (ap full_statement (is_compound c.in-Compound.inner)) in
    rw c.in-Compound.is (search (rules, whole))

pub statement::Statement::remove_voids-returns-in-If : goal.statement::Statement::remove_voids-returns-in-If
unfolding roll-Statement Carrier.roll
statement::Statement::remove_voids-returns-in-If t c =
    let seen = c.remove_voids-in-If.ensures
    ∙ ap (λ (b : IfStatement). full_attributed full_if (if_statement_view b)) c.in-If.inner-is in
    let whole = is_if c.remove_voids-in-If.new.self ∙ ap (plain.as_statement plain.if_statement) seen
    ∙ sym (ap full_statement (is_if c.in-If.inner)) in
    rw c.in-If.is (search (rules, whole))

pub statement::Statement::remove_voids-returns-in-Switch : goal.statement::Statement::remove_voids-returns-in-Switch
unfolding roll-Statement Carrier.roll
statement::Statement::remove_voids-returns-in-Switch t c =
    let seen = c.remove_voids-in-Switch.ensures ∙ ap (λ (b : SwitchStatement).
    full_attributed full_switch (switch_statement_view b)) c.in-Switch.inner-is in
    let whole = is_switch c.remove_voids-in-Switch.new.self ∙ ap (plain.as_statement plain.switch_statement) seen
    ∙ sym (ap full_statement (is_switch c.in-Switch.inner)) in
    rw c.in-Switch.is (search (rules, whole))

pub statement::Statement::remove_voids-returns-in-Loop : goal.statement::Statement::remove_voids-returns-in-Loop
unfolding roll-Statement Carrier.roll
statement::Statement::remove_voids-returns-in-Loop t c =
    let seen = c.remove_voids-in-Loop.ensures ∙ ap (λ (b : LoopStatement).
    full_attributed (changed_loop without_empty) (loop_statement_view b)) c.in-Loop.inner-is in
    let whole = is_loop c.remove_voids-in-Loop.new.self ∙ ap (plain.as_statement plain.loop_statement) seen
    ∙ sym (ap full_statement (is_loop c.in-Loop.inner)) in
    rw c.in-Loop.is (search (rules, whole))

pub statement::Statement::remove_voids-returns-in-For : goal.statement::Statement::remove_voids-returns-in-For
unfolding roll-Statement Carrier.roll
statement::Statement::remove_voids-returns-in-For t c =
    let seen = c.remove_voids-in-For.ensures ∙ ap (λ (b : ForStatement).
    full_attributed (changed_for without_empty) (for_statement_view b)) c.in-For.inner-is in
    let whole = is_for c.remove_voids-in-For.new.self ∙ ap (plain.as_statement plain.for_statement) seen
    ∙ sym (ap full_statement (is_for c.in-For.inner)) in
    rw c.in-For.is (search (rules, whole))

pub statement::Statement::remove_voids-returns-in-While : goal.statement::Statement::remove_voids-returns-in-While
unfolding roll-Statement Carrier.roll
statement::Statement::remove_voids-returns-in-While t c =
    let seen = c.remove_voids-in-While.ensures ∙ ap (λ (b : WhileStatement).
    full_attributed (changed_while without_empty) (while_statement_view b)) c.in-While.inner-is in
    let whole = is_while c.remove_voids-in-While.new.self ∙ ap (plain.as_statement plain.while_statement) seen
    ∙ sym (ap full_statement (is_while c.in-While.inner)) in
    rw c.in-While.is (search (rules, whole))
