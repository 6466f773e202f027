-- Written by tools/tables/cycle_views.py from crates/wgsl_model/nodes: nodes as plain data.
use Rattle.std.specs.Prelude.{List, [], ◌∷◌, Option, None, Some, map}
use Rattle.std.specs.Option.{option_map}
use Rattle.wgsl_span.specs.declared.Spanned.{Spanned}
use Rattle.wgsl_model.specs.Trees.Attributed.{Attributed, with_attributes}
use Rattle.wgsl_span.specs.Spanned.{spanned_node, spanned_span}
use Rattle.wgsl_span.specs.View.{span_view}
use Rattle.wgsl_tree_expression.specs.View.{expression_node_view}
use Rattle.wgsl_tree_attribute.specs.View.{attributes_view}
use Rattle.wgsl_tree_simple.specs.View.{assert_view, assignment_view, break_if_view, break_view, call_statement_view, continue_view, declaration_view, decrement_view, discard_view, increment_view, return_view, selector_view}
use Rattle.wgsl_tree_statement.specs.declared.compound.CompoundStatement.{CompoundStatement}
use Rattle.wgsl_tree_statement.specs.declared.continuing.ContinuingStatement.{ContinuingStatement}
use Rattle.wgsl_tree_statement.specs.declared.else_clause.ElseClause.{ElseClause}
use Rattle.wgsl_tree_statement.specs.declared.else_clause.ElseIfClause.{ElseIfClause}
use Rattle.wgsl_tree_statement.specs.declared.for_statement.ForStatement.{ForStatement}
use Rattle.wgsl_tree_statement.specs.declared.if_statement.IfClause.{IfClause}
use Rattle.wgsl_tree_statement.specs.declared.if_statement.IfStatement.{IfStatement}
use Rattle.wgsl_tree_statement.specs.declared.loop_statement.LoopStatement.{LoopStatement}
use Rattle.wgsl_tree_statement.specs.declared.statement.Statement.{Statement}
use Rattle.wgsl_tree_statement.specs.declared.switch.SwitchClause.{SwitchClause}
use Rattle.wgsl_tree_statement.specs.declared.switch.SwitchStatement.{SwitchStatement}
use Rattle.wgsl_tree_statement.specs.declared.while_statement.WhileStatement.{WhileStatement}
use Rattle.wgsl_model.specs.Trees.Statements as plain
use Rattle.wgsl_tree_statement.specs.declared.statement.Statement.TheOpen as layer
use Rattle.wgsl_tree_statement.specs.declared.statement.Statement.TheFolds as folds
pub use Rattle.wgsl_tree_statement.specs.VariantsNodes.{is_compound, is_assignment, is_increment}
pub use Rattle.wgsl_tree_statement.specs.VariantsNodes.{is_decrement, is_if, is_switch, is_loop}
pub use Rattle.wgsl_tree_statement.specs.VariantsNodes.{is_for, is_while, is_break, is_continue}
pub use Rattle.wgsl_tree_statement.specs.VariantsNodes.{is_return, is_discard, is_function_call}
pub use Rattle.wgsl_tree_statement.specs.VariantsNodes.{is_const_assert, is_declaration}

-- parts whose own parts are plain data
abbrev pub node_of : Spanned plain.Statement → plain.StatementNode
node_of s = plain.statement_node (spanned_node s) (span_view (spanned_span s))

abbrev pub nodes_of : List (Spanned plain.Statement) → plain.StatementNodes
nodes_of [] = plain.no_statements
nodes_of (s ∷ ss) = plain.statement_before (node_of s) (nodes_of ss)

abbrev pub maybe_node_of : Option (Spanned plain.Statement) → plain.MaybeStatement
maybe_node_of None = plain.no_statement
maybe_node_of (Some s) = plain.one_statement (node_of s)

-- a layer whose parts are plain data
abbrev pub Layer : ((a b c d e f g h i j k l : Type 0) → Type 0) → Type 0
Layer F = F plain.Statement plain.CompoundStatement plain.ContinuingStatement plain.ElseClause
    plain.ElseIfClause (Attributed plain.ForStatement) plain.IfClause (Attributed plain.IfStatement)
    (Attributed plain.LoopStatement) plain.SwitchClause (Attributed plain.SwitchStatement)
    (Attributed plain.WhileStatement)

-- one layer of each type
abbrev pub statement_step : Layer layer.Statement-F → plain.Statement
statement_step layer.Void = plain.unattributed plain.void
statement_step (layer.Compound s) = plain.block_statement s
statement_step (layer.Assignment s) = plain.as_statement plain.assignment (assignment_view s)
statement_step (layer.Increment s) = plain.as_statement plain.increment (increment_view s)
statement_step (layer.Decrement s) = plain.as_statement plain.decrement (decrement_view s)
statement_step (layer.If s) = plain.as_statement plain.if_statement s
statement_step (layer.Switch s) = plain.as_statement plain.switch_statement s
statement_step (layer.Loop s) = plain.as_statement plain.loop_statement s
statement_step (layer.For s) = plain.as_statement plain.for_statement s
statement_step (layer.While s) = plain.as_statement plain.while_statement s
statement_step (layer.Break s) = break_view s
statement_step (layer.Continue s) = continue_view s
statement_step (layer.Return s) = plain.as_statement plain.return_statement (return_view s)
statement_step (layer.Discard s) = discard_view s
statement_step (layer.FunctionCall s) = plain.as_statement plain.function_call_statement (call_statement_view s)
statement_step (layer.ConstAssert s) = plain.as_statement plain.const_assert (assert_view s)
statement_step (layer.Declaration s) = plain.as_statement plain.declaration (declaration_view s)

abbrev pub compound_statement_step : Layer layer.CompoundStatement-F → plain.CompoundStatement
compound_statement_step s = plain.compound_statement (attributes_view s.attributes.items) (nodes_of s.statements.items)

abbrev pub continuing_statement_step : Layer layer.ContinuingStatement-F → plain.ContinuingStatement
continuing_statement_step s = plain.continuing (attributes_view s.attributes.items) s.body
    (option_map break_if_view s.break_if)

abbrev pub else_clause_step : Layer layer.ElseClause-F → plain.ElseClause
else_clause_step s = plain.else_clause (attributes_view s.attributes.items) s.body

abbrev pub else_if_clause_step : Layer layer.ElseIfClause-F → plain.ElseIfClause
else_if_clause_step s = plain.else_if_clause (attributes_view s.attributes.items)
    (expression_node_view s.expression) s.body

abbrev pub for_statement_step : Layer layer.ForStatement-F → Attributed plain.ForStatement
for_statement_step s = with_attributes (attributes_view s.attributes.items)
    (plain.repeat_for (maybe_node_of s.initializer) (option_map expression_node_view s.condition)
    (maybe_node_of s.update) s.body)

abbrev pub if_clause_step : Layer layer.IfClause-F → plain.IfClause
if_clause_step s = plain.if_clause (expression_node_view s.expression) s.body

abbrev pub if_statement_step : Layer layer.IfStatement-F → Attributed plain.IfStatement
if_statement_step s = with_attributes (attributes_view s.attributes.items)
    (plain.if_else s.if_clause (plain.else_ifs_of s.else_if_clauses.items) (plain.else_of s.else_clause))

abbrev pub loop_statement_step : Layer layer.LoopStatement-F → Attributed plain.LoopStatement
loop_statement_step s = with_attributes (attributes_view s.attributes.items)
    (plain.repeat s.body (plain.continuing_of s.continuing))

abbrev pub switch_clause_step : Layer layer.SwitchClause-F → plain.SwitchClause
switch_clause_step s = plain.switch_clause (attributes_view s.attributes.items)
    (map selector_view s.case_selectors.items) s.body

abbrev pub switch_statement_step : Layer layer.SwitchStatement-F → Attributed plain.SwitchStatement
switch_statement_step s = with_attributes (attributes_view s.attributes.items)
    (plain.switch (expression_node_view s.expression) (attributes_view s.body_attributes.items)
    (plain.clauses_of s.clauses.items))

abbrev pub while_statement_step : Layer layer.WhileStatement-F → Attributed plain.WhileStatement
while_statement_step s = with_attributes (attributes_view s.attributes.items)
    (plain.repeat_while (expression_node_view s.condition) s.body)

-- a fold with these layers
abbrev pub viewed : {R : (a b c d e f g h i j k l : Type 0) → Type 0}
    → ((a b c d e f g h i j k l : Type 0)
    → (layer.Statement-F a b c d e f g h i j k l → a)
    → (layer.CompoundStatement-F a b c d e f g h i j k l → b)
    → (layer.ContinuingStatement-F a b c d e f g h i j k l → c)
    → (layer.ElseClause-F a b c d e f g h i j k l → d)
    → (layer.ElseIfClause-F a b c d e f g h i j k l → e)
    → (layer.ForStatement-F a b c d e f g h i j k l → f)
    → (layer.IfClause-F a b c d e f g h i j k l → g)
    → (layer.IfStatement-F a b c d e f g h i j k l → h)
    → (layer.LoopStatement-F a b c d e f g h i j k l → i)
    → (layer.SwitchClause-F a b c d e f g h i j k l → j)
    → (layer.SwitchStatement-F a b c d e f g h i j k l → k)
    → (layer.WhileStatement-F a b c d e f g h i j k l → l)
    → R a b c d e f g h i j k l)
    → Layer R
viewed fold = fold plain.Statement plain.CompoundStatement plain.ContinuingStatement plain.ElseClause
    plain.ElseIfClause (Attributed plain.ForStatement) plain.IfClause (Attributed plain.IfStatement)
    (Attributed plain.LoopStatement) plain.SwitchClause (Attributed plain.SwitchStatement)
    (Attributed plain.WhileStatement) statement_step compound_statement_step continuing_statement_step
    else_clause_step else_if_clause_step for_statement_step if_clause_step if_statement_step
    loop_statement_step switch_clause_step switch_statement_step while_statement_step

-- each type: a fold of its layers
abbrev pub statement_view : Statement → plain.Statement
statement_view = viewed folds.fold-Statement

abbrev pub compound_statement_view : CompoundStatement → plain.CompoundStatement
compound_statement_view = viewed folds.fold-CompoundStatement

abbrev pub continuing_statement_view : ContinuingStatement → plain.ContinuingStatement
continuing_statement_view = viewed folds.fold-ContinuingStatement

abbrev pub else_clause_view : ElseClause → plain.ElseClause
else_clause_view = viewed folds.fold-ElseClause

abbrev pub else_if_clause_view : ElseIfClause → plain.ElseIfClause
else_if_clause_view = viewed folds.fold-ElseIfClause

abbrev pub for_statement_view : ForStatement → Attributed plain.ForStatement
for_statement_view = viewed folds.fold-ForStatement

abbrev pub if_clause_view : IfClause → plain.IfClause
if_clause_view = viewed folds.fold-IfClause

abbrev pub if_statement_view : IfStatement → Attributed plain.IfStatement
if_statement_view = viewed folds.fold-IfStatement

abbrev pub loop_statement_view : LoopStatement → Attributed plain.LoopStatement
loop_statement_view = viewed folds.fold-LoopStatement

abbrev pub switch_clause_view : SwitchClause → plain.SwitchClause
switch_clause_view = viewed folds.fold-SwitchClause

abbrev pub switch_statement_view : SwitchStatement → Attributed plain.SwitchStatement
switch_statement_view = viewed folds.fold-SwitchStatement

abbrev pub while_statement_view : WhileStatement → Attributed plain.WhileStatement
while_statement_view = viewed folds.fold-WhileStatement

-- with spans
abbrev pub statement_node_view : Spanned Statement → plain.StatementNode
statement_node_view s = plain.statement_node (statement_view (spanned_node s)) (span_view (spanned_span s))

abbrev pub statement_nodes_view : List (Spanned Statement) → plain.StatementNodes
statement_nodes_view [] = plain.no_statements
statement_nodes_view (s ∷ ss) = plain.statement_before (statement_node_view s) (statement_nodes_view ss)
