-- The trees of statements, and of the declarations of values (WGSL, "Statements", "Variable and
-- Value Declarations"), and how they are made.
use Rattle.std.specs.Prelude.{ℕ, List, [], Option}
use Rattle.wgsl_model.specs.Trees.Expressions.{ExpressionNode, TypeExpression}
use Rattle.wgsl_model.specs.Trees.Operators.{AssignmentOperator}
use Rattle.wgsl_model.specs.Trees.Attributes.{Attributes}
use Rattle.wgsl_model.specs.Trees.Attributed.{Attributed}
-- names of StatementNodes, written by tools/tables/plain_nodes.py
pub use Rattle.wgsl_model.specs.Trees.StatementNodes.{
  DeclarationKind,
  DeclarationKind.const_kind,
  DeclarationKind.override_kind,
  DeclarationKind.let_kind,
  DeclarationKind.var_kind,
  Declaration,
  AssignmentStatement,
  IncrementStatement,
  DecrementStatement,
  CaseSelector,
  CaseSelector.default_selector,
  CaseSelector.expression_selector,
  BreakIfStatement,
  ReturnStatement,
  FunctionCallStatement,
  ConstAssert,
  StatementNode,
  StatementNode.statement_node,
  Statement,
  Statement.statement,
  UnattributedStatement,
  UnattributedStatement.void,
  UnattributedStatement.compound,
  UnattributedStatement.assignment,
  UnattributedStatement.increment,
  UnattributedStatement.decrement,
  UnattributedStatement.if_statement,
  UnattributedStatement.switch_statement,
  UnattributedStatement.loop_statement,
  UnattributedStatement.for_statement,
  UnattributedStatement.while_statement,
  UnattributedStatement.break_statement,
  UnattributedStatement.continue_statement,
  UnattributedStatement.discard_statement,
  UnattributedStatement.return_statement,
  UnattributedStatement.function_call_statement,
  UnattributedStatement.const_assert,
  UnattributedStatement.declaration,
  CompoundStatement,
  CompoundStatement.compound_statement,
  IfStatement,
  IfStatement.if_else,
  IfClause,
  IfClause.if_clause,
  ElseIfClause,
  ElseIfClause.else_if_clause,
  ElseClause,
  ElseClause.else_clause,
  SwitchStatement,
  SwitchStatement.switch,
  SwitchClause,
  SwitchClause.switch_clause,
  LoopStatement,
  LoopStatement.repeat,
  ForStatement,
  ForStatement.repeat_for,
  WhileStatement,
  WhileStatement.repeat_while,
  ContinuingStatement,
  ContinuingStatement.continuing,
  StatementNodes,
  StatementNodes.no_statements,
  StatementNodes.statement_before,
  MaybeStatement,
  MaybeStatement.no_statement,
  MaybeStatement.one_statement,
  ElseIfClauses,
  ElseIfClauses.no_else_ifs,
  ElseIfClauses.else_if_before,
  MaybeElseClause,
  MaybeElseClause.no_else,
  MaybeElseClause.one_else,
  SwitchClauses,
  SwitchClauses.no_clauses,
  SwitchClauses.clause_before,
  MaybeContinuing,
  MaybeContinuing.no_continuing,
  MaybeContinuing.one_continuing,
  statements_of,
  maybe_statement,
  else_ifs_of,
  else_of,
  clauses_of,
  continuing_of,
  increment_of,
  decrement_of,
  switch_of,
  for_of,
  while_of,
  return_of,
  call_statement_of,
  Change,
  changed_statement,
  changed_node,
  changed_unattributed,
  changed_compound,
  changed_if,
  changed_if_clause,
  changed_else_if_clause,
  changed_else_clause,
  changed_switch,
  changed_switch_clause,
  changed_loop,
  changed_for,
  changed_while,
  changed_continuing,
  changed_statements,
  changed_part,
  changed_else_ifs,
  changed_else,
  changed_clauses,
  changed_maybe_continuing,
}

-- a statement without attributes
abbrev pub unattributed : UnattributedStatement → Statement
unattributed s = statement [] s

-- a node after its attributes, as a statement of its kind
abbrev pub as_statement : {Node : Type 0} → (Node → UnattributedStatement) → Attributed Node → Statement
as_statement kind a = statement a.attributes (kind a.node)

-- the attributes of a block, and its statements
abbrev pub compound_attributes : CompoundStatement → Attributes
compound_attributes (compound_statement attributes ss) = attributes

abbrev pub compound_statements : CompoundStatement → StatementNodes
compound_statements (compound_statement attributes ss) = ss

-- a block as a statement
abbrev pub block_statement : CompoundStatement → Statement
block_statement b = statement (compound_attributes b) (compound (compound_statements b))

-- ---- statements of their parts, as the rules of the grammar have them
-- the declaration of a value: its kind, its name and type, and its first value
abbrev pub declaration_of : DeclarationKind → List ℕ × Option TypeExpression → Option ExpressionNode → Declaration
declaration_of kind (name, ty) initializer = record { kind = kind; ident = name; ty = ty; initializer = initializer }

-- the declaration of a value as a statement
abbrev pub local_of : DeclarationKind → List ℕ × Option TypeExpression → Option ExpressionNode → UnattributedStatement
local_of kind typed initializer = declaration (declaration_of kind typed initializer)

-- attributes, and statements in braces
abbrev pub compound_of : Attributes → List StatementNode → CompoundStatement
compound_of attributes statements = compound_statement attributes (statements_of statements)

-- what is assigned to a left side, by an operator
abbrev pub assignment_of : ExpressionNode → AssignmentOperator → ExpressionNode → UnattributedStatement
assignment_of lhs operator rhs = assignment (record { operator = operator; lhs = lhs; rhs = rhs })

-- a condition and a block, the clauses with `else if`, and the block of a last `else`
abbrev pub if_of : ExpressionNode → CompoundStatement → List ElseIfClause × Option ElseClause → UnattributedStatement
if_of condition block (else_ifs, last) =
    if_statement (if_else (if_clause condition block) (else_ifs_of else_ifs) (else_of last))

-- `const_assert` of an expression
abbrev pub assert_of : ExpressionNode → ConstAssert
assert_of e = record { expression = e }

-- `const_assert` after its attributes, as a statement
abbrev pub assert_statement : Attributed ConstAssert → Statement
assert_statement = as_statement const_assert

-- attributes, what a clause selects, and its block
abbrev pub clause_of : Attributes → List CaseSelector × CompoundStatement → SwitchClause
clause_of attributes (selectors, block) = switch_clause attributes selectors block

-- the attributes and statements of the body, and its `continuing`
abbrev pub loop_of : Attributes → List StatementNode → Option ContinuingStatement → UnattributedStatement
loop_of body_attributes statements last =
    loop_statement (repeat (compound_of body_attributes statements) (continuing_of last))

-- `break if` with its condition
abbrev pub break_if_of : ExpressionNode → BreakIfStatement
break_if_of e = record { expression = e }

-- attributes, the body, and its `break if`
abbrev pub continuing_statement_of : Attributes
    → CompoundStatement × Option (Attributed BreakIfStatement) → ContinuingStatement
continuing_statement_of attributes (body, break_if) = continuing attributes body break_if
