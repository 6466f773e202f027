-- Written by tools/tables/tree_codes.py from crates/wgsl_model/nodes: statements.
use Rattle.std.specs.Prelude.{[], ◌∷◌, codes}
use Rattle.wgsl_model.specs.Trees.Attributes.{Attributes}
use Rattle.wgsl_model.specs.Trees.Statements as plain
use Rattle.wgsl_tree_code.specs.Code.{Code, text, absent, list, Codes, no_codes, code_before, node_of, variant, list_of, optional, pair_of, placed, attributed_code}
use Rattle.wgsl_tree_code.specs.WordNodes.{access_mode_code, address_space_code}
use Rattle.wgsl_tree_code.specs.OperatorNodes.{assignment_operator_code}
use Rattle.wgsl_tree_code.specs.ExpressionNodes.{call_code, expression_node_code, type_code}
use Rattle.wgsl_tree_code.specs.AttributeNodes.{alone_code, attributes_code}

-- which kind of value is declared; a `var` with its template
abbrev pub declaration_kind_code : plain.DeclarationKind → Code
declaration_kind_code plain.const_kind = text (codes "Const")
declaration_kind_code plain.override_kind = text (codes "Override")
declaration_kind_code plain.let_kind = text (codes "Let")
declaration_kind_code (plain.var_kind inner) =
    variant (codes "Var") (optional (λ p. pair_of (address_space_code p.0) (optional access_mode_code p.1)) inner)

-- an assignment, as `lhs += rhs;`
abbrev pub assignment_code : Attributes → plain.AssignmentStatement → Code
assignment_code attributes n = node_of (
    (codes "attributes", attributes_code attributes) ∷
    (codes "operator", assignment_operator_code n.operator) ∷
    (codes "lhs", expression_node_code n.lhs) ∷
    (codes "rhs", expression_node_code n.rhs) ∷
    [])

-- `expression++;`
abbrev pub increment_code : Attributes → plain.IncrementStatement → Code
increment_code attributes n = node_of (
    (codes "attributes", attributes_code attributes) ∷
    (codes "expression", expression_node_code n.expression) ∷
    [])

-- `expression--;`
abbrev pub decrement_code : Attributes → plain.DecrementStatement → Code
decrement_code attributes n = node_of (
    (codes "attributes", attributes_code attributes) ∷
    (codes "expression", expression_node_code n.expression) ∷
    [])

-- what a clause of a `switch` selects
abbrev pub selector_code : plain.CaseSelector → Code
selector_code plain.default_selector = text (codes "Default")
selector_code (plain.expression_selector inner) =
    variant (codes "Expression") (expression_node_code inner)

-- `break if expression;`, the last of a `continuing` block
abbrev pub break_if_code : Attributes → plain.BreakIfStatement → Code
break_if_code attributes n = node_of (
    (codes "attributes", attributes_code attributes) ∷
    (codes "expression", expression_node_code n.expression) ∷
    [])

-- `break;`
abbrev pub break_code : Attributes → Code
break_code attributes = node_of ((codes "attributes", attributes_code attributes) ∷ [])

-- `continue;`
abbrev pub continue_code : Attributes → Code
continue_code attributes = node_of ((codes "attributes", attributes_code attributes) ∷ [])

-- `return;` or `return expression;`
abbrev pub return_code : Attributes → plain.ReturnStatement → Code
return_code attributes n = node_of (
    (codes "attributes", attributes_code attributes) ∷
    (codes "expression", optional expression_node_code n.expression) ∷
    [])

-- `discard;`
abbrev pub discard_code : Attributes → Code
discard_code attributes = node_of ((codes "attributes", attributes_code attributes) ∷ [])

-- a call alone
abbrev pub call_statement_code : Attributes → plain.FunctionCallStatement → Code
call_statement_code attributes n = node_of (
    (codes "attributes", attributes_code attributes) ∷
    (codes "call", call_code n.call) ∷
    [])

-- `const_assert expression;`
abbrev pub assert_code : Attributes → plain.ConstAssert → Code
assert_code attributes n = node_of (
    (codes "attributes", attributes_code attributes) ∷
    (codes "expression", expression_node_code n.expression) ∷
    [])

abbrev pub block_code : Attributes → Codes → Code
block_code attributes statements = node_of (
    (codes "attributes", attributes_code attributes) ∷
    (codes "statements", list statements) ∷
    [])

-- the declaration of a value
abbrev pub declaration_code : Attributes → plain.Declaration → Code
declaration_code attributes n = node_of (
    (codes "attributes", attributes_code attributes) ∷
    (codes "kind", declaration_kind_code n.kind) ∷
    (codes "ident", text n.ident) ∷
    (codes "ty", optional type_code n.ty) ∷
    (codes "initializer", optional expression_node_code n.initializer) ∷
    [])

abbrev mutual
  -- attributes, and statements in braces
  pub compound_code : plain.CompoundStatement → Code
  compound_code (plain.compound_statement attributes statements) =
      block_code attributes (statements_code statements)

  -- the first condition of an `if`, and its block
  pub if_clause_code : plain.IfClause → Code
  if_clause_code (plain.if_clause expression body) = node_of (
      (codes "expression", expression_node_code expression) ∷
      (codes "body", compound_code body) ∷
      [])

  -- an `else if`
  pub else_if_clause_code : plain.ElseIfClause → Code
  else_if_clause_code (plain.else_if_clause attributes expression body) = node_of (
      (codes "attributes", attributes_code attributes) ∷
      (codes "expression", expression_node_code expression) ∷
      (codes "body", compound_code body) ∷
      [])

  -- an `else`
  pub else_clause_code : plain.ElseClause → Code
  else_clause_code (plain.else_clause attributes body) = node_of (
      (codes "attributes", attributes_code attributes) ∷
      (codes "body", compound_code body) ∷
      [])

  -- an `if`, with what follows it
  pub if_code : Attributes → plain.IfStatement → Code
  if_code attributes (plain.if_else first_clause else_if_clauses else_clause) = node_of (
      (codes "attributes", attributes_code attributes) ∷
      (codes "if_clause", if_clause_code first_clause) ∷
      (codes "else_if_clauses", list (else_ifs_code else_if_clauses)) ∷
      (codes "else_clause", else_code else_clause) ∷
      [])

  -- a clause of a `switch`
  pub switch_clause_code : plain.SwitchClause → Code
  switch_clause_code (plain.switch_clause attributes case_selectors body) = node_of (
      (codes "attributes", attributes_code attributes) ∷
      (codes "case_selectors", list_of selector_code case_selectors) ∷
      (codes "body", compound_code body) ∷
      [])

  -- a `switch`
  pub switch_code : Attributes → plain.SwitchStatement → Code
  switch_code attributes (plain.switch expression body_attributes clauses) = node_of (
      (codes "attributes", attributes_code attributes) ∷
      (codes "expression", expression_node_code expression) ∷
      (codes "body_attributes", attributes_code body_attributes) ∷
      (codes "clauses", list (clauses_code clauses)) ∷
      [])

  -- what a loop does after each turn
  pub continuing_code : plain.ContinuingStatement → Code
  continuing_code (plain.continuing attributes body break_if) = node_of (
      (codes "attributes", attributes_code attributes) ∷
      (codes "body", compound_code body) ∷
      (codes "break_if", optional (attributed_code break_if_code) break_if) ∷
      [])

  -- a `loop`
  pub loop_code : Attributes → plain.LoopStatement → Code
  loop_code attributes (plain.repeat body continuing) = node_of (
      (codes "attributes", attributes_code attributes) ∷
      (codes "body", compound_code body) ∷
      (codes "continuing", maybe_continuing_code continuing) ∷
      [])

  -- a `for`
  pub for_code : Attributes → plain.ForStatement → Code
  for_code attributes (plain.repeat_for initializer condition update body) = node_of (
      (codes "attributes", attributes_code attributes) ∷
      (codes "initializer", part_code initializer) ∷
      (codes "condition", optional expression_node_code condition) ∷
      (codes "update", part_code update) ∷
      (codes "body", compound_code body) ∷
      [])

  -- a `while`
  pub while_code : Attributes → plain.WhileStatement → Code
  while_code attributes (plain.repeat_while condition body) = node_of (
      (codes "attributes", attributes_code attributes) ∷
      (codes "condition", expression_node_code condition) ∷
      (codes "body", compound_code body) ∷
      [])

  pub unattributed_code : Attributes → plain.UnattributedStatement → Code
  unattributed_code attributes plain.void = alone_code (codes "Void") attributes
  unattributed_code attributes (plain.compound statements) =
      variant (codes "Compound") (block_code attributes (statements_code statements))
  unattributed_code attributes (plain.assignment inner) =
      variant (codes "Assignment") (assignment_code attributes inner)
  unattributed_code attributes (plain.increment inner) =
      variant (codes "Increment") (increment_code attributes inner)
  unattributed_code attributes (plain.decrement inner) =
      variant (codes "Decrement") (decrement_code attributes inner)
  unattributed_code attributes (plain.if_statement inner) =
      variant (codes "If") (if_code attributes inner)
  unattributed_code attributes (plain.switch_statement inner) =
      variant (codes "Switch") (switch_code attributes inner)
  unattributed_code attributes (plain.loop_statement inner) =
      variant (codes "Loop") (loop_code attributes inner)
  unattributed_code attributes (plain.for_statement inner) =
      variant (codes "For") (for_code attributes inner)
  unattributed_code attributes (plain.while_statement inner) =
      variant (codes "While") (while_code attributes inner)
  unattributed_code attributes plain.break_statement =
      variant (codes "Break") (break_code attributes)
  unattributed_code attributes plain.continue_statement =
      variant (codes "Continue") (continue_code attributes)
  unattributed_code attributes (plain.return_statement inner) =
      variant (codes "Return") (return_code attributes inner)
  unattributed_code attributes plain.discard_statement =
      variant (codes "Discard") (discard_code attributes)
  unattributed_code attributes (plain.function_call_statement inner) =
      variant (codes "FunctionCall") (call_statement_code attributes inner)
  unattributed_code attributes (plain.const_assert inner) =
      variant (codes "ConstAssert") (assert_code attributes inner)
  unattributed_code attributes (plain.declaration inner) =
      variant (codes "Declaration") (declaration_code attributes inner)

  -- a statement
  pub statement_code : plain.Statement → Code
  statement_code (plain.statement attributes s) = unattributed_code attributes s

  pub statement_node_code : plain.StatementNode → Code
  statement_node_code (plain.statement_node n span) = placed span (statement_code n)

  pub statements_code : plain.StatementNodes → Codes
  statements_code plain.no_statements = no_codes
  statements_code (plain.statement_before x xs) =
      code_before (statement_node_code x) (statements_code xs)

  pub part_code : plain.MaybeStatement → Code
  part_code plain.no_statement = absent
  part_code (plain.one_statement x) = statement_node_code x

  pub else_ifs_code : plain.ElseIfClauses → Codes
  else_ifs_code plain.no_else_ifs = no_codes
  else_ifs_code (plain.else_if_before x xs) =
      code_before (else_if_clause_code x) (else_ifs_code xs)

  pub else_code : plain.MaybeElseClause → Code
  else_code plain.no_else = absent
  else_code (plain.one_else x) = else_clause_code x

  pub clauses_code : plain.SwitchClauses → Codes
  clauses_code plain.no_clauses = no_codes
  clauses_code (plain.clause_before x xs) = code_before (switch_clause_code x) (clauses_code xs)

  pub maybe_continuing_code : plain.MaybeContinuing → Code
  maybe_continuing_code plain.no_continuing = absent
  maybe_continuing_code (plain.one_continuing x) = continuing_code x
