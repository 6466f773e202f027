-- The tokens that printed statements and declarations of values have, written from their trees
-- before the tokens that follow them: no empty statement in a list, no colon after what a clause
-- selects, and `case default` for a clause with `default` alone.
use Rattle.std.specs.Prelude.{ℕ, List, ◌∷◌, Option, if◌then◌else◌}
use Rattle.wgsl_model.specs.Tokens.ClassTable.{SymAndEqual, SymBraceLeft, SymBraceRight, SymColon, SymDivisionEqual, SymEqual, SymMinusEqual, SymMinusMinus, SymModuloEqual, SymOrEqual, SymParenLeft, SymParenRight, SymPlusEqual, SymPlusPlus, SymSemicolon, SymShiftLeftAssign, SymShiftRightAssign, SymTimesEqual, SymXorEqual, KwBreak, KwCase, KwConst, KwConstAssert, KwContinue, KwContinuing, KwDefault, KwDiscard, KwElse, KwFor, KwIf, KwLet, KwLoop, KwOverride, KwReturn, KwSwitch, KwVar, KwWhile, TemplateArgsStart, TemplateArgsEnd}
use Rattle.wgsl_model.specs.Tokens.Kind.{Kind, plain}
use Rattle.wgsl_model.specs.Tokens.Raw.{kind_of_word}
use Rattle.wgsl_model.specs.Trees.Operators.{AssignmentOperator, equal, plus_equal, minus_equal, times_equal, division_equal, modulo_equal, and_equal, or_equal, xor_equal, shift_right_assign, shift_left_assign}
use Rattle.wgsl_model.specs.Trees.NamedValues.{AddressSpace, AccessMode, address_space_text, access_mode_text}
use Rattle.wgsl_model.specs.Trees.Expressions.{ExpressionNode, TypeExpression}
use Rattle.wgsl_model.specs.Trees.Attributed.{Attributed}
use Rattle.wgsl_model.specs.Trees.Statements.{DeclarationKind, const_kind, override_kind, let_kind, var_kind, Declaration, ConstAssert, BreakIfStatement, CaseSelector, default_selector, expression_selector, StatementNode, statement_node, Statement, statement, UnattributedStatement, void, compound, assignment, increment, decrement, if_statement, switch_statement, loop_statement, for_statement, while_statement, break_statement, continue_statement, discard_statement, return_statement, function_call_statement, const_assert, declaration, CompoundStatement, compound_statement, IfStatement, if_else, IfClause, if_clause, ElseIfClause, else_if_clause, ElseClause, else_clause, SwitchStatement, switch, SwitchClause, switch_clause, LoopStatement, repeat, ContinuingStatement, continuing, ForStatement, repeat_for, WhileStatement, repeat_while, StatementNodes, no_statements, statement_before, ElseIfClauses, no_else_ifs, else_if_before, MaybeElseClause, no_else, one_else, SwitchClauses, no_clauses, clause_before, MaybeContinuing, no_continuing, one_continuing, MaybeStatement, no_statement, one_statement}
use Rattle.wgsl_model.specs.Printed.Statements.{is_void}
use Rattle.wgsl_theory_reread.specs.CanonicalExpressions.{Writer, optional_tokens, list_tokens, word_token, expression_node_tokens, call_tokens, type_tokens}
use Rattle.wgsl_theory_reread.specs.CanonicalAttributes.{after_comma, attributes_tokens}

-- ---- declarations of values
-- the template of a `var`
abbrev pub var_template_tokens : Writer (AddressSpace × Option AccessMode)
var_template_tokens p rest = plain TemplateArgsStart
    ∷ (kind_of_word (address_space_text p.0) ∷ optional_tokens (after_comma (λ (m : AccessMode).
    word_token (access_mode_text m))) p.1 (plain TemplateArgsEnd ∷ rest))

-- the keyword of a kind of value, and the template of a `var`
abbrev pub kind_tokens : Writer DeclarationKind
kind_tokens const_kind rest = plain KwConst ∷ rest
kind_tokens override_kind rest = plain KwOverride ∷ rest
kind_tokens let_kind rest = plain KwLet ∷ rest
kind_tokens (var_kind space) rest = plain KwVar ∷ optional_tokens var_template_tokens space rest

-- a type after a colon
abbrev pub typed_tokens : Writer TypeExpression
typed_tokens t rest = plain SymColon ∷ type_tokens t rest

-- a value after an equals sign
abbrev pub initializer_tokens : Writer ExpressionNode
initializer_tokens e rest = plain SymEqual ∷ expression_node_tokens e rest

-- the declaration of a value, without its `;`
abbrev pub declaration_tokens : Writer Declaration
declaration_tokens d rest = kind_tokens d.kind (kind_of_word d.ident
    ∷ optional_tokens typed_tokens d.ty (optional_tokens initializer_tokens d.initializer rest))

-- ---- statements
-- `const_assert` and its expression, without its `;`
abbrev pub assert_tokens : Writer ConstAssert
assert_tokens c rest = plain KwConstAssert ∷ expression_node_tokens c.expression rest

-- an operator in an assignment
abbrev pub assignment_operator_class : AssignmentOperator → ℕ
assignment_operator_class equal = SymEqual
assignment_operator_class plus_equal = SymPlusEqual
assignment_operator_class minus_equal = SymMinusEqual
assignment_operator_class times_equal = SymTimesEqual
assignment_operator_class division_equal = SymDivisionEqual
assignment_operator_class modulo_equal = SymModuloEqual
assignment_operator_class and_equal = SymAndEqual
assignment_operator_class or_equal = SymOrEqual
assignment_operator_class xor_equal = SymXorEqual
assignment_operator_class shift_right_assign = SymShiftRightAssign
assignment_operator_class shift_left_assign = SymShiftLeftAssign

-- what a clause selects
abbrev pub selector_tokens : Writer CaseSelector
selector_tokens default_selector rest = plain KwDefault ∷ rest
selector_tokens (expression_selector e) rest = expression_node_tokens e rest

-- `break if` and its condition, after its attributes
abbrev pub break_if_tokens : Writer (Attributed BreakIfStatement)
break_if_tokens b rest = attributes_tokens b.attributes
    (plain KwBreak ∷ (plain KwIf ∷ expression_node_tokens b.node.expression (plain SymSemicolon ∷ rest)))

-- the `;` that ends a statement, if one does
abbrev pub end_token : Writer Statement
end_token (statement attributes (compound b)) rest = rest
end_token (statement attributes (if_statement s)) rest = rest
end_token (statement attributes (switch_statement s)) rest = rest
end_token (statement attributes (loop_statement s)) rest = rest
end_token (statement attributes (for_statement s)) rest = rest
end_token (statement attributes (while_statement s)) rest = rest
end_token s rest = plain SymSemicolon ∷ rest

abbrev mutual
  -- a statement without the `;` that ends it
  pub unended_tokens : Statement → List Kind → List Kind
  unended_tokens (statement attributes s) rest = attributes_tokens attributes (unattributed_tokens s rest)

  -- the same without its attributes
  pub unattributed_tokens : UnattributedStatement → List Kind → List Kind
  unattributed_tokens void rest = rest
  unattributed_tokens (compound ss) rest = plain SymBraceLeft ∷ statements_tokens ss (plain SymBraceRight ∷ rest)
  unattributed_tokens (assignment a) rest = expression_node_tokens a.lhs
      (plain (assignment_operator_class a.operator) ∷ expression_node_tokens a.rhs rest)
  unattributed_tokens (increment i) rest = expression_node_tokens i.expression (plain SymPlusPlus ∷ rest)
  unattributed_tokens (decrement d) rest = expression_node_tokens d.expression (plain SymMinusMinus ∷ rest)
  unattributed_tokens (if_statement s) rest = if_tokens s rest
  unattributed_tokens (switch_statement s) rest = switch_tokens s rest
  unattributed_tokens (loop_statement s) rest = loop_tokens s rest
  unattributed_tokens (for_statement s) rest = for_tokens s rest
  unattributed_tokens (while_statement s) rest = while_tokens s rest
  unattributed_tokens break_statement rest = plain KwBreak ∷ rest
  unattributed_tokens continue_statement rest = plain KwContinue ∷ rest
  unattributed_tokens discard_statement rest = plain KwDiscard ∷ rest
  unattributed_tokens (return_statement r) rest = plain KwReturn
      ∷ optional_tokens expression_node_tokens r.expression rest
  unattributed_tokens (function_call_statement c) rest = call_tokens c.call rest
  unattributed_tokens (const_assert c) rest = assert_tokens c rest
  unattributed_tokens (declaration d) rest = declaration_tokens d rest

  -- a statement
  pub statement_tokens : StatementNode → List Kind → List Kind
  statement_tokens (statement_node s span) rest = unended_tokens s (end_token s rest)

  -- the statements that are not empty
  pub statements_tokens : StatementNodes → List Kind → List Kind
  statements_tokens no_statements rest = rest
  statements_tokens (statement_before (statement_node s span) ss) rest = if is_void s
      then statements_tokens ss rest else unended_tokens s (end_token s (statements_tokens ss rest))

  pub compound_tokens : CompoundStatement → List Kind → List Kind
  compound_tokens (compound_statement attributes ss) rest = attributes_tokens attributes
      (plain SymBraceLeft ∷ statements_tokens ss (plain SymBraceRight ∷ rest))

  -- a block without its closing brace
  pub opened_tokens : CompoundStatement → List Kind → List Kind
  opened_tokens (compound_statement attributes ss) rest = attributes_tokens attributes
      (plain SymBraceLeft ∷ statements_tokens ss rest)

  pub if_tokens : IfStatement → List Kind → List Kind
  if_tokens (if_else first others last) rest = if_clause_tokens first (else_ifs_tokens others (else_tokens last rest))

  pub if_clause_tokens : IfClause → List Kind → List Kind
  if_clause_tokens (if_clause e block) rest = plain KwIf ∷ expression_node_tokens e (compound_tokens block rest)

  pub else_ifs_tokens : ElseIfClauses → List Kind → List Kind
  else_ifs_tokens no_else_ifs rest = rest
  else_ifs_tokens (else_if_before c cs) rest = else_if_clause_tokens c (else_ifs_tokens cs rest)

  pub else_if_clause_tokens : ElseIfClause → List Kind → List Kind
  else_if_clause_tokens (else_if_clause attributes e block) rest = attributes_tokens attributes
      (plain KwElse ∷ (plain KwIf ∷ expression_node_tokens e (compound_tokens block rest)))

  pub else_tokens : MaybeElseClause → List Kind → List Kind
  else_tokens no_else rest = rest
  else_tokens (one_else c) rest = else_clause_tokens c rest

  pub else_clause_tokens : ElseClause → List Kind → List Kind
  else_clause_tokens (else_clause attributes block) rest = attributes_tokens attributes
      (plain KwElse ∷ compound_tokens block rest)

  pub switch_tokens : SwitchStatement → List Kind → List Kind
  switch_tokens (switch e body_attributes cs) rest =
      plain KwSwitch ∷ expression_node_tokens e (attributes_tokens body_attributes
      (plain SymBraceLeft ∷ clauses_tokens cs (plain SymBraceRight ∷ rest)))

  pub clauses_tokens : SwitchClauses → List Kind → List Kind
  clauses_tokens no_clauses rest = rest
  clauses_tokens (clause_before c cs) rest = switch_clause_tokens c (clauses_tokens cs rest)

  pub switch_clause_tokens : SwitchClause → List Kind → List Kind
  switch_clause_tokens (switch_clause attributes selectors block) rest =
      attributes_tokens attributes (plain KwCase ∷ list_tokens selector_tokens selectors (compound_tokens block rest))

  pub loop_tokens : LoopStatement → List Kind → List Kind
  loop_tokens (repeat body last) rest = plain KwLoop
      ∷ opened_tokens body (maybe_continuing_tokens last (plain SymBraceRight ∷ rest))

  pub maybe_continuing_tokens : MaybeContinuing → List Kind → List Kind
  maybe_continuing_tokens no_continuing rest = rest
  maybe_continuing_tokens (one_continuing c) rest = continuing_tokens c rest

  pub continuing_tokens : ContinuingStatement → List Kind → List Kind
  continuing_tokens (continuing attributes body condition) rest =
      attributes_tokens attributes (plain KwContinuing
      ∷ opened_tokens body (optional_tokens break_if_tokens condition (plain SymBraceRight ∷ rest)))

  pub for_tokens : ForStatement → List Kind → List Kind
  for_tokens (repeat_for init condition update block) rest =
      plain KwFor ∷ (plain SymParenLeft
      ∷ part_tokens init (plain SymSemicolon ∷ optional_tokens expression_node_tokens condition
      (plain SymSemicolon ∷ part_tokens update (plain SymParenRight ∷ compound_tokens block rest))))

  -- a part of the header of a `for`, without the `;` that ends it
  pub part_tokens : MaybeStatement → List Kind → List Kind
  part_tokens no_statement rest = rest
  part_tokens (one_statement (statement_node s span)) rest = unended_tokens s rest

  pub while_tokens : WhileStatement → List Kind → List Kind
  while_tokens (repeat_while e block) rest = plain KwWhile ∷ expression_node_tokens e (compound_tokens block rest)
