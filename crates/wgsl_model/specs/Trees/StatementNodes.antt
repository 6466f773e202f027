-- Written by tools/tables/plain_nodes.py from crates/wgsl_model/nodes: the trees of statements.
use Rattle.std.specs.Prelude.{Bool, ℕ, List, [], ◌∷◌, Option, Some, None, if◌then◌else◌}
use Rattle.grammar.specs.Tokens.{Span}
use Rattle.wgsl_model.specs.Trees.Attributed.{Attributed}
use Rattle.wgsl_model.specs.Trees.Attributes.{Attributes}
use Rattle.wgsl_model.specs.Trees.NamedValues.{AddressSpace, AccessMode}
use Rattle.wgsl_model.specs.Trees.Operators.{AssignmentOperator}
use Rattle.wgsl_model.specs.Trees.Expressions.{ExpressionNode, FunctionCall, TypeExpression}

-- which kind of value is declared; a `var` with its template
pub data DeclarationKind : Type 0 where
  const_kind override_kind let_kind : DeclarationKind
  var_kind : Option (AddressSpace × Option AccessMode) → DeclarationKind

-- the declaration of a value
pub record Declaration : Type 0 where
  pub kind : DeclarationKind
  pub ident : List ℕ
  pub ty : Option TypeExpression
  -- the value that it begins with
  pub initializer : Option ExpressionNode

-- an assignment, as `lhs += rhs;`
pub record AssignmentStatement : Type 0 where
  pub operator : AssignmentOperator
  pub lhs : ExpressionNode
  pub rhs : ExpressionNode

-- `expression++;`
pub record IncrementStatement : Type 0 where
  pub expression : ExpressionNode

-- `expression--;`
pub record DecrementStatement : Type 0 where
  pub expression : ExpressionNode

-- what a clause of a `switch` selects
pub data CaseSelector : Type 0 where
  default_selector : CaseSelector
  expression_selector : ExpressionNode → CaseSelector

-- `break if expression;`, the last of a `continuing` block
pub record BreakIfStatement : Type 0 where
  pub expression : ExpressionNode

-- `return;` or `return expression;`
pub record ReturnStatement : Type 0 where
  pub expression : Option ExpressionNode

-- a call alone
pub record FunctionCallStatement : Type 0 where
  pub call : FunctionCall

-- `const_assert expression;`
pub record ConstAssert : Type 0 where
  pub expression : ExpressionNode

mutual
  -- a statement with its place
  pub data StatementNode : Type 0 where
    statement_node : Statement → Span → StatementNode

  -- a statement: its attributes, and what is after them
  pub data Statement : Type 0 where
    statement : Attributes → UnattributedStatement → Statement

  -- a statement without its attributes
  pub data UnattributedStatement : Type 0 where
    void : UnattributedStatement
    compound : StatementNodes → UnattributedStatement
    assignment : AssignmentStatement → UnattributedStatement
    increment : IncrementStatement → UnattributedStatement
    decrement : DecrementStatement → UnattributedStatement
    if_statement : IfStatement → UnattributedStatement
    switch_statement : SwitchStatement → UnattributedStatement
    loop_statement : LoopStatement → UnattributedStatement
    for_statement : ForStatement → UnattributedStatement
    while_statement : WhileStatement → UnattributedStatement
    break_statement continue_statement discard_statement : UnattributedStatement
    return_statement : ReturnStatement → UnattributedStatement
    function_call_statement : FunctionCallStatement → UnattributedStatement
    const_assert : ConstAssert → UnattributedStatement
    declaration : Declaration → UnattributedStatement

  -- attributes, and statements in braces: its attributes and statements
  pub data CompoundStatement : Type 0 where
    compound_statement : Attributes → StatementNodes → CompoundStatement

  -- an `if`, with what follows it: its first clause, else if clauses and else clause
  pub data IfStatement : Type 0 where
    if_else : IfClause → ElseIfClauses → MaybeElseClause → IfStatement

  -- the first condition of an `if`, and its block: its expression and body
  pub data IfClause : Type 0 where
    if_clause : ExpressionNode → CompoundStatement → IfClause

  -- an `else if`: its attributes, expression and body
  pub data ElseIfClause : Type 0 where
    else_if_clause : Attributes → ExpressionNode → CompoundStatement → ElseIfClause

  -- an `else`: its attributes and body
  pub data ElseClause : Type 0 where
    else_clause : Attributes → CompoundStatement → ElseClause

  -- a `switch`: its expression, body attributes and clauses
  pub data SwitchStatement : Type 0 where
    switch : ExpressionNode → Attributes → SwitchClauses → SwitchStatement

  -- a clause of a `switch`: its attributes, case selectors and body
  pub data SwitchClause : Type 0 where
    switch_clause : Attributes → List CaseSelector → CompoundStatement → SwitchClause

  -- a `loop`: its body and continuing
  pub data LoopStatement : Type 0 where
    repeat : CompoundStatement → MaybeContinuing → LoopStatement

  -- a `for`: its initializer, condition, update and body
  pub data ForStatement : Type 0 where
    repeat_for : MaybeStatement → Option ExpressionNode → MaybeStatement → CompoundStatement → ForStatement

  -- a `while`: its condition and body
  pub data WhileStatement : Type 0 where
    repeat_while : ExpressionNode → CompoundStatement → WhileStatement

  -- what a loop does after each turn: its attributes, body and break if
  pub data ContinuingStatement : Type 0 where
    continuing : Attributes → CompoundStatement → Option (Attributed BreakIfStatement) → ContinuingStatement

  -- statements
  pub data StatementNodes : Type 0 where
    no_statements : StatementNodes
    statement_before : StatementNode → StatementNodes → StatementNodes

  -- a statement, or none
  pub data MaybeStatement : Type 0 where
    no_statement : MaybeStatement
    one_statement : StatementNode → MaybeStatement

  -- else if clauses
  pub data ElseIfClauses : Type 0 where
    no_else_ifs : ElseIfClauses
    else_if_before : ElseIfClause → ElseIfClauses → ElseIfClauses

  -- an else clause, or none
  pub data MaybeElseClause : Type 0 where
    no_else : MaybeElseClause
    one_else : ElseClause → MaybeElseClause

  -- switch clauses
  pub data SwitchClauses : Type 0 where
    no_clauses : SwitchClauses
    clause_before : SwitchClause → SwitchClauses → SwitchClauses

  -- a continuing statement, or none
  pub data MaybeContinuing : Type 0 where
    no_continuing : MaybeContinuing
    one_continuing : ContinuingStatement → MaybeContinuing

-- the statements of a list
abbrev pub statements_of : List StatementNode → StatementNodes
statements_of [] = no_statements
statements_of (x ∷ xs) = statement_before x (statements_of xs)

-- a statement, or none
abbrev pub maybe_statement : Option StatementNode → MaybeStatement
maybe_statement None = no_statement
maybe_statement (Some x) = one_statement x

-- the else if clauses of a list
abbrev pub else_ifs_of : List ElseIfClause → ElseIfClauses
else_ifs_of [] = no_else_ifs
else_ifs_of (x ∷ xs) = else_if_before x (else_ifs_of xs)

-- an else clause, or none
abbrev pub else_of : Option ElseClause → MaybeElseClause
else_of None = no_else
else_of (Some x) = one_else x

-- the switch clauses of a list
abbrev pub clauses_of : List SwitchClause → SwitchClauses
clauses_of [] = no_clauses
clauses_of (x ∷ xs) = clause_before x (clauses_of xs)

-- a continuing statement, or none
abbrev pub continuing_of : Option ContinuingStatement → MaybeContinuing
continuing_of None = no_continuing
continuing_of (Some x) = one_continuing x

-- `expression++;`
abbrev pub increment_of : ExpressionNode → UnattributedStatement
increment_of expression = increment (record { expression = expression })

-- `expression--;`
abbrev pub decrement_of : ExpressionNode → UnattributedStatement
decrement_of expression = decrement (record { expression = expression })

-- a `switch`: its expression, body attributes and clauses
abbrev pub switch_of : ExpressionNode → Attributes → List SwitchClause → UnattributedStatement
switch_of expression body_attributes clauses = switch_statement (switch expression body_attributes (clauses_of clauses))

-- a `for`: its initializer, condition, update and body
abbrev pub for_of : Option StatementNode → Option ExpressionNode → Option StatementNode
    → CompoundStatement → UnattributedStatement
for_of initializer condition update body =
    for_statement (repeat_for (maybe_statement initializer) condition (maybe_statement update) body)

-- a `while`: its condition and body
abbrev pub while_of : ExpressionNode → CompoundStatement → UnattributedStatement
while_of condition body = while_statement (repeat_while condition body)

-- `return;` or `return expression;`
abbrev pub return_of : Option ExpressionNode → UnattributedStatement
return_of expression = return_statement (record { expression = expression })

-- a call alone
abbrev pub call_statement_of : FunctionCall → UnattributedStatement
call_statement_of its_call = function_call_statement (record { call = its_call })

-- a change: what is done to the parts without statements, and which statements lists leave out
pub record Change : Type 0 where
  pub attributes : Attributes → Attributes
  pub expression : ExpressionNode → ExpressionNode
  -- an expression that may be left out, as the condition of a `for`
  pub condition : Option ExpressionNode → Option ExpressionNode
  pub selectors : List CaseSelector → List CaseSelector
  pub break_if : Option (Attributed BreakIfStatement) → Option (Attributed BreakIfStatement)
  -- a statement in which there are no others
  pub simple : UnattributedStatement → UnattributedStatement
  pub span : Span → Span
  pub leaves_out : StatementNode → Bool

-- statements after a change
abbrev mutual
  pub changed_statement : Change → Statement → Statement
  changed_statement c (statement attributes s) =
      statement (c.attributes attributes) (changed_unattributed c s)

  pub changed_node : Change → StatementNode → StatementNode
  changed_node c (statement_node s span) = statement_node (changed_statement c s) (c.span span)

  pub changed_unattributed : Change → UnattributedStatement → UnattributedStatement
  changed_unattributed c (compound x) = compound (changed_statements c x)
  changed_unattributed c (if_statement x) = if_statement (changed_if c x)
  changed_unattributed c (switch_statement x) = switch_statement (changed_switch c x)
  changed_unattributed c (loop_statement x) = loop_statement (changed_loop c x)
  changed_unattributed c (for_statement x) = for_statement (changed_for c x)
  changed_unattributed c (while_statement x) = while_statement (changed_while c x)
  changed_unattributed c s = c.simple s

  pub changed_compound : Change → CompoundStatement → CompoundStatement
  changed_compound c (compound_statement attributes statements) =
      compound_statement (c.attributes attributes) (changed_statements c statements)

  pub changed_if : Change → IfStatement → IfStatement
  changed_if c (if_else first_clause else_if_clauses its_else_clause) =
      if_else (changed_if_clause c first_clause) (changed_else_ifs c else_if_clauses)
      (changed_else c its_else_clause)

  pub changed_if_clause : Change → IfClause → IfClause
  changed_if_clause c (if_clause expression body) = if_clause (c.expression expression) (changed_compound c body)

  pub changed_else_if_clause : Change → ElseIfClause → ElseIfClause
  changed_else_if_clause c (else_if_clause attributes expression body) =
      else_if_clause (c.attributes attributes) (c.expression expression) (changed_compound c body)

  pub changed_else_clause : Change → ElseClause → ElseClause
  changed_else_clause c (else_clause attributes body) = else_clause (c.attributes attributes) (changed_compound c body)

  pub changed_switch : Change → SwitchStatement → SwitchStatement
  changed_switch c (switch expression body_attributes clauses) = switch (c.expression expression)
      (c.attributes body_attributes) (changed_clauses c clauses)

  pub changed_switch_clause : Change → SwitchClause → SwitchClause
  changed_switch_clause c (switch_clause attributes case_selectors body) =
      switch_clause (c.attributes attributes) (c.selectors case_selectors) (changed_compound c body)

  pub changed_loop : Change → LoopStatement → LoopStatement
  changed_loop c (repeat body its_continuing) = repeat (changed_compound c body)
      (changed_maybe_continuing c its_continuing)

  pub changed_for : Change → ForStatement → ForStatement
  changed_for c (repeat_for initializer condition update body) = repeat_for (changed_part c initializer)
      (c.condition condition) (changed_part c update) (changed_compound c body)

  pub changed_while : Change → WhileStatement → WhileStatement
  changed_while c (repeat_while condition body) = repeat_while (c.expression condition) (changed_compound c body)

  pub changed_continuing : Change → ContinuingStatement → ContinuingStatement
  changed_continuing c (continuing attributes body break_if) = continuing (c.attributes attributes)
      (changed_compound c body) (c.break_if break_if)

  pub changed_statements : Change → StatementNodes → StatementNodes
  changed_statements c no_statements = no_statements
  changed_statements c (statement_before s ss) = if c.leaves_out s then changed_statements c ss
      else statement_before (changed_node c s) (changed_statements c ss)

  pub changed_part : Change → MaybeStatement → MaybeStatement
  changed_part c no_statement = no_statement
  changed_part c (one_statement x) = one_statement (changed_node c x)

  pub changed_else_ifs : Change → ElseIfClauses → ElseIfClauses
  changed_else_ifs c no_else_ifs = no_else_ifs
  changed_else_ifs c (else_if_before x xs) = else_if_before (changed_else_if_clause c x) (changed_else_ifs c xs)

  pub changed_else : Change → MaybeElseClause → MaybeElseClause
  changed_else c no_else = no_else
  changed_else c (one_else x) = one_else (changed_else_clause c x)

  pub changed_clauses : Change → SwitchClauses → SwitchClauses
  changed_clauses c no_clauses = no_clauses
  changed_clauses c (clause_before x xs) = clause_before (changed_switch_clause c x) (changed_clauses c xs)

  pub changed_maybe_continuing : Change → MaybeContinuing → MaybeContinuing
  changed_maybe_continuing c no_continuing = no_continuing
  changed_maybe_continuing c (one_continuing x) = one_continuing (changed_continuing c x)
