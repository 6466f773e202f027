-- The parts that the rules of statements share.
use Rattle.std.specs.Prelude.{List, [], codes}
use Rattle.grammar.specs.Tokens.{Token, Span}
use Rattle.grammar.specs.Grammar.{Grammar.empty, Grammar.symbol, Grammar.left_chain}
use Rattle.grammar.specs.Notation.{◌means◌, ◌or◌, ◌then◌, ◌gives◌, ◌makes◌, ◌▹◌, ◌◃◌, many}
use Rattle.wgsl_model.specs.Tokens.ClassTable.{SymAnd, SymAndEqual, SymDivisionEqual, SymEqual, SymMinusEqual, SymModuloEqual, SymOrEqual, SymParenLeft, SymParenRight, SymPlusEqual, SymSemicolon, SymShiftLeftAssign, SymShiftRightAssign, SymStar, SymTimesEqual, SymXorEqual, KwBreak, KwElse, KwIf}
use Rattle.wgsl_model.specs.Trees.Operators.{UnaryOperator.address_of, UnaryOperator.indirection, AssignmentOperator, AssignmentOperator.equal, AssignmentOperator.plus_equal, AssignmentOperator.minus_equal, AssignmentOperator.times_equal, AssignmentOperator.division_equal, AssignmentOperator.modulo_equal, AssignmentOperator.and_equal, AssignmentOperator.or_equal, AssignmentOperator.xor_equal, AssignmentOperator.shift_right_assign, AssignmentOperator.shift_left_assign}
use Rattle.wgsl_model.specs.Trees.Expressions.{ExpressionNode, ExpressionNode.expression_node, Expression.parenthesized}
use Rattle.wgsl_model.specs.Trees.Attributes.{Attributes}
use Rattle.wgsl_model.specs.Trees.Attributed.{Attributed, with_attributes}
use Rattle.wgsl_model.specs.Trees.Statements as tree
use Rattle.wgsl_model.specs.Trees.Statements.{DeclarationKind, Declaration, ElseIfClause, ElseClause, BreakIfStatement, ContinuingStatement, CompoundStatement, StatementNode, Statement, UnattributedStatement, CaseSelector, SwitchClause, ConstAssert, as_statement, break_if_of}
use Rattle.wgsl_model.specs.Grammar.Checks.{attribute_node, var_kind_of}
use Rattle.wgsl_model.specs.Grammar.TokenValues.{text_of}
use Rattle.wgsl_model.specs.Grammar.ExpressionParts.{variable, unary_of, with_component}
use Rattle.wgsl_model.specs.Grammar.Symbols.{Dialect, Dialect.parsed, Dialect.recognized, Rule, Symbol.ident, Symbol.component, Symbol.expression, Symbol.lhs_expression, Symbol.attribute, Symbol.statement, Symbol.compound_statement, Symbol.var_template}

-- a statement and where it is
abbrev pub placed_statement : Statement → Span → StatementNode
placed_statement s span = tree.statement_node s span

-- A*
abbrev pub attributes : Rule Attributes
attributes = many (symbol attribute gives attribute_node)

-- A* where the draft has attributes too, and what is after
abbrev pub attributed : {A B : Type 0} → (Attributes → A → B) → Rule A → Rule B
attributed make g = attributes then g gives λ (a, x). make a x

-- A* where the draft has no attributes; in the dialect, none
abbrev pub leading : Dialect → Rule Attributes
leading parsed = attributes
leading recognized = empty []

-- leading attributes, and what is after
abbrev pub led : {A B : Type 0} → Dialect → (Attributes → A → B) → Rule A → Rule B
led L make g = leading L then g gives λ (a, x). make a x

-- Statement*
abbrev pub statements : Rule (List StatementNode)
statements = many (symbol statement)

-- "=" Expression
abbrev pub initializer : Rule ExpressionNode
initializer = SymEqual ▹ symbol expression

-- `var` TemplateList?
abbrev pub var_kind : Rule DeclarationKind
var_kind = symbol var_template gives var_kind_of

-- "=" or a compound operator
abbrev pub assignment_operator : Rule AssignmentOperator
assignment_operator = SymEqual means equal or SymPlusEqual means plus_equal
    or SymMinusEqual means minus_equal or SymTimesEqual means times_equal
    or SymDivisionEqual means division_equal or SymModuloEqual means modulo_equal
    or SymAndEqual means and_equal or SymOrEqual means or_equal
    or SymXorEqual means xor_equal or SymShiftRightAssign means shift_right_assign
    or SymShiftLeftAssign means shift_left_assign

-- the left side of a phony assignment: the identifier `_`
abbrev pub underscore_at : Token → Span → ExpressionNode
underscore_at t span = expression_node (variable (codes "_")) span

-- an identifier as a left side
abbrev pub variable_at : Token → Span → ExpressionNode
variable_at t span = expression_node (variable (text_of t)) span

-- a left side in parentheses
abbrev pub parenthesized_at : ExpressionNode → Span → ExpressionNode
parenthesized_at e span = expression_node (parenthesized e) span

-- Ident Component* / "*" Lhs / "&" Lhs
abbrev pub open_left_side : Rule ExpressionNode
open_left_side = left_chain with_component (symbol ident makes variable_at) (symbol component)
    or SymStar means indirection then symbol lhs_expression makes unary_of
    or SymAnd means address_of then symbol lhs_expression makes unary_of

-- "(" Lhs ")" Component*
abbrev pub parenthesized_left_side : Rule ExpressionNode
parenthesized_left_side = left_chain with_component
    (SymParenLeft ▹ symbol lhs_expression ◃ SymParenRight makes parenthesized_at) (symbol component)

-- a left side, which has no attributes where it begins with "("
abbrev pub left_side : Dialect → Rule (Attributes × ExpressionNode)
left_side L = leading L then open_left_side or parenthesized_left_side gives λ e. ([], e)

-- `else if` Expression Block
abbrev pub else_if : Rule ElseIfClause
else_if = KwElse ▹ KwIf ▹ symbol expression then symbol compound_statement
    gives λ (condition, block). tree.else_if_clause [] condition block

-- `else` Block
abbrev pub else_block : Rule ElseClause
else_block = KwElse ▹ symbol compound_statement gives tree.else_clause []

-- A* `break if` Expression ";"
abbrev pub break_if : Dialect → Rule (Attributed BreakIfStatement)
break_if L = led L with_attributes (KwBreak ▹ KwIf ▹ symbol expression ◃ SymSemicolon gives break_if_of)
