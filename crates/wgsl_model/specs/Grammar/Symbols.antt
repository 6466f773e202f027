-- What the grammar speaks of, and the type of what each symbol derives.
use Rattle.std.specs.Prelude.{ℕ, Bool, true, false, List, Option}
use Rattle.grammar.specs.Tokens.{Token}
use Rattle.grammar.specs.Grammar.{Grammar}
use Rattle.wgsl_model.specs.Trees.Spanned.{Spanned}
use Rattle.wgsl_model.specs.Trees.Expressions.{LiteralExpression, ExpressionNode, Expression, FunctionCall, TypeExpression}
use Rattle.wgsl_model.specs.Trees.Attributed.{Attributed}
use Rattle.wgsl_model.specs.Trees.Statements.{CompoundStatement, StatementNode, Statement, ConstAssert, SwitchClause, CaseSelector, ContinuingStatement}
use Rattle.wgsl_model.specs.Trees.Units.{GlobalDirective, StructMember, FormalParameter, GlobalDeclaration, TranslationUnit}
use Rattle.wgsl_model.specs.Grammar.Checks.{AttributeParts}

-- the language that is parsed, or the smaller one of a text that is recognised and not parsed
pub data Dialect : Type 0 where
  parsed recognized : Dialect

-- the symbols, in the order of the grammar
pub data Symbol : Type 0 where
  ident type_specifier template_list expressions call arguments literal primary_expression
      singular_expression component : Symbol
  unary_expression multiplicative_expression negated_expression additive_expression shift_expression
      relational_expression expression lhs_expression : Symbol
  attribute compound_statement statement : Symbol
  return_statement if_statement switch_statement loop_statement for_statement while_statement
      call_statement var_statement value_statement : Symbol
  break_statement continue_statement discard_statement assignment phony_assignment increment
      decrement const_assert : Symbol
  switch_clause case_selector continuing_statement for_init for_update : Symbol
  var_template typed_ident struct_member formal_parameter : Symbol
  global_declaration var_declaration const_declaration override_declaration alias_declaration
      struct_declaration function_declaration : Symbol
  diagnostic_severity global_directive enable_directive requires_directive diagnostic_directive unit : Symbol

-- the type of what each symbol derives
abbrev pub Value : Symbol → Type 0
Value ident = Token
Value type_specifier = TypeExpression
Value template_list = List ExpressionNode
Value expressions = List ExpressionNode
Value call = FunctionCall
Value arguments = List ExpressionNode
Value literal = LiteralExpression
Value primary_expression = ExpressionNode
Value singular_expression = ExpressionNode
Value component = ExpressionNode → Expression
Value unary_expression = ExpressionNode
Value multiplicative_expression = ExpressionNode
Value negated_expression = ExpressionNode
Value additive_expression = ExpressionNode
Value shift_expression = ExpressionNode
Value relational_expression = ExpressionNode
Value expression = ExpressionNode
Value lhs_expression = ExpressionNode
Value attribute = Spanned AttributeParts
Value compound_statement = CompoundStatement
Value statement = StatementNode
Value return_statement = Statement
Value if_statement = Statement
Value switch_statement = Statement
Value loop_statement = Statement
Value for_statement = Statement
Value while_statement = Statement
Value call_statement = Statement
Value var_statement = Statement
Value value_statement = Statement
Value break_statement = Statement
Value continue_statement = Statement
Value discard_statement = Statement
Value assignment = Statement
Value phony_assignment = Statement
Value increment = Statement
Value decrement = Statement
Value const_assert = Attributed ConstAssert
Value switch_clause = SwitchClause
Value case_selector = CaseSelector
Value continuing_statement = ContinuingStatement
Value for_init = StatementNode
Value for_update = StatementNode
Value var_template = Option (List ExpressionNode)
Value typed_ident = List ℕ × Option TypeExpression
Value struct_member = Spanned StructMember
Value formal_parameter = FormalParameter
Value global_declaration = Spanned GlobalDeclaration
Value var_declaration = GlobalDeclaration
Value const_declaration = GlobalDeclaration
Value override_declaration = GlobalDeclaration
Value alias_declaration = GlobalDeclaration
Value struct_declaration = GlobalDeclaration
Value function_declaration = GlobalDeclaration
Value diagnostic_severity = Token
Value global_directive = GlobalDirective
Value enable_directive = GlobalDirective
Value requires_directive = GlobalDirective
Value diagnostic_directive = GlobalDirective
Value unit = TranslationUnit

-- a right side of this grammar
abbrev pub Rule : Type 0 → Type 1
Rule A = Grammar Symbol Value A

-- the symbols that are read by themselves: a module, a directive, a declaration, a statement, an
-- expression, a literal and a template list
abbrev pub is_read_alone : Symbol → Bool
is_read_alone unit = true
is_read_alone global_directive = true
is_read_alone global_declaration = true
is_read_alone statement = true
is_read_alone expression = true
is_read_alone literal = true
is_read_alone template_list = true
is_read_alone n = false
