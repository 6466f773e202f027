-- The trees that the rules of expressions make, and their operators.
use Rattle.std.specs.Prelude.{ℕ, List, Option}
use Rattle.grammar.specs.Tokens.{Token, Span}
use Rattle.grammar.specs.Grammar.{Grammar.symbol, Grammar.left_chain}
use Rattle.grammar.specs.Notation.{◌means◌, ◌or◌, ◌then◌, ◌gives◌, ◌makes◌}
use Rattle.wgsl_model.specs.Tokens.ClassTable.{SymAnd, SymBang, SymEqualEqual, SymForwardSlash, SymGreaterThan, SymGreaterThanEqual, SymLessThan, SymLessThanEqual, SymMinus, SymModulo, SymNotEqual, SymPlus, SymStar, SymTilde}
use Rattle.wgsl_model.specs.Faults.Kinds.{next_place}
use Rattle.wgsl_model.specs.Trees.Operators.{UnaryOperator, UnaryOperator.logical_negation, UnaryOperator.negation, UnaryOperator.bitwise_complement, UnaryOperator.address_of, UnaryOperator.indirection, BinaryOperator, BinaryOperator.addition, BinaryOperator.subtraction, BinaryOperator.multiplication, BinaryOperator.division, BinaryOperator.remainder, BinaryOperator.equality, BinaryOperator.inequality, BinaryOperator.less_than, BinaryOperator.less_than_equal, BinaryOperator.greater_than, BinaryOperator.greater_than_equal}
use Rattle.wgsl_model.specs.Trees.Expressions.{ExpressionNode, ExpressionNode.expression_node, Expression, Expression.named_component, Expression.indexing, Expression.unary, Expression.binary, Expression.type_or_identifier, FunctionCall, FunctionCall.call, TypeExpression, TypeExpression.type_expression, TemplateArguments.no_template, expressions_of, template_of}
use Rattle.wgsl_model.specs.Grammar.TokenValues.{text_of}
use Rattle.wgsl_model.specs.Grammar.Symbols.{Dialect, Dialect.parsed, Dialect.recognized, Symbol.multiplicative_expression, Symbol.negated_expression, Rule}

-- an expression and where it is
abbrev pub placed_expression : Expression → Span → ExpressionNode
placed_expression e span = expression_node e span

-- a type of a name, with the arguments of its template
abbrev pub type_of : Token × Option (List ExpressionNode) → TypeExpression
type_of (name, template) = type_expression (text_of name) (template_of template)

-- a call of a type with its arguments
abbrev pub call_of : TypeExpression × List ExpressionNode → FunctionCall
call_of (callee, arguments) = call callee (expressions_of arguments)

-- an identifier alone
abbrev pub variable : List ℕ → Expression
variable name = type_or_identifier (type_expression name no_template)

-- `[` and an index after a base
abbrev pub index_of : ExpressionNode → ExpressionNode → Expression
index_of index base = indexing base index

-- `.` and a name after a base
abbrev pub component_of : Token → ExpressionNode → Expression
component_of t base = named_component base (text_of t)

-- a component after a base
abbrev pub with_component : ExpressionNode → (ExpressionNode → Expression) → Span → ExpressionNode
with_component base component span = expression_node (component base) span

-- an operator before an operand
abbrev pub unary_of : UnaryOperator × ExpressionNode → Span → ExpressionNode
unary_of (operator, operand) span = expression_node (unary operator operand) span

-- an operator and an operand after an operand
abbrev pub binary_of : ExpressionNode → BinaryOperator × ExpressionNode → Span → ExpressionNode
binary_of left (operator, right) span = expression_node (binary operator left right) span

-- two operands with an operator between
abbrev pub operation_of : ExpressionNode × (BinaryOperator × ExpressionNode) → Span → ExpressionNode
operation_of (left, right) span = binary_of left right span

-- a span from its second byte on, as from the second minus of `--`
abbrev pub later : Span → Span
later span = record { start = next_place span.start; end = span.end }

-- the negation that the second minus of `--` begins, and a product of it
abbrev pub negation_of : ExpressionNode → Span → ExpressionNode
negation_of operand span = expression_node (unary negation operand) (later span)

-- a product of a negation that the second minus of `--` begins
abbrev pub negated_product_of : ExpressionNode → BinaryOperator × ExpressionNode → Span → ExpressionNode
negated_product_of left p span = binary_of left p (later span)

-- the operators before an operand
abbrev pub unary_operator : Rule UnaryOperator
unary_operator = SymMinus means negation or SymBang means logical_negation
    or SymTilde means bitwise_complement or SymStar means indirection or SymAnd means address_of

-- the operators of products
abbrev pub multiplicative_operator : Rule BinaryOperator
multiplicative_operator = SymStar means multiplication or SymForwardSlash means division or SymModulo means remainder

-- the operators of sums
abbrev pub additive_operator : Rule BinaryOperator
additive_operator = SymPlus means addition or SymMinus means subtraction

-- what a sum goes on with
abbrev pub summand : Dialect → Rule (BinaryOperator × ExpressionNode)
-- ("+" "-") Mul / NegMul, a subtraction by the first minus
summand parsed = additive_operator then symbol multiplicative_expression
    or symbol negated_expression gives λ e. (subtraction, e)
-- ("+" "-") Mul
summand recognized = additive_operator then symbol multiplicative_expression

-- the operators of comparisons
abbrev pub relational_operator : Rule BinaryOperator
relational_operator = SymLessThan means less_than or SymGreaterThan means greater_than
    or SymLessThanEqual means less_than_equal
    or SymGreaterThanEqual means greater_than_equal or SymEqualEqual means equality
    or SymNotEqual means inequality

-- X operator X
abbrev pub two : ℕ → BinaryOperator → Rule ExpressionNode → Rule ExpressionNode
two class operator x = x then class means operator then x makes operation_of

-- X (operator X)+
abbrev pub two_or_more : ℕ → BinaryOperator → Rule ExpressionNode → Rule ExpressionNode
two_or_more class operator x = left_chain binary_of (two class operator x) (class means operator then x)
