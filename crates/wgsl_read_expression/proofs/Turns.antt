-- What rules and loops read, turn by turn, each as a word of its own, which no computation opens.
use Rattle.std.specs.Prelude.{ℕ, List, [], ◌∷◌, ◌++◌, cond}
use Rattle.grammar.specs.States.{State, Read, Read.done, ◌>>=◌, is_at, is_any, next_start, span_from, take}
use Rattle.wgsl_model.specs.Tokens.ClassTable.{SymAnd, SymBracketLeft, SymComma, SymMinus, SymMinusMinus, SymOr, SymParenRight, SymPeriod, SymPlus, SymShiftLeft, SymShiftRight, SymXor, TemplateArgsEnd}
use Rattle.wgsl_model.specs.Faults.Kinds.{next_place}
use Rattle.wgsl_model.specs.Trees.Operators.{BinaryOperator, BinaryOperator.bitwise_or, BinaryOperator.bitwise_and, BinaryOperator.bitwise_xor, BinaryOperator.shift_left, BinaryOperator.shift_right}
use Rattle.wgsl_model.specs.Trees.Expressions.{ExpressionNode}
use Rattle.wgsl_model.specs.Grammar.ExpressionParts.{placed_expression, unary_of, binary_of, negation_of}
use Rattle.wgsl_model.specs.Grammar.Symbols.{Symbol.primary_expression, Symbol.singular_expression, Symbol.unary_expression, Symbol.shift_expression, Symbol.relational_expression, Symbol.expression}
use Rattle.wgsl_theory_grammar.specs.Factored.{FactoredSymbol.of, FactoredSymbol.further, Further.template_items, Further.argument_rest, Further.components, with_operand}
use Rattle.wgsl_theory_grammar.specs.Reader.{reader}
use Rattle.wgsl_read_expression.specs.Growing.{read_growth}
use Rattle.wgsl_read_expression.specs.Rules.{unary_operators, multiplicative_operators, relational_operators, primary_at, component_after, unary_operator_at, multiplicative_operator_at, relational_operator_at, factors_after, products_from, summand_at, summands_after, sum_after, relation_after, bitwise_after, logical_after, logical_at, expression_after}

-- ---- lists
-- the arguments of a template, after some
unfoldable pub template_items_from : List ExpressionNode → State → Read (List ExpressionNode)
template_items_from es s = reader (further template_items) s >>= λ more s'. done (es ++ more) s'

-- one argument, and what may follow it
unfoldable pub template_items_turn : List ExpressionNode → State → Read (List ExpressionNode)
template_items_turn es s = reader (of expression) s >>= λ e s'. cond (is_at SymComma s')
    (take SymComma s' >>= λ t s''. cond (is_at TemplateArgsEnd s'') (take TemplateArgsEnd s''
    >>= λ t s'''. done (es ++ e ∷ []) s''') (template_items_from (es ++ e ∷ []) s''))
    (take TemplateArgsEnd s' >>= λ t s''. done (es ++ e ∷ []) s'')

-- arguments up to the closing parenthesis, after some
unfoldable pub arguments_from : List ExpressionNode → State → Read (List ExpressionNode)
arguments_from es s = reader (further argument_rest) s >>= λ more s'. done (es ++ more) s'

-- the closing parenthesis, or one argument and what may follow it
unfoldable pub arguments_turn : List ExpressionNode → State → Read (List ExpressionNode)
arguments_turn es s = cond (is_at SymParenRight s) (take SymParenRight s >>= λ t s'. done es s')
    (reader (of expression) s >>= λ e s'. cond (is_at SymComma s')
    (take SymComma s' >>= λ t s''. arguments_from (es ++ e ∷ []) s'')
    (take SymParenRight s' >>= λ t s''. done (es ++ e ∷ []) s''))

-- ---- primary expressions
-- a primary expression where it is
unfoldable pub placed_primary_at : State → Read ExpressionNode
placed_primary_at s = primary_at s >>= λ e s'. done (placed_expression e (span_from (next_start s) s')) s'

-- ---- components
-- the components after a base
unfoldable pub components_after : ExpressionNode → State → Read ExpressionNode
components_after e s = read_growth e (reader (further components)) s

-- one component more, where there is one
unfoldable pub components_turn : ExpressionNode → State → Read ExpressionNode
components_turn e s = cond (is_any (SymBracketLeft ∷ SymPeriod ∷ []) s)
    (component_after e s >>= components_after) (done e s)

-- a primary expression and its components
unfoldable pub singular_at : State → Read ExpressionNode
singular_at s = reader (of primary_expression) s >>= components_after

-- ---- operators
-- an operator and its operand, or else an operand with its components
unfoldable pub unary_at : State → Read ExpressionNode
unary_at s = cond (is_any unary_operators s)
    (unary_operator_at s >>= λ op s'. reader (of unary_expression) s'
    >>= λ e s''. done (unary_of (op, e) (span_from (next_start s) s'')) s'')
    (reader (of singular_expression) s)

-- ---- products and sums
-- one factor more, where there is one
unfoldable pub factors_turn : ExpressionNode → State → Read ExpressionNode
factors_turn e s = cond (is_any multiplicative_operators s)
    (multiplicative_operator_at s >>= λ op s'. reader (of unary_expression) s'
    >>= λ right s''. factors_after (with_operand (op, right) e) s'') (done e s)

-- one factor more of a product that began at a place, where there is one
unfoldable pub products_turn : ℕ → ExpressionNode → State → Read ExpressionNode
products_turn start e s = cond (is_any multiplicative_operators s)
    (multiplicative_operator_at s >>= λ op s'. reader (of unary_expression) s'
    >>= λ right s''. products_from start (binary_of e (op, right) (span_from start s'')) s'') (done e s)

-- a product
unfoldable pub product_at : State → Read ExpressionNode
product_at s = reader (of unary_expression) s >>= λ e s'. products_from (next_start s) e s'

-- `--` with an operand and the factors after it: the product starts at the second minus
unfoldable pub negated_product_at : State → Read ExpressionNode
negated_product_at s = take SymMinusMinus s >>= λ t s'. reader (of unary_expression) s' >>= λ e s''.
    products_from (next_place (next_start s)) (negation_of e (span_from (next_start s) s'')) s''

-- one summand more, where there is one
unfoldable pub summands_turn : ExpressionNode → State → Read ExpressionNode
summands_turn e s = cond (is_any (SymPlus ∷ SymMinus ∷ SymMinusMinus ∷ []) s)
    (summand_at s >>= λ p s'. summands_after (with_operand p e) s') (done e s)

-- ---- shifts and comparisons
-- a shift, or factors and summands
unfoldable pub sum_turn : ExpressionNode → State → Read ExpressionNode
sum_turn e s = cond (is_at SymShiftLeft s) (take SymShiftLeft s >>= λ t s'.
    reader (of unary_expression) s' >>= λ right s''. done (with_operand (shift_left, right) e) s'')
    (cond (is_at SymShiftRight s) (take SymShiftRight s >>= λ t s'. reader (of unary_expression) s'
    >>= λ right s''. done (with_operand (shift_right, right) e) s'')
    (factors_after e s >>= summands_after))

-- a shift expression
unfoldable pub shift_at : State → Read ExpressionNode
shift_at s = reader (of unary_expression) s >>= sum_after

-- a comparison with one operand more, or none
unfoldable pub relation_turn : ExpressionNode → State → Read ExpressionNode
relation_turn e s = cond (is_any relational_operators s)
    (relational_operator_at s >>= λ op s'. reader (of shift_expression) s'
    >>= λ right s''. done (with_operand (op, right) e) s'') (done e s)

-- a relational expression
unfoldable pub relational_at : State → Read ExpressionNode
relational_at s = reader (of shift_expression) s >>= relation_after

-- ---- expressions
-- one operand more, where there is one
unfoldable pub bitwise_turn : ℕ → BinaryOperator → ExpressionNode → State → Read ExpressionNode
bitwise_turn class operator e s = cond (is_at class s)
    (take class s >>= λ t s'. reader (of unary_expression) s'
    >>= λ right s''. bitwise_after class operator (with_operand (operator, right) e) s'') (done e s)

-- one more, where there is one
unfoldable pub logical_turn : ℕ → BinaryOperator → ExpressionNode → State → Read ExpressionNode
logical_turn class operator e s = cond (is_at class s)
    (take class s >>= λ t s'. reader (of relational_expression) s'
    >>= λ right s''. logical_after class operator (with_operand (operator, right) e) s'') (done e s)

-- the operands of a bitwise operator, or a relational expression with what may follow it
unfoldable pub expression_turn : ExpressionNode → State → Read ExpressionNode
expression_turn e s = cond (is_at SymAnd s) (bitwise_after SymAnd bitwise_and e s)
    (cond (is_at SymOr s) (bitwise_after SymOr bitwise_or e s)
    (cond (is_at SymXor s) (bitwise_after SymXor bitwise_xor e s)
    (sum_after e s >>= λ e s'. relation_after e s' >>= logical_at)))

-- an expression
unfoldable pub whole_expression_at : State → Read ExpressionNode
whole_expression_at s = reader (of unary_expression) s >>= expression_after
