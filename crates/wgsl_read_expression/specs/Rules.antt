-- What the parts of expressions read, each as a word of its own, which no computation opens.
use Rattle.std.specs.Prelude.{ℕ, List, [], ◌∷◌, Option, cond}
use Rattle.grammar.specs.Grammar.{Grammar.symbol}
use Rattle.grammar.specs.Notation.{◌means◌, ◌then◌, ◌gives◌, ◌▹◌, ◌◃◌, optional}
use Rattle.grammar.specs.States.{State, Read, Read.done, ◌>>=◌, is_at, is_any, turns, go}
use Rattle.wgsl_model.specs.Tokens.ClassTable.{SymAnd, SymAndAnd, SymBang, SymEqualEqual, SymForwardSlash, SymGreaterThan, SymGreaterThanEqual, SymLessThan, SymLessThanEqual, SymMinus, SymMinusMinus, SymModulo, SymNotEqual, SymOr, SymOrOr, SymParenLeft, SymParenRight, SymPlus, SymShiftLeft, SymShiftRight, SymStar, SymTilde, SymXor, Ident, ReservedWord}
use Rattle.wgsl_model.specs.Trees.Operators.{UnaryOperator, BinaryOperator, BinaryOperator.short_circuit_or, BinaryOperator.short_circuit_and, BinaryOperator.subtraction}
use Rattle.wgsl_model.specs.Trees.Expressions as tree
use Rattle.wgsl_model.specs.Trees.Expressions.{ExpressionNode, Expression}
use Rattle.wgsl_model.specs.Grammar.ExpressionParts.{placed_expression, binary_of, unary_operator, multiplicative_operator, additive_operator, relational_operator}
use Rattle.wgsl_model.specs.Grammar.Symbols.{Symbol.type_specifier, Symbol.template_list, Symbol.arguments, Symbol.literal, Symbol.component, Symbol.unary_expression, Symbol.multiplicative_expression, Symbol.negated_expression, Symbol.relational_expression, Symbol.expression}
use Rattle.wgsl_theory_grammar.specs.Factored.{FactoredSymbol.of, FactoredSymbol.further, Further.factors, Further.summands, Further.sum_rest, Further.relation_rest, Further.expression_rest, lifted, call_or_type, with_operand}
use Rattle.wgsl_theory_grammar.specs.Tables.{tables}
use Rattle.wgsl_theory_grammar.specs.Reader.{reader}
use Rattle.wgsl_read_expression.specs.Growing.{read_growth}

-- ---- the classes of operators
-- before an operand
abbrev pub unary_operators : List ℕ
unary_operators = SymMinus ∷ SymBang ∷ SymTilde ∷ SymStar ∷ SymAnd ∷ []

-- between operands
abbrev pub binary_operators : List ℕ
binary_operators = SymAnd ∷ SymOr ∷ SymXor ∷ SymAndAnd ∷ SymOrOr ∷ SymShiftLeft ∷ SymShiftRight
    ∷ SymStar ∷ SymForwardSlash ∷ SymModulo ∷ SymPlus ∷ SymMinus ∷ SymMinusMinus ∷ SymLessThan
    ∷ SymGreaterThan ∷ SymLessThanEqual ∷ SymGreaterThanEqual ∷ SymEqualEqual ∷ SymNotEqual ∷ []

-- of products
abbrev pub multiplicative_operators : List ℕ
multiplicative_operators = SymStar ∷ SymForwardSlash ∷ SymModulo ∷ []

-- of sums
abbrev pub additive_operators : List ℕ
additive_operators = SymPlus ∷ SymMinus ∷ []

-- of comparisons
abbrev pub relational_operators : List ℕ
relational_operators = SymLessThan ∷ SymGreaterThan ∷ SymLessThanEqual ∷ SymGreaterThanEqual
    ∷ SymEqualEqual ∷ SymNotEqual ∷ []

-- ---- lists
-- a template list or none
unfoldable pub optional_template_list_at : State → Read (Option (List ExpressionNode))
optional_template_list_at s = go tables reader (optional (symbol (of template_list))) s

-- ---- primary expressions
-- a call where there are arguments, else a type or an identifier
unfoldable pub call_or_type_at : State → Read Expression
call_or_type_at s = go tables reader
    (symbol (of type_specifier) then optional (symbol (of arguments)) gives call_or_type) s

-- an expression in parentheses
unfoldable pub parenthesized_expression_at : State → Read Expression
parenthesized_expression_at s = go tables reader
    (SymParenLeft ▹ symbol (of expression) ◃ SymParenRight gives Expression.parenthesized) s

-- a primary expression, before it is placed
unfoldable pub primary_at : State → Read Expression
primary_at s = cond (is_any (Ident ∷ ReservedWord ∷ []) s) (call_or_type_at s)
    (cond (is_at SymParenLeft s) (parenthesized_expression_at s)
    (reader (of literal) s >>= λ l s'. done (Expression.literal l) s'))

-- ---- components
-- a component after a base
unfoldable pub component_after : ExpressionNode → State → Read ExpressionNode
component_after e s = reader (of component) s
    >>= λ c s'. done (placed_expression (c e) (record { start = tree.start_of e; end = s'.end })) s'

-- ---- operators
-- an operator before an operand
unfoldable pub unary_operator_at : State → Read UnaryOperator
unary_operator_at s = go tables reader (lifted unary_operator) s

-- the operator of a product
unfoldable pub multiplicative_operator_at : State → Read BinaryOperator
multiplicative_operator_at s = go tables reader (lifted multiplicative_operator) s

-- the operator of a sum
unfoldable pub additive_operator_at : State → Read BinaryOperator
additive_operator_at s = go tables reader (lifted additive_operator) s

-- the operator of a comparison
unfoldable pub relational_operator_at : State → Read BinaryOperator
relational_operator_at s = go tables reader (lifted relational_operator) s

-- ---- products and sums
-- the factors after a first one
unfoldable pub factors_after : ExpressionNode → State → Read ExpressionNode
factors_after e s = read_growth e (reader (further factors)) s

-- the factors of a product that starts at a place, after a first one
unfoldable pub products_from : ℕ → ExpressionNode → State → Read ExpressionNode
products_from start e s = turns (λ (left : ExpressionNode) (p : BinaryOperator × ExpressionNode) span.
    binary_of left p (record { start = start; end = span.end }))
    multiplicative_operators
    (go tables reader (lifted multiplicative_operator then symbol (of unary_expression))) 0 e s

-- an operator of a sum and an operand, or a negation that begins with the second minus of `--`
unfoldable pub summand_at : State → Read (BinaryOperator × ExpressionNode)
summand_at s = cond (is_any additive_operators s)
    (additive_operator_at s >>= λ op s'. reader (of multiplicative_expression) s' >>= λ right s''. done (op, right) s'')
    (reader (of negated_expression) s >>= λ right s'. done (subtraction, right) s')

-- the summands after a first one
unfoldable pub summands_after : ExpressionNode → State → Read ExpressionNode
summands_after e s = read_growth e (reader (further summands)) s

-- ---- shifts and comparisons
-- what makes an operand a shift or a sum
unfoldable pub sum_after : ExpressionNode → State → Read ExpressionNode
sum_after e s = read_growth e (reader (further sum_rest)) s

-- what makes an operand a comparison
unfoldable pub relation_after : ExpressionNode → State → Read ExpressionNode
relation_after e s = read_growth e (reader (further relation_rest)) s

-- ---- expressions
-- further operands after one operator
unfoldable pub bitwise_after : ℕ → BinaryOperator → ExpressionNode → State → Read ExpressionNode
bitwise_after class operator e s =
    turns (λ (left : ExpressionNode) (p : BinaryOperator × ExpressionNode) span. with_operand p left)
    (class ∷ []) (go tables reader (class means operator then symbol (of unary_expression))) 0 e s

-- further relational expressions after one operator
unfoldable pub logical_after : ℕ → BinaryOperator → ExpressionNode → State → Read ExpressionNode
logical_after class operator e s =
    turns (λ (left : ExpressionNode) (p : BinaryOperator × ExpressionNode) span. with_operand p left)
    (class ∷ []) (go tables reader (class means operator then symbol (of relational_expression))) 0 e s

-- `&&` or `||` and their operands, none too
unfoldable pub logical_at : ExpressionNode → State → Read ExpressionNode
logical_at e s = cond (is_at SymAndAnd s) (logical_after SymAndAnd short_circuit_and e s)
    (cond (is_at SymOrOr s) (logical_after SymOrOr short_circuit_or e s) (done e s))

-- what makes an operand an expression
unfoldable pub expression_after : ExpressionNode → State → Read ExpressionNode
expression_after e s = read_growth e (reader (further expression_rest)) s
