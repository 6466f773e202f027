-- Rows of expressions, literals and template lists: tokens, and the tree or the fault.
use Rattle.std.specs.Prelude.{true, List, [], ◌∷◌, Some, None, codes}
use Rattle.grammar.specs.Tokens.{Token, Fault}
use Rattle.wgsl_model.specs.Tokens.ClassTable.{SymAndAnd, SymBracketLeft, SymBracketRight, SymComma, SymGreaterThan, SymLessThan, SymShiftLeft, SymMinus, SymMinusMinus, SymPeriod, SymPlus, SymOrOr, SymParenLeft, SymParenRight, SymStar, KwTrue, TemplateArgsStart, TemplateArgsEnd}
use Rattle.wgsl_model.specs.Trees.Operators.{UnaryOperator.negation, BinaryOperator.short_circuit_and, BinaryOperator.subtraction, BinaryOperator.multiplication, BinaryOperator.less_than, BinaryOperator.greater_than, BinaryOperator.shift_left}
use Rattle.wgsl_model.specs.Trees.Expressions.{LiteralExpression, LiteralExpression.boolean, ExpressionNode, Expression}
use Rattle.wgsl_laws.specs.RowParts.{span, sign, word, reserved, number_token, at, name_at, number_at, call_at}

-- a - b - c
abbrev pub sum_to_the_left_tokens : List Token
sum_to_the_left_tokens = (word (codes "a") 0 1) ∷ (sign SymMinus 2 3) ∷ (word (codes "b") 4 5)
    ∷ (sign SymMinus 6 7) ∷ (word (codes "c") 8 9) ∷ []

abbrev pub sum_to_the_left_tree : ExpressionNode
sum_to_the_left_tree = (at (Expression.binary subtraction (at (Expression.binary subtraction
    (name_at (codes "a") 0 1) (name_at (codes "b") 4 5)) 0 5) (name_at (codes "c") 8 9)) 0 9)

-- 5--7*2
abbrev pub product_of_a_negation_tokens : List Token
product_of_a_negation_tokens = (number_token 5 0 1) ∷ (sign SymMinusMinus 1 3)
    ∷ (number_token 7 3 4) ∷ (sign SymStar 4 5) ∷ (number_token 2 5 6) ∷ []

abbrev pub product_of_a_negation_tree : ExpressionNode
product_of_a_negation_tree =
    (at (Expression.binary subtraction (number_at 5 0 1) (at (Expression.binary multiplication
    (at (Expression.unary negation (number_at 7 3 4)) 2 4) (number_at 2 5 6)) 2 6)) 0 6)

-- a---b
abbrev pub two_negations_tokens : List Token
two_negations_tokens = (word (codes "a") 0 1) ∷ (sign SymMinusMinus 1 3) ∷ (sign SymMinus 3 4)
    ∷ (word (codes "b") 4 5) ∷ []

abbrev pub two_negations_tree : ExpressionNode
two_negations_tree = (at (Expression.binary subtraction (name_at (codes "a") 0 1)
    (at (Expression.unary negation (at (Expression.unary negation (name_at (codes "b") 4 5)) 3 5)) 2 5)) 0 5)

-- a.b[0]
abbrev pub base_before_its_component_tokens : List Token
base_before_its_component_tokens = (word (codes "a") 0 1) ∷ (sign SymPeriod 1 2) ∷ (word (codes "b") 2 3)
    ∷ (sign SymBracketLeft 3 4) ∷ (number_token 0 4 5) ∷ (sign SymBracketRight 5 6) ∷ []

abbrev pub base_before_its_component_tree : ExpressionNode
base_before_its_component_tree = (at (Expression.indexing
    (at (Expression.named_component (name_at (codes "a") 0 1) (codes "b")) 0 3) (number_at 0 4 5)) 0 6)

-- a < b && c > d
abbrev pub chain_of_comparisons_tokens : List Token
chain_of_comparisons_tokens = (word (codes "a") 0 1) ∷ (sign SymLessThan 2 3)
    ∷ (word (codes "b") 4 5) ∷ (sign SymAndAnd 6 8) ∷ (word (codes "c") 9 10)
    ∷ (sign SymGreaterThan 11 12) ∷ (word (codes "d") 13 14) ∷ []

abbrev pub chain_of_comparisons_tree : ExpressionNode
chain_of_comparisons_tree = (at (Expression.binary short_circuit_and
    (at (Expression.binary less_than (name_at (codes "a") 0 1) (name_at (codes "b") 4 5)) 0 5)
    (at (Expression.binary greater_than (name_at (codes "c") 9 10) (name_at (codes "d") 13 14)) 9 14)) 0 14)

-- a<b>(c)
abbrev pub template_and_call_tokens : List Token
template_and_call_tokens = (word (codes "a") 0 1) ∷ (sign TemplateArgsStart 1 2)
    ∷ (word (codes "b") 2 3) ∷ (sign TemplateArgsEnd 3 4) ∷ (sign SymParenLeft 4 5)
    ∷ (word (codes "c") 5 6) ∷ (sign SymParenRight 6 7) ∷ []

abbrev pub template_and_call_tree : ExpressionNode
template_and_call_tree = (at (Expression.function_call (call_at (codes "a")
    (Some ((name_at (codes "b") 2 3) ∷ [])) ((name_at (codes "c") 5 6) ∷ []))) 0 7)

-- f(a < b, c > (d),)
abbrev pub last_comma_of_arguments_tokens : List Token
last_comma_of_arguments_tokens = (word (codes "f") 0 1) ∷ (sign SymParenLeft 1 2)
    ∷ (word (codes "a") 2 3) ∷ (sign TemplateArgsStart 4 5) ∷ (word (codes "b") 6 7)
    ∷ (sign SymComma 7 8) ∷ (word (codes "c") 9 10) ∷ (sign TemplateArgsEnd 11 12)
    ∷ (sign SymParenLeft 13 14) ∷ (word (codes "d") 14 15) ∷ (sign SymParenRight 15 16)
    ∷ (sign SymComma 16 17) ∷ (sign SymParenRight 17 18) ∷ []

abbrev pub last_comma_of_arguments_tree : ExpressionNode
last_comma_of_arguments_tree = (at (Expression.function_call (call_at (codes "f") None
    ((at (Expression.function_call (call_at (codes "a") (Some ((name_at (codes "b") 6 7)
    ∷ ((name_at (codes "c") 9 10) ∷ []))) ((name_at (codes "d") 14 15) ∷ []))) 2 16) ∷ []))) 0 18)

-- a << b < c
abbrev pub comparison_of_a_shift_tokens : List Token
comparison_of_a_shift_tokens = (word (codes "a") 0 1) ∷ (sign SymShiftLeft 2 4)
    ∷ (word (codes "b") 5 6) ∷ (sign SymLessThan 7 8) ∷ (word (codes "c") 9 10) ∷ []

abbrev pub comparison_of_a_shift_tree : ExpressionNode
comparison_of_a_shift_tree = (at (Expression.binary less_than (at (Expression.binary shift_left
    (name_at (codes "a") 0 1) (name_at (codes "b") 5 6)) 0 6) (name_at (codes "c") 9 10)) 0 10)

-- a + b << c
abbrev pub shift_of_a_sum_tokens : List Token
shift_of_a_sum_tokens = (word (codes "a") 0 1) ∷ (sign SymPlus 2 3) ∷ (word (codes "b") 4 5)
    ∷ (sign SymShiftLeft 6 8) ∷ (word (codes "c") 9 10) ∷ []

abbrev pub shift_of_a_sum_fault : Fault
shift_of_a_sum_fault = record { kind = 3; texts = codes "<<" ∷ []; span = span 6 8 }

-- a && b || c
abbrev pub and_beside_or_tokens : List Token
and_beside_or_tokens = (word (codes "a") 0 1) ∷ (sign SymAndAnd 2 4) ∷ (word (codes "b") 5 6)
    ∷ (sign SymOrOr 7 9) ∷ (word (codes "c") 10 11) ∷ []

abbrev pub and_beside_or_fault : Fault
and_beside_or_fault = record { kind = 3; texts = codes "||" ∷ []; span = span 7 9 }

-- f(a,,)
abbrev pub doubled_comma_tokens : List Token
doubled_comma_tokens = (word (codes "f") 0 1) ∷ (sign SymParenLeft 1 2) ∷ (word (codes "a") 2 3)
    ∷ (sign SymComma 3 4) ∷ (sign SymComma 4 5) ∷ (sign SymParenRight 5 6) ∷ []

abbrev pub doubled_comma_fault : Fault
doubled_comma_fault = record { kind = 3; texts = codes "," ∷ []; span = span 4 5 }

-- a b self
abbrev pub fault_after_an_unexpected_token_tokens : List Token
fault_after_an_unexpected_token_tokens = (word (codes "a") 0 1) ∷ (word (codes "b") 2 3)
    ∷ (reserved (codes "self") 4 8) ∷ []

abbrev pub fault_after_an_unexpected_token_fault : Fault
fault_after_an_unexpected_token_fault = record { kind = 3; texts = codes "identifier `b`" ∷ []; span = span 2 3 }

-- a self
abbrev pub fault_at_an_unexpected_token_tokens : List Token
fault_at_an_unexpected_token_tokens = (word (codes "a") 0 1) ∷ (reserved (codes "self") 2 6) ∷ []

abbrev pub fault_at_an_unexpected_token_fault : Fault
fault_at_an_unexpected_token_fault = record { kind = 3; texts = codes "reserved word `self`" ∷ []; span = span 2 6 }

-- no token
abbrev pub no_expression_tokens : List Token
no_expression_tokens = []

abbrev pub no_expression_fault : Fault
no_expression_fault = record { kind = 4; texts = []; span = span 0 1 }

-- true
abbrev pub boolean_literal_tokens : List Token
boolean_literal_tokens = (sign KwTrue 0 4) ∷ []

abbrev pub boolean_literal_tree : LiteralExpression
boolean_literal_tree = boolean true

-- -1
abbrev pub no_literal_tokens : List Token
no_literal_tokens = (sign SymMinus 0 1) ∷ (number_token 1 1 2) ∷ []

abbrev pub no_literal_fault : Fault
no_literal_fault = record { kind = 3; texts = codes "-" ∷ []; span = span 0 1 }

-- <a>
abbrev pub template_of_one_tokens : List Token
template_of_one_tokens = (sign TemplateArgsStart 0 1) ∷ (word (codes "a") 1 2) ∷ (sign TemplateArgsEnd 2 3) ∷ []

abbrev pub template_of_one_tree : List ExpressionNode
template_of_one_tree = (name_at (codes "a") 1 2) ∷ []
