-- Left sides by their parts.
use Rattle.std.proofs.Common.{◌≡◌, ◌∙◌, ap, [], ◌∷◌, cond}
use Rattle.grammar.specs.States.{State, Read, ◌>>=◌, is_at, is_any}
use Rattle.wgsl_model.specs.Tokens.ClassTable.{SymAnd, SymStar, Ident, ReservedWord}
use Rattle.wgsl_model.specs.Trees.Operators.{UnaryOperator.address_of, UnaryOperator.indirection}
use Rattle.wgsl_model.specs.Trees.Expressions.{ExpressionNode}
use Rattle.wgsl_model.specs.Grammar.Symbols.{Symbol.lhs_expression}
use Rattle.wgsl_theory_grammar.specs.Factored.{FactoredSymbol.of, FactoredSymbol.further, Further.components, Further.left_side_in_parentheses, Further.prefixed_left_side}
use Rattle.wgsl_theory_grammar.specs.Reader.{reader}
use Rattle.wgsl_theory_grammar.specs.ExpressionRules.{lhs_expression_at}
use Rattle.wgsl_theory_grammar.specs.StatementRules.{left_side_in_parentheses_at, prefixed_left_side_at}
use Rattle.wgsl_theory_grammar.proofs.ExpressionEquations.{lhs_expression_is}
use Rattle.wgsl_theory_grammar.proofs.StatementEquations.{left_side_in_parentheses_is, prefixed_left_side_is}
use Rattle.wgsl_read_simple.specs.Given.{given}
use Rattle.wgsl_read_simple.specs.LeftSides.{left_name_at, parenthesized_left_side_at, unary_left_side_at}
use Rattle.wgsl_read_simple.proofs.Binding.{given_is}

-- parentheses with components
unfoldable pub left_side_in_parentheses_parts : State → Read ExpressionNode
left_side_in_parentheses_parts s = parenthesized_left_side_at s >>= λ e s'. given e (reader (further components)) s'

pub left_side_in_parentheses_by_parts : (s : State)
    → reader (further left_side_in_parentheses) s ≡ left_side_in_parentheses_parts s
unfolding left_side_in_parentheses_at left_side_in_parentheses_parts parenthesized_left_side_at
left_side_in_parentheses_by_parts s = left_side_in_parentheses_is s
    ∙ given_is (parenthesized_left_side_at s) (reader (further components))

-- an operator and its operand
unfoldable pub prefixed_left_side_parts : State → Read ExpressionNode
prefixed_left_side_parts s = cond (is_at SymStar s) (unary_left_side_at SymStar indirection s)
    (unary_left_side_at SymAnd address_of s)

pub prefixed_left_side_by_parts : (s : State) → reader (further prefixed_left_side) s ≡ prefixed_left_side_parts s
unfolding prefixed_left_side_at prefixed_left_side_parts unary_left_side_at
prefixed_left_side_by_parts s = prefixed_left_side_is s

-- a name with components, or another left side
unfoldable pub lhs_expression_parts : State → Read ExpressionNode
lhs_expression_parts s = cond (is_any (Ident ∷ (ReservedWord ∷ [])) s)
    (left_name_at s >>= λ e s'. given e (reader (further components)) s')
    (cond (is_any (SymAnd ∷ (SymStar ∷ [])) s) (reader (further prefixed_left_side) s)
    (reader (further left_side_in_parentheses) s))

pub lhs_expression_by_parts : (s : State) → reader (of lhs_expression) s ≡ lhs_expression_parts s
unfolding lhs_expression_at lhs_expression_parts left_name_at
lhs_expression_by_parts s = lhs_expression_is s
    ∙ ap (λ m. cond (is_any (Ident ∷ (ReservedWord ∷ [])) s) m (cond (is_any (SymAnd ∷ (SymStar ∷ [])) s)
    (reader (further prefixed_left_side) s) (reader (further left_side_in_parentheses) s)))
    (given_is (left_name_at s) (reader (further components)))
