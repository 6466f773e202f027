-- What the rules of expressions derive fits.
use Rattle.std.proofs.Common.{ℕ, ℤ, pos, negsuc, ◌^◌, ◌<◌, Bool, true, false, cond, ◌==◌, arith}
use Rattle.std.proofs.lemmas.Bool.Decides.{nat_tests}
use Rattle.std.specs.Int.{w64}
use Rattle.std.specs.Int.RustNames.{FitsSigned}
use Rattle.grammar.specs.Tokens.{Token, Span, Payload, Payload.nothing, Payload.name, Payload.number}
use Rattle.grammar.specs.Grammar.{Grammar.symbol, Grammar.left_chain}
use Rattle.grammar.specs.Notation.{◌means◌}
use Rattle.wgsl_model.specs.Tokens.ClassTable.{KwTrue, KwFalse, AbstractInt, I32, U32, AbstractFloat, F32, SymAnd, SymAndAnd, SymBracketLeft, SymBracketRight, SymComma, SymMinusMinus, SymOr, SymOrOr, SymParenLeft, SymParenRight, SymPeriod, SymShiftLeft, SymShiftRight, SymStar, SymXor, TemplateArgsStart, TemplateArgsEnd}
use Rattle.wgsl_model.specs.Faults.Kinds.{next_place}
use Rattle.wgsl_model.specs.Trees.Operators.{address_of, indirection, BinaryOperator, short_circuit_or, short_circuit_and, subtraction, bitwise_or, bitwise_and, bitwise_xor, shift_left, shift_right}
use Rattle.wgsl_model.specs.Trees.Expressions.{ExpressionNode, Expression, boolean, abstract_int, i32, u32, abstract_float, f32, f16}
use Rattle.wgsl_model.specs.Grammar.TokenValues.{text_of, literal_of, number_in, magnitude}
use Rattle.wgsl_model.specs.Grammar.ExpressionParts as parts
use Rattle.wgsl_model.specs.Grammar.ExpressionParts.{placed_expression, type_of, call_of, index_of, component_of, with_component, unary_of, binary_of, operation_of, negation_of, negated_product_of, later, two_or_more, unary_operator, multiplicative_operator, additive_operator, relational_operator}
use Rattle.wgsl_model.specs.Grammar.StatementParts.{variable_at, parenthesized_at, open_left_side, parenthesized_left_side}
use Rattle.wgsl_model.specs.Grammar.Symbols.{Rule, ident, type_specifier, template_list, expressions, call, arguments, literal, primary_expression, singular_expression, component, unary_expression, multiplicative_expression, negated_expression, additive_expression, shift_expression, relational_expression, expression, lhs_expression}
use Rattle.wgsl_model.specs.Grammar.Written.{written}
use Rattle.wgsl_theory_reread.proofs.EachRule.ExpressionRules.{literal_classes}
use Rattle.wgsl_theory_reread.proofs.Gives.{anything, token_sound, symbol_sound, then_sound, or_sound, gives_sound, sign_before, sign_after}
use Rattle.wgsl_theory_packed.specs.Fits.{SpanFits, LiteralFits, ExpressionFits, NodeFits}
use Rattle.wgsl_theory_packed.proofs.Derived.Tokens.{PayloadFits}
use Rattle.wgsl_theory_packed.proofs.Derived.Ways.{makes_fits, chain_fits, optional_fits, list_fits, list_or_none_fits}
use Rattle.wgsl_theory_packed.proofs.Derived.Values.{FitsAs, Gives, nodes_fit, template_fits}

-- ---- types, calls and literals
pub ident_gives : Gives (written ident) (FitsAs ident)
ident_gives = anything (written ident)

pub type_specifier_gives : Gives (written type_specifier) (FitsAs type_specifier)
type_specifier_gives =
    gives_sound (then_sound (symbol_sound ident) (optional_fits (symbol_sound template_list))) type_of
    (FitsAs type_specifier) (λ a h. template_fits (text_of a.0) a.1 h.1)

pub expressions_gives : Gives (written expressions) (FitsAs expressions)
expressions_gives = list_fits SymComma (symbol_sound expression)

pub template_list_gives : Gives (written template_list) (FitsAs template_list)
template_list_gives = sign_before TemplateArgsStart
    (sign_after TemplateArgsEnd (list_fits SymComma (symbol_sound expression)))

pub call_gives : Gives (written call) (FitsAs call)
call_gives = gives_sound (then_sound (symbol_sound type_specifier) (symbol_sound arguments)) call_of
    (FitsAs call) (λ a h. (h.0, nodes_fit a.1 h.1))

pub arguments_gives : Gives (written arguments) (FitsAs arguments)
arguments_gives =
    sign_before SymParenLeft (sign_after SymParenRight (list_or_none_fits SymComma (symbol_sound expression)))

number_fits : (p : Payload) → PayloadFits p → FitsSigned w64 (number_in p)
number_fits nothing h = record { sfits = omega arith }
number_fits (name text) h = record { sfits = omega arith }
number_fits (number n) h = h

magnitude_fits : (z : ℤ) → FitsSigned w64 z → magnitude z < 2 ^ 64
magnitude_fits (pos n) h = omega (arith, h.sfits)
magnitude_fits (negsuc n) h = omega arith

literal_fits : (t : Token) → PayloadFits t.payload → LiteralFits (literal_of t)
literal_fits t h = go (t.class == KwTrue) (t.class == KwFalse) (t.class == AbstractInt) (t.class == I32)
    (t.class == U32) (t.class == AbstractFloat) (t.class == F32)
  where
    go : (a b c d e f g : Bool) → LiteralFits (cond a (boolean true) (cond b (boolean false)
        (cond c (abstract_int (number_in t.payload)) (cond d (i32 (number_in t.payload))
        (cond e (u32 (magnitude (number_in t.payload))) (cond f (abstract_float (text_of t))
        (cond g (f32 (text_of t)) (f16 (text_of t)))))))))
    go true b c d e f g = tt
    go false true c d e f g = tt
    go false false true d e f g = number_fits t.payload h
    go false false false true e f g = number_fits t.payload h
    go false false false false true f g = magnitude_fits (number_in t.payload) (number_fits t.payload h)
    go false false false false false true g = tt
    go false false false false false false true = tt
    go false false false false false false false = tt

pub literal_gives : Gives (written literal) (FitsAs literal)
literal_gives = gives_sound (token_sound literal_classes (λ t. LiteralFits (literal_of t))
    (λ t m h. literal_fits t h.payload)) literal_of (FitsAs literal) (λ t h. h)

-- ---- operands
pub primary_expression_gives : Gives (written primary_expression) (FitsAs primary_expression)
primary_expression_gives = makes_fits (or_sound (gives_sound (symbol_sound type_specifier)
    Expression.type_or_identifier ExpressionFits (λ t h. h))
    (or_sound (gives_sound (symbol_sound call) Expression.function_call ExpressionFits (λ c h. h))
    (or_sound (gives_sound (symbol_sound literal) Expression.literal ExpressionFits (λ l h. h))
    (gives_sound (sign_before SymParenLeft (sign_after SymParenRight (symbol_sound expression)))
    Expression.parenthesized ExpressionFits (λ e h. h))))) placed_expression NodeFits
    (λ e s f h. (f, h))

pub singular_expression_gives : Gives (written singular_expression) (FitsAs singular_expression)
singular_expression_gives = chain_fits (symbol_sound primary_expression)
    (symbol_sound component) with_component (λ a b s f h k. (f, k a h))

pub component_gives : Gives (written component) (FitsAs component)
component_gives = or_sound (gives_sound (sign_before SymBracketLeft (sign_after SymBracketRight
    (symbol_sound expression))) index_of (FitsAs component) (λ i h base b. (b, h)))
    (gives_sound (sign_before SymPeriod (symbol_sound ident)) component_of (FitsAs component)
    (λ t h base b. b))

pub unary_expression_gives : Gives (written unary_expression) (FitsAs unary_expression)
unary_expression_gives = or_sound (symbol_sound singular_expression)
    (makes_fits (then_sound (anything unary_operator) (symbol_sound unary_expression)) unary_of
    NodeFits (λ p s f h. (f, h.1)))

-- ---- operations
pub multiplicative_expression_gives : Gives (written multiplicative_expression) (FitsAs multiplicative_expression)
multiplicative_expression_gives = chain_fits (symbol_sound unary_expression)
    (then_sound (anything multiplicative_operator) (symbol_sound unary_expression)) binary_of
    (λ a b s f h k. (f, (h, k.1)))

next_fits : (p : ℕ) → p < 2 ^ 64 → next_place p < 2 ^ 64
next_fits p h = grind (arith, nat_tests)

later_fits : (s : Span) → SpanFits s → SpanFits (later s)
later_fits s f = (next_fits s.start f.0, f.1)

pub negated_expression_gives : Gives (written negated_expression) (FitsAs negated_expression)
negated_expression_gives =
    chain_fits (makes_fits (sign_before SymMinusMinus (symbol_sound unary_expression)) negation_of
    NodeFits (λ e s f h. (later_fits s f, h)))
    (then_sound (anything multiplicative_operator) (symbol_sound unary_expression)) negated_product_of
    (λ a b s f h k. (later_fits s f, (h, k.1)))

pub additive_expression_gives : Gives (written additive_expression) (FitsAs additive_expression)
additive_expression_gives = chain_fits (symbol_sound multiplicative_expression)
    (or_sound (then_sound (anything additive_operator) (symbol_sound multiplicative_expression))
    (gives_sound (symbol_sound negated_expression) (λ (e : ExpressionNode). (subtraction, e))
    (λ (p : BinaryOperator × ExpressionNode). Unit {0} × NodeFits p.1) (λ e h. (tt, h)))) binary_of
    (λ a b s f h k. (f, (h, k.1)))

two_gives : (class : ℕ) (operator : BinaryOperator) {x : Rule ExpressionNode} → Gives x NodeFits
    → Gives (parts.two class operator x) NodeFits
two_gives class operator G = makes_fits (then_sound G (then_sound (anything (class means operator)) G))
    operation_of NodeFits (λ p s f h. (f, (h.0, h.1.1)))

two_or_more_gives : (class : ℕ) (operator : BinaryOperator) {x : Rule ExpressionNode}
    → Gives x NodeFits → Gives (two_or_more class operator x) NodeFits
two_or_more_gives class operator G = chain_fits (two_gives class operator G)
    (then_sound (anything (class means operator)) G) binary_of (λ a b s f h k. (f, (h, k.1)))

pub shift_expression_gives : Gives (written shift_expression) (FitsAs shift_expression)
shift_expression_gives = or_sound (symbol_sound additive_expression)
    (or_sound (two_gives SymShiftLeft shift_left (symbol_sound unary_expression))
    (two_gives SymShiftRight shift_right (symbol_sound unary_expression)))

pub relational_expression_gives : Gives (written relational_expression) (FitsAs relational_expression)
relational_expression_gives = or_sound (symbol_sound shift_expression)
    (makes_fits (then_sound (symbol_sound shift_expression) (then_sound (anything relational_operator)
    (symbol_sound shift_expression))) operation_of NodeFits (λ p s f h. (f, (h.0, h.1.1))))

pub expression_gives : Gives (written expression) (FitsAs expression)
expression_gives = or_sound (symbol_sound relational_expression)
    (or_sound (two_or_more_gives SymAndAnd short_circuit_and (symbol_sound relational_expression))
    (or_sound (two_or_more_gives SymOrOr short_circuit_or (symbol_sound relational_expression))
    (or_sound (two_or_more_gives SymAnd bitwise_and (symbol_sound unary_expression))
    (or_sound (two_or_more_gives SymOr bitwise_or (symbol_sound unary_expression))
    (two_or_more_gives SymXor bitwise_xor (symbol_sound unary_expression))))))

-- ---- left sides
left_chain_gives : {g : Rule ExpressionNode} → Gives g NodeFits
    → Gives (left_chain with_component g (symbol component)) NodeFits
left_chain_gives G = chain_fits G (symbol_sound component) with_component (λ a b s f h k. (f, k a h))

pub open_left_side_gives : Gives open_left_side NodeFits
open_left_side_gives = or_sound (left_chain_gives
    (makes_fits (symbol_sound ident) variable_at NodeFits (λ t s f h. (f, tt))))
    (or_sound (makes_fits (then_sound (anything (SymStar means indirection))
    (symbol_sound lhs_expression)) unary_of NodeFits (λ p s f h. (f, h.1)))
    (makes_fits (then_sound (anything (SymAnd means address_of)) (symbol_sound lhs_expression))
    unary_of NodeFits (λ p s f h. (f, h.1))))

pub parenthesized_left_side_gives : Gives parenthesized_left_side NodeFits
parenthesized_left_side_gives = left_chain_gives
    (makes_fits (sign_before SymParenLeft (sign_after SymParenRight (symbol_sound lhs_expression)))
    parenthesized_at NodeFits (λ e s f h. (f, h)))

pub lhs_expression_gives : Gives (written lhs_expression) (FitsAs lhs_expression)
lhs_expression_gives = or_sound open_left_side_gives parenthesized_left_side_gives
