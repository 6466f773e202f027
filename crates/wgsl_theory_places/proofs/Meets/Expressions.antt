-- What is met in the rules of expressions.
use Rattle.std.proofs.Common.{◌≡◌, ℕ, true, List, [], ◌∷◌, ◌++◌, Option, None, Some, refl, sym, ap, append-nil}
use Rattle.grammar.specs.Tokens.{Token}
use Rattle.grammar.specs.Grammar.{Grammar.symbol, Grammar.left_chain, Mode.checking, Chain, Chain.base, Chain.more, Means}
use Rattle.grammar.specs.Notation.{◌then◌, ◌makes◌, list}
use Rattle.wgsl_model.specs.Tokens.ClassTable.{SymAnd, SymAndAnd, SymBang, SymComma, SymEqualEqual, SymForwardSlash, SymGreaterThan, SymGreaterThanEqual, SymLessThan, SymLessThanEqual, SymMinus, SymMinusMinus, SymModulo, SymNotEqual, SymOr, SymOrOr, SymPlus, SymShiftLeft, SymShiftRight, SymStar, SymTilde, SymXor}
use Rattle.wgsl_model.specs.Trees.Operators.{UnaryOperator, BinaryOperator, BinaryOperator.short_circuit_or, BinaryOperator.short_circuit_and, BinaryOperator.bitwise_or, BinaryOperator.bitwise_and, BinaryOperator.bitwise_xor, BinaryOperator.shift_left, BinaryOperator.shift_right}
use Rattle.wgsl_model.specs.Trees.Expressions.{ExpressionNode, Expression, template_of}
use Rattle.wgsl_model.specs.Grammar.ExpressionParts.{with_component, unary_of, binary_of, operation_of, multiplicative_operator, two, two_or_more}
use Rattle.wgsl_model.specs.Grammar.StatementParts.{open_left_side, parenthesized_left_side}
use Rattle.wgsl_model.specs.Grammar.Symbols.{type_specifier, template_list, call, arguments, literal, primary_expression, singular_expression, component, unary_expression, multiplicative_expression, negated_expression, additive_expression, shift_expression, relational_expression, expression, lhs_expression, Rule}
use Rattle.wgsl_model.specs.Grammar.Written.{written}
use Rattle.wgsl_model_names.specs.Names.{names_in_expression, names_in_template}
use Rattle.wgsl_model_minify.specs.Occurrences.{Occurrence, occurrences}
use Rattle.wgsl_model_places.specs.Steps.{going_on}
use Rattle.wgsl_theory_grammar.proofs.Tokens.Classes.{all_pass}
use Rattle.wgsl_theory_places.proofs.Meets.Parts.{is_quiet, met_then, met_as, met_to, ready_on, settled, kind_of}
use Rattle.wgsl_theory_places.proofs.Meets.Known.{Kind, Meeting, of_node, of_nodes, of_type, of_call, of_nothing, MetBy, Known}
use Rattle.wgsl_theory_places.proofs.Meets.Ways.{Meets, on, quiet_meets, then_meets, or_meets, gives_meets, makes_meets, before_meets, means_meets, maybe_of, optional_meets, chain_meets, each_of}
use Rattle.wgsl_theory_places.proofs.Meets.Brackets.{of_name, name_meets, MeetsApart, all_in, list_in, list_meets, or_none_in, in_parentheses, in_list}

-- ---- lists and types
nodes_same : (kind : Kind) (es : List ExpressionNode) → each_of of_node kind es ≡ of_nodes kind es
nodes_same kind [] = refl
nodes_same kind (e ∷ es) = ap (λ (os : List Occurrence). of_node kind e ++ os) (nodes_same kind es)

template_same : (kind : Kind) (es : Option (List ExpressionNode))
    → maybe_of of_nodes kind es ≡ occurrences (names_in_template kind (template_of es))
template_same kind None = refl
template_same kind (Some es) = refl

pub node_meets : Meets (symbol expression) of_node
node_meets = record { meets = λ v xs ys d. d }

pub nodes_meet : MeetsApart (list SymComma (symbol expression)) of_nodes
nodes_meet = record {
  meets = λ v xs ys d σ ready apart. met_as (nodes_same (kind_of σ.item.role) v)
      ((list_meets node_meets).meets v xs ys d σ ready apart);
}

pub type_specifier_meets : Meets (written type_specifier) of_type
type_specifier_meets = gives_meets
    (then_meets name_meets (optional_meets {os = of_nodes} (record { meets = λ v xs ys d. d })))
    (λ kind v. ap (λ (os : List Occurrence). of_name kind v.0 ++ os) (template_same kind v.1))

pub template_list_meets : Meets (written template_list) of_nodes
template_list_meets = in_list (list_in nodes_meet)

pub call_meets : Meets (written call) of_call
call_meets = gives_meets (then_meets {os = of_type} {ps = of_nodes} (record { meets = λ v xs ys d. d })
    (on (record { meets = λ v xs ys d. d.0 }))) (λ kind v. refl)

pub arguments_meet : Meets (written arguments) of_nodes
arguments_meet = in_parentheses (or_none_in nodes_meet (λ kind. refl))

-- ---- operands
abbrev pub of_expression : Meeting Expression
of_expression kind e = occurrences (names_in_expression kind e)

pub literal_meets : Meets (written literal) of_nothing
literal_meets = gives_meets (quiet_meets _ refl) (λ kind v. refl)

pub primary_meets : Meets (written primary_expression) of_node
primary_meets = makes_meets {os = of_expression}
    (or_meets (gives_meets {os = of_type} (record { meets = λ v xs ys d. d }) (λ kind v. refl))
    (or_meets (gives_meets {os = of_call} (record { meets = λ v xs ys d. d }) (λ kind v. refl))
    (or_meets (gives_meets {os = of_nothing} (record { meets = λ v xs ys d. d }) (λ kind v. refl))
    (gives_meets (in_parentheses (all_in node_meets)) (λ kind v. refl)))))
    (λ kind v s. refl)

-- components after a base
components_meet : {g : Rule ExpressionNode} → Meets g of_node
    → Meets (left_chain with_component g (symbol component)) of_node
components_meet {g} G = record { meets = λ v xs ys d. go xs v ys d } where
  go : (xs : List Token) (v : ExpressionNode) (ys : List Token)
      → Chain with_component (Means checking Known g) (Means checking Known (symbol component)) xs v ys
      → MetBy of_node v xs ys
  go xs _ _ (base e ys d) σ ready = G.meets e xs ys d σ ready
  go xs _ _ (more e c ys zs d h) σ ready = met_as (sym (h.after (kind_of σ.item.role) e))
      (met_then (go xs e ys d σ ready) (met_to (settled σ) (h.met (going_on σ) (ready_on ready))))

pub singular_meets : Meets (written singular_expression) of_node
singular_meets = components_meet (record { meets = λ v xs ys d. d })

-- ---- operators
abbrev pub Operand : Type 0
Operand = BinaryOperator × ExpressionNode

abbrev pub of_operand : Meeting Operand
of_operand kind p = of_node kind p.1

operand_meets : {g : Rule BinaryOperator} {h : Rule ExpressionNode} → Meets g of_nothing → Meets h of_node
    → Meets (g then h) of_operand
operand_meets G H = record { meets = (then_meets G (on H)).meets }

operations_meet : {g : Rule ExpressionNode} {h : Rule Operand} → Meets g of_node → Meets h of_operand
    → Meets (left_chain binary_of g h) of_node
operations_meet G H = chain_meets G (on H) (λ kind v x s. refl)

abbrev pub of_operator : {A : Type 0} → Meeting A
of_operator = of_nothing

-- an operator before an operand
unary_of_meets : {g : Rule UnaryOperator} {h : Rule ExpressionNode} → Meets g of_operator → Meets h of_node
    → Meets (g then h makes unary_of) of_node
unary_of_meets G H = makes_meets (then_meets G (on H)) (λ kind v s. refl)

-- an operation
operation_meets : {x y : Rule ExpressionNode} {g : Rule BinaryOperator} → Meets x of_node → Meets g of_operator
    → Meets y of_node → Meets (x then g then y makes operation_of) of_node
operation_meets X G Y = makes_meets (then_meets X (on (then_meets G (on Y)))) (λ kind v s. refl)

two_meet : (class : ℕ) → all_pass is_quiet (class ∷ []) ≡ true → (operator : BinaryOperator) {x : Rule ExpressionNode}
    → Meets x of_node → Meets (two class operator x) of_node
two_meet class quiet operator X = operation_meets X (means_meets class quiet (λ kind. refl)) X

two_or_more_meet : (class : ℕ) → all_pass is_quiet (class ∷ []) ≡ true
    → (operator : BinaryOperator) {x : Rule ExpressionNode}
    → Meets x of_node → Meets (two_or_more class operator x) of_node
two_or_more_meet class quiet operator X = operations_meet (two_meet class quiet operator X)
    (operand_meets (means_meets class quiet (λ kind. refl)) X)

unary_known : Meets (symbol unary_expression) of_node
unary_known = record { meets = λ v xs ys d. d }

product_operator : Meets multiplicative_operator of_operator
product_operator = or_meets (means_meets SymStar refl (λ kind. refl))
    (or_meets (means_meets SymForwardSlash refl (λ kind. refl)) (means_meets SymModulo refl (λ kind. refl)))

pub unary_meets : Meets (written unary_expression) of_node
unary_meets = or_meets (record { meets = λ v xs ys d. d })
    (unary_of_meets (or_meets (means_meets SymMinus refl (λ kind. refl))
    (or_meets (means_meets SymBang refl (λ kind. refl))
    (or_meets (means_meets SymTilde refl (λ kind. refl)) (or_meets (means_meets SymStar refl (λ kind. refl))
    (means_meets SymAnd refl (λ kind. refl)))))) unary_known)

pub multiplicative_meets : Meets (written multiplicative_expression) of_node
multiplicative_meets = operations_meet unary_known (operand_meets product_operator unary_known)

pub negated_meets : Meets (written negated_expression) of_node
negated_meets = chain_meets (makes_meets (before_meets SymMinusMinus refl (on unary_known)) (λ kind v s. refl))
    (on (operand_meets product_operator unary_known)) (λ kind v x s. refl)

pub additive_meets : Meets (written additive_expression) of_node
additive_meets = operations_meet (record { meets = λ v xs ys d. d })
    (or_meets (operand_meets (or_meets (means_meets SymPlus refl (λ kind. refl))
    (means_meets SymMinus refl (λ kind. refl)))
    (record { meets = λ v xs ys d. d }))
    (gives_meets {os = of_node} (record { meets = λ v xs ys d. d }) (λ kind v. refl)))

pub shift_meets : Meets (written shift_expression) of_node
shift_meets = or_meets (record { meets = λ v xs ys d. d })
    (or_meets (two_meet SymShiftLeft refl shift_left unary_known) (two_meet SymShiftRight refl shift_right unary_known))

shift_known : Meets (symbol shift_expression) of_node
shift_known = record { meets = λ v xs ys d. d }

pub relational_meets : Meets (written relational_expression) of_node
relational_meets = or_meets shift_known (operation_meets shift_known
    (or_meets (means_meets SymLessThan refl (λ kind. refl)) (or_meets (means_meets SymGreaterThan refl (λ kind. refl))
    (or_meets (means_meets SymLessThanEqual refl (λ kind. refl))
    (or_meets (means_meets SymGreaterThanEqual refl (λ kind. refl))
    (or_meets (means_meets SymEqualEqual refl (λ kind. refl)) (means_meets SymNotEqual refl (λ kind. refl)))))))
    shift_known)

relational_known : Meets (symbol relational_expression) of_node
relational_known = record { meets = λ v xs ys d. d }

pub expression_meets : Meets (written expression) of_node
expression_meets = or_meets relational_known
    (or_meets (two_or_more_meet SymAndAnd refl short_circuit_and relational_known)
    (or_meets (two_or_more_meet SymOrOr refl short_circuit_or relational_known)
    (or_meets (two_or_more_meet SymAnd refl bitwise_and unary_known)
    (or_meets (two_or_more_meet SymOr refl bitwise_or unary_known)
    (two_or_more_meet SymXor refl bitwise_xor unary_known)))))

-- ---- left sides
lhs_known : Meets (symbol lhs_expression) of_node
lhs_known = record { meets = λ v xs ys d. d }

pub open_left_side_meets : Meets open_left_side of_node
open_left_side_meets = or_meets
    (components_meet (makes_meets {ps = of_node} name_meets (λ kind v s. sym (append-nil (of_name kind v)))))
    (or_meets (unary_of_meets (means_meets SymStar refl (λ kind. refl)) lhs_known)
    (unary_of_meets (means_meets SymAnd refl (λ kind. refl)) lhs_known))

pub parenthesized_left_side_meets : Meets parenthesized_left_side of_node
parenthesized_left_side_meets = components_meet (makes_meets (in_parentheses (all_in lhs_known)) (λ kind v s. refl))

pub lhs_meets : Meets (written lhs_expression) of_node
lhs_meets = or_meets open_left_side_meets parenthesized_left_side_meets
