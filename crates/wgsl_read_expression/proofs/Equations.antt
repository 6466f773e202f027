-- What the parts of expressions read, turn by turn.
use Rattle.std.proofs.Common.{◌≡◌, ℕ, true, false, cond, List, [], ◌∷◌, ◌++◌, refl, sym, ap, ap₂, ◌∙◌, append-nil}
use Rattle.grammar.specs.Tokens.{Token, Span}
use Rattle.grammar.specs.Grammar.{Grammar.symbol}
use Rattle.grammar.specs.Notation.{◌means◌, ◌or◌, ◌then◌, ◌gives◌, ◌makes◌}
use Rattle.grammar.specs.States.{State, Read, Read.done, Read.stop, ◌>>=◌, refused, is_at, is_any, next_start, span_from, take, turns, go}
use Rattle.grammar.proofs.Reading.Beginnings.{cond_no}
use Rattle.grammar.proofs.States.{Shortens, turns_are, shortens}
use Rattle.grammar.proofs.Lists.{separated, after_none}
use Rattle.grammar.proofs.Binding.{bind_associates, bind_alike, bind_cond, pair_goes_on}
use Rattle.wgsl_model.specs.Tokens.ClassTable.{SymAnd, SymAndAnd, SymBang, SymBracketLeft, SymComma, SymMinus, SymMinusMinus, SymOr, SymOrOr, SymParenLeft, SymParenRight, SymPeriod, SymPlus, SymShiftLeft, SymShiftRight, SymStar, SymTilde, SymXor, KwTrue, KwFalse, Ident, ReservedWord, AbstractInt, I32, U32, AbstractFloat, F32, F16, TemplateArgsEnd}
use Rattle.wgsl_model.specs.Trees.Operators.{BinaryOperator, BinaryOperator.subtraction, BinaryOperator.short_circuit_or, BinaryOperator.short_circuit_and, BinaryOperator.bitwise_or, BinaryOperator.bitwise_and, BinaryOperator.bitwise_xor, BinaryOperator.shift_left, BinaryOperator.shift_right}
use Rattle.wgsl_model.specs.Trees.Expressions as tree
use Rattle.wgsl_model.specs.Trees.Expressions.{ExpressionNode, Expression}
use Rattle.wgsl_model.specs.Grammar.ExpressionParts.{placed_expression, binary_of, negation_of, multiplicative_operator, additive_operator}
use Rattle.wgsl_model.specs.Grammar.Symbols.{Symbol.literal, Symbol.primary_expression, Symbol.singular_expression, Symbol.component, Symbol.unary_expression, Symbol.multiplicative_expression, Symbol.negated_expression, Symbol.shift_expression, Symbol.relational_expression, Symbol.expression}
use Rattle.wgsl_theory_grammar.specs.Factored.{FactoredRule, FactoredSymbol.of, FactoredSymbol.further, Growth, Further.template_items, Further.template_rest, Further.template_more, Further.argument_rest, Further.argument_more, Further.components, Further.factors, Further.summands, Further.sum_rest, Further.relation_rest, Further.and_rest, Further.or_rest, Further.bitwise_and_rest, Further.bitwise_or_rest, Further.bitwise_xor_rest, Further.expression_rest, lifted, body, with_operand, grown_by_component}
use Rattle.wgsl_theory_grammar.specs.Factored.{grown as joined_after}
use Rattle.wgsl_theory_grammar.specs.Tables.{rank_limit, tables, begin_primary_expression}
use Rattle.wgsl_theory_grammar.specs.Reader.{reader}
use Rattle.wgsl_theory_grammar.proofs.Passes.{passes}
use Rattle.wgsl_theory_grammar.proofs.Reader.{step}
use Rattle.wgsl_read_expression.specs.Rules.{binary_operators, unary_operators, multiplicative_operators, relational_operators, call_or_type_at, parenthesized_expression_at, primary_at, component_after, unary_operator_at, multiplicative_operator_at, additive_operator_at, relational_operator_at, factors_after, products_from, summand_at, summands_after, sum_after, relation_after, bitwise_after, logical_after, logical_at, expression_after}
use Rattle.wgsl_read_expression.proofs.Turns.{template_items_from, template_items_turn, arguments_from, arguments_turn, placed_primary_at, components_after, components_turn, singular_at, unary_at, factors_turn, products_turn, product_at, negated_product_at, summands_turn, sum_turn, shift_at, relation_turn, relational_at, bitwise_turn, logical_turn, expression_turn, whole_expression_at}
use Rattle.wgsl_read_expression.proofs.Binding.{cond_alike}
use Rattle.wgsl_read_expression.proofs.Lists.{one_and_more}
use Rattle.wgsl_read_expression.proofs.Choices.{none_at, tested_first, refuses, not_taken}
use Rattle.wgsl_read_expression.proofs.Growing.{applied, grows_by_turns, grown_pair, grown_twice, grown_once, grows_once_or_more, turns_alike}

-- ---- lists
pub template_items_is : (s : State) → reader (further template_items) s ≡ template_items_from [] s
unfolding template_items_from
template_items_is s = after_none (reader (further template_items) s)

template_rest_is : (es : List ExpressionNode) (s : State)
    → (reader (further template_rest) s >>= λ more s'. done (es ++ more) s')
    ≡ cond (is_at TemplateArgsEnd s) (take TemplateArgsEnd s >>= λ t s'. done es s') (template_items_from es s)
unfolding template_items_from
template_rest_is es s =
    ap (λ m. m >>= following) (step (further template_rest) s) ∙ bind_cond (is_at TemplateArgsEnd s) _ _ following
    ∙ ap₂ (cond (is_at TemplateArgsEnd s))
    (bind_associates (take TemplateArgsEnd s) _ following
    ∙ bind_alike (take TemplateArgsEnd s) _ _ (λ t s' is. ap (λ x. done x s') (append-nil es)))
    (ap (λ m. m >>= following) (sym (step (further template_items) s)))
  where
    following : List ExpressionNode → State → Read (List ExpressionNode)
    following more s = done (es ++ more) s

pub template_items_are : (es : List ExpressionNode) (s : State) → template_items_from es s ≡ template_items_turn es s
unfolding template_items_from template_items_turn
template_items_are es s =
    one_and_more (reader (further template_items)) (reader (further template_rest))
    (reader (further template_more)) (reader (of expression)) SymComma TemplateArgsEnd
    (step (further template_items)) (step (further template_more)) es s
    ∙ bind_alike (reader (of expression) s) _ _ (λ e s' is.
    ap (λ (m : Read (List ExpressionNode)). cond (is_at SymComma s') m
    (take TemplateArgsEnd s' >>= λ t s''. done (es ++ e ∷ []) s''))
    (bind_alike (take SymComma s') _ _ (λ t s'' is. template_rest_is (es ++ e ∷ []) s'')))

pub argument_rest_is : (s : State) → reader (further argument_rest) s ≡ arguments_from [] s
unfolding arguments_from
argument_rest_is s = after_none (reader (further argument_rest) s)

pub arguments_are : (es : List ExpressionNode) (s : State) → arguments_from es s ≡ arguments_turn es s
unfolding arguments_from arguments_turn
arguments_are es s =
    separated (reader (further argument_rest)) (reader (further argument_more)) (reader (of expression))
    SymComma SymParenRight (step (further argument_rest)) (step (further argument_more)) es s

-- ---- primary expressions
literals : List ℕ
literals = KwFalse ∷ KwTrue ∷ AbstractInt ∷ I32 ∷ U32 ∷ AbstractFloat ∷ F32 ∷ F16 ∷ []

no_literal : (s : State) → is_any literals s ≡ false → reader (of literal) s ≡ refused s
unfolding literals
no_literal s e =
    step (of literal) s ∙ refuses s _ _ (cond_no _ _ _ (none_at (KwTrue ∷ KwFalse ∷ AbstractInt
    ∷ I32 ∷ U32 ∷ AbstractFloat ∷ F32 ∷ F16 ∷ []) literals refl s e))

no_parenthesis : (s : State) → is_at SymParenLeft s ≡ false → parenthesized_expression_at s ≡ refused s
unfolding parenthesized_expression_at
no_parenthesis s e = refuses s _ _ (refuses s _ _ (refuses s _ _ (not_taken SymParenLeft s e)))

pub primary_expression_is : (s : State) → reader (of primary_expression) s ≡ placed_primary_at s
unfolding placed_primary_at primary_at call_or_type_at parenthesized_expression_at literals
primary_expression_is s =
    step (of primary_expression) s
    ∙ ap (λ (m : Read Expression). cond (is_any (Ident ∷ ReservedWord ∷ []) s) (call_or_type_at s) m
    >>= λ e s'. done (placed_expression e (span_from (next_start s) s')) s')
    (tested_first literals (SymParenLeft ∷ []) refl s _ _
    (λ n m. refuses s _ _ (no_literal s n) ∙ sym (no_parenthesis s m)))

-- ---- components
abbrev component_step : ExpressionNode → (ExpressionNode → Expression) × ℕ → ExpressionNode
component_step e c = placed_expression (c.0 e) (record { start = tree.start_of e; end = c.1 })

component_item : FactoredRule ((ExpressionNode → Expression) × ℕ)
component_item = symbol (of component) makes λ (c : ExpressionNode → Expression) (span : Span). (c, span.end)

component_placed : (e : ExpressionNode) (m : Read (ExpressionNode → Expression))
    (f : ExpressionNode → State → Read ExpressionNode)
    → ((m >>= λ c s'. done (c, s'.end) s') >>= λ c s'. f (component_step e c) s')
    ≡ ((m >>= λ c s'. done (placed_expression (c e) (record { start = tree.start_of e; end = s'.end })) s') >>= f)
component_placed e (done c s) f = refl
component_placed e (stop x) f = refl

pub components_are : (e : ExpressionNode) (s : State) → components_after e s ≡ components_turn e s
unfolding components_after components_turn component_after reader component_item
components_are e s =
    grows_by_turns grown_by_component component_step (λ g c span e. refl) _ _ (shortens tables body rank_limit
    passes component_item refl refl refl) (reader (further components)) (step (further components)) e s
    ∙ ap (λ (m : Read ExpressionNode). cond (is_any (SymBracketLeft ∷ SymPeriod ∷ []) s) m (done e s))
    (component_placed e (reader (of component) s) components_after)

pub singular_expression_is : (s : State) → reader (of singular_expression) s ≡ singular_at s
unfolding singular_at components_after
singular_expression_is s = step (of singular_expression) s
    ∙ grown_pair (reader (of primary_expression) s) (reader (further components))

-- ---- operators
no_primary : (s : State) → is_any begin_primary_expression s ≡ false → reader (of singular_expression) s ≡ refused s
unfolding placed_primary_at primary_at literals
no_primary s e =
    step (of singular_expression) s ∙ refuses s _ _ (refuses s _ _ (primary_expression_is s ∙ no_placed))
  where
    no_placed : placed_primary_at s ≡ refused s
    no_placed = refuses s _ _
        (cond_no _ _ _ (none_at (Ident ∷ ReservedWord ∷ []) begin_primary_expression refl s e)
        ∙ cond_no _ _ _ (none_at (SymParenLeft ∷ []) begin_primary_expression refl s e)
        ∙ refuses s _ _ (no_literal s (none_at literals begin_primary_expression refl s e)))

no_unary_operator : (s : State) → is_any unary_operators s ≡ false → unary_operator_at s ≡ refused s
unfolding unary_operator_at
no_unary_operator s e =
    cond_no _ _ _ (none_at (SymMinus ∷ []) unary_operators refl s e)
    ∙ cond_no _ _ _ (none_at (SymBang ∷ []) unary_operators refl s e)
    ∙ cond_no _ _ _ (none_at (SymTilde ∷ []) unary_operators refl s e)
    ∙ cond_no _ _ _ (none_at (SymStar ∷ []) unary_operators refl s e)
    ∙ refuses s _ _ (not_taken SymAnd s (none_at (SymAnd ∷ []) unary_operators refl s e))

pub unary_expression_is : (s : State) → reader (of unary_expression) s ≡ unary_at s
unfolding unary_at unary_operator_at
unary_expression_is s =
    step (of unary_expression) s
    ∙ tested_first begin_primary_expression unary_operators refl s _ _
    (λ n m. no_primary s n ∙ sym (refuses s _ _ (refuses s _ _ (no_unary_operator s m))))
    ∙ ap (λ (m : Read ExpressionNode). cond (is_any unary_operators s) m (reader (of singular_expression) s))
    (pair_goes_on (unary_operator_at s) (reader (of unary_expression)) _)

-- ---- products and sums
factor_item : FactoredRule (BinaryOperator × ExpressionNode)
factor_item = lifted multiplicative_operator then symbol (of unary_expression)

pub factors_are : (e : ExpressionNode) (s : State) → factors_after e s ≡ factors_turn e s
unfolding factors_after factors_turn multiplicative_operator_at reader factor_item
factors_are e s =
    grows_by_turns joined_after (λ e p. with_operand p e) (λ g p span e. refl) _ _ (shortens tables body
    rank_limit passes factor_item refl refl refl) (reader (further factors)) (step (further factors)) e s
    ∙ ap (λ (m : Read ExpressionNode). cond (is_any multiplicative_operators s) m (done e s))
    (pair_goes_on (multiplicative_operator_at s) (reader (of unary_expression))
    (λ p s'. factors_after (with_operand p e) s'))

pub products_are : (start : ℕ) (e : ExpressionNode) (s : State) → products_from start e s ≡ products_turn start e s
unfolding products_from products_turn multiplicative_operator_at reader factor_item
products_are start e s =
    turns_are _ _ _ (shortens tables body rank_limit passes factor_item refl refl refl) 0 e s
    ∙ ap (λ (m : Read ExpressionNode). cond (is_any multiplicative_operators s) m (done e s))
    (pair_goes_on (multiplicative_operator_at s) (reader (of unary_expression))
    (λ p s'. products_from start (binary_of e p (span_from start s')) s'))

pub multiplicative_expression_is : (s : State) → reader (of multiplicative_expression) s ≡ product_at s
unfolding product_at products_from
multiplicative_expression_is s =
    step (of multiplicative_expression) s
    ∙ bind_alike (reader (of unary_expression) s) _ _
    (λ e s' is. turns_alike _ _ _ _ (next_start s) 0 (λ a p s''. refl) e s')

-- the second minus of `--` and what is made of its operand
negated : (start : ℕ) (m : Read Token) (f f' : ExpressionNode → State → Read ExpressionNode)
    → ((e : ExpressionNode) (s : State) → f (negation_of e (span_from start s)) s ≡ f' e s)
    → ((((m >>= λ t s'. reader (of unary_expression) s' >>= λ e s''. done (t, e) s'')
    >>= λ (p : Token × ExpressionNode) s'. done p.1 s') >>= λ e s'. done (negation_of e (span_from start s')) s') >>= f)
    ≡ (m >>= λ t s'. reader (of unary_expression) s' >>= f')
negated start m f f' h =
    bind_associates ((m >>= λ t s'. reader (of unary_expression) s' >>= λ e s''. done (t, e) s'')
    >>= λ (p : Token × ExpressionNode) s'. done p.1 s') _ f
    ∙ bind_associates (m >>= λ t s'. reader (of unary_expression) s' >>= λ e s''. done (t, e) s'') _ _
    ∙ pair_goes_on m (reader (of unary_expression)) _
    ∙ bind_alike m _ _ (λ t s' is. bind_alike (reader (of unary_expression) s') _ f' (λ e s'' is'. h e s''))

pub negated_expression_is : (s : State) → reader (of negated_expression) s ≡ negated_product_at s
unfolding negated_product_at products_from
negated_expression_is s =
    step (of negated_expression) s
    ∙ negated (next_start s) (take SymMinusMinus s) _ _ (λ e s'. turns_alike _ _ _ _
    (next_start s) 0 (λ a p s''. refl) (negation_of e (span_from (next_start s) s')) s')

summand_item : FactoredRule (BinaryOperator × ExpressionNode)
summand_item = lifted additive_operator then symbol (of multiplicative_expression)
    or symbol (of negated_expression) gives λ (e : ExpressionNode). (subtraction, e)

pub summands_are : (e : ExpressionNode) (s : State) → summands_after e s ≡ summands_turn e s
unfolding summands_after summands_turn summand_at additive_operator_at reader summand_item
summands_are e s =
    grows_by_turns joined_after (λ e p. with_operand p e) (λ g p span e. refl) _ _
    (shortens tables body rank_limit passes summand_item refl refl refl) (reader (further summands))
    (step (further summands)) e s

-- ---- shifts and comparisons
shifted : (class : ℕ) (operator : BinaryOperator) (e : ExpressionNode) (s : State)
    → ((((take class s >>= λ t s'. done operator s') >>= λ op s'. reader (of unary_expression) s'
    >>= λ right s''. done (op, right) s'') >>= λ p s'. done (with_operand p) s') >>= applied e)
    ≡ (take class s >>= λ t s'. reader (of unary_expression) s'
    >>= λ right s''. done (with_operand (operator, right) e) s'')
shifted class operator e s =
    grown_once e (take class s >>= λ t s'. done operator s') (reader (of unary_expression))
    ∙ bind_associates (take class s) _ _

pub sum_is : (e : ExpressionNode) (s : State) → sum_after e s ≡ sum_turn e s
unfolding sum_after sum_turn factors_after summands_after
sum_is e s =
    ap (λ m. m >>= applied e) (step (further sum_rest) s) ∙ bind_cond (is_at SymShiftLeft s) _ _ (applied e)
    ∙ ap₂ (cond (is_at SymShiftLeft s)) (shifted SymShiftLeft shift_left e s)
    (bind_cond (is_at SymShiftRight s) _ _ (applied e)
    ∙ ap₂ (cond (is_at SymShiftRight s)) (shifted SymShiftRight shift_right e s)
    (grown_twice e (reader (further factors) s) (reader (further summands))))

pub shift_expression_is : (s : State) → reader (of shift_expression) s ≡ shift_at s
unfolding shift_at sum_after
shift_expression_is s = step (of shift_expression) s
    ∙ grown_pair (reader (of unary_expression) s) (reader (further sum_rest))

pub relation_is : (e : ExpressionNode) (s : State) → relation_after e s ≡ relation_turn e s
unfolding relation_after relation_turn relational_operator_at
relation_is e s =
    ap (λ m. m >>= applied e) (step (further relation_rest) s)
    ∙ bind_cond (is_any relational_operators s) _ (done (λ e. e) s) (applied e)
    ∙ ap (λ (m : Read ExpressionNode). cond (is_any relational_operators s) m (done e s))
    (grown_once e (relational_operator_at s) (reader (of shift_expression)))

pub relational_expression_is : (s : State) → reader (of relational_expression) s ≡ relational_at s
unfolding relational_at relation_after
relational_expression_is s = step (of relational_expression) s
    ∙ grown_pair (reader (of shift_expression) s) (reader (further relation_rest))

-- ---- expressions
bitwise_item : ℕ → BinaryOperator → FactoredRule (BinaryOperator × ExpressionNode)
bitwise_item class operator = class means operator then symbol (of unary_expression)

bitwise_shortens : (class : ℕ) (operator : BinaryOperator)
    → Shortens (go tables reader (class means operator then symbol (of unary_expression)))
unfolding reader bitwise_item
bitwise_shortens class operator = shortens tables body rank_limit passes (bitwise_item class operator) refl refl refl

pub bitwise_are : (class : ℕ) (operator : BinaryOperator) (e : ExpressionNode) (s : State)
    → bitwise_after class operator e s ≡ bitwise_turn class operator e s
unfolding bitwise_after bitwise_turn
bitwise_are class operator e s =
    turns_are _ _ _ (bitwise_shortens class operator) 0 e s
    ∙ ap (λ (m : Read ExpressionNode). cond (is_at class s) m (done e s))
    (pair_goes_on (take class s >>= λ t s'. done operator s') (reader (of unary_expression))
    (λ p s'. bitwise_after class operator (with_operand p e) s') ∙ bind_associates (take class s) _ _)

logical_item : ℕ → BinaryOperator → FactoredRule (BinaryOperator × ExpressionNode)
logical_item class operator = class means operator then symbol (of relational_expression)

logical_shortens : (class : ℕ) (operator : BinaryOperator)
    → Shortens (go tables reader (class means operator then symbol (of relational_expression)))
unfolding reader logical_item
logical_shortens class operator = shortens tables body rank_limit passes (logical_item class operator) refl refl refl

pub logical_are : (class : ℕ) (operator : BinaryOperator) (e : ExpressionNode) (s : State)
    → logical_after class operator e s ≡ logical_turn class operator e s
unfolding logical_after logical_turn
logical_are class operator e s =
    turns_are _ _ _ (logical_shortens class operator) 0 e s
    ∙ ap (λ (m : Read ExpressionNode). cond (is_at class s) m (done e s))
    (pair_goes_on (take class s >>= λ t s'. done operator s') (reader (of relational_expression))
    (λ p s'. logical_after class operator (with_operand p e) s') ∙ bind_associates (take class s) _ _)

-- `&&` or `||` and their operands, or none
logical_growth : State → Read Growth
logical_growth s = cond (is_at SymAndAnd s) (reader (further and_rest) s)
    (cond (is_at SymOrOr s) (reader (further or_rest) s) (done (λ e. e) s))

logical_is : (e : ExpressionNode) (s : State) → (logical_growth s >>= applied e) ≡ logical_at e s
unfolding logical_growth logical_at logical_after
logical_is e s =
    bind_cond (is_at SymAndAnd s) _ _ (applied e)
    ∙ cond_alike (is_at SymAndAnd s) _ _ _ _ (λ at. ap (λ m. m >>= applied e) (step (further and_rest) s)
    ∙ grows_once_or_more SymAndAnd _ (logical_shortens SymAndAnd short_circuit_and) e s at)
    (λ other. bind_cond (is_at SymOrOr s) _ _ (applied e)
    ∙ cond_alike (is_at SymOrOr s) _ _ _ _ (λ at. ap (λ m. m >>= applied e) (step (further or_rest) s)
    ∙ grows_once_or_more SymOrOr _ (logical_shortens SymOrOr short_circuit_or) e s at) (λ none. refl))

bitwise_is : (class : ℕ) (operator : BinaryOperator) (growth : State → Read Growth)
    → ((s : State) → growth s ≡ ((go tables reader (class means operator then symbol (of unary_expression)) s
    >>= λ p s'. done (with_operand p) s') >>= λ g s'. turns joined_after (class ∷ [])
    (go tables reader (class means operator then symbol (of unary_expression))) (next_start s) g s'))
    → (e : ExpressionNode) (s : State) → is_at class s ≡ true
    → (growth s >>= applied e) ≡ bitwise_after class operator e s
unfolding bitwise_after
bitwise_is class operator growth k e s at = ap (λ m. m >>= applied e) (k s)
    ∙ grows_once_or_more class _ (bitwise_shortens class operator) e s at

-- a sum, a comparison, and what follows them
relational_is : (e : ExpressionNode) (s : State)
    → (((reader (further sum_rest) s >>= λ f s'. (reader (further relation_rest) s'
    >>= λ g s''. logical_growth s'' >>= λ h s'''. done (g, h) s''') >>= λ gh s'. done (f, gh) s')
    >>= λ (p : Growth × (Growth × Growth)) s'. done (λ e. p.1.1 (p.1.0 (p.0 e))) s') >>= applied e)
    ≡ (sum_after e s >>= λ e s'. relation_after e s' >>= logical_at)
unfolding sum_after relation_after
relational_is e s =
    bind_associates (reader (further sum_rest) s >>= λ f s'. (reader (further relation_rest) s'
    >>= λ g s''. logical_growth s'' >>= λ h s'''. done (g, h) s''') >>= λ gh s'. done (f, gh) s') _ (applied e)
    ∙ pair_goes_on (reader (further sum_rest) s) (λ s'. reader (further relation_rest) s'
    >>= λ g s''. logical_growth s'' >>= λ h s'''. done (g, h) s''') _
    ∙ bind_alike (reader (further sum_rest) s) _ _ (λ f s' is.
    pair_goes_on (reader (further relation_rest) s') logical_growth _
    ∙ bind_alike (reader (further relation_rest) s') _ _ (λ g s'' is. logical_is (g (f e)) s'')
    ∙ sym (bind_associates (reader (further relation_rest) s') (applied (f e)) logical_at))
    ∙ sym (bind_associates (reader (further sum_rest) s) (applied e) _)

pub expression_after_is : (e : ExpressionNode) (s : State) → expression_after e s ≡ expression_turn e s
unfolding expression_after expression_turn logical_growth
expression_after_is e s =
    ap (λ m. m >>= applied e) (step (further expression_rest) s)
    ∙ bind_cond (is_at SymAnd s) _ _ (applied e)
    ∙ cond_alike (is_at SymAnd s) _ _ _ _ (bitwise_is SymAnd bitwise_and
    (reader (further bitwise_and_rest)) (step (further bitwise_and_rest)) e s)
    (λ not_and. bind_cond (is_at SymOr s) _ _ (applied e)
    ∙ cond_alike (is_at SymOr s) _ _ _ _ (bitwise_is SymOr bitwise_or
    (reader (further bitwise_or_rest)) (step (further bitwise_or_rest)) e s)
    (λ not_or. bind_cond (is_at SymXor s) _ _ (applied e)
    ∙ cond_alike (is_at SymXor s) _ _ _ _ (bitwise_is SymXor bitwise_xor
    (reader (further bitwise_xor_rest)) (step (further bitwise_xor_rest)) e s)
    (λ not_xor. relational_is e s)))

-- where no operator is next, an operand is the whole expression
pub operand_alone : (e : ExpressionNode) (s : State) → is_any binary_operators s ≡ false
    → expression_after e s ≡ done e s
unfolding expression_turn sum_turn factors_turn summands_turn relation_turn logical_at
operand_alone e s none =
    expression_after_is e s
    ∙ cond_no (is_at SymAnd s) _ _ (none_at (SymAnd ∷ []) binary_operators refl s none)
    ∙ cond_no (is_at SymOr s) _ _ (none_at (SymOr ∷ []) binary_operators refl s none)
    ∙ cond_no (is_at SymXor s) _ _ (none_at (SymXor ∷ []) binary_operators refl s none)
    ∙ ap (λ m. m >>= λ e s'. relation_after e s' >>= logical_at) alone_in_sum
    ∙ ap (λ m. m >>= logical_at) (relation_is e s ∙ cond_no (is_any relational_operators s) _ _
    (none_at relational_operators binary_operators refl s none))
    ∙ cond_no (is_at SymAndAnd s) _ _ (none_at (SymAndAnd ∷ []) binary_operators refl s none)
    ∙ cond_no (is_at SymOrOr s) _ _ (none_at (SymOrOr ∷ []) binary_operators refl s none)
  where
    alone_in_sum : sum_after e s ≡ done e s
    alone_in_sum =
        sum_is e s
        ∙ cond_no (is_at SymShiftLeft s) _ _ (none_at (SymShiftLeft ∷ []) binary_operators refl s none)
        ∙ cond_no (is_at SymShiftRight s) _ _ (none_at (SymShiftRight ∷ []) binary_operators refl s none)
        ∙ ap (λ m. m >>= summands_after) (factors_are e s ∙ cond_no (is_any multiplicative_operators s)
        _ _ (none_at multiplicative_operators binary_operators refl s none))
        ∙ summands_are e s ∙ cond_no (is_any (SymPlus ∷ SymMinus ∷ SymMinusMinus ∷ []) s) _ _
        (none_at (SymPlus ∷ SymMinus ∷ SymMinusMinus ∷ []) binary_operators refl s none)

pub expression_is : (s : State) → reader (of expression) s ≡ whole_expression_at s
unfolding whole_expression_at expression_after
expression_is s = step (of expression) s
    ∙ grown_pair (reader (of unary_expression) s) (reader (further expression_rest))
