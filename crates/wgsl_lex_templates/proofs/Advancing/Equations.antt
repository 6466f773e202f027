-- What is left after each rule is what its right side leaves.
use Rattle.std.proofs.Common.{◌≡◌, ℕ, cond, List, [], ◌∷◌, refl, sym, ap, ◌∙◌}
use Rattle.std.specs.Prelude.{Option, Some}
use Rattle.grammar.specs.Grammar.{Grammar.token, Grammar.sequence, Grammar.symbol}
use Rattle.grammar.specs.Notation.{◌then◌, ◌or◌, ◌gives◌}
use Rattle.wgsl_model.specs.Tokens.ClassTable.{SymAnd, SymAndAnd, SymComma, SymMinus, SymMinusMinus, SymOr, SymOrOr, SymParenRight, SymPlus, SymShiftLeft, SymShiftRight, SymXor, TemplateArgsEnd}
use Rattle.wgsl_model.specs.Trees.Operators.{BinaryOperator, BinaryOperator.subtraction}
use Rattle.wgsl_model.specs.Trees.Expressions.{ExpressionNode}
use Rattle.wgsl_model.specs.Grammar.ExpressionParts.{multiplicative_operator, additive_operator}
use Rattle.wgsl_model.specs.Grammar.Symbols.{Symbol.expression, Symbol.multiplicative_expression, Symbol.negated_expression, Symbol.relational_expression, Symbol.shift_expression, Symbol.singular_expression, Symbol.unary_expression}
use Rattle.wgsl_theory_grammar.specs.Tables.{begin_primary_expression}
use Rattle.wgsl_theory_grammar.specs.Factored.{FactoredRule, lifted, FactoredSymbol.of, FactoredSymbol.further, Further.and_rest, Further.argument_more, Further.argument_rest, Further.bitwise_and_rest, Further.bitwise_or_rest, Further.bitwise_xor_rest, Further.expression_rest, Further.factors, Further.or_rest, Further.relation_rest, Further.sum_rest, Further.summands, Further.template_items, Further.template_more, Further.template_rest}
use Rattle.wgsl_lex_templates.specs.Advancing.{advances, ◌>>=◌, if_there, is_next, take, take_any, turns, bitwise_more, bitwise_operands, relations_more, relations}
use Rattle.wgsl_lex_templates.proofs.Advancing.Rules.{additive_operators, multiplicative_operators, relational_operators, unary_operators, expression_at, expression_rest_at, relational_expression_at, relation_rest_at, shift_expression_at, sum_rest_at, summands_at, factors_at, unary_expression_at, singular_expression_at, template_items_at, template_more_at, argument_rest_at, argument_more_at}
use Rattle.wgsl_lex_templates.proofs.Advancing.Repeats.{Shortens, turns_are}
use Rattle.wgsl_lex_templates.proofs.Advancing.Walks.{walk}
use Rattle.wgsl_lex_templates.proofs.Advancing.Advances.{rule_is, shortens, none_begins}
use Rattle.wgsl_lex_templates.proofs.Advancing.Parts.{bind_alike, there_alike, bind_bind, cond_bind, take_is, choice_is, token_choice_of, choice_of, either_token, tokens, tokens_are, later_choice}

-- ---- the rules that the functions follow as they are
pub expression_is : (cs : List ℕ) → advances (of expression) cs ≡ expression_at cs
unfolding expression_at
expression_is cs = rule_is (of expression) refl refl cs

pub relational_expression_is : (cs : List ℕ) → advances (of relational_expression) cs ≡ relational_expression_at cs
unfolding relational_expression_at
relational_expression_is cs = rule_is (of relational_expression) refl refl cs

pub shift_expression_is : (cs : List ℕ) → advances (of shift_expression) cs ≡ shift_expression_at cs
unfolding shift_expression_at
shift_expression_is cs = rule_is (of shift_expression) refl refl cs

pub singular_expression_is : (cs : List ℕ) → advances (of singular_expression) cs ≡ singular_expression_at cs
unfolding singular_expression_at
singular_expression_is cs = rule_is (of singular_expression) refl refl cs

pub template_items_is : (cs : List ℕ) → advances (further template_items) cs ≡ template_items_at cs
unfolding template_items_at
template_items_is cs = rule_is (further template_items) refl refl cs

-- ---- lists
template_rest_is : (cs : List ℕ) → advances (further template_rest) cs ≡ if_there
    (take TemplateArgsEnd cs) Some (advances (of expression) cs >>= advances (further template_more))
template_rest_is cs =
    rule_is (further template_rest) refl refl cs
    ∙ token_choice_of TemplateArgsEnd cs (advances (of expression) cs >>= advances (further template_more))

pub template_more_is : (cs : List ℕ) → advances (further template_more) cs ≡ template_more_at cs
unfolding template_more_at
template_more_is cs =
    rule_is (further template_more) refl refl cs ∙ choice_of SymComma cs _ (advances (further template_rest)) _ refl
    ∙ there_alike (take SymComma cs) _ _ _ _ template_rest_is (take_is TemplateArgsEnd cs)

pub argument_rest_is : (cs : List ℕ) → advances (further argument_rest) cs ≡ argument_rest_at cs
unfolding argument_rest_at
argument_rest_is cs =
    rule_is (further argument_rest) refl refl cs
    ∙ token_choice_of SymParenRight cs (advances (of expression) cs >>= advances (further argument_more))

pub argument_more_is : (cs : List ℕ) → advances (further argument_more) cs ≡ argument_more_at cs
unfolding argument_more_at
argument_more_is cs =
    rule_is (further argument_more) refl refl cs
    ∙ choice_of SymComma cs _ (advances (further argument_rest)) _ refl
    ∙ ap (λ (x : Option (List ℕ)). if_there (take SymComma cs) (advances (further argument_rest)) x)
    (take_is SymParenRight cs)

-- ---- operators and operands
-- operators with an operand after each
operands_turn : (s : List ℕ) (f : List ℕ → Option (List ℕ)) → Shortens (λ cs. take_any s cs >>= f)
    → (cs : List ℕ)
    → turns s (λ cs. take_any s cs >>= f) cs
    ≡ if_there (take_any s cs) (λ ds. f ds >>= turns s (λ cs. take_any s cs >>= f)) (Some cs)
operands_turn s f H cs =
    turns_are s (λ cs. take_any s cs >>= f) H cs
    ∙ ap (λ (x : Option (List ℕ)). cond (is_next s cs) x (Some cs))
    (bind_bind (take_any s cs) f (turns s (λ cs. take_any s cs >>= f)))
    ∙ choice_is s cs (λ ds. f ds >>= turns s (λ cs. take_any s cs >>= f)) (Some cs)

pub bitwise_more_is : (operator : ℕ) (cs : List ℕ) → bitwise_more operator cs ≡ if_there
    (take operator cs) (λ ds. advances (of unary_expression) ds >>= bitwise_more operator) (Some cs)
unfolding bitwise_more
bitwise_more_is operator cs =
    operands_turn (operator ∷ []) (advances (of unary_expression))
    (shortens (sequence (token (operator ∷ [])) (symbol (of unary_expression))) refl refl refl) cs
    ∙ ap (λ (m : Option (List ℕ)). if_there m
    (λ ds. advances (of unary_expression) ds >>= bitwise_more operator) (Some cs)) (take_is operator cs)

pub relations_more_is : (operator : ℕ) (cs : List ℕ)
    → relations_more operator cs ≡ if_there (take operator cs)
    (λ ds. advances (of relational_expression) ds >>= relations_more operator) (Some cs)
unfolding relations_more
relations_more_is operator cs =
    operands_turn (operator ∷ []) (advances (of relational_expression))
    (shortens (sequence (token (operator ∷ [])) (symbol (of relational_expression))) refl refl refl) cs
    ∙ ap (λ (m : Option (List ℕ)). if_there m (λ ds. advances (of relational_expression) ds
    >>= relations_more operator) (Some cs)) (take_is operator cs)

bitwise_and_is : (cs : List ℕ)
    → advances (further bitwise_and_rest) cs ≡ (take_any (SymAnd ∷ []) cs >>= bitwise_operands SymAnd)
unfolding bitwise_operands bitwise_more
bitwise_and_is cs = rule_is (further bitwise_and_rest) refl refl cs
    ∙ bind_bind (take_any (SymAnd ∷ []) cs) (advances (of unary_expression)) _

bitwise_or_is : (cs : List ℕ)
    → advances (further bitwise_or_rest) cs ≡ (take_any (SymOr ∷ []) cs >>= bitwise_operands SymOr)
unfolding bitwise_operands bitwise_more
bitwise_or_is cs = rule_is (further bitwise_or_rest) refl refl cs
    ∙ bind_bind (take_any (SymOr ∷ []) cs) (advances (of unary_expression)) _

bitwise_xor_is : (cs : List ℕ)
    → advances (further bitwise_xor_rest) cs ≡ (take_any (SymXor ∷ []) cs >>= bitwise_operands SymXor)
unfolding bitwise_operands bitwise_more
bitwise_xor_is cs = rule_is (further bitwise_xor_rest) refl refl cs
    ∙ bind_bind (take_any (SymXor ∷ []) cs) (advances (of unary_expression)) _

and_is : (cs : List ℕ) → advances (further and_rest) cs ≡ (take_any (SymAndAnd ∷ []) cs >>= relations SymAndAnd)
unfolding relations relations_more
and_is cs = rule_is (further and_rest) refl refl cs
    ∙ bind_bind (take_any (SymAndAnd ∷ []) cs) (advances (of relational_expression)) _

or_is : (cs : List ℕ) → advances (further or_rest) cs ≡ (take_any (SymOrOr ∷ []) cs >>= relations SymOrOr)
unfolding relations relations_more
or_is cs = rule_is (further or_rest) refl refl cs
    ∙ bind_bind (take_any (SymOrOr ∷ []) cs) (advances (of relational_expression)) _

pub expression_rest_is : (cs : List ℕ) → advances (further expression_rest) cs ≡ expression_rest_at cs
unfolding expression_rest_at
expression_rest_is cs =
    rule_is (further expression_rest) refl refl cs
    ∙ choice_of SymAnd cs _ (bitwise_operands SymAnd) _ (bitwise_and_is cs)
    ∙ ap (if_there (take SymAnd cs) (bitwise_operands SymAnd))
    (choice_of SymOr cs _ (bitwise_operands SymOr) _ (bitwise_or_is cs)
    ∙ ap (if_there (take SymOr cs) (bitwise_operands SymOr))
    (choice_of SymXor cs _ (bitwise_operands SymXor) _ (bitwise_xor_is cs)
    ∙ ap (if_there (take SymXor cs) (bitwise_operands SymXor))
    (bind_alike (advances (further sum_rest) cs) _ _
    (λ ds. bind_alike (advances (further relation_rest) ds) _ _ short_circuit))))
  where
    short_circuit : (es : List ℕ) → cond (is_next (SymAndAnd ∷ []) es) (advances (further and_rest) es)
        (cond (is_next (SymOrOr ∷ []) es) (advances (further or_rest) es) (Some es))
        ≡ if_there (take SymAndAnd es) (relations SymAndAnd) (if_there (take SymOrOr es) (relations SymOrOr) (Some es))
    short_circuit es =
        choice_of SymAndAnd es _ (relations SymAndAnd) _ (and_is es)
        ∙ ap (if_there (take SymAndAnd es) (relations SymAndAnd))
        (choice_of SymOrOr es _ (relations SymOrOr) _ (or_is es))

pub relation_rest_is : (cs : List ℕ) → advances (further relation_rest) cs ≡ relation_rest_at cs
unfolding relation_rest_at
relation_rest_is cs =
    rule_is (further relation_rest) refl refl cs
    ∙ ap (λ (m : Option (List ℕ)). cond (is_next relational_operators cs)
    (m >>= advances (of shift_expression)) (Some cs)) (tokens_are relational_operators cs)
    ∙ choice_is relational_operators cs (advances (of shift_expression)) (Some cs)

pub sum_rest_is : (cs : List ℕ) → advances (further sum_rest) cs ≡ sum_rest_at cs
unfolding sum_rest_at
sum_rest_is cs =
    rule_is (further sum_rest) refl refl cs
    ∙ choice_of SymShiftLeft cs _ (advances (of unary_expression)) _ refl
    ∙ ap (if_there (take SymShiftLeft cs) (advances (of unary_expression)))
    (choice_of SymShiftRight cs _ (advances (of unary_expression)) _ refl)

-- ---- products and sums
abbrev factor : FactoredRule (BinaryOperator × ExpressionNode)
factor = lifted multiplicative_operator then symbol (of unary_expression)

pub factors_is : (cs : List ℕ) → advances (further factors) cs ≡ factors_at cs
unfolding factors_at
factors_is cs =
    rule_is (further factors) refl refl cs
    ∙ turns_are multiplicative_operators (walk advances factor) (shortens factor refl refl refl) cs
    ∙ ap (λ (x : Option (List ℕ)). cond (is_next multiplicative_operators cs) x (Some cs))
    (bind_bind (tokens multiplicative_operators cs) (advances (of unary_expression))
    (turns multiplicative_operators (walk advances factor))
    ∙ ap (λ (m : Option (List ℕ)). m >>= λ ds. advances (of unary_expression) ds
    >>= turns multiplicative_operators (walk advances factor)) (tokens_are multiplicative_operators cs)
    ∙ bind_alike (take_any multiplicative_operators cs) _ _ (λ ds. bind_alike
    (advances (of unary_expression) ds) _ _ (λ es. sym (rule_is (further factors) refl refl es))))
    ∙ choice_is multiplicative_operators cs
    (λ ds. advances (of unary_expression) ds >>= advances (further factors)) (Some cs)

multiplicative_is : (cs : List ℕ) → advances (of multiplicative_expression) cs
    ≡ (advances (of unary_expression) cs >>= advances (further factors))
multiplicative_is cs = rule_is (of multiplicative_expression) refl refl cs
    ∙ bind_alike (advances (of unary_expression) cs) _ _ (λ ds. sym (rule_is (further factors) refl refl ds))

negated_is : (cs : List ℕ) → advances (of negated_expression) cs ≡ (take_any (SymMinusMinus ∷ []) cs
    >>= λ ds. advances (of unary_expression) ds >>= advances (further factors))
negated_is cs =
    rule_is (of negated_expression) refl refl cs
    ∙ bind_bind (take_any (SymMinusMinus ∷ []) cs) (advances (of unary_expression)) _
    ∙ bind_alike (take_any (SymMinusMinus ∷ []) cs) _ _ (λ ds. bind_alike
    (advances (of unary_expression) ds) _ _ (λ es. sym (rule_is (further factors) refl refl es)))

abbrev summand : FactoredRule (BinaryOperator × ExpressionNode)
summand = lifted additive_operator then symbol (of multiplicative_expression)
    or symbol (of negated_expression) gives λ e. (subtraction, e)

summand_is : (cs : List ℕ) → walk advances summand cs ≡ (take_any additive_operators cs
    >>= λ ds. advances (of unary_expression) ds >>= advances (further factors))
summand_is cs =
    let plain : List ℕ = SymPlus ∷ SymMinus ∷ [] in
    let product : List ℕ → Option (List ℕ) = λ ds. advances (of unary_expression) ds >>= advances (further factors) in
    ap (λ (x : Option (List ℕ)). cond (is_next plain cs) x (advances (of negated_expression) cs))
    (ap (λ (m : Option (List ℕ)). m >>= advances (of multiplicative_expression)) (tokens_are plain cs)
    ∙ bind_alike (take_any plain cs) _ product multiplicative_is)
    ∙ ap (λ (x : Option (List ℕ)). cond (is_next plain cs) (take_any plain cs >>= product) x) (negated_is cs)
    ∙ cond_bind (is_next plain cs) (take_any plain cs) (take_any (SymMinusMinus ∷ []) cs) product
    ∙ ap (λ (m : Option (List ℕ)). m >>= product) (either_token plain (SymMinusMinus ∷ []) cs)

pub summands_is : (cs : List ℕ) → advances (further summands) cs ≡ summands_at cs
unfolding summands_at
summands_is cs =
    let product : List ℕ → Option (List ℕ) = λ ds. advances (of unary_expression) ds >>= advances (further factors) in
    rule_is (further summands) refl refl cs
    ∙ turns_are additive_operators (walk advances summand) (shortens summand refl refl refl) cs
    ∙ ap (λ (x : Option (List ℕ)). cond (is_next additive_operators cs) x (Some cs))
    (ap (λ (m : Option (List ℕ)). m >>= turns additive_operators (walk advances summand)) (summand_is cs)
    ∙ bind_bind (take_any additive_operators cs) product (turns additive_operators (walk advances summand))
    ∙ bind_alike (take_any additive_operators cs) _ _
    (λ ds. bind_bind (advances (of unary_expression) ds) (advances (further factors)) _
    ∙ bind_alike (advances (of unary_expression) ds) _ _ (λ es. bind_alike
    (advances (further factors) es) _ _ (λ us. sym (rule_is (further summands) refl refl us)))))
    ∙ choice_is additive_operators cs (λ ds. advances (of unary_expression) ds
    >>= λ es. advances (further factors) es >>= advances (further summands)) (Some cs)

-- ---- operators before an operand
pub unary_expression_is : (cs : List ℕ) → advances (of unary_expression) cs ≡ unary_expression_at cs
unfolding unary_expression_at
unary_expression_is cs =
    rule_is (of unary_expression) refl refl cs
    ∙ ap (λ (m : Option (List ℕ)). cond (is_next begin_primary_expression cs) (advances
    (of singular_expression) cs) (m >>= advances (of unary_expression))) (tokens_are unary_operators cs)
    ∙ later_choice begin_primary_expression unary_operators cs refl (advances (of unary_expression))
    (advances (of singular_expression) cs) (none_begins (of singular_expression) refl refl cs)
