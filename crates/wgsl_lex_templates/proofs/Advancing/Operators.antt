-- What is left after an operand, by the operator that follows it.
use Rattle.std.proofs.Common.{◌≡◌, ℕ, Bool, true, false, cond, eqb, List, [], ◌∷◌, ◌++◌, refl, sym, ap, ◌∙◌}
use Rattle.std.specs.Prelude.{Option, Some, None}
use Rattle.grammar.specs.Grammar.{is_among}
use Rattle.wgsl_model.specs.Tokens.ClassTable.{SymAnd, SymOr, SymShiftLeft, SymShiftRight, SymXor}
use Rattle.wgsl_model.specs.Grammar.Symbols.{Symbol.shift_expression, Symbol.unary_expression}
use Rattle.wgsl_theory_grammar.specs.Factored.{FactoredSymbol.of, FactoredSymbol.further, Further.expression_rest, Further.factors, Further.relation_rest, Further.sum_rest, Further.summands}
use Rattle.wgsl_lex_token.specs.declared.kind_table.TokenKind.{TokenKind}
use Rattle.wgsl_lex_token.specs.View.{class_of_kind}
use Rattle.wgsl_lex_templates.specs.Advancing.{advances, ◌>>=◌, if_there, take, take_any, bitwise_operands, relations, relations_more}
use Rattle.wgsl_lex_templates.specs.declared.operators.Sum.{Sum}
use Rattle.wgsl_lex_templates.specs.declared.operators.Sum.TheVariants as sums
use Rattle.wgsl_lex_templates.specs.Expressions.{after_sum, after_relation, after_chain, after_relations}
use Rattle.wgsl_lex_templates.proofs.Advancing.Rules.{additive_operators, multiplicative_operators, relational_operators, expression_rest_at, relational_expression_at, relation_rest_at, shift_expression_at, sum_rest_at, summands_at, factors_at}
use Rattle.wgsl_lex_templates.proofs.Advancing.Parts.{bind_alike, there_alike, bind_bind, take_is}
use Rattle.wgsl_lex_templates.proofs.Advancing.Equations.{expression_rest_is, relations_more_is, relational_expression_is, relation_rest_is, shift_expression_is, sum_rest_is, summands_is, factors_is}

-- ---- parts
last_part : (m : Option (List ℕ)) → m ≡ (m >>= Some)
last_part None = refl
last_part (Some cs) = refl

there_bind : (m : Option (List ℕ)) (f g : List ℕ → Option (List ℕ)) (x : Option (List ℕ))
    → (if_there m f x >>= g) ≡ if_there m (λ ds. f ds >>= g) (x >>= g)
there_bind None f g x = refl
there_bind (Some ds) f g x = refl

-- a token of one set or of another
either_there : (s r cs : List ℕ) (f : List ℕ → Option (List ℕ)) (x : Option (List ℕ))
    → if_there (take_any s cs) f (if_there (take_any r cs) f x) ≡ if_there (take_any (s ++ r) cs) f x
unfolding take_any
either_there s r [] f x = refl
either_there s r (c ∷ cs) f x = in_either s
  where
    more : (b p q z : Bool) → if_there (cond p (Some cs) None) f (if_there (cond q (Some cs) None) f x)
        ≡ if_there (cond z (Some cs) None) f x
        → if_there (cond (cond b true p) (Some cs) None) f (if_there (cond q (Some cs) None) f x)
        ≡ if_there (cond (cond b true z) (Some cs) None) f x
    more true p q z h = refl
    more false p q z h = h

    in_either : (s : List ℕ) → if_there (cond (is_among c s) (Some cs) None) f
        (if_there (cond (is_among c r) (Some cs) None) f x)
        ≡ if_there (cond (is_among c (s ++ r)) (Some cs) None) f x
    in_either [] = refl
    in_either (d ∷ s) = more (eqb c d) (is_among c s) (is_among c r) (is_among c (s ++ r)) (in_either s)

-- ---- sums and shifts
abbrev pub arithmetic_operators : List ℕ
arithmetic_operators = multiplicative_operators ++ additive_operators

abbrev pub shift_operators : List ℕ
shift_operators = SymShiftLeft ∷ SymShiftRight ∷ []

pub further_is : (cs : List ℕ) → after_sum sums.Further cs
    ≡ if_there (take_any arithmetic_operators cs)
    (λ ds. advances (of unary_expression) ds >>= after_sum sums.Further) (Some cs)
unfolding factors_at summands_at
further_is cs =
    let operand : List ℕ → Option (List ℕ) =
    λ ds. advances (of unary_expression) ds >>= after_sum sums.Further in
    ap (λ (m : Option (List ℕ)). m >>= advances (further summands)) (factors_is cs)
    ∙ there_bind (take_any multiplicative_operators cs)
    (λ ds. advances (of unary_expression) ds >>= advances (further factors)) (advances (further summands)) (Some cs)
    ∙ there_alike (take_any multiplicative_operators cs) _ operand _ _
    (λ ds. bind_bind (advances (of unary_expression) ds) (advances (further factors)) (advances (further summands)))
    (summands_is cs)
    ∙ either_there multiplicative_operators additive_operators cs operand (Some cs)

pub first_is : (cs : List ℕ) → after_sum sums.First cs
    ≡ if_there (take_any shift_operators cs)
    (λ ds. advances (of unary_expression) ds >>= after_sum sums.Shifted) (after_sum sums.Further cs)
unfolding sum_rest_at
first_is cs =
    sum_rest_is cs
    ∙ ap (λ (m : Option (List ℕ)). if_there m (advances (of unary_expression))
    (if_there (take SymShiftRight cs) (advances (of unary_expression)) (after_sum sums.Further cs)))
    (sym (take_is SymShiftLeft cs))
    ∙ ap (λ (m : Option (List ℕ)). if_there (take_any (SymShiftLeft ∷ []) cs) (advances (of unary_expression))
    (if_there m (advances (of unary_expression)) (after_sum sums.Further cs)))
    (sym (take_is SymShiftRight cs))
    ∙ either_there (SymShiftLeft ∷ []) (SymShiftRight ∷ []) cs
    (advances (of unary_expression)) (after_sum sums.Further cs)
    ∙ there_alike (take_any shift_operators cs) _ _ _ _
    (λ ds. last_part (advances (of unary_expression) ds)) refl

-- ---- relations
pub relation_is : (cs : List ℕ) → after_relation false cs
    ≡ if_there (take_any relational_operators cs) (advances (of shift_expression)) (Some cs)
unfolding relation_rest_at
relation_is = relation_rest_is

pub chain_is : (operator : TokenKind) (cs : List ℕ) → after_chain (Some operator) cs
    ≡ if_there (take (class_of_kind operator) cs) (relations (class_of_kind operator)) (Some cs)
unfolding relations
chain_is operator = relations_more_is (class_of_kind operator)

-- what follows a sum
abbrev following : Option TokenKind → Bool → List ℕ → Option (List ℕ)
following chain compared cs = after_relation compared cs >>= after_chain chain

-- an operator of the sum is next
pub in_sum : (chain : Option TokenKind) (compared : Bool) (sum next : Sum) (cs ds : List ℕ)
    → after_sum sum cs ≡ (advances (of unary_expression) ds >>= after_sum next)
    → after_relations chain compared sum cs
    ≡ (advances (of unary_expression) ds >>= after_relations chain compared next)
in_sum chain compared sum next cs ds e =
    ap (λ (m : Option (List ℕ)). m >>= following chain compared) e
    ∙ bind_bind (advances (of unary_expression) ds) (after_sum next) (following chain compared)

-- a comparison is
pub in_relation : (chain : Option TokenKind) (compared : Bool) (sum : Sum) (cs ds : List ℕ)
    → after_sum sum cs ≡ Some cs → after_relation compared cs ≡ advances (of shift_expression) ds
    → after_relations chain compared sum cs
    ≡ (advances (of unary_expression) ds >>= after_relations chain true sums.First)
unfolding shift_expression_at
in_relation chain compared sum cs ds e f =
    ap (λ (m : Option (List ℕ)). m >>= following chain compared) e
    ∙ ap (λ (m : Option (List ℕ)). m >>= after_chain chain) (f ∙ shift_expression_is ds)
    ∙ bind_bind (advances (of unary_expression) ds) (advances (further sum_rest)) (after_chain chain)

-- neither is
pub past_relation : (chain : Option TokenKind) (compared : Bool) (sum : Sum) (cs : List ℕ)
    → after_sum sum cs ≡ Some cs → after_relation compared cs ≡ Some cs
    → after_relations chain compared sum cs ≡ after_chain chain cs
past_relation chain compared sum cs e f = ap (λ (m : Option (List ℕ)). m >>= following chain compared) e
    ∙ ap (λ (m : Option (List ℕ)). m >>= after_chain chain) f

-- another relation
pub relation_begins : (operator : TokenKind) (ds : List ℕ) → relations (class_of_kind operator) ds
    ≡ (advances (of unary_expression) ds >>= after_relations (Some operator) false sums.First)
unfolding relations relational_expression_at shift_expression_at
relation_begins operator ds =
    let more : List ℕ → Option (List ℕ) = relations_more (class_of_kind operator) in
    ap (λ (m : Option (List ℕ)). m >>= more) (relational_expression_is ds
    ∙ ap (λ (m : Option (List ℕ)). m >>= advances (further relation_rest)) (shift_expression_is ds)
    ∙ bind_bind (advances (of unary_expression) ds) (advances (further sum_rest)) (advances (further relation_rest)))
    ∙ bind_bind (advances (of unary_expression) ds)
    (λ es. advances (further sum_rest) es >>= advances (further relation_rest)) more
    ∙ bind_alike (advances (of unary_expression) ds) _ _
    (λ es. bind_bind (advances (further sum_rest) es) (advances (further relation_rest)) more)

-- ---- operators of all kinds
pub expression_rest_opened : (cs : List ℕ) → advances (further expression_rest) cs
    ≡ if_there (take SymAnd cs) (bitwise_operands SymAnd)
    (if_there (take SymOr cs) (bitwise_operands SymOr)
    (if_there (take SymXor cs) (bitwise_operands SymXor) (after_relations None false sums.First cs)))
unfolding expression_rest_at
expression_rest_opened cs = expression_rest_is cs
