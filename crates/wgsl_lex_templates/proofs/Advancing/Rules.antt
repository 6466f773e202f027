-- What is left after each rule of expressions, as the functions go on: each a word of its own,
-- which no computation opens.
use Rattle.std.proofs.Common.{ℕ, Bool, true, false, ◌||◌, List, [], ◌∷◌}
use Rattle.std.specs.Prelude.{Option, Some, None}
use Rattle.wgsl_model.specs.Tokens.ClassTable.{SymAnd, SymAndAnd, SymBang, SymBracketLeft, SymBracketRight, SymComma, SymEqualEqual, SymForwardSlash, SymGreaterThan, SymGreaterThanEqual, SymLessThan, SymLessThanEqual, SymMinus, SymMinusMinus, SymModulo, SymNotEqual, SymOr, SymOrOr, SymParenLeft, SymParenRight, SymPeriod, SymPlus, SymShiftLeft, SymShiftRight, SymStar, SymTilde, SymXor, KwFalse, KwTrue, Ident, AbstractInt, I32, U32, AbstractFloat, F32, F16, TemplateArgsEnd}
use Rattle.wgsl_model.specs.Grammar.Symbols.{Symbol.expressions, Symbol.expression, Symbol.primary_expression, Symbol.shift_expression, Symbol.singular_expression, Symbol.unary_expression}
use Rattle.wgsl_theory_grammar.specs.Factored.{FactoredSymbol.of, FactoredSymbol.further, Further.argument_more, Further.argument_rest, Further.components, Further.expression_rest, Further.factors, Further.relation_rest, Further.sum_rest, Further.summands, Further.template_more}
use Rattle.wgsl_lex_templates.specs.Advancing.{advances, ◌>>=◌, if_there, take_any, take, bitwise_operands, relations, optional_template_list, optional_arguments}

abbrev pub literals : List ℕ
literals = KwTrue ∷ KwFalse ∷ AbstractInt ∷ I32 ∷ U32 ∷ AbstractFloat ∷ F32 ∷ F16 ∷ []

abbrev pub unary_operators : List ℕ
unary_operators = SymMinus ∷ SymBang ∷ SymTilde ∷ SymStar ∷ SymAnd ∷ []

abbrev pub multiplicative_operators : List ℕ
multiplicative_operators = SymStar ∷ SymForwardSlash ∷ SymModulo ∷ []

-- `--` subtracts a negation
abbrev pub additive_operators : List ℕ
additive_operators = SymPlus ∷ SymMinus ∷ SymMinusMinus ∷ []

abbrev pub relational_operators : List ℕ
relational_operators = SymLessThan ∷ SymGreaterThan ∷ SymLessThanEqual ∷ SymGreaterThanEqual
    ∷ SymEqualEqual ∷ SymNotEqual ∷ []

-- nothing is left
abbrev pub is_whole : Option (List ℕ) → Bool
is_whole None = false
is_whole (Some []) = true
is_whole (Some (c ∷ cs)) = false

-- a list of expressions is all there is
unfoldable pub whole_list : List ℕ → Bool
whole_list cs = is_whole (advances (of expressions) cs)

-- what is left after an expression of the list ends it
unfoldable pub whole_rest : List ℕ → Bool
whole_rest cs = elim (take SymComma cs) as (λ r. Bool) [
  | None ↦ is_whole (Some cs)
  | Some ds ↦ is_whole (Some ds) || whole_list ds
]

unfoldable pub whole_rest_at : List ℕ → Bool
whole_rest_at cs =
    elim (take SymComma cs) as (λ r. Bool) [
      | None ↦ is_whole (Some cs)
      | Some ds ↦
          elim (advances (of expression) ds) as (λ r. Bool) [ None ↦ is_whole (Some ds) | Some es ↦ whole_rest es ]
    ]

unfoldable pub whole_list_at : List ℕ → Bool
whole_list_at cs = elim (advances (of expression) cs) as (λ r. Bool) [ None ↦ false | Some ds ↦ whole_rest ds ]

unfoldable pub expression_at : List ℕ → Option (List ℕ)
expression_at cs = advances (of unary_expression) cs >>= advances (further expression_rest)

unfoldable pub expression_rest_at : List ℕ → Option (List ℕ)
expression_rest_at cs =
    if_there (take SymAnd cs) (bitwise_operands SymAnd)
    (if_there (take SymOr cs) (bitwise_operands SymOr)
    (if_there (take SymXor cs) (bitwise_operands SymXor)
    (advances (further sum_rest) cs >>= λ ds. advances (further relation_rest) ds >>= λ es.
    if_there (take SymAndAnd es) (relations SymAndAnd) (if_there (take SymOrOr es) (relations SymOrOr) (Some es)))))

unfoldable pub relational_expression_at : List ℕ → Option (List ℕ)
relational_expression_at cs = advances (of shift_expression) cs >>= advances (further relation_rest)

unfoldable pub relation_rest_at : List ℕ → Option (List ℕ)
relation_rest_at cs = if_there (take_any relational_operators cs) (advances (of shift_expression)) (Some cs)

unfoldable pub shift_expression_at : List ℕ → Option (List ℕ)
shift_expression_at cs = advances (of unary_expression) cs >>= advances (further sum_rest)

unfoldable pub sum_rest_at : List ℕ → Option (List ℕ)
sum_rest_at cs =
    if_there (take SymShiftLeft cs) (advances (of unary_expression))
    (if_there (take SymShiftRight cs) (advances (of unary_expression))
    (advances (further factors) cs >>= advances (further summands)))

unfoldable pub summands_at : List ℕ → Option (List ℕ)
summands_at cs = if_there (take_any additive_operators cs) (λ ds. advances (of unary_expression) ds
    >>= λ es. advances (further factors) es >>= advances (further summands)) (Some cs)

unfoldable pub factors_at : List ℕ → Option (List ℕ)
factors_at cs = if_there (take_any multiplicative_operators cs)
    (λ ds. advances (of unary_expression) ds >>= advances (further factors)) (Some cs)

unfoldable pub unary_expression_at : List ℕ → Option (List ℕ)
unary_expression_at cs = if_there (take_any unary_operators cs) (advances (of unary_expression))
    (advances (of singular_expression) cs)

unfoldable pub singular_expression_at : List ℕ → Option (List ℕ)
singular_expression_at cs = advances (of primary_expression) cs >>= advances (further components)

unfoldable pub components_at : List ℕ → Option (List ℕ)
components_at cs =
    if_there (take SymBracketLeft cs)
    (λ ds. advances (of expression) ds >>= λ es. take SymBracketRight es >>= advances (further components))
    (if_there (take SymPeriod cs) (λ ds. take Ident ds >>= advances (further components)) (Some cs))

unfoldable pub primary_expression_at : List ℕ → Option (List ℕ)
primary_expression_at cs =
    if_there (take Ident cs) (λ ds. optional_template_list ds >>= optional_arguments)
    (if_there (take_any literals cs) Some
    (take SymParenLeft cs >>= λ ds. advances (of expression) ds >>= take SymParenRight))

unfoldable pub template_items_at : List ℕ → Option (List ℕ)
template_items_at cs = advances (of expression) cs >>= advances (further template_more)

unfoldable pub template_more_at : List ℕ → Option (List ℕ)
template_more_at cs =
    if_there (take SymComma cs) (λ ds. if_there (take TemplateArgsEnd ds) Some
    (advances (of expression) ds >>= advances (further template_more)))
    (take TemplateArgsEnd cs)

unfoldable pub argument_rest_at : List ℕ → Option (List ℕ)
argument_rest_at cs = if_there (take SymParenRight cs) Some
    (advances (of expression) cs >>= advances (further argument_more))

unfoldable pub argument_more_at : List ℕ → Option (List ℕ)
argument_more_at cs = if_there (take SymComma cs) (advances (further argument_rest)) (take SymParenRight cs)
