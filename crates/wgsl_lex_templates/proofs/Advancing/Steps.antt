-- What is left after each place of an expression.
use Rattle.std.proofs.Common.{◌≡◌, ℕ, List, [], ◌∷◌, refl, sym, ap, ◌∙◌}
use Rattle.std.specs.Prelude.{Option, Some, None}
use Rattle.wgsl_model.specs.Tokens.ClassTable.{SymBracketLeft, SymBracketRight, SymComma, SymParenLeft, SymParenRight, SymPeriod, Ident, TemplateArgsEnd, TemplateArgsStart}
use Rattle.wgsl_model.specs.Grammar.Symbols.{Symbol.expression, Symbol.primary_expression, Symbol.singular_expression, Symbol.unary_expression}
use Rattle.wgsl_theory_grammar.specs.Factored.{FactoredSymbol.of, FactoredSymbol.further, Further.components, Further.template_items, Further.template_more}
use Rattle.wgsl_lex_templates.specs.Advancing.{advances, ◌>>=◌, if_there, take, take_any, optional_arguments, optional_template_list}
use Rattle.wgsl_lex_templates.specs.declared.operators.Operators.{Operators}
use Rattle.wgsl_lex_templates.specs.declared.operators.Operators.TheVariants as operators
use Rattle.wgsl_lex_templates.specs.declared.brackets.Bracket.TheVariants as brackets
use Rattle.wgsl_lex_templates.specs.declared.brackets.Open.{Open}
use Rattle.wgsl_lex_templates.specs.declared.steps.Position.{Position}
use Rattle.wgsl_lex_templates.specs.declared.steps.Position.TheVariants as positions
use Rattle.wgsl_lex_templates.specs.Expressions.{after_operand, after_position, after_open, after_all, rest_of_bracket, position_after, IsRestOfList}
use Rattle.wgsl_lex_templates.proofs.Advancing.Rules.{literals, unary_operators, argument_more_at, argument_rest_at, components_at, expression_at, primary_expression_at, singular_expression_at, template_items_at, template_more_at, unary_expression_at}
use Rattle.wgsl_lex_templates.proofs.Advancing.Parts.{bind_alike, there_alike, bind_bind}
use Rattle.wgsl_lex_templates.proofs.Advancing.Equations.{argument_more_is, argument_rest_is, expression_is, singular_expression_is, template_items_is, template_more_is, unary_expression_is}
use Rattle.wgsl_lex_templates.proofs.Advancing.Operands.{components_is, primary_expression_is}

there_bind : (m : Option (List ℕ)) (f g : List ℕ → Option (List ℕ)) (x : Option (List ℕ))
    → (if_there m f x >>= g) ≡ if_there m (λ ds. f ds >>= g) (x >>= g)
there_bind None f g x = refl
there_bind (Some ds) f g x = refl

-- ---- an operand
abbrev parenthesis : Operators → Open
parenthesis before = record { bracket = brackets.Parentheses; operators = before }

-- what follows a primary expression
abbrev after_primary : Operators → List ℕ → Option (List ℕ)
after_primary before cs = advances (further components) cs >>= after_operand before

singular_is : (before : Operators) (cs : List ℕ) → (advances (of singular_expression) cs >>= after_operand before)
    ≡ (advances (of primary_expression) cs >>= after_primary before)
unfolding singular_expression_at
singular_is before cs =
    ap (λ (m : Option (List ℕ)). m >>= after_operand before) (singular_expression_is cs)
    ∙ bind_bind (advances (of primary_expression) cs) (advances (further components)) (after_operand before)

parenthesized_is : (before : Operators) (m : Option (List ℕ))
    → ((m >>= λ ds. advances (of expression) ds >>= take SymParenRight) >>= after_primary before)
    ≡ if_there m (λ ds. advances (of expression) ds >>= after_open (parenthesis before)) None
parenthesized_is before None = refl
parenthesized_is before (Some ds) = bind_bind (advances (of expression) ds) (take SymParenRight) (after_primary before)

named_is : (before : Operators) (ds : List ℕ)
    → ((optional_template_list ds >>= optional_arguments) >>= after_primary before)
    ≡ after_position positions.Name before ds
named_is before ds = bind_bind (optional_template_list ds) optional_arguments (after_primary before)

pub operand_is : (before : Operators) (cs : List ℕ) → after_position positions.Operand before cs
    ≡ if_there (take_any unary_operators cs) (after_position positions.Operand before)
    (if_there (take Ident cs) (after_position positions.Name before)
    (if_there (take_any literals cs) (after_position positions.Part before)
    (if_there (take SymParenLeft cs)
    (λ ds. advances (of expression) ds >>= after_open (parenthesis before)) None)))
unfolding unary_expression_at primary_expression_at
operand_is before cs =
    ap (λ (m : Option (List ℕ)). m >>= after_operand before) (unary_expression_is cs)
    ∙ there_bind (take_any unary_operators cs) (advances (of unary_expression)) (after_operand before)
    (advances (of singular_expression) cs)
    ∙ ap (if_there (take_any unary_operators cs) (after_position positions.Operand before))
    (singular_is before cs
    ∙ ap (λ (m : Option (List ℕ)). m >>= after_primary before) (primary_expression_is cs)
    ∙ there_bind (take Ident cs) (λ ds. optional_template_list ds >>= optional_arguments) (after_primary before) _
    ∙ there_alike (take Ident cs) _ _ _ _ (named_is before)
    (there_bind (take_any literals cs) Some (after_primary before) _
    ∙ ap (if_there (take_any literals cs) (after_primary before))
    (parenthesized_is before (take SymParenLeft cs))))

-- ---- after a name, a template list, a part
pub name_is : (before : Operators) (cs : List ℕ) → after_position positions.Name before cs
    ≡ if_there (take TemplateArgsStart cs)
    (λ ds. advances (of expression) ds
    >>= after_open (record { bracket = brackets.Template; operators = before }))
    (after_position positions.Template before cs)
unfolding optional_template_list template_items_at
name_is before cs =
    there_bind (take TemplateArgsStart cs) (advances (further template_items))
    (after_position positions.Template before) (Some cs)
    ∙ there_alike (take TemplateArgsStart cs) _ _ _ _
    (λ ds. ap (λ (m : Option (List ℕ)). m >>= after_position positions.Template before) (template_items_is ds)
    ∙ bind_bind (advances (of expression) ds) (advances (further template_more))
    (after_position positions.Template before)) refl

pub template_is : (before : Operators) (cs : List ℕ) → after_position positions.Template before cs
    ≡ if_there (take SymParenLeft cs) (λ ds. if_there (take SymParenRight ds) (after_position positions.Part before)
    (advances (of expression) ds
    >>= after_open (record { bracket = brackets.Arguments; operators = before })))
    (after_position positions.Part before cs)
unfolding optional_arguments argument_rest_at
template_is before cs =
    there_bind (take SymParenLeft cs) _ (after_primary before) (Some cs)
    ∙ there_alike (take SymParenLeft cs) _ _ _ _
    (λ ds. ap (λ (m : Option (List ℕ)). m >>= after_primary before) (argument_rest_is ds)
    ∙ there_bind (take SymParenRight ds) Some (after_primary before) _
    ∙ ap (if_there (take SymParenRight ds) (after_primary before))
    (bind_bind (advances (of expression) ds) _ (after_primary before))) refl

pub part_is : (before : Operators) (cs : List ℕ) → after_position positions.Part before cs
    ≡ if_there (take SymBracketLeft cs)
    (λ ds. advances (of expression) ds >>= after_open (record { bracket = brackets.Index; operators = before }))
    (if_there (take SymPeriod cs) (λ ds. take Ident ds >>= after_position positions.Part before)
    (after_operand before cs))
unfolding components_at
part_is before cs =
    let rest = after_operand before in
    ap (λ (m : Option (List ℕ)). m >>= rest) (components_is cs)
    ∙ there_bind (take SymBracketLeft cs) _ rest _
    ∙ there_alike (take SymBracketLeft cs) _ _ _ _
    (λ ds. bind_bind (advances (of expression) ds) _ rest
    ∙ bind_alike (advances (of expression) ds) _ _
    (λ es. bind_bind (take SymBracketRight es) (advances (further components)) rest))
    (there_bind (take SymPeriod cs) _ rest (Some cs)
    ∙ there_alike (take SymPeriod cs) _ _ _ _
    (λ ds. bind_bind (take Ident ds) (advances (further components)) rest) refl)

-- ---- lists
pub arguments_are : IsRestOfList SymParenRight (rest_of_bracket brackets.Arguments)
unfolding argument_more_at argument_rest_at
arguments_are cs = argument_more_is cs ∙ there_alike (take SymComma cs) _ _ _ _ argument_rest_is refl

pub items_are : IsRestOfList TemplateArgsEnd (rest_of_bracket brackets.Template)
unfolding template_more_at
items_are = template_more_is

-- ---- brackets
pub none_after : (opened : List Open) → after_all opened None ≡ None
none_after [] = refl
none_after (item ∷ opened) = none_after opened

pub begins : (cs : List ℕ) → after_position positions.Operand operators.None cs ≡ advances (of expression) cs
unfolding expression_at
begins cs = sym (expression_is cs)

-- a bracket is opened
pub opens : (opened : List Open) (item : Open) (position : Position) (before : Operators) (cs ds : List ℕ)
    → after_position position before cs ≡ (advances (of expression) ds >>= after_open item)
    → after_all (item ∷ opened) (after_position positions.Operand operators.None ds)
    ≡ after_all opened (after_position position before cs)
opens opened item position before cs ds e =
    ap (λ (m : Option (List ℕ)). after_all opened (m >>= after_open item)) (begins ds)
    ∙ ap (after_all opened) (sym e)

-- it is closed
pub closes : (opened : List Open) (item : Open) (cs ds : List ℕ) → rest_of_bracket item.bracket cs ≡ Some ds
    → after_all opened (after_position (position_after item.bracket) item.operators ds)
    ≡ after_all (item ∷ opened) (Some cs)
closes opened item cs ds e =
    ap (λ (m : Option (List ℕ)). after_all opened
    (m >>= after_position (position_after item.bracket) item.operators)) (sym e)

-- another expression follows in it
pub goes_on : (opened : List Open) (item : Open) (cs ds : List ℕ)
    → rest_of_bracket item.bracket cs ≡ (advances (of expression) ds >>= rest_of_bracket item.bracket)
    → after_all (item ∷ opened) (after_position positions.Operand operators.None ds)
    ≡ after_all (item ∷ opened) (Some cs)
goes_on opened item cs ds e =
    let rest = after_position (position_after item.bracket) item.operators in
    ap (λ (m : Option (List ℕ)). after_all opened (m >>= after_open item)) (begins ds)
    ∙ ap (after_all opened) (sym (bind_bind (advances (of expression) ds) (rest_of_bracket item.bracket) rest))
    ∙ ap (λ (m : Option (List ℕ)). after_all opened (m >>= rest)) (sym e)

-- it is not closed
pub fails : (opened : List Open) (item : Open) (cs : List ℕ) → rest_of_bracket item.bracket cs ≡ None
    → after_all (item ∷ opened) (Some cs) ≡ None
fails opened item cs e =
    ap (λ (m : Option (List ℕ)). after_all opened
    (m >>= after_position (position_after item.bracket) item.operators)) e
    ∙ none_after opened
