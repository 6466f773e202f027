-- What is left after the rest of an expression, where a part of it was read.
use Rattle.std.specs.Prelude.{◌≡◌, ◌<◌, ⊤, ℕ, Bool, true, false, List, [], ◌∷◌, length, Option, Some, None}
use Rattle.std.specs.Borrow.{Bor}
use Rattle.wgsl_model.specs.Tokens.ClassTable.{SymAndAnd, SymBracketRight, SymComma, SymOrOr, SymParenRight}
use Rattle.wgsl_model.specs.Grammar.Symbols.{Symbol.expression, Symbol.unary_expression}
use Rattle.wgsl_theory_grammar.specs.Factored.{FactoredSymbol.of, FactoredSymbol.further, Further.argument_more, Further.components, Further.expression_rest, Further.factors, Further.relation_rest, Further.sum_rest, Further.summands, Further.template_more}
use Rattle.wgsl_lex_token.specs.declared.kind_table.TokenKind.{TokenKind}
use Rattle.wgsl_lex_token.specs.View.{class_of_kind, classes}
use Rattle.wgsl_lex_templates.specs.Advancing.{advances, ◌>>=◌, if_there, take, bitwise_more, relations, relations_more, optional_arguments, optional_template_list}
use Rattle.wgsl_lex_templates.specs.declared.operators.Sum.{Sum}
use Rattle.wgsl_lex_templates.specs.declared.operators.Sum.TheVariants as sums
use Rattle.wgsl_lex_templates.specs.declared.operators.Operators.{Operators}
use Rattle.wgsl_lex_templates.specs.declared.operators.Operators.TheVariants as operators
use Rattle.wgsl_lex_templates.specs.declared.brackets.Bracket.{Bracket}
use Rattle.wgsl_lex_templates.specs.declared.brackets.Bracket.TheVariants as brackets
use Rattle.wgsl_lex_templates.specs.declared.brackets.Open.{Open}
use Rattle.wgsl_lex_templates.specs.declared.brackets.Closing.{Closing}
use Rattle.wgsl_lex_templates.specs.declared.brackets.Closing.TheVariants as closing
use Rattle.wgsl_lex_templates.specs.declared.steps.Position.{Position}
use Rattle.wgsl_lex_templates.specs.declared.steps.Position.TheVariants as positions
use Rattle.wgsl_lex_templates.specs.declared.steps.Step.{Step}
use Rattle.wgsl_lex_templates.specs.declared.steps.Step.TheVariants as step

-- ---- operators
-- after an operand of a sum or a shift
abbrev pub after_sum : Sum → List ℕ → Option (List ℕ)
after_sum sums.First cs = advances (further sum_rest) cs
after_sum sums.Further cs = advances (further factors) cs >>= advances (further summands)
after_sum sums.Shifted cs = Some cs

-- after a relation or the first part of one
abbrev pub after_relation : Bool → List ℕ → Option (List ℕ)
after_relation true cs = Some cs
after_relation false cs = advances (further relation_rest) cs

-- after relations with this short-circuit operator between them, or after the first
abbrev pub after_chain : Option TokenKind → List ℕ → Option (List ℕ)
after_chain (Some operator) cs = relations_more (class_of_kind operator) cs
after_chain None cs = if_there (take SymAndAnd cs) (relations SymAndAnd)
    (if_there (take SymOrOr cs) (relations SymOrOr) (Some cs))

-- after an operand in relations
abbrev pub after_relations : Option TokenKind → Bool → Sum → List ℕ → Option (List ℕ)
after_relations chain compared sum cs = after_sum sum cs >>= λ ds. after_relation compared ds >>= after_chain chain

-- after an operand with these operators before it
abbrev pub after_operand : Operators → List ℕ → Option (List ℕ)
after_operand operators.None cs = advances (further expression_rest) cs
after_operand (operators.Bitwise operator) cs = bitwise_more (class_of_kind operator) cs
after_operand (operators.Relations chain compared sum) cs = after_relations chain compared sum cs

-- the next token is an operator and an operand follows, after which the rest is; or there is no rest
abbrev pub GoesOn : {A : Type 0} → (A → List ℕ → Option (List ℕ)) → A → List ℕ
    → Option (A × Bor (List TokenKind)) → Type 0
GoesOn rest a cs None = rest a cs ≡ Some cs
GoesOn rest a cs (Some next) =
    rest a cs ≡ (advances (of unary_expression) (classes next.1.now) >>= rest next.0)

-- ---- brackets
-- from a place in an expression with these operators before it
abbrev pub after_position : Position → Operators → List ℕ → Option (List ℕ)
after_position positions.Operand before cs = advances (of unary_expression) cs >>= after_operand before
after_position positions.Name before cs =
    optional_template_list cs >>= λ ds. optional_arguments ds >>= λ es. advances (further components) es
    >>= after_operand before
after_position positions.Template before cs =
    optional_arguments cs >>= λ ds. advances (further components) ds >>= after_operand before
after_position positions.Part before cs = advances (further components) cs >>= after_operand before

-- up to the end of a bracket, after an expression in it
abbrev pub rest_of_bracket : Bracket → List ℕ → Option (List ℕ)
rest_of_bracket brackets.Parentheses cs = take SymParenRight cs
rest_of_bracket brackets.Index cs = take SymBracketRight cs
rest_of_bracket brackets.Arguments cs = advances (further argument_more) cs
rest_of_bracket brackets.Template cs = advances (further template_more) cs

-- where an expression goes on after a bracket
abbrev pub position_after : Bracket → Position
position_after brackets.Template = positions.Template
position_after b = positions.Part

-- after an expression in a bracket, up to the end of the expression that the bracket is in
abbrev pub after_open : Open → List ℕ → Option (List ℕ)
after_open item cs = rest_of_bracket item.bracket cs
    >>= after_position (position_after item.bracket) item.operators

-- the same of all brackets, the innermost first
abbrev pub after_all : List Open → Option (List ℕ) → Option (List ℕ)
after_all [] left = left
after_all (item ∷ opened) left = after_all opened (left >>= after_open item)

-- what ends the items of a list, of which this is the rest after one, or that another follows
abbrev pub IsClosingBy : (List ℕ → Option (List ℕ)) → List ℕ → Closing → Type 0
IsClosingBy rest cs (closing.Closes left) = rest cs ≡ Some (classes left.now)
IsClosingBy rest cs (closing.GoesOn left) = rest cs ≡ (advances (of expression) (classes left.now) >>= rest)
IsClosingBy rest cs closing.Fails = rest cs ≡ None

-- this is the rest of a list after an item, where a token of a class ends the list: items have
-- commas between them, and perhaps one after the last
abbrev pub IsRestOfList : ℕ → (List ℕ → Option (List ℕ)) → Type 0
IsRestOfList end rest = (cs : List ℕ) → rest cs ≡ if_there (take SymComma cs)
    (λ ds. if_there (take end ds) Some (advances (of expression) ds >>= rest)) (take end cs)

-- fewer tokens are left
abbrev pub LeavesFewer : List ℕ → Closing → Type 0
LeavesFewer cs (closing.Closes left) = length (classes left.now) < length cs
LeavesFewer cs (closing.GoesOn left) = length (classes left.now) < length cs
LeavesFewer cs closing.Fails = ⊤

-- what is at the front of the tokens there
abbrev pub IsStep : Position → Operators → List ℕ → Step → Type 0
IsStep position before cs (step.GoesOn next following left) =
    after_position position before cs ≡ after_position next following (classes left.now)
IsStep position before cs (step.Opens bracket left) = after_position position before cs
    ≡ (advances (of expression) (classes left.now)
    >>= after_open (record { bracket = bracket; operators = before }))
IsStep position before cs step.Ends = after_position position before cs ≡ Some cs
IsStep position before cs step.Fails = after_position position before cs ≡ None

-- fewer tokens are left, unless the expression ends
abbrev pub IsShorterAfter : List ℕ → Step → Type 0
IsShorterAfter cs (step.GoesOn next following left) = length (classes left.now) < length cs
IsShorterAfter cs (step.Opens bracket left) = length (classes left.now) < length cs
IsShorterAfter cs step.Ends = ⊤
IsShorterAfter cs step.Fails = ⊤
