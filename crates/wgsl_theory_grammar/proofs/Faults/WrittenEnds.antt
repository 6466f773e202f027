-- Which tokens expressions take, and with which tokens sentences end.
use Rattle.std.proofs.Common.{◌≡◌, ℕ, zero, suc, Bool, true, false, not, ◌||◌, List, [], ◌∷◌, ◌++◌, refl}
use Rattle.grammar.specs.Grammar.{Mode.unchecked, Part}
use Rattle.grammar.specs.Tokens.{Token}
use Rattle.grammar.specs.Tables.{disjoint}
use Rattle.grammar.proofs.Reading.Sets.{implied}
use Rattle.wgsl_model.specs.Tokens.ClassTable.{SymAttr, SymBraceRight, SymParenRight, SymSemicolon, KwVar, TemplateArgsEnd}
use Rattle.wgsl_model.specs.Grammar.Symbols.{Dialect.parsed, Symbol, Symbol.ident, Symbol.type_specifier, Symbol.template_list, Symbol.expressions, Symbol.call, Symbol.arguments, Symbol.literal, Symbol.primary_expression, Symbol.singular_expression, Symbol.component, Symbol.unary_expression, Symbol.multiplicative_expression, Symbol.negated_expression, Symbol.additive_expression, Symbol.shift_expression, Symbol.relational_expression, Symbol.expression, Symbol.unit, Value}
use Rattle.wgsl_model.specs.Grammar.Written.{written}
use Rattle.wgsl_theory_grammar.proofs.Forms.LevelLinks.{taking, written_takes}
use Rattle.wgsl_theory_grammar.proofs.Faults.Avoids.{NoneOf, none_of, takes_only, only_part, EndsWith, ends, ending_part}

-- the symbols that are in expressions
abbrev pub in_expression : Symbol → Bool
in_expression ident = true
in_expression type_specifier = true
in_expression template_list = true
in_expression expressions = true
in_expression call = true
in_expression arguments = true
in_expression literal = true
in_expression primary_expression = true
in_expression singular_expression = true
in_expression component = true
in_expression unary_expression = true
in_expression multiplicative_expression = true
in_expression negated_expression = true
in_expression additive_expression = true
in_expression shift_expression = true
in_expression relational_expression = true
in_expression expression = true
in_expression n = false

-- expressions hold no attributes and no variables
abbrev pub attribute_or_var : List ℕ
attribute_or_var = SymAttr ∷ KwVar ∷ []

held : (n : Symbol)
    → (not (in_expression n) || takes_only (λ s. disjoint s attribute_or_var) in_expression (written n)) ≡ true
held unit = refl
held n = refl

pub expression_holds_none : (n : Symbol) → in_expression n ≡ true → (v : Value n) (xs ys : List Token)
    → Part unchecked written n v xs ys → (p : List Token) × (xs ≡ p ++ ys) × NoneOf attribute_or_var p
expression_holds_none = only_part unchecked written written (none_of attribute_or_var) in_expression
    (λ D n v xs ys d. d) held

-- ---- arguments and templates end with the token that closes them
abbrev pub only : Symbol → Bool
only arguments = true
only n = false

arguments_end : (n : Symbol) → only n ≡ true → ends (SymParenRight ∷ []) only taking (written n) ≡ true
arguments_end arguments e = refl
arguments_end n e = absurd cc

pub arguments_close : (v : Value arguments) (xs ys : List Token) → Part unchecked written arguments v xs ys
    → (p : List Token) × (xs ≡ p ++ ys) × EndsWith (SymParenRight ∷ []) p
arguments_close = ending_part unchecked written (SymParenRight ∷ []) only taking
    (written_takes parsed) arguments_end arguments refl

abbrev pub templates : Symbol → Bool
templates template_list = true
templates n = false

templates_end : (n : Symbol) → templates n ≡ true → ends (TemplateArgsEnd ∷ []) templates taking (written n) ≡ true
templates_end template_list e = refl
templates_end n e = absurd cc

pub template_closes : (v : Value template_list) (xs ys : List Token)
    → Part unchecked written template_list v xs ys
    → (p : List Token) × (xs ≡ p ++ ys) × EndsWith (TemplateArgsEnd ∷ []) p
template_closes = ending_part unchecked written (TemplateArgsEnd ∷ []) templates taking
    (written_takes parsed) templates_end template_list refl

-- ---- statements, clauses, declarations, directives and modules end with `;` or `}`
abbrev pub closers : List ℕ
closers = SymSemicolon ∷ SymBraceRight ∷ []

-- those whose own tokens end so, where the symbols do that are last in them; and so on, some
-- steps deep
abbrev pub ends_by : ℕ → Symbol → Bool
ends_by zero n = false
ends_by (suc k) n = ends closers (ends_by k) taking (written n)

-- a module ends with declarations, these with functions, which end with blocks, and a block with
-- `}`
abbrev pub closing : Symbol → Bool
closing n = ends_by 4 n

closing_end : (n : Symbol) → (not (closing n) || ends closers closing taking (written n)) ≡ true
closing_end unit = refl
closing_end n = refl

pub sentence_closes : (n : Symbol) → closing n ≡ true → (v : Value n) (xs ys : List Token)
    → Part unchecked written n v xs ys → (p : List Token) × (xs ≡ p ++ ys) × EndsWith closers p
sentence_closes = ending_part unchecked written closers closing taking (written_takes parsed)
    (λ n e. implied (closing n) _ (closing_end n) e)
