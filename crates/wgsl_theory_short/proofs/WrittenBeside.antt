-- Which tokens are next to one another in a module: no number is before a word or a number, and no
-- `<` of a template list is before a token that begins with `<` or `=`.
use Rattle.std.proofs.Common.{◌≡◌, ℕ, Bool, true, false, not, ◌||◌, refl, List, [], ◌∷◌, ◌++◌}
use Rattle.grammar.specs.Tokens.{Token}
use Rattle.grammar.specs.Grammar.{IsSentence, Mode.unchecked}
use Rattle.wgsl_model.specs.Tokens.ClassTable.{SymEqual, SymEqualEqual, SymLessThan, SymLessThanEqual, SymShiftLeft, SymShiftLeftAssign, SymUnderscore, Ident, ReservedWord, AbstractInt, I32, U32, AbstractFloat, F32, F16, TemplateArgsStart, keyword_classes}
use Rattle.wgsl_model.specs.Grammar.Symbols.{Symbol, Symbol.ident, Symbol.template_list, Symbol.expressions, Symbol.arguments, Symbol.literal, Symbol.primary_expression, Symbol.singular_expression, Symbol.component, Symbol.unary_expression, Symbol.multiplicative_expression, Symbol.negated_expression, Symbol.additive_expression, Symbol.shift_expression, Symbol.relational_expression, Symbol.expression, Symbol.attribute, Symbol.compound_statement, Symbol.return_statement, Symbol.var_statement, Symbol.value_statement, Symbol.assignment, Symbol.phony_assignment, Symbol.const_assert, Symbol.case_selector, Symbol.for_init, Symbol.for_update, Symbol.unit}
use Rattle.wgsl_model.specs.Grammar.Written.{written}
use Rattle.wgsl_theory_short.proofs.Beside.{Sides, may_empty, may_begin, may_end, keeps_apart, are_apart, sentence_apart}

abbrev is_empty_symbol : Symbol → Bool
is_empty_symbol unit = true
is_empty_symbol n = false

-- ---- numbers

abbrev pub numbers : List ℕ
numbers = AbstractInt ∷ I32 ∷ U32 ∷ AbstractFloat ∷ F32 ∷ F16 ∷ []

abbrev pub words_and_numbers : List ℕ
words_and_numbers = SymUnderscore ∷ Ident ∷ ReservedWord ∷ numbers ++ keyword_classes

-- what may begin with a word or a number
abbrev begins_with_word : Symbol → Bool
begins_with_word template_list = false
begins_with_word arguments = false
begins_with_word component = false
begins_with_word negated_expression = false
begins_with_word attribute = false
begins_with_word compound_statement = false
begins_with_word n = true

-- what may end with a number
abbrev ends_with_number : Symbol → Bool
ends_with_number expressions = true
ends_with_number literal = true
ends_with_number primary_expression = true
ends_with_number singular_expression = true
ends_with_number unary_expression = true
ends_with_number multiplicative_expression = true
ends_with_number negated_expression = true
ends_with_number additive_expression = true
ends_with_number shift_expression = true
ends_with_number relational_expression = true
ends_with_number expression = true
ends_with_number return_statement = true
ends_with_number var_statement = true
ends_with_number value_statement = true
ends_with_number assignment = true
ends_with_number phony_assignment = true
ends_with_number const_assert = true
ends_with_number case_selector = true
ends_with_number for_init = true
ends_with_number for_update = true
ends_with_number n = false

abbrev number_sides : Sides Symbol
number_sides = record { empty = is_empty_symbol; begins = begins_with_word; ends = ends_with_number }

number_empty : (n : Symbol) → (not (may_empty number_sides (written n)) || is_empty_symbol n) ≡ true
number_empty ident = refl
number_empty n = refl

number_begins : (n : Symbol)
    → (not (may_begin number_sides words_and_numbers (written n)) || begins_with_word n) ≡ true
number_begins ident = refl
number_begins n = refl

number_ends : (n : Symbol) → (not (may_end number_sides numbers (written n)) || ends_with_number n) ≡ true
number_ends ident = refl
number_ends n = refl

number_apart : (n : Symbol) → keeps_apart number_sides numbers words_and_numbers (written n) ≡ true
number_apart ident = refl
number_apart n = refl

-- ---- template lists

abbrev pub template_starts : List ℕ
template_starts = TemplateArgsStart ∷ []

abbrev pub less_and_equal : List ℕ
less_and_equal = SymEqual ∷ SymEqualEqual ∷ SymLessThan ∷ SymLessThanEqual ∷ SymShiftLeft ∷ SymShiftLeftAssign
    ∷ TemplateArgsStart ∷ []

abbrev begins_with_less : Symbol → Bool
begins_with_less template_list = true
begins_with_less n = false

abbrev never : Symbol → Bool
never n = false

abbrev start_sides : Sides Symbol
start_sides = record { empty = is_empty_symbol; begins = begins_with_less; ends = never }

start_begins : (n : Symbol) → (not (may_begin start_sides less_and_equal (written n)) || begins_with_less n) ≡ true
start_begins ident = refl
start_begins n = refl

start_ends : (n : Symbol) → (not (may_end start_sides template_starts (written n)) || never n) ≡ true
start_ends ident = refl
start_ends n = refl

start_apart : (n : Symbol) → keeps_apart start_sides template_starts less_and_equal (written n) ≡ true
start_apart ident = refl
start_apart n = refl

-- ---- modules

pub numbers_apart : (ts : List Token) → IsSentence written unit ts → are_apart numbers words_and_numbers ts ≡ true
numbers_apart ts s = sentence_apart number_sides numbers words_and_numbers unchecked written
    (record { empty = number_empty; begins = number_begins; ends = number_ends; apart = number_apart })
    s.1.0 unit s.0 ts s.1.1

pub starts_apart : (ts : List Token) → IsSentence written unit ts → are_apart template_starts less_and_equal ts ≡ true
starts_apart ts s = sentence_apart start_sides template_starts less_and_equal unchecked written
    (record { empty = number_empty; begins = start_begins; ends = start_ends; apart = start_apart })
    s.1.0 unit s.0 ts s.1.1
