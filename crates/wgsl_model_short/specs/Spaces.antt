-- Between which neighbouring tokens a space is (WGSL, "Parsing", "Comments").
use Rattle.std.specs.Prelude.{ℕ, Bool, ◌&&◌, ◌||◌, ◌==◌, nat_le, if◌then◌else◌, List, [], ◌∷◌, codes}
use Rattle.unicode_ident.specs.Ident.{is_xid_continue}
use Rattle.grammar.specs.Grammar.{is_among}
use Rattle.wgsl_model.specs.Tokens.ClassTable.{SymAnd, SymForwardSlash, SymBang, SymEqual, SymGreaterThan, SymShiftRight, SymLessThan, SymShiftLeft, SymModulo, SymMinus, SymPeriod, SymPlus, SymOr, SymStar, SymUnderscore, SymXor, KwAlias, AbstractInt, F16, TemplateArgsStart}

-- a keyword, an identifier, a reserved word, a number or `_`
abbrev pub is_word_or_number : ℕ → Bool
is_word_or_number class = (nat_le KwAlias class && nat_le class F16) || class == SymUnderscore

-- The characters that are in no word and with which a token of this class is the front of another
-- token, or `/` of a comment. For the `>` that ends a template list there is none.
abbrev pub continued_by : ℕ → List ℕ
continued_by class =
    if class == SymAnd then codes "&="
    else if class == SymOr then codes "|="
    else if class == SymPlus then codes "+="
    else if class == SymMinus then codes "-=>"
    else if class == SymForwardSlash then codes "/*="
    else if class == SymGreaterThan then codes ">="
    else if is_among class (SymLessThan ∷ TemplateArgsStart ∷ []) then codes "<="
    else if is_among class (SymEqual ∷ SymBang ∷ SymStar ∷ SymModulo ∷ SymXor ∷ SymShiftLeft ∷ SymShiftRight ∷ [])
    then codes "="
    else if class == SymPeriod then codes "0123456789"
    else if class == AbstractInt then codes "."
    else []

-- A token of this class may go on with this character, so a space is before a token that begins
-- with it. A number goes on with some letters only, but no word is after a number in a module.
abbrev pub goes_on : ℕ → ℕ → Bool
goes_on class c = (is_word_or_number class && is_xid_continue c) || is_among c (continued_by class)
