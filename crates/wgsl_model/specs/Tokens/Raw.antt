-- The token at the front of a text (WGSL, "Parsing", "Tokens").
use Rattle.std.specs.Prelude.{ℕ, ◌-◌, ◌==◌, not, ◌&&◌, ◌||◌, if◌then◌else◌, List, [], ◌∷◌, Option, Some, None, length, take, codes, bytes_eq, option_map}
use Rattle.std.specs.Str.{encode_utf8_all}
use Rattle.std.specs.Char.{is_ascii_digit}
use Rattle.unicode_ident.specs.Ident.{is_xid_start}
use Rattle.grammar.specs.Tables.{is_empty}
use Rattle.wgsl_model.specs.Tokens.ClassTable.{Ident, ReservedWord, SymUnderscore, symbols, keywords}
use Rattle.wgsl_model.specs.Tokens.Kind.{Kind, plain, named}
use Rattle.wgsl_model.specs.Tokens.Words.{look_up, is_word_among, reserved_words}
use Rattle.wgsl_model.specs.Tokens.Numbers.{number_of}
use Rattle.wgsl_model.specs.Tokens.Pattern.{after_spelling}
use Rattle.wgsl_model.specs.Tokens.Spelling.{spelling}
use Rattle.wgsl_model.specs.Tokens.Trivia.{after_trivia, outside}

-- what is before the rest
abbrev pub front : List ℕ → List ℕ → List ℕ
front text rest = take (length text - length rest) text

-- a word that is no keyword: a reserved word or an identifier
abbrev pub other_word : List ℕ → Kind
other_word word = if is_word_among reserved_words word then named ReservedWord word else named Ident word

-- the keyword that was found, or a word that is not one
abbrev pub keyword_or_name : Option ℕ → List ℕ → Kind
keyword_or_name (Some keyword) word = plain keyword
keyword_or_name None word = other_word word

-- the token of a word, by its bytes: the symbol `_`, a keyword, a reserved word or an identifier
abbrev pub kind_of_word : List ℕ → Kind
kind_of_word word = if bytes_eq word (codes "_") then plain SymUnderscore
    else keyword_or_name (look_up keywords word) word

-- the token of a spelling, by its first character: a word, a number, which may begin with `.`, or a
-- symbol; none where a whole number does not fit its type
abbrev pub kind_of_spelling : List ℕ → Option Kind
kind_of_spelling [] = None
kind_of_spelling (c ∷ cs) =
    if is_xid_start c || c == 95 then Some (kind_of_word (encode_utf8_all (c ∷ cs)))
    else if is_ascii_digit c || (c == 46 && not (is_empty cs)) then number_of (c ∷ cs)
    else option_map plain (look_up symbols (c ∷ cs))

-- the token at the front of a text: none, an invalid one or one of a kind; each with the text from
-- its start and the text after it
pub data Raw : Type 0 where
  none_left : Raw
  invalid : List ℕ → List ℕ → Raw
  token : Kind → List ℕ → List ℕ → Raw

-- the token that a spelling is, or an invalid one where it has no value
abbrev pub valued : List ℕ → List ℕ → Option Kind → Raw
valued text rest None = invalid text rest
valued text rest (Some kind) = token kind text rest

-- the token of the longest spelling, by what follows it; where there is no spelling, one character
-- is an invalid token
abbrev pub spelled : List ℕ → List ℕ → Option (List ℕ) → Raw
spelled text cs None = invalid text cs
spelled text cs (Some rest) = valued text rest (kind_of_spelling (front text rest))

-- the token at the front of a text that does not begin with trivia
abbrev pub raw_at : List ℕ → Raw
raw_at [] = none_left
raw_at (c ∷ cs) = spelled (c ∷ cs) cs (after_spelling spelling (c ∷ cs))

-- the token after the trivia at the front
abbrev pub raw : List ℕ → Raw
raw text = raw_at (after_trivia outside text)
