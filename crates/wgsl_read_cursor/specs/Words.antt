-- Words, and the tokens that are one.
use Rattle.std.specs.Prelude.{ℕ, List, ◌∷◌, string_bytes}
use Rattle.grammar.specs.Tokens.{Token}
use Rattle.grammar.specs.States.{State, Read, take_any}
use Rattle.wgsl_model.specs.Tokens.ClassTable.{Ident, ReservedWord}
use Rattle.wgsl_model.specs.Grammar.Written.{keyword_classes}
use Rattle.wgsl_read_cursor.specs.declared.word.Word.{Word}
use Rattle.wgsl_read_cursor.specs.declared.word.Word.TheVariants as word

-- the text of a word
abbrev pub word_text : Word → List ℕ
word_text (word.Held text) = string_bytes text
word_text (word.Keyword text) = text.now

-- the name of an attribute: an identifier, a reserved word or a keyword
unfoldable pub attribute_name_at : State → Read Token
attribute_name_at s = take_any (Ident ∷ ReservedWord ∷ keyword_classes) s
