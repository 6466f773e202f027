-- The tokens of rows: words with spaces between, `‹` and `›` for the brackets of a template list.
use Rattle.std.specs.Prelude.{ℕ, pos, ◌==◌, ◌&&◌, if◌then◌else◌, nat_le, List, [], ◌∷◌, ◌++◌, map, Option, Some, None, codes}
use Rattle.grammar.specs.Tokens.{Token, Payload.number}
use Rattle.wgsl_model.specs.Tokens.ClassTable.{AbstractInt, TemplateArgsStart, TemplateArgsEnd, symbols}
use Rattle.wgsl_model.specs.Tokens.Kind.{Kind, plain, placed}
use Rattle.wgsl_model.specs.Tokens.Raw.{kind_of_word}
use Rattle.wgsl_model.specs.Tokens.Words.{look_up}

-- the words of a text after the start of a word
abbrev pub words_after : List ℕ → List ℕ → List (List ℕ)
words_after word [] = word ∷ []
words_after word (c ∷ text) = if c == 32 then word ∷ words_after [] text else words_after (word ++ (c ∷ [])) text

-- the symbols, and the brackets of template lists
abbrev pub signs : List (List ℕ × ℕ)
signs = symbols ++ ((codes "‹", TemplateArgsStart) ∷ (codes "›", TemplateArgsEnd) ∷ [])

abbrev pub word_or : Option ℕ → List ℕ → Kind
word_or (Some class) word = plain class
word_or None [] = kind_of_word []
word_or None (c ∷ word) = if nat_le 48 c && nat_le c 57 then (record { class = AbstractInt; payload = number (pos 1) })
    else kind_of_word (c ∷ word)

-- the token of a word, which is in no place
abbrev pub token_of : List ℕ → Token
token_of word = placed (word_or (look_up signs word) word) 0 0

abbrev pub tokens_of : List ℕ → List Token
tokens_of text = map token_of (words_after [] text)
