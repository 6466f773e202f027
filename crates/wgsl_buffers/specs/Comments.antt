-- The comments between the tokens of a text, as they are written to a buffer with them.
use Rattle.std.specs.Prelude.{◌≡◌, ℕ, true, List, [], ◌∷◌, ◌++◌, Some, None, MatchOption, drop, chars}
use Rattle.std.specs.Str.{encode_utf8_all}
use Rattle.grammar.specs.Tokens.{Token}
use Rattle.wgsl_model.specs.Tokens.Characters.{is_blank}
use Rattle.wgsl_model.specs.Tokens.ClassTable.{LineComment, BlockComment}
use Rattle.wgsl_model.specs.Tokens.Places.{width, place}
use Rattle.wgsl_model_tidy.specs.Pieces.{OpenComment}
use Rattle.wgsl_lex_scanner.specs.Trivia.{BeginsWithNone, after_line, after_block}
use Rattle.wgsl_buffers.specs.declared.comments.Passed.{Passed}
use Rattle.wgsl_buffers.specs.Items.{item_of_token}

-- A text begins with a comment of a class, and another text is after it. A line comment ends before
-- the line break, block comments nest, and one that is not closed ends with the text.
pub data IsComment : List ℕ → ℕ → List ℕ → Type 0 where
  line : (body : List ℕ) → IsComment (47 ∷ (47 ∷ body)) LineComment (after_line body)
  block : (body rest : List ℕ) → after_block 0 body ≡ Some rest → IsComment (47 ∷ (42 ∷ body)) BlockComment rest
  unclosed : (body : List ℕ) → after_block 0 body ≡ None → IsComment (47 ∷ (42 ∷ body)) OpenComment []

-- The comments in the blank space at the front of a text that ends a source of a number of bytes:
-- of each its class, and where it starts and ends.
pub data AreComments (total : ℕ) : List ℕ → List (ℕ × ℕ × ℕ) → Type 0 where
  none_left : (text : List ℕ) → BeginsWithNone text → AreComments total text []
  blank : (c : ℕ) (text : List ℕ) (items : List (ℕ × ℕ × ℕ)) → is_blank c ≡ true
      → AreComments total text items → AreComments total (c ∷ text) items
  comment : (class : ℕ) (text rest : List ℕ) (items : List (ℕ × ℕ × ℕ)) → IsComment text class rest
      → AreComments total rest items
      → AreComments total text ((class, place total text, place total rest) ∷ items)

-- the text of a source from a byte offset on
abbrev pub text_from : List ℕ → ℕ → List ℕ
text_from source n = chars (drop n (encode_utf8_all source))

-- the tokens of a source from a byte offset on, with the comments before each and after the last
abbrev pub AreTokensAndComments : List ℕ → ℕ → List Token → List (ℕ × ℕ × ℕ) → Type 0
AreTokensAndComments source from [] items = AreComments (width source) (text_from source from) items
AreTokensAndComments source from (t ∷ ts) items = (comments others : List (ℕ × ℕ × ℕ))
    × AreComments (width source) (text_from source from) comments
    × AreTokensAndComments source t.end ts others × (items ≡ comments ++ (item_of_token t ∷ others))

-- a text begins with a blank, and another text is after it
abbrev pub IsBlank : List ℕ → List ℕ → Type 0
IsBlank text after = (c : ℕ) × (text ≡ c ∷ after) × (is_blank c ≡ true)

-- a blank or a comment of a class is passed over at the front of a text
abbrev pub Passes : List ℕ → Passed → Type 0
Passes text passed = let after = chars passed.rest.now in
    MatchOption passed.kind (IsBlank text after) (λ class. IsComment text class after)
