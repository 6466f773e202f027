-- The tokens of a whole text with their places in bytes, and how they end (WGSL, "Parsing").
use Rattle.std.specs.Prelude.{◌≡◌, ℕ, true, List, [], ◌∷◌, ◌++◌}
use Rattle.grammar.specs.Tokens.{Token}
use Rattle.grammar.specs.Endings.{Ending, Ending.finished, Ending.carried}
use Rattle.wgsl_model.specs.Tokens.Kind.{Kind, placed}
use Rattle.wgsl_model.specs.Tokens.Raw.{raw, Raw.none_left, Raw.invalid, Raw.token}
use Rattle.wgsl_model.specs.Faults.Kinds.{invalid_token}
use Rattle.wgsl_model.specs.Tokens.Templates.{is_word, NoTemplate, Template}
pub use Rattle.wgsl_model.specs.Tokens.Places.{width, place}

-- The tokens of a text that ends a source of a number of bytes, and how they end: with the text, or
-- with the first invalid token. A template list after a word is taken whole; every other token
-- is taken as it is.
pub data TokensOf (total : ℕ) : List ℕ → List Token → Ending → Type 0 where
  at_end : (text : List ℕ) → raw text ≡ none_left → TokensOf total text [] finished
  at_fault : (text from after : List ℕ) → raw text ≡ invalid from after
      → TokensOf total text [] (carried (invalid_token (record { start = place total from; end = place total after })))
  before_template : (text from after rest : List ℕ) (kind : Kind) (us ts : List Token) (e : Ending)
      → raw text ≡ token kind from after → is_word kind.class ≡ true → Template total after us rest
      → TokensOf total rest ts e
      → TokensOf total text (placed kind (place total from) (place total after) ∷ (us ++ ts)) e
  before_more : (text from after : List ℕ) (kind : Kind) (ts : List Token) (e : Ending)
      → raw text ≡ token kind from after
      → (is_word kind.class ≡ true → NoTemplate (Template total) after) → TokensOf total after ts e
      → TokensOf total text (placed kind (place total from) (place total after) ∷ ts) e

-- the tokens of a source, and how they end
abbrev pub IsTokenList : List ℕ → List Token → Ending → Type 0
IsTokenList source ts e = TokensOf (width source) source ts e
