-- The shortest text with the tokens of a source: their characters as they are, with no comment and
-- no line break, and between two tokens one space or nothing.
use Rattle.std.specs.Prelude.{ℕ, if◌then◌else◌, List, [], ◌∷◌, ◌++◌, map}
use Rattle.grammar.specs.Tokens.{Token}
use Rattle.wgsl_model.specs.Tokens.ClassTable.{SymSemicolon}
use Rattle.wgsl_model.specs.Tokens.Trivia.{first_or_zero}
use Rattle.wgsl_model_tidy.specs.Pieces.{Piece, piece_of}
use Rattle.wgsl_model_short.specs.Spaces.{goes_on}

-- what is between a token of a class and the characters of the next one
abbrev pub gap : ℕ → List ℕ → List ℕ
gap class next = if goes_on class (first_or_zero next) then 32 ∷ [] else []

-- tokens after a token of a class
abbrev pub joined : ℕ → List Piece → List ℕ
joined class [] = []
joined class (p ∷ ps) = gap class p.text ++ (p.text ++ joined p.class ps)

-- these tokens of a source, each after no line break
abbrev pub token_pieces : List ℕ → List Token → List Piece
token_pieces source ts = map (λ t. piece_of source t 0) ts

-- the shortest text of a source with these tokens; nothing is before the first, as after `;`
abbrev pub shortest : List ℕ → List Token → List ℕ
shortest source ts = joined SymSemicolon (token_pieces source ts)
