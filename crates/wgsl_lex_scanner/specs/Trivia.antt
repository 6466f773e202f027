-- Blank space and comments, a piece at a time.
use Rattle.std.specs.Prelude.{◌≡◌, ◌<◌, ⊤, ℕ, zero, suc, true, false, not, ◌==◌, ◌&&◌, if◌then◌else◌, List, [], ◌∷◌, Option, Some, None, chars, length}
use Rattle.wgsl_model.specs.Tokens.Characters.{is_blank, is_line_break}
use Rattle.wgsl_model.specs.Tokens.Trivia.{first_or_zero}
use Rattle.wgsl_lex_scanner.specs.Digits.{skip_while}
use Rattle.wgsl_lex_scanner.specs.declared.trivia.Piece.{Piece}
use Rattle.wgsl_lex_scanner.specs.declared.trivia.Piece.TheVariants as piece
use Rattle.wgsl_lex_scanner.specs.declared.trivia.Step.{Step}
use Rattle.wgsl_lex_scanner.specs.declared.trivia.Step.TheVariants as step

-- ---- what a text begins with outside of tokens

-- a blank or the sign of a comment, and after it the text that is told
abbrev pub BeginsWith : List ℕ → Piece → Type 0
BeginsWith text (piece.Blank after) = (c : ℕ) × (text ≡ c ∷ chars after.now) × (is_blank c ≡ true)
BeginsWith text (piece.LineComment body) = text ≡ 47 ∷ (47 ∷ chars body.now)
BeginsWith text (piece.BlockComment body) = text ≡ 47 ∷ (42 ∷ chars body.now)

-- neither
abbrev pub BeginsWithNone : List ℕ → Type 0
BeginsWithNone [] = ⊤
BeginsWithNone (c ∷ cs) = (is_blank c ≡ false) × ((c == 47 && first_or_zero cs == 47) ≡ false)
    × ((c == 47 && first_or_zero cs == 42) ≡ false)

-- the bytes after it
abbrev pub piece_rest : Piece → List ℕ
piece_rest (piece.Blank after) = after.now
piece_rest (piece.LineComment body) = body.now
piece_rest (piece.BlockComment body) = body.now

-- ---- lines

-- after a character that does not end the line a text is left
abbrev pub IsInLine : List ℕ → List ℕ → Type 0
IsInLine text after = (c : ℕ) × (text ≡ c ∷ after) × (is_line_break c ≡ false)

-- what follows a line
abbrev pub after_line : List ℕ → List ℕ
after_line text = skip_while (λ c. not (is_line_break c)) text

-- ---- block comments

-- what the front of a text in a block comment does
abbrev pub IsStep : List ℕ → Step → Type 0
IsStep text (step.Ends) = text ≡ []
IsStep text (step.Goes after) =
    (c : ℕ) × (text ≡ c ∷ chars after.now) × ((c == 47 && first_or_zero (chars after.now) == 42) ≡ false)
    × ((c == 42 && first_or_zero (chars after.now) == 47) ≡ false)
IsStep text (step.Opens body) = text ≡ 47 ∷ (42 ∷ chars body.now)
IsStep text (step.Closes outer) = text ≡ 42 ∷ (47 ∷ chars outer.now)

-- of a text of a number of bytes fewer are left after it
abbrev pub IsShorterStep : ℕ → Step → Type 0
IsShorterStep n (step.Ends) = ⊤
IsShorterStep n (step.Goes rest) = length rest.now < n
IsShorterStep n (step.Opens rest) = length rest.now < n
IsShorterStep n (step.Closes rest) = length rest.now < n

-- what follows the end of a block comment that is open in a number of others, or none where it is
-- not closed
unfoldable pub after_block : ℕ → List ℕ → Option (List ℕ)
after_block n [] = None
after_block n (c ∷ []) = None
after_block zero (c ∷ (d ∷ cs)) =
    if c == 47 && d == 42 then after_block 1 cs
    else if c == 42 && d == 47 then Some cs
    else after_block zero (d ∷ cs)
after_block (suc n) (c ∷ (d ∷ cs)) =
    if c == 47 && d == 42 then after_block (suc (suc n)) cs
    else if c == 42 && d == 47 then after_block n cs
    else after_block (suc n) (d ∷ cs)
