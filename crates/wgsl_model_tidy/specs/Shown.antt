-- The characters of a piece as they are written: those of a block comment without CR before LF, and
-- if it is closed and begins a line and each of its later lines begins with `*`, with these lines
-- one column after the first.
use Rattle.std.specs.Prelude.{ℕ, Bool, true, false, ◌&&◌, ◌||◌, ◌==◌, if◌then◌else◌, List, [], ◌∷◌, ◌++◌}
use Rattle.wgsl_model.specs.Tokens.ClassTable.{BlockComment}
use Rattle.wgsl_model.specs.Tokens.Trivia.{first_or_zero}
use Rattle.wgsl_model_tidy.specs.Pieces.{Piece, OpenComment}

-- a text without the CR before LF
abbrev pub without_returns : List ℕ → List ℕ
without_returns [] = []
without_returns (c ∷ cs) = if c == 13 && first_or_zero (without_returns cs) == 10
    then without_returns cs else c ∷ without_returns cs

-- a space or a tab
abbrev pub is_space : ℕ → Bool
is_space c = c == 32 || c == 9

-- each line that begins in a text begins with `*`, after spaces and tabs; one begins where the text
-- begins, or none does
abbrev pub has_stars : Bool → List ℕ → Bool
has_stars begins [] = if begins then false else true
has_stars true (c ∷ cs) = if is_space c then has_stars true cs else c == 42 && has_stars false cs
has_stars false (c ∷ cs) = has_stars (c == 10) cs

-- a text with this front of each line that begins in it, in place of spaces and tabs; if one begins
-- where the text begins, its front is written already
abbrev pub with_front : List ℕ → Bool → List ℕ → List ℕ
with_front front begins [] = []
with_front front begins (c ∷ cs) =
    if begins && is_space c then with_front front true cs
    else if c == 10 then 10 ∷ (front ++ with_front front true cs)
    else c ∷ with_front front false cs

-- a closed block comment, which begins a line or does not: if it does and each of its later lines
-- begins with `*`, these lines have this front
abbrev pub block_shown : List ℕ → Bool → List ℕ → List ℕ
block_shown front begins text = if begins && has_stars false text then with_front front false text else text

-- the characters of a piece, which begins a line or does not
abbrev pub shown : List ℕ → Bool → Piece → List ℕ
shown front begins p =
    if p.class == BlockComment then block_shown front begins (without_returns p.text)
    else if p.class == OpenComment then without_returns p.text
    else p.text
