-- The lines of a text.
use Rattle.std.specs.Prelude.{ℕ, ◌==◌, List, [], ◌∷◌, if◌then◌else◌}

-- a byte before the lines that follow it: at the front of the first of them, if there is one
abbrev pub before_lines : ℕ → List (List ℕ) → List (List ℕ)
before_lines c [] = (c ∷ []) ∷ []
before_lines c (line ∷ lines) = (c ∷ line) ∷ lines

-- the lines of a text: each ends with its LF, and the last one may have none
abbrev pub lines_of : List ℕ → List (List ℕ)
lines_of [] = []
lines_of (c ∷ cs) = if c == 10 then (c ∷ []) ∷ lines_of cs else before_lines c (lines_of cs)
