-- The lines of a text, as the Language Server Protocol has them. A text is its bytes in UTF-8.
use Rattle.std.specs.Prelude.{ℕ, suc, ◌==◌, Bool, false, not, ◌&&◌, ◌||◌, List, [], ◌∷◌, if◌then◌else◌}

-- the bytes of line breaks: LF and CR
abbrev pub is_break : ℕ → Bool
is_break b = b == 10 || b == 13

abbrev pub begins_with_line_feed : List ℕ → Bool
begins_with_line_feed [] = false
begins_with_line_feed (b ∷ bs) = b == 10

-- a line ends after a byte that these follow: after LF, and after a CR that no LF follows
abbrev pub ends_line : ℕ → List ℕ → Bool
ends_line b rest = b == 10 || (b == 13 && not (begins_with_line_feed rest))

-- where lines begin in what is left of a text at an offset
abbrev pub starts_from : ℕ → List ℕ → List ℕ
starts_from at [] = []
starts_from at (b ∷ bs) = if ends_line b bs then suc at ∷ starts_from (suc at) bs else starts_from (suc at) bs

-- where the lines of a text begin
abbrev pub line_starts : List ℕ → List ℕ
line_starts text = 0 ∷ starts_from 0 text
