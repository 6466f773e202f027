-- Line ends, each the byte 10.
use Rattle.std.specs.Prelude.{ℕ, ◌<◌, ◌≡◌, ◌≢◌, ◌==◌, Bool, true, not, ◌&&◌, List, [], ◌∷◌, length, slice_index}

-- there is no LF in the text
abbrev pub is_one_line : List ℕ → Bool
is_one_line [] = true
is_one_line (b ∷ bs) = not (b == 10) && is_one_line bs

-- none of the first bytes ends a line
abbrev pub IsOneLine : List ℕ → ℕ → Type 0
IsOneLine text end = (i : ℕ) → i < end → slice_index text i ≢ 10

-- the first LF is there
abbrev pub IsLineEnd : List ℕ → ℕ → Type 0
IsLineEnd text at = (at < length text) × (slice_index text at ≡ 10) × IsOneLine text at
