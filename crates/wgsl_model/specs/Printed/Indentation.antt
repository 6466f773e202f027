-- Indented text.
use Rattle.std.specs.Prelude.{ℕ, ◌==◌, List, [], ◌∷◌, ◌++◌, if◌then◌else◌, codes}

-- a gap after each line break (the byte 10)
abbrev pub after_line_ends : List ℕ → List ℕ → List ℕ
after_line_ends gap [] = []
after_line_ends gap (b ∷ bs) = if b == 10 then b ∷ (gap ++ after_line_ends gap bs) else b ∷ after_line_ends gap bs

-- four spaces at the start and after each line break; an empty text stays empty
abbrev pub indented : List ℕ → List ℕ
indented [] = []
indented (b ∷ bs) = codes "    " ++ after_line_ends (codes "    ") (b ∷ bs)
