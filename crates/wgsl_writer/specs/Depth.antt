-- How deep a text is indented.
use Rattle.std.specs.Prelude.{ℕ, zero, suc, List, [], ◌++◌, codes}

-- the spaces at a depth, four for each level
abbrev pub spaces : ℕ → List ℕ
spaces zero = []
spaces (suc levels) = spaces levels ++ codes "    "
