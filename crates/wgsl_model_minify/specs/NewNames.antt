-- The renaming by a table of names and their new names.
use Rattle.std.specs.Prelude.{ℕ, List, Option, None, Some}
use Rattle.wgsl_model.specs.Tokens.Words.{look_up}
use Rattle.wgsl_model_names.specs.Renamed.{Renaming}

-- the new name that was found, or else the name
abbrev pub new_or : List ℕ → Option (List ℕ) → List ℕ
new_or name None = name
new_or name (Some new) = new

-- a name in the table gets its new name, and each other name stays
abbrev pub renaming_of : List (List ℕ × List ℕ) → Renaming
renaming_of table name = new_or name (look_up table name)
