-- A table of new names as plain data, and the renaming by it.
use Rattle.std.specs.Prelude.{ℕ, List, map, string_bytes}
use Rattle.std.specs.declared.alloc.Global.{Global}
use Rattle.std.specs.declared.string.String.{String}
use Rattle.wgsl_model.specs.Trees.Statements.{Change}
use Rattle.wgsl_model_names.specs.Renamed.{Renaming, renaming}
use Rattle.wgsl_model_minify.specs.NewNames.{renaming_of}
use Rattle.wgsl_tree_renamed.specs.declared.new_names.NewNames.{NewNames}

-- a name and its new name
abbrev pub pair_view : String Global × String Global → List ℕ × List ℕ
pair_view p = (string_bytes p.0, string_bytes p.1)

-- the names in the table, each with its new name, in the order in which they were inserted
unfoldable pub pairs : NewNames → List (List ℕ × List ℕ)
pairs names = map pair_view names.names.entries

-- the renaming by the table
unfoldable pub renaming_by : NewNames → Renaming
renaming_by names = renaming_of (pairs names)

-- the change of statements by the table
abbrev pub change_by : NewNames → Change
change_by names = renaming (renaming_by names)
