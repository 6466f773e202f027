-- Texts, choices and tables as plain data.
use Rattle.std.specs.Prelude.{ℕ, List, String, map, string_bytes}
use Rattle.std.specs.Borrow.{Bor}
use Rattle.std.specs.Global.{Global}
use Rattle.wgsl_model_minify.specs.Renamed as chosen
pub use Rattle.wgsl_tree_names.specs.Found.{branch_view, name_view, occurrence_view}
use Rattle.wgsl_minify_names.specs.declared.table.Which.{Which}
use Rattle.wgsl_minify_names.specs.declared.table.Which.TheVariants.{None, Locals, All}

-- the bytes of texts
abbrev pub texts : List (Bor (List ℕ)) → List (List ℕ)
texts = map (λ (text : Bor (List ℕ)). text.now)

abbrev pub which_view : Which → chosen.Which
which_view None = chosen.no_names
which_view Locals = chosen.local_names
which_view All = chosen.all_names

-- names with their new names, by their bytes
abbrev pub table_view : List (String Global × String Global) → List (List ℕ × List ℕ)
table_view = map (λ (pair : String Global × String Global). (string_bytes pair.0, string_bytes pair.1))
