-- Names with their new names as JSON.
use Rattle.std.specs.Prelude.{ℕ, List, ◌++◌, codes}
use Rattle.std.specs.List.{join_by}
use Rattle.wgsl_name_map.specs.Texts.{quoted}

-- what is written of a pair: the name, and its new name after a colon
abbrev pub member : List ℕ × List ℕ → List ℕ
member pair = quoted pair.0 ++ codes ":" ++ quoted pair.1

-- an object with a member for each pair
abbrev pub map_form : List (List ℕ × List ℕ) → List ℕ
map_form pairs = codes "{" ++ (join_by member (codes ",") pairs ++ codes "}")
