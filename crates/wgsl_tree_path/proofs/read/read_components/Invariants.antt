use Rattle.std.proofs.Common.{◌≡◌, ◌++◌, length, map, string_bytes}
use Rattle.std.specs.List.{filter_map}
use denote.Text.{Utf8}
use denote.Shadow.{shadow}
use Rattle.wgsl_model.specs.Tokens.Words.{look_up}
use Rattle.wgsl_model.specs.Trees.Paths.{path_parts, first_words}
use Rattle.wgsl_tree_path.proofs.read.read_components.Given as goal

abbrev pub invariant-parts : goal.invariant-parts
invariant-parts l =
    shadow (Utf8 l.left)
    × (filter_map (look_up first_words) (path_parts l.left) ≡ filter_map (look_up first_words) (path_parts l.text))
    × (map string_bytes l.names.items ++ path_parts l.left ≡ path_parts l.text)

abbrev pub decreases-parts : goal.decreases-parts
decreases-parts l = length l.left
