use Rattle.std.proofs.Common.{◌≡◌, ◌+◌, ◌≤◌, length, drop}
use denote.Text.{Utf8}
use denote.Shadow.{shadow}
use Rattle.wgsl_model.specs.Trees.Paths.{path_parts, levels}
use Rattle.wgsl_tree_path.proofs.read.split_levels.Given as goal

abbrev pub invariant-levels : goal.invariant-levels
invariant-levels l =
    shadow (Utf8 l.left)
    × (l.levels + levels (path_parts l.left) ≡ levels (path_parts l.text))
    × (drop (levels (path_parts l.left)) (path_parts l.left) ≡ drop (levels (path_parts l.text)) (path_parts l.text))
    × (l.levels + length l.left ≤ length l.text)

abbrev pub decreases-levels : goal.decreases-levels
decreases-levels l = length l.left
