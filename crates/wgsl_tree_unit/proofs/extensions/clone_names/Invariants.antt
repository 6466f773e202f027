use Rattle.std.proofs.Common.{◌≡◌, take, map, string_bytes}
use Rattle.wgsl_tree_unit.proofs.extensions.clone_names.Given as goal

abbrev pub invariant-names : goal.invariant-names
invariant-names l = map string_bytes l.copied.items ≡ map string_bytes (take l.name-index l.name-items)
