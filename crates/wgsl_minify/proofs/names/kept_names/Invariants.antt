use Rattle.std.proofs.Common.{◌≡◌, ◌++◌, take}
use Rattle.wgsl_tree_unit.specs.View.{unit_view}
use Rattle.wgsl_minify_names.specs.View.{texts}
use Rattle.wgsl_minify.specs.Hosts.{host_names}
use Rattle.wgsl_minify.proofs.names.kept_names.Given as goal

-- those that hosts use, and the others so far
abbrev pub invariant-names : goal.invariant-names
invariant-names l = texts l.names.items ≡ host_names (unit_view l.unit) ++ texts (take l.name-index l.keep)
