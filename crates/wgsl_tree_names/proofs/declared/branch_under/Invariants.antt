use Rattle.std.proofs.Common.{◌≡◌, drop}
use Rattle.std.specs.Option.{option_map}
use Rattle.wgsl_model_names.specs.Names.{branch_under}
use Rattle.wgsl_tree_attribute.specs.View.{attributes_view}
use Rattle.wgsl_tree_names.specs.Found.{branch_view}
use Rattle.wgsl_tree_names.proofs.declared.branch_under.Given as goal

-- what was found is of the last attributes
abbrev pub invariant-attributes : goal.invariant-attributes
invariant-attributes l =
    option_map branch_view l.branch ≡ branch_under (attributes_view (drop l.i l.attributes.items))
