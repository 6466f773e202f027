-- Written by tools/tables/renamed_trees.py from crates/wgsl_model/nodes.
use Rattle.std.proofs.Common.{ap}
use Rattle.wgsl_model.specs.Trees.Attributed.{Attributed, with_attributes}
use Rattle.wgsl_model.specs.Trees.Units as plain
use Rattle.wgsl_tree_renamed.proofs.unit_nodes.RequiresDirectiveRename.renamed.Goals as goal

pub returns : goal.returns
returns c =
    let node = ap (λ (d : Attributed plain.RequiresDirective). d.node) c.in_ok-copy.ensures.copy in
    λ i. with_attributes (c.in_ok-copy-2.ensures i) (plain.requires (node i))
