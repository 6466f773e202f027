-- Written by tools/tables/renamed_trees.py from crates/wgsl_model/nodes.
use Rattle.std.proofs.Common.{ap}
use Rattle.wgsl_model.specs.Trees.Attributed.{Attributed, with_attributes}
use Rattle.wgsl_model.specs.Trees.Units as plain
use Rattle.wgsl_tree_renamed.proofs.unit_nodes.DiagnosticDirectiveRename.renamed.Goals as goal

pub returns : goal.returns
returns c =
    let node = ap (λ (d : Attributed plain.DiagnosticDirective). d.node) c.in_ok-copy.ensures.copy in
    λ i. with_attributes (c.in_ok-copy-2.ensures i) (plain.diagnostic (node i))
