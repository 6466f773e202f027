-- Written by tools/tables/tree_copies.py from crates/wgsl_model/nodes.
use Rattle.std.proofs.Common.{rules}
use Rattle.wgsl_tree_attribute.proofs.Copies.{maybe_expressions_copied}
use Rattle.wgsl_tree_attribute.proofs.copies_nodes.CustomAttributeCloneWith.clone_with.Goals as goal

pub returns : goal.returns
returns c =
    let original = c.args.self.now in
    let arguments = maybe_expressions_copied original.arguments _
    c.in_ok-clone_with.ensures.copy in
    search rules
