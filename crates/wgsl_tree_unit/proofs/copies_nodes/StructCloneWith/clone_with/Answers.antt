-- Written by tools/tables/tree_copies.py from crates/wgsl_model/nodes.
use Rattle.std.proofs.Common.{rules}
use Rattle.wgsl_tree_unit.specs.View.{member_view}
use Rattle.wgsl_tree_attribute.proofs.Copies.{nodes_copied}
use Rattle.wgsl_tree_unit.proofs.copies_nodes.StructCloneWith.clone_with.Goals as goal

pub returns : goal.returns
returns c =
    let original = c.args.self.now in
    let members = nodes_copied member_view original.members.items _
    c.in_ok-clone_with-2.ensures.copy in
    search rules
