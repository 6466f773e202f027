-- Written by tools/tables/tree_copies.py from crates/wgsl_model/nodes.
use Rattle.std.proofs.Common.{rules}
use Rattle.wgsl_tree_expression.specs.View.{type_expression_view}
use Rattle.wgsl_tree_attribute.proofs.Copies.{items_copied}
use Rattle.wgsl_tree_attribute.proofs.copies_nodes.TypeConstraintCloneWith.clone_with.Goals as goal

pub returns : goal.returns
returns c =
    let original = c.args.self.now in
    let variants = items_copied type_expression_view original.variants.items _
    c.in_ok-clone_with-2.ensures.copy in
    search rules
