-- Written by tools/tables/tree_copies.py from crates/wgsl_model/nodes.
use Rattle.std.proofs.Common.{rules}
use Rattle.wgsl_tree_expression.specs.View.{type_expression_view}
use Rattle.wgsl_tree_attribute.proofs.Copies.{maybe_expression_copied, option_copied}
use Rattle.wgsl_tree_simple.proofs.copies_nodes.DeclarationCloneWith.clone_with.Goals as goal

pub returns : goal.returns
returns c =
    let original = c.args.self.now in
    let ty = option_copied type_expression_view original.ty _
    c.in_ok-clone_with-2.ensures.copy in
    let initializer = maybe_expression_copied original.initializer _
    c.in_ok-clone_with-3.ensures.copy in
    search rules
