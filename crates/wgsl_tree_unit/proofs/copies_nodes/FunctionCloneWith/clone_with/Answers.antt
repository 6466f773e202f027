-- Written by tools/tables/tree_copies.py from crates/wgsl_model/nodes.
use Rattle.std.proofs.Common.{rules}
use Rattle.wgsl_tree_unit.specs.View.{parameter_view}
use Rattle.wgsl_tree_expression.specs.View.{type_expression_view}
use Rattle.wgsl_tree_attribute.proofs.Copies.{items_copied, option_copied}
use Rattle.wgsl_tree_unit.proofs.copies_nodes.FunctionCloneWith.clone_with.Goals as goal

pub returns : goal.returns
returns c =
    let original = c.args.self.now in
    let parameters = items_copied parameter_view original.parameters.items _
    c.in_ok-clone_with-2.ensures.copy in
    let return_type = option_copied type_expression_view original.return_type _
    c.in_ok-clone_with-3.ensures.copy in
    search rules
