-- Written by tools/tables/tree_copies.py from crates/wgsl_model/nodes.
use Rattle.std.proofs.Common.{rules}
use Rattle.wgsl_tree_unit.specs.View.{global_declaration_view}
use Rattle.wgsl_tree_unit.specs.View.{global_directive_view}
use Rattle.wgsl_tree_attribute.proofs.Copies.{items_copied, nodes_copied}
use Rattle.wgsl_tree_unit.proofs.copies_nodes.TranslationUnitCloneWith.clone_with.Goals as goal

pub returns : goal.returns
returns c =
    let original = c.args.self.now in
    let global_directives = items_copied global_directive_view original.global_directives.items _
    c.in_ok-clone_with.ensures.copy in
    let global_declarations = nodes_copied global_declaration_view original.global_declarations.items _
    c.in_ok-clone_with-2.ensures.copy in
    search rules
