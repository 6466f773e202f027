use Rattle.std.proofs.Common.{rules}
use Rattle.wgsl_tree_unit.proofs.FullDeclarations.{retained_full}
use Rattle.wgsl_tree_unit.proofs.unit.TranslationUnit.remove_voids.Goals as goal

pub returns : goal.returns
returns c =
    let declarations = retained_full _
    (λ s x stays t y called. (search rules, search rules, called.1)) _ _ _ c.retain_nodes.ensures in
    search rules
