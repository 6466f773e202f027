use Rattle.std.proofs.Common.{◌≡◌, map, take}
use Rattle.wgsl_tree_renamed.specs.NewNames.{renaming_by}
use Rattle.wgsl_tree_renamed.proofs.traits.VecRename.renamed.Given as goal

abbrev pub invariant-items : goal.invariant-items
invariant-items g l = map g.T.Rename.view l.copies.items
    ≡ map (g.T.Rename.changed (renaming_by l.names)) (map g.T.Rename.view (take l.item-index l.item-items))
