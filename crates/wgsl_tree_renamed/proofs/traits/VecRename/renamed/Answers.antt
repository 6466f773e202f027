use Rattle.std.proofs.Common.{rules, ◌∙◌, ap, map}
use Rattle.std.proofs.lemmas.List.{take_all}
use Rattle.wgsl_tree_renamed.specs.NewNames.{renaming_by}
use Rattle.wgsl_tree_renamed.proofs.Lists.{item_more}
use Rattle.wgsl_tree_renamed.proofs.traits.VecRename.renamed.Goals as goal

pub items-preserved : goal.items-preserved
items-preserved g c =
    ap (map g.T.Rename.view) c.in_ok-push.ensures.items
    ∙ item_more g.T.Rename.view (g.T.Rename.changed (renaming_by c.args.names.now))
    c.deref-item-items.result.now c.items.copies.items c.items.item-index c.item-item.result
    c.in_ok-renamed.field-0 (search rules) c.item-item.is c.items.invariant c.in_ok-renamed.ensures

pub returns : goal.returns
returns g c = c.items.invariant ∙ ap (λ xs. map (g.T.Rename.changed (renaming_by c.args.names.now))
    (map g.T.Rename.view xs))
    (take_all _ c.deref-item-items.result.now c.items-test.false ∙ c.deref-item-items.ensures.value)
