use Rattle.std.proofs.Common.{◌≡◌, ◌++◌, map, ◌+◌, length, drop}
use Rattle.wgsl_model_packed.specs.Expressions.{packed_items}
use Rattle.wgsl_tree_packed.proofs.traits.pack_list.Given as goal

-- how many items are left, and what is left to write of them
abbrev pub invariant-items : goal.invariant-items
invariant-items g l =
    (l.left + l.item-index ≡ length l.item-items)
    × (l.out.items ++ packed_items l.before l.last g.T.Pack.packed
    (map g.T.Pack.view (drop l.item-index l.item-items))
    ≡ l.initial.out.items ++ packed_items l.before l.last g.T.Pack.packed
    (map g.T.Pack.view l.item-items))
