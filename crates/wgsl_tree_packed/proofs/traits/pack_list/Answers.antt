use Rattle.std.proofs.Common.{arith}
use Rattle.wgsl_tree_packed.proofs.Lists.{item_written}
use Rattle.wgsl_tree_packed.proofs.traits.pack_list.Goals as goal

pub items-preserved : goal.items-preserved
items-preserved g c = (
  omega arith,
  item_written _ _ g.T.Pack.packed g.T.Pack.view c.deref-item-items.result.now c.items.item-index _ _
      c.item-item.result _ _ _ _ c.items-test.true c.item-item.is (omega arith) c.item_rule.ensures
      c.in_ok-pack_rule.ensures c.in_ok-pack.ensures c.items.invariant.1,
)
