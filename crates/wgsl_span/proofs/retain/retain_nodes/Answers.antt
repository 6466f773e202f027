use Rattle.std.proofs.Common.{rules, ◌+◌, ◌<◌, ◌≤◌, length, true, false, sym, ◌∙◌, subst, refl, arith, drop-set-lt, set}
use Rattle.std.proofs.lemmas.List.{take-set-le, length-set}
use borrow.Author.Rules.{of_calls}
use Rattle.std.specs.Fn.{CalledAtMut}
use Rattle.std.specs.List.Retain.{RetainsInTurn}
use Rattle.std.proofs.RetainMut.{Called-Mut, retain_mut_end}
use Rattle.wgsl_span.specs.Keeps.{NodeCalled}
use Rattle.wgsl_span.proofs.Sifts.{sift_true, sift_false, swapped_length, swapped_drop, swapped_take}
use Rattle.wgsl_span.proofs.retain.retain_nodes.Goals as goal

pub nodes-preserved-then-not-f : goal.nodes-preserved-then-not-f
nodes-preserved-then-not-f g c =
    let ys = c.nodes.nodes.items in
    let i = c.nodes.i in
    let k = c.nodes.kept in
    let x = c.index_mut.result.now in
    let R = CalledAtMut g.F.FnMut in
    let y = record x { node = record x.node { value = c.f.new.arg2 } } in
    let lt : i < length ys = search rules in
    let called : R c.nodes.f x.node.value false c.f.new.self c.f.new.arg2 =
    subst (λ b. R c.nodes.f x.node.value b c.f.new.self c.f.new.arg2) c.if-not-f.true
    (subst (λ v. R c.nodes.f v c.f.result c.f.new.self c.f.new.arg2) c.node_mut.ensures.value
    (Called-Mut g.F.FnMut c.f.ensures)) in (
      search rules,
      length-set ys i y ∙ c.nodes.invariant.1,
      search of_calls,
      sift_false (NodeCalled R) c.args.f c.args.nodes.now.items c.nodes.f c.f.new.self ys
          (set ys i y) k i x y lt c.index_mut.ensures.value c.nodes.invariant.3
          (drop-set-lt (i + 1) ys i y (omega arith)) (take-set-le k ys i y c.nodes.invariant.0)
          (called, refl),
    )

pub nodes-preserved : goal.nodes-preserved
nodes-preserved g c =
    let ys = c.nodes.nodes.items in
    let zs = c.swap.new.self.items in
    let i = c.nodes.i in
    let k = c.nodes.kept in
    let x = c.index_mut.result.now in
    let R = CalledAtMut g.F.FnMut in
    let y = record x { node = record x.node { value = c.f.new.arg2 } } in
    let lt : i < length ys = search rules in
    let called : R c.nodes.f x.node.value true c.f.new.self c.f.new.arg2 =
    subst (λ b. R c.nodes.f x.node.value b c.f.new.self c.f.new.arg2) c.if-not-f.false
    (subst (λ v. R c.nodes.f v c.f.result c.f.new.self c.f.new.arg2) c.node_mut.ensures.value
    (Called-Mut g.F.FnMut c.f.ensures)) in
    let le = c.nodes.invariant.0 in
    let at = c.swap.ensures.by_index in (
      search rules,
      swapped_length ys zs k i y le lt at ∙ c.nodes.invariant.1,
      search of_calls,
      sift_true (NodeCalled R) c.args.f c.args.nodes.now.items c.nodes.f c.f.new.self ys zs k i x y
          lt c.index_mut.ensures.value c.nodes.invariant.3
          (swapped_drop ys zs k i y le lt at) (swapped_take ys zs k i y le lt at) (called, refl),
    )

pub returns : goal.returns
returns g c =
    let xs = c.args.nodes.now.items in
    let R = NodeCalled (CalledAtMut g.F.FnMut) in
    let ended : length xs ≤ c.nodes.i = search rules in
    subst (RetainsInTurn R c.args.f xs) (sym c.truncate.ensures.items)
    (retain_mut_end R c.args.f xs c.nodes.f c.nodes.nodes.items c.nodes.kept c.nodes.i ended c.nodes.invariant.3)
