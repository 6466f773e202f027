use Rattle.std.proofs.Common.{◌≡◌, ◌≤◌, length}
use denote.Param.Always.{always_mut}
use Rattle.std.specs.Fn.{CalledAtMut}
use Rattle.std.proofs.RetainMut.{RetainMutInvariant}
use Rattle.wgsl_span.specs.Keeps.{NodeCalled}
use Rattle.wgsl_span.proofs.retain.retain_nodes.Given as goal

abbrev pub invariant-nodes : goal.invariant-nodes
invariant-nodes g l = (l.kept ≤ l.i) × (length l.nodes.items ≡ length l.fn.nodes.items)
    × always_mut g.F.FnMut l.f × RetainMutInvariant (NodeCalled (CalledAtMut g.F.FnMut)) l.fn.f
    l.fn.nodes.items l.f l.nodes.items l.kept l.i
