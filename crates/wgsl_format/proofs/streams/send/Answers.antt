use Rattle.std.proofs.Common.{take-add, arith}
use Rattle.std.proofs.KnownBytes.{Appends-trans}
use Rattle.std.proofs.lemmas.List.{take_rest, length-drop}
use Rattle.wgsl_format.proofs.streams.send.Goals as goal

pub loop-sent-preserved : goal.loop-sent-preserved
loop-sent-preserved g c =
    let bound = rw (take_rest, length-drop) at c.in_ok-count.ensures.bound in
    let bytes = rw take_rest at c.in_ok-count.ensures.bytes in
    record {
      within = omega (arith, bound);
      written = rw take-add (Appends-trans _ _ _ _ _ c.loop-sent.invariant.written bytes);
    }
