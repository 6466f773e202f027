use Rattle.std.proofs.Common.{◌≤◌, ◌-◌, ◌+◌, ◌++◌, List, length, map, drop}
use Rattle.wgsl_diff.specs.Diffs as plain
use Rattle.wgsl_diff.specs.View.{line_view, texts_of}
use Rattle.wgsl_diff.proofs.Scripts.{Completes}
use Rattle.wgsl_diff.proofs.matching.script.Given as goal

-- lines of what is left of both texts complete those so far
abbrev pub invariant-loop-i : goal.invariant-loop-i
invariant-loop-i l = record {
  i_within : l.i ≤ length l.before;
  j_within : l.j ≤ length l.after;
  completes : (more : List plain.Line)
      → Completes (texts_of (drop l.i l.before)) (texts_of (drop l.j l.after)) more
      → Completes (texts_of l.before) (texts_of l.after) (map line_view l.lines.items ++ more);
}

abbrev pub decreases-loop-i : goal.decreases-loop-i
decreases-loop-i l = (length l.before - l.i) + (length l.after - l.j)
