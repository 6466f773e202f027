use Rattle.std.proofs.Common.{◌≤◌, ◌-◌, ◌++◌, List, length, map, drop}
use Rattle.std.specs.List.{All}
use Rattle.wgsl_diff.specs.Diffs as plain
use Rattle.wgsl_diff.specs.Diffs.{AreHunks}
use Rattle.wgsl_diff.specs.View.{line_view, hunk_view, IsSmall}
use Rattle.wgsl_diff.proofs.hunk.hunks.Given as goal

-- hunks of the lines that are left complete those so far
abbrev pub invariant-loop-at : goal.invariant-loop-at
invariant-loop-at l = record {
  within : l.at ≤ length l.lines;
  old_within : l.old_start ≤ l.at;
  new_within : l.new_start ≤ l.at;
  small : All IsSmall l.hunks.items;
  hunks : (more : List plain.Hunk) → AreHunks l.old_start l.new_start more (map line_view (drop l.at l.lines))
      → AreHunks 0 0 (map hunk_view l.hunks.items ++ more) (map line_view l.lines);
}

abbrev pub decreases-loop-at : goal.decreases-loop-at
decreases-loop-at l = length l.lines - l.at
