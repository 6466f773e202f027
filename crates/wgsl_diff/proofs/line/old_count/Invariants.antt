use Rattle.std.proofs.Common.{◌≡◌, ◌+◌, ◌≤◌, length, map, drop}
use Rattle.wgsl_diff.specs.Diffs.{old_lines}
use Rattle.wgsl_diff.specs.View.{line_view}
use Rattle.wgsl_diff.proofs.line.old_count.Given as goal

-- what was counted and what is left are all
abbrev pub invariant-loop-line : goal.invariant-loop-line
invariant-loop-line l = record {
  counted : l.count + length (old_lines (map line_view (drop l.line-index l.lines)))
      ≡ length (old_lines (map line_view l.lines));
  bound : l.count ≤ l.line-index;
}
