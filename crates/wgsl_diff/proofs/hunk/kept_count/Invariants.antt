use Rattle.std.proofs.Common.{◌≡◌, map, take}
use Rattle.wgsl_diff.specs.Diffs.{AllKept}
use Rattle.wgsl_diff.specs.View.{line_view}
use Rattle.wgsl_diff.proofs.hunk.kept_count.Given as goal

abbrev pub invariant-loop-line : goal.invariant-loop-line
invariant-loop-line l = record {
  counted : l.count ≡ l.line-index;
  kept : AllKept (map line_view (take l.line-index l.lines));
}
