use Rattle.std.proofs.Common.{sym, ◌+◌, subst, map, take, arith}
use Rattle.wgsl_diff.specs.Diffs.{AllKept}
use Rattle.wgsl_diff.specs.View.{line_view}
use Rattle.wgsl_diff.proofs.DiffLines.{front_more, front_ends}
use Rattle.wgsl_diff.proofs.hunk.kept_count.Goals as goal

pub loop-line-preserved : goal.loop-line-preserved
loop-line-preserved c = record {
  counted = omega (arith, c.loop-line.invariant.counted);
  kept = front_more c.args.lines.now c.loop-line.line-index _ c.loop-line-test.true
      (sym c.if-not-is_kept.ensures) c.loop-line.invariant.kept;
}

pub returns-then-not-is_kept-clause-most : goal.returns-then-not-is_kept-clause-most
returns-then-not-is_kept-clause-most c = λ _ all.
    front_ends c.args.lines.now c.loop-line.line-index _ c.loop-line-test.true (sym c.if-not-is_kept.ensures)
    (subst (λ n. AllKept (map line_view (take (n + 1) c.args.lines.now))) c.loop-line.invariant.counted all)
