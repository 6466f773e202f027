use Rattle.std.proofs.Common.{inl, inr, sym, ◌∙◌, subst, ◌+◌, arith}
use Rattle.wgsl_diff.proofs.Shown.{IsShown, shown_kept, shown_other, shown_short}
use Rattle.wgsl_diff.proofs.hunk.hunk_len.Goals as goal
use Rattle.wgsl_diff.proofs.hunk.hunk_len.Goals.{then-not-is_kept, else-not-is_kept, else-loop-at-test, then-loop-at-test+then-at-end}

pub loop-at-preserved : goal.loop-at-preserved
loop-at-preserved c =
    let lines = c.args.lines.now in
    elim c.if-not-is_kept.branch [
      | then-not-is_kept w ↦ subst (λ end. IsShown lines end (c.loop-at.at + 1)) (sym w.end-is)
          (shown_other lines c.requires c.loop-at.end c.loop-at.at _ c.loop-at-test.true c.if-at-end.false
          (sym c.is_kept.ensures ∙ w.if-not-is_kept.true) c.loop-at.invariant)
      | else-not-is_kept w ↦ subst (λ end. IsShown lines end (c.loop-at.at + 1)) (sym w.end-is)
          (shown_kept lines c.requires c.loop-at.end c.loop-at.at _ c.loop-at-test.true
          (sym c.is_kept.ensures ∙ w.if-not-is_kept.false) c.loop-at.invariant)
    ]

pub returns-clause-short : goal.returns-clause-short
returns-clause-short c =
    shown_short c.args.lines.now c.requires c.loop-at.end c.loop-at.at c.min.result c.loop-at.invariant
    c.loop-at.auto.at-end
    (elim c.loop-at-test.branch [
      | else-loop-at-test w ↦ inl w.loop-at-test.false
      | then-loop-at-test+then-at-end w ↦ inr w.if-at-end.true
    ])
    (omega (arith, c.min.ensures, c.saturating_add.ensures, c.loop-at.invariant.before, c.loop-at.auto.at-end))
