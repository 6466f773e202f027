use Rattle.std.proofs.Common.{refl}
use Rattle.wgsl_diff.specs.Diffs.{added}
use Rattle.wgsl_diff.specs.declared.line.Line.TheVariants.{Added}
use Rattle.wgsl_diff.proofs.Building.{pushed_more}
use Rattle.wgsl_diff.proofs.matching.push_added.Goals as goal

pub loop-text-preserved : goal.loop-text-preserved
loop-text-preserved c =
    pushed_more Added added (λ text. refl) c.args.lines.now.items c.loop-text.lines.items c.push.new.self.items
    c.args.texts.now c.loop-text.text-index _ c.loop-text-test.true c.in_ok-push.ensures.items c.loop-text.invariant
