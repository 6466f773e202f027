use Rattle.wgsl_diff.specs.View.{texts_of}
use Rattle.wgsl_diff.proofs.Nearest.{Differ, DifferAt}
use Rattle.wgsl_diff.proofs.matching.change_at.Given as goal

abbrev pub invariant-loop-distance : goal.invariant-loop-distance
invariant-loop-distance l = Differ (texts_of l.before) (texts_of l.after) l.distance

abbrev pub invariant-loop-removed : goal.invariant-loop-removed
invariant-loop-removed l = DifferAt (texts_of l.before) (texts_of l.after) l.distance l.removed
