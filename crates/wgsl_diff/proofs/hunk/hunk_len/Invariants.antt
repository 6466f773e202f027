use Rattle.wgsl_diff.proofs.Shown.{IsShown}
use Rattle.wgsl_diff.proofs.hunk.hunk_len.Given as goal

abbrev pub invariant-loop-at : goal.invariant-loop-at
invariant-loop-at l = IsShown l.lines l.end l.at
