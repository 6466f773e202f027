use Rattle.std.proofs.Common.{◌≡◌, ◌≤◌, ◌-◌, ◌++◌, take, drop}
use Rattle.wgsl_diff.specs.Lines.{lines_of}
use Rattle.wgsl_diff.specs.View.{texts_of}
use Rattle.wgsl_diff.proofs.Pending.{before_all}
use Rattle.wgsl_diff.proofs.lines.lines_of.Given as goal

-- the lines so far, and those of what is pending and what is left
abbrev pub invariant-loop-at : goal.invariant-loop-at
invariant-loop-at l = record {
  within : l.start ≤ l.at;
  whole : texts_of l.lines.items ++ before_all (take (l.at - l.start) (drop l.start l.text))
      (lines_of (drop l.at l.text)) ≡ lines_of l.text;
}
