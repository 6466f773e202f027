use Rattle.std.proofs.Common.{◌≡◌}
use Rattle.wgsl_files.proofs.walk.Found.find.Given as goal

abbrev pub invariant-loop-entry : goal.invariant-loop-entry
invariant-loop-entry g l = l.self.root ≡ l.initial.self.root
