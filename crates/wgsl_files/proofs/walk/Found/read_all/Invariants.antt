use Rattle.std.proofs.Common.{◌≡◌}
use Rattle.wgsl_files.proofs.walk.Found.read_all.Given as goal

abbrev pub invariant-loop : goal.invariant-loop
invariant-loop g l = l.self.root ≡ l.initial.self.root
