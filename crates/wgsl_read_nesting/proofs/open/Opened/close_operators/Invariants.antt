use Rattle.std.proofs.Common.{◌≡◌, length}
use Rattle.wgsl_read_nesting.specs.Nesting.{without_operators}
use Rattle.wgsl_read_nesting.proofs.open.Opened.close_operators.Given as goal

abbrev pub invariant-operators : goal.invariant-operators
invariant-operators l = without_operators l.self ≡ without_operators l.fn.self

abbrev pub decreases-operators : goal.decreases-operators
decreases-operators l = length l.self
