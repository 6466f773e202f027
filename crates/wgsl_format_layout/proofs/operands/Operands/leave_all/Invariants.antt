use Rattle.std.proofs.Common.{◌≡◌, length}
use Rattle.wgsl_model_tidy.specs.Open.{outside_operands}
use Rattle.wgsl_format_layout.proofs.operands.Operands.leave_all.Given as goal

abbrev pub invariant-operands : goal.invariant-operands
invariant-operands l = outside_operands l.self ≡ outside_operands l.fn.self

abbrev pub decreases-operands : goal.decreases-operands
decreases-operands l = length l.self
