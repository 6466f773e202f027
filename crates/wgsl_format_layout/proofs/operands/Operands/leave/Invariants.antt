use Rattle.std.proofs.Common.{◌≡◌, length}
use Rattle.wgsl_model_tidy.specs.Open.{up_to}
use Rattle.wgsl_format_layout.proofs.operands.Operands.leave.Given as goal

abbrev pub invariant-operands : goal.invariant-operands
invariant-operands l = up_to l.precedence l.self ≡ up_to l.precedence l.fn.self

abbrev pub decreases-operands : goal.decreases-operands
decreases-operands l = length l.self
