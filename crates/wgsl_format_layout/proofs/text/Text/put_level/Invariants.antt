use Rattle.std.proofs.Common.{◌+◌, ◌*◌, ◌/◌, replicate}
use Rattle.wgsl_format_layout.specs.Lines.{Adds}
use Rattle.wgsl_format_layout.proofs.text.Text.put_level.Given as goal

abbrev pub invariant-fours : goal.invariant-fours
invariant-fours l = Adds l.fn.self (replicate (4 * l.counter) 32) l.self

abbrev pub invariant-ones : goal.invariant-ones
invariant-ones l = Adds l.fn.self (replicate (4 * (l.count / 4) + l.counter) 32) l.self
