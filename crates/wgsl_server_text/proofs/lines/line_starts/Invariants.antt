use Rattle.std.proofs.Common.{◌≡◌, ◌++◌, drop}
use Rattle.wgsl_server_text.specs.Lines.{starts_from, line_starts}
use Rattle.wgsl_server_text.proofs.lines.line_starts.Given as goal

-- where lines begin so far, and in what is left
abbrev pub invariant-loop-at : goal.invariant-loop-at
invariant-loop-at l = l.starts.items ++ starts_from l.at (drop l.at l.text) ≡ line_starts l.text
