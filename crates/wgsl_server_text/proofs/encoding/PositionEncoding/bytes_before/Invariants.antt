use Rattle.std.proofs.Common.{◌≡◌}
use Rattle.wgsl_server_text.specs.Positions.{bytes_before}
use Rattle.wgsl_server_text.proofs.Reached.{so_far}
use Rattle.wgsl_server_text.proofs.encoding.PositionEncoding.bytes_before.Given as goal

-- what is before the character in what is left is what is before it
abbrev pub invariant-loop-at : goal.invariant-loop-at
invariant-loop-at l = so_far l.self l.left l.line l.at ≡ bytes_before l.self l.character l.line
