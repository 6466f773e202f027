use Rattle.std.proofs.Common.{◌≡◌}
use Rattle.wgsl_server_protocol.specs.Heads.{head_end}
use Rattle.wgsl_server_protocol.proofs.Ends.{so_far}
use Rattle.wgsl_server_protocol.proofs.head.head_end.Given as goal

-- where the fields end in what is left is where they end
abbrev pub invariant-loop-at : goal.invariant-loop-at
invariant-loop-at l = so_far l.bytes l.at ≡ head_end l.bytes
