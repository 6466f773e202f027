use Rattle.std.proofs.Common.{◌≡◌, ◌+◌, ◌*◌, ◌≤◌, drop}
use Rattle.wgsl_server_text.specs.Positions.{width}
use Rattle.wgsl_server_text.proofs.encoding.PositionEncoding.width.Given as goal

-- the units so far, and those of what is left
abbrev pub invariant-loop-byte : goal.invariant-loop-byte
invariant-loop-byte l = record {
  so_far : l.width + width l.self (drop l.byte-index l.bytes) ≡ width l.self l.bytes;
  small : l.width ≤ 2 * l.byte-index;
}
