use Rattle.std.proofs.Common.{refl}
use Rattle.wgsl_tree_simple.proofs.Writes.{◌▸◌}
use Rattle.wgsl_tree_simple.proofs.parts.write_start.Goals as goal

pub returns : goal.returns
returns g c = λ ok. c.in_ok-write_attribute_line.ensures refl ▸ c.write_piece.ensures ok
