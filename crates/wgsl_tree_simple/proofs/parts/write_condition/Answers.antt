use Rattle.std.proofs.Common.{refl}
use Rattle.wgsl_tree_simple.proofs.Writes.{◌▸◌}
use Rattle.wgsl_tree_simple.proofs.parts.write_condition.Goals as goal

pub returns : goal.returns
returns g c =
    λ ok. c.in_ok-write_piece.ensures refl ▸ c.in_ok-write_expression.ensures refl ▸ c.write_piece-2.ensures ok
