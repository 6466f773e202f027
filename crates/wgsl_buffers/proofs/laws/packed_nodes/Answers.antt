use Rattle.wgsl_buffers.proofs.PackedKinds.{packed_prints}
use Rattle.wgsl_buffers.proofs.laws.packed_nodes.Goals as goal

pub returns : goal.returns
returns c = packed_prints
