use Rattle.wgsl_buffers.proofs.PackedKinds.{packed_has_json}
use Rattle.wgsl_buffers.proofs.laws.packed_json.Goals as goal

pub returns : goal.returns
returns c = packed_has_json
