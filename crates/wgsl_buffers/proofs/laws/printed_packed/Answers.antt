use Rattle.wgsl_buffers.proofs.PrintedForms.{packed_as_formatted}
use Rattle.wgsl_buffers.proofs.laws.printed_packed.Goals as goal

pub returns : goal.returns
returns c = packed_as_formatted
