use Rattle.wgsl_format.proofs.Told.{told_to_errors}
use Rattle.wgsl_format.proofs.streams.refuse_memory.Goals as goal

pub returns : goal.returns
returns g c = told_to_errors _ _ _ _ _ _ c.tell.ensures.1 c.tell.ensures.2
