use Rattle.wgsl_program.proofs.Written.{wrote_all, wrote_some}
use Rattle.wgsl_program.proofs.text.put.Goals as goal

pub returns-in-Ok : goal.returns-in-Ok
returns-in-Ok g c = wrote_all _ _ _ _ (c.in-Ok.ensures.all)

pub returns-in-Err : goal.returns-in-Err
returns-in-Err g c = wrote_some _ _ _ c.send.ensures.some.0 c.send.ensures.some.1
