use Rattle.wgsl_format.proofs.Told.{told_to_errors}
use Rattle.wgsl_format.proofs.printing.start_with.Goals as goal

pub returns-clause-told : goal.returns-clause-told
returns-clause-told g c = λ _. told_to_errors _ _ _ _ _ _ c.tell.ensures.1 c.tell.ensures.2
