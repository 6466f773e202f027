-- The law is proved in the theory.
use Rattle.wgsl_theory_tidy.proofs.Kept.Kept.{kept}
use Rattle.wgsl_laws.proofs.laid_out.laid_out_keeps.Goals as goal

pub returns : goal.returns
returns c = kept
