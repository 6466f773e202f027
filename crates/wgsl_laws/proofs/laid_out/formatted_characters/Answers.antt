-- The law is proved in the theory.
use Rattle.wgsl_theory_tidy.proofs.Kept.Kept.{characters}
use Rattle.wgsl_laws.proofs.laid_out.formatted_characters.Goals as goal

pub returns : goal.returns
returns c = characters
