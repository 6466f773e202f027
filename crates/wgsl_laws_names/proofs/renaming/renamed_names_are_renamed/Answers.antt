-- The law is proved in the theory.
use Rattle.wgsl_theory_names.proofs.Kept.{unit_spelled}
use Rattle.wgsl_laws_names.proofs.renaming.renamed_names_are_renamed.Goals as goal

pub returns : goal.returns
returns c = unit_spelled
