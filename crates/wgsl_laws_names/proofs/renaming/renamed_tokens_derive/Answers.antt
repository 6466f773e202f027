-- The law is proved in the theory.
use Rattle.wgsl_theory_names.proofs.Derived.Derivations.{unit_renames}
use Rattle.wgsl_laws_names.proofs.renaming.renamed_tokens_derive.Goals as goal

pub returns : goal.returns
returns c = unit_renames
