-- The law is proved in the theory.
use Rattle.wgsl_theory_names.proofs.Derived.RenamedWords.{renamed_parse}
use Rattle.wgsl_laws_names.proofs.renaming.renamed_canonical_parse.Goals as goal

pub returns : goal.returns
returns c = renamed_parse
