-- The law is proved in the theory.
use Rattle.wgsl_theory_names.proofs.Kept.{unit_renames, unit_keeps}
use Rattle.wgsl_laws_names.proofs.renaming.renaming_keeps_referents.Goals as goal

pub returns-clause-renamed : goal.returns-clause-renamed
returns-clause-renamed c = unit_renames

pub returns-clause-same : goal.returns-clause-same
returns-clause-same c = unit_keeps
