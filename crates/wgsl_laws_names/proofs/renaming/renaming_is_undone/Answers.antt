-- The law is proved in the theory.
use Rattle.wgsl_theory_names.proofs.Undone.{unit_undone}
use Rattle.wgsl_laws_names.proofs.renaming.renaming_is_undone.Goals as goal

pub returns : goal.returns
returns c = λ unit f g undoes. unit_undone f g unit undoes
