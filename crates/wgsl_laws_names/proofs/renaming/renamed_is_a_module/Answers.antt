-- The law is proved in the theory.
use Rattle.wgsl_theory_names.proofs.Lexed.Modules.{renamed_module}
use Rattle.wgsl_laws_names.proofs.renaming.renamed_is_a_module.Goals as goal

pub returns : goal.returns
returns c = λ source unit h f fixes gives.
    let m = renamed_module source unit h f fixes gives in (m.text, m.its_unit, m.is_unit, m.same)
