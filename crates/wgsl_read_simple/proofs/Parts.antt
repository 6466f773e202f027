-- What the proofs of the parts of declarations open, and the lemmas that they cite.
use Rattle.std.specs.Prelude.{⊤}
use Rattle.grammar.specs.States.{take}
use Rattle.wgsl_theory_grammar.specs.StatementRules.{var_template_at, typed_ident_at}
use Rattle.wgsl_theory_grammar.proofs.StatementEquations.{var_template_is, typed_ident_is}
use Rattle.wgsl_read_cursor.proofs.Refused.{told}
use Rattle.wgsl_read_attribute.proofs.Settled.{wrong_told}
use Rattle.wgsl_read_attribute.proofs.Counts.{seen, space_is, other_space}
use Rattle.wgsl_read_simple.specs.Initializers.{initializer_at, maybe_initializer_at}
use Rattle.wgsl_read_simple.specs.VarKinds.{var_kind_at}

unfoldable pub definitions : ⊤
unfolding initializer_at maybe_initializer_at var_kind_at var_template_at take typed_ident_at
definitions = tt

pub ruleset lemmas = (told, wrong_told, seen, var_template_is, space_is, other_space, typed_ident_is)
