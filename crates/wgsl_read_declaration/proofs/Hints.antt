-- The definitions that the proofs of the functions open, and the lemmas that they cite.
use Rattle.std.specs.Prelude.{⊤}
use Rattle.wgsl_theory_grammar.specs.UnitRules.{directive_part_at, diagnostic_part_at, diagnostic_severity_at, struct_part_at, struct_member_at, var_part_at, override_part_at, const_part_at, alias_part_at}
use Rattle.grammar.specs.States.{take}
use Rattle.wgsl_read_declaration.proofs.Directives.{global_directive_parts, global_directive_by_parts}
use Rattle.wgsl_read_declaration.proofs.Names.{enable_part_at, requires_part_at, first_names, names_turn, enable_part_is, requires_part_is, names_is, names_are, rule_of_is}
use Rattle.wgsl_read_declaration.specs.Parts.{second_name_at}
use Rattle.wgsl_read_declaration.proofs.Turns.{members_at, members_turn, members_is, members_are}
use Rattle.wgsl_read_simple.specs.VarKinds.{var_kind_at}
use Rattle.wgsl_read_simple.specs.Initializers.{maybe_initializer_at}
use Rattle.wgsl_theory_grammar.proofs.UnitEquations.{directive_part_is, diagnostic_part_is, diagnostic_severity_is, struct_part_is, struct_member_is, var_part_is, override_part_is, const_part_is, alias_part_is}
use Rattle.std.proofs.lemmas.List.{map_push}

unfoldable pub definitions : ⊤
unfolding global_directive_parts directive_part_at diagnostic_part_at diagnostic_severity_at take
    enable_part_at requires_part_at first_names names_turn second_name_at struct_part_at members_at
    members_turn struct_member_at var_part_at var_kind_at maybe_initializer_at override_part_at
    const_part_at alias_part_at
definitions = tt

pub ruleset lemmas = (
  global_directive_by_parts,
  directive_part_is,
  diagnostic_part_is,
  diagnostic_severity_is,
  enable_part_is,
  requires_part_is,
  names_is,
  names_are,
  map_push,
  rule_of_is,
  struct_part_is,
  members_is,
  members_are,
  struct_member_is,
  var_part_is,
  override_part_is,
  const_part_is,
  alias_part_is,
)
