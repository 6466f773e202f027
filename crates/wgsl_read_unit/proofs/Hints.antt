-- The definitions that the proofs of the functions open, and the lemmas that they cite.
use Rattle.std.specs.Prelude.{⊤}
use Rattle.wgsl_theory_grammar.specs.UnitRules.{function_part_at, formal_parameter_at, unit_at, attributed_part_at, led_part_at}
use Rattle.wgsl_theory_grammar.specs.StatementRules.{assert_part_at}
use Rattle.wgsl_read_unit.specs.Parts.{return_part_at, assert_declaration_at, declaration_part_at, declaration_after_at}
use Rattle.wgsl_read_unit.proofs.Turns.{parameters_turn, further_turn, parameters_is, parameters_are, further_are}
use Rattle.wgsl_read_unit.proofs.Declarations.{void_at, attributed_at, global_declaration_parts, global_declaration_by_parts}
use Rattle.wgsl_read_unit.proofs.Front.{front_turn, front_are, front_from_none}
use Rattle.grammar.specs.States.{take}
use Rattle.wgsl_theory_grammar.proofs.UnitEquations.{function_part_is, formal_parameter_is, unit_is, attributed_part_is, led_part_is}
use Rattle.wgsl_theory_grammar.proofs.StatementEquations.{assert_part_is}
use Rattle.wgsl_read_unit.proofs.Results.{function_parts_is}
use Rattle.std.proofs.lemmas.List.{map_push}

unfoldable pub definitions : ⊤
unfolding function_part_at return_part_at parameters_turn take formal_parameter_at unit_at
    front_turn further_turn global_declaration_parts void_at attributed_at declaration_after_at
    declaration_part_at attributed_part_at led_part_at assert_declaration_at assert_part_at
definitions = tt

pub ruleset lemmas = (
  function_part_is,
  function_parts_is,
  parameters_is,
  parameters_are,
  map_push,
  formal_parameter_is,
  unit_is,
  front_are,
  front_from_none,
  further_are,
  global_declaration_by_parts,
  attributed_part_is,
  led_part_is,
  assert_part_is,
)
