-- The definitions that the proofs of the functions open, and the lemmas that they cite.
use Rattle.std.specs.Prelude.{⊤}
use Rattle.std.proofs.lemmas.List.{map_push}
use Rattle.grammar.specs.States.{take}
use Rattle.wgsl_read_attribute.specs.Known.{checked_attribute}
use Rattle.wgsl_read_attribute.specs.Rules.{attributes_turn, optional_arguments_at}
use Rattle.wgsl_read_cursor.proofs.Refused.{told}
use Rattle.wgsl_read_attribute.proofs.Settled.{wrong_told}
use Rattle.wgsl_read_attribute.proofs.Counts.{seen, with_one_is, builtin_is, diagnostic_is, interpolate_is, workgroup_size_is, type_is}
use Rattle.wgsl_read_attribute.proofs.Equations.{attribute_list_is, attributes_are, attribute_node_is, attribute_parts_is, taken_is}

unfoldable pub definitions : ⊤
unfolding attributes_turn optional_arguments_at take
definitions = tt

-- what is opened where attributes are made, and only there
unfoldable pub making : ⊤
unfolding checked_attribute
making = tt

pub ruleset lemmas = (
  told,
  wrong_told,
  seen,
  attribute_list_is,
  attributes_are,
  map_push,
  attribute_node_is,
  attribute_parts_is,
  taken_is,
  with_one_is,
  builtin_is,
  diagnostic_is,
  interpolate_is,
  workgroup_size_is,
  type_is,
)
