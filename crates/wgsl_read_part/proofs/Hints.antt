-- The definitions that the proofs of the functions open, and the lemmas that they cite.
use Rattle.std.specs.Prelude.{⊤}
use Rattle.wgsl_read_part.specs.Plain.{break_if_rest_at, break_part_at, unplaced_plain_at, ended_kinds_at, assert_statement_at, init_kinds_at, init_statement_at, update_statement_at}
use Rattle.wgsl_read_part.specs.Clauses.{clause_head_at, maybe_colon_at}
use Rattle.grammar.specs.States.{take}
use Rattle.wgsl_read_part.proofs.Selectors.{selectors_parts, selectors_turn, selectors_by_parts, selectors_are}
use Rattle.wgsl_read_part.proofs.EndedStatements.{plain_statement_parts, for_init_parts, for_update_parts, plain_statement_by_parts, ended_after, for_init_by_parts, for_update_by_parts}
use Rattle.wgsl_theory_grammar.specs.StatementRules.{case_selector_at, init_part_at, condition_part_at, update_part_at, assert_part_at}
use Rattle.wgsl_read_part.specs.Heads.{for_header_at, condition_at, block_start_at, block_start_after_at, switch_head_at}
use Rattle.wgsl_tree_statement.proofs.Views.{is_break, is_const_assert}
use Rattle.std.proofs.lemmas.List.{map_push}
use Rattle.wgsl_theory_grammar.proofs.StatementEquations.{case_selector_is, init_part_is, condition_part_is, update_part_is, assert_part_is}

unfoldable pub definitions : ⊤
unfolding break_if_rest_at clause_head_at take maybe_colon_at selectors_parts selectors_turn
    case_selector_at for_header_at init_part_at for_init_parts init_statement_at init_kinds_at
    condition_part_at update_part_at for_update_parts update_statement_at condition_at
    block_start_at block_start_after_at switch_head_at break_part_at plain_statement_parts
    unplaced_plain_at ended_kinds_at assert_statement_at assert_part_at
definitions = tt

pub ruleset lemmas = (
  is_break,
  selectors_by_parts,
  selectors_are,
  map_push,
  case_selector_is,
  init_part_is,
  for_init_by_parts,
  condition_part_is,
  update_part_is,
  for_update_by_parts,
  plain_statement_by_parts,
  ended_after,
  assert_part_is,
  is_const_assert,
)
