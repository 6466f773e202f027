-- The definitions that the proofs of the functions open, and the lemmas that they cite.
use Rattle.std.specs.Prelude.{⊤}
use Rattle.wgsl_lex_templates.proofs.Advancing.Rules.{whole_list_at, whole_rest_at}
use Rattle.wgsl_lex_templates.specs.Advancing.{bitwise_operands, take_any, take}
use Rattle.wgsl_lex_templates.proofs.Advancing.Equations.{bitwise_more_is}
use Rattle.wgsl_lex_templates.proofs.Advancing.Operands.{whole_list_is, whole_rest_is, no_kinds, some_left, none_left}
use Rattle.wgsl_lex_templates.proofs.Advancing.Operators.{first_is, further_is, relation_is, chain_is, expression_rest_opened}
use Rattle.wgsl_lex_templates.proofs.Advancing.Steps.{operand_is, name_is, template_is, part_is}
use Rattle.wgsl_lex_templates.proofs.Advancing.Decided.{decided, one_decided}

unfoldable pub of_kinds : ⊤
unfolding take_any take
of_kinds = tt

unfoldable pub of_operators : ⊤
unfolding bitwise_operands
of_operators = tt

unfoldable pub of_lists : ⊤
unfolding whole_list_at whole_rest_at
of_lists = tt

pub ruleset operators = (
  first_is,
  further_is,
  relation_is,
  chain_is,
  expression_rest_opened,
  bitwise_more_is,
)

pub ruleset steps = (operand_is, name_is, template_is, part_is)

pub ruleset lists = (whole_list_is, whole_rest_is, no_kinds, some_left, none_left, decided, one_decided)
