-- The definitions that the proofs of the functions open, and the lemmas that they cite.
use Rattle.std.specs.Prelude.{⊤}
use Rattle.wgsl_read_simple.proofs.LeftSides.{lhs_expression_parts, left_side_in_parentheses_parts, prefixed_left_side_parts, lhs_expression_by_parts, left_side_in_parentheses_by_parts, prefixed_left_side_by_parts}
use Rattle.wgsl_read_simple.specs.LeftSides.{left_name_at, unary_left_side_at, parenthesized_left_side_at}
use Rattle.grammar.specs.States.{take}
use Rattle.wgsl_read_simple.proofs.SimpleStatements.{simple_parts, parenthesized_parts, named_statement_parts, left_side_rest_parts, simple_by_parts, parenthesized_by_parts, named_statement_by_parts, left_side_rest_by_parts}
use Rattle.wgsl_theory_grammar.specs.StatementRules.{phony_part_at, returning_part_at, local_part_at, value_part_at, assert_part_at}
use Rattle.wgsl_read_simple.specs.SimpleStatements.{underscore_left_side_at, call_rest_at, maybe_template_list_at, assignment_operator_at}
use Rattle.wgsl_read_simple.specs.Initializers.{initializer_at, maybe_initializer_at}
use Rattle.wgsl_read_simple.specs.Values.{maybe_expression_at, value_kind_at, word_at}
use Rattle.wgsl_read_simple.specs.VarKinds.{var_kind_at}
use Rattle.wgsl_read_simple.proofs.Made.{parenthesized_is, unary_is, call_is}
use Rattle.wgsl_theory_grammar.proofs.StatementEquations.{phony_part_is, returning_part_is, local_part_is, value_part_is, assert_part_is}
use Rattle.wgsl_tree_statement.proofs.Views.{is_function_call, is_assignment, is_increment, is_decrement, is_return, is_declaration, is_continue, is_discard}

unfoldable pub definitions : ⊤
unfolding lhs_expression_parts left_name_at left_side_in_parentheses_parts prefixed_left_side_parts
    unary_left_side_at take parenthesized_left_side_at simple_parts parenthesized_parts
    phony_part_at underscore_left_side_at named_statement_parts call_rest_at maybe_template_list_at
    left_side_rest_parts assignment_operator_at initializer_at returning_part_at maybe_expression_at
    local_part_at var_kind_at maybe_initializer_at value_part_at value_kind_at word_at assert_part_at
definitions = tt

pub ruleset lemmas = (
  lhs_expression_by_parts,
  left_side_in_parentheses_by_parts,
  prefixed_left_side_by_parts,
  parenthesized_is,
  unary_is,
  simple_by_parts,
  parenthesized_by_parts,
  phony_part_is,
  named_statement_by_parts,
  call_is,
  is_function_call,
  left_side_rest_by_parts,
  is_assignment,
  is_increment,
  is_decrement,
  returning_part_is,
  is_return,
  local_part_is,
  is_declaration,
  value_part_is,
  is_continue,
  is_discard,
  assert_part_is,
)
