-- The definitions that the proofs of the functions open, and the lemmas that they cite.
use Rattle.std.specs.Prelude.{⊤}
use Rattle.wgsl_theory_grammar.specs.ExpressionRules.{arguments_at, component_at, type_specifier_at, template_list_at}
use Rattle.wgsl_read_expression.proofs.Turns.{arguments_turn, whole_expression_at, expression_turn, bitwise_turn, relation_turn, logical_turn, relational_at, singular_at, components_after, placed_primary_at, components_turn, shift_at, sum_turn, factors_turn, summands_turn, product_at, negated_product_at, products_turn, template_items_turn, unary_at}
use Rattle.grammar.specs.States.{take}
use Rattle.wgsl_read_expression.specs.Rules.{logical_at, unary_operator_at, multiplicative_operator_at, additive_operator_at, relational_operator_at, primary_at, call_or_type_at, parenthesized_expression_at, component_after, summand_at, optional_template_list_at}
use Rattle.wgsl_theory_grammar.proofs.ExpressionEquations.{arguments_is, component_is, type_specifier_is, template_list_is}
use Rattle.wgsl_read_expression.proofs.Equations.{argument_rest_is, arguments_are, expression_is, expression_after_is, operand_alone, bitwise_are, relation_is, logical_are, relational_expression_is, singular_expression_is, primary_expression_is, components_are, shift_expression_is, sum_is, factors_are, summands_are, multiplicative_expression_is, negated_expression_is, products_are, template_items_is, template_items_are, unary_expression_is}
use Rattle.std.proofs.lemmas.List.{map_push}
use Rattle.wgsl_read_expression.proofs.Calls.{call_is}

unfoldable pub definitions : ⊤
unfolding arguments_at arguments_turn take whole_expression_at expression_turn bitwise_turn
    relation_turn logical_at logical_turn relational_at unary_operator_at multiplicative_operator_at
    additive_operator_at relational_operator_at singular_at components_after placed_primary_at
    primary_at call_or_type_at parenthesized_expression_at components_turn component_after component_at
    shift_at sum_turn factors_turn summands_turn summand_at product_at negated_product_at products_turn
    type_specifier_at optional_template_list_at template_list_at template_items_turn unary_at
definitions = tt

pub ruleset lemmas = (
  arguments_is,
  argument_rest_is,
  arguments_are,
  map_push,
  expression_is,
  expression_after_is,
  operand_alone,
  bitwise_are,
  relation_is,
  logical_are,
  relational_expression_is,
  call_is,
  singular_expression_is,
  primary_expression_is,
  components_are,
  component_is,
  shift_expression_is,
  sum_is,
  factors_are,
  summands_are,
  multiplicative_expression_is,
  negated_expression_is,
  products_are,
  type_specifier_is,
  template_list_is,
  template_items_is,
  template_items_are,
  unary_expression_is,
)
