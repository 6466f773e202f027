-- How the calls and the loops end, and what the loops keep.
use Rattle.std.proofs.Common.{◌≡◌, ◌≤◌, ◌+◌, ◌*◌, length, map}
use Rattle.wgsl_theory_grammar.specs.Factored.{FactoredSymbol.further, Further.argument_rest, Further.template_items}
use Rattle.wgsl_theory_grammar.specs.Reader.{reader}
use Rattle.wgsl_lex_token.specs.View.{class_of_kind}
use Rattle.wgsl_tree_words.specs.View.{binary_operator_view}
use Rattle.wgsl_tree_expression.specs.View.{expression_node_view, template_arg_view}
use Rattle.wgsl_read_cursor.specs.Reading.{state}
use Rattle.wgsl_read_expression.specs.Rules.{factors_after, products_from, summands_after, bitwise_after, logical_after}
use Rattle.wgsl_read_expression.proofs.Turns.{arguments_from, template_items_from, components_after}
use Rattle.wgsl_read_expression.proofs.+expression.Given as goal

abbrev pub decreases-arguments::parse_arguments : goal.decreases-arguments::parse_arguments
decreases-arguments::parse_arguments l = 9 * length (state l.tokens.now).rest + 0

abbrev pub decreases-expression::parse_bitwise_operands : goal.decreases-expression::parse_bitwise_operands
decreases-expression::parse_bitwise_operands l = 9 * length (state l.tokens.now).rest + 0

abbrev pub decreases-expression::parse_expression : goal.decreases-expression::parse_expression
decreases-expression::parse_expression l = 9 * length (state l.tokens.now).rest + 7

abbrev pub decreases-expression::parse_expression_rest : goal.decreases-expression::parse_expression_rest
decreases-expression::parse_expression_rest l = 9 * length (state l.tokens.now).rest + 4

abbrev pub decreases-expression::parse_logical_operands : goal.decreases-expression::parse_logical_operands
decreases-expression::parse_logical_operands l = 9 * length (state l.tokens.now).rest + 0

abbrev pub decreases-expression::parse_logical_rest : goal.decreases-expression::parse_logical_rest
decreases-expression::parse_logical_rest l = 9 * length (state l.tokens.now).rest + 1

abbrev pub decreases-expression::parse_relation_rest : goal.decreases-expression::parse_relation_rest
decreases-expression::parse_relation_rest l = 9 * length (state l.tokens.now).rest + 0

abbrev pub decreases-expression::parse_relational_expression : goal.decreases-expression::parse_relational_expression
decreases-expression::parse_relational_expression l = 9 * length (state l.tokens.now).rest + 8

abbrev pub decreases-primary::parse_call_or_type : goal.decreases-primary::parse_call_or_type
decreases-primary::parse_call_or_type l = 9 * length (state l.tokens.now).rest + 2

abbrev pub decreases-primary::parse_component : goal.decreases-primary::parse_component
decreases-primary::parse_component l = 9 * length (state l.tokens.now).rest + 0

abbrev pub decreases-primary::parse_components : goal.decreases-primary::parse_components
decreases-primary::parse_components l = 9 * length (state l.tokens.now).rest + 1

abbrev pub decreases-primary::parse_parenthesized : goal.decreases-primary::parse_parenthesized
decreases-primary::parse_parenthesized l = 9 * length (state l.tokens.now).rest + 0

abbrev pub decreases-primary::parse_primary : goal.decreases-primary::parse_primary
decreases-primary::parse_primary l = 9 * length (state l.tokens.now).rest + 3

abbrev pub decreases-primary::parse_primary_expression : goal.decreases-primary::parse_primary_expression
decreases-primary::parse_primary_expression l = 9 * length (state l.tokens.now).rest + 4

abbrev pub decreases-primary::parse_singular_expression : goal.decreases-primary::parse_singular_expression
decreases-primary::parse_singular_expression l = 9 * length (state l.tokens.now).rest + 5

abbrev pub decreases-sums::parse_factors : goal.decreases-sums::parse_factors
decreases-sums::parse_factors l = 9 * length (state l.tokens.now).rest + 0

abbrev pub decreases-sums::parse_multiplicative_expression : goal.decreases-sums::parse_multiplicative_expression
decreases-sums::parse_multiplicative_expression l = 9 * length (state l.tokens.now).rest + 7

abbrev pub decreases-sums::parse_negated_expression : goal.decreases-sums::parse_negated_expression
decreases-sums::parse_negated_expression l = 9 * length (state l.tokens.now).rest + 0

abbrev pub decreases-sums::parse_product_rest : goal.decreases-sums::parse_product_rest
decreases-sums::parse_product_rest l = 9 * length (state l.tokens.now).rest + 0

abbrev pub decreases-sums::parse_shift_expression : goal.decreases-sums::parse_shift_expression
decreases-sums::parse_shift_expression l = 9 * length (state l.tokens.now).rest + 7

abbrev pub decreases-sums::parse_sum_rest : goal.decreases-sums::parse_sum_rest
decreases-sums::parse_sum_rest l = 9 * length (state l.tokens.now).rest + 3

abbrev pub decreases-sums::parse_summand : goal.decreases-sums::parse_summand
decreases-sums::parse_summand l = 9 * length (state l.tokens.now).rest + 1

abbrev pub decreases-sums::parse_summands : goal.decreases-sums::parse_summands
decreases-sums::parse_summands l = 9 * length (state l.tokens.now).rest + 2

abbrev pub decreases-types::parse_optional_template_list : goal.decreases-types::parse_optional_template_list
decreases-types::parse_optional_template_list l = 9 * length (state l.tokens.now).rest + 1

abbrev pub decreases-types::parse_template_list : goal.decreases-types::parse_template_list
decreases-types::parse_template_list l = 9 * length (state l.tokens.now).rest + 0

abbrev pub decreases-types::parse_type_specifier : goal.decreases-types::parse_type_specifier
decreases-types::parse_type_specifier l = 9 * length (state l.tokens.now).rest + 1

abbrev pub decreases-unary::parse_unary_expression : goal.decreases-unary::parse_unary_expression
decreases-unary::parse_unary_expression l = 9 * length (state l.tokens.now).rest + 6

abbrev pub invariant-arguments::parse_arguments-arguments : goal.invariant-arguments::parse_arguments-arguments
invariant-arguments::parse_arguments-arguments l =
    record {
      whole : arguments_from (map expression_node_view l.arguments.items) (state l.tokens)
          ≡ reader (further argument_rest) (state l.initial.tokens);
      shorter : length (state l.tokens).rest ≤ length (state l.initial.tokens).rest;
    }

abbrev pub decreases-arguments::parse_arguments-arguments : goal.decreases-arguments::parse_arguments-arguments
decreases-arguments::parse_arguments-arguments l = length (state l.tokens).rest

abbrev pub invariant-expression::parse_bitwise_operands-operands :
    goal.invariant-expression::parse_bitwise_operands-operands
invariant-expression::parse_bitwise_operands-operands l =
    record {
      whole : bitwise_after (class_of_kind l.kind) (binary_operator_view l.operator)
          (expression_node_view l.left) (state l.tokens) ≡ bitwise_after (class_of_kind l.kind)
          (binary_operator_view l.operator) (expression_node_view l.fn.left) (state l.fn.tokens);
      shorter : length (state l.tokens).rest ≤ length (state l.fn.tokens).rest;
    }

abbrev pub decreases-expression::parse_bitwise_operands-operands :
    goal.decreases-expression::parse_bitwise_operands-operands
decreases-expression::parse_bitwise_operands-operands l = length (state l.tokens).rest

abbrev pub invariant-expression::parse_logical_operands-operands :
    goal.invariant-expression::parse_logical_operands-operands
invariant-expression::parse_logical_operands-operands l =
    record {
      whole : logical_after (class_of_kind l.kind) (binary_operator_view l.operator)
          (expression_node_view l.left) (state l.tokens) ≡ logical_after (class_of_kind l.kind)
          (binary_operator_view l.operator) (expression_node_view l.fn.left) (state l.fn.tokens);
      shorter : length (state l.tokens).rest ≤ length (state l.fn.tokens).rest;
    }

abbrev pub decreases-expression::parse_logical_operands-operands :
    goal.decreases-expression::parse_logical_operands-operands
decreases-expression::parse_logical_operands-operands l = length (state l.tokens).rest

abbrev pub invariant-primary::parse_components-components : goal.invariant-primary::parse_components-components
invariant-primary::parse_components-components l =
    record {
      whole : components_after (expression_node_view l.base) (state l.tokens)
          ≡ components_after (expression_node_view l.fn.base) (state l.fn.tokens);
      shorter : length (state l.tokens).rest ≤ length (state l.fn.tokens).rest;
    }

abbrev pub decreases-primary::parse_components-components : goal.decreases-primary::parse_components-components
decreases-primary::parse_components-components l = length (state l.tokens).rest

abbrev pub invariant-sums::parse_factors-factors : goal.invariant-sums::parse_factors-factors
invariant-sums::parse_factors-factors l =
    record {
      whole : factors_after (expression_node_view l.left) (state l.tokens)
          ≡ factors_after (expression_node_view l.fn.left) (state l.fn.tokens);
      shorter : length (state l.tokens).rest ≤ length (state l.fn.tokens).rest;
    }

abbrev pub decreases-sums::parse_factors-factors : goal.decreases-sums::parse_factors-factors
decreases-sums::parse_factors-factors l = length (state l.tokens).rest

abbrev pub invariant-sums::parse_product_rest-factors : goal.invariant-sums::parse_product_rest-factors
invariant-sums::parse_product_rest-factors l =
    record {
      whole : products_from l.start (expression_node_view l.left) (state l.tokens)
          ≡ products_from l.start (expression_node_view l.fn.left) (state l.fn.tokens);
      shorter : length (state l.tokens).rest ≤ length (state l.fn.tokens).rest;
    }

abbrev pub decreases-sums::parse_product_rest-factors : goal.decreases-sums::parse_product_rest-factors
decreases-sums::parse_product_rest-factors l = length (state l.tokens).rest

abbrev pub invariant-sums::parse_summands-summands : goal.invariant-sums::parse_summands-summands
invariant-sums::parse_summands-summands l =
    record {
      whole : summands_after (expression_node_view l.left) (state l.tokens)
          ≡ summands_after (expression_node_view l.fn.left) (state l.fn.tokens);
      shorter : length (state l.tokens).rest ≤ length (state l.fn.tokens).rest;
    }

abbrev pub decreases-sums::parse_summands-summands : goal.decreases-sums::parse_summands-summands
decreases-sums::parse_summands-summands l = length (state l.tokens).rest

abbrev pub invariant-types::parse_template_list-arguments : goal.invariant-types::parse_template_list-arguments
invariant-types::parse_template_list-arguments l =
    record {
      whole : template_items_from (map template_arg_view l.arguments.items) (state l.tokens)
          ≡ reader (further template_items) (state l.initial.tokens);
      shorter : length (state l.tokens).rest ≤ length (state l.initial.tokens).rest;
    }

abbrev pub decreases-types::parse_template_list-arguments : goal.decreases-types::parse_template_list-arguments
decreases-types::parse_template_list-arguments l = length (state l.tokens).rest
