-- The law is proved in the theory.
use Rattle.grammar.specs.Endings.{Ending.finished}
use Rattle.wgsl_model.specs.Grammar.Symbols.{Symbol.expression, Symbol.literal, Symbol.template_list}
use Rattle.wgsl_laws.specs.ExpressionsRows.{sum_to_the_left_tokens, product_of_a_negation_tokens, two_negations_tokens, base_before_its_component_tokens, chain_of_comparisons_tokens, template_and_call_tokens, last_comma_of_arguments_tokens, comparison_of_a_shift_tokens, shift_of_a_sum_tokens, and_beside_or_tokens, doubled_comma_tokens, fault_after_an_unexpected_token_tokens, fault_at_an_unexpected_token_tokens, no_expression_tokens, boolean_literal_tokens, no_literal_tokens, template_of_one_tokens}
use Rattle.wgsl_theory_grammar.proofs.Faults.Answers.{answers_are_true}
use Rattle.wgsl_laws.proofs.derived_rows.expressions.Goals as goal

pub returns-clause-sum_to_the_left : goal.returns-clause-sum_to_the_left
returns-clause-sum_to_the_left c = (answers_are_true expression sum_to_the_left_tokens finished).1

pub returns-clause-product_of_a_negation : goal.returns-clause-product_of_a_negation
returns-clause-product_of_a_negation c = (answers_are_true expression product_of_a_negation_tokens finished).1

pub returns-clause-two_negations : goal.returns-clause-two_negations
returns-clause-two_negations c = (answers_are_true expression two_negations_tokens finished).1

pub returns-clause-base_before_its_component : goal.returns-clause-base_before_its_component
returns-clause-base_before_its_component c = (answers_are_true expression base_before_its_component_tokens finished).1

pub returns-clause-chain_of_comparisons : goal.returns-clause-chain_of_comparisons
returns-clause-chain_of_comparisons c = (answers_are_true expression chain_of_comparisons_tokens finished).1

pub returns-clause-template_and_call : goal.returns-clause-template_and_call
returns-clause-template_and_call c = (answers_are_true expression template_and_call_tokens finished).1

pub returns-clause-last_comma_of_arguments : goal.returns-clause-last_comma_of_arguments
returns-clause-last_comma_of_arguments c = (answers_are_true expression last_comma_of_arguments_tokens finished).1

pub returns-clause-comparison_of_a_shift : goal.returns-clause-comparison_of_a_shift
returns-clause-comparison_of_a_shift c = (answers_are_true expression comparison_of_a_shift_tokens finished).1

pub returns-clause-shift_of_a_sum : goal.returns-clause-shift_of_a_sum
returns-clause-shift_of_a_sum c = answers_are_true expression shift_of_a_sum_tokens finished

pub returns-clause-and_beside_or : goal.returns-clause-and_beside_or
returns-clause-and_beside_or c = answers_are_true expression and_beside_or_tokens finished

pub returns-clause-doubled_comma : goal.returns-clause-doubled_comma
returns-clause-doubled_comma c = answers_are_true expression doubled_comma_tokens finished

pub returns-clause-fault_after_an_unexpected_token : goal.returns-clause-fault_after_an_unexpected_token
returns-clause-fault_after_an_unexpected_token c =
    answers_are_true expression fault_after_an_unexpected_token_tokens finished

pub returns-clause-fault_at_an_unexpected_token : goal.returns-clause-fault_at_an_unexpected_token
returns-clause-fault_at_an_unexpected_token c = answers_are_true expression fault_at_an_unexpected_token_tokens finished

pub returns-clause-no_expression : goal.returns-clause-no_expression
returns-clause-no_expression c = answers_are_true expression no_expression_tokens finished

pub returns-clause-boolean_literal : goal.returns-clause-boolean_literal
returns-clause-boolean_literal c = (answers_are_true literal boolean_literal_tokens finished).1

pub returns-clause-no_literal : goal.returns-clause-no_literal
returns-clause-no_literal c = answers_are_true literal no_literal_tokens finished

pub returns-clause-template_of_one : goal.returns-clause-template_of_one
returns-clause-template_of_one c = (answers_are_true template_list template_of_one_tokens finished).1
