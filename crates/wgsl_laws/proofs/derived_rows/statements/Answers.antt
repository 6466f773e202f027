-- The law is proved in the theory.
use Rattle.grammar.specs.Endings.{Ending.finished}
use Rattle.wgsl_model.specs.Grammar.Symbols.{Symbol.statement}
use Rattle.wgsl_laws.specs.StatementsRows.{for_header_tokens, loop_and_continuing_tokens, break_in_continuing_tokens, else_ifs_tokens, phony_assignment_tokens, left_side_in_parentheses_tokens, attribute_of_a_block_tokens, clause_of_a_default_tokens, last_comma_of_selectors_tokens, empty_return_tokens, product_as_a_statement_tokens, assignment_to_a_call_tokens, assignment_to_a_template_tokens, attribute_before_an_assignment_tokens, attributes_in_a_for_header_tokens, attribute_before_a_clause_tokens, attributes_in_a_loop_tokens, arguments_before_an_assignment_tokens, attribute_before_parentheses_tokens, attribute_before_a_semicolon_tokens, attribute_before_else_tokens, attribute_before_a_wrong_template_tokens}
use Rattle.wgsl_theory_grammar.proofs.Faults.Answers.{answers_are_true}
use Rattle.wgsl_laws.proofs.derived_rows.statements.Goals as goal

pub returns-clause-for_header : goal.returns-clause-for_header
returns-clause-for_header c = (answers_are_true statement for_header_tokens finished).1

pub returns-clause-loop_and_continuing : goal.returns-clause-loop_and_continuing
returns-clause-loop_and_continuing c = (answers_are_true statement loop_and_continuing_tokens finished).1

pub returns-clause-break_in_continuing : goal.returns-clause-break_in_continuing
returns-clause-break_in_continuing c = (answers_are_true statement break_in_continuing_tokens finished).1

pub returns-clause-else_ifs : goal.returns-clause-else_ifs
returns-clause-else_ifs c = (answers_are_true statement else_ifs_tokens finished).1

pub returns-clause-phony_assignment : goal.returns-clause-phony_assignment
returns-clause-phony_assignment c = (answers_are_true statement phony_assignment_tokens finished).1

pub returns-clause-left_side_in_parentheses : goal.returns-clause-left_side_in_parentheses
returns-clause-left_side_in_parentheses c = (answers_are_true statement left_side_in_parentheses_tokens finished).1

pub returns-clause-attribute_of_a_block : goal.returns-clause-attribute_of_a_block
returns-clause-attribute_of_a_block c = (answers_are_true statement attribute_of_a_block_tokens finished).1

pub returns-clause-clause_of_a_default : goal.returns-clause-clause_of_a_default
returns-clause-clause_of_a_default c = (answers_are_true statement clause_of_a_default_tokens finished).1

pub returns-clause-last_comma_of_selectors : goal.returns-clause-last_comma_of_selectors
returns-clause-last_comma_of_selectors c = (answers_are_true statement last_comma_of_selectors_tokens finished).1

pub returns-clause-empty_return : goal.returns-clause-empty_return
returns-clause-empty_return c = (answers_are_true statement empty_return_tokens finished).1

pub returns-clause-product_as_a_statement : goal.returns-clause-product_as_a_statement
returns-clause-product_as_a_statement c = answers_are_true statement product_as_a_statement_tokens finished

pub returns-clause-assignment_to_a_call : goal.returns-clause-assignment_to_a_call
returns-clause-assignment_to_a_call c = answers_are_true statement assignment_to_a_call_tokens finished

pub returns-clause-assignment_to_a_template : goal.returns-clause-assignment_to_a_template
returns-clause-assignment_to_a_template c = answers_are_true statement assignment_to_a_template_tokens finished

pub returns-clause-attribute_before_an_assignment : goal.returns-clause-attribute_before_an_assignment
returns-clause-attribute_before_an_assignment c =
    (answers_are_true statement attribute_before_an_assignment_tokens finished).1

pub returns-clause-attributes_in_a_for_header : goal.returns-clause-attributes_in_a_for_header
returns-clause-attributes_in_a_for_header c = (answers_are_true statement attributes_in_a_for_header_tokens finished).1

pub returns-clause-attribute_before_a_clause : goal.returns-clause-attribute_before_a_clause
returns-clause-attribute_before_a_clause c = (answers_are_true statement attribute_before_a_clause_tokens finished).1

pub returns-clause-attributes_in_a_loop : goal.returns-clause-attributes_in_a_loop
returns-clause-attributes_in_a_loop c = (answers_are_true statement attributes_in_a_loop_tokens finished).1

pub returns-clause-arguments_before_an_assignment : goal.returns-clause-arguments_before_an_assignment
returns-clause-arguments_before_an_assignment c =
    answers_are_true statement arguments_before_an_assignment_tokens finished

pub returns-clause-attribute_before_parentheses : goal.returns-clause-attribute_before_parentheses
returns-clause-attribute_before_parentheses c = answers_are_true statement attribute_before_parentheses_tokens finished

pub returns-clause-attribute_before_a_semicolon : goal.returns-clause-attribute_before_a_semicolon
returns-clause-attribute_before_a_semicolon c = answers_are_true statement attribute_before_a_semicolon_tokens finished

pub returns-clause-attribute_before_else : goal.returns-clause-attribute_before_else
returns-clause-attribute_before_else c = answers_are_true statement attribute_before_else_tokens finished

pub returns-clause-attribute_before_a_wrong_template : goal.returns-clause-attribute_before_a_wrong_template
returns-clause-attribute_before_a_wrong_template c =
    answers_are_true statement attribute_before_a_wrong_template_tokens finished
