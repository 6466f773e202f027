-- The law is proved in the theory.
use Rattle.grammar.specs.Endings.{Ending.finished, Ending.carried}
use Rattle.wgsl_model.specs.Grammar.Symbols.{Symbol.global_declaration}
use Rattle.wgsl_laws.specs.RowParts.{want_of_memory}
use Rattle.wgsl_laws.specs.DeclarationsRows.{struct_with_a_last_comma_tokens, entry_point_tokens, keyword_as_an_attribute_tokens, reserved_word_as_an_attribute_tokens, variable_in_storage_tokens, struct_without_members_tokens, attribute_before_a_struct_tokens, unknown_builtin_tokens, too_many_arguments_tokens, needless_parentheses_tokens, wrong_constraint_tokens, bare_attribute_at_the_end_tokens, bare_attribute_in_want_of_memory_tokens, open_arguments_tokens, access_mode_without_storage_tokens, three_template_arguments_tokens, reserved_word_as_a_name_tokens, function_without_an_end_tokens}
use Rattle.wgsl_theory_grammar.proofs.Faults.Answers.{answers_are_true}
use Rattle.wgsl_laws.proofs.derived_rows.declarations.Goals as goal

pub returns-clause-struct_with_a_last_comma : goal.returns-clause-struct_with_a_last_comma
returns-clause-struct_with_a_last_comma c =
    (answers_are_true global_declaration struct_with_a_last_comma_tokens finished).1

pub returns-clause-entry_point : goal.returns-clause-entry_point
returns-clause-entry_point c = (answers_are_true global_declaration entry_point_tokens finished).1

pub returns-clause-keyword_as_an_attribute : goal.returns-clause-keyword_as_an_attribute
returns-clause-keyword_as_an_attribute c =
    (answers_are_true global_declaration keyword_as_an_attribute_tokens finished).1

pub returns-clause-reserved_word_as_an_attribute : goal.returns-clause-reserved_word_as_an_attribute
returns-clause-reserved_word_as_an_attribute c =
    (answers_are_true global_declaration reserved_word_as_an_attribute_tokens finished).1

pub returns-clause-variable_in_storage : goal.returns-clause-variable_in_storage
returns-clause-variable_in_storage c = (answers_are_true global_declaration variable_in_storage_tokens finished).1

pub returns-clause-struct_without_members : goal.returns-clause-struct_without_members
returns-clause-struct_without_members c = answers_are_true global_declaration struct_without_members_tokens finished

pub returns-clause-attribute_before_a_struct : goal.returns-clause-attribute_before_a_struct
returns-clause-attribute_before_a_struct c =
    (answers_are_true global_declaration attribute_before_a_struct_tokens finished).1

pub returns-clause-unknown_builtin : goal.returns-clause-unknown_builtin
returns-clause-unknown_builtin c = answers_are_true global_declaration unknown_builtin_tokens finished

pub returns-clause-too_many_arguments : goal.returns-clause-too_many_arguments
returns-clause-too_many_arguments c = answers_are_true global_declaration too_many_arguments_tokens finished

pub returns-clause-needless_parentheses : goal.returns-clause-needless_parentheses
returns-clause-needless_parentheses c = answers_are_true global_declaration needless_parentheses_tokens finished

pub returns-clause-wrong_constraint : goal.returns-clause-wrong_constraint
returns-clause-wrong_constraint c = answers_are_true global_declaration wrong_constraint_tokens finished

pub returns-clause-bare_attribute_at_the_end : goal.returns-clause-bare_attribute_at_the_end
returns-clause-bare_attribute_at_the_end c =
    answers_are_true global_declaration bare_attribute_at_the_end_tokens finished

pub returns-clause-bare_attribute_in_want_of_memory : goal.returns-clause-bare_attribute_in_want_of_memory
returns-clause-bare_attribute_in_want_of_memory c = answers_are_true global_declaration
    bare_attribute_in_want_of_memory_tokens (carried want_of_memory)

pub returns-clause-open_arguments : goal.returns-clause-open_arguments
returns-clause-open_arguments c = answers_are_true global_declaration open_arguments_tokens finished

pub returns-clause-access_mode_without_storage : goal.returns-clause-access_mode_without_storage
returns-clause-access_mode_without_storage c =
    answers_are_true global_declaration access_mode_without_storage_tokens finished

pub returns-clause-three_template_arguments : goal.returns-clause-three_template_arguments
returns-clause-three_template_arguments c = answers_are_true global_declaration three_template_arguments_tokens finished

pub returns-clause-reserved_word_as_a_name : goal.returns-clause-reserved_word_as_a_name
returns-clause-reserved_word_as_a_name c = answers_are_true global_declaration reserved_word_as_a_name_tokens finished

pub returns-clause-function_without_an_end : goal.returns-clause-function_without_an_end
returns-clause-function_without_an_end c = answers_are_true global_declaration function_without_an_end_tokens finished
