-- The law is proved in the theory.
use Rattle.grammar.specs.Endings.{Ending.finished}
use Rattle.wgsl_model.specs.Grammar.Symbols.{Symbol.global_directive}
use Rattle.wgsl_laws.specs.DirectivesRows.{last_comma_of_names_tokens, rule_of_two_names_tokens, unknown_severity_tokens, reserved_word_as_a_severity_tokens}
use Rattle.wgsl_theory_grammar.proofs.Faults.Answers.{answers_are_true}
use Rattle.wgsl_laws.proofs.derived_rows.directives.Goals as goal

pub returns-clause-last_comma_of_names : goal.returns-clause-last_comma_of_names
returns-clause-last_comma_of_names c = (answers_are_true global_directive last_comma_of_names_tokens finished).1

pub returns-clause-rule_of_two_names : goal.returns-clause-rule_of_two_names
returns-clause-rule_of_two_names c = (answers_are_true global_directive rule_of_two_names_tokens finished).1

pub returns-clause-unknown_severity : goal.returns-clause-unknown_severity
returns-clause-unknown_severity c = answers_are_true global_directive unknown_severity_tokens finished

pub returns-clause-reserved_word_as_a_severity : goal.returns-clause-reserved_word_as_a_severity
returns-clause-reserved_word_as_a_severity c =
    answers_are_true global_directive reserved_word_as_a_severity_tokens finished
