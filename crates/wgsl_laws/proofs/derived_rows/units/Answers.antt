-- The law is proved in the theory.
use Rattle.grammar.specs.Endings.{Ending.finished}
use Rattle.wgsl_model.specs.Grammar.Symbols.{Symbol.unit}
use Rattle.wgsl_laws.specs.UnitsRows.{empty_unit_tokens, three_declarations_tokens, directive_after_a_declaration_tokens, attribute_before_a_directive_tokens, attribute_before_the_first_declaration_tokens, directive_with_an_attribute_after_a_declaration_tokens, bare_attribute_before_a_function_tokens, attribute_before_no_statement_tokens}
use Rattle.wgsl_theory_grammar.proofs.Faults.Answers.{answers_are_true}
use Rattle.wgsl_laws.proofs.derived_rows.units.Goals as goal

pub returns-clause-empty_unit : goal.returns-clause-empty_unit
returns-clause-empty_unit c = (answers_are_true unit empty_unit_tokens finished).1

pub returns-clause-three_declarations : goal.returns-clause-three_declarations
returns-clause-three_declarations c = (answers_are_true unit three_declarations_tokens finished).1

pub returns-clause-directive_after_a_declaration : goal.returns-clause-directive_after_a_declaration
returns-clause-directive_after_a_declaration c = answers_are_true unit directive_after_a_declaration_tokens finished

pub returns-clause-attribute_before_a_directive : goal.returns-clause-attribute_before_a_directive
returns-clause-attribute_before_a_directive c = (answers_are_true unit attribute_before_a_directive_tokens finished).1

pub returns-clause-attribute_before_the_first_declaration : goal.returns-clause-attribute_before_the_first_declaration
returns-clause-attribute_before_the_first_declaration c =
    (answers_are_true unit attribute_before_the_first_declaration_tokens finished).1

pub returns-clause-directive_with_an_attribute_after_a_declaration :
    goal.returns-clause-directive_with_an_attribute_after_a_declaration
returns-clause-directive_with_an_attribute_after_a_declaration c =
    answers_are_true unit directive_with_an_attribute_after_a_declaration_tokens finished

pub returns-clause-bare_attribute_before_a_function : goal.returns-clause-bare_attribute_before_a_function
returns-clause-bare_attribute_before_a_function c =
    answers_are_true unit bare_attribute_before_a_function_tokens finished

pub returns-clause-attribute_before_no_statement : goal.returns-clause-attribute_before_no_statement
returns-clause-attribute_before_no_statement c = answers_are_true unit attribute_before_no_statement_tokens finished
