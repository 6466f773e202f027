-- The law is proved in the theory.
use Rattle.grammar.specs.Endings.{Ending.finished}
use Rattle.wgsl_model.specs.Grammar.Symbols.{Symbol.expression, Symbol.global_declaration, Symbol.global_directive, Symbol.unit}
use Rattle.wgsl_laws.specs.DialectRows.{minus_minus_dialect_tokens, reserved_word_dialect_tokens, severity_dialect_tokens, template_dialect_tokens, keyword_dialect_tokens, attribute_dialect_tokens}
use Rattle.wgsl_theory_grammar.proofs.Faults.UncheckedAnswers.{small_answers_are_true}
use Rattle.wgsl_laws.proofs.derived_rows.dialect.Goals as goal

pub returns-clause-minus_minus_dialect : goal.returns-clause-minus_minus_dialect
returns-clause-minus_minus_dialect c =
    small_answers_are_true expression minus_minus_dialect_tokens finished

pub returns-clause-reserved_word_dialect : goal.returns-clause-reserved_word_dialect
returns-clause-reserved_word_dialect c =
    small_answers_are_true global_declaration reserved_word_dialect_tokens finished

pub returns-clause-severity_dialect : goal.returns-clause-severity_dialect
returns-clause-severity_dialect c =
    (small_answers_are_true global_directive severity_dialect_tokens finished).1

pub returns-clause-template_dialect : goal.returns-clause-template_dialect
returns-clause-template_dialect c =
    (small_answers_are_true global_declaration template_dialect_tokens finished).1

pub returns-clause-keyword_dialect : goal.returns-clause-keyword_dialect
returns-clause-keyword_dialect c =
    small_answers_are_true global_declaration keyword_dialect_tokens finished

pub returns-clause-attribute_dialect : goal.returns-clause-attribute_dialect
returns-clause-attribute_dialect c = small_answers_are_true unit attribute_dialect_tokens finished
