-- The law is proved in the theory.
use Rattle.wgsl_theory_grammar.proofs.Faults.Answers.{answers_are_true}
use Rattle.wgsl_theory_grammar.proofs.Faults.UncheckedAnswers.{small_answers_are_true}
use Rattle.wgsl_laws.proofs.grammar_laws.true_answers.Goals as goal

pub returns-clause-whole : goal.returns-clause-whole
returns-clause-whole c = answers_are_true

pub returns-clause-alone : goal.returns-clause-alone
returns-clause-alone c = small_answers_are_true
