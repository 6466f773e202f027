-- The law is proved in the theory.
use Rattle.wgsl_theory_grammar.proofs.Faults.Answers as theory
use Rattle.wgsl_laws.proofs.grammar_laws.same_faults.Goals as goal

pub returns-clause-finished : goal.returns-clause-finished
returns-clause-finished c = theory.same_faults

pub returns-clause-in_want : goal.returns-clause-in_want
returns-clause-in_want c = theory.same_faults_in_want
