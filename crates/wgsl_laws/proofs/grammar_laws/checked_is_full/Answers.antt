-- The law is proved in the theory.
use Rattle.wgsl_theory_grammar.proofs.Faults.Faultless.{checked_sentence_is_full}
use Rattle.wgsl_laws.proofs.grammar_laws.checked_is_full.Goals as goal

pub returns : goal.returns
returns c = checked_sentence_is_full
