-- The law is proved in the theory.
use Rattle.std.proofs.Common.{[]}
use Rattle.wgsl_theory_grammar.proofs.FewerAttributes.{fewer_kept}
use Rattle.wgsl_laws.proofs.grammar_laws.no_less_derived.Goals as goal

pub returns : goal.returns
returns c M n v ts = fewer_kept M n v ts []
