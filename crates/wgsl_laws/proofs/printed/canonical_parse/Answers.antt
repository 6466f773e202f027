-- The law is proved in the theory.
use Rattle.wgsl_theory_printed.proofs.PlainWords as theory
use Rattle.wgsl_laws.proofs.printed.canonical_parse.Goals as goal

pub returns : goal.returns
returns c = theory.canonical_parse
