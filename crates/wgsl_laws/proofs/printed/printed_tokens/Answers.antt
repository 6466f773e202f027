-- The law is proved in the theory.
use Rattle.wgsl_theory_printed.proofs.RoundTrip as theory
use Rattle.wgsl_laws.proofs.printed.printed_tokens.Goals as goal

pub returns : goal.returns
returns c = theory.printed_tokens
