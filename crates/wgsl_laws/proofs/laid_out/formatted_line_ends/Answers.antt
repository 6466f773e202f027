-- The law is proved in the theory.
use Rattle.wgsl_theory_tidy.proofs.Kept.Kept as theory
use Rattle.wgsl_laws.proofs.laid_out.formatted_line_ends.Goals as goal

pub returns-clause-crlf : goal.returns-clause-crlf
returns-clause-crlf c = theory.with_crlf_ends

pub returns-clause-lf : goal.returns-clause-lf
returns-clause-lf c = theory.with_lf_ends
