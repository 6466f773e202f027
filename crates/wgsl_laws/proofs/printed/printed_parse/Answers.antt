-- The law is proved in the theory.
use Rattle.wgsl_theory_printed.proofs.RoundTrip as theory
use Rattle.wgsl_laws.proofs.printed.printed_parse.Goals as goal

pub returns-clause-utf8 : goal.returns-clause-utf8
returns-clause-utf8 c = theory.printed_is_utf8

pub returns-clause-reads_back : goal.returns-clause-reads_back
returns-clause-reads_back c = theory.printed_parse
