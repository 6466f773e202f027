-- The law is proved in the theory.
use Rattle.wgsl_theory_printed.proofs.RoundTrip as theory
use Rattle.wgsl_laws.proofs.printed.print_twice.Goals as goal

pub returns-clause-unit : goal.returns-clause-unit
returns-clause-unit c = theory.print_twice

pub returns-clause-program : goal.returns-clause-program
returns-clause-program c = theory.formatted_twice
