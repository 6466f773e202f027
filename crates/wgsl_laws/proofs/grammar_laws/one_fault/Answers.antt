-- The law is proved in the theory.
use Rattle.wgsl_theory_grammar.proofs.Faults.FaultEnds.{one_fault as fault_once}
use Rattle.wgsl_laws.proofs.grammar_laws.one_fault.Goals as goal

pub returns : goal.returns
returns c = fault_once
