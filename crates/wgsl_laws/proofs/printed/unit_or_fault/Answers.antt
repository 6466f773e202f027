-- The law is proved in the theory.
use Rattle.wgsl_theory_printed.proofs.UnitOrFault as theory
use Rattle.wgsl_laws.proofs.printed.unit_or_fault.Goals as goal

pub returns-clause-either : goal.returns-clause-either
returns-clause-either c = theory.unit_or_fault

pub returns-clause-not_both : goal.returns-clause-not_both
returns-clause-not_both c = theory.not_both

pub returns-clause-one_unit : goal.returns-clause-one_unit
returns-clause-one_unit c = theory.one_unit

pub returns-clause-one_fault : goal.returns-clause-one_fault
returns-clause-one_fault c = theory.one_fault
