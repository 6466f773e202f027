-- The law is proved in the theory.
use Rattle.wgsl_theory_tidy.proofs.SyntaxFaults.{named_where_unchecked}
use Rattle.wgsl_laws.proofs.grammar_laws.syntax_fault.Goals as goal

pub returns : goal.returns
returns c = named_where_unchecked
