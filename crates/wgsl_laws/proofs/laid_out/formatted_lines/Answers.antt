-- The law is proved in the theory.
use Rattle.wgsl_theory_tidy.proofs.Kept.Lines as theory
use Rattle.wgsl_laws.proofs.laid_out.formatted_lines.Goals as goal

pub returns-clause-line_breaks : goal.returns-clause-line_breaks
returns-clause-line_breaks c = theory.line_breaks

pub returns-clause-no_trailing_white_space : goal.returns-clause-no_trailing_white_space
returns-clause-no_trailing_white_space c = theory.no_trailing_white_space

pub returns-clause-no_two_empty_lines : goal.returns-clause-no_two_empty_lines
returns-clause-no_two_empty_lines c = theory.no_two_empty_lines

pub returns-clause-no_first_break : goal.returns-clause-no_first_break
returns-clause-no_first_break c = theory.no_first_break

pub returns-clause-one_line_end : goal.returns-clause-one_line_end
returns-clause-one_line_end c = theory.one_line_end
