-- The law is proved of the laid-out text token by token.
use Rattle.wgsl_laws.proofs.Indents.LaidIndents.{indents_lines}
use Rattle.wgsl_laws.proofs.laid_out.formatted_indents.Goals as goal

pub returns : goal.returns
returns c = indents_lines
