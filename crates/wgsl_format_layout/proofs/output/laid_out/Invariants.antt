use Rattle.std.proofs.Common.{◌+◌, length}
use Rattle.wgsl_lexer.specs.TextTokens.{tokens_left}
use Rattle.wgsl_format_layout.proofs.SourceLaid.{IsLaid}
use Rattle.wgsl_format_layout.proofs.output.laid_out.Given as goal

abbrev pub invariant-statements : goal.invariant-statements
invariant-statements l = IsLaid l.source l.fn.layout (tokens_left l.fn.tokens) l.marks l.byte l.output

abbrev pub decreases-statements : goal.decreases-statements
decreases-statements l = length (tokens_left l.marks.left) + length l.marks.tokens.items
