use Rattle.std.proofs.Common.{chars}
use Rattle.wgsl_lexer.proofs.Lefts.{source_left}
use Rattle.wgsl_lexer.proofs.lexer.Lexer.new.Goals as goal

pub returns : goal.returns
returns c = source_left (chars c.args.source.now) (record { tokens = c.in_ok-tokens.tokens }) c.in_ok-tokens.ensures
