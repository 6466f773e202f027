use Rattle.std.proofs.Common.{chars}
use Rattle.wgsl_lexer.proofs.After.{whole_after}
use Rattle.wgsl_lexer.proofs.text_tokens.TextTokens.new.Goals as goal

pub returns : goal.returns
returns c = whole_after (chars c.args.source.now) c.in_ok-tokens.tokens _ _ c.in_ok-tokens.ensures
    c.go_on.ensures.left c.go_on.ensures.ending
