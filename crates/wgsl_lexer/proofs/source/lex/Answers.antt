use Rattle.std.proofs.Common.{chars}
use Rattle.wgsl_lexer.proofs.Collects.{all_lexed, beginning_lexed}
use Rattle.wgsl_lexer.proofs.source.lex.Goals as goal

pub returns-clause-all : goal.returns-clause-all
returns-clause-all c = all_lexed (chars c.args.source.now) c.in_ok-lexer.lexer
    c.collect_tokens.result c.in_ok-lexer.ensures c.collect_tokens.ensures

pub returns-clause-beginning : goal.returns-clause-beginning
returns-clause-beginning c = beginning_lexed (chars c.args.source.now) c.in_ok-lexer.lexer
    c.collect_tokens.result c.in_ok-lexer.ensures c.collect_tokens.ensures
