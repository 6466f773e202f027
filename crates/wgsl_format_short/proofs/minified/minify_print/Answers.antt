use Rattle.std.proofs.Common.{chars, string_bytes}
use Rattle.wgsl_lexer.specs.TextTokens.{tokens_left, ending_left}
use Rattle.wgsl_format_short.proofs.Results.{is_minified}
use Rattle.wgsl_format_short.proofs.minified.minify_print.Goals as goal

pub returns : goal.returns
returns c = is_minified (chars c.args.printed.now) (chars (string_bytes c.in_ok-minified.field-0))
    (tokens_left c.in_ok-tokens.tokens) (ending_left c.in_ok-tokens.tokens) c.requires.0 c.requires.1
    c.in_ok-tokens.ensures c.in_ok-minified.ensures
