use Rattle.wgsl_lexer.specs.TextTokens.{tokens_left, ending_left}
use Rattle.wgsl_read_cursor.proofs.source.TokenSource.of_text.Goals as goal

pub returns : goal.returns
returns c =
    let tokens = c.in_ok-tokens.tokens in
    (tokens_left tokens, ending_left tokens, c.in_ok-tokens.ensures, c.of_tokens.ensures)
