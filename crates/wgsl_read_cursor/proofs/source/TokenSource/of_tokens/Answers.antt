use Rattle.std.proofs.Common.{◌∙◌, sym, ap, chars}
use Rattle.grammar.specs.States.{start_state}
use Rattle.wgsl_lexer.specs.TextTokens.{tokens_left, ending_left}
use Rattle.wgsl_read_cursor.proofs.Origins.{no_want, read_alone}
use Rattle.wgsl_read_cursor.proofs.source.TokenSource.of_tokens.Goals as goal

pub returns : goal.returns
returns c =
    let ts = tokens_left c.args.tokens in
    let ending = ending_left c.args.tokens in (
      c.of_text.ensures
          ∙ ap start_state (sym (read_alone ts ending (no_want (chars c.args.text.now) ts ending c.requires))),
      c.requires,
    )
