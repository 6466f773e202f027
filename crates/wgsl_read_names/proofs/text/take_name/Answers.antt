use Rattle.wgsl_lexer.specs.TextTokens.{tokens_left}
use Rattle.wgsl_read_names.proofs.Taken.{word_taken}
use Rattle.std.proofs.Common.{◌∙◌, sym}
use Rattle.wgsl_read_names.proofs.text.take_name.Goals as goal

pub returns : goal.returns
returns c = word_taken (tokens_left c.args.tokens.now) (tokens_left c.skip-2.new.self) c.args.kind
    (record { text = c.text.result; span = c.args.span }) c.requires.kind c.requires.span
    (sym c.has_text.ensures ∙ c.if-has_text.false) c.text.ensures c.skip-2.ensures.left
