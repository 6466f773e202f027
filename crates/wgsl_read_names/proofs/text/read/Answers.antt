use Rattle.std.proofs.Common.{◌∙◌, sym}
use Rattle.wgsl_lexer.specs.TextTokens.{tokens_left}
use Rattle.wgsl_model_places.specs.Steps.{events}
use Rattle.wgsl_read_names.proofs.Taken.{went_on}
use Rattle.wgsl_read_names.proofs.text.read.Goals as goal

pub tokens-preserved : goal.tokens-preserved
tokens-preserved c = went_on c.tokens.reader c.pass.new.self (tokens_left c.tokens.tokens) (tokens_left c.skip.new.self)
    (events (tokens_left c.args.tokens)) c.in-Some-Some.kind c.kind-else-takes_name.result c.in-Some-Some.ensures
    c.skip.ensures.left c.kind-else-takes_name.ensures (sym c.takes_name.ensures ∙ c.if-takes_name.false) c.in_ok-pass.ensures
    c.tokens.invariant
