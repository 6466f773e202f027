-- What happens at the tokens that are left comes after what happened.
use Rattle.std.proofs.Common.{◌≡◌, ◌++◌, length}
use Rattle.wgsl_lexer.specs.TextTokens.{tokens_left}
use Rattle.wgsl_model_places.specs.Steps.{events, events_from}
use Rattle.wgsl_lex_names.specs.View.{state_view}
use Rattle.wgsl_lex_names.specs.Readers.{happened}
use Rattle.wgsl_read_names.proofs.text.read.Given as goal

abbrev pub invariant-tokens : goal.invariant-tokens
invariant-tokens l = happened l.reader ++ events_from (state_view l.reader.state) (tokens_left l.tokens)
    ≡ events (tokens_left l.fn.tokens)

abbrev pub decreases-tokens : goal.decreases-tokens
decreases-tokens l = length (tokens_left l.tokens)
