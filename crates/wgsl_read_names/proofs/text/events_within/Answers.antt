use Rattle.std.specs.Prelude.{chars, map}
use Rattle.wgsl_lexer.specs.TextTokens.{ending_left, tokens_left}
use Rattle.wgsl_lex_names.specs.View.{event_view}
use Rattle.wgsl_read_names.proofs.Taken.{are_events}
use Rattle.wgsl_read_names.proofs.text.events_within.Goals as goal

pub returns-clause-accepted : goal.returns-clause-accepted
returns-clause-accepted c = are_events (chars c.args.source.now) (map event_view c.in_ok-found.found.items)
    (tokens_left c.in_ok-tokens.tokens) (ending_left c.in_ok-tokens.tokens) c.in_ok-tokens.ensures c.in_ok-found.ensures
    c.in_ok-check_syntax.ensures.accepted
