use Rattle.std.specs.Prelude.{chars}
use Rattle.wgsl_lexer.specs.TextTokens.{tokens_left, ending_left}
use Rattle.wgsl_format_short.proofs.Refused.{IsMoved, moved_refused, moved_placed}
use Rattle.wgsl_format_short.proofs.Results.{is_shortest, keeps, is_least}
use Rattle.wgsl_format_short.proofs.shortened.shorten_within.Goals as goal

-- the error is that of the text after the mark
moved : (c : goal.After-drop-tokens-in-Err-2) → IsMoved c.split_mark-mark.result.0 c.in-Err.error c.error_after.result
moved c = record { memory = c.error_after.ensures.memory; fault = c.error_after.ensures.fault }

pub returns-in-Err-clause-refused : goal.returns-in-Err-clause-refused
returns-in-Err-clause-refused c =
    moved_refused (chars c.args.source.now) (chars c.split_mark-mark.result.1.now) c.split_mark-mark.result.0
    c.in-Err.error c.error_after.result c.split_mark-mark.ensures.text c.split_mark-mark.ensures.width
    c.in-Err.ensures.refused (moved c)

pub returns-in-Err-clause-placed : goal.returns-in-Err-clause-placed
returns-in-Err-clause-placed c =
    moved_placed (chars c.split_mark-mark.result.1.now) c.split_mark-mark.result.0 _ _
    c.in-Err.error c.error_after.result
    c.split_mark-mark.ensures.whole c.in-Err.ensures.refused c.in-Err.ensures.placed (moved c)

pub returns-clause-shortest : goal.returns-clause-shortest
returns-clause-shortest c =
    is_shortest (chars c.args.source.now) (chars c.split_mark-mark.result.1.now) _ (tokens_left c.in_ok-tokens.tokens)
    (ending_left c.in_ok-tokens.tokens) c.split_mark-mark.ensures.text c.in_default.ensures.accepted
    c.in_ok-tokens.ensures c.in_ok-shortest.ensures

pub returns-clause-kept : goal.returns-clause-kept
returns-clause-kept c = keeps (chars c.args.source.now) _ (returns-clause-shortest c)

pub returns-clause-least : goal.returns-clause-least
returns-clause-least c =
    is_least (chars c.args.source.now) (chars c.split_mark-mark.result.1.now) _ c.split_mark-mark.ensures.text
    c.in_default.ensures.accepted (returns-clause-shortest c)
