use Rattle.std.specs.Prelude.{chars, length, string_bytes}
use Rattle.wgsl_lexer.specs.TextTokens.{tokens_left, ending_left}
use Rattle.wgsl_format_layout.specs.Layouts.{layout_view}
use Rattle.wgsl_format.proofs.Laid.{IsWhole, is_formatted, keeps_characters, keeps}
use Rattle.wgsl_format.proofs.Refused.{IsMoved, moved_refused, moved_placed}
use Rattle.wgsl_format.proofs.tidied.tidy_within.Goals as goal

-- the error is that of the text after the mark
moved : (c : goal.After-drop-tokens-in-Err-2)
    → IsMoved (length c.split_mark.result.0.now) c.in-Err.error c.error_after.result
moved c = record { memory = c.error_after.ensures.memory; fault = c.error_after.ensures.fault }

pub returns-in-Err-clause-refused : goal.returns-in-Err-clause-refused
returns-in-Err-clause-refused c =
    moved_refused (chars c.args.source.now) (chars c.split_mark.result.0.now)
    (chars c.split_mark.result.1.now) (length c.split_mark.result.0.now) c.in-Err.error c.error_after.result
    c.split_mark.ensures.text c.split_mark.ensures.width c.in-Err.ensures.refused (moved c)

pub returns-in-Err-clause-placed : goal.returns-in-Err-clause-placed
returns-in-Err-clause-placed c =
    moved_placed (chars c.split_mark.result.1.now) (length c.split_mark.result.0.now)
    (length c.split_mark.result.1.now) (length c.args.source.now) c.in-Err.error c.error_after.result
    c.split_mark.ensures.whole c.in-Err.ensures.refused c.in-Err.ensures.placed (moved c)

-- what is returned is the mark and the formatted text of what is after it
whole : (c : goal.In_ok-with_line_ends)
    → IsWhole (layout_view c.args.layout) (chars c.args.source.now) (chars c.split_mark.result.0.now)
    (chars c.split_mark.result.1.now) (chars (string_bytes c.in_ok-laid.laid))
    (chars (string_bytes c.in_ok-with_line_ends.field-0)) c.ends_crlf-crlf.result
whole c = record {
  is_mark = c.split_mark.ensures.mark;
  is_body = c.split_mark.ensures.text;
  accepted = c.in_default.ensures.accepted;
  is_laid = (
    tokens_left c.in_ok-tokens.tokens,
    ending_left c.in_ok-tokens.tokens,
    c.in_ok-tokens.ensures,
    c.in_ok-laid.ensures,
  );
  is_crlf = c.ends_crlf-crlf.ensures;
  is_text = c.in_ok-with_line_ends.ensures;
}

pub returns-clause-formatted : goal.returns-clause-formatted
returns-clause-formatted c = is_formatted _ _ _ _ _ _ _ (whole c)

pub returns-clause-characters : goal.returns-clause-characters
returns-clause-characters c = keeps_characters (layout_view c.args.layout) (chars c.args.source.now)
    (chars (string_bytes c.in_ok-with_line_ends.field-0)) (is_formatted _ _ _ _ _ _ _ (whole c))

pub returns-clause-kept : goal.returns-clause-kept
returns-clause-kept c = keeps _ _ _ (is_formatted _ _ _ _ _ _ _ (whole c))
