use Rattle.std.proofs.Common.{chars, subst}
use Rattle.wgsl_lex_scanner.specs.Trivia.{BeginsWith}
use Rattle.wgsl_format_layout.proofs.CommentEnds.{none_begins, blank_begins}
use Rattle.wgsl_format_layout.proofs.comment.comment_at.Goals as goal

pub returns-in_err-piece_at-clause-value : goal.returns-in_err-piece_at-clause-value
returns-in_err-piece_at-clause-value c = rw c.from_residual.ensures
    (none_begins (chars c.args.text.now) c.in_err-piece_at.ensures.value)

pub returns-in-Blank-clause-value : goal.returns-in-Blank-clause-value
returns-in-Blank-clause-value c =
    let text = chars c.args.text.now in
    let blank = subst (BeginsWith text) c.in-Blank.is c.in_ok-piece_at.ensures.value in
    blank_begins blank.0 text (chars c.in-Blank.field-0.now) blank.1 blank.2
