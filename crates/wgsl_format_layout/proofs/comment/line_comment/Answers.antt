use Rattle.std.proofs.Common.{◌∷◌, chars, sym, ap, ◌∙◌}
use Rattle.wgsl_model.specs.Tokens.ClassTable.{LineComment}
use Rattle.wgsl_model.specs.Tokens.Trivia.{outside}
use Rattle.wgsl_model_tidy.specs.Pieces.{comments}
use Rattle.wgsl_theory_tidy.proofs.Comments.{piece, trimmed, whole_line}
use Rattle.wgsl_format_layout.proofs.CommentEnds.{line_of, whole, told_line, trimmed_comment}
use Rattle.wgsl_format_layout.proofs.comment.line_comment.Goals as goal

pub before-requires : goal.before-requires
before-requires c =
    let body = chars c.args.body.now in (
      47 ∷ (47 ∷ line_of body),
      c.requires.sign ∙ whole body (chars c.after_line-rest.result.now) c.after_line-rest.ensures.rest,
    )

pub returns-clause-comment : goal.returns-clause-comment
returns-clause-comment c b n =
    let body = chars c.args.body.now in
    let line = line_of body in
    let rest = chars c.after_line-rest.result.now in
    let is = c.after_line-rest.ensures.rest in
    let text = c.before-2.ensures (47 ∷ (47 ∷ line)) (c.requires.sign ∙ whole body rest is) in
    let cut = trimmed_comment c.before-2.result.now c.trim_end.result.now line c.trim_end.utf8 text
    c.trim_end.ensures.trim in
    ap (comments b outside n) c.requires.sign
    ∙ whole_line b n body (trimmed line) rest (told_line b n body rest is)
    ∙ ap (λ xs. piece LineComment xs n ∷ comments b outside 0 rest) (sym cut)
