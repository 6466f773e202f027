use Rattle.std.proofs.Common.{◌∷◌, Some, None, chars, sym, ap, ◌∙◌}
use Rattle.std.proofs.lemmas.Str.{chars-nil}
use Rattle.wgsl_model.specs.Tokens.ClassTable.{BlockComment}
use Rattle.wgsl_model.specs.Tokens.Trivia.{outside}
use Rattle.wgsl_model_tidy.specs.Pieces.{OpenComment, comments}
use Rattle.wgsl_theory_tidy.proofs.Comments.{piece, whole_block, nothing_left}
use Rattle.wgsl_format_layout.proofs.CommentEnds.{told_end}
use Rattle.wgsl_format_layout.proofs.comment.block_comment.Goals as goal

pub returns-in_default-clause-comment : goal.returns-in_default-clause-comment
returns-in_default-clause-comment c b n =
    let body = chars c.args.body.now in
    ap (comments b outside n) c.requires.sign
    ∙ whole_block b n OpenComment body body (b 0) (told_end body None c.in_default.ensures.value b n)
    ∙ ap (λ xs. piece OpenComment xs n ∷ b 0) (sym c.requires.sign)
    ∙ ap (λ ps. piece OpenComment (chars c.args.text.now) n ∷ ps)
    (sym (ap (comments b outside 0) chars-nil ∙ nothing_left b 0))

pub before-requires : goal.before-requires
before-requires c =
    let h = told_end (chars c.args.body.now) (Some (chars c.in-Some.rest.now)) c.in-Some.ensures.value in
    (47 ∷ (42 ∷ h.0), c.requires.sign ∙ ap (λ xs. 47 ∷ (42 ∷ xs)) h.1)

pub returns-clause-comment : goal.returns-clause-comment
returns-clause-comment c b n =
    let h = told_end (chars c.args.body.now) (Some (chars c.in-Some.rest.now)) c.in-Some.ensures.value in
    let text = c.before-2.ensures (47 ∷ (42 ∷ h.0)) (c.requires.sign ∙ ap (λ xs. 47 ∷ (42 ∷ xs)) h.1) in
    let left = comments b outside 0 (chars c.in-Some.rest.now) in
    ap (comments b outside n) c.requires.sign ∙ whole_block b n BlockComment (chars c.args.body.now) h.0 left (h.2 b n)
    ∙ ap (λ xs. piece BlockComment xs n ∷ left) (sym text)
