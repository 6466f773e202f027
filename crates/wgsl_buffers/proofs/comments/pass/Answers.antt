use Rattle.std.proofs.Common.{[], ◌∷◌, chars, sym, subst}
use Rattle.std.proofs.lemmas.Str.{chars-nil}
use Rattle.wgsl_lex_scanner.specs.Trivia.{BeginsWith}
use Rattle.wgsl_model.specs.Tokens.ClassTable.{LineComment, BlockComment}
use Rattle.wgsl_model_tidy.specs.Pieces.{OpenComment}
use Rattle.wgsl_buffers.specs.Comments.{IsComment, line, block, unclosed}
use Rattle.wgsl_buffers.proofs.comments.pass.Goals as goal

pub returns-in-LineComment-clause-passed : goal.returns-in-LineComment-clause-passed
returns-in-LineComment-clause-passed c text begins =
    let body = chars c.in-LineComment.body.now in
    let rest = chars c.after_line.result.now in
    let sign = subst (BeginsWith text) c.in-LineComment.is begins in
    subst (λ xs. IsComment xs LineComment rest) (sym sign)
    (subst (IsComment (47 ∷ (47 ∷ body)) LineComment) (sym c.after_line.ensures.rest) (line body))

pub returns-in-Some-clause-passed : goal.returns-in-Some-clause-passed
returns-in-Some-clause-passed c text begins =
    let rest = chars c.in-Some.rest.now in
    let sign = subst (BeginsWith text) c.in-BlockComment.is begins in
    subst (λ xs. IsComment xs BlockComment rest) (sym sign)
    (block (chars c.in-BlockComment.body.now) rest (sym c.in-Some.ensures.value))

pub returns-in-None-clause-passed : goal.returns-in-None-clause-passed
returns-in-None-clause-passed c text begins =
    let body = chars c.in-BlockComment.body.now in
    let sign = subst (BeginsWith text) c.in-BlockComment.is begins in
    subst (λ xs. IsComment xs OpenComment (chars [])) (sym sign)
    (subst (IsComment (47 ∷ (42 ∷ body)) OpenComment) (sym chars-nil) (unclosed body (sym c.in-None.ensures.value)))
