use Rattle.std.proofs.Common.{chars, subst}
use Rattle.wgsl_lex_scanner.specs.Trivia.{BeginsWith}
use Rattle.wgsl_lex_comments.proofs.CommentSteps.{over_line}
use Rattle.wgsl_lex_comments.proofs.trivia.over_line.Goals as goal

pub returns-in-Some-LineComment-clause-rest : goal.returns-in-Some-LineComment-clause-rest
returns-in-Some-LineComment-clause-rest c =
    let text = chars c.args.text.now in
    let sign = subst (BeginsWith text) c.in-Some-LineComment.field-0-is c.in-Some-LineComment.ensures.value in
    over_line text (chars c.in-Some-LineComment.field-0-0.now) c.over_known.result sign c.over_known.ensures.leaves
