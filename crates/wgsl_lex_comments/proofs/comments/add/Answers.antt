use Rattle.std.proofs.Common.{sym, subst}
use Rattle.wgsl_lex_comments.specs.Comments.{AreComments}
use Rattle.wgsl_lex_comments.proofs.Commented.{comment_more}
use Rattle.wgsl_lex_comments.proofs.comments.add.Goals as goal

pub returns-2 : goal.returns-2
returns-2 c source all is = subst (AreComments source) (sym c.in_ok-push.ensures.items)
    (comment_more source c.args.found.now.items c.args.known all is)
