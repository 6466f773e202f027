use Rattle.std.proofs.Common.{subst}
use Rattle.wgsl_lex_comments.specs.Comments.{AreLeft}
use Rattle.wgsl_lex_comments.proofs.Commented.{left_last}
use Rattle.wgsl_lex_comments.proofs.comments.Comments.keep.Goals as goal

pub loop-comment-preserved : goal.loop-comment-preserved
loop-comment-preserved c source rest begins known run =
    let so_far = c.loop-comment.invariant source rest begins known run in
    let parts = left_last source rest c.pop.new.self.items c.in-Some.comment
    (subst (AreLeft source rest) c.in-Some.ensures.items so_far.1) in
    (c.in_ok-add.ensures source so_far.0 (parts.1.0, (rest, begins, parts.1.1)), parts.0)

pub returns : goal.returns
returns c source rest begins known run = (c.loop-comment.invariant source rest begins known run).0
