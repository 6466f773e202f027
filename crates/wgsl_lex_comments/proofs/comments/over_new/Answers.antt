use Rattle.std.proofs.Common.{chars, sym, subst, ◌∙◌}
use Rattle.wgsl_lex_comments.specs.declared.comments.Comment.{Comment}
use Rattle.wgsl_lex_comments.specs.Comments.{AreLeft}
use Rattle.wgsl_lex_comments.proofs.CommentSteps.{after_begun}
use Rattle.wgsl_lex_comments.proofs.Commented.{walked, left_more}
use Rattle.wgsl_lex_comments.proofs.comments.over_new.Goals as goal

pub after_piece-over-requires-clause-end : goal.after_piece-over-requires-clause-end
after_piece-over-requires-clause-end c = after_begun (chars c.args.source.now)
    (chars c.args.text.now) c.args.comment c.requires.end c.requires.begins

pub returns-clause-run : goal.returns-clause-run
returns-clause-run c rest is all =
    let source = chars c.args.source.now in
    let text = chars c.args.text.now in
    let over = chars c.after_piece-over.result.now in
    let leaves = c.after_piece-over.ensures.leaves text c.requires.begins in
    let comment : Comment = record { start = c.place.result; end = c.place-2.result } in
    let one = walked source text over rest comment c.place.ensures c.place-2.ensures leaves
    (c.after_piece-over.ensures.shorter text c.requires.begins) (leaves.left ∙ is) in
    subst (AreLeft source rest) (sym c.in_ok-push.ensures.items)
    (left_more source rest c.args.run.now.items comment all (text, one))
