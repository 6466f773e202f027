use Rattle.std.proofs.Common.{◌≡◌, chars, sym, subst}
use Rattle.wgsl_lex_comments.specs.Comments.{BeginsAt, Leaves}
use Rattle.wgsl_lex_comments.proofs.Commented.{shorter_at}
use Rattle.wgsl_lex_comments.proofs.comments.over_known.Goals as goal

pub text_at-requires : goal.text_at-requires
text_at-requires c = let is = c.in_ok-found.ensures.2 in (is.over, is.end)

pub returns : goal.returns
returns c =
    let is = c.in_ok-found.ensures.2 in
    let same : chars c.text_at.result.now ≡ is.over = c.text_at.ensures is.over is.end in
    let at = subst (BeginsAt (chars c.args.source.now) c.in_ok-found.found.comment.end) (sym same) is.end in
    record {
      leaves = subst (Leaves (chars c.args.text.now)) (sym same) is.leaves;
      end = (at.0, at.1);
      shorter = shorter_at (chars c.args.source.now) c.args.text.now c.text_at.result.now
          c.in_ok-found.found.comment.start c.in_ok-found.found.comment.end c.utf8.text
          c.text_at.utf8 is.start at is.forward;
    }
