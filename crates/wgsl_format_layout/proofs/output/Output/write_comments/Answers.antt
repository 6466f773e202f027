use Rattle.std.proofs.Common.{rules, arith, ◌≡◌, ◌+◌, ◌≤◌, ◌==◌, ◌&&◌, Bool, true, false, cond, chars, ap, subst, sym, ◌∙◌}
use Rattle.wgsl_model.specs.Tokens.Characters.{is_line_break}
use Rattle.wgsl_model.specs.Tokens.Trivia.{outside, first_or_zero}
use Rattle.wgsl_model_tidy.specs.Pieces.{comments}
use Rattle.wgsl_model_tidy.specs.Ahead.{next_role}
use Rattle.wgsl_model_tidy.specs.LaidOut.{is_line}
use Rattle.wgsl_theory_tidy.proofs.Comments.{nothing_left}
use Rattle.wgsl_theory_tidy.proofs.NextRoles.{next_after, next_in_line}
use Rattle.wgsl_format_layout.specs.View.{role_view, joint_view}
use Rattle.wgsl_format_layout.specs.Outputs.{layout_of, HasComments}
use Rattle.wgsl_format_layout.proofs.CommentsWritten.{no_comments, comments_both, between_stays}
use Rattle.wgsl_format_layout.proofs.output.Output.write_comments.Goals as goal

one_at_most : (a b : Bool) → cond a 0 (cond b 1 0) ≤ 1
one_at_most true b = omega arith
one_at_most false true = omega arith
one_at_most false false = omega arith

pub pieces-init : goal.pieces-init
pieces-init c = record {
  text = search rules;
  laid = λ spot following b h k z j. (spot, no_comments c.args.self.now spot _ (role_view c.args.right) b);
  within = omega arith;
}

pub pieces-preserved-in-Some-comment_at : goal.pieces-preserved-in-Some-comment_at
pieces-preserved-in-Some-comment_at c =
    let old = c.pieces.self in
    let right = role_view c.args.right in
    let comment = c.in-Some-comment_at.comment in
    record {
      text = search rules;
      laid = λ spot following b h k z j.
          (let before = c.pieces.invariant.laid spot following b h k z j in
          let here = before.0 in
          let left = comments following outside 0 (chars comment.rest.now) in
          let line = is_line (joint_view c.args.joint) in
          let next : next_role here.state left ≡ right =
          ap (λ s. next_role s left) before.1.state ∙ next_in_line spot.state here.state.line left
          ∙ next_after spot.state right following h outside 0 (chars comment.rest.now) in
          let owned = c.is_owned-owned.ensures (layout_of old) here following before.1.is_before k z
          (λ e. between_stays c.args.self.now old spot here _ _ right line before.1 (j e)) in
          let wrote = c.in_ok-write_comment.ensures here left before.1.is_before next owned in (
            wrote.0,
            comments_both c.args.self.now old c.write_comment.new.self spot here wrote.0 _ _ left right
                before.1 (subst (λ ps. HasComments old here ps right c.write_comment.new.self wrote.0 left)
                (sym (c.in-Some-comment_at.ensures.value following c.pieces.line_ends)) wrote.1),
          ));
      within = omega (arith, c.pieces.invariant.within, c.in-Some-comment_at.ensures.shorter);
    }

pub pieces-preserved : goal.pieces-preserved
pieces-preserved c =
    record {
      text = search rules;
      laid = λ spot following b h k z j.
          (let l = c.pieces.invariant.laid spot following b h k z j in (
            l.0,
            subst (λ qs. HasComments c.args.self.now spot
                (comments following outside 0 (chars c.args.text.now)) (role_view c.args.right) c.pieces.self l.0 qs)
                (c.in_default-comment_at.ensures.value following c.pieces.line_ends c.in-Some.c
                (chars c.in-Some.after.now)
                c.in-Some.ensures.parts ∙ ap (λ n. comments following outside (c.pieces.line_ends + n)
                (chars c.in-Some.after.now)) (sym c.line_ends_at-line_ends.ensures)) l.1,
          ));
      within = omega (
        arith,
        c.pieces.invariant.within,
        c.in-Some.ensures.shorter,
        c.line_ends_at-line_ends.ensures,
        one_at_most (c.in-Some.c == 13 && first_or_zero (chars c.in-Some.after.now) == 10)
            (is_line_break c.in-Some.c),
      );
    }

pub returns : goal.returns
returns c spot following b h k z j =
    let l = c.pieces.invariant.laid spot following b h k z j in (
      l.0,
      subst (λ qs. HasComments c.args.self.now spot
          (comments following outside 0 (chars c.args.text.now)) (role_view c.args.right) c.pieces.self l.0 qs)
          (ap (comments following outside c.pieces.line_ends) c.in_default.ensures.parts
          ∙ nothing_left following c.pieces.line_ends) l.1,
    )
