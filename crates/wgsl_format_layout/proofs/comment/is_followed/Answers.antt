use Rattle.std.proofs.Common.{rules, ◌+◌, suc, chars, sym, ap, ◌∙◌}
use Rattle.wgsl_model.specs.Tokens.Trivia.{outside}
use Rattle.wgsl_model_tidy.specs.Pieces.{comments}
use Rattle.wgsl_model_tidy.specs.LaidOut.{is_followed}
use Rattle.wgsl_theory_tidy.proofs.Comments.{nothing_left}
use Rattle.wgsl_theory_tidy.proofs.Followed.{after_end, over_comment, ended, not_ended}
use Rattle.wgsl_format_layout.specs.Gaps.{comment_class}
use Rattle.wgsl_format_layout.proofs.CommentKinds.{classed}
use Rattle.wgsl_format_layout.proofs.comment.is_followed.Goals as goal

pub pieces-preserved-in-Some-comment_at : goal.pieces-preserved-in-Some-comment_at
pieces-preserved-in-Some-comment_at c =
    let comment = c.in-Some-comment_at.comment in
    record {
      text = search rules;
      follows = λ following h.
          c.pieces.invariant.follows following h ∙ ap is_followed (c.in-Some-comment_at.ensures.value following 0)
          ∙ over_comment (comment_class comment.kind) (chars comment.text.now)
          (comments following outside 0 (chars comment.rest.now)) (classed comment.kind);
    }

pub pieces-preserved : goal.pieces-preserved
pieces-preserved c =
    let after = chars c.in-Some.after.now in
    record {
      text = search rules;
      follows = λ following h.
          c.pieces.invariant.follows following h ∙ ap is_followed
          (c.in_default-comment_at.ensures.value following 0 c.in-Some.c after c.in-Some.ensures.parts)
          ∙ ap (λ n. is_followed (comments following outside n after)) (ap (λ k. 0 + k)
          (sym c.line_ends_at.ensures) ∙ not_ended c.line_ends_at.result c.if-line_ends_at-gt0.false);
    }

pub returns-then-line_ends_at-gt0 : goal.returns-then-line_ends_at-gt0
returns-then-line_ends_at-gt0 c following h =
    let after = chars c.in-Some.after.now in
    c.pieces.invariant.follows following h
    ∙ ap is_followed (c.in_default-comment_at.ensures.value following 0 c.in-Some.c after c.in-Some.ensures.parts)
    ∙ ap (λ k. is_followed (comments following outside (0 + k) after)) (sym c.line_ends_at.ensures)
    ∙ ended following (λ m. h (suc m) ∙ after_end m c.args.has_next) c.line_ends_at.result after
    c.if-line_ends_at-gt0.true

pub returns : goal.returns
returns c following h =
    c.pieces.invariant.follows following h
    ∙ ap (λ xs. is_followed (comments following outside 0 xs)) c.in_default.ensures.parts
    ∙ ap is_followed (nothing_left following 0) ∙ h 0
