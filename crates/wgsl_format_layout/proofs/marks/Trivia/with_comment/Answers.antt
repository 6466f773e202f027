use Rattle.std.proofs.Common.{◌+◌, ◌||◌, not, refl, ap, ◌∙◌}
use Rattle.wgsl_format_layout.proofs.TriviaScanned.{breaks_so}
use Rattle.wgsl_format_layout.proofs.marks.Trivia.with_comment.Goals as goal

pub returns : goal.returns
returns c n = record {
  line_ends = refl;
  has_comment = refl;
  width = c.in_ok-added.ensures ∙ ap (λ k. c.args.self.width + k) (c.in_ok-comment_width.ensures n);
  ends = ap (λ b. c.args.self.ends || not b) (c.is_inline-inline.ensures n);
  below = ap (λ b. c.args.self.below || b) (breaks_so c.args.self.line_ends);
}
