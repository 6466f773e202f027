use Rattle.std.proofs.Common.{◌+◌, ap, sym, ◌∙◌, chars}
use Rattle.std.proofs.lemmas.Result.{IfOk-weaker}
use Rattle.wgsl_theory_tidy.proofs.Comments.{piece}
use Rattle.wgsl_format_layout.specs.Gaps.{comment_class}
use Rattle.wgsl_format_layout.specs.Layouts.{layout_view}
use Rattle.wgsl_format_layout.proofs.CommentKinds.{width_inline, width_other}
use Rattle.wgsl_format_layout.proofs.marks.comment_width.Goals as goal

pub returns-in_ok-width_of : goal.returns-in_ok-width_of
returns-in_ok-width_of c = IfOk-weaker c.added.result _ _
    (λ width e n. width_inline (layout_view c.args.layout) (piece (comment_class c.args.comment.kind)
    (chars c.args.comment.text.now) n) width (sym (c.requires n) ∙ c.if-inline.true)
    (e ∙ ap (λ k. k + 1) c.in_ok-width_of.ensures)) c.added.ensures

pub returns-else-inline : goal.returns-else-inline
returns-else-inline c n = width_other (layout_view c.args.layout) (piece (comment_class c.args.comment.kind)
    (chars c.args.comment.text.now) n) (sym (c.requires n) ∙ c.if-inline.false)
