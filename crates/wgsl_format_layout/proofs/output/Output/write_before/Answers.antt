use Rattle.std.proofs.Common.{true, subst}
use Rattle.std.proofs.lemmas.Result.{IfOk-weaker}
use Rattle.wgsl_format_layout.specs.View.{role_view, joint_view}
use Rattle.wgsl_format_layout.specs.Outputs.{WritesComments}
use Rattle.wgsl_format_layout.proofs.TokenRead.{part_chars}
use Rattle.wgsl_format_layout.proofs.output.Output.write_before.Goals as goal

pub returns : goal.returns
returns c =
    IfOk-weaker c.write_comments.result _ _ (λ n h. subst (λ text. WritesComments c.args.self.now text
    (joint_view c.args.joint) (role_view c.args.token.role) true n c.write_comments.new.self)
    (part_chars c.args.source.now c.range.result.now c.args.byte c.args.token.span.start c.utf8.source
    c.range.ensures.value) h) c.write_comments.ensures
