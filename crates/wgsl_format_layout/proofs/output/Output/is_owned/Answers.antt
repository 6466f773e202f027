use Rattle.std.proofs.Common.{chars, subst}
use Rattle.wgsl_format_layout.specs.View.{role_view}
use Rattle.wgsl_format_layout.specs.Comments.{MayFollow}
use Rattle.wgsl_format_layout.proofs.NoneFollows.{none_owned}
use Rattle.wgsl_format_layout.proofs.output.Output.is_owned.Goals as goal

pub returns-then-not-has_next : goal.returns-then-not-has_next
returns-then-not-has_next c layout spot following b k z j =
    none_owned layout spot (role_view c.args.right) following (chars c.args.text.now) (z c.if-not-has_next.true)

pub returns : goal.returns
returns c layout spot following b k z j =
    c.owns.ensures layout spot following b (subst (MayFollow following) c.if-not-has_next.false k)
    (j c.if-not-has_next.false)
