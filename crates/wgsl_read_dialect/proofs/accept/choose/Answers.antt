-- The test decides.
use Rattle.std.proofs.Common.{Bool, cond, sym, ap, ◌∙◌}
use Rattle.wgsl_read_cursor.specs.Reading.{state}
use Rattle.wgsl_read_dialect.specs.View.{steps_view}
use Rattle.wgsl_read_dialect.proofs.AnyKind.{any_is}
use Rattle.wgsl_read_dialect.proofs.accept.choose.Goals as goal

pub returns-then-is_at_any : goal.returns-then-is_at_any
returns-then-is_at_any c =
    ap (λ (b : Bool). cond b (steps_view c.args.first.now) (steps_view c.args.second.now))
    (sym (sym (any_is c.args.kinds.now (state c.args.tokens.now)) ∙ sym c.is_at_any.ensures ∙ c.if-is_at_any.true))

pub returns-else-is_at_any : goal.returns-else-is_at_any
returns-else-is_at_any c =
    ap (λ (b : Bool). cond b (steps_view c.args.first.now) (steps_view c.args.second.now))
    (sym (sym (any_is c.args.kinds.now (state c.args.tokens.now)) ∙ sym c.is_at_any.ensures ∙ c.if-is_at_any.false))
