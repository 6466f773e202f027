-- What is left to follow, and why it ends.
use Rattle.std.proofs.Common.{◌≡◌, suc, ◌≤◌, length}
use Rattle.wgsl_lex_token.specs.View.{classes}
use Rattle.wgsl_read_cursor.specs.Reading.{state}
use Rattle.wgsl_read_dialect.specs.Dialects.{dialect_view}
use Rattle.wgsl_read_dialect.specs.Following.{repeated, follow}
use Rattle.wgsl_read_dialect.specs.View.{steps_view}
use Rattle.wgsl_read_dialect.specs.Work.{work, IsWorkLeft}
use Rattle.wgsl_read_dialect.proofs.accept.+accept.Given as goal

abbrev pub decreases-accept : goal.decreases-accept
decreases-accept l = work (steps_view l.steps.now) (state l.tokens.now)

abbrev pub decreases-accept_each : goal.decreases-accept_each
decreases-accept_each l = suc (work (steps_view l.each.now) (state l.tokens.now))

abbrev pub invariant-accept-steps : goal.invariant-accept-steps
invariant-accept-steps l =
    IsWorkLeft (dialect_view l.fn.dialect)
    (follow (dialect_view l.fn.dialect) (steps_view l.fn.steps) (state l.fn.tokens))
    (work (steps_view l.fn.steps) (state l.fn.tokens)) (steps_view l.left) (state l.tokens)

abbrev pub decreases-accept-steps : goal.decreases-accept-steps
decreases-accept-steps l = work (steps_view l.left) (state l.tokens)

abbrev pub invariant-accept_each-items : goal.invariant-accept_each-items
invariant-accept_each-items l =
    record {
      whole : repeated (classes l.fn.kinds) (follow (dialect_view l.fn.dialect) (steps_view l.fn.each))
          (state l.tokens) ≡ repeated (classes l.fn.kinds)
          (follow (dialect_view l.fn.dialect) (steps_view l.fn.each)) (state l.fn.tokens);
      shorter : length (state l.tokens).rest ≤ length (state l.fn.tokens).rest;
    }

abbrev pub decreases-accept_each-items : goal.decreases-accept_each-items
decreases-accept_each-items l = length (state l.tokens).rest
