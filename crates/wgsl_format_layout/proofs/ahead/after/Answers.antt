use Rattle.std.proofs.Common.{inl, inr, arith}
use Rattle.wgsl_format_layout.proofs.Following.{goes_past}
use Rattle.wgsl_format_layout.proofs.ahead.after.Goals as goal

pub returns-then-close-tokens-clause-next : goal.returns-then-close-tokens-clause-next
returns-then-close-tokens-clause-next c = λ before n t ts f plain.
    goes_past _ before c.args.place c.args.tokens.now n t ts _ c.requires.place f plain
    (inl (c.if-close-tokens.true, omega arith))

pub returns-else-close-tokens-clause-next : goal.returns-else-close-tokens-clause-next
returns-else-close-tokens-clause-next c = λ before n t ts f plain.
    goes_past _ before c.args.place c.args.tokens.now n t ts _ c.requires.place f plain
    (inr (c.if-close-tokens.false, omega arith))
