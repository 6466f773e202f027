use Rattle.wgsl_read_cursor.specs.Reading.{state}
use Rattle.wgsl_read_cursor.proofs.After.{told_after}
use Rattle.wgsl_read_cursor.proofs.source.TokenSource.answer.Goals as goal

pub returns-then-not-is_empty : goal.returns-then-not-is_empty
returns-then-not-is_empty g c ts ending are taken =
    told_after _ c.args.self.origin c.args.read c.in-Ok.value
    (state c.args.self.tokens) c.refuse-fault.result ts ending c.in_ok-name.field-0 c.in-Ok.is
    (λ h. let e = c.is_empty.ensures.1 h in let f = c.if-not-is_empty.true in absurd cc)
    c.refuse-fault.ensures (c.in_ok-name.ensures ts ending are)
