use Rattle.std.proofs.Common.{◌≡◌, refl, subst, length, drop-cons, arith}
use Rattle.wgsl_format_layout.specs.Spots.{HasUpTo}
use Rattle.wgsl_format_layout.proofs.SourceLaid.{more_written}
use Rattle.wgsl_format_layout.proofs.output.Output.write_all.Goals as goal

pub tokens-init : goal.tokens-init
tokens-init c = λ spot marks after n. record { next_spot = spot; is_next = n; layout = refl; laid = refl }

pub write_next-requires-clause-next : goal.write_next-requires-clause-next
write_next-requires-clause-next c =
    let r = c.requires.next in
    let h = c.tokens.invariant r.0 r.1 r.2 r.3 in
    (h.next_spot, r.1, r.2, h.is_next)

pub tokens-preserved : goal.tokens-preserved
tokens-preserved c = λ spot marks after n.
    (let h = c.tokens.invariant spot marks after n in
    more_written c.args.source.now c.args.tokens.now c.args.byte c.tokens.to _ c.tokens.place _
    c.args.self.now c.tokens.self c.write_next.new.self spot marks after n.left h
    (c.in_ok-write_next.ensures h.next_spot marks after h.is_next _ _
    (drop-cons c.args.tokens.now c.tokens.place _ c.tokens-test.true)) (omega arith))

pub returns : goal.returns
returns c spot marks after n =
    let end : c.tokens.place ≡ length c.args.tokens.now = omega (arith, c.tokens-test.false, c.tokens.auto.place-end) in
    subst (λ k. HasUpTo c.args.source.now c.args.tokens.now c.args.byte c.args.self.now spot marks after n.left k
    c.tokens.to c.tokens.self) end (c.tokens.invariant spot marks after n)
