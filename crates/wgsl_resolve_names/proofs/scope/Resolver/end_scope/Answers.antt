use Rattle.std.proofs.Common.{◌∙◌, ◌≤◌, [], ◌∷◌, ◌++◌, length, ap, arith, sym}
use Rattle.wgsl_resolve_names.proofs.Entered.{ends}
use Rattle.wgsl_resolve_names.proofs.scope.Resolver.end_scope.Goals as goal

pub returns-clause-known : goal.returns-clause-known
returns-clause-known c = λ known knows.
    let left = c.links.invariant in
    let start = c.in-Some.start in
    let size = c.len.ensures ∙ c.links.self.links.ok.0 in
    let test = c.links-test.false in
    let most : length c.links.self.links.items ≤ start = omega (arith, size, test) in
    ends c.args.self.now c.links.self start (c.in-Some.ensures.items ∙ ap (λ v. v.items ++ start ∷ []) (sym left.starts))
    (left.right (record { last = knows.right.last; linked = knows.right.linked })) left.links most left.least
    left.declarations left.names known.0 known.1 knows
