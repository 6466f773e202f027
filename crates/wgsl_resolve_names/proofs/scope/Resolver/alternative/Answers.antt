use Rattle.std.proofs.Common.{refl}
use Rattle.wgsl_resolve_names.proofs.Entered.{alternates, alternative_occurs}
use Rattle.wgsl_resolve_names.specs.Known.{Knows}
use Rattle.wgsl_resolve_names.proofs.scope.Resolver.alternative.Goals as goal

pub returns-clause-known : goal.returns-clause-known
returns-clause-known c = λ known knows. alternative_occurs c.args.entry.branch (c.is_none.ensures) c.if-is_none.false known (Knows _)
    (alternates c.args.self.now _ _ c.requires.number refl c.requires.none refl c.in_ok-push.ensures.items refl refl refl known knows)
