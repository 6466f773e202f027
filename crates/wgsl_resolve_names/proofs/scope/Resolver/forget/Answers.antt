use Rattle.wgsl_resolve_names.proofs.Entered.{forgets, sets_last}
use Rattle.wgsl_resolve_names.proofs.scope.Resolver.forget.Goals as goal

pub returns-in_ok-insert-clause-last : goal.returns-in_ok-insert-clause-last
returns-in_ok-insert-clause-last c = forgets c.args.self.now _ c.in-Some.link c.in-Some-name.name c.in-Some.ensures.items
    c.in-Some-name.is (sets_last c.in-Some-name.name.text.now c.args.self.now.last c.insert.new.self c.in-Some.link.previous
    c.in_ok-insert.ensures.updates)
