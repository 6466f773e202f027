use Rattle.std.proofs.Common.{◌∙◌, ap, Some}
use Rattle.std.specs.Prelude.{bytes_eq, cond}
use Rattle.wgsl_resolve_names.specs.Linked.{last_of}
use Rattle.wgsl_resolve_names.proofs.Entered.{sets_last}
use Rattle.wgsl_resolve_names.proofs.scope.Resolver.declare.Goals as goal

pub returns-clause-last : goal.returns-clause-last
returns-clause-last c = λ x. let name = c.args.name.text.now in
    sets_last name c.args.self.now.last c.insert.new.self (Some c.len-place.result) c.in_ok-previous.ensures.updates x
    ∙ ap (λ n. cond (bytes_eq name x) (Some n) (last_of c.args.self.now.last.entries x))
    (c.len-place.ensures ∙ c.args.self.now.links.ok.0)
