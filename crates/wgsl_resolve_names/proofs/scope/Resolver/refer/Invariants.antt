-- What is left comes after the referents so far.
use Rattle.std.specs.Prelude.{reverse}
use Rattle.std.specs.Option.{option_map_or}
use Rattle.std.proofs.Common.{suc}
use Rattle.wgsl_resolve_names.specs.Linked.{referents_view}
use Rattle.wgsl_resolve_names.proofs.Links.{Left}
use Rattle.wgsl_resolve_names.proofs.scope.Resolver.refer.Given as goal

abbrev pub invariant-links : goal.invariant-links
invariant-links l = Left (reverse l.self.links.items) l.name (referents_view l.found.items) l.next l.each

abbrev pub decreases-links : goal.decreases-links
decreases-links l = option_map_or suc l.next 0
