-- The first of those that were in scope are left.
use Rattle.std.proofs.Common.{◌≡◌, ◌≤◌, length, take}
use Rattle.wgsl_resolve_names.specs.Known.{IsRight}
use Rattle.wgsl_resolve_names.proofs.scope.Resolver.end_scope.Given as goal

abbrev pub invariant-links : goal.invariant-links
invariant-links l = record {
  right : IsRight l.initial.self → IsRight l.self;
  links : l.self.links.items ≡ take (length l.self.links.items) l.initial.self.links.items;
  least : l.start ≤ length l.initial.self.links.items → l.start ≤ length l.self.links.items;
  starts : l.self.starts ≡ l.initial.self.starts;
  declarations : l.self.declarations ≡ l.initial.self.declarations;
  names : l.self.names ≡ l.initial.self.names;
}

abbrev pub decreases-links : goal.decreases-links
decreases-links l = length l.self.links.items
