use Rattle.std.proofs.Common.{◌≡◌, [], length}
use Rattle.wgsl_format_layout.specs.Closing.{AreBelow, with_closes}
use Rattle.wgsl_format_layout.proofs.places.Places.leave.Given as goal

abbrev pub invariant-places : goal.invariant-places
invariant-places l = record {
  below : AreBelow (length l.tokens.items) l.self;
  same : length l.tokens.items ≡ length l.fn.tokens.items;
  left : with_closes l.end l.tokens.items l.self [] ≡ with_closes l.end l.fn.tokens.items l.fn.self [];
}

abbrev pub decreases-places : goal.decreases-places
decreases-places l = length l.self
