-- The places among the names so far.
use Rattle.std.proofs.Common.{◌≡◌, map, take}
use Rattle.std.specs.Prelude.{filter}
use Rattle.wgsl_references.specs.References.{is_of, place_of}
use Rattle.wgsl_references.proofs.places.references.Given as goal

abbrev pub invariant-names : goal.invariant-names
invariant-names l = l.places.items
    ≡ map place_of (filter (is_of l.number l.names) (take l.named-index l.names.names.items))
