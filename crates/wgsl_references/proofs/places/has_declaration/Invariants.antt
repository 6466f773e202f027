-- None of those so far is the declaration.
use Rattle.std.proofs.Common.{◌≡◌, false, take}
use Rattle.std.specs.List.{list_any}
use Rattle.wgsl_references.specs.References.{is_declaration}
use Rattle.wgsl_references.proofs.places.has_declaration.Given as goal

abbrev pub invariant-referents : goal.invariant-referents
invariant-referents l = list_any (is_declaration l.number) (take l.referent-index l.referents) ≡ false
