-- Those so far are the same.
use Rattle.std.proofs.Common.{◌≡◌, take}
use Rattle.wgsl_resolve_names.specs.Linked.{referents_view}
use Rattle.wgsl_rename.proofs.changed.are_same.Given as goal

abbrev pub invariant-referents : goal.invariant-referents
invariant-referents l = referents_view (take l.index l.ones) ≡ referents_view (take l.index l.others)
