-- None of those so far is at the place.
use Rattle.std.proofs.Common.{◌≡◌, false, take}
use Rattle.std.specs.List.{list_any}
use Rattle.wgsl_rename.specs.Renames.{is_at}
use Rattle.wgsl_rename.proofs.target.name_at.Given as goal

abbrev pub invariant-names : goal.invariant-names
invariant-names l = list_any (is_at l.place) (take l.index l.names) ≡ false
