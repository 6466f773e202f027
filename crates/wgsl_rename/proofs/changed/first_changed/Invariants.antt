-- Those so far refer to what they did.
use Rattle.std.proofs.Common.{◌≡◌, map, take}
use Rattle.wgsl_rename.specs.Changes.{refers}
use Rattle.wgsl_rename.proofs.changed.first_changed.Given as goal

abbrev pub invariant-names : goal.invariant-names
invariant-names l = map refers (take l.index l.before) ≡ map refers (take l.index l.after)
