-- The rows compute to what is given.
use Rattle.std.proofs.Common.{refl}
use Rattle.wgsl_laws_places.proofs.place_rows.referents.Goals as goal

pub returns : goal.returns
returns c = record { rows = refl; alternatives = refl }
