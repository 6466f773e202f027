-- None of those so far has its name there.
use Rattle.std.proofs.Common.{◌≡◌, ◌<◌, ℕ, false}
use Rattle.std.specs.Prelude.{slice_get}
use Rattle.wgsl_references.specs.References.{is_at}
use Rattle.wgsl_rename.proofs.target.declared_at.Given as goal

abbrev pub invariant-declarations : goal.invariant-declarations
invariant-declarations l = (n : ℕ) → n < l.number → is_at (slice_get l.names.declarations.items n) l.named ≡ false
