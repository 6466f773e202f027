-- The starts of the places so far are there.
use Rattle.std.proofs.Common.{◌≡◌, ℕ, take}
use Rattle.std.specs.Prelude.{◌==◌}
use Rattle.std.specs.List.{list_any}
use Rattle.wgsl_rename.specs.Renames.{starts_at}
use Rattle.wgsl_rename.proofs.edit.Edit.new.Given as goal

abbrev pub invariant-places : goal.invariant-places
invariant-places l = (start : ℕ) → list_any (λ (other : ℕ). start == other) l.starts.keys
    ≡ starts_at (take l.place-index l.places) start
