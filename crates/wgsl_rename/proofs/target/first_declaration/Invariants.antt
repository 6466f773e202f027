-- None of those so far is a declaration.
use Rattle.std.proofs.Common.{◌≡◌, ℕ, false, take}
use Rattle.std.specs.List.{list_any}
use Rattle.wgsl_references.specs.References.{is_declaration}
use Rattle.wgsl_rename.proofs.target.first_declaration.Given as goal

abbrev pub invariant-referents : goal.invariant-referents
invariant-referents l = (n : ℕ) → list_any (is_declaration n) (take l.referent-index l.referents) ≡ false
