use Rattle.std.proofs.Common.{◌≡◌, ℕ, List, take}
use Rattle.wgsl_minify_names.specs.InScope.{is_in}
use Rattle.wgsl_minify_names.specs.View.{texts}
use Rattle.wgsl_minify_names.proofs.set.set_of.Given as goal

abbrev pub invariant-loop-name : goal.invariant-loop-name
invariant-loop-name l = (x : List ℕ) → is_in x (texts l.set.keys) ≡ is_in x (texts (take l.name-index l.names))
