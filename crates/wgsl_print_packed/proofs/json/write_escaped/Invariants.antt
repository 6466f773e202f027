use Rattle.std.proofs.Common.{ℕ, ◌≡◌, ◌++◌, List, length}
use Rattle.wgsl_model_packed.specs.Json.{escaped}
use Rattle.wgsl_print_packed.proofs.json.write_escaped.Given as goal

abbrev pub invariant-escapes : goal.invariant-escapes
invariant-escapes l = (done : List ℕ) × (l.text ≡ done ++ l.left) × (l.out.items ≡ l.fn.out.items ++ escaped done)

abbrev pub decreases-escapes : goal.decreases-escapes
decreases-escapes l = length l.left
