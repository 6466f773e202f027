use Rattle.std.proofs.Common.{ℕ, ◌≡◌, ◌<◌, true, get_or}
use Rattle.wgsl_model_packed.specs.Printing.{is_plain}
use Rattle.wgsl_print_packed.proofs.printer.plain_length.Given as goal

abbrev pub invariant-bytes : goal.invariant-bytes
invariant-bytes l = (k : ℕ) → k < l.i → is_plain (get_or l.places k 0) ≡ true
