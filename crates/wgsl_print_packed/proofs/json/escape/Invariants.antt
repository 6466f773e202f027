use Rattle.wgsl_print_packed.specs.Escapes.{IsPlainTo}
use Rattle.wgsl_print_packed.proofs.json.escape.Given as goal

abbrev pub invariant-bytes : goal.invariant-bytes
invariant-bytes l = IsPlainTo l.text l.i
