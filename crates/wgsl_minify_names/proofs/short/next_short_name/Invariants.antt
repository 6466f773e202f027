use Rattle.wgsl_minify_names.specs.Short.{AreTaken}
use Rattle.wgsl_minify_names.specs.View.{texts}
use Rattle.wgsl_minify_names.proofs.short.next_short_name.Given as goal

abbrev pub invariant-loop-next : goal.invariant-loop-next
invariant-loop-next l = AreTaken (texts l.taken.keys) l.number l.next
