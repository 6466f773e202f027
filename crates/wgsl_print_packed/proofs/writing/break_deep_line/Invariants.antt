use Rattle.std.proofs.Common.{◌≡◌, ◌++◌, ◌∷◌}
use Rattle.wgsl_writer.specs.Depth.{spaces}
use Rattle.wgsl_print_packed.proofs.writing.break_deep_line.Given as goal

abbrev pub invariant-levels : goal.invariant-levels
invariant-levels l = l.out.items ≡ l.fn.out.items ++ (10 ∷ spaces l._level)
