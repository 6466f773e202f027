use Rattle.std.proofs.Common.{ℕ, ◌≡◌, ◌++◌, List, length}
use Rattle.wgsl_model.specs.Printed.Indentation.{after_line_ends}
use Rattle.wgsl_writer.specs.Depth.{spaces}
use Rattle.wgsl_print_packed.proofs.writing.write_lines.Given as goal

abbrev pub invariant-lines : goal.invariant-lines
invariant-lines l = (done : List ℕ) × (l.text ≡ done ++ l.left)
    × (l.out.items ≡ l.fn.out.items ++ after_line_ends (spaces l.depth) done)

abbrev pub decreases-lines : goal.decreases-lines
decreases-lines l = length l.left
