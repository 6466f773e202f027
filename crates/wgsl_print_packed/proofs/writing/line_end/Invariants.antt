use Rattle.wgsl_writer.specs.LineEnds.{IsOneLine}
use Rattle.wgsl_print_packed.proofs.writing.line_end.Given as goal

abbrev pub invariant-bytes : goal.invariant-bytes
invariant-bytes l = IsOneLine l.text l.i
