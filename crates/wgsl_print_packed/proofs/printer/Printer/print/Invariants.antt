use Rattle.std.proofs.Common.{ℕ, List}
use Rattle.wgsl_print_packed.specs.Printing.{HasPrinted, IsLeft, size}
use Rattle.wgsl_print_packed.proofs.printer.Printer.print.Given as goal

-- what is printed follows from the form, and what is left of a text that it prints
abbrev pub invariant-places : goal.invariant-places
invariant-places l = record {
  printed : HasPrinted l.fn.self l.self;
  taken : (text : List ℕ) → IsLeft l.fn.self text → IsLeft l.self text;
}

abbrev pub decreases-places : goal.decreases-places
decreases-places l = size l.self
