use Rattle.std.proofs.Common.{ℕ, List, ◌++◌, ap}
use Rattle.wgsl_print_packed.specs.Printing.{joined}
use Rattle.wgsl_print_packed.proofs.Steps.{line_next, further}
use Rattle.std.proofs.Common.{◌∷◌}
use Rattle.wgsl_writer.specs.Depth.{spaces}
use Rattle.wgsl_print_packed.proofs.Printed.{line_printed}
use Rattle.wgsl_print_packed.proofs.printer.Printer.break_line.Goals as goal

pub returns-clause-taken : goal.returns-clause-taken
returns-clause-taken c = λ text was.
    let outer = joined c.args.self.now.outer.items in
    let next = line_next c.args.self.now.depth (c.args.rest.now ++ outer) was.prints
    (ap (λ (z : List ℕ). z ++ outer) c.requires) in
    record {
      end = next.end;
      whole = further _ _ _ _ _ _ was.whole next.whole c.in_ok-break_line.ensures;
      prints = next.prints;
    }

pub returns-clause-printed : goal.returns-clause-printed
returns-clause-printed c = record {
  first = 10 ∷ spaces c.args.self.now.depth;
  wrote = c.in_ok-break_line.ensures;
  prints = λ end p. line_printed c.args.self.now.depth c.args.self.now.form.now c.args.self.now.places.now
      c.args.rest.now (joined c.args.self.now.outer.items) end c.requires p;
}
