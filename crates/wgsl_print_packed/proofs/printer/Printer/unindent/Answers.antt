use Rattle.std.proofs.Common.{[], sym}
use Rattle.std.proofs.lemmas.List.{append-nil}
use Rattle.wgsl_print_packed.specs.Printing.{joined}
use Rattle.wgsl_print_packed.proofs.Printed.{back_printed}
use Rattle.wgsl_print_packed.proofs.printer.Printer.unindent.Goals as goal

pub returns-clause-printed : goal.returns-clause-printed
returns-clause-printed c =
    let e = c.in-Some.ensures in record {
      first = [];
      wrote = sym (append-nil c.args.self.now.text.items);
      prints = λ end p. back_printed c.args.self.now.depth c.in-Some.depth c.args.self.now.form.now
          c.args.self.now.places.now c.args.rest.now (joined c.args.self.now.outer.items) end e.0 e.1 c.requires p;
    }
