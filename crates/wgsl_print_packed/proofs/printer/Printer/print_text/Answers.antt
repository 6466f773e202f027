use Rattle.std.proofs.Common.{ℕ, List, [], ◌++◌, sym, ap, ◌∙◌, subst}
use Rattle.wgsl_model_packed.specs.Printing.{PrintsBy}
use Rattle.wgsl_print_packed.specs.Notations.{notation_of}
use Rattle.wgsl_print_packed.specs.Printing.{joined}
use Rattle.wgsl_print_packed.proofs.Steps.{text_next, further}
use Rattle.wgsl_print_packed.proofs.Printed.{text_printed}
use Rattle.wgsl_print_packed.proofs.printer.Printer.print_text.Goals as goal

pub returns-clause-taken : goal.returns-clause-taken
returns-clause-taken c = λ text was.
    let notation = notation_of c.args.self.now.notation in
    let depth = c.args.self.now.depth in
    let outer = joined c.args.self.now.outer.items in
    let rest = c.args.rest.now ++ outer in
    let next = text_next depth rest was.prints (ap (λ (z : List ℕ). z ++ outer) c.requires) in
    let read = c.in_ok-text.ensures.text next.bytes next.more next.taken in
    let wrote = c.in_ok-write_text.ensures in
    record {
      end = next.then.end;
      whole = further _ _ _ _ _ _ was.whole next.then.whole
          (wrote ∙ ap (λ (z : List ℕ). c.args.self.now.text.items ++ notation.text depth z) read.0);
      prints = subst (λ (z : List ℕ). PrintsBy notation depth rest z next.then.end []) (sym read.1) next.then.prints;
    }

pub returns-clause-printed : goal.returns-clause-printed
returns-clause-printed c =
    let notation = notation_of c.args.self.now.notation in
    record {
      first = notation.text c.args.self.now.depth c.in_ok-text.text.now;
      wrote = c.in_ok-write_text.ensures;
      prints = λ end p. text_printed c.args.self.now.depth c.args.self.now.form.now c.in_ok-text.form.now
          c.args.self.now.places.now c.args.rest.now c.in_ok-text.text.now (joined c.args.self.now.outer.items) end
          c.in_ok-text.ensures.read c.requires p;
    }
