use Rattle.std.proofs.Common.{ℕ, List, [], ◌++◌, sym, ap, ◌∙◌, subst}
use Rattle.wgsl_model_packed.specs.Printing.{PrintsBy}
use Rattle.wgsl_print_packed.specs.Notations.{notation_of}
use Rattle.wgsl_print_packed.specs.Printing.{joined}
use Rattle.wgsl_print_packed.proofs.Steps.{plain_run, further}
use Rattle.std.proofs.Common.{take}
use Rattle.wgsl_print_packed.proofs.Printed.{plain_printed}
use Rattle.wgsl_print_packed.proofs.printer.Printer.write_plain.Goals as goal

pub returns-clause-taken : goal.returns-clause-taken
returns-clause-taken c = λ text was.
    let outer = joined c.args.self.now.outer.items in
    let depth = c.args.self.now.depth in
    let next = plain_run depth c.plain_length.result c.args.self.now.places.now outer
    c.plain_length.ensures.bound c.plain_length.ensures.plain was.prints in
    record {
      end = next.end;
      whole = further _ _ _ _ _ _ was.whole next.whole (c.in_ok-extend_from_slice.ensures.items
          ∙ ap (λ (z : List ℕ). c.args.self.now.text.items ++ z) c.split_at.ensures.front);
      prints = subst (λ (z : List ℕ). PrintsBy (notation_of c.args.self.now.notation) depth (z ++ outer) c.args.self.now.form.now next.end [])
          (sym c.split_at.ensures.back) next.prints;
    }

pub returns-clause-printed : goal.returns-clause-printed
returns-clause-printed c =
    let n = c.plain_length.result in
    let places = c.args.self.now.places.now in
    let outer = joined c.args.self.now.outer.items in
    record {
      first = take n places;
      wrote = c.in_ok-extend_from_slice.ensures.items
          ∙ ap (λ (z : List ℕ). c.args.self.now.text.items ++ z) c.split_at.ensures.front;
      prints = λ end p. plain_printed c.args.self.now.depth n c.args.self.now.form.now places outer end
          c.plain_length.ensures.bound c.plain_length.ensures.plain
          (subst (λ (z : List ℕ). PrintsBy (notation_of c.args.self.now.notation) c.args.self.now.depth (z ++ outer) c.args.self.now.form.now end [])
          c.split_at.ensures.back p);
    }
