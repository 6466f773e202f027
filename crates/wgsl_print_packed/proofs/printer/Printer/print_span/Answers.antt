use Rattle.std.proofs.Common.{ℕ, List, [], ◌++◌, sym, ap, ◌∙◌, subst}
use Rattle.grammar.specs.Tokens.{Span}
use Rattle.wgsl_model_packed.specs.Printing.{PrintsBy}
use Rattle.wgsl_print_packed.specs.Notations.{notation_of}
use Rattle.wgsl_print_packed.specs.Printing.{joined}
use Rattle.wgsl_print_packed.proofs.Steps.{span_next, further}
use Rattle.wgsl_print_packed.proofs.Numbers.{span_kept}
use Rattle.wgsl_print_packed.proofs.Printed.{span_printed}
use Rattle.wgsl_print_packed.proofs.printer.Printer.print_span.Goals as goal

pub returns-in_err-start-clause-taken : goal.returns-in_err-start-clause-taken
returns-in_err-start-clause-taken c = λ text was.
    let outer = joined c.args.self.now.outer.items in
    let next = span_next c.args.self.now.depth (c.args.rest.now ++ outer) was.prints
    (ap (λ (z : List ℕ). z ++ outer) c.requires) in
    absurd (c.in_err-start.ensures.span next.span next.more next.taken)

pub returns-clause-taken : goal.returns-clause-taken
returns-clause-taken c = λ text was.
    let notation = notation_of c.args.self.now.notation in
    let depth = c.args.self.now.depth in
    let outer = joined c.args.self.now.outer.items in
    let rest = c.args.rest.now ++ outer in
    let next = span_next depth rest was.prints (ap (λ (z : List ℕ). z ++ outer) c.requires) in
    let read = c.in_ok-start.ensures.span next.span next.more next.taken in
    record {
      end = next.then.end;
      whole = further _ _ _ _ _ _ was.whole next.then.whole (c.in_ok-write_span.ensures
          ∙ ap (λ (z : List ℕ). c.args.self.now.text.items ++ z)
          (span_kept c.args.self.now.notation next.span _ _ read.0 read.1));
      prints = subst (λ (z : List ℕ). PrintsBy notation depth rest z next.then.end []) (sym read.2) next.then.prints;
    }

pub returns-clause-printed : goal.returns-clause-printed
returns-clause-printed c =
    let span : Span = record { start = c.in_ok-start.start; end = c.in_ok-start.end } in
    record {
      first = (notation_of c.args.self.now.notation).span span;
      wrote = c.in_ok-write_span.ensures;
      prints = λ end p. span_printed c.args.self.now.depth c.args.self.now.form.now c.in_ok-start.form.now
          c.args.self.now.places.now c.args.rest.now (joined c.args.self.now.outer.items) end span
          c.in_ok-start.ensures.read c.requires p;
    }
