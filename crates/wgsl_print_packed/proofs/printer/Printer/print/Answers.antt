use Rattle.std.proofs.Common.{refl, sym, ◌∙◌}
use Rattle.std.proofs.lemmas.Result.{err_from_is_err_and}
use Rattle.wgsl_print_packed.proofs.Steps.{less_of_pop, places_of_pop, all_printed}
use Rattle.wgsl_print_packed.proofs.Printed.{same_prints, no_places}
use Rattle.wgsl_print_packed.proofs.printer.Printer.print.Goals as goal

pub returns-in_err-print_place-clause-taken : goal.returns-in_err-print_place-clause-taken
returns-in_err-print_place-clause-taken c = λ text was.
    let p = err_from_is_err_and c.from_residual.result c.from_residual.ensures.1 in
    rw (p.1, p.2) (c.in_err-print_place.ensures.taken text (c.places.invariant.taken text was))

pub places-smaller : goal.places-smaller
places-smaller c = less_of_pop c.places.self.form.now c.places.self.places.now c.places.self.outer.items
    c.pop.new.self.items c.in-Some-pop.places c.in_default.ensures.cases c.in-Some-pop.ensures.items

pub places-preserved : goal.places-preserved
places-preserved c =
    let same = places_of_pop c.places.self.places.now c.places.self.outer.items c.pop.new.self.items
    c.in-Some-pop.places c.in_default.ensures.cases c.in-Some-pop.ensures.items in
    let before = c.places.invariant.printed in
    record {
      printed = record {
        first = before.first;
        wrote = before.wrote;
        prints = λ end p. before.prints end (same_prints c.places.self.depth (sym same) refl refl p);
      };
      taken = λ text was.
          let now = c.places.invariant.taken text was in
          record {
            end = now.end;
            whole = now.whole;
            prints = same_prints c.places.self.depth same refl refl now.prints;
          };
    }

pub returns-in_default-pop-clause-printed : goal.returns-in_default-pop-clause-printed
returns-in_default-pop-clause-printed c =
    let before = c.places.invariant.printed in
    let sizes = c.in_default-pop.ensures.cases in
    let old = no_places c.places.self.places.now c.places.self.outer.items c.in_default.ensures.cases
    (sym c.places.self.outer.ok.0 ∙ sizes.0) in
    let new = no_places c.places.self.places.now c.pop.new.self.items c.in_default.ensures.cases
    (sym c.pop.new.self.ok.0 ∙ sizes.1) in (
      record {
        first = before.first;
        wrote = before.wrote;
        prints = λ end p. before.prints end (same_prints c.places.self.depth (new ∙ sym old) refl refl p);
      },
      new,
    )

pub returns-in_default-pop-clause-taken : goal.returns-in_default-pop-clause-taken
returns-in_default-pop-clause-taken c = λ text was.
    let now = c.places.invariant.taken text was in
    all_printed c.places.self.places.now text c.places.self.text.items c.places.self.outer.items
    c.in_default.ensures.cases (sym c.places.self.outer.ok.0 ∙ c.in_default-pop.ensures.cases.0) now.whole now.prints
