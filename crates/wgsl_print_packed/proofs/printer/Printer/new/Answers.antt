use Rattle.std.proofs.Common.{ℕ, List, [], ◌∷◌, ◌++◌, sym, ap, subst}
use denote.Bor.{Bor}
use Rattle.wgsl_model_packed.specs.Printing.{PrintsBy}
use Rattle.wgsl_print_packed.specs.Notations.{notation_of}
use Rattle.wgsl_print_packed.specs.Printing.{joined}
use Rattle.std.proofs.Common.{refl}
use Rattle.wgsl_print_packed.proofs.Printed.{same_prints}
use Rattle.wgsl_print_packed.proofs.printer.Printer.new.Goals as goal

pub returns-clause-taken : goal.returns-clause-taken
returns-clause-taken c = λ text p. record {
  end = text;
  whole = ap (λ (z : List ℕ). z ++ text) (sym c.in_ok-text.ensures.items);
  prints = subst (λ (z : List (Bor (List ℕ))). PrintsBy (notation_of c.args.notation) 0 (36 ∷ joined z) c.args.form.now text [])
      (sym c.new.ensures.items) p;
}

pub returns-clause-printed : goal.returns-clause-printed
returns-clause-printed c = λ end p.
    same_prints 0 (ap (λ (z : List (Bor (List ℕ))). 36 ∷ joined z) c.new.ensures.items) refl
    (ap (λ (z : List ℕ). z ++ end) (sym c.in_ok-text.ensures.items)) p
