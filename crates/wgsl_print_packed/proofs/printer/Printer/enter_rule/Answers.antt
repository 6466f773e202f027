use Rattle.std.proofs.Common.{ap, sym, ◌∙◌}
use Rattle.wgsl_model_packed.specs.Printing.{in_place}
use Rattle.wgsl_print_packed.specs.Printing.{joined}
use Rattle.wgsl_print_packed.proofs.Table.{rule_short}
use Rattle.wgsl_print_packed.proofs.Steps.{further, less_of_rule, rule_taken}
use Rattle.wgsl_print_packed.proofs.Printed.{rule_printed}
use Rattle.wgsl_print_packed.proofs.printer.Printer.enter_rule.Goals as goal

pub returns-clause-smaller : goal.returns-clause-smaller
returns-clause-smaller c =
    let begun = c.in_ok-self.ensures in
    let content = c.in-Some-rule.text.now in
    let same = ap (in_place c.args.place) (sym c.as_bytes.ensures.value) ∙ begun.whole in
    less_of_rule c.args.place c.args.self.now.form.now c.in-Some.form.now c.args.self.now.places.now c.args.rest.now
    content begun.first _ (joined c.args.self.now.outer.items) (joined c.keep_rest.new.outer.items) _ _
    c.in-Some.ensures.cases.1
    (rule_short c.args.self.now.notation c.in-Some.number.now content c.in-Some-rule.ensures)
    same c.requires.at c.in_ok-keep_rest.ensures.kept c.in_ok-keep_rest.ensures.length

pub returns-clause-printed : goal.returns-clause-printed
returns-clause-printed c =
    let begun = c.in_ok-self.ensures in
    let content = c.in-Some-rule.text.now in
    let same = ap (in_place c.args.place) (sym c.as_bytes.ensures.value) ∙ begun.whole in
    record {
      first = begun.first;
      wrote = begun.wrote;
      prints = λ end p. rule_printed c.args.self.now.depth c.args.place c.in-Some.number.now c.args.self.now.form.now
          c.in-Some.form.now c.args.self.now.places.now c.args.rest.now content begun.first _
          (joined c.args.self.now.outer.items) (joined c.keep_rest.new.outer.items) end
          c.in-Some.ensures.cases.0 c.requires.rule c.in-Some-rule.ensures same begun.plain c.requires.at
          c.in_ok-keep_rest.ensures.kept p;
    }

pub returns-clause-taken : goal.returns-clause-taken
returns-clause-taken c = λ text was.
    let begun = c.in_ok-self.ensures in
    let content = c.in-Some-rule.text.now in
    let same = ap (in_place c.args.place) (sym c.as_bytes.ensures.value) ∙ begun.whole in
    let next = rule_taken c.args.self.now.depth c.args.place c.in-Some.number.now c.args.self.now.form.now
    c.in-Some.form.now c.args.self.now.places.now c.args.rest.now content begun.first _
    (joined c.args.self.now.outer.items) (joined c.keep_rest.new.outer.items)
    c.in-Some.ensures.cases.0 c.requires.rule c.in-Some-rule.ensures same begun.plain c.requires.at
    c.in_ok-keep_rest.ensures.kept was.prints in
    record {
      end = next.end;
      whole = further _ _ _ _ _ _ was.whole next.whole begun.wrote;
      prints = next.prints;
    }
