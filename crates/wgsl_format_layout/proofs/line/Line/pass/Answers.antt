use Rattle.std.proofs.Common.{rules, refl, sym, ◌∙◌, chars, length}
use Rattle.std.proofs.lemmas.Result.{IfOk-weaker}
use Rattle.wgsl_format_layout.proofs.Added.{printable_passed, one_passed, all_passed}
use Rattle.wgsl_format_layout.proofs.line.Line.pass.Goals as goal

pub characters-preserved : goal.characters-preserved
characters-preserved c = record {
  text = search rules;
  passed = one_passed c.args.self.now c.characters.self c.pass_one.new.self (chars c.args.text.now)
      (chars c.characters.rest.now) (chars c.in-Some.after.now) c.in-Some.c
      c.characters.invariant.passed c.in-Some.ensures.parts c.in_ok-pass_one.ensures;
}

pub returns : goal.returns
returns c = all_passed c.args.self.now c.characters.self (chars c.args.text.now)
    (chars c.characters.rest.now) c.characters.invariant.passed c.in_default.ensures.parts

pub returns-then-is_printable : goal.returns-then-is_printable
returns-then-is_printable c = IfOk-weaker c.move_on.result _ _
    (λ _ m. printable_passed c.args.self.now c.move_on.new.self c.args.text.now (length c.args.text.now)
    (sym c.is_printable.ensures ∙ c.if-is_printable.true) refl m) c.move_on.ensures
