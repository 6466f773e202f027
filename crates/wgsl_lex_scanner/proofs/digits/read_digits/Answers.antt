use Rattle.std.proofs.Common.{rules, ◌+◌, ◌*◌, chars, sym, ◌∙◌, ap, arith}
use Rattle.wgsl_lex_scanner.specs.Digits.{read_digits, skip_digits}
use Rattle.wgsl_lex_scanner.proofs.CharacterClasses.{read_digits-step, skip_digits-step}
use Rattle.wgsl_lex_scanner.proofs.digits.read_digits.Goals as goal

pub loop-c-preserved : goal.loop-c-preserved
loop-c-preserved c =
    let known = c.loop-c.invariant.value in
    let digit = c.in-Some-to_digit.ensures.value in
    let parts = c.in-Some.ensures.parts in
    let rest = chars c.in-Some.after.now in
    record {
      text = search rules;
      rest = sym (skip_digits-step c.args.radix c.in-Some.c rest digit.0)
          ∙ ap (skip_digits c.args.radix) (sym parts) ∙ c.loop-c.invariant.rest;
      value = (
        known.0 * c.args.radix + c.in-Some-to_digit.digit,
        c.with_digit-value.ensures known.0 known.1,
        rw digit.1 (sym (read_digits-step c.args.radix known.0 c.in-Some.c rest digit.0))
            ∙ ap (read_digits c.args.radix known.0) (sym parts) ∙ known.2,
      );
      within = omega (arith, c.in-Some.ensures.shorter);
    }
