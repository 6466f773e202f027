use Rattle.std.proofs.Common.{rules, arith, chars, sym, ◌∙◌}
use Rattle.wgsl_lex_scanner.proofs.Pieces.{line_goes_on}
use Rattle.wgsl_lex_scanner.proofs.trivia.after_line.Goals as goal

pub loop-after-preserved : goal.loop-after-preserved
loop-after-preserved c = record {
  text = search rules;
  rest = sym (line_goes_on (chars c.loop-after.rest.now) (chars c.in-Some.after.now) c.in-Some.ensures.value)
      ∙ c.loop-after.invariant.rest;
  within = omega (arith, c.loop-after.invariant.within, c.in-Some.ensures.shorter);
}
