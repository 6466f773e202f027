use Rattle.std.proofs.Common.{rules, arith, chars}
use Rattle.wgsl_format_layout.proofs.BlockLines.{line_starts, line_return, line_other, line_ends, line_is_last}
use Rattle.wgsl_format_layout.proofs.block.split_line.Goals as goal

pub characters-init : goal.characters-init
characters-init c =
    record { end = search rules; text = search rules; line = line_starts (chars c.args.text.now); within = omega arith }

pub returns-then-c-eq10-clause-value : goal.returns-then-c-eq10-clause-value
returns-then-c-eq10-clause-value c =
    let l = c.characters.invariant.line in
    line_ends (chars c.args.text.now) (chars c.characters.end.now) (chars c.characters.rest.now)
    (chars c.before-then-c-eq10.result.now) c.in-Some.c (chars c.in-Some.after.now) l
    c.in-Some.ensures.parts c.if-c-eq10.true (c.before-then-c-eq10.ensures l.front l.whole)

pub characters-preserved-then-c-ne13 : goal.characters-preserved-then-c-ne13
characters-preserved-then-c-ne13 c = record {
  end = search rules;
  text = search rules;
  line = line_other (chars c.args.text.now) (chars c.characters.end.now)
      (chars c.characters.rest.now) c.in-Some.c (chars c.in-Some.after.now)
      c.characters.invariant.line c.in-Some.ensures.parts c.if-c-eq10.false c.if-c-ne13.true;
  within = omega (arith, c.characters.invariant.within, c.in-Some.ensures.shorter);
}

pub characters-preserved : goal.characters-preserved
characters-preserved c = record {
  end = search rules;
  text = search rules;
  line = line_return (chars c.args.text.now) (chars c.characters.end.now)
      (chars c.characters.rest.now) c.in-Some.c (chars c.in-Some.after.now)
      c.characters.invariant.line c.in-Some.ensures.parts c.if-c-ne13.false;
  within = omega (arith, c.characters.invariant.within, c.in-Some.ensures.shorter);
}

pub returns-clause-value : goal.returns-clause-value
returns-clause-value c = line_is_last (chars c.args.text.now) (chars c.characters.end.now)
    (chars c.characters.rest.now) c.characters.invariant.line c.in_default.ensures.parts
