use Rattle.std.proofs.Common.{rules, arith, chars, sym, ◌∙◌}
use Rattle.wgsl_lex_comments.proofs.CommentSteps.{after_one, along, at_end}
use Rattle.wgsl_lex_comments.proofs.trivia.after_line.Goals as goal

pub loop-after-preserved : goal.loop-after-preserved
loop-after-preserved c =
    let rest = chars c.loop-after.rest.now in
    let after = chars c.in-Some.after.now in
    record {
      text = search rules;
      rest = sym (along rest after c.in-Some.ensures.value) ∙ c.loop-after.invariant.rest;
      end = after_one (chars c.args.source.now) rest after c.in-Some.ensures.value.0
          c.loop-after.invariant.end c.in-Some.ensures.value.1;
      within = omega (arith, c.loop-after.invariant.within, c.in-Some.ensures.shorter);
    }

pub returns-clause-rest : goal.returns-clause-rest
returns-clause-rest c = at_end (chars c.loop-after.rest.now) c.in_default.ensures.value ∙ c.loop-after.invariant.rest
