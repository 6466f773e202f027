use Rattle.std.proofs.Common.{rules, arith, ◌≡◌, ◌+◌, ◌-◌, suc, chars, sym, ap, ◌∙◌}
use Rattle.wgsl_model.specs.Tokens.Trivia.{after_trivia, in_block, out_of_block}
use Rattle.wgsl_lex_comments.proofs.CommentSteps.{after_one, after_two, goes, goes_in, goes_out, goes_over, none_left, closed_deeper, one_less}
use Rattle.wgsl_lex_comments.proofs.trivia.after_block.Goals as goal

pub returns-in-Ends-clause-rest : goal.returns-in-Ends-clause-rest
returns-in-Ends-clause-rest c n = none_left (out_of_block n) (in_block (n + c.steps.depth))
    (chars c.steps.rest.now) c.in-Ends.ensures.value ∙ c.steps.invariant.rest n

pub steps-preserved-in-Goes : goal.steps-preserved-in-Goes
steps-preserved-in-Goes c =
    let rest = chars c.steps.rest.now in
    let after = chars c.in-Goes.after.now in
    let step = c.in-Goes.ensures.value in
    record {
      text = search rules;
      rest = λ n. goes (n + c.steps.depth) step.0 rest after step.1 step.2 step.3 ∙ c.steps.invariant.rest n;
      end = after_one (chars c.args.source.now) rest after step.0 c.steps.invariant.end step.1;
      within = omega (arith, c.steps.invariant.within, c.in-Goes.ensures.shorter);
    }

pub steps-preserved-in-Some : goal.steps-preserved-in-Some
steps-preserved-in-Some c = record {
  text = search rules;
  rest = λ n. goes_over (n + c.steps.depth) (chars c.steps.rest.now) (chars c.in-Opens.body.now)
      (chars c.in-Some.over.now) c.in-Opens.ensures.value c.in-Some.ensures.leaves ∙ c.steps.invariant.rest n;
  end = c.in-Some.ensures.end;
  within = omega (arith, c.steps.invariant.within, c.in-Some.ensures.shorter);
}

pub steps-preserved-in-Opens : goal.steps-preserved-in-Opens
steps-preserved-in-Opens c =
    let rest = chars c.steps.rest.now in
    let body = chars c.in-Opens.body.now in
    record {
      text = search rules;
      rest = λ n. let same : n + (c.steps.depth + 1) ≡ suc (n + c.steps.depth) = omega arith in
          ap (λ m. after_trivia (in_block m) body) same
          ∙ goes_in (n + c.steps.depth) rest body c.in-Opens.ensures.value ∙ c.steps.invariant.rest n;
      end = after_two (chars c.args.source.now) rest body 47 42 c.steps.invariant.end
          c.in-Opens.ensures.value;
      within = omega (arith, c.steps.invariant.within, c.in-Opens.ensures.shorter);
    }

pub returns-then-depth-eq0-clause-rest : goal.returns-then-depth-eq0-clause-rest
returns-then-depth-eq0-clause-rest c n =
    let same : n ≡ n + c.steps.depth = omega (arith, c.if-depth-eq0.true) in
    goes_out n (chars c.steps.rest.now) (chars c.in-Closes.after.now) c.in-Closes.ensures.value
    ∙ ap (λ m. after_trivia (in_block m) (chars c.steps.rest.now)) same ∙ c.steps.invariant.rest n

pub returns-then-depth-eq0-clause-end : goal.returns-then-depth-eq0-clause-end
returns-then-depth-eq0-clause-end c = after_two (chars c.args.source.now) (chars c.steps.rest.now)
    (chars c.in-Closes.after.now) 42 47 c.steps.invariant.end c.in-Closes.ensures.value

pub steps-preserved : goal.steps-preserved
steps-preserved c =
    let rest = chars c.steps.rest.now in
    let after = chars c.in-Closes.after.now in
    record {
      text = search rules;
      rest = λ n. let less = one_less n c.steps.depth c.if-depth-eq0.false in
          ap (λ p. after_trivia p after) (sym (closed_deeper (n + c.steps.depth) (n + (c.steps.depth - 1)) less))
          ∙ goes_out (n + c.steps.depth) rest after c.in-Closes.ensures.value ∙ c.steps.invariant.rest n;
      end = after_two (chars c.args.source.now) rest after 42 47 c.steps.invariant.end
          c.in-Closes.ensures.value;
      within = omega (arith, c.steps.invariant.within, c.in-Closes.ensures.shorter);
    }
