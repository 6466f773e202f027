use Rattle.std.proofs.Common.{rules, arith, ◌≡◌, ◌+◌, ◌-◌, suc, chars, sym, ap, ◌∙◌}
use Rattle.wgsl_lex_scanner.specs.Trivia.{after_block}
use Rattle.wgsl_lex_scanner.proofs.Pieces.{block_goes, block_opens, block_ends, block_closes, no_block}
use Rattle.wgsl_lex_scanner.proofs.trivia.after_block.Goals as goal

pub returns-in-Ends-clause-value : goal.returns-in-Ends-clause-value
returns-in-Ends-clause-value c =
    sym (ap (after_block c.steps.depth) c.in-Ends.ensures.value ∙ no_block c.steps.depth)
    ∙ c.steps.invariant.rest

pub steps-preserved-in-Goes : goal.steps-preserved-in-Goes
steps-preserved-in-Goes c =
    let goes = c.in-Goes.ensures.value in
    record {
      text = search rules;
      rest = sym (ap (after_block c.steps.depth) goes.1 ∙ block_goes c.steps.depth goes.0
          (chars c.in-Goes.after.now) goes.2 goes.3) ∙ c.steps.invariant.rest;
      within = omega (arith, c.steps.invariant.within, c.in-Goes.ensures.shorter);
    }

pub steps-preserved-in-Opens : goal.steps-preserved-in-Opens
steps-preserved-in-Opens c =
    let body = chars c.in-Opens.body.now in
    let more : c.steps.depth + 1 ≡ suc c.steps.depth = omega arith in
    record {
      text = search rules;
      rest = ap (λ n. after_block n body) more
          ∙ sym (ap (after_block c.steps.depth) c.in-Opens.ensures.value ∙ block_opens c.steps.depth body)
          ∙ c.steps.invariant.rest;
      within = omega (arith, c.steps.invariant.within, c.in-Opens.ensures.shorter);
    }

pub returns-then-depth-eq0-clause-value : goal.returns-then-depth-eq0-clause-value
returns-then-depth-eq0-clause-value c =
    let sign = ap (λ n. after_block n (chars c.steps.rest.now)) c.if-depth-eq0.true
    ∙ ap (after_block 0) c.in-Closes.ensures.value in
    sym (sign ∙ block_ends (chars c.in-Closes.outer.now)) ∙ c.steps.invariant.rest

pub steps-preserved : goal.steps-preserved
steps-preserved c =
    let less : c.steps.depth ≡ suc (c.steps.depth - 1) = omega (arith, c.if-depth-eq0.false) in
    let sign = ap (λ n. after_block n (chars c.steps.rest.now)) less
    ∙ ap (after_block (suc (c.steps.depth - 1))) c.in-Closes.ensures.value in
    record {
      text = search rules;
      rest = sym (sign ∙ block_closes (c.steps.depth - 1) (chars c.in-Closes.outer.now))
          ∙ c.steps.invariant.rest;
      within = omega (arith, c.steps.invariant.within, c.in-Closes.ensures.shorter);
    }
