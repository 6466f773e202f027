-- Step by step.
use Rattle.std.proofs.Common.{List, sym, ap, drop, ◌∙◌}
use Rattle.std.specs.Prelude.{Some}
use Rattle.wgsl_lex_token.specs.View.{classes}
use Rattle.wgsl_lex_templates.specs.declared.brackets.Open.{Open}
use Rattle.wgsl_lex_templates.specs.declared.operators.Operators.TheVariants as operators
use Rattle.wgsl_lex_templates.specs.declared.steps.Position.TheVariants as positions
use Rattle.wgsl_lex_templates.specs.Expressions.{after_position, after_all}
use Rattle.wgsl_lex_templates.proofs.Advancing.Steps.{begins, opens, goes_on, fails, none_after}
use Rattle.wgsl_lex_templates.proofs.expression.expression.Goals as goal

pub steps-init : goal.steps-init
steps-init c =
    let cs = classes c.args.kinds.now in
    record {
      whole = ap (λ (o : List Open). after_all o (after_position positions.Operand operators.None cs))
          c.clear.ensures ∙ begins cs;
    }

-- a bracket is opened
pub steps-preserved-in-Opens : goal.steps-preserved-in-Opens
steps-preserved-in-Opens c =
    let rest = classes c.in-Opens.rest.now in
    let item : Open = record { bracket = c.in-Opens.bracket; operators = c.steps.operators } in
    record {
      whole = ap (λ (o : List Open). after_all o (after_position positions.Operand operators.None rest))
          c.in_ok-push-in-Opens.ensures
          ∙ opens c.steps.opened item c.steps.position c.steps.operators
          (classes c.steps.left.now) rest c.in-Opens.ensures.value
          ∙ c.steps.invariant.whole;
    }

-- nothing can be here
pub returns-in-Fails : goal.returns-in-Fails
returns-in-Fails c = sym c.steps.invariant.whole
    ∙ ap (after_all c.steps.opened) c.in-Fails.ensures.value ∙ none_after c.steps.opened

-- another expression follows in the innermost bracket
pub steps-preserved : goal.steps-preserved
steps-preserved c =
    let left = classes c.steps.left.now in
    let rest = classes c.in-GoesOn-close.rest.now in
    record {
      whole = ap (λ (o : List Open). after_all o (after_position positions.Operand operators.None rest))
          c.in-Some.ensures
          ∙ goes_on (drop 1 c.steps.opened) c.in-Some.item left rest c.in-GoesOn-close.ensures.value
          ∙ ap (λ (o : List Open). after_all o (Some left)) (sym c.in-Some.ensures)
          ∙ ap (after_all c.steps.opened) (sym c.in-Ends.ensures.value) ∙ c.steps.invariant.whole;
    }

-- the innermost bracket is not closed
pub returns-in-Fails-close : goal.returns-in-Fails-close
returns-in-Fails-close c =
    let left = classes c.steps.left.now in
    sym c.steps.invariant.whole ∙ ap (after_all c.steps.opened) c.in-Ends.ensures.value
    ∙ ap (λ (o : List Open). after_all o (Some left)) c.in-Some.ensures
    ∙ fails (drop 1 c.steps.opened) c.in-Some.item left c.in-Fails-close.ensures.value
