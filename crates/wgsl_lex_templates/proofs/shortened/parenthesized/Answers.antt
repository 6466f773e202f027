-- The content and what is after it are what the kinds have after the parenthesis.
use Rattle.std.proofs.Common.{◌∙◌, ◌++◌, ap₂}
use Rattle.std.proofs.lemmas.List.{take-append-drop}
use Rattle.wgsl_lex_templates.proofs.Readings.Enclosed.{two_taken}
use Rattle.wgsl_lex_templates.proofs.shortened.parenthesized.Goals as goal

pub returns : goal.returns
returns c =
    two_taken c.args.kinds.now c.in_ok-inner.inner.now c.split_at.result.0.now
    c.split_at.result.1.now c.in_ok-take.field-0.now c.in_ok-inner.ensures.value
    (ap₂ (λ x y. x ++ y) c.split_at.ensures.front c.split_at.ensures.back
    ∙ take-append-drop c.in_ok-closing.field-0 c.in_ok-inner.inner.now) c.in_ok-take.ensures.value
