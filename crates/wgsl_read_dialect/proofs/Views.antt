-- How steps that hold steps are seen.
use Rattle.std.proofs.Common.{◌≡◌, List, refl, ap, ap₂, ◌∙◌}
use Rattle.std.specs.Borrow.{Bor}
use Rattle.wgsl_lex_token.specs.declared.kind_table.TokenKind.{TokenKind}
use Rattle.wgsl_lex_token.specs.View.{classes}
use Rattle.wgsl_read_dialect.specs.declared.step.Step.{Step, Choice, Repeat, Row_of-Step, end_of-Step, more_of-Step, items-the_row-Step, items_hidden-the_row-Step-0}
use Rattle.wgsl_read_dialect.specs.declared.step.Step.TheBlock.{hidden-the_row-Step-0}
use Rattle.wgsl_read_dialect.specs.Steps.{Steps, Steps.a_choice, Steps.items}
use Rattle.wgsl_read_dialect.specs.View.{step_view, row_view, steps_view}

row_is : (n : _) (row : Row_of-Step n) → row_view row ≡ steps_view (items-the_row-Step n row)
row_is _ end_of-Step = refl
row_is _ (more_of-Step s rest) = ap (step_view s) (row_is _ rest)

kept : (steps : List Step) → row_view (hidden-the_row-Step-0 steps) ≡ steps_view steps
kept steps = row_is _ (hidden-the_row-Step-0 steps) ∙ ap steps_view (items_hidden-the_row-Step-0 steps)

pub choice_is : (kinds : Bor (List TokenKind)) (first second : Bor (List Step)) (k : Steps)
    → step_view (Choice kinds first second) k
    ≡ a_choice (classes kinds.now) (steps_view first.now) (steps_view second.now) k
choice_is kinds first second k = ap₂ (λ (x y : Steps). a_choice (classes kinds.now) x y k)
    (kept first.now) (kept second.now)

pub repeat_is : (kinds : Bor (List TokenKind)) (each : Bor (List Step)) (k : Steps)
    → step_view (Repeat kinds each) k ≡ items (classes kinds.now) (steps_view each.now) k
repeat_is kinds each k = ap (λ (x : Steps). items (classes kinds.now) x k) (kept each.now)
