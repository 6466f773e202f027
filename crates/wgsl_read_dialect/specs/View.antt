-- The steps of the code as those of a right side.
use Rattle.std.specs.Prelude.{List, [], ◌∷◌}
use Rattle.wgsl_lex_token.specs.View.{classes}
use Rattle.wgsl_read_dialect.specs.declared.step.Step.{Step, Token, Rule, Choice', Repeat', Row_of-Step, end_of-Step, more_of-Step}
use Rattle.wgsl_read_dialect.specs.Steps.{Steps, Steps.no_step, Steps.a_token, Steps.a_symbol, Steps.a_choice, Steps.items}
use Rattle.wgsl_read_dialect.specs.Symbols.{symbol_view}

-- a step before other steps, and steps in order
abbrev mutual
  pub step_view : Step → Steps → Steps
  step_view (Token kinds) k = a_token (classes kinds.now) k
  step_view (Rule n) k = a_symbol (symbol_view n) k
  step_view (Choice' kinds p m first q n second) k = a_choice (classes kinds.now) (row_view first) (row_view second) k
  step_view (Repeat' kinds p m each) k = items (classes kinds.now) (row_view each) k

  pub row_view : {m : _} → Row_of-Step m → Steps
  row_view end_of-Step = no_step
  row_view (more_of-Step s rest) = step_view s (row_view rest)

-- steps in order
abbrev pub steps_view : List Step → Steps
steps_view [] = no_step
steps_view (s ∷ ss) = step_view s (steps_view ss)
