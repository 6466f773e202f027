use Rattle.std.proofs.Common.{ℕ, ◌-◌, List, length}
use Rattle.wgsl_model_tidy.specs.Ahead.{Ahead, ends_chain}
use Rattle.wgsl_format_layout.specs.declared.marks.Mark.{Mark}
use Rattle.wgsl_format_layout.specs.Walks.{Follow}
use Rattle.wgsl_format_layout.proofs.Deeper.{any_before}
use Rattle.wgsl_format_layout.proofs.Reaching.{Reaches, found_before, is_operator}
use Rattle.wgsl_format_layout.proofs.ahead.has_operator.Given as goal

abbrev pub invariant-tokens : goal.invariant-tokens
invariant-tokens l = (before : Mark) (n : ℕ) (ts : List Ahead) → Follow before l.from l.tokens n ts
    → Reaches (found_before (ends_chain n 0) (is_operator n)) (any_before (ends_chain n 0) (is_operator n) ts)
    l.place l.tokens n

abbrev pub decreases-tokens : goal.decreases-tokens
decreases-tokens l = length l.tokens - l.place
