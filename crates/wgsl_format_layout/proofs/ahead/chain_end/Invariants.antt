use Rattle.std.proofs.Common.{ℕ, ◌-◌, ◌≤◌, List, length}
use Rattle.wgsl_model_tidy.specs.Ahead.{Ahead, ends_chain}
use Rattle.wgsl_format_layout.specs.declared.marks.Mark.{Mark}
use Rattle.wgsl_format_layout.specs.Walks.{Follow}
use Rattle.wgsl_format_layout.proofs.Reaching.{Reaches, found_at}
use Rattle.wgsl_format_layout.proofs.ahead.chain_end.Given as goal

abbrev pub invariant-tokens : goal.invariant-tokens
invariant-tokens l = (l.from ≤ length l.tokens → l.place ≤ length l.tokens)
    × ((before : Mark) (n : ℕ) (ts : List Ahead) → Follow before l.from l.tokens n ts
    → Reaches (found_at (ends_chain n 0)) (found_at (ends_chain n 0) l.from ts) l.place l.tokens n)

abbrev pub decreases-tokens : goal.decreases-tokens
decreases-tokens l = length l.tokens - l.place
