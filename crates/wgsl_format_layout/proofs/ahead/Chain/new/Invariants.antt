use Rattle.std.proofs.Common.{◌≡◌, ℕ, suc, ◌-◌, ◌<◌, ◌≤◌, false, List, ◌∷◌, length}
use Rattle.wgsl_model_tidy.specs.Roles.{closes}
use Rattle.wgsl_model_tidy.specs.Ahead.{Ahead}
use Rattle.wgsl_format_layout.specs.declared.marks.Mark.{Mark}
use Rattle.wgsl_format_layout.specs.Walks.{Follow}
use Rattle.wgsl_format_layout.proofs.Reaching.{Reaches}
use Rattle.wgsl_format_layout.proofs.Chains.{chain_from, chain_at, first_chain}
use Rattle.wgsl_format_layout.proofs.ahead.Chain.new.Given as goal

abbrev pub invariant-tokens : goal.invariant-tokens
invariant-tokens l = (l.chain.end ≤ length l.tokens) × (l.chain.operator < length l.tokens)
    × (l.chain.last < length l.tokens)
    × ((before : Mark) (n : ℕ) (t : Ahead) (ts : List Ahead)
    → Follow before l.first l.tokens n (t ∷ ts) → closes t.role ≡ false
    → Reaches (chain_at n l.limit l.chain)
    (chain_from n l.limit (first_chain l.first (suc l.first)) ts) l.chain.end l.tokens n)

abbrev pub decreases-tokens : goal.decreases-tokens
decreases-tokens l = length l.tokens - l.chain.end
