use Rattle.std.proofs.Common.{◌≡◌, ℕ, suc, ◌+◌, ◌-◌, ◌≤◌, true, List, ◌∷◌, drop}
use Rattle.wgsl_model_tidy.specs.Roles.{opens}
use Rattle.wgsl_model_tidy.specs.Ahead.{Ahead, content, is_table}
use Rattle.wgsl_format_layout.specs.declared.marks.Mark.{Mark}
use Rattle.wgsl_format_layout.specs.Walks.{Follow}
use Rattle.wgsl_format_layout.proofs.Contents.{is_table_from}
use Rattle.wgsl_format_layout.proofs.ahead.is_table.Given as goal

abbrev pub invariant-tokens : goal.invariant-tokens
invariant-tokens l = (l.commas + suc l.opening ≤ l.place)
    × ((before : Mark) (n : ℕ) (t : Ahead) (ts : List Ahead)
    → Follow before l.opening l.tokens n (t ∷ ts) → opens t.role ≡ true
    → is_table_from l.commas (drop (l.place - suc l.opening) (content (suc n) ts)) ≡ is_table (suc n) ts)
