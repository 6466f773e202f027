use Rattle.std.proofs.Common.{◌≡◌, ℕ, suc, ◌+◌, ◌-◌, ◌<◌, true, List, ◌∷◌, length}
use Rattle.wgsl_model_tidy.specs.Roles.{opens}
use Rattle.wgsl_model_tidy.specs.Ahead.{Ahead, keeps_rows}
use Rattle.wgsl_format_layout.specs.Layouts.{layout_view}
use Rattle.wgsl_format_layout.specs.declared.marks.Mark.{Mark}
use Rattle.wgsl_format_layout.specs.Walks.{Follow}
use Rattle.wgsl_format_layout.proofs.RowWalks.{RowsAt}
use Rattle.wgsl_format_layout.proofs.ahead.keeps_rows.Given as goal

abbrev pub invariant-tokens : goal.invariant-tokens
invariant-tokens l = (l.rows + l.opening < l.place)
    × (l.row.has_several ≡ true → (l.row.first < l.place) × (l.row.first < l.close))
    × ((before : Mark) (n : ℕ) (t : Ahead) (ts : List Ahead)
    → Follow before l.opening l.tokens n (t ∷ ts) → opens t.role ≡ true
    → RowsAt (layout_view l.layout) (suc n) l.column l.close l.tokens
    (keeps_rows (layout_view l.layout) (suc n) l.column ts)
    l.rows l.row.first l.row.has_several l.place)

abbrev pub decreases-tokens : goal.decreases-tokens
decreases-tokens l = length l.tokens - l.place
