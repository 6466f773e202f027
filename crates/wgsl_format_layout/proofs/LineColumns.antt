-- The column at which a line of a depth begins.
use Rattle.std.proofs.Common.{◌≡◌, ℕ, zero, suc, ◌+◌, ◌*◌, Bool, true, false, cond, refl, sym, ap, ◌∙◌, replicate, arith}
use Rattle.std.proofs.lemmas.Grind.{common_steps}
use Rattle.std.specs.Prelude.{codes}
use Rattle.wgsl_model_tidy.specs.Layout.{Layout, level, column_after}
use Rattle.wgsl_model_tidy.specs.LaidOut.{indentation, line_column}
use Rattle.wgsl_theory_tidy.proofs.Kept.Fitting.{column_append}

spaces_column : (layout : Layout) (n k : ℕ) → column_after layout n (replicate k 32) ≡ n + k
spaces_column layout n zero = omega arith
spaces_column layout n (suc k) =
    let next : (n + 1) + k ≡ n + suc k = omega arith in spaces_column layout (n + 1) k ∙ next

level_column : (layout : Layout) (n : ℕ) → column_after layout n (level layout) ≡ n + layout.indent
level_column layout n = go layout.tabs
  where
    go : (b : Bool) → column_after layout n (cond b (codes "\t") (replicate layout.indent 32)) ≡ n + layout.indent
    go true = refl
    go false = spaces_column layout n layout.indent

more_levels : (n k depth : ℕ) → (n + k) + k * depth ≡ n + k * suc depth
more_levels n k depth = grind (arith, common_steps)

indented : (layout : Layout) (n depth : ℕ)
    → column_after layout n (indentation layout depth) ≡ n + layout.indent * depth
indented layout n zero = omega arith
indented layout n (suc depth) =
    column_append layout n (level layout) (indentation layout depth)
    ∙ ap (λ k. column_after layout k (indentation layout depth)) (level_column layout n)
    ∙ indented layout (n + layout.indent) depth ∙ more_levels n layout.indent depth

pub line_begins : (layout : Layout) (depth : ℕ) → layout.indent * depth ≡ line_column layout depth
line_begins layout depth = sym (indented layout 0 depth ∙ none_before)
  where
    none_before : 0 + layout.indent * depth ≡ layout.indent * depth
    none_before = omega arith
