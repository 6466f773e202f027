-- The column after a text, part by part.
use Rattle.std.proofs.Common.{◌≡◌, ℕ, ◌+◌, ◌==◌, false, cond, refl, List, [], ◌∷◌, ◌++◌}
use Rattle.wgsl_model_tidy.specs.Layout.{Layout, columns, column_after}

-- no character is LF
abbrev pub HasNoLineEnd : List ℕ → Type 0
HasNoLineEnd [] = Unit {0}
HasNoLineEnd (c ∷ cs) = ((c == 10) ≡ false) × HasNoLineEnd cs

pub no_line_end_both : (xs ys : List ℕ) → HasNoLineEnd xs → HasNoLineEnd ys → HasNoLineEnd (xs ++ ys)
no_line_end_both [] ys h k = k
no_line_end_both (x ∷ xs) ys h k = (h.0, no_line_end_both xs ys h.1 k)

-- ---- columns

pub column_append : (layout : Layout) (n : ℕ) (xs ys : List ℕ)
    → column_after layout n (xs ++ ys) ≡ column_after layout (column_after layout n xs) ys
column_append layout n [] ys = refl
column_append layout n (x ∷ xs) ys = column_append layout (cond (x == 10) 0 (n + columns layout x)) xs ys
