-- The blank space at the front of a line: spaces and tabs.
use Rattle.std.proofs.Common.{ℕ, zero, suc, Bool, true, false, cond, List, [], ◌∷◌, ◌++◌, replicate, codes}
use Rattle.wgsl_model_tidy.specs.Layout.{Layout, level}
use Rattle.wgsl_model_tidy.specs.LaidOut.{indentation}

-- nothing but spaces and tabs
pub data IsIndent : List ℕ → Type 0 where
  no_indent : IsIndent []
  one_space : (xs : List ℕ) → IsIndent xs → IsIndent (32 ∷ xs)
  one_tab : (xs : List ℕ) → IsIndent xs → IsIndent (9 ∷ xs)

pub both_indents : (xs ys : List ℕ) → IsIndent xs → IsIndent ys → IsIndent (xs ++ ys)
both_indents _ ys (no_indent) k = k
both_indents _ ys (one_space xs h) k = one_space (xs ++ ys) (both_indents xs ys h k)
both_indents _ ys (one_tab xs h) k = one_tab (xs ++ ys) (both_indents xs ys h k)

spaces_indent : (n : ℕ) → IsIndent (replicate n 32)
spaces_indent zero = no_indent
spaces_indent (suc n) = one_space (replicate n 32) (spaces_indent n)

pub level_indent : (layout : Layout) → IsIndent (level layout)
level_indent layout = go layout.tabs
  where
    go : (b : Bool) → IsIndent (cond b (codes "\t") (replicate layout.indent 32))
    go true = one_tab [] no_indent
    go false = spaces_indent layout.indent

pub indentation_indent : (layout : Layout) (depth : ℕ) → IsIndent (indentation layout depth)
indentation_indent layout zero = no_indent
indentation_indent layout (suc depth) = both_indents (level layout) (indentation layout depth)
    (level_indent layout) (indentation_indent layout depth)
