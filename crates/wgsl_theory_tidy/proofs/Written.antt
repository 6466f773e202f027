-- The characters of what is written between pieces, and of blank space level by level.
use Rattle.std.proofs.Common.{◌≡◌, ℕ, zero, suc, ◌+◌, true, false, refl, ap, ◌∙◌, sym, List, ◌++◌, append_assoc, append-nil, replicate, arith}
use Rattle.std.specs.Prelude.{codes}
use Rattle.std.specs.Str.{chars}
use Rattle.std.proofs.lemmas.List.{replicate-append-replicate}
use Rattle.wgsl_model_tidy.specs.Layout.{Layout, level}
use Rattle.wgsl_model_tidy.specs.LaidOut.{indentation}

pub space_chars : chars (codes " ") ≡ codes " "
unfolding chars
space_chars = refl

pub tab_chars : chars (codes "\t") ≡ codes "\t"
unfolding chars
tab_chars = refl

pub line_chars : chars (codes "\n") ≡ codes "\n"
unfolding chars
line_chars = refl

pub empty_line_chars : chars (codes "\n\n") ≡ codes "\n\n"
unfolding chars
empty_line_chars = refl

-- a level
pub tab_level : (layout : Layout) → layout.tabs ≡ true → level layout ≡ codes "\t"
tab_level layout h = rw h refl

pub space_level : (layout : Layout) → layout.tabs ≡ false → level layout ≡ replicate layout.indent 32
space_level layout h = rw h refl

-- a space more
pub one_space : (text : List ℕ) (n : ℕ) → (text ++ replicate n 32) ++ codes " " ≡ text ++ replicate (n + 1) 32
one_space text n = append_assoc text (replicate n 32) (replicate 1 32)
    ∙ ap (λ xs. text ++ xs) (replicate-append-replicate n 1 32)

-- a level more
level_after : (layout : Layout) (depth : ℕ)
    → indentation layout depth ++ level layout ≡ level layout ++ indentation layout depth
level_after layout zero = sym (append-nil (level layout))
level_after layout (suc depth) = append_assoc (level layout) (indentation layout depth) (level layout)
    ∙ ap (λ xs. level layout ++ xs) (level_after layout depth)

pub one_level : (layout : Layout) (text : List ℕ) (depth : ℕ)
    → (text ++ indentation layout depth) ++ level layout ≡ text ++ indentation layout (depth + 1)
one_level layout text depth =
    let more : depth + 1 ≡ suc depth = omega arith in
    append_assoc text (indentation layout depth) (level layout)
    ∙ ap (λ xs. text ++ xs) (level_after layout depth) ∙ ap (λ n. text ++ indentation layout n) (sym more)
