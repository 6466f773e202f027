-- The lines of two texts among those of a diff.
use Rattle.std.proofs.Common.{◌≡◌, refl, ap, ◌∙◌, sym, subst, ℕ, zero, suc, ◌+◌, ◌<◌, ◌≤◌, true, false, List, [], ◌∷◌, ◌++◌, length, map, take, drop, get_or, take-add, arith}
use Rattle.std.proofs.lemmas.Bool.{false≢true}
use Rattle.std.proofs.lemmas.List.{map-append, map_more, take-map, take-take}
use Rattle.std.specs.Int.{from_bool}
use Rattle.wgsl_diff.specs.declared.line.Line as code
use Rattle.wgsl_diff.specs.View.{line_view}
use Rattle.wgsl_diff.specs.Diffs.{Line, kept, removed, added, is_kept, in_old, in_new, old_lines, new_lines, AllKept}

-- each front of lines that both texts have is such
pub front_kept : (n : ℕ) (lines : List Line) → AllKept lines → AllKept (take n lines)
front_kept zero lines all = tt
front_kept (suc n) [] all = tt
front_kept (suc n) (kept text ∷ lines) all = front_kept n lines all
front_kept (suc n) (removed text ∷ lines) all = absurd all
front_kept (suc n) (added text ∷ lines) all = absurd all

-- one line more
pub old_step : (line : Line) (lines : List Line)
    → length (old_lines (line ∷ lines)) ≡ from_bool (in_old line) + length (old_lines lines)
old_step (kept text) lines = omega arith
old_step (removed text) lines = omega arith
old_step (added text) lines = omega arith

pub new_step : (line : Line) (lines : List Line)
    → length (new_lines (line ∷ lines)) ≡ from_bool (in_new line) + length (new_lines lines)
new_step (kept text) lines = omega arith
new_step (removed text) lines = omega arith
new_step (added text) lines = omega arith

-- lines that both texts have, and more of them
pub all_kept-append : (lines more : List Line) → AllKept lines → AllKept more → AllKept (lines ++ more)
all_kept-append [] more all others = others
all_kept-append (kept text ∷ lines) more all others = all_kept-append lines more all others
all_kept-append (removed text ∷ lines) more all others = absurd all
all_kept-append (added text ∷ lines) more all others = absurd all

-- and with one more that both texts have
all_kept_push : (lines : List Line) (line : Line) → AllKept lines → is_kept line ≡ true → AllKept (lines ++ line ∷ [])
all_kept_push lines (kept text) all one = all_kept-append lines (kept text ∷ []) all tt
all_kept_push lines (removed text) all one = absurd (false≢true one)
all_kept_push lines (added text) all one = absurd (false≢true one)

-- both texts have the last one
last_kept : (lines : List Line) (line : Line) → AllKept (lines ++ line ∷ []) → is_kept line ≡ true
last_kept [] (kept text) all = refl
last_kept [] (removed text) all = absurd all
last_kept [] (added text) all = absurd all
last_kept (kept text ∷ lines) line all = last_kept lines line all
last_kept (removed text ∷ lines) line all = absurd all
last_kept (added text ∷ lines) line all = absurd all

-- so is a front with one line more
pub front_more : (lines : List code.Line) (i : ℕ) (d : code.Line) → i < length lines
    → is_kept (line_view (get_or lines i d)) ≡ true
    → AllKept (map line_view (take i lines)) → AllKept (map line_view (take (i + 1) lines))
front_more lines i d within one all =
    subst AllKept (sym (map_more line_view lines i d within))
    (all_kept_push (map line_view (take i lines)) (line_view (get_or lines i d)) all one)

-- a front whose last line differs
pub front_ends : (lines : List code.Line) (i : ℕ) (d : code.Line) → i < length lines
    → is_kept (line_view (get_or lines i d)) ≡ false → ¬ (AllKept (map line_view (take (i + 1) lines)))
front_ends lines i d within other = λ all.
    false≢true (sym other ∙ last_kept (map line_view (take i lines)) (line_view (get_or lines i d))
    (subst AllKept (map_more line_view lines i d within) all))

-- a shorter front of lines that both texts have
pub all_skipped : (lines : List code.Line) (n m : ℕ) → m ≤ n
    → AllKept (map line_view (take n lines)) → AllKept (map line_view (take m lines))
all_skipped lines n m fewer all =
    subst AllKept (take-map line_view m (take n lines) ∙ ap (map line_view) (take-take m n lines fewer))
    (front_kept m (map line_view (take n lines)) all)

-- after some of them one of the next four differs
pub one_differs : (lines : List code.Line) (n m : ℕ) → m ≤ n → n ≤ m + 3
    → AllKept (map line_view (take n lines)) → ¬ (AllKept (map line_view (take (n + 1) lines)))
    → ¬ (AllKept (map line_view (take 4 (drop m lines))))
one_differs lines n m fewer near all most = λ four.
    most (all_skipped lines (m + 4) (n + 1) (omega (arith, near))
    (subst AllKept (sym (ap (map line_view) (take-add m 4 lines)
    ∙ map-append line_view (take m lines) (take 4 (drop m lines))))
    (all_kept-append (map line_view (take m lines)) (map line_view (take 4 (drop m lines)))
    (all_skipped lines n m fewer all) four)))
