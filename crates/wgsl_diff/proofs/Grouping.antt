-- Hunks one after another.
use Rattle.std.proofs.Common.{◌≡◌, sym, ap, ◌∙◌, subst, arith, ℕ, ◌+◌, ◌≤◌, List, [], ◌∷◌, ◌++◌, length, map, take, drop}
use Rattle.std.proofs.lemmas.List.{map-append, length-map, length-take-le, take-append-drop, drop-drop, map_push, append_assoc}
use Rattle.wgsl_diff.specs.Diffs as plain
use Rattle.wgsl_diff.specs.Diffs.{old_lines, new_lines, AllKept, IsShort, AreHunks}
use Rattle.wgsl_diff.specs.View.{line_view, hunk_view}
use Rattle.wgsl_diff.specs.declared.line.Line.{Line}
use Rattle.wgsl_diff.specs.declared.hunk.Hunk.{Hunk}
use Rattle.wgsl_diff.proofs.DiffLines.{all_skipped}

-- of lines, some that both texts have, some that are shown, and the rest
in_three : (lines : List Line) (skipped len : ℕ)
    → map line_view lines ≡ map line_view (take skipped lines)
    ++ (map line_view (take len (drop skipped lines)) ++ map line_view (drop len (drop skipped lines)))
in_three lines skipped len =
    let rest = drop skipped lines in
    ap (map line_view) (sym (take-append-drop skipped lines))
    ∙ map-append line_view (take skipped lines) rest
    ∙ ap (λ r. map line_view (take skipped lines) ++ r)
    (ap (map line_view) (sym (take-append-drop len rest)) ∙ map-append line_view (take len rest) (drop len rest))

-- a hunk of lines, after some that both texts have
pub next_hunk : (lines rest shown group : List Line) (at m n kept skipped len old_n new_n : ℕ) (more : List plain.Hunk)
    → rest ≡ drop at lines → shown ≡ drop skipped rest → group ≡ take len shown
    → old_n ≡ length (old_lines (map line_view group)) → new_n ≡ length (new_lines (map line_view group))
    → skipped ≤ kept → kept ≤ length rest → AllKept (map line_view (take kept rest)) → IsShort 3 (map line_view group)
    → AreHunks (m + skipped + old_n) (n + skipped + new_n) more (map line_view (drop (at + (skipped + len)) lines))
    → AreHunks m n (record { old_start = m + skipped; new_start = n + skipped; lines = map line_view group } ∷ more)
    (map line_view (drop at lines))
next_hunk lines rest shown group at m n kept skipped len old_n new_n more rest_is shown_is group_is
    old_is new_is fewer within all short hunks =
    let same = map line_view (take skipped rest) in
    let left = map line_view (drop (at + (skipped + len)) lines) in
    let parted : take len (drop skipped rest) ≡ group = sym (group_is ∙ ap (take len) shown_is) in
    let after : drop len (drop skipped rest) ≡ drop (at + (skipped + len)) lines
    = ap (λ ls. drop len (drop skipped ls)) rest_is ∙ drop-drop len skipped (drop at lines)
    ∙ drop-drop (skipped + len) at lines in
    let skip : length same ≡ skipped = length-map (take skipped rest) line_view
    ∙ length-take-le skipped rest (omega (arith, fewer, within)) in (
      same,
      left,
      ap (map line_view) (sym rest_is) ∙ in_three rest skipped len
          ∙ ap (λ ls. same ++ (map line_view ls ++ map line_view (drop len (drop skipped rest)))) parted
          ∙ ap (λ ls. same ++ (map line_view group ++ map line_view ls)) after,
      all_skipped rest kept skipped fewer all,
      short,
      ap (λ k. m + k) (sym skip),
      ap (λ k. n + k) (sym skip),
      subst (λ k. AreHunks (m + skipped + k) (n + skipped + length (new_lines (map line_view group))) more left) old_is
          (subst (λ k. AreHunks (m + skipped + old_n) (n + skipped + k) more left) new_is hunks),
    )

-- hunks, and one more at the end
pub pushed_hunk : (hunks made : List Hunk) (hunk : Hunk) (more : List plain.Hunk)
    → made ≡ hunks ++ hunk ∷ []
    → map hunk_view hunks ++ (hunk_view hunk ∷ more) ≡ map hunk_view made ++ more
pushed_hunk hunks made hunk more pushed =
    sym (ap (λ hs. map hunk_view hs ++ more) pushed ∙ ap (λ hs. hs ++ more)
    (map_push hunk_view hunks hunk) ∙ append_assoc (map hunk_view hunks) (hunk_view hunk ∷ []) more)
