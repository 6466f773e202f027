-- Lines that are shown together.
use Rattle.std.proofs.Common.{◌≡◌, refl, ap, ◌∙◌, sym, subst, ℕ, zero, suc, ◌+◌, ◌-◌, ◌<◌, ◌≤◌, ◌⊎◌, inl, inr, min, Bool, true, false, nat_le, List, [], ◌∷◌, ◌++◌, length, map, take, drop, get_or, take-add, arith}
use Rattle.std.proofs.lemmas.Bool.{false≢true}
use Rattle.std.proofs.lemmas.Bool.Decides.{nat_tests}
use Rattle.std.proofs.lemmas.List.{map-append, map_more, length-map, length-drop, length-take-le, get_or-drop, take_all}
use Rattle.wgsl_diff.specs.Diffs as plain
use Rattle.wgsl_diff.specs.Diffs.{kept, removed, added, is_kept, AllKept, IsShort}
use Rattle.wgsl_diff.specs.View.{line_view}
use Rattle.wgsl_diff.specs.declared.line.Line.{Line}
use Rattle.wgsl_diff.proofs.DiffLines.{all_skipped, front_more}

-- after a number of lines that both texts have and these, so many that both have come last
abbrev Leads : ℕ → List plain.Line → ℕ → Type 0
Leads before [] last = before ≡ last
Leads before (kept text ∷ lines) last = Leads (before + 1) lines last
Leads before (removed text ∷ lines) last = (before ≤ 6) × Leads 0 lines last
Leads before (added text ∷ lines) last = (before ≤ 6) × Leads 0 lines last

-- and then one that differs
leads_other : (before : ℕ) (lines : List plain.Line) (last : ℕ) (line : plain.Line) → Leads before lines last
    → last ≤ 6 → is_kept line ≡ false → Leads before (lines ++ line ∷ []) 0
leads_other before [] last (kept text) leads few other = absurd (false≢true (sym other))
leads_other before [] last (removed text) leads few other = (omega (arith, leads, few), refl)
leads_other before [] last (added text) leads few other = (omega (arith, leads, few), refl)
leads_other before (kept text ∷ lines) last line leads few other =
    leads_other (before + 1) lines last line leads few other
leads_other before (removed text ∷ lines) last line leads few other =
    (leads.0, leads_other 0 lines last line leads.1 few other)
leads_other before (added text ∷ lines) last line leads few other =
    (leads.0, leads_other 0 lines last line leads.1 few other)

-- or more that both texts have
leads_kept : (before : ℕ) (lines more : List plain.Line) (last : ℕ) → Leads before lines last → AllKept more
    → Leads before (lines ++ more) (last + length more)
leads_kept before [] [] last leads all = omega (arith, leads)
leads_kept before [] (kept text ∷ more) last leads all =
    subst (Leads (before + 1) more) (omega arith)
    (leads_kept (before + 1) [] more (last + 1) (omega (arith, leads)) all)
leads_kept before [] (removed text ∷ more) last leads all = absurd all
leads_kept before [] (added text ∷ more) last leads all = absurd all
leads_kept before (kept text ∷ lines) more last leads all = leads_kept (before + 1) lines more last leads all
leads_kept before (removed text ∷ lines) more last leads all = (leads.0, leads_kept 0 lines more last leads.1 all)
leads_kept before (added text ∷ lines) more last leads all = (leads.0, leads_kept 0 lines more last leads.1 all)

-- few come last
leads_short : (before : ℕ) (lines : List plain.Line) (last : ℕ) → Leads before lines last → last ≤ 3
    → IsShort before lines
leads_short before [] last leads few = omega (arith, leads, few)
leads_short before (kept text ∷ lines) last leads few = leads_short (before + 1) lines last leads few
leads_short before (removed text ∷ lines) last leads few = (leads.0, leads_short 0 lines last leads.1 few)
leads_short before (added text ∷ lines) last leads few = (leads.0, leads_short 0 lines last leads.1 few)

-- the last line that differs is before a place, and those after it are kept
pub record IsShown (lines : List Line) (end at : ℕ) : Type 0 where
  pub before : end ≤ at
  pub same : AllKept (map line_view (take (at - end) (drop end lines)))
  pub shown : 0 < end → Leads 3 (map line_view (take end lines)) 0

-- a front in two parts
parted : (lines : List Line) (end at : ℕ) → end ≤ at
    → map line_view (take end lines) ++ map line_view (take (at - end) (drop end lines)) ≡ map line_view (take at lines)
parted lines end at before =
    let whole : end + (at - end) ≡ at = omega (arith, before) in
    sym (ap (λ k. map line_view (take k lines)) (sym whole) ∙ ap (map line_view) (take-add end (at - end) lines)
    ∙ map-append line_view (take end lines) (take (at - end) (drop end lines)))

-- how many lines follow the last one that differs
length_same : (lines : List Line) (end at : ℕ) → end ≤ at → at ≤ length lines
    → length (map line_view (take (at - end) (drop end lines))) ≡ at - end
length_same lines end at before within =
    let left = length-drop end lines in
    length-map (take (at - end) (drop end lines)) line_view
    ∙ length-take-le (at - end) (drop end lines) (omega (arith, left, within))

module _ (lines : List Line) (front : ¬ (AllKept (map line_view (take 4 lines)))) where
  -- one that both texts have
  pub shown_kept : (end at : ℕ) (d : Line) → at < length lines → is_kept (line_view (get_or lines at d)) ≡ true
      → IsShown lines end at → IsShown lines end (at + 1)
  shown_kept end at d within one so_far =
      let left = length-drop end lines in
      let place : end + (at - end) ≡ at = omega (arith, so_far.before) in
      let more : at + 1 - end ≡ at - end + 1 = omega (arith, so_far.before) in
      record {
        before = omega (arith, so_far.before);
        same = subst (λ k. AllKept (map line_view (take k (drop end lines)))) (sym more)
            (front_more (drop end lines) (at - end) d (omega (arith, left, so_far.before, within))
            (ap (λ line. is_kept (line_view line))
            (get_or-drop end lines (at - end) d ∙ ap (λ k. get_or lines k d) place)
            ∙ one) so_far.same);
        shown = so_far.shown;
      }

  -- before the first one that differs there are at most three
  few_first : (at : ℕ) → AllKept (map line_view (take at lines)) → at ≤ 3
  few_first at all = go (nat_le at 3) refl
    where
      go : (b : Bool) → nat_le at 3 ≡ b → at ≤ 3
      go true few = grind (arith, nat_tests)
      go false many = absurd (front (all_skipped lines at 4 (grind (arith, nat_tests)) all))

  -- after one that differs
  leads_shown : (end at : ℕ) → 0 < end → IsShown lines end at
      → Leads 3 (map line_view (take at lines)) (0 + length (map line_view (take (at - end) (drop end lines))))
  leads_shown end at some so_far =
      let same = map line_view (take (at - end) (drop end lines)) in
      subst (λ ls. Leads 3 ls (0 + length same)) (parted lines end at so_far.before)
      (leads_kept 3 (map line_view (take end lines)) same 0 (so_far.shown some) so_far.same)

  -- after a few that both texts have
  leads_at : (end at : ℕ) → IsShown lines end at → at ≤ length lines → at - end ≤ 6
      → (last : ℕ) × Leads 3 (map line_view (take at lines)) last × (last ≤ 6)
  leads_at zero at so_far within near =
      let whole : at - 0 ≡ at = omega arith in
      let all = subst (λ k. AllKept (map line_view (take k lines))) whole so_far.same in
      let long = length-map (take at lines) line_view ∙ length-take-le at lines within in (
        3 + length (map line_view (take at lines)),
        leads_kept 3 [] (map line_view (take at lines)) 3 refl all,
        omega (arith, long, few_first at all),
      )
  leads_at (suc e) at so_far within near = (
    0 + length (map line_view (take (at - suc e) (drop (suc e) lines))),
    leads_shown (suc e) at (omega arith) so_far,
    omega (arith, length_same lines (suc e) at so_far.before within, near),
  )

  -- one that differs
  pub shown_other : (end at : ℕ) (d : Line) → at < length lines → at - end ≤ 6
      → is_kept (line_view (get_or lines at d)) ≡ false → IsShown lines end at → IsShown lines (at + 1) (at + 1)
  shown_other end at d within near other so_far =
      let leads = leads_at end at so_far (omega (arith, within)) near in
      let none : at + 1 - (at + 1) ≡ 0 = omega arith in
      record {
        before = omega arith;
        same = subst (λ k. AllKept (map line_view (take k (drop (at + 1) lines)))) (sym none) tt;
        shown = λ _.
            subst (λ ls. Leads 3 ls 0) (sym (map_more line_view lines at d within))
            (leads_other 3 (map line_view (take at lines)) leads.0
            (line_view (get_or lines at d)) leads.1 leads.2 other);
      }

  -- one differs
  some_shown : (end at : ℕ) → IsShown lines end at → (length lines ≤ at) ⊎ (6 < at - end) → 0 < end
  some_shown zero at so_far ends =
      let whole : at - 0 ≡ at = omega arith in
      let all = subst (λ k. AllKept (map line_view (take k lines))) whole so_far.same in
      let few = few_first at all in
      elim ends [
        | inl end ↦ absurd (front (all_skipped lines (at + 4) 4 (omega arith)
            (subst (λ ls. AllKept (map line_view ls))
            (take_all at lines end ∙ sym (take_all (at + 4) lines (omega (arith, end)))) all)))
        | inr far ↦ omega (arith, few, far)
      ]
  some_shown (suc e) at so_far ends = omega arith

  -- all that are shown
  pub shown_short : (end at r : ℕ) → IsShown lines end at → at ≤ length lines
      → (length lines ≤ at) ⊎ (6 < at - end) → r ≡ min (end + 3) (length lines)
      → IsShort 3 (map line_view (take r lines))
  shown_short end at r so_far within ends is =
      let before : end ≤ r = omega (arith, so_far.before, within, is) in
      let short : r ≤ at = elim ends [ inl all ↦ omega (arith, is, all) | inr far ↦ omega (arith, is, far) ] in
      let shown : IsShown lines end r = record {
        before = before;
        same = all_skipped (drop end lines) (at - end) (r - end) (omega (arith, short)) so_far.same;
        shown = so_far.shown;
      } in
      leads_short 3 (map line_view (take r lines)) _ (leads_shown end r (some_shown end at so_far ends) shown)
      (omega (arith, length_same lines end r before (omega (arith, is)), is))
