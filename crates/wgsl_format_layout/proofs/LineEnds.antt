-- Where a line of tokens ends.
use Rattle.std.proofs.Common.{◌≡◌, ℕ, zero, suc, ◌+◌, ◌-◌, ◌<◌, ◌≤◌, ◌==◌, ◌&&◌, ◌||◌, not, Bool, true, false, cond, refl, sym, ap, ap₂, ◌∙◌, subst, List, [], ◌∷◌, get_or, drop, length, get_or-drop, length-drop, arith}
use Rattle.std.specs.List.{position_or_len}
use Rattle.std.proofs.lemmas.Bool.{false≢true}
use Rattle.std.proofs.lemmas.Bool.Decides.{nat_tests}
use Rattle.std.proofs.Math.ListN.{drop_of_length-le}
use Rattle.wgsl_model_tidy.specs.Layout.{Layout}
use Rattle.wgsl_model_tidy.specs.Roles.{Role, binary, closes, is}
use Rattle.wgsl_model_tidy.specs.Ahead.{Ahead, is_within, end_width, fits}
use Rattle.wgsl_format_layout.specs.View.{role_view}
use Rattle.wgsl_format_layout.specs.declared.marks.Mark.{Mark}
use Rattle.wgsl_format_layout.specs.declared.marks.MarkedToken.{MarkedToken}
use Rattle.wgsl_format_layout.specs.Marks.{IsAhead, AreAhead}
use Rattle.wgsl_format_layout.specs.Walks.{Follow, EndsLine}
use Rattle.wgsl_format_layout.proofs.Deeper.{position_at, position_past}
use Rattle.wgsl_format_layout.proofs.Following.{mark_after}

-- ---- by the first token

same_here : (n : ℕ) → (n == n) ≡ true
same_here n = let e : n ≡ n = refl in grind (arith, nat_tests)

here : (layout : Layout) (before : Mark) (column : ℕ)
    → is_within layout column
    ≡ (before.breaks == before.breaks && is_within layout (column + (before.column - before.column)))
here layout before column =
    let e : column ≡ column + (before.column - before.column) = omega arith in
    ap (is_within layout) e
    ∙ ap (λ (b : Bool). b && is_within layout (column + (before.column - before.column)))
    (sym (same_here before.breaks))

-- there is none
pub line_none : (ends : Ahead → Bool) (before : Mark) → EndsLine ends before [] before
line_none ends before =
    record { column = omega arith; breaks = omega arith; fits = λ layout column. here layout before column }

-- it ends at the first, which is not in it
pub line_before : (ends : Ahead → Bool) (before : Mark) (t : Ahead) (ts : List Ahead) → ends t ≡ true
    → (t.ends || (closes t.role || is t.role binary)) ≡ true → EndsLine ends before (t ∷ ts) before
line_before ends before t ts h out = record {
  column = omega arith;
  breaks = omega arith;
  fits = λ layout column.
      let e : column + 0 ≡ column = omega arith in
      ap (λ (b : Bool). cond b (is_within layout (column + end_width t))
      (not t.ends && fits layout ends (column + (t.space + t.width)) ts)) h
      ∙ (ap (λ (b : Bool). is_within layout (column + cond b 0 (t.space + t.width))) out
      ∙ (ap (is_within layout) e ∙ here layout before column));
}

-- it ends at the first, which is in it
pub line_at : (ends : Ahead → Bool) (before to : Mark) (t : Ahead) (ts : List Ahead) → ends t ≡ true
    → (t.ends || (closes t.role || is t.role binary)) ≡ false
    → to.column ≡ before.column + (t.space + t.width) → to.breaks ≡ before.breaks + cond t.ends 1 0
    → EndsLine ends before (t ∷ ts) to
line_at ends before to t ts h out column breaks = go t.ends refl
  where
    go : (b : Bool) → t.ends ≡ b → EndsLine ends before (t ∷ ts) to
    go true same_ends = absurd
        (false≢true (sym out ∙ ap (λ (b : Bool). b || (closes t.role || is t.role binary)) same_ends))
    go false same_ends =
        let same = breaks ∙ ap (λ (b : Bool). before.breaks + cond b 1 0) same_ends in
        let equal : (before.breaks == to.breaks) ≡ true = grind (arith, nat_tests) in
        record {
          column = omega arith;
          breaks = omega arith;
          fits = λ layout at.
              let e : at + (t.space + t.width) ≡ at + (to.column - before.column) = omega arith in
              ap (λ (b : Bool). cond b (is_within layout (at + end_width t))
              (not t.ends && fits layout ends (at + (t.space + t.width)) ts)) h
              ∙ (ap (λ (b : Bool). is_within layout (at + cond b 0 (t.space + t.width))) out
              ∙ (ap (is_within layout) e
              ∙ ap (λ (b : Bool). b && is_within layout (at + (to.column - before.column))) (sym equal)));
        }

-- it goes on after the first
pub line_more : (ends : Ahead → Bool) (before mid to : Mark) (t : Ahead) (ts : List Ahead) → ends t ≡ false
    → mid.column ≡ before.column + (t.space + t.width) → mid.breaks ≡ before.breaks + cond t.ends 1 0
    → EndsLine ends mid ts to → EndsLine ends before (t ∷ ts) to
line_more ends before mid to t ts h column breaks line = go t.ends refl
  where
    within : ℕ → Layout → ℕ → Bool
    within n layout at = is_within layout (at + (to.column - n))

    go : (b : Bool) → t.ends ≡ b → EndsLine ends before (t ∷ ts) to
    go true same_ends =
        let more = breaks ∙ ap (λ (b : Bool). before.breaks + cond b 1 0) same_ends in
        let less = line.breaks in
        let far = line.column in
        let apart : (before.breaks == to.breaks) ≡ false = grind (arith, nat_tests) in
        record {
          column = omega arith;
          breaks = omega arith;
          fits = λ layout at.
              ap (λ (b : Bool). cond b (is_within layout (at + end_width t))
              (not t.ends && fits layout ends (at + (t.space + t.width)) ts)) h
              ∙ (ap (λ (b : Bool). not b && fits layout ends (at + (t.space + t.width)) ts) same_ends
              ∙ ap (λ (b : Bool). b && is_within layout (at + (to.column - before.column))) (sym apart));
        }
    go false same_ends =
        let same : mid.breaks ≡ before.breaks = breaks
        ∙ (ap (λ (b : Bool). before.breaks + cond b 1 0) same_ends ∙ omega arith) in
        let less = line.breaks in
        let far = line.column in
        record {
          column = omega arith;
          breaks = omega arith;
          fits = λ layout at.
              let e : at + (t.space + t.width) + (to.column - mid.column)
              ≡ at + (to.column - before.column) = omega arith in
              ap (λ (b : Bool). cond b (is_within layout (at + end_width t))
              (not t.ends && fits layout ends (at + (t.space + t.width)) ts)) h
              ∙ (ap (λ (b : Bool). not b && fits layout ends (at + (t.space + t.width)) ts) same_ends
              ∙ (line.fits layout (at + (t.space + t.width))
              ∙ ap₂ (λ (m n : ℕ). m == to.breaks && is_within layout n) same e));
        }

-- ---- by the marks of the tokens

-- a token is not in the line that ends at it
abbrev pub is_outside : MarkedToken → Bool
is_outside m = m.before.ends || (closes (role_view m.role) || is (role_view m.role) binary)

outside_same : (before : Mark) (place : ℕ) (m : MarkedToken) (t : Ahead) (ts : List Ahead)
    → IsAhead before place m t ts → (t.ends || (closes t.role || is t.role binary)) ≡ is_outside m
outside_same before place m t ts s =
    ap₂ (λ (b : Bool) (r : Role). b || (closes r || is r binary)) (sym s.ends) (sym s.role)

-- the token at which it ends is in it
pub line_ends_in : (d : MarkedToken) (ends : Ahead → Bool) (before : Mark) (place : ℕ)
    (ms : List MarkedToken) (ts : List Ahead)
    → AreAhead before place ms ts → position_or_len ends ts < length ms
    → is_outside (get_or ms (position_or_len ends ts) d) ≡ false
    → EndsLine ends before ts (get_or ms (position_or_len ends ts) d).end
line_ends_in d ends before place [] ts are h out = absurd (omega arith)
line_ends_in d ends before place (m ∷ ms) [] are h out = absurd are
line_ends_in d ends before place (m ∷ ms) (t ∷ ts) are h out =
    go (ends t) refl (λ k l. line_ends_in d ends m.end (suc place) ms ts are.1 k l)
  where
    go : (b : Bool) → ends t ≡ b
        → (position_or_len ends ts < length ms → is_outside (get_or ms (position_or_len ends ts) d) ≡ false
        → EndsLine ends m.end ts (get_or ms (position_or_len ends ts) d).end)
        → EndsLine ends before (t ∷ ts) (get_or (m ∷ ms) (position_or_len ends (t ∷ ts)) d).end
    go true e ih =
        let at = position_at ends t ts e in
        let inside = subst (λ (k : ℕ). is_outside (get_or (m ∷ ms) k d) ≡ false) at out in
        subst (λ (k : ℕ). EndsLine ends before (t ∷ ts) (get_or (m ∷ ms) k d).end) (sym at)
        (line_at ends before m.end t ts e (outside_same before place m t ts are.0 ∙ inside) are.0.column are.0.breaks)
    go false e ih =
        let past = position_past ends t ts e in
        let inside = subst (λ (k : ℕ). is_outside (get_or (m ∷ ms) k d) ≡ false) past out in
        subst (λ (k : ℕ). EndsLine ends before (t ∷ ts) (get_or (m ∷ ms) k d).end) (sym past)
        (line_more ends before m.end (get_or ms (position_or_len ends ts) d).end t ts e are.0.column are.0.breaks
        (ih (omega arith) inside))

-- it is not, or there is none
pub line_ends_after : (d : MarkedToken) (ends : Ahead → Bool) (before : Mark) (place : ℕ)
    (ms : List MarkedToken) (ts : List Ahead)
    → AreAhead before place ms ts
    → (position_or_len ends ts < length ms → is_outside (get_or ms (position_or_len ends ts) d) ≡ true)
    → EndsLine ends before ts (mark_after before ms (position_or_len ends ts))
line_ends_after d ends before place [] [] are out = line_none ends before
line_ends_after d ends before place [] (t ∷ ts) are out = absurd are
line_ends_after d ends before place (m ∷ ms) [] are out = absurd are
line_ends_after d ends before place (m ∷ ms) (t ∷ ts) are out =
    go (ends t) refl (λ k. line_ends_after d ends m.end (suc place) ms ts are.1 k)
  where
    go : (b : Bool) → ends t ≡ b
        → ((position_or_len ends ts < length ms → is_outside (get_or ms (position_or_len ends ts) d) ≡ true)
        → EndsLine ends m.end ts (mark_after m.end ms (position_or_len ends ts)))
        → EndsLine ends before (t ∷ ts) (mark_after before (m ∷ ms) (position_or_len ends (t ∷ ts)))
    go true e ih =
        let at = position_at ends t ts e in
        let outside = subst (λ (k : ℕ). k < suc (length ms) → is_outside (get_or (m ∷ ms) k d) ≡ true) at out in
        subst (λ (k : ℕ). EndsLine ends before (t ∷ ts) (mark_after before (m ∷ ms) k)) (sym at)
        (line_before ends before t ts e (outside_same before place m t ts are.0 ∙ outside (omega arith)))
    go false e ih =
        let past = position_past ends t ts e in
        let outside = subst (λ (k : ℕ). k < suc (length ms) → is_outside (get_or (m ∷ ms) k d) ≡ true) past out in
        subst (λ (k : ℕ). EndsLine ends before (t ∷ ts) (mark_after before (m ∷ ms) k)) (sym past)
        (line_more ends before m.end (mark_after m.end ms (position_or_len ends ts)) t ts e are.0.column are.0.breaks
        (ih (λ h. outside (omega arith))))

-- ---- by places

pub mark_at : (d : MarkedToken) (before : Mark) (ms : List MarkedToken) (k : ℕ) → k < length ms
    → mark_after before ms (suc k) ≡ (get_or ms k d).end
mark_at d before [] k h = absurd (omega arith)
mark_at d before (m ∷ ms) zero h = refl
mark_at d before (m ∷ ms) (suc k) h = mark_at d m.end ms k (omega arith)

pub line_to : (d : MarkedToken) (ends : Ahead → Bool) (before : Mark) (from end : ℕ)
    (tokens : List MarkedToken) (n : ℕ) (ts : List Ahead)
    → Follow before from tokens n ts → end ≡ from + position_or_len ends ts → end < length tokens
    → is_outside (get_or tokens end d) ≡ false → EndsLine ends before ts (get_or tokens end d).end
line_to d ends before from end tokens n ts f at h out =
    let p = position_or_len ends ts in
    let same = get_or-drop from tokens p d ∙ ap (λ (k : ℕ). get_or tokens k d) (sym at) in
    let count = length-drop from tokens in
    subst (λ m. EndsLine ends before ts m.end) same
    (line_ends_in d ends before from (drop from tokens) ts f.are (omega arith)
    (subst (λ m. is_outside m ≡ false) (sym same) out))

-- the end of the last token before a place, after the end of another
pub line_up_to : (d : MarkedToken) (ends : Ahead → Bool) (before : Mark) (from end : ℕ)
    (tokens : List MarkedToken) (n : ℕ) (ts : List Ahead)
    → Follow before from tokens n ts → end ≡ from + position_or_len ends ts
    → (end < length tokens → is_outside (get_or tokens end d) ≡ true)
    → EndsLine ends before ts (mark_after before (drop from tokens) (end - from))
line_up_to d ends before from end tokens n ts f at out =
    let p = position_or_len ends ts in
    let same = get_or-drop from tokens p d ∙ ap (λ (k : ℕ). get_or tokens k d) (sym at) in
    let count = length-drop from tokens in
    let far : p ≡ end - from = omega arith in
    subst (λ (k : ℕ). EndsLine ends before ts (mark_after before (drop from tokens) k)) far
    (line_ends_after d ends before from (drop from tokens) ts f.are
    (λ h. subst (λ m. is_outside m ≡ true) (sym same) (out (omega arith))))

-- no token is there
pub line_up_to_last : (ends : Ahead → Bool) (before : Mark) (from end : ℕ)
    (tokens : List MarkedToken) (n : ℕ) (ts : List Ahead)
    → Follow before from tokens n ts → end ≡ from + position_or_len ends ts → length tokens ≤ end
    → EndsLine ends before ts (mark_after before (drop from tokens) (end - from))
line_up_to_last ends before from end [] n [] f at far =
    subst (λ (ms : List MarkedToken). EndsLine ends before [] (mark_after before ms (end - from)))
    (sym (drop_of_length-le [] (omega arith)))
    (subst (EndsLine ends before []) (nothing (end - from)) (line_none ends before))
  where
    nothing : (k : ℕ) → before ≡ mark_after before [] k
    nothing zero = refl
    nothing (suc k) = refl
line_up_to_last ends before from end [] n (t ∷ ts) f at far =
    absurd (subst (λ ms. AreAhead before from ms (t ∷ ts)) (drop_of_length-le [] (omega arith)) f.are)
line_up_to_last ends before from end (m ∷ ms) n ts f at far =
    line_up_to m ends before from end (m ∷ ms) n ts f at (λ h. absurd (omega arith))

pub mark_before : (d : MarkedToken) (before : Mark) (from end : ℕ) (tokens : List MarkedToken) → from < end
    → end ≤ length tokens → mark_after before (drop from tokens) (end - from) ≡ (get_or tokens (end - 1) d).end
mark_before d before from end tokens h within =
    let count = length-drop from tokens in
    let one : end - from ≡ suc (end - from - 1) = omega arith in
    let at : from + (end - from - 1) ≡ end - 1 = omega arith in
    ap (mark_after before (drop from tokens)) one
    ∙ (mark_at d before (drop from tokens) (end - from - 1) (omega arith)
    ∙ ap (λ m. m.end) (get_or-drop from tokens (end - from - 1) d ∙ ap (λ (k : ℕ). get_or tokens k d) at))

-- ---- the code's test

pub not_true : (b c : Bool) → c ≡ not b → c ≡ true → b ≡ false
not_true true c e h = absurd (false≢true (sym e ∙ h))
not_true false c e h = refl

pub not_false : (b c : Bool) → c ≡ not b → c ≡ false → b ≡ true
not_false true c e h = refl
not_false false c e h = absurd (false≢true (sym h ∙ e))
