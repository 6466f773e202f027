-- A comment is as wide as it is written, wherever that is, if it is in one line.
use Rattle.std.proofs.Common.{◌≡◌, ℕ, suc, ◌==◌, ◌&&◌, ◌||◌, not, Bool, true, false, cond, refl, sym, ap, subst, ◌∙◌, List, [], ◌∷◌}
use Rattle.std.specs.List.{list_any}
use Rattle.std.proofs.lemmas.Bool.{and_parts, eqb-true, true≢false}
use Rattle.wgsl_model.specs.Tokens.ClassTable.{BlockComment}
use Rattle.wgsl_model.specs.Tokens.Trivia.{first_or_zero}
use Rattle.wgsl_model_tidy.specs.Pieces.{Piece}
use Rattle.wgsl_model_tidy.specs.Layout.{Layout, column_after}
use Rattle.wgsl_model_tidy.specs.Shown.{without_returns, is_space, has_stars, with_front, block_shown, shown}
use Rattle.wgsl_model_tidy.specs.Ahead.{is_inline, comment_width}

-- a line ends in a text
abbrev pub has_line_end : List ℕ → Bool
has_line_end text = list_any (λ c. c == 10) text

either_has : (b : Bool) (xs ys : List ℕ) (e : Bool) → has_line_end xs ≡ e → has_line_end ys ≡ e
    → has_line_end (cond b xs ys) ≡ e
either_has true xs ys e h k = h
either_has false xs ys e h k = k

-- ---- without the CR before LF

returns_ends : (xs : List ℕ) → has_line_end (without_returns xs) ≡ has_line_end xs
returns_ends [] = refl
returns_ends (c ∷ cs) = go (c == 13 && first_or_zero (without_returns cs) == 10) refl (returns_ends cs)
  where
    go : (b : Bool) → (c == 13 && first_or_zero (without_returns cs) == 10) ≡ b
        → has_line_end (without_returns cs) ≡ has_line_end cs
        → has_line_end (cond b (without_returns cs) (c ∷ without_returns cs)) ≡ ((c == 10) || has_line_end cs)
    go true e h = h ∙ subst (λ d. has_line_end cs ≡ ((d == 10) || has_line_end cs))
        (sym (eqb-true c 13 (and_parts (c == 13) _ e).0)) refl
    go false e h = ap (λ b. (c == 10) || b) h

-- no LF comes first
no_first : (xs : List ℕ) → has_line_end xs ≡ false → (first_or_zero xs == 10) ≡ false
no_first [] h = refl
no_first (x ∷ xs) h = go (x == 10) h
  where
    go : (b : Bool) → (b || has_line_end xs) ≡ false → b ≡ false
    go true e = absurd (true≢false e)
    go false e = refl

neither_ends : (c : ℕ) (cs : List ℕ) → has_line_end (c ∷ cs) ≡ false → ((c == 10) ≡ false) × (has_line_end cs ≡ false)
neither_ends c cs h = go (c == 10) h
  where
    go : (b : Bool) → (b || has_line_end cs) ≡ false → (b ≡ false) × (has_line_end cs ≡ false)
    go true e = absurd (true≢false e)
    go false e = (refl, e)

and_no : (b c : Bool) → c ≡ false → (b && c) ≡ false
and_no true c h = h
and_no false c h = refl

returns_none : (xs : List ℕ) → has_line_end xs ≡ false → without_returns xs ≡ xs
returns_none [] h = refl
returns_none (c ∷ cs) h =
    let left = neither_ends c cs h in
    ap (λ ys. cond (c == 13 && first_or_zero ys == 10) ys (c ∷ ys)) (returns_none cs left.1)
    ∙ ap (λ b. cond b cs (c ∷ cs)) (and_no (c == 13) _ (no_first cs left.1))

-- ---- with other fronts of its lines

space_no_end : (c : ℕ) → is_space c ≡ true → (c == 10) ≡ false
space_no_end c h = go (c == 32) (c == 9) refl refl h
  where
    go : (a b : Bool) → (c == 32) ≡ a → (c == 9) ≡ b → (a || b) ≡ true → (c == 10) ≡ false
    go true b e f h = subst (λ d. (d == 10) ≡ false) (sym (eqb-true c 32 e)) refl
    go false true e f h = subst (λ d. (d == 10) ≡ false) (sym (eqb-true c 9 f)) refl
    go false false e f h = absurd (true≢false (sym h))

front_ends : (begins : Bool) (xs : List ℕ) → has_line_end (with_front [] begins xs) ≡ has_line_end xs
front_ends begins [] = refl
front_ends begins (c ∷ cs) = go (begins && is_space c) (c == 10) refl refl (front_ends true cs) (front_ends false cs)
  where
    go : (b l : Bool) → (begins && is_space c) ≡ b → (c == 10) ≡ l
        → has_line_end (with_front [] true cs) ≡ has_line_end cs
        → has_line_end (with_front [] false cs) ≡ has_line_end cs
        → has_line_end (cond b (with_front [] true cs)
        (cond l (10 ∷ with_front [] true cs) (c ∷ with_front [] false cs)))
        ≡ (l || has_line_end cs)
    go true l e f h k = h ∙ ap (λ b. b || has_line_end cs)
        (sym (sym f ∙ space_no_end c (and_parts begins (is_space c) e).1))
    go false true e f h k = refl
    go false false e f h k = ap (λ b. b || has_line_end (with_front [] false cs)) f ∙ k

front_none : (xs : List ℕ) → has_line_end xs ≡ false → with_front [] false xs ≡ xs
front_none [] h = refl
front_none (c ∷ cs) h =
    let left = neither_ends c cs h in
    ap (λ b. cond b (10 ∷ with_front [] true cs) (c ∷ with_front [] false cs)) left.0
    ∙ ap (λ ys. c ∷ ys) (front_none cs left.1)

-- ---- a block comment

block_ends : (begins : Bool) (text : List ℕ)
    → has_line_end (block_shown [] begins (without_returns text)) ≡ has_line_end text
block_ends begins text = either_has (begins && has_stars false (without_returns text)) _ _ _
    (front_ends false (without_returns text) ∙ returns_ends text) (returns_ends text)

block_none : (begins : Bool) (text : List ℕ) → has_line_end text ≡ false
    → block_shown [] begins (without_returns text) ≡ text
block_none begins text h =
    ap (block_shown [] begins) (returns_none text h) ∙ go (begins && has_stars false text)
  where
    go : (b : Bool) → cond b (with_front [] false text) text ≡ text
    go true = front_none text h
    go false = refl

-- ---- pieces that are written the same

-- they have the same class, and are written the same
pub record AreWrittenSame (p q : Piece) : Type 0 where
  pub class : q.class ≡ p.class
  pub text : shown [] true q ≡ shown [] true p

block_text : (class : ℕ) (text : List ℕ) (n : ℕ) → (class == BlockComment) ≡ true
    → shown [] true (record { class = class; text = text; line_ends = n }) ≡ block_shown [] true (without_returns text)
block_text class text n h = rw h refl

inline_by : (p q : Piece) → AreWrittenSame p q → (b : Bool) → (p.class == BlockComment) ≡ b
    → (b && not (has_line_end q.text)) ≡ (b && not (has_line_end p.text))
inline_by p q s true h = ap not (
    sym (block_ends true q.text) ∙ ap has_line_end
    (sym (block_text q.class q.text q.line_ends (ap (λ c. c == BlockComment) s.class ∙ h)) ∙ s.text
    ∙ block_text p.class p.text p.line_ends h)
    ∙ block_ends true p.text)
inline_by p q s false h = refl

pub inline_same : (p q : Piece) → AreWrittenSame p q → is_inline q ≡ is_inline p
inline_same p q s = ap (λ c. c == BlockComment && not (has_line_end q.text)) s.class
    ∙ inline_by p q s (p.class == BlockComment) refl

not_true : (b : Bool) → not b ≡ true → b ≡ false
not_true true h = absurd (true≢false (sym h))
not_true false h = refl

inline_text : (p : Piece) → is_inline p ≡ true → shown [] true p ≡ p.text
inline_text p h =
    let both = and_parts (p.class == BlockComment) _ h in
    block_text p.class p.text p.line_ends both.0 ∙ block_none true p.text (not_true _ both.1)

pub width_same : (layout : Layout) (p q : Piece) → AreWrittenSame p q → comment_width layout q ≡ comment_width layout p
width_same layout p q s = go (is_inline p) refl
  where
    go : (b : Bool) → is_inline p ≡ b → comment_width layout q ≡ comment_width layout p
    go true h =
        let text : q.text ≡ p.text = sym (inline_text q (inline_same p q s ∙ h)) ∙ s.text ∙ inline_text p h in
        ap (λ b. cond b (suc (column_after layout 0 q.text)) 0) (inline_same p q s)
        ∙ ap (λ xs. cond (is_inline p) (suc (column_after layout 0 xs)) 0) text
    go false h = ap (λ b. cond b (suc (column_after layout 0 q.text)) 0) (inline_same p q s ∙ h)
        ∙ sym (ap (λ b. cond b (suc (column_after layout 0 p.text)) 0) h)
