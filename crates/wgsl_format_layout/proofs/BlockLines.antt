-- The lines of a block comment that are passed and written.
use Rattle.std.specs.Prelude.{codes}
use Rattle.std.proofs.Common.{◌≡◌, ℕ, zero, suc, ◌==◌, ◌&&◌, Bool, true, false, cond, refl, sym, ap, ap₂, subst, ◌∙◌, List, [], ◌∷◌, ◌++◌, append_assoc, replicate}
use Rattle.std.proofs.lemmas.Bool.{and_parts, eqb-true, false_from_ne_true}
use Rattle.wgsl_model.specs.Tokens.Trivia.{first_or_zero}
use Rattle.wgsl_model_tidy.specs.Shown.{without_returns, is_space, has_stars, with_front, block_shown, shown}
use Rattle.wgsl_model_tidy.specs.LaidOut.{Gap, broken, indentation, gap_text}
use Rattle.wgsl_theory_tidy.proofs.Comments.{piece}
use Rattle.wgsl_theory_tidy.proofs.Kept.ShownTexts.{kept_before}
use Rattle.wgsl_format_layout.specs.Layouts.{layout_view}
use Rattle.wgsl_format_layout.specs.Lines.{Adds}
use Rattle.wgsl_format_layout.specs.Blocks.{IsOneLine, IsFirstLine, HasFront}
use Rattle.wgsl_format_layout.specs.declared.layout.Layout.{Layout}
use Rattle.wgsl_format_layout.specs.declared.text.Text.{Text}
use Rattle.wgsl_format_layout.proofs.Added.{adds_as, adds_both}

-- ---- the stars at the front of lines

stars_at_lf : (xs : List ℕ) → (first_or_zero xs == 10) ≡ true → has_stars true xs ≡ false
stars_at_lf [] h = refl
stars_at_lf (c ∷ cs) h = rw (eqb-true c 10 h) refl

stars_at_return : (begins : Bool) (xs ys : List ℕ) → (first_or_zero xs == 10) ≡ true
    → has_stars begins xs ≡ has_stars begins ys → has_stars begins xs ≡ has_stars begins (13 ∷ ys)
stars_at_return true xs ys l h = stars_at_lf xs l
stars_at_return false xs ys l h = h

stars_before : (begins : Bool) (c : ℕ) (xs ys : List ℕ) → ((b : Bool) → has_stars b xs ≡ has_stars b ys)
    → has_stars begins (c ∷ xs) ≡ has_stars begins (c ∷ ys)
stars_before true c xs ys h = ap₂ (λ (a : Bool) (b : Bool). cond (is_space c) a (c == 42 && b)) (h true) (h false)
stars_before false c xs ys h = h (c == 10)

-- the CR before LF make no difference
pub stars_without_returns : (xs : List ℕ) (begins : Bool) → has_stars begins (without_returns xs) ≡ has_stars begins xs
stars_without_returns [] begins = refl
stars_without_returns (c ∷ cs) begins =
    go (c == 13 && first_or_zero (without_returns cs) == 10) refl (stars_without_returns cs)
  where
    go : (b : Bool) → (c == 13 && first_or_zero (without_returns cs) == 10) ≡ b
        → ((b : Bool) → has_stars b (without_returns cs) ≡ has_stars b cs)
        → has_stars begins (cond b (without_returns cs) (c ∷ without_returns cs)) ≡ has_stars begins (c ∷ cs)
    go true e h =
        let both = and_parts (c == 13) _ e in
        subst (λ d. has_stars begins (without_returns cs) ≡ has_stars begins (d ∷ cs))
        (sym (eqb-true c 13 both.0)) (stars_at_return begins (without_returns cs) cs both.1 (h begins))
    go false e h = stars_before begins c (without_returns cs) cs h

-- ---- a line that is passed, up to a rest; after its end a number of CR are before the rest

pub record InLine (text end rest : List ℕ) : Type 0 where
  pub front : List ℕ
  pub returns : ℕ
  pub whole : text ≡ front ++ end
  pub left : end ≡ replicate returns 13 ++ rest
  pub plain : (xs : List ℕ) → without_returns (front ++ xs) ≡ front ++ without_returns xs
  pub moved : (start xs : List ℕ) → with_front start false (front ++ xs) ≡ front ++ with_front start false xs

pub line_starts : (text : List ℕ) → InLine text text text
line_starts text =
    record { front = []; returns = 0; whole = refl; left = refl; plain = λ xs. refl; moved = λ start xs. refl }

one_return_more : (n : ℕ) (xs : List ℕ) → replicate n 13 ++ (13 ∷ xs) ≡ 13 ∷ (replicate n 13 ++ xs)
one_return_more zero xs = refl
one_return_more (suc n) xs = ap (λ ys. 13 ∷ ys) (one_return_more n xs)

pub line_return : (text end rest : List ℕ) (c : ℕ) (after : List ℕ) → InLine text end rest
    → rest ≡ c ∷ after → c ≡ 13 → InLine text end after
line_return text end rest c after l e h = record {
  front = l.front;
  returns = suc l.returns;
  whole = l.whole;
  left = l.left ∙ ap (λ xs. replicate l.returns 13 ++ xs) (e ∙ ap (λ d. d ∷ after) h) ∙ one_return_more l.returns after;
  plain = l.plain;
  moved = l.moved;
}

-- what CR before another character, before LF and at the end of a text become
no_lf : (n c : ℕ) (xs : List ℕ) → (c == 10) ≡ false → (first_or_zero (replicate n 13 ++ (c ∷ xs)) == 10) ≡ false
no_lf zero c xs h = h
no_lf (suc n) c xs h = refl

returns_stay : (n c : ℕ) (xs : List ℕ) → (c == 10) ≡ false → (c == 13) ≡ false
    → without_returns (replicate n 13 ++ (c ∷ xs)) ≡ replicate n 13 ++ (c ∷ without_returns xs)
returns_stay zero c xs h k = kept_before c xs k
returns_stay (suc n) c xs h k =
    let others : without_returns (replicate n 13 ++ (c ∷ xs))
    ≡ replicate n 13 ++ (c ∷ without_returns xs) = returns_stay n c xs h k in
    ap (λ ys. cond (first_or_zero ys == 10) ys (13 ∷ ys)) others
    ∙ rw (no_lf n c (without_returns xs) h) refl

returns_go : (n : ℕ) (xs : List ℕ) → without_returns (replicate n 13 ++ (10 ∷ xs)) ≡ 10 ∷ without_returns xs
returns_go zero xs = refl
returns_go (suc n) xs = ap (λ ys. cond (first_or_zero ys == 10) ys (13 ∷ ys)) (returns_go n xs)

returns_last : (n : ℕ) → without_returns (replicate n 13 ++ []) ≡ replicate n 13 ++ []
returns_last zero = refl
returns_last (suc zero) = refl
returns_last (suc (suc n)) = ap (λ ys. cond (first_or_zero ys == 10) ys (13 ∷ ys)) (returns_last (suc n))

returns_moved : (start : List ℕ) (n : ℕ) (xs : List ℕ)
    → with_front start false (replicate n 13 ++ xs) ≡ replicate n 13 ++ with_front start false xs
returns_moved start zero xs = refl
returns_moved start (suc n) xs = ap (λ ys. 13 ∷ ys) (returns_moved start n xs)

inside_moved : (start : List ℕ) (c : ℕ) (xs : List ℕ) → (c == 10) ≡ false
    → with_front start false (c ∷ xs) ≡ c ∷ with_front start false xs
inside_moved start c xs h = rw h refl

pub line_other : (text end rest : List ℕ) (c : ℕ) (after : List ℕ) → InLine text end rest
    → rest ≡ c ∷ after → (c ≡ 10 → ⊥) → (c ≡ 13 → ⊥) → InLine text after after
line_other text end rest c after l e not_lf not_cr =
    let h = false_from_ne_true (c == 10) (λ b. not_lf (eqb-true c 10 b)) in
    let k = false_from_ne_true (c == 13) (λ b. not_cr (eqb-true c 13 b)) in
    let returns = replicate l.returns 13 in
    let front = (l.front ++ returns) ++ (c ∷ []) in
    let parts : (xs : List ℕ) → front ++ xs ≡ l.front ++ (returns ++ (c ∷ xs)) =
    λ xs. append_assoc (l.front ++ returns) (c ∷ []) xs ∙ append_assoc l.front returns (c ∷ xs) in
    record {
      front = front;
      returns = 0;
      whole = l.whole ∙ ap (λ xs. l.front ++ xs) (l.left ∙ ap (λ xs. returns ++ xs) e) ∙ sym (parts after);
      left = refl;
      plain = λ xs. ap without_returns (parts xs) ∙ l.plain (returns ++ (c ∷ xs))
          ∙ ap (λ ys. l.front ++ ys) (returns_stay l.returns c xs h k) ∙ sym (parts (without_returns xs));
      moved = λ start xs.
          ap (with_front start false) (parts xs) ∙ l.moved start (returns ++ (c ∷ xs))
          ∙ ap (λ ys. l.front ++ ys) (returns_moved start l.returns (c ∷ xs)
          ∙ ap (λ ys. returns ++ ys) (inside_moved start c xs h))
          ∙ sym (parts (with_front start false xs));
    }

-- at the end of the line
pub line_ends : (text end rest line : List ℕ) (c : ℕ) (after : List ℕ) → (l : InLine text end rest)
    → rest ≡ c ∷ after → c ≡ 10 → line ≡ l.front → IsFirstLine text line after
line_ends text end rest line c after l e h f =
    let tail : end ≡ replicate l.returns 13 ++ (10 ∷ after) = l.left
    ∙ ap (λ xs. replicate l.returns 13 ++ xs) (e ∙ ap (λ d. d ∷ after) h) in
    subst (λ (xs : List ℕ). IsFirstLine text xs after) (sym f) (record {
      plain = ap without_returns (l.whole ∙ ap (λ xs. l.front ++ xs) tail)
          ∙ l.plain (replicate l.returns 13 ++ (10 ∷ after))
          ∙ ap (λ xs. l.front ++ xs) (returns_go l.returns after);
      moved = λ front xs. l.moved front (10 ∷ xs);
    })

-- at the end of the text
pub line_is_last : (text end rest : List ℕ) → InLine text end rest → rest ≡ [] → IsOneLine text
line_is_last text end rest l e =
    let returns = replicate l.returns 13 in
    let whole : text ≡ l.front ++ (returns ++ []) = l.whole
    ∙ ap (λ xs. l.front ++ xs) (l.left ∙ ap (λ xs. returns ++ xs) e) in
    record {
      plain = ap without_returns whole ∙ l.plain (returns ++ [])
          ∙ ap (λ xs. l.front ++ xs) (returns_last l.returns) ∙ sym whole;
      moved = λ front. ap (with_front front false) whole ∙ l.moved front (returns ++ [])
          ∙ ap (λ xs. l.front ++ xs) (returns_moved front l.returns []) ∙ sym whole;
    }

-- ---- the spaces and tabs at the front of a line

-- some were passed
abbrev pub InFront : List ℕ → List ℕ → Type 0
InFront text rest = (front : List ℕ)
    → with_front front true (without_returns text) ≡ with_front front true (without_returns rest)

-- ---- what is written of a text, up to a rest

pub record Written (old : Text) (text rest : List ℕ) (new : Text) : Type 0 where
  pub front : List ℕ
  pub whole : text ≡ front ++ rest
  pub adds : Adds old front new

pub more_written : (old middle new : Text) (text rest more after : List ℕ) → Written old text rest middle
    → rest ≡ more ++ after → Adds middle more new → Written old text after new
more_written old middle new text rest more after w e a = record {
  front = w.front ++ more;
  whole = w.whole ∙ ap (λ xs. w.front ++ xs) e ∙ sym (append_assoc w.front more after);
  adds = adds_both old middle new w.front more w.adds a;
}

pub all_written : (old middle new : Text) (text rest : List ℕ) → Written old text rest middle
    → Adds middle rest new → Adds old text new
all_written old middle new text rest w a = adds_as old new (w.front ++ rest) text (sym w.whole)
    (adds_both old middle new w.front rest w.adds a)

-- one line more, as it is
pub line_written : (old a b c : Text) (text rest line after : List ℕ)
    → Written old (without_returns text) (without_returns rest) a → IsFirstLine rest line after
    → Adds a line b → Adds b (codes "\n") c → Written old (without_returns text) (without_returns after) c
line_written old a b c text rest line after w l p q =
    more_written old a c (without_returns text) (without_returns rest) (line ++ (10 ∷ []))
    (without_returns after) w (l.plain ∙ sym (append_assoc line (10 ∷ []) (without_returns after)))
    (adds_both a b c line (10 ∷ []) p q)

-- the front of later lines
abbrev pub front_at : Text → ℕ → List ℕ
front_at text depth = indentation (layout_view text.line.layout) depth ++ codes " "

-- one line more, and the front of the next one
pub moved_written : (old a b c d : Text) (depth : ℕ) (text rest line after next : List ℕ)
    → Written old (with_front (front_at old depth) false (without_returns text))
    (with_front (front_at old depth) false (without_returns rest)) a
    → IsFirstLine rest line after → HasFront after next → Adds a line b
    → Adds b (gap_text (layout_view b.line.layout) (broken false depth)) c → Adds c (codes " ") d
    → Written old (with_front (front_at old depth) false (without_returns text))
    (with_front (front_at old depth) false (without_returns next)) d
moved_written old a b c d depth text rest line after next w l h p q r =
    more_written old a d _ (with_front front false (without_returns rest))
    (line ++ ((10 ∷ indent) ++ codes " ")) (with_front front false (without_returns next)) w
    (ap (with_front front false) l.plain ∙ l.moved front (without_returns after)
    ∙ ap (λ xs. line ++ (10 ∷ (front ++ xs))) (h front)
    ∙ sym (append_assoc line (10 ∷ front) (with_front front false (without_returns next))))
    (adds_both a b d line ((10 ∷ indent) ++ codes " ") p (adds_both b c d (10 ∷ indent) (codes " ")
    (adds_as b c _ _ (ap (λ (k : Layout). 10 ∷ indentation (layout_view k) depth) same) q) r))
  where
    front : List ℕ
    front = front_at old depth

    indent : List ℕ
    indent = indentation (layout_view old.line.layout) depth

    same : b.line.layout ≡ old.line.layout
    same = p.line.layout ∙ w.adds.line.layout

-- ---- a block comment, by whether its lines move

pub block_moves : (front : List ℕ) (begins : Bool) (text : List ℕ) → begins ≡ true
    → has_stars false text ≡ true
    → with_front front false (without_returns text) ≡ block_shown front begins (without_returns text)
block_moves front begins text b h = rw (b, stars_without_returns text false, h) refl

pub block_has_no_stars : (front : List ℕ) (begins : Bool) (text : List ℕ) → has_stars false text ≡ false
    → without_returns text ≡ block_shown front begins (without_returns text)
block_has_no_stars front true text h = rw (stars_without_returns text false, h) refl
block_has_no_stars front false text h = refl

pub block_begins_no_line : (front : List ℕ) (begins : Bool) (text : List ℕ) → begins ≡ false
    → without_returns text ≡ block_shown front begins (without_returns text)
block_begins_no_line front begins text b = rw b refl

-- ---- a gap and a comment

pub comment_added : (old middle new : Text) (gap : Gap) (depth : ℕ) (begins : Bool) (class : ℕ) (text : List ℕ)
    → Adds old (gap_text (layout_view old.line.layout) gap) middle
    → Adds middle (shown (front_at middle depth) begins (piece class text 0)) new
    → Adds old (gap_text (layout_view old.line.layout) gap
    ++ shown (front_at old depth) begins (piece class text 0)) new
comment_added old middle new gap depth begins class text p q =
    adds_both old middle new (gap_text (layout_view old.line.layout) gap)
    (shown (front_at old depth) begins (piece class text 0)) p
    (adds_as middle new _ _ (ap (λ (l : Layout). shown (indentation (layout_view l) depth
    ++ codes " ") begins (piece class text 0)) p.line.layout) q)
