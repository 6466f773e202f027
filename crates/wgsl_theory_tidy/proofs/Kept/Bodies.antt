-- The text of a block comment after its sign, without the CR before LF, and with another front of
-- its lines.
use Rattle.std.proofs.Common.{◌≡◌, ℕ, suc, ◌==◌, ◌&&◌, Bool, true, false, cond, refl, sym, ap, subst, ◌∙◌, List, [], ◌∷◌, ◌++◌}
use Rattle.std.proofs.lemmas.Bool.{and_parts, eqb-true}
use Rattle.wgsl_model.specs.Tokens.Trivia.{first_or_zero}
use Rattle.wgsl_model_tidy.specs.Shown.{without_returns, is_space, with_front}
use Rattle.wgsl_theory_tidy.proofs.Levels.{IsIndent, no_indent, one_space, one_tab}

-- a number of comments deep in it: up to its end, or up to the end of the whole text, where it is
-- not closed
pub data IsBody (closed : Bool) : ℕ → List ℕ → Type 0 where
  body_end : closed ≡ true → IsBody closed 0 (42 ∷ (47 ∷ []))
  text_end : (depth : ℕ) → closed ≡ false → IsBody closed depth []
  body_opens : (depth : ℕ) (xs : List ℕ) → IsBody closed (suc depth) xs → IsBody closed depth (47 ∷ (42 ∷ xs))
  body_closes : (depth : ℕ) (xs : List ℕ) → IsBody closed depth xs → IsBody closed (suc depth) (42 ∷ (47 ∷ xs))
  body_other : (depth c : ℕ) (xs : List ℕ) → (c == 47 && first_or_zero xs == 42) ≡ false
      → (c == 42 && first_or_zero xs == 47) ≡ false → IsBody closed depth xs → IsBody closed depth (c ∷ xs)

-- ---- without the CR before LF

-- LF comes first then, or what came first
first_not : (m : ℕ) (xs : List ℕ) → (10 == m) ≡ false → (first_or_zero xs == m) ≡ false
    → (first_or_zero (without_returns xs) == m) ≡ false
first_not m [] l h = h
first_not m (c ∷ cs) l h = go (c == 13 && first_or_zero (without_returns cs) == 10) refl
  where
    go : (b : Bool) → (c == 13 && first_or_zero (without_returns cs) == 10) ≡ b
        → (first_or_zero (cond b (without_returns cs) (c ∷ without_returns cs)) == m) ≡ false
    go true e = ap (λ d. d == m) (eqb-true (first_or_zero (without_returns cs)) 10 (and_parts (c == 13) _ e).1) ∙ l
    go false e = h

no_sign_kept : (b : Bool) (m : ℕ) (xs : List ℕ) → (10 == m) ≡ false
    → (b && first_or_zero xs == m) ≡ false → (b && first_or_zero (without_returns xs) == m) ≡ false
no_sign_kept true m xs l h = first_not m xs l h
no_sign_kept false m xs l h = refl

pub body_without_returns : {closed : Bool} (depth : ℕ) (xs : List ℕ) → IsBody closed depth xs
    → IsBody closed depth (without_returns xs)
body_without_returns _ _ (body_end e) = body_end e
body_without_returns _ _ (text_end depth e) = text_end depth e
body_without_returns _ _ (body_opens depth xs i) = body_opens depth (without_returns xs)
    (body_without_returns (suc depth) xs i)
body_without_returns _ _ (body_closes depth xs i) = body_closes depth (without_returns xs)
    (body_without_returns depth xs i)
body_without_returns {closed = closed} _ _ (body_other depth c xs h k i) =
    go (c == 13 && first_or_zero (without_returns xs) == 10) (body_without_returns depth xs i)
  where
    go : (b : Bool) → IsBody closed depth (without_returns xs)
        → IsBody closed depth (cond b (without_returns xs) (c ∷ without_returns xs))
    go true j = j
    go false j = body_other depth c (without_returns xs) (no_sign_kept (c == 47) 42 xs refl h)
        (no_sign_kept (c == 42) 47 xs refl k) j

-- ---- with another front of its lines

-- the same comes first, where no line begins
pub first_same : (front xs : List ℕ) → first_or_zero (with_front front false xs) ≡ first_or_zero xs
first_same front [] = refl
first_same front (c ∷ cs) = go (c == 10) refl
  where
    go : (b : Bool) → (c == 10) ≡ b
        → first_or_zero (cond b (10 ∷ (front ++ with_front front true cs)) (c ∷ with_front front false cs)) ≡ c
    go true e = sym (eqb-true c 10 e)
    go false e = refl

-- a character that begins no front and ends no line
pub front_before : (front : List ℕ) (begins : Bool) (c : ℕ) (cs : List ℕ) → is_space c ≡ false
    → (c == 10) ≡ false → with_front front begins (c ∷ cs) ≡ c ∷ with_front front false cs
front_before front true c cs h k = rw (h, k) refl
front_before front false c cs h k = rw k refl

body_indented : {closed : Bool} (front : List ℕ) → IsIndent front → (depth : ℕ) (xs : List ℕ)
    → IsBody closed depth xs → IsBody closed depth (front ++ xs)
body_indented _ (no_indent) depth xs i = i
body_indented _ (one_space front h) depth xs i = body_other depth 32 (front ++ xs) refl refl
    (body_indented front h depth xs i)
body_indented _ (one_tab front h) depth xs i = body_other depth 9 (front ++ xs) refl refl
    (body_indented front h depth xs i)

pub body_with_front : {closed : Bool} (front : List ℕ) → IsIndent front
    → (begins : Bool) (depth : ℕ) (xs : List ℕ) → IsBody closed depth xs
    → IsBody closed depth (with_front front begins xs)
body_with_front {closed = closed} front n begins _ _ (body_end e) = subst (IsBody closed 0)
    (sym (front_before front begins 42 (47 ∷ []) refl refl)) (body_end e)
body_with_front front n begins _ _ (text_end depth e) = text_end depth e
body_with_front {closed = closed} front n begins _ _ (body_opens depth xs i) =
    subst (IsBody closed depth) (sym (front_before front begins 47 (42 ∷ xs) refl refl))
    (body_opens depth (with_front front false xs) (body_with_front front n false (suc depth) xs i))
body_with_front {closed = closed} front n begins _ _ (body_closes depth xs i) =
    subst (IsBody closed (suc depth)) (sym (front_before front begins 42 (47 ∷ xs) refl refl))
    (body_closes depth (with_front front false xs) (body_with_front front n false depth xs i))
body_with_front {closed = closed} front n begins _ _ (body_other depth c xs h k i) =
    go (begins && is_space c) (c == 10) (body_with_front front n true depth xs i)
    (body_with_front front n false depth xs i)
  where
    others : List ℕ
    others = with_front front false xs

    go : (b l : Bool) → IsBody closed depth (with_front front true xs) → IsBody closed depth others
        → IsBody closed depth (cond b (with_front front true xs)
        (cond l (10 ∷ (front ++ with_front front true xs)) (c ∷ others)))
    go true l i j = i
    go false true i j = body_other depth 10 (front ++ with_front front true xs) refl refl
        (body_indented front n depth (with_front front true xs) i)
    go false false i j =
        body_other depth c others (ap (λ d. c == 47 && d == 42) (first_same front xs) ∙ h)
        (ap (λ d. c == 42 && d == 47) (first_same front xs) ∙ k) j
