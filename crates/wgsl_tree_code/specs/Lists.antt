-- Lists, compared one item at a time.
use Rattle.std.proofs.Common.{ℕ, suc, ◌+◌, ◌<◌, ◌≤◌, Bool, true, false, List, [], ◌∷◌, ◌≡◌, ◌&&◌, refl, sym, ◌∙◌, ap, true≢false, length, drop, get_or, drop-cons, drop_of_length-le, arith}
use Rattle.wgsl_tree_code.specs.Code.{Code, list_of}
use Rattle.wgsl_tree_code.specs.Same.{same}
use Rattle.wgsl_tree_code.specs.Laws.{both}

not_true : (b : Bool) → (b ≡ true → ⊥) → b ≡ false
not_true true h = absurd (h refl)
not_true false h = refl

module _ {X : Type 0} (code : X → Code) where
  -- all items are the same
  abbrev pub all_same : List X → List X → Bool
  all_same xs ys = same (list_of code xs) (list_of code ys)

  pub same_length : (xs ys : List X) → all_same xs ys ≡ true → length xs ≡ length ys
  same_length [] [] e = refl
  same_length [] (y ∷ ys) e = absurd (true≢false (sym e))
  same_length (x ∷ xs) [] e = absurd (true≢false (sym e))
  same_length (x ∷ xs) (y ∷ ys) e = ap suc (same_length xs ys (both (same (code x) (code y)) (all_same xs ys) e).1)

  pub unlike : (xs ys : List X) → (length xs ≡ length ys → ⊥) → all_same xs ys ≡ false
  unlike xs ys h = not_true (all_same xs ys) (λ e. h (same_length xs ys e))

  pub next_same : (xs ys : List X) (i : ℕ) (x y : X) → i < length xs → i < length ys
      → x ≡ get_or xs i x → y ≡ get_or ys i y
      → all_same (drop i xs) (drop i ys) ≡ same (code x) (code y) && all_same (drop (i + 1) xs) (drop (i + 1) ys)
  next_same xs ys i x y lx ly ex ey =
      let on : suc i ≡ i + 1 = omega arith in
      (λ t. all_same (drop-cons xs i x lx t) (drop-cons ys i y ly t))
      ∙ (λ t. same (code (sym ex t)) (code (sym ey t)) && all_same (drop (on t) xs) (drop (on t) ys))

  pub next_differs : (xs ys : List X) (i : ℕ) (x y : X) → i < length xs → i < length ys
      → x ≡ get_or xs i x → y ≡ get_or ys i y
      → all_same xs ys ≡ all_same (drop i xs) (drop i ys) → same (code x) (code y) ≡ false
      → all_same xs ys ≡ false
  next_differs xs ys i x y lx ly ex ey so differ = so ∙ next_same xs ys i x y lx ly ex ey
      ∙ ap (λ b. b && all_same (drop (i + 1) xs) (drop (i + 1) ys)) differ

  pub none_left : (xs ys : List X) (i : ℕ) → length xs ≤ i → length ys ≤ i
      → all_same xs ys ≡ all_same (drop i xs) (drop i ys) → all_same xs ys ≡ true
  none_left xs ys i lx ly so = so ∙ (λ t. all_same (drop_of_length-le xs lx t) (drop_of_length-le ys ly t))
