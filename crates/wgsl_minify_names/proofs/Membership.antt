-- Being in a list, as a test and as a fact.
use Rattle.std.proofs.Common.{◌≡◌, ◌⊎◌, inl, inr, ℕ, zero, suc, ◌+◌, Bool, true, false, cond, ◌||◌, List, [], ◌∷◌, refl, sym, ap, subst, ◌∙◌, arith}
use Rattle.std.specs.Prelude.{bytes_eq, count_by, filter, Contains}
use Rattle.std.proofs.lemmas.Bool.{true≢false}
use Rattle.std.proofs.lemmas.List.Sums.{sum_by-cons}
use Rattle.std.proofs.lemmas.Slice.Eq.{bytes_eq-Decides}
use Rattle.wgsl_minify_names.specs.InScope.{is_in}

-- ---- tests
pub or_left : (a b : Bool) → a ≡ true → (a || b) ≡ true
or_left true b h = refl
or_left false b h = absurd (true≢false (sym h))

pub or_right : (a b : Bool) → b ≡ true → (a || b) ≡ true
or_right true b h = refl
or_right false b h = h

pub or_cases : (a b : Bool) → (a || b) ≡ true → (a ≡ true) ⊎ (b ≡ true)
or_cases true b h = inl refl
or_cases false b h = inr h

pub either : (b : Bool) → (b ≡ true) ⊎ (b ≡ false)
either true = inl refl
either false = inr refl

pub clash : {A : Type 0} (b : Bool) → b ≡ true → b ≡ false → A
clash b t f = absurd (true≢false (sym t ∙ f))

pub false_unless : (b : Bool) → (b ≡ true → ⊥) → b ≡ false
false_unless true h = absurd (h refl)
false_unless false h = refl

-- ---- elements
pub at_head : {A : Type 0} (x : A) (xs : List A) → Contains (x ∷ xs) x
at_head x xs = (0, omega arith, refl)

pub at_later : {A : Type 0} (y x : A) (xs : List A) → Contains xs x → Contains (y ∷ xs) x
at_later y x xs (k, lt, e) = (suc k, omega arith, e)

pub at_none : {A : Type 0} (x : A) → Contains [] x → ⊥
at_none x (k, lt, e) = omega arith

pub at_cases : {A : Type 0} (y x : A) (xs : List A) → Contains (y ∷ xs) x → (y ≡ x) ⊎ Contains xs x
at_cases y x xs (zero, lt, e) = inl e
at_cases y x xs (suc k, lt, e) = inr (k, omega arith, e)

-- ---- names
pub is_in_from : (x : List ℕ) (xs : List (List ℕ)) → Contains xs x → is_in x xs ≡ true
is_in_from x [] h = absurd (at_none x h)
is_in_from x (y ∷ xs) h = elim (at_cases y x xs h) [
  | inl e ↦ or_left (bytes_eq x y) (is_in x xs) ((bytes_eq-Decides x y).1 (sym e))
  | inr k ↦ or_right (bytes_eq x y) (is_in x xs) (is_in_from x xs k)
]

pub contains_from : (x : List ℕ) (xs : List (List ℕ)) → is_in x xs ≡ true → Contains xs x
contains_from x [] h = absurd (true≢false (sym h))
contains_from x (y ∷ xs) h = elim (or_cases (bytes_eq x y) (is_in x xs) h) [
  | inl e ↦ subst (Contains (y ∷ xs)) (sym ((bytes_eq-Decides x y).0 e)) (at_head y xs)
  | inr k ↦ at_later y x xs (contains_from x xs k)
]

-- ---- filters
-- a name that passes a test is among those of a list that pass where it is in the list
pub is_in-filter : (p : List ℕ → Bool) (x : List ℕ) (xs : List (List ℕ)) → p x ≡ true
    → is_in x (filter p xs) ≡ is_in x xs
is_in-filter p x [] pass = refl
is_in-filter p x (y ∷ xs) pass = go (p y) refl (is_in-filter p x xs pass) where
  go : (b : Bool) → p y ≡ b → is_in x (filter p xs) ≡ is_in x xs
      → is_in x (cond b (y ∷ filter p xs) (filter p xs)) ≡ (bytes_eq x y || is_in x xs)
  go true e rest = ap (λ b. bytes_eq x y || b) rest
  go false e rest = rest ∙ ap (λ b. b || is_in x xs) (sym (other (either (bytes_eq x y)))) where
    other : (bytes_eq x y ≡ true) ⊎ (bytes_eq x y ≡ false) → bytes_eq x y ≡ false
    other (inl same) = clash (p x) pass (ap p ((bytes_eq-Decides x y).0 same) ∙ e)
    other (inr differs) = differs

-- one that does not pass is not among them
pub not_in-filter : (p : List ℕ → Bool) (x : List ℕ) (xs : List (List ℕ)) → p x ≡ false → is_in x (filter p xs) ≡ false
not_in-filter p x [] fails = refl
not_in-filter p x (y ∷ xs) fails = go (p y) refl (not_in-filter p x xs fails) where
  go : (b : Bool) → p y ≡ b → is_in x (filter p xs) ≡ false → is_in x (cond b (y ∷ filter p xs) (filter p xs)) ≡ false
  go false e rest = rest
  go true e rest = ap (λ b. b || is_in x (filter p xs)) (other (either (bytes_eq x y))) ∙ rest where
    other : (bytes_eq x y ≡ true) ⊎ (bytes_eq x y ≡ false) → bytes_eq x y ≡ false
    other (inl same) = clash (p x) (ap p ((bytes_eq-Decides x y).0 same) ∙ e) fails
    other (inr differs) = differs

zero_plus : (n : ℕ) → 0 + n ≡ n
zero_plus n = omega arith

-- one that passes is there as often
pub count-filter : (p : List ℕ → Bool) (x : List ℕ) (xs : List (List ℕ)) → p x ≡ true
    → count_by (bytes_eq x) (filter p xs) ≡ count_by (bytes_eq x) xs
count-filter p x [] pass = refl
count-filter p x (y ∷ xs) pass = go (p y) refl (count-filter p x xs pass) where
  test : List ℕ → ℕ
  test z = cond (bytes_eq x z) 1 0

  go : (b : Bool) → p y ≡ b → count_by (bytes_eq x) (filter p xs) ≡ count_by (bytes_eq x) xs
      → count_by (bytes_eq x) (cond b (y ∷ filter p xs) (filter p xs)) ≡ count_by (bytes_eq x) (y ∷ xs)
  go true e rest = sum_by-cons (λ z. cond (bytes_eq x z) 1 0) y (filter p xs)
      ∙ ap (λ n. cond (bytes_eq x y) 1 0 + n) rest
      ∙ sym (sum_by-cons (λ z. cond (bytes_eq x z) 1 0) y xs)
  go false e rest = rest ∙ sym (sum_by-cons (λ z. cond (bytes_eq x z) 1 0) y xs
      ∙ ap (λ b. cond b 1 0 + count_by (bytes_eq x) xs) (other (either (bytes_eq x y)))
      ∙ zero_plus (count_by (bytes_eq x) xs))
    where
      other : (bytes_eq x y ≡ true) ⊎ (bytes_eq x y ≡ false) → bytes_eq x y ≡ false
      other (inl same) = clash (p x) pass (ap p ((bytes_eq-Decides x y).0 same) ∙ e)
      other (inr differs) = differs
