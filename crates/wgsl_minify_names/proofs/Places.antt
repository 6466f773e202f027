-- Where names are first in a list, and in which order lists have their elements.
use Rattle.std.proofs.Common.{◌≡◌, ◌⊎◌, inl, inr, ℕ, zero, suc, ◌<◌, Bool, true, false, cond, not, ◌||◌, List, [], ◌∷◌, ◌++◌, length, get_or, refl, sym, ap, subst, ◌∙◌, arith}
use Rattle.std.specs.Prelude.{bytes_eq, filter, take_while, Contains}
use Rattle.std.specs.List.{AllPairs}
use Rattle.std.proofs.lemmas.Bool.{true≢false}
use Rattle.std.proofs.lemmas.List.Elements.{Contains-get_or}
use Rattle.std.proofs.lemmas.List.Quantifiers.{all_pairs_push}
use Rattle.std.proofs.lemmas.List.Sums.{take_while-cons}
use Rattle.std.proofs.lemmas.Slice.Eq.{bytes_eq-Decides}
use Rattle.wgsl_minify_names.specs.Counts.{place_in, IsFirstBefore}
use Rattle.wgsl_minify_names.specs.InScope.{is_in, with_name}
use Rattle.wgsl_minify_names.proofs.Membership.{clash, at_head, at_later, at_cases, is_in_from}
use Rattle.wgsl_minify_names.proofs.Tallies.{itself}

-- ---- places
place-cons : (x y : List ℕ) (names : List (List ℕ))
    → place_in (y ∷ names) x ≡ cond (bytes_eq x y) 0 (suc (place_in names x))
place-cons x y names = ap length (take_while-cons (λ z. not (bytes_eq x z)) y names) ∙ go (bytes_eq x y) where
  go : (b : Bool) → length (cond (not b) (y ∷ take_while (λ z. not (bytes_eq x z)) names) [])
      ≡ cond b 0 (suc (place_in names x))
  go true = refl
  go false = refl

at_first : (x y : List ℕ) (names : List (List ℕ)) → bytes_eq x y ≡ true → place_in (y ∷ names) x ≡ 0
at_first x y names e = place-cons x y names ∙ ap (λ b. cond b 0 (suc (place_in names x))) e

after_first : (x y : List ℕ) (names : List (List ℕ)) → bytes_eq x y ≡ false
    → place_in (y ∷ names) x ≡ suc (place_in names x)
after_first x y names e = place-cons x y names ∙ ap (λ b. cond b 0 (suc (place_in names x))) e

-- a name that is in a list is before its end, and where it is in a longer list
place_inside : (x k : List ℕ) (names : List (List ℕ)) → is_in x names ≡ true
    → (place_in names x < length names) × (place_in (names ++ k ∷ []) x ≡ place_in names x)
place_inside x k [] h = absurd (true≢false (sym h))
place_inside x k (y ∷ names) h = go (bytes_eq x y) refl (place_inside x k names) where
  go : (b : Bool) → bytes_eq x y ≡ b
      → (is_in x names ≡ true → (place_in names x < length names) × (place_in (names ++ k ∷ []) x ≡ place_in names x))
      → (place_in (y ∷ names) x < length (y ∷ names)) × (place_in (y ∷ (names ++ k ∷ [])) x ≡ place_in (y ∷ names) x)
  go true e rest =
      let here = at_first x y names e in
      (omega arith, at_first x y (names ++ k ∷ []) e ∙ sym here)
  go false e rest =
      let later = rest (sym (ap (λ b. b || is_in x names) e) ∙ h) in
      let here = after_first x y names e in
      let within = later.0 in
      (omega arith, after_first x y (names ++ k ∷ []) e ∙ ap suc later.1 ∙ sym here)

-- a new name is at the end
place_new : (k : List ℕ) (names : List (List ℕ)) → is_in k names ≡ false
    → place_in (names ++ k ∷ []) k ≡ length names
place_new k [] h = at_first k k [] (itself k)
place_new k (y ∷ names) h = go (bytes_eq k y) refl (place_new k names) where
  go : (b : Bool) → bytes_eq k y ≡ b → (is_in k names ≡ false → place_in (names ++ k ∷ []) k ≡ length names)
      → place_in (y ∷ (names ++ k ∷ [])) k ≡ suc (length names)
  go true e rest = absurd (true≢false (sym (ap (λ b. b || is_in k names) e) ∙ h))
  go false e rest = after_first k y (names ++ k ∷ []) e
      ∙ ap suc (rest (sym (ap (λ b. b || is_in k names) e) ∙ h))

-- each name once, in the order in which they are first met, after one more
pub firsts_more : (names ks : List (List ℕ)) (k : List ℕ) → ((x : List ℕ) → is_in x ks ≡ is_in x names)
    → AllPairs (IsFirstBefore names) ks → AllPairs (IsFirstBefore (names ++ k ∷ [])) (with_name ks k)
firsts_more names ks k same h = go (is_in k ks) refl where
  inside : (i : ℕ) (d : List ℕ) → i < length ks
      → (place_in names (get_or ks i d) < length names)
      × (place_in (names ++ k ∷ []) (get_or ks i d) ≡ place_in names (get_or ks i d))
  inside i d lt = place_inside (get_or ks i d) k names
      (sym (same (get_or ks i d)) ∙ is_in_from (get_or ks i d) ks (Contains-get_or ks i d lt))

  kept : AllPairs (IsFirstBefore (names ++ k ∷ [])) ks
  kept i j d lt within =
      let first = inside i d (omega arith) in
      let second = inside j d within in
      let e = first.1 in
      let f = second.1 in
      let before = h i j d lt within in
      omega arith

  go : (b : Bool) → is_in k ks ≡ b → AllPairs (IsFirstBefore (names ++ k ∷ [])) (cond b ks (ks ++ k ∷ []))
  go true e = kept
  go false e = all_pairs_push (IsFirstBefore (names ++ k ∷ [])) ks k kept (λ i d lt.
      let one = inside i d lt in
      let within = one.0 in
      let same_place = one.1 in
      let last = place_new k names (sym (same k) ∙ e) in
      omega arith)

-- names that pass a test are in the order that they have among those that pass
pub first_in_filter : (p : List ℕ → Bool) (x y : List ℕ) (names : List (List ℕ)) → p x ≡ true → p y ≡ true
    → IsFirstBefore (filter p names) x y → IsFirstBefore names x y
first_in_filter p x y [] px py h = h
first_in_filter p x y (z ∷ names) px py h =
    go (p z) refl h (bytes_eq x z) refl (bytes_eq y z) refl (first_in_filter p x y names px py) where
      passes : (w : List ℕ) → p w ≡ true → bytes_eq w z ≡ true → p z ≡ true
      passes w pw e = sym (ap p ((bytes_eq-Decides w z).0 e)) ∙ pw

      go : (b : Bool) → p z ≡ b → IsFirstBefore (cond b (z ∷ filter p names) (filter p names)) x y
          → (s : Bool) → bytes_eq x z ≡ s → (t : Bool) → bytes_eq y z ≡ t
          → (IsFirstBefore (filter p names) x y → IsFirstBefore names x y) → IsFirstBefore (z ∷ names) x y
      go false e before true f t g rest = clash (p z) (passes x px f) e
      go false e before false f true g rest = clash (p z) (passes y py g) e
      go false e before false f false g rest =
          let less = rest before in
          let first = after_first x z names f in
          let second = after_first y z names g in
          omega arith
      go true e before s f true g rest =
          let second = at_first y z (filter p names) g in
          absurd (omega arith)
      go true e before true f false g rest =
          let first = at_first x z names f in
          let second = after_first y z names g in
          omega arith
      go true e before false f false g rest =
          let first = after_first x z (filter p names) f in
          let second = after_first y z (filter p names) g in
          let less = rest (omega arith) in
          let first_here = after_first x z names f in
          let second_here = after_first y z names g in
          omega arith

-- ---- elements that pass a test
passing_there : {X : Type 0} (p : X → Bool) (xs : List X) (x : X) → Contains xs x → p x ≡ true
    → Contains (filter p xs) x
passing_there p [] x h px = h
passing_there {X} p (y ∷ xs) x h px = go (p y) refl (at_cases y x xs h) (λ k. passing_there p xs x k px) where
  go : (b : Bool) → p y ≡ b → (y ≡ x) ⊎ Contains xs x → (Contains xs x → Contains (filter p xs) x)
      → Contains (cond b (y ∷ filter p xs) (filter p xs)) x
  go true e (inl same) rest = subst (Contains (y ∷ filter p xs)) same (at_head y (filter p xs))
  go false e (inl same) rest = clash (p x) px (sym (ap p same) ∙ e)
  go true e (inr k) rest = at_later y x (filter p xs) (rest k)
  go false e (inr k) rest = rest k

-- what holds of any two among them holds of any two of a list that pass
pub pairs_from_filter : {X : Type 0} (R : X → X → Type 0) (p : X → Bool) (xs : List X) → AllPairs R (filter p xs)
    → (i j : ℕ) (d : X) → i < j → j < length xs → p (get_or xs i d) ≡ true → p (get_or xs j d) ≡ true
    → R (get_or xs i d) (get_or xs j d)
pairs_from_filter R p [] h i j d lt within pi pj = absurd (omega arith)
pairs_from_filter {X} R p (x ∷ xs) h i zero d lt within pi pj = absurd (omega arith)
pairs_from_filter {X} R p (x ∷ xs) h i (suc j) d lt within pi pj =
    go (p x) refl h i lt pi (λ all i less. pairs_from_filter R p xs all i j d less (omega arith)) where
      tail : AllPairs R (x ∷ filter p xs) → AllPairs R (filter p xs)
      tail all i j d lt within = all (suc i) (suc j) d (omega arith) (omega arith)

      first : AllPairs R (x ∷ filter p xs) → Contains (filter p xs) (get_or xs j d) → R x (get_or xs j d)
      first all (k, inside, e) = subst (R x) e (all 0 (suc k) (get_or xs j d) (omega arith) (omega arith))

      go : (b : Bool) → p x ≡ b → AllPairs R (cond b (x ∷ filter p xs) (filter p xs)) → (i : ℕ) → i < suc j
          → p (get_or (x ∷ xs) i d) ≡ true
          → (AllPairs R (filter p xs) → (i : ℕ) → i < j → p (get_or xs i d) ≡ true → p (get_or xs j d) ≡ true
          → R (get_or xs i d) (get_or xs j d))
          → R (get_or (x ∷ xs) i d) (get_or xs j d)
      go false e all zero lt pi rest = clash (p x) pi e
      go false e all (suc i) lt pi rest = rest all i (omega arith) pi pj
      go true e all (suc i) lt pi rest = rest (tail all) i (omega arith) pi pj
      go true e all zero lt pi rest =
          first all (passing_there p xs (get_or xs j d) (Contains-get_or xs j d (omega arith)) pj)
