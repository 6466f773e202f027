-- Names that are in lists.
use Rattle.std.proofs.Common.{◌≡◌, ℕ, zero, suc, Bool, true, false, cond, ◌||◌, List, [], ◌∷◌, ◌++◌, length, get_or, take, ◌+◌, refl, sym, ap, subst, ◌∙◌, ◌<◌}
use Rattle.std.specs.Prelude.{bytes_eq}
use Rattle.std.specs.Borrow.{Bor}
use Rattle.std.specs.List.{list_any}
use Rattle.std.proofs.lemmas.Grind.{take_at_read}
use Rattle.std.proofs.lemmas.Slice.Eq.{bytes_eq-Decides}
use Rattle.indexmap.specs.IndexSet.{insert_key}
use Rattle.wgsl_minify_names.specs.InScope.{is_in, with_name}
use Rattle.wgsl_minify_names.specs.Counts.{same_text}
use Rattle.wgsl_minify_names.specs.View.{texts}

-- a name is in the texts
pub is_in-texts : (x : List ℕ) (ks : List (Bor (List ℕ)))
    → list_any (λ (k : Bor (List ℕ)). bytes_eq x k.now) ks ≡ is_in x (texts ks)
is_in-texts x [] = refl
is_in-texts x (k ∷ ks) = ap (λ b. bytes_eq x k.now || b) (is_in-texts x ks)

pub length-texts : (ks : List (Bor (List ℕ))) → length (texts ks) ≡ length ks
length-texts [] = refl
length-texts (k ∷ ks) = ap suc (length-texts ks)

-- the texts after one more
pub texts-append : (ks js : List (Bor (List ℕ))) → texts (ks ++ js) ≡ texts ks ++ texts js
texts-append [] js = refl
texts-append (k ∷ ks) js = ap (λ names. k.now ∷ names) (texts-append ks js)

pub is_in-append : (x : List ℕ) (xs ys : List (List ℕ)) → is_in x (xs ++ ys) ≡ (is_in x xs || is_in x ys)
is_in-append x [] ys = refl
is_in-append x (y ∷ xs) ys = go (bytes_eq x y) (is_in-append x xs ys) where
  go : (b : Bool) → is_in x (xs ++ ys) ≡ (is_in x xs || is_in x ys)
      → (b || is_in x (xs ++ ys)) ≡ ((b || is_in x xs) || is_in x ys)
  go true e = refl
  go false e = e

-- the names after one more, which may be there
pub texts-insert_key : (ks : List (Bor (List ℕ))) (k : Bor (List ℕ))
    → texts (insert_key same_text ks k) ≡ with_name (texts ks) k.now
texts-insert_key ks k = go (is_in k.now (texts ks)) (is_in-texts k.now ks) where
  go : (b : Bool) → list_any (same_text k) ks ≡ b
      → texts (insert_key same_text ks k) ≡ cond b (texts ks) (texts ks ++ k.now ∷ [])
  go true e = ap (λ c. texts (cond c ks (ks ++ k ∷ []))) e
  go false e = ap (λ c. texts (cond c ks (ks ++ k ∷ []))) e ∙ texts-append ks (k ∷ [])

pub is_in-with_name : (x : List ℕ) (names : List (List ℕ)) (y : List ℕ)
    → is_in x (with_name names y) ≡ is_in x (names ++ y ∷ [])
is_in-with_name x names y = go (is_in y names) refl where
  go : (b : Bool) → is_in y names ≡ b → is_in x (cond b names (names ++ y ∷ [])) ≡ is_in x (names ++ y ∷ [])
  go false e = refl
  go true e = here (bytes_eq x y) refl where
    here : (c : Bool) → bytes_eq x y ≡ c → is_in x names ≡ is_in x (names ++ y ∷ [])
    here true f =
        let same : x ≡ y = (bytes_eq-Decides x y).0 f in
        let there : is_in x names ≡ true = subst (λ z. is_in z names ≡ true) (sym same) e in
        there ∙ sym (is_in-append x names (y ∷ []) ∙ ap (λ d. d || is_in x (y ∷ [])) there)
    here false f = sym (is_in-append x names (y ∷ []) ∙ ap (λ d. is_in x names || (d || false)) f
        ∙ or_false (is_in x names))
      where
        or_false : (d : Bool) → (d || (false || false)) ≡ d
        or_false true = refl
        or_false false = refl

pub texts-take : (n : ℕ) (ks : List (Bor (List ℕ))) → texts (take n ks) ≡ take n (texts ks)
texts-take zero ks = refl
texts-take (suc n) [] = refl
texts-take (suc n) (k ∷ ks) = ap (λ names. k.now ∷ names) (texts-take n ks)

-- the names that are in a set, after one more of a list
pub is_in-inserted : (xs : List (Bor (List ℕ))) (i : ℕ) (ks js : List (Bor (List ℕ))) (k : Bor (List ℕ)) → i < length xs
    → js ≡ insert_key same_text ks (get_or xs i k) → (x : List ℕ) → is_in x (texts ks) ≡ is_in x (texts (take i xs))
    → is_in x (texts js) ≡ is_in x (texts (take (i + 1) xs))
is_in-inserted xs i ks js k lt e x before =
    let item = get_or xs i k in
    ap (λ l. is_in x (texts l)) e ∙ ap (is_in x) (texts-insert_key ks item) ∙ is_in-with_name x (texts ks) item.now
    ∙ is_in-append x (texts ks) (item.now ∷ []) ∙ ap (λ b. b || is_in x (item.now ∷ [])) before
    ∙ sym (ap (λ l. is_in x (texts l)) (take_at_read xs i k lt).1
    ∙ ap (is_in x) (texts-append (take i xs) (item ∷ [])) ∙ is_in-append x (texts (take i xs)) (item.now ∷ []))
