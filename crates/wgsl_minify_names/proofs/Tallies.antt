-- How often names are in a list, one more at a time.
use Rattle.std.proofs.Common.{◌≡◌, ℕ, ◌+◌, ◌<◌, ◌≤◌, Bool, true, false, cond, ◌||◌, List, [], ◌∷◌, ◌++◌, length, get_or, take, Option, Some, None, refl, sym, ap, ◌∙◌, arith}
use Rattle.std.specs.Prelude.{bytes_eq, count_by, unwrap_or}
use Rattle.std.specs.Borrow.{Bor}
use Rattle.std.proofs.lemmas.Bool.{true≢false}
use Rattle.std.proofs.lemmas.Grind.{take_at_read}
use Rattle.std.proofs.lemmas.List.{length-take}
use Rattle.std.proofs.lemmas.List.Sums.{count_by-le-length, sum_by-append, sum_by-cons}
use Rattle.std.proofs.lemmas.Slice.Eq.{bytes_eq-Decides}
use Rattle.wgsl_minify_names.specs.Counts.{count_in}
use Rattle.wgsl_minify_names.specs.InScope.{is_in}
use Rattle.wgsl_minify_names.specs.View.{texts}
use Rattle.wgsl_minify_names.proofs.Lists.{length-texts, texts-append, is_in-append}

-- tests that a name passes are the same either way round
pub apart : (x y : List ℕ) → bytes_eq x y ≡ false → bytes_eq y x ≡ false
apart x y e = go (bytes_eq y x) refl where
  go : (b : Bool) → bytes_eq y x ≡ b → b ≡ false
  go false f = refl
  go true f = absurd (true≢false (sym ((bytes_eq-Decides x y).1 (sym ((bytes_eq-Decides y x).0 f))) ∙ e))

pub itself : (x : List ℕ) → bytes_eq x x ≡ true
itself x = (bytes_eq-Decides x x).1 refl

-- a name that is not there has the count 0
absent : (x : List ℕ) (names : List (List ℕ)) → is_in x names ≡ false → count_by (bytes_eq x) names ≡ 0
absent x [] e = refl
absent x (y ∷ names) e = go (bytes_eq x y) refl (absent x names) where
  go : (b : Bool) → bytes_eq x y ≡ b → (is_in x names ≡ false → count_by (bytes_eq x) names ≡ 0)
      → count_by (bytes_eq x) (y ∷ names) ≡ 0
  go true f others = absurd (true≢false (sym (ap (λ t. t || is_in x names) f) ∙ e))
  go false f others =
      let rest = others (sym (ap (λ t. t || is_in x names) f) ∙ e) in
      sum_by-cons (λ z. cond (bytes_eq x z) 1 0) y names ∙ ap (λ t. cond t 1 0 + count_by (bytes_eq x) names) f
      ∙ omega arith

pub count_value : (names : List (List ℕ)) (x : List ℕ) → unwrap_or (count_in names x) 0 ≡ count_by (bytes_eq x) names
count_value names x = go (is_in x names) refl where
  go : (b : Bool) → is_in x names ≡ b
      → unwrap_or (cond b (Some (count_by (bytes_eq x) names)) None) 0 ≡ count_by (bytes_eq x) names
  go true e = refl
  go false e = sym (absent x names e)

count_more : (x : List ℕ) (names : List (List ℕ)) (y : List ℕ)
    → count_by (bytes_eq x) (names ++ y ∷ []) ≡ count_by (bytes_eq x) names + cond (bytes_eq x y) 1 0
count_more x names y =
    let test : List ℕ → ℕ = λ z. cond (bytes_eq x z) 1 0 in
    let one = sum_by-cons test y [] in
    sum_by-append test names (y ∷ []) ∙ ap (λ n. count_by (bytes_eq x) names + n) (one ∙ omega arith)

pub or_true : (b : Bool) → (b || true) ≡ true
or_true true = refl
or_true false = refl

pub or_false : (b : Bool) → (b || false) ≡ b
or_false true = refl
or_false false = refl

-- one more name
one_more : (names : List (List ℕ)) (k x : List ℕ)
    → cond (bytes_eq k x) (Some (count_by (bytes_eq k) names + 1)) (count_in names x) ≡ count_in (names ++ k ∷ []) x
one_more names k x = go (bytes_eq k x) refl where
  go : (b : Bool) → bytes_eq k x ≡ b
      → cond b (Some (count_by (bytes_eq k) names + 1)) (count_in names x) ≡ count_in (names ++ k ∷ []) x
  go true e =
      let same : k ≡ x = (bytes_eq-Decides k x).0 e in
      let other : bytes_eq x k ≡ true = (bytes_eq-Decides x k).1 (sym same) in
      let there : is_in x (names ++ k ∷ []) ≡ true =
      is_in-append x names (k ∷ []) ∙ ap (λ t. is_in x names || (t || false)) other ∙ or_true (is_in x names) in
      let count : count_by (bytes_eq x) (names ++ k ∷ []) ≡ count_by (bytes_eq k) names + 1 =
      count_more x names k ∙ ap (λ t. count_by (bytes_eq x) names + cond t 1 0) other
      ∙ ap (λ z. count_by (bytes_eq z) names + 1) (sym same) in
      sym (ap (λ t. cond t (Some (count_by (bytes_eq x) (names ++ k ∷ []))) None) there ∙ ap Some count)
  go false e =
      let other : bytes_eq x k ≡ false = apart k x e in
      let there : is_in x (names ++ k ∷ []) ≡ is_in x names =
      is_in-append x names (k ∷ []) ∙ ap (λ t. is_in x names || (t || false)) other ∙ or_false (is_in x names) in
      let count : count_by (bytes_eq x) (names ++ k ∷ []) ≡ count_by (bytes_eq x) names =
      count_more x names k ∙ ap (λ t. count_by (bytes_eq x) names + cond t 1 0) other ∙ omega arith in
      sym ((λ i. cond (there i) (Some (count i)) None))

-- what is counted after one more of a list, where it is found by `found`
pub counted_more : (xs : List (Bor (List ℕ))) (i : ℕ) (d : Bor (List ℕ)) → i < length xs
    → (found : List ℕ → Option ℕ)
    → ((x : List ℕ) → found x ≡ count_in (texts (take i xs)) x) → (n : ℕ)
    → n ≡ unwrap_or (found (get_or xs i d).now) 0
    → (x : List ℕ)
    → cond (bytes_eq (get_or xs i d).now x) (Some (n + 1)) (found x) ≡ count_in (texts (take (i + 1) xs)) x
counted_more xs i d lt found counts n e x =
    let k = (get_or xs i d).now in
    let names = texts (take i xs) in
    let value : n ≡ count_by (bytes_eq k) names = e ∙ ap (λ o. unwrap_or o 0) (counts k) ∙ count_value names k in
    (λ j. cond (bytes_eq k x) (Some (value j + 1)) (counts x j)) ∙ one_more names k x
    ∙ ap (λ l. count_in l x) (sym (ap texts (take_at_read xs i d lt).1 ∙ texts-append (take i xs) (get_or xs i d ∷ [])))

-- a count is no more than how many names were gone over
pub counted_few : (xs : List (Bor (List ℕ))) (i : ℕ) (k : List ℕ) (found : List ℕ → Option ℕ)
    → ((x : List ℕ) → found x ≡ count_in (texts (take i xs)) x) → (n : ℕ) → n ≡ unwrap_or (found k) 0 → n ≤ i
counted_few xs i k found counts n e =
    let names = texts (take i xs) in
    let value : n ≡ count_by (bytes_eq k) names = e ∙ ap (λ o. unwrap_or o 0) (counts k) ∙ count_value names k in
    omega (arith, count_by-le-length (bytes_eq k) names, length-texts (take i xs), length-take i xs)
