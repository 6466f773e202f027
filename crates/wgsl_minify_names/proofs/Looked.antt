-- The renaming by a table whose new names are fresh and rise.
use Rattle.std.proofs.Common.{◌≡◌, ◌⊎◌, inl, inr, ℕ, zero, suc, ◌<◌, ◌≤◌, Bool, true, false, cond, ◌||◌, List, [], ◌∷◌, length, get_or, Option, Some, None, refl, sym, ap, subst, ◌∙◌, arith}
use Rattle.std.specs.Prelude.{bytes_eq, All}
use Rattle.std.specs.List.{AllPairs}
use Rattle.std.specs.Map.{keys_of}
use Rattle.std.proofs.lemmas.Bool.{true≢false}
use Rattle.std.proofs.lemmas.Slice.Eq.{bytes_eq-Decides}
use Rattle.wgsl_model.specs.Tokens.Words.{look_up}
use Rattle.wgsl_model_names.specs.RenamedTokens.{GivesIdentifiers}
use Rattle.wgsl_model_minify.specs.NewNames.{new_or, renaming_of}
use Rattle.wgsl_minify_names.specs.InScope.{is_in}
use Rattle.wgsl_minify_names.specs.Short.{number_of, IsFresh}
use Rattle.wgsl_minify_names.proofs.Tallies.{apart}

abbrev pub Pair : Type 0
Pair = List ℕ × List ℕ

abbrev pub no_pair : Pair
no_pair = ([], [])

-- ---- looking names up
pub look_up_none : (table : List Pair) (x : List ℕ) → is_in x (keys_of table) ≡ false → look_up table x ≡ None
look_up_none [] x h = refl
look_up_none (p ∷ table) x h = go (bytes_eq x p.0) refl (look_up_none table x) where
  go : (b : Bool) → bytes_eq x p.0 ≡ b → (is_in x (keys_of table) ≡ false → look_up table x ≡ None)
      → look_up (p ∷ table) x ≡ None
  go true e rest = absurd (true≢false (sym (ap (λ b. b || is_in x (keys_of table)) e) ∙ h))
  go false e rest = ap (λ b. cond b (Some p.1) (look_up table x)) (apart x p.0 e)
      ∙ rest (sym (ap (λ b. b || is_in x (keys_of table)) e) ∙ h)

-- where a name is in a table, with its new name
abbrev pub HasPlace : List Pair → List ℕ → List ℕ → Type 0
HasPlace table x new = (k : ℕ) × (k < length table) × (get_or table k no_pair ≡ (x, new))

place_later : (p : Pair) (table : List Pair) (x new : List ℕ) → HasPlace table x new → HasPlace (p ∷ table) x new
place_later p table x new (k, lt, e) = (suc k, omega arith, e)

pub place_of : (table : List Pair) (x new : List ℕ) → look_up table x ≡ Some new → HasPlace table x new
place_of [] x new h = absurd (cc)
place_of (p ∷ table) x new h = go (bytes_eq p.0 x) refl h (place_of table x new) where
  go : (b : Bool) → bytes_eq p.0 x ≡ b → cond b (Some p.1) (look_up table x) ≡ Some new
      → (look_up table x ≡ Some new → HasPlace table x new) → HasPlace (p ∷ table) x new
  go true e f rest =
      let same : p.1 ≡ new = cc in
      let name : p.0 ≡ x = (bytes_eq-Decides p.0 x).0 e in
      (0, omega arith, (λ i. (name i, same i)))
  go false e f rest = place_later p table x new (rest f)

-- a name stays, or is in the table with its new name
pub data Outcome (table : List Pair) (x : List ℕ) : Type 0 where
  stays : renaming_of table x ≡ x → is_in x (keys_of table) ≡ false → Outcome table x
  changes : HasPlace table x (renaming_of table x) → Outcome table x

absent_key : (table : List Pair) (x : List ℕ) → look_up table x ≡ None → is_in x (keys_of table) ≡ false
absent_key [] x h = refl
absent_key (p ∷ table) x h = go (bytes_eq p.0 x) refl h (absent_key table x) where
  go : (b : Bool) → bytes_eq p.0 x ≡ b → cond b (Some p.1) (look_up table x) ≡ None
      → (look_up table x ≡ None → is_in x (keys_of table) ≡ false) → (bytes_eq x p.0 || is_in x (keys_of table)) ≡ false
  go true e f rest = absurd (cc)
  go false e f rest = ap (λ b. b || is_in x (keys_of table)) (apart p.0 x e) ∙ rest f

pub outcome : (table : List Pair) (x : List ℕ) → Outcome table x
outcome table x = go (look_up table x) refl where
  go : (o : Option (List ℕ)) → look_up table x ≡ o → Outcome table x
  go None e = stays (ap (new_or x) e) (absent_key table x e)
  go (Some new) e = changes (place_of table x (renaming_of table x) (e ∙ ap Some (sym (ap (new_or x) e))))

pub keeps_absent : (table : List Pair) (x : List ℕ) → is_in x (keys_of table) ≡ false → renaming_of table x ≡ x
keeps_absent table x h = ap (new_or x) (look_up_none table x h)

-- ---- fresh names
pub new_fresh : (fixed : List (List ℕ)) (table : List Pair) → All (λ (p : Pair). IsFresh fixed p.1) table
    → (x new : List ℕ) → HasPlace table x new → IsFresh fixed new
new_fresh fixed table fresh x new (k, lt, e) = subst (λ (p : Pair). IsFresh fixed p.1) e (fresh k no_pair lt)

pub identifiers : (fixed : List (List ℕ)) (table : List Pair) → All (λ (p : Pair). IsFresh fixed p.1) table
    → GivesIdentifiers (renaming_of table)
identifiers fixed table fresh x = elim (outcome table x) [
  | stays e n ↦ inl e
  | changes place ↦ inr (new_fresh fixed table fresh x (renaming_of table x) place).identifier
]

-- ---- numbers
pub below_or_not : (i j : ℕ) → (i < j) ⊎ (j ≤ i)
below_or_not i zero = inr (omega arith)
below_or_not zero (suc j) = inl (omega arith)
below_or_not (suc i) (suc j) = elim (below_or_not i j) [ inl h ↦ inl (omega arith) | inr h ↦ inr (omega arith) ]

equal_unless : (i j : ℕ) → (i < j → ⊥) → (j < i → ⊥) → i ≡ j
equal_unless i j up down = by (below_or_not i j) (below_or_not j i) where
  by : (i < j) ⊎ (j ≤ i) → (j < i) ⊎ (i ≤ j) → i ≡ j
  by (inl lt) other = absurd (up lt)
  by (inr le) (inl lt) = absurd (down lt)
  by (inr le) (inr ge) = omega arith

not_below : (m : ℕ) → m < m → ⊥
not_below m h = omega arith

-- no two names have one new name, where these rise
pub one_name : (table : List Pair) → AllPairs (λ (p q : Pair). number_of p.1 < number_of q.1) table
    → (x y new : List ℕ) → HasPlace table x new → HasPlace table y new → x ≡ y
one_name table rising x y new (i, within, e) (j, inside, f) =
    let up : i < j → ⊥ = λ lt. not_below (number_of new)
    (subst (λ (p : Pair). number_of new < number_of p.1) f
    (subst (λ (p : Pair). number_of p.1 < number_of (get_or table j no_pair).1) e (rising i j no_pair lt inside))) in
    let down : j < i → ⊥ = λ lt. not_below (number_of new)
    (subst (λ (p : Pair). number_of new < number_of p.1) e
    (subst (λ (p : Pair). number_of p.1 < number_of (get_or table i no_pair).1) f (rising j i no_pair lt within))) in
    let same : i ≡ j = equal_unless i j up down in
    ap (λ (p : Pair). p.0) (sym e ∙ ap (λ k. get_or table k no_pair) same ∙ f)
