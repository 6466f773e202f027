-- Short names that are taken, one more at a time.
use Rattle.std.proofs.Common.{◌≡◌, ◌⊎◌, inl, inr, ℕ, ◌+◌, ◌-◌, ◌<◌, ◌≤◌, true, false, ◌||◌, List, [], ◌∷◌, ◌++◌, refl, sym, ap, subst, ◌∙◌, arith}
use Rattle.std.specs.Map.{values_of}
use Rattle.wgsl_minify_names.specs.InScope.{is_in}
use Rattle.wgsl_minify_names.specs.Short.{number_of, AreTaken, IsShort, IsWhole, NoneFree}
use Rattle.wgsl_minify_names.proofs.Identifiers.{identifier_whole}
use Rattle.wgsl_minify_names.proofs.Lists.{is_in-append}
use Rattle.wgsl_minify_names.proofs.Looked.{Pair, below_or_not}
use Rattle.wgsl_minify_names.proofs.Membership.{or_left, or_right, or_cases, either}
use Rattle.wgsl_minify_names.proofs.Shorter.{same_letters}
use Rattle.wgsl_minify_names.proofs.Tallies.{itself}

-- a name after an empty text
pub short_alone : (n : ℕ) (before x : List ℕ) → before ≡ []
    → (y : List ℕ) × (x ≡ before ++ y) × IsShort n y → IsShort n x
short_alone n before x none (y, e, short) =
    subst (IsShort n) (sym (e ∙ ap (λ l. l ++ y) none)) short

-- a name that is not free is taken
pub taken_more : (taken : List (List ℕ)) (low n : ℕ) (name : List ℕ) → AreTaken taken low n → IsShort (n + 1) name
    → (IsWhole name × (is_in name taken ≡ false) → ⊥) → AreTaken taken low (n + 1)
taken_more taken low n name below short used x letters identifier above within =
    by (below_or_not (number_of x) (n + 1)) where
      here : x ≡ name → (is_in name taken ≡ true) ⊎ (is_in name taken ≡ false) → is_in x taken ≡ true
      here same (inl e) = ap (λ y. is_in y taken) same ∙ e
      here same (inr e) = absurd (used (subst IsWhole same (identifier_whole x identifier), e))

      by : (number_of x < n + 1) ⊎ (n + 1 ≤ number_of x) → is_in x taken ≡ true
      by (inl lt) = below x letters identifier above (omega arith)
      by (inr ge) =
          let numbered = short.numbered in
          let e : number_of x ≡ number_of name = omega arith in
          here (same_letters x name letters short.letters e) (either (is_in name taken))

values_grown : (table : List Pair) (pair : Pair) → values_of (table ++ pair ∷ []) ≡ values_of table ++ pair.1 ∷ []
values_grown [] pair = refl
values_grown (p ∷ table) pair = ap (λ l. p.1 ∷ l) (values_grown table pair)

-- none is free up to a new name
pub none_free_more : (taken : List (List ℕ)) (table : List Pair) (pair : Pair) (last n : ℕ) → NoneFree taken table last
    → AreTaken taken last (n - 1) → IsShort n pair.1 → last < n → NoneFree taken (table ++ pair ∷ []) n
none_free_more taken table pair last n used skipped short later x letters identifier above within =
    by (below_or_not last (number_of x)) (below_or_not (number_of x) n) where
      grown : is_in x (values_of (table ++ pair ∷ [])) ≡ (is_in x (values_of table) || is_in x (pair.1 ∷ []))
      grown = ap (is_in x) (values_grown table pair) ∙ is_in-append x (values_of table) (pair.1 ∷ [])

      new : is_in x (values_of (table ++ pair ∷ [])) ≡ true
          → (is_in x taken || is_in x (values_of (table ++ pair ∷ []))) ≡ true
      new e = or_right (is_in x taken) (is_in x (values_of (table ++ pair ∷ []))) e

      old : is_in x taken ≡ true → (is_in x taken || is_in x (values_of (table ++ pair ∷ []))) ≡ true
      old e = or_left (is_in x taken) (is_in x (values_of (table ++ pair ∷ []))) e

      before : (is_in x taken ≡ true) ⊎ (is_in x (values_of table) ≡ true)
          → (is_in x taken || is_in x (values_of (table ++ pair ∷ []))) ≡ true
      before (inl e) = old e
      before (inr e) = new (grown ∙ or_left (is_in x (values_of table)) (is_in x (pair.1 ∷ [])) e)

      by : (last < number_of x) ⊎ (number_of x ≤ last) → (number_of x < n) ⊎ (n ≤ number_of x)
          → (is_in x taken || is_in x (values_of (table ++ pair ∷ []))) ≡ true
      by (inr le) other = before
          (or_cases (is_in x taken) (is_in x (values_of table)) (used x letters identifier above le))
      by (inl lt) (inl less) = old (skipped x letters identifier lt (omega arith))
      by (inl lt) (inr ge) =
          let numbered = short.numbered in
          let e : number_of x ≡ number_of pair.1 = omega arith in
          let same = same_letters x pair.1 letters short.letters e in
          new (grown ∙ or_right (is_in x (values_of table)) (is_in x (pair.1 ∷ []))
          (ap (λ y. is_in y (pair.1 ∷ [])) same ∙ or_left _ false (itself pair.1)))
