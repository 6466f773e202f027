-- What is chosen serves as new names.
use Rattle.std.proofs.Common.{◌≡◌, ◌⊎◌, inl, inr, ℕ, zero, suc, ◌<◌, ◌≤◌, Bool, true, false, if◌then◌else◌, not, List, [], ◌∷◌, ◌++◌, length, get_or, refl, sym, ap, subst, ◌∙◌, arith}
use Rattle.std.specs.Prelude.{bytes_eq, filter, All, Contains}
use Rattle.std.specs.List.{AllPairs, IsDistinct}
use Rattle.std.specs.Map.{keys_of, values_of}
use Rattle.std.proofs.Math.ListN.{get_or-map}
use Rattle.std.proofs.lemmas.Bool.{true≢false}
use Rattle.std.proofs.lemmas.List.Elements.{Contains-get_or}
use Rattle.std.proofs.lemmas.Map.Entries.{length-keys_of}
use Rattle.wgsl_model.specs.Trees.NamedValues.{AddressSpace, AddressSpace.function, AddressSpace.private, AddressSpace.workgroup, AddressSpace.uniform, AddressSpace.storage, address_space_text, AccessMode, AccessMode.read, AccessMode.write, AccessMode.read_write, access_mode_text}
use Rattle.wgsl_model_names.specs.Scopes.{Names, IsOutside, referents_of, spelled}
use Rattle.wgsl_model_names.specs.RenamedTokens.{IsIdentifier}
use Rattle.wgsl_model_names.specs.Renaming.{IsInjectiveOn}
use Rattle.wgsl_model_minify.specs.NewNames.{renaming_of}
use Rattle.wgsl_model_minify.specs.Renamed.{no_names, local_names, all_names, declared_names, module_names, IsDeclaredFor, fixed_words, GetsNewName}
use Rattle.wgsl_model_minify.specs.Chosen.{count_of, ComesBefore, AreLetters, IsInUse, is_new, is_kept, is_word, stays as stays_there, AreNewNames}
use Rattle.wgsl_minify_names.specs.Counts.{ComesBefore as Before}
use Rattle.wgsl_minify_names.specs.InScope.{nothing_declared, is_in}
use Rattle.wgsl_minify_names.specs.Short.{number_of, IsFresh, NoneFree}
use Rattle.wgsl_minify_names.proofs.Lists.{is_in-append}
use Rattle.wgsl_minify_names.proofs.Membership.{or_left, or_right, or_cases, either, clash, false_unless, at_none, is_in_from, contains_from, is_in-filter, not_in-filter, count-filter}
use Rattle.wgsl_minify_names.proofs.Outside.{found_if_outside, outside_if_found, found_outer, declared_spelled, found_spelled, Known_from, from_before, from_declaration, from_outside, known_from}
use Rattle.wgsl_minify_names.proofs.Passed.{all_found}
use Rattle.wgsl_minify_names.proofs.Places.{first_in_filter}
use Rattle.wgsl_minify_names.proofs.Shorter.{no_shorter, shorter_below, identifier_numbered}
use Rattle.wgsl_minify_names.proofs.Looked.{Pair, HasPlace, Outcome, stays, changes, outcome, keeps_absent, new_fresh, identifiers, one_name, below_or_not}

-- the names that get new ones, as often as they are there
abbrev pub others_of : Names → List (List ℕ) → List (List ℕ)
others_of n fixed = filter (λ x. not (is_in x fixed)) (spelled n)

-- what is known of a table: the names that are fixed, the order of the others, and their new names
pub record IsChosen (locals : Bool) (keep : List (List ℕ)) (n : Names) (fixed order : List (List ℕ))
    (table : List Pair) : Type 0 where
  pub stay : (x : List ℕ) → is_in x fixed ≡ is_in x (all_found locals n ++ (keep ++ fixed_words))
  pub same : (x : List ℕ) → is_in x order ≡ is_in x (others_of n fixed)
  pub once : IsDistinct bytes_eq order
  pub ordered : AllPairs (Before (others_of n fixed)) order
  pub names : keys_of table ≡ order
  pub fresh : All (λ (p : Pair). IsFresh fixed p.1) table
  pub letters : All (λ (p : Pair). AreLetters p.1) table
  pub rising : AllPairs (λ (p q : Pair). number_of p.1 < number_of q.1) table
  pub full : All (λ (p : Pair). NoneFree fixed table (number_of p.1)) table

-- ---- words
space_word : (space : AddressSpace) → is_in (address_space_text space) fixed_words ≡ true
space_word function = refl
space_word private = refl
space_word workgroup = refl
space_word uniform = refl
space_word storage = refl

mode_word : (mode : AccessMode) → is_in (access_mode_text mode) fixed_words ≡ true
mode_word read = refl
mode_word write = refl
mode_word read_write = refl

-- ---- what is found
found_either : (locals : Bool) (n : Names) (x : List ℕ) → is_in x (all_found false n) ≡ true
    → is_in x (all_found locals n) ≡ true
found_either false n x h = h
found_either true n x h = found_outer n nothing_declared x
    ∙ or_left (is_in x (all_found false n)) (is_in x (module_names n)) h

one_of : (locals : Bool) (n : Names) (x : List ℕ) → is_in x (declared_names n) ≡ true
    → (is_in x (all_found locals n) ≡ true → ⊥) → IsDeclaredFor (if locals then local_names else all_names) n x
one_of false n x d none = contains_from x (declared_names n) d
one_of true n x d none = (
  contains_from x (declared_names n) d,
  λ c. none (found_outer n nothing_declared x
      ∙ or_right (is_in x (all_found false n)) (is_in x (module_names n)) (is_in_from x (module_names n) c)),
)

is_declared : (locals : Bool) (n : Names) (x : List ℕ) → IsDeclaredFor (if locals then local_names else all_names) n x
    → is_in x (declared_names n) ≡ true
is_declared false n x h = is_in_from x (declared_names n) h
is_declared true n x h = is_in_from x (declared_names n) h.0

not_found : (locals : Bool) (n : Names) (x : List ℕ) → IsDeclaredFor (if locals then local_names else all_names) n x
    → (IsOutside (referents_of n) x → ⊥) → is_in x (all_found locals n) ≡ true → ⊥
not_found false n x h inside found = inside (outside_if_found n x found)
not_found true n x h inside found =
    elim (or_cases (is_in x (all_found false n)) (is_in x (module_names n))
    (sym (found_outer n nothing_declared x) ∙ found)) [
      | inl e ↦ inside (outside_if_found n x e)
      | inr e ↦ h.1 (contains_from x (module_names n) e)
    ]

-- ---- numbers
any_default : (table : List Pair) (k : ℕ) (p q : Pair) → k < length table → get_or table k p ≡ get_or table k q
any_default [] k p q h = absurd (omega arith)
any_default (t ∷ table) zero p q h = refl
any_default (t ∷ table) (suc k) p q h = any_default table k p q (omega arith)

module _ (locals : Bool) (keep : List (List ℕ)) (n : Names) (fixed order : List (List ℕ)) (table : List Pair)
    (h : IsChosen locals keep n fixed order table) where
  -- a name gets a new one
  abbrev test : List ℕ → Bool
  test x = not (is_in x fixed)

  -- ---- what is fixed
  found_fixed : (x : List ℕ) → is_in x (all_found locals n) ≡ true → is_in x fixed ≡ true
  found_fixed x e = h.stay x ∙ is_in-append x (all_found locals n) (keep ++ fixed_words)
      ∙ or_left (is_in x (all_found locals n)) (is_in x (keep ++ fixed_words)) e

  kept_fixed : (x : List ℕ) → is_in x keep ≡ true → is_in x fixed ≡ true
  kept_fixed x e = h.stay x ∙ is_in-append x (all_found locals n) (keep ++ fixed_words)
      ∙ or_right (is_in x (all_found locals n)) (is_in x (keep ++ fixed_words))
      (is_in-append x keep fixed_words ∙ or_left (is_in x keep) (is_in x fixed_words) e)

  word_fixed : (x : List ℕ) → is_in x fixed_words ≡ true → is_in x fixed ≡ true
  word_fixed x e = h.stay x ∙ is_in-append x (all_found locals n) (keep ++ fixed_words)
      ∙ or_right (is_in x (all_found locals n)) (is_in x (keep ++ fixed_words))
      (is_in-append x keep fixed_words ∙ or_right (is_in x keep) (is_in x fixed_words) e)

  outside_fixed : (x : List ℕ) → IsOutside (referents_of n) x → is_in x fixed ≡ true
  outside_fixed x c = found_fixed x (found_either locals n x (found_if_outside n x c))

  -- ---- what is renamed
  key_of_order : (x : List ℕ) → is_in x (keys_of table) ≡ is_in x (others_of n fixed)
  key_of_order x = ap (is_in x) h.names ∙ h.same x

  fixed_absent : (x : List ℕ) → is_in x fixed ≡ true → is_in x (keys_of table) ≡ false
  fixed_absent x e = key_of_order x ∙ not_in-filter test x (spelled n) (ap not e)

  free_there : (x : List ℕ) → is_in x fixed ≡ false → is_in x (keys_of table) ≡ is_in x (spelled n)
  free_there x e = key_of_order x ∙ is_in-filter test x (spelled n) (ap not e)

  key_free : (x : List ℕ) → is_in x (keys_of table) ≡ true → is_in x fixed ≡ false
  key_free x e = false_unless (is_in x fixed) (λ t. clash (is_in x (keys_of table)) e (fixed_absent x t))

  fixes : (x : List ℕ) → is_in x fixed ≡ true → renaming_of table x ≡ x
  fixes x e = keeps_absent table x (fixed_absent x e)

  -- a name of the module that stays is fixed
  stays_fixed : (x : List ℕ) → is_in x (spelled n) ≡ true → is_in x (keys_of table) ≡ false → is_in x fixed ≡ true
  stays_fixed x there absent = elim (either (is_in x fixed)) [
    | inl e ↦ e
    | inr e ↦ clash (is_in x (keys_of table)) (free_there x e ∙ there) absent
  ]

  -- ---- no two names get one name
  one_stays : (x y : List ℕ) → is_in x (spelled n) ≡ true → is_in x (keys_of table) ≡ false → renaming_of table x ≡ x
      → HasPlace table y (renaming_of table y) → renaming_of table x ≡ renaming_of table y → x ≡ y
  one_stays x y there absent same place e =
      clash (is_in x fixed) (stays_fixed x there absent) (ap (λ z. is_in z fixed) (sym same ∙ e)
      ∙ (new_fresh fixed table h.fresh y (renaming_of table y) place).free)

  injective : IsInjectiveOn (spelled n) (renaming_of table)
  injective x y cx cy e = by (outcome table x) (outcome table y) where
    by : Outcome table x → Outcome table y → x ≡ y
    by (stays f a) (stays g b) = sym f ∙ e ∙ g
    by (stays f a) (changes q) = one_stays x y (is_in_from x (spelled n) cx) a f q e
    by (changes p) (stays g b) = sym (one_stays y x (is_in_from y (spelled n) cy) b g p (sym e))
    by (changes p) (changes q) = one_name table h.rising x y (renaming_of table y) (subst (HasPlace table x) e p) q

  -- ---- which names get new ones
  chosen_name : (x : List ℕ) → Contains (keys_of table) x
      → GetsNewName (if locals then local_names else all_names) keep n x
  chosen_name x c =
      let there = is_in_from x (keys_of table) c in
      let free = key_free x there in
      record {
        declared = one_of locals n x
            (by_declaration (known_from n nothing_declared x (sym (free_there x free) ∙ there)) free)
            (λ found. clash (is_in x fixed) (found_fixed x found) free);
        not_outside = λ o. clash (is_in x fixed) (outside_fixed x o) free;
        not_kept = λ k. clash (is_in x fixed) (kept_fixed x (is_in_from x keep k)) free;
        no_word = λ w. clash (is_in x fixed) (word_fixed x (is_in_from x fixed_words w)) free;
      }
    where
      by_declaration : Known_from n nothing_declared x → is_in x fixed ≡ false → is_in x (declared_names n) ≡ true
      by_declaration (from_before e) free = absurd (true≢false (sym e))
      by_declaration (from_declaration e) free = e
      by_declaration (from_outside e) free = clash (is_in x fixed) (found_fixed x (found_either locals n x e)) free

  named_key : (x : List ℕ) → GetsNewName (if locals then local_names else all_names) keep n x
      → Contains (keys_of table) x
  named_key x g =
      let free : is_in x fixed ≡ false = false_unless (is_in x fixed) (λ e.
      not_any (or_cases (is_in x (all_found locals n)) (is_in x (keep ++ fixed_words))
      (sym (h.stay x ∙ is_in-append x (all_found locals n) (keep ++ fixed_words)) ∙ e))) in
      contains_from x (keys_of table)
      (free_there x free ∙ declared_spelled n x (is_declared locals n x g.declared))
    where
      not_any : (is_in x (all_found locals n) ≡ true) ⊎ (is_in x (keep ++ fixed_words) ≡ true) → ⊥
      not_any (inl e) = not_found locals n x g.declared g.not_outside e
      not_any (inr e) =
          elim (or_cases (is_in x keep) (is_in x fixed_words) (sym (is_in-append x keep fixed_words) ∙ e)) [
            | inl k ↦ g.not_kept (contains_from x keep k)
            | inr w ↦ g.no_word (contains_from x fixed_words w)
          ]

  -- ---- the shortest first
  key_at : (k : ℕ) (d : Pair) → get_or (keys_of table) k d.0 ≡ (get_or table k d).0
  key_at k d = get_or-map (λ (p : Pair). p.0) table k d

  test_at : (k : ℕ) (d : Pair) → k < length table → test (get_or table k d).0 ≡ true
  test_at k d lt =
      let key = (get_or table k d).0 in
      let there : Contains (keys_of table) key = subst (Contains (keys_of table)) (key_at k d)
      (Contains-get_or (keys_of table) k d.0 (omega (arith, length-keys_of table))) in
      ap not (key_free key (is_in_from key (keys_of table) there))

  -- a name that comes before another among the others comes before it in the whole module
  before_in_all : (x y : List ℕ) → test x ≡ true → test y ≡ true → Before (others_of n fixed) x y → ComesBefore n x y
  before_in_all x y tx ty (inl less) =
      let first = count-filter test x (spelled n) tx in
      let second = count-filter test y (spelled n) ty in
      inl (omega arith)
  before_in_all x y tx ty (inr (same, before)) =
      inr (
        sym (count-filter test x (spelled n) tx) ∙ same ∙ count-filter test y (spelled n) ty,
        first_in_filter test x y (spelled n) tx ty before,
      )

  ordered : AllPairs (λ (p q : Pair). ComesBefore n p.0 q.0) table
  ordered i j d lt inside =
      let named : AllPairs (Before (others_of n fixed)) (keys_of table) =
      subst (AllPairs (Before (others_of n fixed))) (sym h.names) h.ordered in
      let before : Before (others_of n fixed) (get_or (keys_of table) i d.0) (get_or (keys_of table) j d.0) =
      named i j d.0 lt (omega (arith, length-keys_of table)) in
      before_in_all (get_or table i d).0 (get_or table j d).0 (test_at i d (omega arith)) (test_at j d inside)
      (subst (λ x. Before (others_of n fixed) x (get_or table j d).0) (key_at i d)
      (subst (Before (others_of n fixed) (get_or (keys_of table) i d.0)) (key_at j d) before))

  falls : (i j : ℕ) (d : Pair) → i < j → j < length table
      → count_of n (get_or table j d).0 ≤ count_of n (get_or table i d).0
  falls i j d lt inside = elim (ordered i j d lt inside) [ inl less ↦ omega arith | inr (same, before) ↦ omega arith ]

  shortest : (p q : Pair) → Contains table p → Contains table q → count_of n q.0 < count_of n p.0
      → length p.1 ≤ length q.1
  shortest p q (i, within, e) (j, inside, f) less =
      let there : get_or table j p ≡ q = any_default table j p q inside ∙ f in
      elim (below_or_not i j) [
        | inl lt ↦ first lt there
        | inr le ↦ absurd (later le there)
      ] where
        first : i < j → get_or table j p ≡ q → length p.1 ≤ length q.1
        first lt there =
            let up = h.rising i j p lt inside in
            let shorter = no_shorter (get_or table i p).1 (get_or table j p).1
            (h.letters i p within) (h.letters j p inside) (omega arith) in
            subst (λ (s : Pair). length s.1 ≤ length q.1) e
            (subst (λ (s : Pair). length (get_or table i p).1 ≤ length s.1) there shorter)

        counts : j < i → get_or table j p ≡ q → count_of n p.0 ≤ count_of n q.0
        counts lt there = subst (λ (s : Pair). count_of n s.0 ≤ count_of n q.0) e
            (subst (λ (s : Pair). count_of n (get_or table i p).0 ≤ count_of n s.0) there (falls j i p lt within))

        later : j ≤ i → get_or table j p ≡ q → ⊥
        later le there = elim (below_or_not j i) [
          | inl lt ↦ let c = counts lt there in omega arith
          | inr ge ↦ let same : j ≡ i = omega arith in
              let one : p ≡ q = sym e ∙ ap (λ k. get_or table k p) (sym same) ∙ there in
              let c = ap (λ (s : Pair). count_of n s.0) one in omega arith
        ]

  -- ---- new names
  letters_of : (p : Pair) → Contains table p → AreLetters p.1
  letters_of p (k, within, e) = subst (λ (q : Pair). AreLetters q.1) e (h.letters k p within)

  fresh_of : (p : Pair) → Contains table p → IsFresh fixed p.1
  fresh_of p (k, within, e) = subst (λ (q : Pair). IsFresh fixed q.1) e (h.fresh k p within)

  -- ---- no shorter name is free
  fixed_used : (x : List ℕ) → is_in x fixed ≡ true → IsInUse keep n table x
  fixed_used x e = by (or_cases (is_in x (all_found locals n)) (is_in x (keep ++ fixed_words))
      (sym (h.stay x ∙ is_in-append x (all_found locals n) (keep ++ fixed_words)) ∙ e)) where
        by : (is_in x (all_found locals n) ≡ true) ⊎ (is_in x (keep ++ fixed_words) ≡ true) → IsInUse keep n table x
        by (inl f) = stays_there (contains_from x (spelled n) (found_spelled locals n nothing_declared x f))
            (λ c. clash (is_in x (keys_of table)) (is_in_from x (keys_of table) c) (fixed_absent x e))
        by (inr f) = elim (or_cases (is_in x keep) (is_in x fixed_words) (sym (is_in-append x keep fixed_words) ∙ f)) [
          | inl k ↦ is_kept (contains_from x keep k)
          | inr w ↦ is_word (contains_from x fixed_words w)
        ]

  none_free : (p : Pair) (x : List ℕ) → Contains table p → AreLetters x → IsIdentifier x → length x < length p.1
      → IsInUse keep n table x
  none_free p x (k, within, e) letters identifier shorter =
      let known = letters_of p (k, within, e) in
      let full : NoneFree fixed table (number_of p.1) =
      subst (λ (q : Pair). NoneFree fixed table (number_of q.1)) e (h.full k p within) in
      let below = shorter_below x p.1 letters known shorter in
      elim (or_cases (is_in x fixed) (is_in x (values_of table))
      (full x letters identifier (identifier_numbered x identifier) (omega arith))) [
        | inl f ↦ fixed_used x f
        | inr v ↦ is_new (contains_from x (values_of table) v)
      ]

  pub serves : AreNewNames (if locals then local_names else all_names) keep n table
  serves = record {
    injective = injective;
    fixes_words = record {
      spaces = λ space. fixes (address_space_text space) (word_fixed (address_space_text space) (space_word space));
      modes = λ mode. fixes (access_mode_text mode) (word_fixed (access_mode_text mode) (mode_word mode));
    };
    fixes_outside = λ x c. fixes x (outside_fixed x c);
    fixes_underscore = fixes (95 ∷ []) (word_fixed (95 ∷ []) refl);
    gives_identifiers = identifiers fixed table h.fresh;
    keeps = λ x c. fixes x (kept_fixed x (is_in_from x keep c));
    renames = λ x. (chosen_name x, named_key x);
    once = subst (IsDistinct bytes_eq) (sym h.names) h.once;
    ordered = ordered;
    letters = letters_of;
    none_kept = λ p c kept. clash (is_in p.1 fixed) (kept_fixed p.1 (is_in_from p.1 keep kept)) (fresh_of p c).free;
    shortest_first = shortest;
    none_free = none_free;
  }

-- nothing is renamed
pub nothing_renamed : (keep : List (List ℕ)) (n : Names) → AreNewNames no_names keep n []
unfolding IsDistinct
nothing_renamed keep n = record {
  injective = λ x y cx cy e. e;
  fixes_words = record { spaces = λ space. refl; modes = λ mode. refl };
  fixes_outside = λ x c. refl;
  fixes_underscore = refl;
  gives_identifiers = λ x. inl refl;
  keeps = λ x c. refl;
  renames = λ x. ((λ c. absurd (at_none x c)), (λ g. absurd g.declared));
  once = tt;
  ordered = λ i j d lt within. absurd (omega arith);
  letters = λ p c. absurd (at_none p c);
  none_kept = λ p c. absurd (at_none p c);
  shortest_first = λ p q cp cq less. absurd (at_none p cp);
  none_free = λ p x cp letters identifier less. absurd (at_none p cp);
}
