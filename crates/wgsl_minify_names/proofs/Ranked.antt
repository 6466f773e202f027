-- Names with their counts, those with larger counts first.
use Rattle.std.proofs.Common.{◌≡◌, ◌⊎◌, inl, inr, ℕ, ◌<◌, ◌≤◌, Bool, true, false, cond, not, ◌&&◌, ◌||◌, List, [], ◌∷◌, length, get_or, is_lt, nat_cmp, Some, None, refl, sym, ap, subst, ◌∙◌, arith}
use Rattle.std.specs.Prelude.{bytes_eq, count_by, filter, unwrap_or, is_some}
use Rattle.std.specs.Borrow.{Bor}
use Rattle.std.specs.Cmp.{IsEquivalence}
use Rattle.std.specs.List.{AllByRecursion, AllPairs, IsDistinct}
use Rattle.std.specs.List.Sorted.{ties, IsStableBy}
use Rattle.std.specs.Map.{keys_of}
use Rattle.std.proofs.lemmas.Bool.Decides.{nat_tests}
use Rattle.std.proofs.lemmas.Cmp.{nat_list_eq_equiv}
use Rattle.std.proofs.lemmas.List.Kept.{AllPairs-filter}
use Rattle.std.proofs.Math.ListN.{get_or-map}
use Rattle.std.proofs.lemmas.Map.Entries.{length-keys_of, lookup_from_place}
use Rattle.std.proofs.lemmas.Option.{slice_get-get_or}
use Rattle.wgsl_minify_names.specs.Counts.{count_in, found_in, same_text, ComesBefore, IsFirstBefore}
use Rattle.wgsl_minify_names.specs.InScope.{is_in}
use Rattle.wgsl_minify_names.specs.View.{texts}
use Rattle.wgsl_minify_names.proofs.Lists.{length-texts}
use Rattle.wgsl_minify_names.proofs.Looked.{below_or_not}
use Rattle.wgsl_minify_names.proofs.Places.{pairs_from_filter}
use Rattle.wgsl_minify_names.proofs.Tallies.{count_value}

abbrev pub Entry : Type 0
Entry = Bor (List ℕ) × ℕ

-- ---- which names there are
found_if_there : (es : List Entry) (x : List ℕ) → is_in x (texts (keys_of es)) ≡ is_some (found_in es x)
found_if_there [] x = refl
found_if_there (e ∷ es) x = go (bytes_eq x e.0.now) (found_if_there es x) where
  go : (b : Bool) → is_in x (texts (keys_of es)) ≡ is_some (found_in es x)
      → (b || is_in x (texts (keys_of es))) ≡ is_some (cond b (Some e.1) (found_in es x))
  go true h = refl
  go false h = h

counted_if_there : (names : List (List ℕ)) (x : List ℕ) → is_some (count_in names x) ≡ is_in x names
counted_if_there names x = go (is_in x names) where
  go : (b : Bool) → is_some (cond b (Some (count_by (bytes_eq x) names)) None) ≡ b
  go true = refl
  go false = refl

pub same_names : (names : List (List ℕ)) (es : List Entry) → ((x : List ℕ) → found_in es x ≡ count_in names x)
    → (x : List ℕ) → is_in x (texts (keys_of es)) ≡ is_in x names
same_names names es counts x = found_if_there es x ∙ ap is_some (counts x) ∙ counted_if_there names x

-- ---- each once
none_same : (k : Bor (List ℕ)) (ks : List (Bor (List ℕ))) → AllByRecursion (λ j. same_text k j ≡ false) ks
    → AllByRecursion (λ x. bytes_eq k.now x ≡ false) (texts ks)
none_same k [] h = h
none_same k (j ∷ ks) h = (h.0, none_same k ks h.1)

pub texts_once : (ks : List (Bor (List ℕ))) → IsDistinct same_text ks → IsDistinct bytes_eq (texts ks)
unfolding IsDistinct
texts_once [] h = h
texts_once (k ∷ ks) h = (none_same k ks h.0, texts_once ks h.1)

-- ---- in order
same_text_equiv : IsEquivalence same_text
same_text_equiv = record {
  refl = λ x. nat_list_eq_equiv.refl x.now;
  symm = λ x y. nat_list_eq_equiv.symm x.now y.now;
  congr = λ x y z. nat_list_eq_equiv.congr x.now y.now z.now;
}

abbrev no_entry : List ℕ → Entry
no_entry d = (record { ref_ptr = (0, 0); now = d }, 0)

key_at : (es : List Entry) (n : ℕ) (d : Entry) → get_or (texts (keys_of es)) n d.0.now ≡ (get_or es n d).0.now
key_at es n d = get_or-map (λ (k : Bor (List ℕ)). k.now) (keys_of es) n d.0
    ∙ ap (λ (k : Bor (List ℕ)). k.now) (get_or-map (λ (e : Entry). e.0) es n d)

-- the count of an entry is that of its name
count_at : (names : List (List ℕ)) (es : List Entry) → ((x : List ℕ) → found_in es x ≡ count_in names x)
    → IsDistinct same_text (keys_of es) → (n : ℕ) (d : List ℕ) → n < length es
    → (get_or es n (no_entry d)).1 ≡ count_by (bytes_eq (get_or (texts (keys_of es)) n d)) names
count_at names es counts once n d lt =
    let e = get_or es n (no_entry d) in
    let there : found_in es e.0.now ≡ Some e.1 =
    lookup_from_place same_text_equiv es n e.0 e.1 once (slice_get-get_or es n (no_entry d) lt) in
    ap (λ o. unwrap_or o 0) (sym there ∙ counts e.0.now) ∙ count_value names e.0.now
    ∙ ap (λ x. count_by (bytes_eq x) names) (sym (key_at es n (no_entry d)))

-- an entry has a larger count than another
abbrev pub counts_more : Entry → Entry → Bool
counts_more e f = is_lt (nat_cmp f.1 e.1)

same_ties : (m n : ℕ) → m ≡ n → (not (is_lt (nat_cmp n m)) && not (is_lt (nat_cmp m n))) ≡ true
same_ties m n e = grind (arith, nat_tests)

-- entries in the order in which their names are first met
abbrev IsPlaced : List (List ℕ) → Entry → Entry → Type 0
IsPlaced names e f = IsFirstBefore names e.0.now f.0.now

entries_placed : (names : List (List ℕ)) (es : List Entry) → AllPairs (IsFirstBefore names) (texts (keys_of es))
    → AllPairs (IsPlaced names) es
entries_placed names es placed i j d lt within =
    let before = placed i j d.0.now lt (omega (arith, length-texts (keys_of es), length-keys_of es)) in
    subst (λ x. IsFirstBefore names x (get_or es j d).0.now) (key_at es i d)
    (subst (IsFirstBefore names (get_or (texts (keys_of es)) i d.0.now)) (key_at es j d) before)

-- after a stable sort the names that occur more often are first, and of equal ones the first
pub ordered_names : (names : List (List ℕ)) (old es : List Entry) → ((x : List ℕ) → found_in es x ≡ count_in names x)
    → IsDistinct same_text (keys_of es)
    → ((i j : ℕ) (d : Entry) → i ≤ j → j < length es → (get_or es j d).1 ≤ (get_or es i d).1)
    → AllPairs (IsFirstBefore names) (texts (keys_of old)) → IsStableBy counts_more old es
    → AllPairs (ComesBefore names) (texts (keys_of es))
ordered_names names old es counts once falls placed stable i j d lt within =
    by (below_or_not f.1 e.1) where
      inside : j < length es
      inside = omega (arith, length-texts (keys_of es), length-keys_of es)

      e : Entry
      e = get_or es i (no_entry d)

      f : Entry
      f = get_or es j (no_entry d)

      first : e.1 ≡ count_by (bytes_eq (get_or (texts (keys_of es)) i d)) names
      first = count_at names es counts once i d (omega (arith, inside))

      second : f.1 ≡ count_by (bytes_eq (get_or (texts (keys_of es)) j d)) names
      second = count_at names es counts once j d inside

      before : e.1 ≡ f.1 → IsPlaced names e f
      before same =
          let tied : AllPairs (IsPlaced names) (filter (ties counts_more e) es) =
          subst (AllPairs (IsPlaced names)) (sym (stable e))
          (AllPairs-filter (IsPlaced names) (ties counts_more e) old (entries_placed names old placed)) in
          pairs_from_filter (IsPlaced names) (ties counts_more e) es tied i j (no_entry d) lt inside
          (same_ties e.1 e.1 refl) (same_ties e.1 f.1 same)

      by : (f.1 < e.1) ⊎ (e.1 ≤ f.1)
          → ComesBefore names (get_or (texts (keys_of es)) i d) (get_or (texts (keys_of es)) j d)
      by (inl less) = inl (omega (arith, first, second))
      by (inr le) =
          let fall = falls i j (no_entry d) (omega arith) inside in
          let same : e.1 ≡ f.1 = omega arith in
          inr (
            sym first ∙ same ∙ second,
            subst (λ x. IsFirstBefore names x (get_or (texts (keys_of es)) j d)) (sym (key_at es i (no_entry d)))
                (subst (IsFirstBefore names e.0.now) (sym (key_at es j (no_entry d))) (before same)),
          )
