-- The paths that are listed for a path.
use Rattle.std.proofs.Common.{◌≡◌, ◌≢◌, refl, sym, ap, ◌∙◌, subst, inl, inr, ℕ, Bool, true, false, ◌||◌, ◌&&◌, cond, if◌then◌else◌, List, [], ◌∷◌, ◌++◌, map, Option, Some, None, Result, Ok, Err, nat_eq, codes, String, string_bytes, bytes_eq}
use Rattle.std.proofs.lemmas.Bool.{false≢true}
use Rattle.std.proofs.lemmas.List.Elements.{All-same, All-map, All-push, All-cons, All-nil, All-weaker, filter_passes}
use Rattle.std.proofs.lemmas.List.Folds.{Any-from_list_any, list_any-from_Any}
use Rattle.std.proofs.lemmas.List.Kept.{IsStrictlySortedBy-filter}
use Rattle.std.proofs.lemmas.Map.Made.{is_member-Decides}
use Rattle.std.proofs.lemmas.Map.Text.{is_eq-slice_cmp}
use Rattle.std.proofs.lemmas.Map.Views.{any-filter_same}
use Rattle.std.proofs.lemmas.Slice.Eq.{bytes_eq-Decides}
use Rattle.std.specs.BTreeMap.{BTreeMap, is_at, keys, IsOrdered}
use Rattle.std.specs.Cmp.Lexicographic.{slice_cmp}
use Rattle.std.specs.List.{All, AllByRecursion, Contains, filter, list_any, ends_with}
use Rattle.std.specs.List.Sorted.{IsStrictlySortedBy}
use Rattle.std.specs.Map.{lookup, keys_of}
use Rattle.std.specs.Option.{is_some, option_map}
use Rattle.std.specs.Ordering.{nat_cmp}
use Rattle.std.specs.String.{string_cmp}
use Rattle.std.specs.declared.alloc.Global.{Global}
use Rattle.std.specs.declared.vec.Vec.{Vec}
use Rattle.std.specs.Result.{IfOk, IfErr}
use Rattle.wgsl_files.specs.declared.store.StoreError.{StoreError}
use Rattle.wgsl_files.specs.declared.store.StoreError.TheVariants as store
use Rattle.wgsl_files.specs.Files.{Files, unknown}
use Rattle.wgsl_files.specs.Folders.{is_below, is_wgsl_below, is_listed_below, folder_of, IsNamedOrBelow, IsFolder, IsListing}
use Rattle.wgsl_files.specs.Memory.{files_of}
use Rattle.wgsl_files.specs.Reading.{IsUnknown}

-- what holds of each element holds after a push, and after one that failed
pub all_pushed : {X : Type 0} (P : X → Type 0) (xs ys : List X) (x : X) (done : Bool)
    → ys ≡ (if done then xs ++ x ∷ [] else xs)
    → All P xs → P x → All P ys
all_pushed P xs ys x true pushed all one = All-same P ys (xs ++ x ∷ []) pushed (All-push P xs x all one)
all_pushed P xs ys x false pushed all one = All-same P ys xs pushed all

-- the texts of keys in order are in order
all_texts : {K : Type 0} (P : List ℕ → Type 0) (text : K → List ℕ) (ks : List K)
    → AllByRecursion (λ k. P (text k)) ks → AllByRecursion P (map text ks)
all_texts P text [] all = tt
all_texts P text (k ∷ ks) all = (all.0, all_texts P text ks all.1)

pub ordered_texts : {K : Type 0} (text : K → List ℕ) (ks : List K)
    → IsStrictlySortedBy (λ x y. slice_cmp nat_cmp (text x) (text y)) ks
    → IsStrictlySortedBy (slice_cmp nat_cmp) (map text ks)
unfolding IsStrictlySortedBy
ordered_texts text [] ordered = tt
ordered_texts text (k ∷ ks) ordered = (all_texts _ text ks ordered.0, ordered_texts text ks ordered.1)

-- a path alone
alone_each : (named : List ℕ) (paths : List (List ℕ)) → paths ≡ named ∷ [] → All (IsNamedOrBelow named) paths
alone_each named paths is = subst (All (IsNamedOrBelow named)) (sym is)
    (All-cons (IsNamedOrBelow named) named [] (inl refl) (All-nil (IsNamedOrBelow named)))

alone_ordered : (named : List ℕ) (paths : List (List ℕ)) → paths ≡ named ∷ []
    → IsStrictlySortedBy (slice_cmp nat_cmp) paths
unfolding IsStrictlySortedBy
alone_ordered named paths is = subst (IsStrictlySortedBy (slice_cmp nat_cmp)) (sym is) (tt, tt)

-- a test of texts, over those of keys
pub any_texts : (folder : List ℕ) (ks : List (String Global))
    → list_any (λ k. is_below folder (string_bytes k)) ks ≡ list_any (is_below folder) (map string_bytes ks)
any_texts folder [] = refl
any_texts folder (k ∷ ks) = ap (λ b. is_below folder (string_bytes k) || b) (any_texts folder ks)

-- a file is found at a path exactly if that is one of the paths
file_or : {X Y : Type 0} (f : X → Y) (here : Bool) (x : X) (rest : Option X)
    → is_some (option_map f (cond here (Some x) rest)) ≡ (here || is_some (option_map f rest))
file_or f true x rest = refl
file_or f false x rest = refl

file_among : (path : List ℕ) (es : List (String Global × Vec ℕ Global))
    → is_some (option_map (λ bytes. bytes.items) (lookup (is_at (λ k. slice_cmp nat_cmp path (string_bytes k))) es))
    ≡ list_any (bytes_eq path) (map string_bytes (keys_of es))
file_among path [] = refl
file_among path (e ∷ es) =
    file_or (λ bytes. bytes.items) (is_at (λ k. slice_cmp nat_cmp path (string_bytes k)) e.0) e.1
    (lookup (is_at (λ k. slice_cmp nat_cmp path (string_bytes k))) es)
    ∙ ap (λ b. b || is_some (option_map (λ bytes. bytes.items) (lookup (is_at (λ k.
    slice_cmp nat_cmp path (string_bytes k))) es))) (is_eq-slice_cmp path (string_bytes e.0))
    ∙ ap (λ b. bytes_eq path (string_bytes e.0) || b) (file_among path es)

some_is : {X : Type 0} (o : Option X) → o ≢ None → is_some o ≡ true
some_is None some = absurd (some refl)
some_is (Some x) some = refl

is_some_some : {X : Type 0} (o : Option X) → is_some o ≡ true → o ≢ None
is_some_some None some = absurd (false≢true some)
is_some_some (Some x) some = λ none. absurd (false≢true (ap is_some (sym none)))

both_true : (a b : Bool) → (a && b) ≡ true → (a ≡ true) × (b ≡ true)
both_true true b both = (refl, both)
both_true false b both = absurd (false≢true both)

module _ (files : BTreeMap (String Global) (Vec ℕ Global)) (named : List ℕ) where
  abbrev texts : List (List ℕ)
  texts = map string_bytes (keys files)

  -- there is a file at each of the paths
  has_file : (path : List ℕ) → Contains texts path → (files_of files).at path ≢ None
  has_file path among = is_some_some ((files_of files).at path)
      (file_among path files.entries ∙ (is_member-Decides bytes_eq-Decides texts path).1 among)

  -- and a path at which there is a file is one of them
  among_paths : (path : List ℕ) → (files_of files).at path ≢ None → list_any (bytes_eq path) texts ≡ true
  among_paths path some = sym (file_among path files.entries) ∙ some_is ((files_of files).at path) some

  -- there is a file below the path exactly if a test finds one
  is_folder : list_any (is_below (folder_of named)) texts ≡ true → IsFolder (files_of files) named
  is_folder found =
      let one = Any-from_list_any (is_below (folder_of named)) texts found in
      (one.1, has_file one.1 (one.0, one.2, one.3), one.4)

  found_below : IsFolder (files_of files) named → list_any (is_below (folder_of named)) texts ≡ true
  found_below folder =
      let at = (is_member-Decides bytes_eq-Decides texts folder.0).0 (among_paths folder.0 folder.1) in
      list_any-from_Any (is_below (folder_of named)) texts (at.0, folder.0, at.1, at.2, folder.2)

  -- what is listed for a folder
  pub folder_listing : (paths : List (List ℕ)) → list_any (is_below (folder_of named)) texts ≡ true
      → paths ≡ filter (is_wgsl_below (folder_of named)) texts → IsOrdered string_cmp files
      → IsListing (files_of files) named paths
  folder_listing paths found is ordered =
      let test = is_wgsl_below (folder_of named) in
      let same = λ (path : List ℕ). ap (list_any (bytes_eq path)) is
      ∙ any-filter_same (bytes_eq path) test (test path) (λ k e. ap test (sym ((bytes_eq-Decides path k).0 e))) texts in
      let decides = λ (path : List ℕ). is_member-Decides bytes_eq-Decides paths path in
      record {
        each = subst (All (IsNamedOrBelow named)) (sym is)
            (All-weaker (λ path. test path ≡ true) (IsNamedOrBelow named)
            (λ path passes. inr (ap (λ b. b || (is_below (folder_of named) path && ends_with nat_eq
            path (codes "/"))) passes)) (filter test texts) (filter_passes test texts));
        ordered = subst (IsStrictlySortedBy (slice_cmp nat_cmp)) (sym is)
            (IsStrictlySortedBy-filter (slice_cmp nat_cmp) test texts
            (ordered_texts string_bytes (keys files) ordered));
        file = λ known other. absurd (other (is_folder found));
        folder = λ known folder path. (
          λ among.
              let both = both_true (test path) (list_any (bytes_eq path) texts)
              (sym (same path) ∙ (decides path).1 among) in
              (has_file path ((is_member-Decides bytes_eq-Decides texts path).0 both.1), both.0),
          λ wgsl. (decides path).0 (same path ∙ ap (λ b. b && list_any (bytes_eq path) texts) wgsl.1
              ∙ among_paths path wgsl.0),
        );
      }

  -- what is listed for another path
  pub file_listing : (paths : List (List ℕ)) → list_any (is_below (folder_of named)) texts ≡ false → paths ≡ named ∷ []
      → IsListing (files_of files) named paths
  file_listing paths none is = record {
    each = alone_each named paths is;
    ordered = alone_ordered named paths is;
    file = λ known other. is;
    folder = λ known folder. absurd (false≢true (sym none ∙ found_below folder));
  }

-- what is listed of files of which nothing is known
pub unknown_file : (files : Files) (named : List ℕ) (paths : List (List ℕ)) → files.known ≡ false
    → paths ≡ named ∷ [] → IsListing files named paths
unknown_file files named paths none is = record {
  each = alone_each named paths is;
  ordered = alone_ordered named paths is;
  file = λ known. absurd (false≢true (sym none ∙ known));
  folder = λ known. absurd (false≢true (sym none ∙ known));
}

pub unknown_below : (named : List ℕ) (found : Result (Vec (String Global) Global) StoreError)
    → IfOk found (λ paths. All (λ path. is_listed_below (folder_of named) (string_bytes path) ≡ true) paths.items)
    → IfOk found (λ paths. IsStrictlySortedBy (slice_cmp nat_cmp) (map string_bytes paths.items))
    → IfOk found (λ paths. IsListing unknown named (map string_bytes paths.items))
unknown_below named (Ok paths) each ordered = record {
  each = All-map (IsNamedOrBelow named) string_bytes paths.items
      (All-weaker (λ path. is_listed_below (folder_of named) (string_bytes path) ≡ true)
      (λ path. IsNamedOrBelow named (string_bytes path)) (λ path below. inr below) paths.items each);
  ordered = ordered;
  file = λ known. absurd (false≢true known);
  folder = λ known. absurd (false≢true known);
}
unknown_below named (Err e) each ordered = tt

-- any error is one of files of which nothing is known
pub unknown_error : {T : Type 0} (r : Result T StoreError) → IfErr r (IsUnknown unknown)
unknown_error (Ok x) = tt
unknown_error (Err store.OutOfMemory) = tt
unknown_error (Err (store.Failed e)) = refl
