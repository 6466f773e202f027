-- Names, origins and paths are equal where they are seen as one.
use Rattle.std.proofs.Common.{◌≡◌, ◌∙◌, ℕ, List, [], ◌∷◌, ◌++◌, Bool, true, ◌&&◌, ◌↔◌, Decides, refl, sym, ap, map, length, take, drop, string_bytes, String, Global}
use Rattle.std.specs.Cmp.{IsEquivalence, both_ways}
use Rattle.std.specs.Cmp.Lexicographic.{pointwise}
use Rattle.std.specs.Str.{bytes_eq}
use Rattle.std.specs.String.{string_eq}
use Rattle.std.specs.List.{starts_with, flat_map}
use Rattle.std.specs.Hash as fed
use Rattle.std.proofs.lemmas.Bool.Decides.{Decides-eqb}
use Rattle.std.proofs.lemmas.List.{take-map, length-map}
use Rattle.std.proofs.lemmas.Slice.Eq.{bytes_eq-Decides, slice_eq-Decides, starts_is}
use Rattle.std.proofs.lemmas.Bool.{and_parts, and_from}
use Rattle.wgsl_model.specs.Trees.Paths as plain
use Rattle.wgsl_tree_path.specs.declared.path.PathOrigin.{PathOrigin}
use Rattle.wgsl_tree_path.specs.declared.path.PathOrigin.TheVariants.{Absolute, Relative, Package}
use Rattle.wgsl_tree_path.specs.declared.path.ModulePath.{ModulePath}
use Rattle.wgsl_tree_path.specs.View.{origin_view, path_view}
use Rattle.wgsl_tree_path.specs.Equality.{equal_origins, equal_paths, hashed_origin, hashed_path}

-- names are compared by their bytes

names_test : (xs ys : List (String Global))
    → pointwise string_eq xs ys ≡ pointwise bytes_eq (map string_bytes xs) (map string_bytes ys)
names_test [] [] = refl
names_test [] (y ∷ ys) = refl
names_test (x ∷ xs) [] = refl
names_test (x ∷ xs) (y ∷ ys) = ap (λ same. string_eq x y && same) (names_test xs ys)

pub names_agree : (xs ys : List (String Global))
    → Decides (pointwise string_eq xs ys) (map string_bytes xs ≡ map string_bytes ys)
names_agree xs ys = slice_eq-Decides bytes_eq-Decides (map string_bytes xs) (map string_bytes ys)
    (pointwise string_eq xs ys) (names_test xs ys)

-- a list of names starts with another
abbrev pub NamesStart : List (List ℕ) → List (List ℕ) → Type 0
NamesStart names start = (rest : List (List ℕ)) × (names ≡ start ++ rest)

pub names_start : (xs start : List (String Global)) (same : Bool) → same ≡ starts_with string_eq xs start
    → (same ≡ true) ↔ NamesStart (map string_bytes xs) (map string_bytes start)
names_start xs start same e =
    let names = map string_bytes xs in
    let front = map string_bytes start in
    let test : take (length front) names ≡ map string_bytes (take (length start) xs) =
    ap (λ n. take n names) (length-map start string_bytes) ∙ take-map string_bytes (length start) xs in
    let law = starts_is bytes_eq-Decides names front same
    (e ∙ names_test start (take (length start) xs) ∙ ap (pointwise bytes_eq front) (sym test)) in
    (λ yes. (drop (length front) names, law.0 yes), λ starts. law.1 starts.0 starts.1)

pub origins_agree : (a b : PathOrigin) → (equal_origins a b ≡ true) ↔ (origin_view a ≡ origin_view b)
origins_agree Absolute Absolute = (λ _. refl, λ _. refl)
origins_agree (Relative m) (Relative n) = (λ e. ap plain.relative ((Decides-eqb m n).0 e), λ e. (Decides-eqb m n).1 cc)
origins_agree (Package s) (Package t) = (
  λ e. ap plain.of_package ((bytes_eq-Decides (string_bytes s) (string_bytes t)).0 e),
  λ e. (bytes_eq-Decides (string_bytes s) (string_bytes t)).1 cc,
)
origins_agree a b = (λ e. absurd (cc), λ e. absurd (cc))

pub paths_agree : (a b : ModulePath) → (equal_paths a b ≡ true) ↔ (path_view a ≡ path_view b)
paths_agree a b =
    let origins = origins_agree a.origin b.origin in
    let names = names_agree a.components.items b.components.items in (
      λ e.
          let halves = and_parts (equal_origins a.origin b.origin)
          (pointwise string_eq a.components.items b.components.items) e in
          λ i. record { origin = origins.0 halves.0 i; components = names.0 halves.1 i },
      λ same. and_from _ _ (origins.1 (ap (λ (p : plain.ModulePath). p.origin) same))
          (names.1 (ap (λ (p : plain.ModulePath). p.components) same)),
    )

-- a test that says whether two values are seen as one is an equivalence
module _ {A View : Type 0} (test : A → A → Bool) (view : A → View)
    (agree : (a b : A) → (test a b ≡ true) ↔ (view a ≡ view b)) where
  pub equivalence : IsEquivalence test
  equivalence = record {
    refl = λ a. (agree a a).1 refl;
    symm = λ a b. both_ways (test a b) (test b a) (λ e. (agree b a).1 (sym ((agree a b).0 e)))
        (λ e. (agree a b).1 (sym ((agree b a).0 e)));
    congr = λ a b c e.
        let same = (agree a b).0 e in
        both_ways (test a c) (test b c) (λ f. (agree b c).1 (sym same ∙ (agree a c).0 f))
        (λ f. (agree a c).1 (same ∙ (agree b c).0 f));
  }

-- what hashing writes of what is equal

names_hash : (xs : List (String Global))
    → fed.slice (λ x. fed.str (string_bytes x)) xs ≡ fed.slice fed.str (map string_bytes xs)
names_hash xs = λ i. fed.usize (sym (length-map xs string_bytes) i) ++ each xs i where
  each : (xs : List (String Global))
      → flat_map (λ x. fed.str (string_bytes x)) xs ≡ flat_map fed.str (map string_bytes xs)
  each [] = refl
  each (x ∷ xs) = ap (λ writes. fed.str (string_bytes x) ++ writes) (each xs)

pub origins_hash : (a b : PathOrigin) → equal_origins a b ≡ true → hashed_origin a ≡ hashed_origin b
origins_hash Absolute Absolute e = refl
origins_hash (Relative m) (Relative n) e = ap (λ levels. hashed_origin (Relative levels)) ((Decides-eqb m n).0 e)
origins_hash (Package s) (Package t) e = ap (λ name. fed.usize 2 ++ fed.str name)
    ((bytes_eq-Decides (string_bytes s) (string_bytes t)).0 e)
origins_hash a b e = absurd (cc)

pub paths_hash : (a b : ModulePath) → equal_paths a b ≡ true → hashed_path a ≡ hashed_path b
paths_hash a b e =
    let halves = and_parts (equal_origins a.origin b.origin)
    (pointwise string_eq a.components.items b.components.items) e in
    let names = names_hash a.components.items ∙ ap (fed.slice fed.str)
    ((names_agree a.components.items b.components.items).0 halves.1) ∙ sym (names_hash b.components.items) in
    λ i. origins_hash a.origin b.origin halves.0 i ++ names i
