-- What is reported of words.
use Rattle.std.proofs.Common.{ℕ, Bool, ◌||◌, ◌<◌, ◌≤◌, ◌≡◌, refl, sym, ap, arith, if◌then◌else◌, List, [], ◌∷◌, ◌++◌, length, map, take, codes}
use Rattle.std.proofs.lemmas.Bool.{le-leb}
use Rattle.std.proofs.lemmas.List.{length-map}
use Rattle.std.specs.List.{flat_map, join_by, list_any}
use Rattle.wgsl_model.specs.Printed.Joining.{joined}
use Rattle.wgsl_report.specs.Faults.{listed}

-- texts that items have, with separators
pub joined_items : {A : Type 0} (f : A → List ℕ) (sep : List ℕ) (xs : List A)
    → join_by f sep xs ≡ joined sep (map f xs)
joined_items f sep [] = refl
joined_items {A = A} f sep (x ∷ xs) = ap (λ t. f x ++ t) (further xs)
  where
    further : (ys : List A) → flat_map (λ y. sep ++ f y) ys ≡ flat_map (λ y. sep ++ y) (map f ys)
    further [] = refl
    further (y ∷ ys) = ap (λ t. (sep ++ f y) ++ t) (further ys)

-- whether the text of an item passes a test
pub any_items : {A : Type 0} (p : List ℕ → Bool) (f : A → List ℕ) (xs : List A)
    → list_any (λ x. p (f x)) xs ≡ list_any p (map f xs)
any_items p f [] = refl
any_items p f (x ∷ xs) = ap (λ b. p (f x) || b) (any_items p f xs)

-- what is reported of a few words
few_words : (words : List (List ℕ)) → 0 < length words → length words ≤ 4
    → codes ", expected " ++ joined (codes ", ") words ≡ listed words
few_words [] some fits = absurd (omega (arith, some))
few_words (w ∷ ws) some fits =
    let words = w ∷ ws in
    sym (ap (λ t. if t then codes ", expected " ++ joined (codes ", ") words
    else codes ", expected " ++ (joined (codes ", ") (take 4 words) ++ codes ", ..")) (le-leb (length words) 4 fits))

-- and those of items
pub few_items : {A : Type 0} (f : A → List ℕ) (items : List A) → 0 < length items → length items ≤ 4
    → codes ", expected " ++ joined (codes ", ") (map f items) ≡ listed (map f items)
few_items f items some fits = few_words (map f items) (omega (arith, length-map items f, some))
    (omega (arith, length-map items f, fits))
