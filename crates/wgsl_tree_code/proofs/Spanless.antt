-- The codes of lists and of optional parts without their spans.
use Rattle.std.specs.Prelude.{List, [], ◌∷◌, map, Option, None, Some, ◌≡◌}
use Rattle.std.specs.Option.{option_map}
use Rattle.std.proofs.Common.{refl, ap}
use Rattle.wgsl_tree_code.specs.Code.{Code, list, Codes, no_codes, code_before, codes_of, list_of, optional, pair_of}
use Rattle.wgsl_tree_code.specs.Same.{spanless, spanless_items}

-- parts in which there are spans
module _ {X : Type 0} (code : X → Code) (bare : X → X) (is : (x : X) → spanless (code x) ≡ code (bare x)) where
  items_spanless : (xs : List X) → spanless_items (codes_of code xs) ≡ codes_of code (map bare xs)
  items_spanless [] = refl
  items_spanless (x ∷ xs) = λ i. code_before (is x i) (items_spanless xs i)

  pub list_spanless : (xs : List X) → spanless (list_of code xs) ≡ list_of code (map bare xs)
  list_spanless xs = ap list (items_spanless xs)

  pub optional_spanless : (o : Option X) → spanless (optional code o) ≡ optional code (option_map bare o)
  optional_spanless None = refl
  optional_spanless (Some x) = is x

-- parts in which there are none
module _ {X : Type 0} (code : X → Code) (is : (x : X) → spanless (code x) ≡ code x) where
  items_alike : (xs : List X) → spanless_items (codes_of code xs) ≡ codes_of code xs
  items_alike [] = refl
  items_alike (x ∷ xs) = λ i. code_before (is x i) (items_alike xs i)

  pub list_alike : (xs : List X) → spanless (list_of code xs) ≡ list_of code xs
  list_alike xs = ap list (items_alike xs)

  pub optional_alike : (o : Option X) → spanless (optional code o) ≡ optional code o
  optional_alike None = refl
  optional_alike (Some x) = is x
