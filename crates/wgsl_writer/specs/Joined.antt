-- The output of items with a separator between each two.
use Rattle.std.specs.Prelude.{ℕ, List, [], ◌∷◌, Option, Some}
use Rattle.std.specs.Fmt.{◌++?◌}

-- the output of each item, with the separator before it
abbrev pub further_output : {X : Type 0} → (X → Option (List ℕ)) → List ℕ → List X → Option (List ℕ)
further_output output separator [] = Some []
further_output output separator (x ∷ xs) = Some separator ++? (output x ++? further_output output separator xs)

-- the same with no separator before the first
abbrev pub joined_output : {X : Type 0} → (X → Option (List ℕ)) → List ℕ → List X → Option (List ℕ)
joined_output output separator [] = Some []
joined_output output separator (x ∷ xs) = output x ++? further_output output separator xs
