-- Lines of two texts that are matched.
use Rattle.std.specs.Prelude.{◌≡◌, ℕ, List, [], ◌∷◌, min}

-- both texts go on with the same line
abbrev pub GoOn : List (List ℕ) → List (List ℕ) → Type 0
GoOn [] new = ⊥
GoOn (line ∷ old) [] = ⊥
GoOn (line ∷ old) (other ∷ new) = line ≡ other

-- a number of lines is 32, or that of all
abbrev pub IsBlock : ℕ → ℕ → Type 0
IsBlock count all = count ≡ min all 32
