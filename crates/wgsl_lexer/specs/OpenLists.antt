-- Where the template lists end that a text is in.
use Rattle.std.specs.Prelude.{◌≡◌, ℕ, Bool, true, false, List, ◌∷◌}

-- whether the innermost list ends at a place, and the ends that there are then
abbrev pub LeavesEnds : ℕ → List ℕ → Bool → List ℕ → Type 0
LeavesEnds place ends true now = ends ≡ place ∷ now
LeavesEnds place ends false now = (now ≡ ends) × ((outer : List ℕ) → ends ≡ place ∷ outer → ⊥)
