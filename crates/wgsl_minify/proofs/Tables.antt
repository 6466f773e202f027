-- A name that is in no table before it.
use Rattle.std.proofs.Common.{◌≡◌, ℕ, false, refl, List, [], ◌∷◌, ◌++◌, None, bytes_eq}
use Rattle.std.specs.List.{AllByRecursion, IsDistinct}
use Rattle.std.specs.Map.{keys_of}
use Rattle.wgsl_model.specs.Tokens.Words.{look_up}

-- what holds of all names holds of one
at_name : (P : List ℕ → Type 0) (before : List (List ℕ × List ℕ)) (name new : List ℕ) (after : List (List ℕ × List ℕ))
    → AllByRecursion P (keys_of (before ++ ((name, new) ∷ after))) → P name
at_name P [] name new after h = h.0
at_name P (e ∷ before) name new after h = at_name P before name new after h.1

-- if no name is there twice, none is before itself
pub absent : (before : List (List ℕ × List ℕ)) (name new : List ℕ) (after : List (List ℕ × List ℕ))
    → IsDistinct bytes_eq (keys_of (before ++ ((name, new) ∷ after))) → look_up before name ≡ None
unfolding IsDistinct
absent [] name new after h = refl
absent (e ∷ before) name new after h =
    let other = at_name (λ key. bytes_eq e.0 key ≡ false) before name new after h.0 in
    rw other (absent before name new after h.1)
