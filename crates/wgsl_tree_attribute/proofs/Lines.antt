-- Attributes before what they are on, where there are some.
use Rattle.std.proofs.Common.{ℕ, ◌≡◌, refl, ◌==◌, true≢false, false, List, [], ◌∷◌, ◌++◌, length, map}
use Rattle.wgsl_model.specs.Trees.Attributes.{Attribute}
use Rattle.wgsl_model.specs.Trees.Spanned.{Spanned}
use Rattle.wgsl_model.specs.Printed.Joining.{joined}
use Rattle.wgsl_model.specs.Printed.Attributes.{print_attribute, print_attributes}

-- the text of an attribute
abbrev pub attribute_text : Spanned Attribute → List ℕ
attribute_text a = print_attribute a.node

pub some_attributes : {X : Type 0} (view : X → Spanned Attribute) (end : List ℕ) (xs : List X)
    → (length xs == 0) ≡ false
    → joined (32 ∷ []) (map attribute_text (map view xs)) ++ end ≡ print_attributes end (map view xs)
some_attributes view end [] e = absurd (true≢false e)
some_attributes view end (x ∷ xs) e = refl
