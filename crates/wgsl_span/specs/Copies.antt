-- Copies of options and of lists, item by item.
use Rattle.std.specs.Prelude.{List, [], ◌∷◌, Option, Some, None}

-- both are absent, or one copies the other
abbrev pub OptionCopies : {T : Type 0} → (T → T → Type 0) → Option T → Option T → Type 0
OptionCopies copies None None = Unit {0}
OptionCopies copies (Some x) (Some y) = copies x y
OptionCopies copies None (Some y) = ⊥
OptionCopies copies (Some x) None = ⊥

-- as many items, each a copy of the one at its place
abbrev pub ListCopies : {T : Type 0} → (T → T → Type 0) → List T → List T → Type 0
ListCopies copies [] [] = Unit {0}
ListCopies copies (x ∷ xs) (y ∷ ys) = copies x y × ListCopies copies xs ys
ListCopies copies [] (y ∷ ys) = ⊥
ListCopies copies (x ∷ xs) [] = ⊥
