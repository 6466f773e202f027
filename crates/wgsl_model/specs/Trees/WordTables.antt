-- Tables of words, each with its value.
use Rattle.std.specs.Prelude.{ℕ, List, [], ◌∷◌, map}

-- words, each with its value
abbrev pub WordTable : Type 0 → Type 0
WordTable A = List (List ℕ × A)

-- the words of values, each with what is made of its value
abbrev pub words_of : {A B : Type 0} → (A → List ℕ) → (A → B) → List A → WordTable B
words_of text made values = map (λ value. (text value, made value)) values

-- values, each after its word
abbrev pub with_words : {A : Type 0} → (A → List ℕ) → List A → WordTable A
with_words text values = words_of text (λ value. value) values
