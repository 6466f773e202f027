-- Looking words up, and the words that this library reserves (WGSL, "Reserved Words").
use Rattle.std.specs.Prelude.{ℕ, Bool, true, false, if◌then◌else◌, List, [], ◌∷◌, Option, Some, None, bytes_eq}
pub mod ReservedTable
pub use ReservedTable.{reserved_words}

-- what a table has for a word
abbrev pub look_up : {A : Type 0} → List (List ℕ × A) → List ℕ → Option A
look_up [] word = None
look_up (entry ∷ entries) word = if bytes_eq entry.0 word then Some entry.1 else look_up entries word

-- a word is in a list
abbrev pub is_word_among : List (List ℕ) → List ℕ → Bool
is_word_among [] word = false
is_word_among (entry ∷ entries) word = if bytes_eq entry word then true else is_word_among entries word
