-- Names of letters, which have numbers, and fresh ones.
use Rattle.std.specs.Prelude.{◌≡◌, ℕ, ◌+◌, ◌*◌, ◌-◌, ◌<◌, ◌≤◌, ◌||◌, nat_lt, true, false, if◌then◌else◌, List, [], ◌∷◌, chars}
use Rattle.std.specs.Map.{values_of}
use Rattle.wgsl_model.specs.Tokens.ClassTable.{Ident}
use Rattle.wgsl_model.specs.Tokens.Kind.{named}
use Rattle.wgsl_model.specs.Tokens.Raw.{none_left, raw, token}
use Rattle.wgsl_model_names.specs.RenamedTokens.{IsIdentifier}
use Rattle.wgsl_model_minify.specs.Chosen.{AreLetters}
use Rattle.wgsl_minify_names.specs.InScope.{is_in}

-- the only token of a text is the identifier that it is
abbrev pub IsWhole : List ℕ → Type 0
IsWhole text = (from after : List ℕ) × (raw (chars text) ≡ token (named Ident text) from after)
    × (raw after ≡ none_left)

-- the digit of a letter: the small letters come before the capital ones
abbrev pub digit_of : ℕ → ℕ
digit_of c = if nat_lt c 97 then c - 39 else c - 97

-- the number of a name of letters: those of one letter have the numbers from 1 on, and those of two
-- letters follow them
abbrev pub number_of : List ℕ → ℕ
number_of [] = 0
number_of (c ∷ name) = 52 * number_of name + digit_of c + 1

-- a name of letters has a number
pub record IsShort (number : ℕ) (name : List ℕ) : Type 0 where
  pub letters : AreLetters name
  pub numbered : number_of name ≡ number

-- a name is an identifier that is not in a list
pub record IsFresh (taken : List (List ℕ)) (name : List ℕ) : Type 0 where
  pub identifier : IsIdentifier name
  pub free : is_in name taken ≡ false

-- identifiers of letters whose numbers are above one and up to another are in a list
abbrev pub AreTaken : List (List ℕ) → ℕ → ℕ → Type 0
AreTaken taken low high = (x : List ℕ) → AreLetters x → IsIdentifier x → low < number_of x
    → number_of x ≤ high → is_in x taken ≡ true

-- identifiers of letters whose numbers are up to one are in a list or are new names
abbrev pub NoneFree : List (List ℕ) → List (List ℕ × List ℕ) → ℕ → Type 0
NoneFree taken table high = (x : List ℕ) → AreLetters x → IsIdentifier x → 0 < number_of x
    → number_of x ≤ high → (is_in x taken || is_in x (values_of table)) ≡ true
