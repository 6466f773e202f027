-- When new names serve for a module.
use Rattle.std.specs.Prelude.{◌≡◌, ◌↔◌, ◌⊎◌, ℕ, ◌<◌, ◌≤◌, ⊤, ◌&&◌, ◌||◌, Bool, true, not, nat_le, List, [], ◌∷◌, Contains, AllPairs, count_by, length, take_while, bytes_eq}
use Rattle.std.specs.List.{IsDistinct}
use Rattle.std.specs.Map.{keys_of, values_of}
use Rattle.wgsl_model_names.specs.Scopes.{Names, spelled, referents_of}
use Rattle.wgsl_model_names.specs.RenamedTokens.{FixesUnderscore, GivesIdentifiers, IsIdentifier}
use Rattle.wgsl_model_names.specs.Renaming.{IsInjectiveOn, FixesWords, FixesOutside}
use Rattle.wgsl_model_minify.specs.NewNames.{renaming_of}
use Rattle.wgsl_model_minify.specs.Renamed.{Which, GetsNewName, fixed_words}

-- how often a name is used or declared
abbrev pub count_of : Names → List ℕ → ℕ
count_of names x = count_by (bytes_eq x) (spelled names)

-- how many uses and declarations are before the first one of a name
abbrev pub place_of : Names → List ℕ → ℕ
place_of names x = length (take_while (λ y. not (bytes_eq x y)) (spelled names))

-- a name occurs more often than another, or as often and before it
abbrev pub ComesBefore : Names → List ℕ → List ℕ → Type 0
ComesBefore names x y = (count_of names y < count_of names x)
    ⊎ ((count_of names x ≡ count_of names y) × (place_of names x < place_of names y))

-- a letter from `a` to `z` or from `A` to `Z`
abbrev pub is_letter : ℕ → Bool
is_letter c = nat_le 97 c && nat_le c 122 || nat_le 65 c && nat_le c 90

-- each character of a text is a letter
abbrev pub AreLetters : List ℕ → Type 0
AreLetters [] = ⊤
AreLetters (c ∷ text) = (is_letter c ≡ true) × AreLetters text

-- why a name is not free: it is the new name of another, it is to be kept, it is a word, or it is a
-- name of the module that stays
pub data IsInUse (keep : List (List ℕ)) (names : Names) (table : List (List ℕ × List ℕ)) (x : List ℕ) : Type 0 where
  is_new : Contains (values_of table) x → IsInUse keep names table x
  is_kept : Contains keep x → IsInUse keep names table x
  is_word : Contains fixed_words x → IsInUse keep names table x
  stays : Contains (spelled names) x → ¬ (Contains (keys_of table) x) → IsInUse keep names table x

-- Names with their new names: what the laws of renaming ask of them; each name that gets a new one is
-- there once, and no other is; those that occur more often are before others, and their new names
-- are no longer; a new name is of letters, and is none to keep; and each identifier of letters that
-- is shorter than a new name is in use.
pub record AreNewNames (which : Which) (keep : List (List ℕ)) (names : Names)
    (table : List (List ℕ × List ℕ)) : Type 0 where
  pub injective : IsInjectiveOn (spelled names) (renaming_of table)
  pub fixes_words : FixesWords (renaming_of table)
  pub fixes_outside : FixesOutside (referents_of names) (renaming_of table)
  pub fixes_underscore : FixesUnderscore (renaming_of table)
  pub gives_identifiers : GivesIdentifiers (renaming_of table)
  pub keeps : (x : List ℕ) → Contains keep x → renaming_of table x ≡ x
  pub renames : (x : List ℕ) → Contains (keys_of table) x ↔ GetsNewName which keep names x
  pub once : IsDistinct bytes_eq (keys_of table)
  pub ordered : AllPairs (λ p q. ComesBefore names p.0 q.0) table
  pub letters : (p : List ℕ × List ℕ) → Contains table p → AreLetters p.1
  pub none_kept : (p : List ℕ × List ℕ) → Contains table p → ¬ (Contains keep p.1)
  pub shortest_first : (p q : List ℕ × List ℕ) → Contains table p → Contains table q
      → count_of names q.0 < count_of names p.0 → length p.1 ≤ length q.1
  pub none_free : (p : List ℕ × List ℕ) (x : List ℕ) → Contains table p → AreLetters x
      → IsIdentifier x → length x < length p.1 → IsInUse keep names table x
