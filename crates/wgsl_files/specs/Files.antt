-- What a store of files holds, and what a call does to it.
use Rattle.std.specs.Prelude.{◌≡◌, ◌≢◌, ℕ, Bool, true, false, List, Option, Some, None}

-- whether contracts know what a store holds, and at each path the bytes of the file
pub record Files : Type 0 where
  pub known : Bool
  pub at : List ℕ → Option (List ℕ)

-- of a real disk contracts know nothing
abbrev pub unknown : Files
unknown = record { known = false; at = λ _. None }

-- the file at the path has these bytes
abbrev pub Holds : Files → List ℕ → List ℕ → Type 0
Holds files path bytes = files.known ≡ true → files.at path ≡ Some bytes

-- there is no file at the path
abbrev pub HasNone : Files → List ℕ → Type 0
HasNone files path = files.known ≡ true → files.at path ≡ None

-- this path leads to the same file as another: where it is known what a store holds, it is that
-- path
abbrev pub IsAbsolute : Files → List ℕ → List ℕ → Type 0
IsAbsolute files path found = files.known ≡ true → found ≡ path

-- nothing has changed
pub record Same (old new : Files) : Type 0 where
  pub known : new.known ≡ old.known
  pub each : old.known ≡ true → (path : List ℕ) → new.at path ≡ old.at path

-- the file at the path has these bytes now, and nothing else has changed
pub record Replaced (old new : Files) (path bytes : List ℕ) : Type 0 where
  pub known : new.known ≡ old.known
  pub here : old.known ≡ true → new.at path ≡ Some bytes
  pub others : old.known ≡ true → (other : List ℕ) → other ≢ path → new.at other ≡ old.at other
