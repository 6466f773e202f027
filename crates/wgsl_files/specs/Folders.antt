-- The files of a folder.
use Rattle.std.specs.Prelude.{◌≡◌, ◌≢◌, ◌↔◌, ◌⊎◌, ◌||◌, ◌&&◌, ◌-◌, ℕ, Bool, true, false, not, List, [], ◌∷◌, None, length, take, drop, nat_eq, codes, if◌then◌else◌}
use Rattle.std.specs.Ordering.{nat_cmp}
use Rattle.std.specs.Cmp.Lexicographic.{slice_cmp}
use Rattle.std.specs.List.{All, Contains, starts_with, ends_with}
use Rattle.std.specs.List.Sorted.{IsStrictlySortedBy}
use Rattle.wgsl_files.specs.Files.{Files}

-- the path of a folder without a `/` at its end
abbrev pub folder_of : List ℕ → List ℕ
folder_of path = if ends_with nat_eq path (codes "/") then take (length path - 1) path else path

-- a name begins with `.`: one follows a `/`
abbrev pub is_hidden : List ℕ → Bool
is_hidden [] = false
is_hidden (c ∷ cs) = starts_with nat_eq (c ∷ cs) (codes "/.") || is_hidden cs

-- a path leads into a folder: it is that of the folder, a `/` and more
abbrev pub is_below : List ℕ → List ℕ → Bool
is_below folder path = starts_with nat_eq path folder && starts_with nat_eq (drop (length folder) path) (codes "/")

-- a path is that of a WGSL file of a folder: it ends with `.wgsl`, and no name in the folder begins
-- with `.`
abbrev pub is_wgsl_below : List ℕ → List ℕ → Bool
is_wgsl_below folder path =
    is_below folder path && (ends_with nat_eq path (codes ".wgsl") && not (is_hidden (drop (length folder) path)))

-- a path is listed for a folder: it is that of a WGSL file, or ends with `/`, as that of a folder
-- that cannot be read
abbrev pub is_listed_below : List ℕ → List ℕ → Bool
is_listed_below folder path = is_wgsl_below folder path || (is_below folder path && ends_with nat_eq path (codes "/"))

-- a path is the named one, or is listed for it as for a folder
abbrev pub IsNamedOrBelow : List ℕ → List ℕ → Type 0
IsNamedOrBelow named path = (path ≡ named) ⊎ (is_listed_below (folder_of named) path ≡ true)

-- there is a file below a path
abbrev pub IsFolder : Files → List ℕ → Type 0
IsFolder files path = (other : List ℕ) × (files.at other ≢ None) × (is_below (folder_of path) other ≡ true)

-- there is a WGSL file of the named folder at a path
abbrev pub IsWgslOf : Files → List ℕ → List ℕ → Type 0
IsWgslOf files named path = (files.at path ≢ None) × (is_wgsl_below (folder_of named) path ≡ true)

-- what is formatted for a path that is named: the files of a folder, or that path itself
pub record IsListing (files : Files) (named : List ℕ) (paths : List (List ℕ)) : Type 0 where
  pub each : All (IsNamedOrBelow named) paths
  pub ordered : IsStrictlySortedBy (slice_cmp nat_cmp) paths
  pub file : files.known ≡ true → (IsFolder files named → ⊥) → paths ≡ named ∷ []
  pub folder : files.known ≡ true → IsFolder files named
      → (path : List ℕ) → Contains paths path ↔ IsWgslOf files named path
