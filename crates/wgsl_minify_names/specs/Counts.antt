-- How often names are in a list, and where they are first.
use Rattle.std.specs.Prelude.{◌≡◌, ℕ, ◌<◌, ◌⊎◌, Bool, not, if◌then◌else◌, List, Option, None, Some, bytes_eq, count_by, length, take_while}
use Rattle.std.specs.Borrow.{Bor}
use Rattle.std.specs.Map.{lookup}
use Rattle.wgsl_minify_names.specs.InScope.{is_in}

-- keys that are texts are compared by their bytes
abbrev pub same_text : Bor (List ℕ) → Bor (List ℕ) → Bool
same_text a b = bytes_eq a.now b.now

-- how often a name is in a list, if it is
abbrev pub count_in : List (List ℕ) → List ℕ → Option ℕ
count_in names x = if is_in x names then Some (count_by (bytes_eq x) names) else None

-- what entries have for a name
abbrev pub found_in : List (Bor (List ℕ) × ℕ) → List ℕ → Option ℕ
found_in entries x = lookup (λ (key : Bor (List ℕ)). bytes_eq x key.now) entries

-- how many names of a list are before the first one that is this
abbrev pub place_in : List (List ℕ) → List ℕ → ℕ
place_in names x = length (take_while (λ y. not (bytes_eq x y)) names)

-- one name is first before another
abbrev pub IsFirstBefore : List (List ℕ) → List ℕ → List ℕ → Type 0
IsFirstBefore names x y = place_in names x < place_in names y

-- a name is in a list more often than another, or as often and before it
abbrev pub ComesBefore : List (List ℕ) → List ℕ → List ℕ → Type 0
ComesBefore names x y = (count_by (bytes_eq y) names < count_by (bytes_eq x) names)
    ⊎ ((count_by (bytes_eq x) names ≡ count_by (bytes_eq y) names) × IsFirstBefore names x y)
