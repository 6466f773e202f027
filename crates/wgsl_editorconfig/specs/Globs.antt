-- The globs that are known to match each WGSL file.
use Rattle.std.specs.Prelude.{ℕ, ◌+◌, ◌==◌, Bool, false, ◌&&◌, ◌||◌, List, [], ◌∷◌, Option, Some, None, nat_eq, length, drop, codes, if◌then◌else◌}
use Rattle.std.specs.List.{starts_with, list_any, slice_split, position_or_len, before_first}
use Rattle.std.specs.Str.{bytes_eq}

-- a glob without braces
abbrev pub is_name : List ℕ → Bool
is_name glob = list_any (bytes_eq glob) (codes "*" ∷ codes "**" ∷ codes "*.wgsl" ∷ codes "**.wgsl" ∷ [])

abbrev pub is_comma : ℕ → Bool
is_comma c = c == 44

abbrev pub is_closing : ℕ → Bool
is_closing c = c == 125

-- what is in the braces of a text that is a list: it begins with `{`, and its first `}` ends it
abbrev pub list_in : List ℕ → Option (List ℕ)
list_in [] = None
list_in (c ∷ cs) = if (c == 123) && (position_or_len is_closing cs + 1 == length cs)
    then Some (before_first is_closing cs) else None

-- one of the parts in braces passes a test
abbrev pub lists : (List ℕ → Bool) → Option (List ℕ) → Bool
lists test None = false
lists test (Some list) = list_any test (slice_split is_comma list)

-- a list with a glob without braces, as `{*.wgsl,*.glsl}`
abbrev pub lists_name : List ℕ → Bool
lists_name glob = lists is_name (list_in glob)

-- a list with `wgsl`
abbrev pub lists_wgsl : List ℕ → Bool
lists_wgsl text = lists (λ part. bytes_eq part (codes "wgsl")) (list_in text)

-- `*.` and a list of endings with `wgsl`, as `*.{wgsl,glsl}`
abbrev pub lists_ending : List ℕ → Bool
lists_ending glob = starts_with nat_eq glob (codes "*.") && lists_wgsl (drop 2 glob)

-- a glob that is known to match each WGSL file
abbrev pub matches_wgsl : List ℕ → Bool
matches_wgsl glob = is_name glob || lists_name glob || lists_ending glob
