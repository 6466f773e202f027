-- Paths of modules: what a text reads as, the text of a path, and how paths are joined.
use Rattle.std.specs.Prelude.{◌≡◌, ℕ, zero, suc, ◌+◌, ◌-◌, ◌^◌, ◌<◌, Bool, ◌==◌, ◌&&◌, if◌then◌else◌, List, [], ◌∷◌, ◌++◌, length, take, drop, replicate, take_while, filter_map, Result, Ok, Err, codes, bytes_eq}
use Rattle.std.specs.List.{onto_first}
use Rattle.wgsl_model.specs.Tokens.Words.{look_up}
use Rattle.wgsl_model.specs.Printed.Joining.{joined}

-- where a path begins: at the root, some levels up, or at a package by its name
pub data PathOrigin : Type 0 where
  absolute : PathOrigin
  relative : ℕ → PathOrigin
  of_package : List ℕ → PathOrigin

pub record ModulePath : Type 0 where
  pub origin : PathOrigin
  pub components : List (List ℕ)

-- the root, and the module that the path is in
abbrev pub root_path : ModulePath
root_path = record { origin = absolute; components = [] }

abbrev pub self_path : ModulePath
self_path = record { origin = relative 0; components = [] }

-- why a text is no path
pub data PathFault : Type 0 where
  empty misplaced_package misplaced_self misplaced_super : PathFault

-- a byte is `:`
abbrev pub is_colon : ℕ → Bool
is_colon b = b == 58

-- the parts of a text, split at each `::` from the left
abbrev pub path_parts : List ℕ → List (List ℕ)
path_parts [] = [] ∷ []
path_parts (a ∷ []) = (a ∷ []) ∷ []
path_parts (a ∷ (b ∷ bs)) = if is_colon a && is_colon b then [] ∷ path_parts bs else onto_first a (path_parts (b ∷ bs))

-- the words that only begin a path, each with the fault of standing elsewhere
abbrev pub first_words : List (List ℕ × PathFault)
first_words = (codes "package", misplaced_package) ∷ (codes "self", misplaced_self)
    ∷ (codes "super", misplaced_super) ∷ []

-- a path unless there are faults, and else the first of them
abbrev pub unless_faults : List PathFault → ModulePath → Result ModulePath PathFault
unless_faults [] path = Ok path
unless_faults (fault ∷ faults) path = Err fault

-- the parts after an origin are components, and none is one of the words
abbrev pub path_from : PathOrigin → List (List ℕ) → Result ModulePath PathFault
path_from origin parts = unless_faults (filter_map (look_up first_words) parts)
    (record { origin = origin; components = parts })

-- how many `super` are first
abbrev pub levels : List (List ℕ) → ℕ
levels parts = length (take_while (λ part. bytes_eq part (codes "super")) parts)

-- the first part says where the path begins
abbrev pub path_of_parts : List (List ℕ) → Result ModulePath PathFault
path_of_parts [] = Err empty
path_of_parts (part ∷ parts) =
    if bytes_eq part (codes "package") then path_from absolute parts
    else if bytes_eq part (codes "self") then path_from (relative 0) parts
    else if bytes_eq part (codes "super")
    then path_from (relative (levels (part ∷ parts))) (drop (levels (part ∷ parts)) (part ∷ parts))
    else if bytes_eq part [] then Err empty
    else path_from (of_package part) parts

-- what a text reads as: a path, or its fault
abbrev pub read_path : List ℕ → Result ModulePath PathFault
read_path text = path_of_parts (path_parts text)

-- the text of an origin
abbrev pub origin_text : PathOrigin → List ℕ
origin_text absolute = codes "package"
origin_text (relative zero) = codes "self"
origin_text (relative (suc n)) = joined (codes "::") (replicate (suc n) (codes "super"))
origin_text (of_package name) = name

-- the text of a path: its origin, then each component with `::` before it
abbrev pub path_text : ModulePath → List ℕ
path_text path = joined (codes "::") (origin_text path.origin ∷ path.components)

-- a path with more components at its end
abbrev pub extended : ModulePath → List (List ℕ) → ModulePath
extended path names = record path { components = path.components ++ names }

-- the names without the last ones
abbrev pub without_last_names : ℕ → List (List ℕ) → List (List ℕ)
without_last_names n names = take (length names - n) names

-- What a suffix keeps of the components of the path that it is after: none, or all but as many
-- as it goes up.
abbrev pub kept : List (List ℕ) → PathOrigin → List (List ℕ)
kept names (relative n) = without_last_names n names
kept names origin = []

-- Where two joined paths begin, by their origins and how many components the first has. A package
-- within a package is named by both, with `/` between.
abbrev pub joined_origin : PathOrigin → ℕ → PathOrigin → PathOrigin
joined_origin (of_package p) count absolute = of_package p
joined_origin (of_package p) count (of_package q) = of_package (p ++ codes "/" ++ q)
joined_origin (relative m) count (relative n) = relative (m + (n - count))
joined_origin origin count (relative n) = origin
joined_origin origin count suffix = suffix

-- the path that a suffix means in the module that another path leads to
abbrev pub join_paths : ModulePath → ModulePath → ModulePath
join_paths path suffix = record {
  origin = joined_origin path.origin (length path.components) suffix.origin;
  components = kept path.components suffix.origin ++ suffix.components;
}

-- the levels of an origin are at most the greatest `usize`
abbrev pub CountFits : PathOrigin → Type 0
CountFits (relative n) = n < 2 ^ 64
CountFits origin = Unit {0}

abbrev pub JoinFits : ModulePath → ModulePath → Type 0
JoinFits path suffix = CountFits (join_paths path suffix).origin

-- a path begins as the other does, and has its components first
abbrev pub StartsWith : ModulePath → ModulePath → Type 0
StartsWith path start = (path.origin ≡ start.origin)
    × ((rest : List (List ℕ)) × (path.components ≡ start.components ++ rest))
