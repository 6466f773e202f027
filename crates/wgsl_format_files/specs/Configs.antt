-- What is chosen for a file where `.editorconfig` files say it.
use Rattle.std.specs.Prelude.{◌≡◌, ◌==◌, ℕ, Bool, true, false, List, [], ◌∷◌, ◌++◌, reverse, drop, Option, Some, None, codes, nat_eq, if◌then◌else◌}
use Rattle.std.specs.List.{starts_with, slice_split}
use Rattle.std.specs.Str.{is_utf8}
use Rattle.wgsl_choices.specs.declared.Choices.{Choices}
use Rattle.wgsl_choices.specs.Choices.{nothing, or}
use Rattle.wgsl_format_options.specs.Options.{Source, standard_input, path}
use Rattle.wgsl_editorconfig.specs.declared.reading.Properties.{Properties}
use Rattle.wgsl_editorconfig.specs.Properties.{properties_of}
use Rattle.wgsl_files.specs.Files.{Files, IsAbsolute}
use Rattle.wgsl_format.specs.RunOutput.{IsTidiedBy}
use Rattle.wgsl_format_files.specs.Layouts.{layout_of}

-- the `.editorconfig` files in a folder and in those that names lead to from there, of which the
-- last is that of a file
abbrev pub paths_from : List ℕ → List (List ℕ) → List (List ℕ)
paths_from folder [] = []
paths_from folder (name ∷ names) = (folder ++ codes ".editorconfig") ∷ paths_from (folder ++ (name ++ codes "/")) names

abbrev pub is_slash : ℕ → Bool
is_slash c = c == 47

-- those from a folder to a file, the nearest to the file first
abbrev pub paths_below : List ℕ → List ℕ → List (List ℕ)
paths_below folder names = reverse (paths_from folder (slice_split is_slash names))

-- those in the folder of a file and in the folders above it, the nearest first: up to the root of
-- the file system, or to where the path begins
abbrev pub config_paths : List ℕ → List (List ℕ)
config_paths file = if starts_with nat_eq file (codes "/")
    then paths_below (codes "/") (drop 1 file) else paths_below [] file

-- no root, and no choice
abbrev pub nothing_said : Properties
nothing_said = record { root = false; choices = nothing }

-- what bytes say: nothing, if they are not UTF-8
abbrev pub said_by : List ℕ → Properties
said_by bytes = if is_utf8 bytes then properties_of bytes else nothing_said

-- what the file at a path says: nothing, if there is none
abbrev pub said_of : Option (List ℕ) → Properties
said_of None = nothing_said
said_of (Some bytes) = said_by bytes

-- this is what the file at a path says
abbrev pub IsSaidAt : Files → List ℕ → Properties → Type 0
IsSaidAt files at said = (held : Option (List ℕ)) × (files.known ≡ true → files.at at ≡ held) × (said ≡ said_of held)

-- the one holds of a root, and else the other
abbrev pub IfRoot : Bool → Type 0 → Type 0 → Type 0
IfRoot true this other = this
IfRoot false this other = other

-- what is chosen where the files at these paths say what is left open, each before those after it,
-- and none after a root
abbrev pub AreChosenBy : Files → Choices → List (List ℕ) → Choices → Type 0
AreChosenBy files so_far [] chosen = chosen ≡ so_far
AreChosenBy files so_far (at ∷ others) chosen = (said : Properties) × IsSaidAt files at said
    × IfRoot said.root (chosen ≡ or so_far said.choices) (AreChosenBy files (or so_far said.choices) others chosen)

-- what is chosen for a file: what is left open is as the nearest `.editorconfig` file says
abbrev pub AreChoicesFor : Files → Choices → List ℕ → Choices → Type 0
AreChoicesFor files choices file chosen = (found : List ℕ) × IsAbsolute files file found
    × AreChosenBy files choices (config_paths found) chosen

-- what is chosen for a text with this path, or with none
abbrev pub AreChosenAt : Files → Choices → Option (List ℕ) → Choices → Type 0
AreChosenAt files choices None chosen = chosen ≡ choices
AreChosenAt files choices (Some file) chosen = AreChoicesFor files choices file chosen

-- the path of an input, where the standard input has this one, if any
abbrev pub place_of : Option (List ℕ) → Source → Option (List ℕ)
place_of stdin_path standard_input = stdin_path
place_of stdin_path (path name) = Some name

-- the text of an input becomes another by the layout that is chosen for it
abbrev pub BecomesBy : Choices → Option (List ℕ) → Files → Source → List ℕ → List ℕ → Type 0
BecomesBy choices stdin_path files source text formatted = (chosen : Choices)
    × AreChosenAt files choices (place_of stdin_path source) chosen × IsTidiedBy (layout_of chosen) text formatted
