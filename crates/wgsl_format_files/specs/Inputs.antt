-- What is formatted for the paths that are named.
use Rattle.std.specs.Prelude.{◌≡◌, ℕ, List, [], ◌∷◌, ◌++◌, map, string_bytes}
use Rattle.wgsl_format_options.specs.Options.{Source, standard_input, path}
use Rattle.wgsl_files.specs.Files.{Files}
use Rattle.wgsl_files.specs.Folders.{IsListing}
use Rattle.wgsl_format_files.specs.declared.inputs.Input.{Input}
use Rattle.wgsl_format_files.specs.declared.inputs.Input.TheVariants as input

abbrev pub input_view : Input → Source
input_view input.StandardInput = standard_input
input_view (input.File text) = path (string_bytes text)

-- the name of an input in messages, where the standard input has this one
abbrev pub name_in : List ℕ → Source → List ℕ
name_in stdin_name standard_input = stdin_name
name_in stdin_name (path text) = text

-- these follow what there was: the files that are listed for a named path
abbrev pub AreFilesOf : Files → List ℕ → List Source → List Source → Type 0
AreFilesOf files named old new = (paths : List (List ℕ))
    × IsListing files named paths × (new ≡ old ++ map path paths)

-- the next source of the arguments is this, and these follow what there was
abbrev pub IsInputOf : Files → Source → List Source → List Source → Type 0
IsInputOf files standard_input old new = new ≡ old ++ standard_input ∷ []
IsInputOf files (path named) old new = AreFilesOf files named old new

-- after these inputs, those for the sources that follow make all inputs
abbrev pub FollowFor : Files → List Source → List Source → List Source → Type 0
FollowFor files so_far [] all = all ≡ so_far
FollowFor files so_far (source ∷ sources) all = (more : List Source)
    × IsInputOf files source so_far more × FollowFor files more sources all

-- the inputs for the sources of the arguments, in order
abbrev pub AreInputsOf : Files → List Source → List Source → Type 0
AreInputsOf files sources inputs = FollowFor files [] sources inputs

-- the paths of the files among some inputs
abbrev pub paths_of : List Source → List (List ℕ)
paths_of [] = []
paths_of (standard_input ∷ rest) = paths_of rest
paths_of (path text ∷ rest) = text ∷ paths_of rest
