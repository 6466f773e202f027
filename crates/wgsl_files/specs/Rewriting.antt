-- What becomes of files that are rewritten.
use Rattle.std.specs.Prelude.{◌≡◌, ◌≢◌, ℕ, true, List, string_bytes}
use Rattle.std.specs.List.{AllByRecursion}
use Rattle.wgsl_files.specs.declared.status.Status.{Status}
use Rattle.wgsl_files.specs.declared.format.Refusal.{Refusal}
use Rattle.wgsl_files.specs.declared.format.FormatError.{FormatError}
use Rattle.wgsl_files.specs.declared.format.FormatError.TheVariants as format
use Rattle.wgsl_files.specs.declared.error.FileError.{FileError}
use Rattle.wgsl_files.specs.declared.error.FileError.TheVariants as error
use Rattle.wgsl_files.specs.declared.store.StoreError.{StoreError}
use Rattle.wgsl_files.specs.declared.store.StoreError.TheVariants as store
use Rattle.wgsl_files.specs.declared.file.Mode.{Mode}
use Rattle.wgsl_files.specs.declared.file.Mode.TheVariants.{InPlace, Check}
use Rattle.wgsl_files.specs.declared.file.Rewritten.{Rewritten}
use Rattle.wgsl_files.specs.declared.file.Rewritten.TheVariants as rewritten
use Rattle.wgsl_files.specs.Files.{Files, Holds, HasNone, Same, Replaced}

-- a text is refused with this status and this message, unless an allocation failed
abbrev pub IsRefusal : (Status → List ℕ → Type 0) → FormatError → Type 0
IsRefusal refuses format.OutOfMemory = Unit {0}
IsRefusal refuses (format.Refused refusal) = refuses refusal.status (string_bytes refusal.message)

-- an error of a store as one of a file
abbrev pub file_error_of : StoreError → FileError
file_error_of store.OutOfMemory = error.OutOfMemory
file_error_of (store.Failed e) = error.Failed e

-- in place the file has the new text; else nothing has changed
abbrev pub Written : Mode → Files → Files → List ℕ → List ℕ → Type 0
Written InPlace old new path text = Replaced old new path text
Written Check old new path text = Same old new

-- the file has a text that becomes itself, and nothing has changed
pub record IsKept (becomes : List ℕ → List ℕ → Type 0) (old new : Files) (path : List ℕ) : Type 0 where
  pub text : List ℕ
  pub held : Holds old path text
  pub formatted : becomes text text
  pub same : Same old new

-- the file had a text that becomes another, which was written if files are rewritten in place
pub record IsChanged (becomes : List ℕ → List ℕ → Type 0) (mode : Mode) (old new : Files)
    (path before after : List ℕ) : Type 0 where
  pub held : Holds old path before
  pub formatted : becomes before after
  pub differs : before ≢ after
  pub written : Written mode old new path after

-- what became of the file at the path
abbrev pub IsRewritten : (List ℕ → List ℕ → Type 0) → Mode → Files → Files → List ℕ → Rewritten → Type 0
IsRewritten becomes mode old new path rewritten.Unchanged = IsKept becomes old new path
IsRewritten becomes mode old new path (rewritten.Changed before after) =
    IsChanged becomes mode old new path before.items after.items

-- the file has a text that is refused with this status and this message
abbrev pub IsRefused : (List ℕ → Status → List ℕ → Type 0) → Files → List ℕ → Refusal → Type 0
IsRefused refuses files path refusal = (text : List ℕ) × Holds files path text
    × refuses text refusal.status (string_bytes refusal.message)

-- why the file at the path was not rewritten: there is none, or its text is refused, or an
-- allocation failed
abbrev pub IsFileError : (List ℕ → Status → List ℕ → Type 0) → Files → List ℕ → FileError → Type 0
IsFileError refuses files path error.OutOfMemory = Unit {0}
IsFileError refuses files path (error.Failed e) = HasNone files path
IsFileError refuses files path (error.Refused refusal) = IsRefused refuses files path refusal

-- no file but those at these paths has changed
pub record ChangesOnly (paths : List (List ℕ)) (old new : Files) : Type 0 where
  pub known : new.known ≡ old.known
  pub others : old.known ≡ true → (path : List ℕ)
      → AllByRecursion (λ other. path ≢ other) paths → new.at path ≡ old.at path
