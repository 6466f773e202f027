-- One run: what is read, what is written, and the status.
use Rattle.std.specs.Prelude.{◌≡◌, ℕ, true, false, List, ◌++◌, Option, Some, None, chars, codes}
use Rattle.std.specs.Io.KnownBytes.{IsAtEnd}
use Rattle.std.specs.Option.{unwrap_or}
use Rattle.std.specs.List.{All}
use Rattle.std.specs.Str.{is_utf8}
use Rattle.wgsl_files.specs.Files.{Files, Holds, HasNone, Same, Replaced}
use Rattle.wgsl_format.specs.Ends.{IsInput}
use Rattle.wgsl_minify.specs.Modules.{IsMinified}
use Rattle.wgsl_name_map.specs.Maps.{map_form}
use Rattle.wgsl_program.specs.World.{World, Says}
use Rattle.wgsl_minify_files.specs.Failures.{message_of, code_of_failure, IsFailed, IsFailedFor, IsRefusal, Refuses}
use Rattle.wgsl_minify_files.specs.Kept.{HasName}
use Rattle.wgsl_minify_files.specs.Options.{Options, Target, to_stream, to_file}
use Rattle.wgsl_minify_files.specs.declared.failure.Failure.{Failure}
use Rattle.wgsl_minify_files.specs.declared.failure.Failure.TheVariants.{OutOfMemory}

-- the name of the file at a path in messages
abbrev pub name_of : Option (List ℕ) → List ℕ
name_of path = unwrap_or path (codes "<stdin>")

-- the file at the path has these bytes, or with no path the standard input, which is read to its end
abbrev pub IsSource : Option (List ℕ) → Files → Option (List ℕ) → Option (List ℕ) → List ℕ → Type 0
IsSource None files left rest source = IsInput left source × IsAtEnd rest
IsSource (Some path) files left rest source = Holds files path source × (rest ≡ left)

-- the source is UTF-8 and a module that has the names to keep; this is its minified text, with these
-- new names
pub record IsMinifiedText (options : Options) (source : List ℕ) (table : List (List ℕ × List ℕ))
    (text : List ℕ) : Type 0 where
  pub source_valid : is_utf8 source ≡ true
  pub text_valid : is_utf8 text ≡ true
  pub minified : IsMinified options.which options.keep (chars source) table (chars text)
  pub kept : All (HasName true (chars source)) options.keep

-- what the file of the new names has: their JSON and a line break
abbrev pub map_file : List (List ℕ × List ℕ) → List ℕ
map_file table = map_form table ++ codes "\n"

-- the module was read and minified; these are its new names and its text
pub record IsPrepared (options : Options) (files : Files) (left rest : Option (List ℕ))
    (table : List (List ℕ × List ℕ)) (text : List ℕ) : Type 0 where
  pub source : List ℕ
  pub read : IsSource options.input files left rest source
  pub minified : IsMinifiedText options source table text

-- the file at the path could not be read since it is not there, or with no path the standard input
-- could not, unless an allocation failed
abbrev pub IsUnread : Option (List ℕ) → Files → Failure → Type 0
IsUnread None files failure = IsFailed (name_of None) failure
IsUnread (Some path) files failure = IsFailedFor (HasNone files path) path failure

-- why nothing is written: the module could not be read, or it is refused
pub data Stops (options : Options) (files : Files) (left rest : Option (List ℕ)) (failure : Failure) : Type 0 where
  unread : IsUnread options.input files failure → Stops options files left rest failure
  refused : (source : List ℕ) → IsSource options.input files left rest source
      → IsRefusal (Refuses (name_of options.input) options.keep source) failure → Stops options files left rest failure

-- a text is not written to its place: the file could not be written, and contracts do not know what
-- the files hold, or an allocation failed
abbrev pub IsUnwritten : Target → Files → Failure → Type 0
IsUnwritten to_stream files failure = failure ≡ OutOfMemory
IsUnwritten (to_file path) files failure = IsFailedFor (files.known ≡ false) path failure

-- a failure is reported, and nothing else happens
pub record Reports (failure : Failure) (old new : World) (status : ℕ) : Type 0 where
  pub says : Says (message_of failure) (code_of_failure failure) old.errors new.errors status
  pub output : new.output ≡ old.output
  pub files : Same old.files new.files

-- What comes of a text to write. It is written to the standard output, or what of it can be. Or it
-- is put into the file. Or it is not written, and this is reported.
pub data Writes (target : Target) (text : List ℕ) (old new : World) (status : ℕ) : Type 0 where
  shown : target ≡ to_stream → Says text 0 old.output new.output status → new.files ≡ old.files
      → new.errors ≡ old.errors → Writes target text old new status
  saved : (path : List ℕ) → target ≡ to_file path → Replaced old.files new.files path text
      → new.output ≡ old.output → new.errors ≡ old.errors → status ≡ 0 → Writes target text old new status
  failed : (failure : Failure) → IsUnwritten target old.files failure → Reports failure old new status
      → Writes target text old new status

-- the new names are written, if they are asked for
abbrev pub Saves : Option Target → List ℕ → World → World → ℕ → Type 0
Saves None text old new status =
    (new.files ≡ old.files) × (new.output ≡ old.output) × (new.errors ≡ old.errors) × (status ≡ 0)
Saves (Some target) text old new status = Writes target text old new status

-- the new names are written, if they are asked for, and then the text, unless the names are not
pub data Delivers (options : Options) (table : List (List ℕ × List ℕ)) (text : List ℕ) (old new : World)
    (status : ℕ) : Type 0 where
  both : (between : World) → Saves options.map (map_file table) old between 0
      → Writes options.output text between new status → Delivers options table text old new status
  without_text : Saves options.map (map_file table) old new status → ¬ (status ≡ 0)
      → Delivers options table text old new status

-- What a run comes to. The module is read and minified, and the new names and the text are written.
-- Or nothing is written, and this is reported.
pub data IsRun (options : Options) (old new : World) (status : ℕ) : Type 0 where
  minified : (table : List (List ℕ × List ℕ)) (text : List ℕ)
      → IsPrepared options old.files old.left new.left table text → Delivers options table text old new status
      → IsRun options old new status
  stopped : (failure : Failure) → Stops options old.files old.left new.left failure
      → Reports failure old new status → IsRun options old new status
