-- Why a run writes no minified text, and what is reported of it.
use Rattle.std.specs.Prelude.{◌≡◌, ◌⊎◌, ℕ, true, false, List, ◌++◌, Contains, chars, codes, string_bytes}
use Rattle.std.specs.Str.{is_utf8}
use Rattle.grammar.specs.Tokens.{Fault}
use Rattle.wgsl_model.specs.Faults.Kinds.{message}
use Rattle.wgsl_model.specs.Program.{IsFaultOf}
use Rattle.wgsl_span.specs.View.{span_view}
use Rattle.wgsl_error.specs.declared.Error.{Error}
use Rattle.wgsl_error.specs.declared.ErrorKind.TheVariants as kinds
use Rattle.wgsl_error.specs.Places.{message_in_file}
use Rattle.wgsl_error.specs.Printing.{print_message}
use Rattle.wgsl_files.specs.declared.status.Status.{Status}
use Rattle.wgsl_files.specs.declared.status.Status.TheVariants as status
use Rattle.wgsl_files.specs.Statuses.{code_of}
use Rattle.wgsl_format.specs.Deeper.{IsDeeperInFile}
use Rattle.wgsl_minify_files.specs.Kept.{HasName}
use Rattle.wgsl_minify_files.specs.declared.failure.Failure.{Failure}
use Rattle.wgsl_minify_files.specs.declared.failure.Failure.TheVariants.{Refused, Failed, OutOfMemory}

-- what is reported where an allocation failed
abbrev pub memory_text : List ℕ
memory_text = codes "wgslmin: error: out of memory\n"

-- the message of a failure
abbrev pub message_of : Failure → List ℕ
message_of (Refused refusal) = string_bytes refusal.message
message_of (Failed message) = string_bytes message
message_of OutOfMemory = memory_text

-- the status of a failure
abbrev pub code_of_failure : Failure → ℕ
code_of_failure (Refused refusal) = code_of refusal.status
code_of_failure (Failed message) = 4
code_of_failure OutOfMemory = 5

-- the message of a file of this name that could not be read or written
abbrev pub IsReported : List ℕ → List ℕ → Type 0
IsReported name message = (reason : List ℕ) × (message ≡ name ++ (codes ": error: " ++ (reason ++ codes "\n")))

-- the file of this name could not be read or written, unless an allocation failed
abbrev pub IsFailed : List ℕ → Failure → Type 0
IsFailed name (Refused refusal) = ⊥
IsFailed name (Failed message) = IsReported name (string_bytes message)
IsFailed name OutOfMemory = Unit {0}

-- it could not be for this reason
abbrev pub IsFailedFor : Type 0 → List ℕ → Failure → Type 0
IsFailedFor reason name (Refused refusal) = ⊥
IsFailedFor reason name (Failed message) = reason × IsReported name (string_bytes message)
IsFailedFor reason name OutOfMemory = Unit {0}

-- the message of a file of this name that is not UTF-8
abbrev pub not_utf8 : List ℕ → List ℕ
not_utf8 name = name ++ codes ": error: not UTF-8\n"

-- how many levels deep a module may nest
abbrev pub levels : ℕ
levels = 1400

-- the message of a file of this name whose text nests deeper
abbrev pub IsToldDeeper : List ℕ → List ℕ → List ℕ → Type 0
IsToldDeeper name text message = (told : List ℕ) × IsDeeperInFile levels name text told
    × (message ≡ told ++ codes "\n")

-- what is reported of a name to keep that the file of this name does not have
abbrev pub unknown_name : List ℕ → List ℕ → List ℕ
unknown_name file text =
    file ++ (codes ": error: option '--keep' takes names of the module, not `" ++ (text ++ codes "`\n"))

-- that is so
abbrev pub IsUnknownName : List ℕ → List ℕ → Status → List ℕ → Type 0
IsUnknownName file text code message = (code ≡ status.Usage) × (message ≡ unknown_name file text)

-- one of some names to keep is nowhere in the text of the file of this name
abbrev pub LacksName : List ℕ → List (List ℕ) → List ℕ → Status → List ℕ → Type 0
LacksName file keep source code message = (text : List ℕ) × Contains keep text × HasName false source text
    × IsUnknownName file text code message

-- The bytes of the file of this name are refused with a status and this message: the place and the
-- error that is named of the text, or that it is not UTF-8, or where it nests too deep, or a name to
-- keep that is nowhere in it.
pub data Refuses (name : List ℕ) (keep : List (List ℕ)) (bytes : List ℕ) : Status → List ℕ → Type 0 where
  named : (x : Fault) → is_utf8 bytes ≡ true → IsFaultOf (chars bytes) x → Refuses name keep bytes status.Refused
      (message_in_file name (message x.kind x.texts) (chars bytes) x.span ++ codes "\n")
  undecoded : is_utf8 bytes ≡ false → Refuses name keep bytes status.Refused (not_utf8 name)
  too_deep : (message : List ℕ) → is_utf8 bytes ≡ true → IsToldDeeper name (chars bytes) message
      → Refuses name keep bytes status.OutOfMemory message
  lacking : (code : Status) (message : List ℕ) → is_utf8 bytes ≡ true → LacksName name keep (chars bytes) code message
      → Refuses name keep bytes code message

-- a source is refused with this status and this message, unless an allocation failed
abbrev pub IsRefusal : (Status → List ℕ → Type 0) → Failure → Type 0
IsRefusal refuses (Refused refusal) = refuses refusal.status (string_bytes refusal.message)
IsRefusal refuses (Failed message) = ⊥
IsRefusal refuses OutOfMemory = Unit {0}

-- since it nests too deep
abbrev pub IsTooDeep : List ℕ → List ℕ → Status → List ℕ → Type 0
IsTooDeep name source code message = (code ≡ status.OutOfMemory) × IsToldDeeper name source message

-- for an error, or since it nests too deep
abbrev pub IsRefusedFor : List ℕ → List ℕ → Error → Status → List ℕ → Type 0
IsRefusedFor name source e code message = IsTooDeep name source code message ⊎ ((code ≡ status.Refused)
    × (message ≡ message_in_file name (print_message e.error) source (span_view e.span) ++ codes "\n")
    × ¬ (e.error ≡ kinds.OutOfMemory))

-- since it is no text
abbrev pub IsNotUtf8 : List ℕ → Status → List ℕ → Type 0
IsNotUtf8 name code message = (code ≡ status.Refused) × (message ≡ not_utf8 name)
