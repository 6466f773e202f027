-- What the formatter of files refuses.
use Rattle.std.specs.Prelude.{◌≡◌, ◌⊎◌, ℕ, true, false, List, [], chars}
use Rattle.std.specs.Str.{is_utf8}
use Rattle.grammar.specs.Tokens.{Fault}
use Rattle.wgsl_model_tidy.specs.Formatted.{unmarked}
use Rattle.wgsl_model_tidy.specs.Syntax.{IsFaultAfterMark}
use Rattle.wgsl_error.specs.declared.Error.{Error}
use Rattle.wgsl_error.specs.declared.ErrorKind.TheVariants as kinds
use Rattle.wgsl_error.specs.View.{fault_view}
use Rattle.wgsl_report.specs.Faults.{reported_fault}
use Rattle.wgsl_report.specs.Undecoded.{undecoded_message}
use Rattle.wgsl_format.specs.Deeper.{IsDeeperInFile}
use Rattle.wgsl_files.specs.declared.status.Status.{Status}
use Rattle.wgsl_files.specs.declared.status.Status.TheVariants as status

-- how many levels deep the text of a file may nest
abbrev pub levels : ℕ
levels = 2000

-- this is what follows the name of a file in the message where its text nests deeper
abbrev pub IsToldDeeper : List ℕ → List ℕ → Type 0
IsToldDeeper text message = IsDeeperInFile levels [] (unmarked text) message

-- The bytes of a file are refused with a status, and this is what follows its name in the message:
-- the place and the error that is named of the text, with what was expected there, or where it is not
-- UTF-8, or where it nests too deep.
pub data Refuses (bytes : List ℕ) : Status → List ℕ → Type 0 where
  named : (x : Fault) (expected : List (List ℕ)) → is_utf8 bytes ≡ true → IsFaultAfterMark (chars bytes) x
      → Refuses bytes status.Refused (reported_fault [] x.kind x.texts expected (chars bytes) x.span)
  undecoded : is_utf8 bytes ≡ false → Refuses bytes status.Refused (undecoded_message [] bytes)
  too_deep : (message : List ℕ) → is_utf8 bytes ≡ true → IsToldDeeper (chars bytes) message
      → Refuses bytes status.OutOfMemory message

-- a source is refused with a status and a message since it nests too deep
abbrev pub IsTooDeep : List ℕ → Status → List ℕ → Type 0
IsTooDeep source code message = (code ≡ status.OutOfMemory) × IsToldDeeper source message

-- this is what follows the name of a file in the message of a fault, whatever was expected
abbrev pub IsReportedFault : Fault → List ℕ → List ℕ → Type 0
IsReportedFault x source message = (expected : List (List ℕ))
    × (message ≡ reported_fault [] x.kind x.texts expected source x.span)

-- for an error, or since it nests too deep
abbrev pub IsRefusedFor : Error → List ℕ → Status → List ℕ → Type 0
IsRefusedFor e source code message = IsTooDeep source code message ⊎ ((code ≡ status.Refused)
    × IsReportedFault (fault_view e) source message
    × ¬ (e.error ≡ kinds.OutOfMemory))

-- since the bytes are no text
abbrev pub IsNotUtf8 : List ℕ → Status → List ℕ → Type 0
IsNotUtf8 bytes code message = (code ≡ status.Refused) × (message ≡ undecoded_message [] bytes)
