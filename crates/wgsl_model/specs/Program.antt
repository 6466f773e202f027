-- What the program owes: its status, and what it writes of the bytes that it read.
use Rattle.std.specs.Prelude.{◌≡◌, ℕ, List, [], ◌++◌, codes, true, false, chars}
use Rattle.std.specs.Str.{is_utf8}
use Rattle.std.specs.Fmt.{decimal}
use Rattle.grammar.specs.Tokens.{Fault}
use Rattle.wgsl_model.specs.Trees.Units.{TranslationUnit}
use Rattle.wgsl_model.specs.Grammar.Symbols.{Symbol.unit}
use Rattle.wgsl_model.specs.SourceTrees.{IsTreeOf, IsFaultIn}
use Rattle.wgsl_model.specs.Faults.Kinds.{message}
use Rattle.wgsl_model.specs.Printed.Units.{print_unit}
use Rattle.wgsl_model.specs.Trees.EmptyItems.{full_unit}
use Rattle.wgsl_model.specs.Trees.StatementsWithoutSpans.{bare_unit}

-- a status, what goes to the output and what goes to the errors
pub record ProcessOutput : Type 0 where
  pub status : ℕ
  pub output : List ℕ
  pub errors : List ℕ

-- a text for the errors alone
abbrev pub complaint : ℕ → List ℕ → ProcessOutput
complaint status text = record { status = status; output = []; errors = text }

-- a fault with its place, as the program reports it
abbrev pub shown_fault : Fault → List ℕ
shown_fault x = codes "chars " ++ decimal x.span.start ++ codes ".." ++ decimal x.span.end
    ++ codes ": " ++ message x.kind x.texts

-- the source derives the unit
abbrev pub IsUnit : List ℕ → TranslationUnit → Type 0
IsUnit source u = IsTreeOf unit source u

-- the source is no unit, and this is the fault that is named
abbrev pub IsFaultOf : List ℕ → Fault → Type 0
IsFaultOf source x = IsFaultIn unit source x

-- What the program writes of these bytes: the printed unit, the fault that is named, or that they
-- are no text.
pub data Formats (bytes : List ℕ) : ProcessOutput → Type 0 where
  printed : (u : TranslationUnit) → is_utf8 bytes ≡ true → IsUnit (chars bytes) u
      → Formats bytes (record { status = 0; output = print_unit u; errors = [] })
  refused : (x : Fault) → is_utf8 bytes ≡ true → IsFaultOf (chars bytes) x
      → Formats bytes (complaint 1 (shown_fault x ++ codes "\n"))
  not_utf8 : is_utf8 bytes ≡ false → Formats bytes (complaint 2 (codes "input is not UTF-8\n"))

-- what is written where an allocation failed
abbrev pub out_of_memory : ProcessOutput
out_of_memory = complaint 3 (codes "out of memory\n")

-- the text reads as the unit without its empty items, ignoring spans
abbrev pub ReadsBack : List ℕ → TranslationUnit → Type 0
ReadsBack text u = (again : TranslationUnit) × IsUnit (chars text) again × (bare_unit again ≡ bare_unit (full_unit u))
