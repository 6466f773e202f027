-- What is written of bytes that are a unit.
use Rattle.std.proofs.Common.{◌≡◌, inl, ℕ, true, List, [], chars, sym, subst}
use Rattle.std.specs.Prelude.{Option, Some, None}
use Rattle.std.specs.Str.{is_utf8}
use Rattle.wgsl_model.specs.Trees.Units.{TranslationUnit}
use Rattle.wgsl_model.specs.Printed.Units.{print_unit}
use Rattle.wgsl_model.specs.Program.{ProcessOutput, Formats, Formats.printed, IsUnit, ReadsBack}
use Rattle.wgsl_theory_printed.proofs.RoundTrip.{printed_parse}
use Rattle.wgsl_format.specs.Deeper.{FormatsWithin}
use Rattle.wgsl_format.specs.RunOutput.{IsReprinted}

-- what is written without a limit is written with one
pub within : (limit : Option ℕ) (bytes : List ℕ) (due : ProcessOutput) → Formats bytes due
    → FormatsWithin limit bytes due
within None bytes due formats = formats
within (Some depth) bytes due formats = inl formats

-- the text is the printed unit
pub formats_unit : (bytes text : List ℕ) (unit : TranslationUnit) → is_utf8 bytes ≡ true
    → IsUnit (chars bytes) unit → text ≡ print_unit unit
    → Formats bytes (record { status = 0; output = text; errors = [] })
formats_unit bytes text unit valid derived same =
    let P : List ℕ → Type 0 = λ output. Formats bytes (record { status = 0; output = output; errors = [] }) in
    subst P (sym same) (printed unit valid derived)

-- and it reads as that unit
pub reprinted : (bytes text : List ℕ) (unit : TranslationUnit) → IsUnit (chars bytes) unit
    → text ≡ print_unit unit → is_utf8 text ≡ true → IsReprinted bytes text
reprinted bytes text unit derived same valid = record {
  unit = unit;
  derived = derived;
  printed = same;
  valid = valid;
  reads_back = subst (λ output. ReadsBack output unit) (sym same) (printed_parse (chars bytes) unit derived);
}
