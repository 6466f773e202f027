-- What a run of `wgslfmt` leaves with status 0, and where it was given arguments; what a formatted
-- text is.
use Rattle.std.specs.Prelude.{◌≡◌, ℕ, true, List, codes, chars}
use Rattle.std.specs.Str.{is_utf8}
use Rattle.wgsl_model.specs.Trees.Units.{TranslationUnit}
use Rattle.wgsl_model.specs.Printed.Units.{print_unit}
use Rattle.wgsl_model.specs.Program.{ProcessOutput, complaint, IsUnit, ReadsBack}
use Rattle.wgsl_model_tidy.specs.Formatted.{unmarked}
use Rattle.wgsl_model_tidy.specs.Kept.{IsFormatted, Keeps}
use Rattle.wgsl_model_tidy.specs.Layout.{Layout}
use Rattle.wgsl_model_tidy.specs.Syntax.{IsModuleInSyntax}

-- The text is the printed unit of these bytes, and reads as that unit without its empty items,
-- ignoring spans.
pub record IsReprinted (bytes text : List ℕ) : Type 0 where
  pub unit : TranslationUnit
  pub derived : IsUnit (chars bytes) unit
  pub printed : text ≡ print_unit unit
  pub valid : is_utf8 text ≡ true
  pub reads_back : ReadsBack text unit

-- The bytes are a module by its syntax, after a byte order mark or without one, and the text is its
-- formatted text by a layout, and keeps what the bytes have.
pub record IsTidiedBy (layout : Layout) (bytes text : List ℕ) : Type 0 where
  pub valid : is_utf8 text ≡ true
  pub accepted : IsModuleInSyntax (unmarked (chars bytes))
  pub formatted : IsFormatted layout (chars bytes) (chars text)
  pub kept : Keeps layout (chars bytes) (chars text)

-- what is due where `wgslfmt` was given arguments
abbrev pub no_arguments : ProcessOutput
no_arguments = complaint 5 (codes "wgslfmt takes no arguments\n")
