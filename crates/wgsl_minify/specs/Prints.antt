-- The shortest text of a module that is known by its tree.
use Rattle.std.specs.Prelude.{◌≡◌, ℕ, List, chars}
use Rattle.wgsl_model.specs.Trees.Units.{TranslationUnit}
use Rattle.wgsl_model.specs.Trees.EmptyItems.{full_unit}
use Rattle.wgsl_model.specs.Trees.StatementsWithoutSpans.{bare_unit}
use Rattle.wgsl_model.specs.Printed.Units.{print_unit}
use Rattle.wgsl_model.specs.Program.{IsUnit}
use Rattle.wgsl_model_short.specs.Respelled.{IsMinifiedText}

-- The text parses to the module without its empty items, ignoring spans. Its tokens are those of the
-- module's print, but for whole numbers, which are in hexadecimal if that is shorter, and for `case`
-- before a `default` that is alone; no text with these tokens has fewer bytes.
pub record IsShortPrint (u : TranslationUnit) (text : List ℕ) : Type 0 where
  pub again : TranslationUnit
  pub is_unit : IsUnit text again
  pub same : bare_unit again ≡ bare_unit (full_unit u)
  pub minified : IsMinifiedText (chars (print_unit u)) text
