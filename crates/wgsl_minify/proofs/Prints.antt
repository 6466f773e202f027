-- The shortest text of a print parses to the printed module.
use Rattle.std.proofs.Common.{ℕ, ◌∙◌, List}
use Rattle.std.specs.Str.{chars}
use Rattle.wgsl_model.specs.Trees.Units.{TranslationUnit}
use Rattle.wgsl_model.specs.Printed.Units.{print_unit}
use Rattle.wgsl_model.specs.Program.{ReadsBack}
use Rattle.wgsl_model_short.specs.Respelled.{IsMinifiedText}
use Rattle.wgsl_minify.specs.Prints.{IsShortPrint}

pub short_print : (u : TranslationUnit) (text : List ℕ) → ReadsBack (print_unit u) u
    → IsMinifiedText (chars (print_unit u)) text → IsShortPrint u text
short_print u text back minified =
    let kept = minified.units back.0 back.1 in
    record { again = kept.0; is_unit = kept.1; same = kept.2 ∙ back.2; minified = minified }
