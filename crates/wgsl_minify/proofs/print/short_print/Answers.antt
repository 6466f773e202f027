use Rattle.std.proofs.Common.{◌≡◌, ℕ, List, chars, string_bytes, rules, sym, subst}
use Rattle.wgsl_model.specs.Trees.Units.{TranslationUnit}
use Rattle.wgsl_model.specs.Program.{IsUnit}
use Rattle.wgsl_model.specs.Printed.Units.{print_unit}
use Rattle.wgsl_model_short.specs.Respelled.{IsMinifiedText}
use Rattle.wgsl_tree_unit.specs.View.{unit_view}
use Rattle.wgsl_minify.proofs.Prints.{short_print}
use Rattle.wgsl_minify.proofs.print.short_print.Goals as goal

pub minify_print-requires : goal.minify_print-requires
minify_print-requires c =
    let is : c.as_str.result.now ≡ print_unit (unit_view c.args.unit.now) = search rules in
    subst (λ (printed : List ℕ). (u : TranslationUnit) × IsUnit (chars printed) u) (sym is)
    (c.requires.0, c.requires.1)

pub returns : goal.returns
returns c =
    let text = chars (string_bytes c.in_ok-minify_print.field-0) in
    let is : c.as_str.result.now ≡ print_unit (unit_view c.args.unit.now) = search rules in
    short_print (unit_view c.args.unit.now) text c.requires
    (subst (λ printed. IsMinifiedText (chars printed) text) is c.in_ok-minify_print.ensures)
