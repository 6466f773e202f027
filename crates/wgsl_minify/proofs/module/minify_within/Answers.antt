use Rattle.std.proofs.Common.{chars, string_bytes, sym, subst}
use Rattle.wgsl_model.specs.Trees.Units.{TranslationUnit}
use Rattle.wgsl_model.specs.Printed.Units.{print_unit}
use Rattle.wgsl_model.specs.Program.{ReadsBack}
use Rattle.wgsl_tree_unit.specs.View.{unit_view}
use Rattle.wgsl_minify_names.specs.View.{texts, which_view}
use Rattle.wgsl_tree_renamed.specs.NewNames.{pairs}
use Rattle.wgsl_minify.specs.Prints.{IsShortPrint}
use Rattle.wgsl_minify.proofs.NewModules.{reads_back, minified}
use Rattle.wgsl_minify.proofs.module.minify_within.Goals as goal

pub short_print-requires : goal.short_print-requires
short_print-requires c = subst (λ (u : TranslationUnit). ReadsBack (print_unit u) u) (sym c.in_ok-renamed.ensures)
    (reads_back (chars c.args.source.now) (unit_view c.in_ok-unit.unit) (which_view c.args.options.names) _
    (pairs c.in_ok-names.names) c.in_ok-unit.ensures.accepted c.in_ok-names.ensures)

pub returns-clause-minified : goal.returns-clause-minified
returns-clause-minified c = minified (chars c.args.source.now) (unit_view c.in_ok-unit.unit)
    (which_view c.args.options.names) (texts c.args.options.keep.now) (pairs c.in_ok-names.names)
    (chars (string_bytes c.in_ok-text.text)) c.in_ok-unit.ensures.accepted c.in_ok-names.ensures
    (subst (λ (u : TranslationUnit). IsShortPrint u (chars (string_bytes c.in_ok-text.text)))
    c.in_ok-renamed.ensures c.in_ok-text.ensures)
