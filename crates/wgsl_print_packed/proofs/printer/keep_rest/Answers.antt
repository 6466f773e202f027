use Rattle.std.proofs.Common.{ap, ◌∙◌}
use Rattle.wgsl_print_packed.specs.Printing.{joined}
use Rattle.wgsl_print_packed.proofs.Steps.{joined-push}
use Rattle.wgsl_print_packed.proofs.printer.keep_rest.Goals as goal

pub returns-clause-kept : goal.returns-clause-kept
returns-clause-kept c = ap joined c.in_ok-push.ensures.items ∙ joined-push c.args.outer.now.items c.args.rest
