use Rattle.std.proofs.Common.{rules, codes}
use Rattle.std.proofs.Output.{has_written_append}
use Rattle.wgsl_model.specs.Printed.Expressions.{print_type}
use Rattle.wgsl_writer.proofs.Joins.{displays_joined}
use Rattle.wgsl_tree_expression.specs.View.{type_expression_view}
use Rattle.wgsl_tree_attribute.proofs.type_constraint.TypeConstraintDisplay.fmt.Goals as goal

pub returns-clause-writes : goal.returns-clause-writes
returns-clause-writes g c = λ plain ok.
    let variants = displays_joined type_expression_view print_type (codes " | ") g.W.Write.write_str_gives
    _ c.args.self.now.variants.items c.deref.ensures.value _ _ _ c.write_joined.ensures in
    let one = c.write.ensures.writes plain (search rules) in
    let two = variants one.plain ok in
    has_written_append _ _ _ _ _ _ one two
