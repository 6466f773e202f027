use Rattle.std.proofs.Common.{rules, codes, sym, ap}
use Rattle.std.specs.Option.{option_map}
use Rattle.std.proofs.Output.{has_written_append, has_written_of_eq}
use Rattle.wgsl_model.specs.Printed.Expressions.{print_expression_node}
use Rattle.wgsl_model.specs.Printed.Attributes.{print_arguments}
use Rattle.wgsl_writer.proofs.Joins.{displays_joined}
use Rattle.wgsl_tree_expression.specs.View.{expression_node_view}
use Rattle.wgsl_tree_attribute.specs.View.{expressions_view}
use Rattle.wgsl_tree_attribute.proofs.custom.write_arguments.Goals as goal

pub returns-in_ok-write_joined-in-Some : goal.returns-in_ok-write_joined-in-Some
returns-in_ok-write_joined-in-Some g c = λ plain ok.
    let arguments = displays_joined expression_node_view print_expression_node (codes ", ")
    g.W.Write.write_str_gives _ c.in-Some.arguments.items c.deref.ensures.value _ _ _ c.write_joined.ensures in
    let one = c.write_str.ensures.writes plain (search rules) in
    let two = arguments one.plain (search rules) in
    let three = c.write_str-in-Some.ensures.writes two.plain ok in
    has_written_of_eq _ _ _ _ _ (ap (λ o. print_arguments (option_map expressions_view o))
    (sym c.in-Some.is)) (has_written_append _ _ _ _ _ _ (has_written_append _ _ _ _ _ _ one two) three)
