use Rattle.std.proofs.Common.{rules, codes, ◌≡◌, ◌++◌, map}
use Rattle.std.proofs.lemmas.List.{append_assoc}
use Rattle.std.proofs.Output.{has_written_append, has_written_of_eq}
use Rattle.wgsl_model.specs.Printed.Joining.{joined}
use Rattle.wgsl_model.specs.Printed.Attributes.{print_attribute_line}
use Rattle.wgsl_model.specs.Printed.Statements.{print_compound}
use Rattle.wgsl_model.specs.Printed.Units.{print_parameter, print_result}
use Rattle.wgsl_writer.proofs.Joins.{displays_joined}
use Rattle.wgsl_tree_unit.specs.View.{parameter_view, function_view}
use Rattle.wgsl_tree_unit.proofs.function.FunctionDisplay.fmt.Goals as goal

pub returns-clause-writes : goal.returns-clause-writes
returns-clause-writes g c = λ plain ok.
    let parameters = displays_joined parameter_view print_parameter (codes ", ") g.W.Write.write_str_gives
    _ c.args.self.now.parameters.items c.deref.ensures.value _ _ _ c.write_joined.ensures in
    let one = c.write_head.ensures plain (search rules) in
    let two = parameters one.plain (search rules) in
    let three = c.write_str.ensures.writes two.plain (search rules) in
    let four = c.write_result.ensures three.plain (search rules) in
    let five = c.write.ensures.writes four.plain ok in
    let function = function_view c.args.self.now in
    let line = print_attribute_line function.attributes in
    let ident = function.node.ident in
    let list = joined (codes ", ") (map print_parameter function.node.parameters) in
    let returned = print_result function.node.return_attributes function.node.return_type in
    let body = print_compound function.node.body in
    let whole : line ++ codes "fn " ++ ident ++ codes "(" ++ list ++ codes ") " ++ returned ++ body
    ≡ line ++ (codes "fn " ++ ident ++ codes "(" ++ list ++ codes ") " ++ returned ++ body) = simp append_assoc in
    has_written_of_eq _ _ _ _ _ whole (has_written_append _ _ _ _ _ _ (has_written_append _ _ _ _ _ _
    (has_written_append _ _ _ _ _ _ (has_written_append _ _ _ _ _ _ one two) three) four) five)
