use Rattle.std.proofs.Common.{◌++◌, ◌∷◌, ◌∙◌, ap, append_assoc}
use Rattle.std.proofs.lemmas.Result.{on_ok_weaker}
use Rattle.wgsl_model.specs.Printed.Operators.{assignment_operator_text}
use Rattle.wgsl_model_packed.specs.Attributes.{packed_attribute_line}
use Rattle.wgsl_model_packed.specs.Expressions.{packed_expression_node}
use Rattle.wgsl_model_packed.specs.Printing.{packed_text}
use Rattle.wgsl_model_packed.specs.Rules.{assignment_rule}
use Rattle.wgsl_tree_attribute.specs.View.{attributes_view}
use Rattle.wgsl_tree_expression.specs.View.{expression_node_view}
use Rattle.wgsl_tree_words.specs.View.{assignment_operator_view}
use Rattle.wgsl_tree_packed.proofs.Lists.{two_parts}
use Rattle.wgsl_tree_packed.proofs.simple.pack_assignment.Goals as goal

pub returns : goal.returns
returns c =
    let n = c.args.node.now in
    let o = c.args.out.now.items in
    let p = c.pack_on_expression.new.out.items in
    let q = c.pack_text.new.out.items in
    let r = c.pack_expression_node.new.out.items in
    let head = packed_attribute_line (attributes_view n.attributes.items) in
    let left = packed_expression_node (expression_node_view n.lhs) in
    let operator = packed_text (assignment_operator_text (assignment_operator_view n.operator)) in
    let right = packed_expression_node (expression_node_view n.rhs) in
    on_ok_weaker c.pack_expression_node.result (λ written.
    two_parts o p r (assignment_rule ∷ (head ++ left)) (operator ++ right)
    c.in_ok-pack_on_expression.ensures
    (two_parts p q r operator right (c.in_ok-pack_text.ensures
    ∙ ap (λ t. p ++ packed_text t) c.assignment_operator_word.ensures) written)
    ∙ ap (λ t. o ++ (assignment_rule ∷ t)) (append_assoc head left (operator ++ right)))
    c.pack_expression_node.ensures
