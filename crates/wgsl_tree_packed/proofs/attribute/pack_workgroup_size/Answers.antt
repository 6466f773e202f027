use Rattle.std.proofs.Common.{◌++◌, ◌∷◌, []}
use Rattle.std.specs.Option.{option_map}
use Rattle.std.proofs.lemmas.Result.{on_ok_weaker}
use Rattle.wgsl_model_packed.specs.Expressions.{packed_expression_node, packed_optional}
use Rattle.wgsl_model_packed.specs.Rules.{further_node_rule, workgroup_size_rule}
use Rattle.wgsl_tree_expression.specs.View.{expression_node_view}
use Rattle.wgsl_tree_packed.proofs.Lists.{two_parts}
use Rattle.wgsl_tree_packed.proofs.attribute.pack_workgroup_size.Goals as goal

pub returns : goal.returns
returns c =
    let n = c.args.node.now in
    let o = c.args.out.now.items in
    let p = c.pack_rule.new.out.items in
    let q = c.pack_expression_node.new.out.items in
    let r = c.pack_optional.new.out.items in
    let s = c.pack_optional-2.new.out.items in
    let x = packed_expression_node (expression_node_view n.x) in
    let y = packed_optional further_node_rule packed_expression_node (option_map expression_node_view n.y) in
    let z = packed_optional further_node_rule packed_expression_node (option_map expression_node_view n.z) in
    on_ok_weaker c.pack_optional-2.result (λ written.
    two_parts o p s (workgroup_size_rule ∷ []) (x ++ (y ++ z)) c.in_ok-pack_rule.ensures
    (two_parts p q s x (y ++ z) c.in_ok-pack_expression_node.ensures
    (two_parts q r s y z c.in_ok-pack_optional.ensures written))) c.pack_optional-2.ensures
