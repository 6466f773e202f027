use Rattle.std.proofs.Common.{◌≡◌, Some, sym, ◌∙◌, ap, subst}
use Rattle.std.specs.Fn.{CalledAtMut}
use Rattle.std.specs.List.Retain.{RetainsInTurn}
use Rattle.std.specs.Option.{option_map}
use Rattle.wgsl_span.specs.Keeps.{NodeCalled}
use Rattle.wgsl_tree_node.specs.Parts.{attributes_in}
use Rattle.wgsl_tree_node.proofs.node_parts.AnySyntaxNode.retain_attributes_mut.Goals as goal

pub returns-in-Some-clause-kept : goal.returns-in-Some-clause-kept
returns-in-Some-clause-kept g c =
    let R = NodeCalled (CalledAtMut g.F.FnMut) in
    let node = g.T.NodeAttributes in
    let before = c.in-Some.list.now in
    let left = c.retain_nodes.new.nodes in
    let was : Some before ≡ node.list_of c.args.self.now = c.in-Some.ensures.value in
    let is : node.list_of (node.with_list c.args.self.now left) ≡ Some left =
    c.in-Some.ensures.change left ∙ ap (option_map (λ _. left)) (sym was) in
    subst (λ list. RetainsInTurn R c.args.f (attributes_in list)
    (attributes_in (node.list_of (node.with_list c.args.self.now left)))) was
    (subst (λ list. RetainsInTurn R c.args.f before.items (attributes_in list)) (sym is) c.retain_nodes.ensures)
