use Rattle.std.proofs.Common.{◌≡◌, ◌∙◌, sym, ap}
use Rattle.wgsl_span.specs.View.{span_view}
use Rattle.wgsl_model.specs.Trees.Expressions.{expression_node}
use Rattle.wgsl_tree_expression.specs.View.{expression_node_view, expression_view}
use Rattle.wgsl_tree_renamed.specs.Lefts.{all_around, around}
use Rattle.wgsl_tree_renamed.proofs.Chains.{one_less_around}
use Rattle.wgsl_tree_renamed.proofs.surrounding.put_around.Goals as goal

pub outward-preserved : goal.outward-preserved
outward-preserved c =
    let span = c.in-Some.span in
    let made : expression_node_view c.in_ok-node.node
    ≡ expression_node (around c.in-Some.surrounding (expression_node_view c.outward.node)) (span_view span) =
    ap (λ e. expression_node (expression_view e) (span_view c.in_ok-node.node.span)) c.in_ok-node.ensures.node
    ∙ ap (λ s. expression_node (expression_view c.around.result) (span_view s)) c.in_ok-node.ensures.span
    ∙ ap (λ e. expression_node e (span_view span)) c.around.ensures in
    ap (all_around c.pop.new.self.items) made
    ∙ sym (one_less_around c.pop.new.self.items (span, c.in-Some.surrounding) (expression_node_view c.outward.node))
    ∙ ap (λ above. all_around above (expression_node_view c.outward.node)) (sym c.in-Some.ensures.items)
    ∙ c.outward.invariant
