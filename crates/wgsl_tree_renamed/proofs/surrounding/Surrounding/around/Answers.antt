use Rattle.std.proofs.Common.{sym, ap, ◌∙◌}
use Rattle.wgsl_tree_expression.specs.View.{expression_node_view}
use Rattle.wgsl_tree_renamed.specs.Lefts.{around}
use Rattle.wgsl_tree_renamed.proofs.Views.{binary_view, component_view, indexing_view}
use Rattle.wgsl_tree_renamed.proofs.surrounding.Surrounding.around.Goals as goal

pub returns-in-Component : goal.returns-in-Component
returns-in-Component c = component_view c.args.left c.in-Component.component
    ∙ ap (λ o. around o (expression_node_view c.args.left)) (sym c.in-Component.is)

pub returns-in-Index : goal.returns-in-Index
returns-in-Index c = indexing_view c.args.left c.in-Index.index
    ∙ ap (λ o. around o (expression_node_view c.args.left)) (sym c.in-Index.is)

pub returns-in-Operation : goal.returns-in-Operation
returns-in-Operation c = binary_view c.in-Operation.operator c.args.left c.in-Operation.right
    ∙ ap (λ o. around o (expression_node_view c.args.left)) (sym c.in-Operation.is)
