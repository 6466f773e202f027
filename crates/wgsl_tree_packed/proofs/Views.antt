-- What the views of expressions with a left side are of one layer.
use Rattle.std.proofs.Common.{◌≡◌}
use Rattle.wgsl_model.specs.Trees.Expressions as plain
use Rattle.wgsl_tree_expression.specs.declared.binary.BinaryExpression.{BinaryExpression}
use Rattle.wgsl_tree_expression.specs.declared.indexing.IndexingExpression.{IndexingExpression}
use Rattle.wgsl_tree_expression.specs.declared.expression.Expression.TheFolds as folds
use Rattle.wgsl_tree_expression.specs.declared.expression.Expression.TheViews as layers
use Rattle.wgsl_tree_expression.specs.View as V
use Rattle.wgsl_tree_expression.proofs.Views.{for_views}
use Rattle.wgsl_tree_words.specs.View.{binary_operator_view}

pub indexing_view_out : (e : IndexingExpression) → V.indexing_expression_view e
    ≡ plain.indexing (V.expression_node_view (layers.out-IndexingExpression e).base)
    (V.expression_node_view (layers.out-IndexingExpression e).index)
indexing_view_out e = for_views folds.fold_out-IndexingExpression e

pub binary_view_out : (e : BinaryExpression) → V.binary_expression_view e
    ≡ plain.binary (binary_operator_view (layers.out-BinaryExpression e).operator)
    (V.expression_node_view (layers.out-BinaryExpression e).left)
    (V.expression_node_view (layers.out-BinaryExpression e).right)
binary_view_out e = for_views folds.fold_out-BinaryExpression e
