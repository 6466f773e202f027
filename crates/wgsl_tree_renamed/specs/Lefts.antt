-- What is around the left side of an expression, from the outside in.
use Rattle.std.specs.Prelude.{◌≡◌, ◌<◌, List, [], ◌∷◌}
use Rattle.wgsl_model.specs.Trees.Expressions as plain
use Rattle.wgsl_model_names.specs.Renamed.{Renaming, renamed_expression, renamed_node}
use Rattle.wgsl_span.specs.declared.Span.{Span}
use Rattle.wgsl_span.specs.View.{span_view}
use Rattle.wgsl_tree_words.specs.View.{binary_operator_view}
use Rattle.wgsl_tree_expression.specs.declared.expression.Expression.{Expression}
use Rattle.wgsl_tree_expression.specs.declared.expression.Expression.TheViews.{size-Expression}
use Rattle.wgsl_tree_expression.specs.View.{ident_name, expression_node_view, expression_view}
use Rattle.wgsl_tree_renamed.specs.declared.surrounding.Surrounding.{Surrounding}
use Rattle.wgsl_tree_renamed.specs.declared.surrounding.Surrounding.TheVariants.{Component, Index, Operation}
use Rattle.wgsl_tree_renamed.specs.declared.expression.Outermost.{Outermost}
use Rattle.wgsl_tree_renamed.specs.declared.expression.Outermost.TheVariants.{Whole, Around}

-- the expression with this on its left side
abbrev pub around : Surrounding → plain.ExpressionNode → plain.Expression
around (Component component) base = plain.named_component base (ident_name component)
around (Index index) base = plain.indexing base (expression_node_view index)
around (Operation operator right) left =
    plain.binary (binary_operator_view operator) left (expression_node_view right)

-- the expression with this innermost
abbrev pub all_around : List (Span × Surrounding) → plain.ExpressionNode → plain.ExpressionNode
all_around [] node = node
all_around (s ∷ more) node =
    plain.expression_node (around s.1 (all_around more node)) (span_view s.0)

-- an expression is renamed but for its left side, which is smaller
abbrev pub IsRenamed : Renaming → Expression → Outermost → Type 0
IsRenamed f e (Whole copy) = expression_view copy ≡ renamed_expression f (expression_view e)
IsRenamed f e (Around surrounding left) =
    (around surrounding (renamed_node f (expression_node_view left.now))
    ≡ renamed_expression f (expression_view e))
    × (size-Expression left.now.node.value < size-Expression e)
