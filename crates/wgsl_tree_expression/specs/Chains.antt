-- What goes down on the left side of an expression: operands, and what components and elements are
-- taken of.
use Rattle.std.specs.Prelude.{ℕ, zero, suc, Bool, ◌&&◌, List, [], ◌++◌, codes, if◌then◌else◌}
use Rattle.wgsl_model.specs.Printed.Operators.{binary_operator_text}
use Rattle.wgsl_model.specs.Trees.Expressions.{ExpressionNode, expression_node, Expression, named_component, indexing, binary}
use Rattle.wgsl_tree_words.specs.View.{binary_operator_view}
use Rattle.wgsl_tree_code.specs.Same.{same}
use Rattle.wgsl_tree_code.specs.OperatorNodes.{binary_operator_code}
use Rattle.wgsl_tree_code.specs.ExpressionNodes.{expression_node_code}
use Rattle.wgsl_tree_expression.specs.declared.binary.BinaryExpression.{BinaryExpression}
use Rattle.wgsl_tree_expression.specs.declared.expression.Expression.TheViews.{out-BinaryExpression}
use Rattle.wgsl_tree_expression.specs.View.{expression_node_view}
use Rattle.wgsl_model.specs.Printed.Expressions.{print_expression_node, is_abstract_int, expression_in}

-- what is on the left, or the node itself where nothing does
abbrev pub left_of : ExpressionNode → ExpressionNode
left_of (expression_node (named_component base component) span) = base
left_of (expression_node (indexing base index) span) = base
left_of (expression_node (binary operator left right) span) = left
left_of node = node

-- how many steps lead down
abbrev mutual
  pub steps_in : ExpressionNode → ℕ
  steps_in (expression_node e span) = steps_of e

  pub steps_of : Expression → ℕ
  steps_of (named_component base component) = suc (steps_in base)
  steps_of (indexing base index) = suc (steps_in base)
  steps_of (binary operator left right) = suc (steps_in left)
  steps_of e = 0

-- what is some steps down
abbrev pub below : ℕ → ExpressionNode → ExpressionNode
below zero node = node
below (suc n) node = below n (left_of node)

-- what is printed after the left side
abbrev pub text_after : Expression → List ℕ
text_after (named_component base component) =
    (if is_abstract_int (expression_in base) then codes " ." else codes ".") ++ component
text_after (indexing base index) = codes "[" ++ print_expression_node index ++ codes "]"
text_after (binary operator left right) = codes " " ++ binary_operator_text operator ++ codes " "
    ++ print_expression_node right
text_after e = []

-- what is printed after what is some steps down
abbrev pub text_above : ℕ → ExpressionNode → List ℕ
text_above zero node = []
text_above (suc n) node = text_above n (left_of node) ++ text_after (expression_in node)

-- the same with something else on the left
abbrev pub with_left : Expression → ExpressionNode → Expression
with_left (named_component base component) left = named_component left component
with_left (indexing base index) left = indexing left index
with_left (binary operator first right) left = binary operator left right
with_left e left = e

-- two with operators between their operands are the same but for their left operands
abbrev pub same_after : BinaryExpression → BinaryExpression → Bool
same_after x y =
    same (binary_operator_code (binary_operator_view (out-BinaryExpression x).operator))
    (binary_operator_code (binary_operator_view (out-BinaryExpression y).operator))
    && same (expression_node_code (expression_node_view (out-BinaryExpression x).right))
    (expression_node_code (expression_node_view (out-BinaryExpression y).right))
