use Rattle.std.proofs.Common.{◌≡◌, ◌+◌, ◌*◌, ◌≤◌, drop}
use Rattle.wgsl_tree_code.specs.Same.{same}
use Rattle.wgsl_tree_code.specs.ExpressionNodes.{expression_code}
use Rattle.wgsl_tree_expression.specs.View.{expression_view}
use Rattle.wgsl_tree_expression.specs.declared.expression.Expression.TheViews.{out-FunctionCall, size-Expression, size-BinaryExpression, size-FunctionCall, size-IndexingExpression, size-NamedComponentExpression, size-ParenthesizedExpression, size-TemplateArg, size-TypeExpression, size-UnaryExpression}
use Rattle.wgsl_tree_code.specs.Lists.{all_same}
use Rattle.wgsl_tree_expression.proofs.Equalities.{node_code, arg_code}
use Rattle.wgsl_tree_expression.proofs.+equal.Given as goal

abbrev pub invariant-function_call::FunctionCallPartialEq::eq-arguments :
    goal.invariant-function_call::FunctionCallPartialEq::eq-arguments
invariant-function_call::FunctionCallPartialEq::eq-arguments l =
    all_same node_code (out-FunctionCall l.self).arguments.items (out-FunctionCall l.other).arguments.items
    ≡ all_same node_code (drop l.i (out-FunctionCall l.self).arguments.items)
    (drop l.i (out-FunctionCall l.other).arguments.items)

abbrev pub invariant-type_expression::TypeExpressionPartialEq::eq-arguments :
    goal.invariant-type_expression::TypeExpressionPartialEq::eq-arguments
invariant-type_expression::TypeExpressionPartialEq::eq-arguments l =
    all_same arg_code l.a.items l.b.items ≡ all_same arg_code (drop l.i l.a.items) (drop l.i l.b.items)

abbrev pub decreases-expression::ExpressionPartialEq::eq : goal.decreases-expression::ExpressionPartialEq::eq
decreases-expression::ExpressionPartialEq::eq l = 2 * size-Expression l.self.now

abbrev pub decreases-binary::BinaryExpressionPartialEq::eq : goal.decreases-binary::BinaryExpressionPartialEq::eq
decreases-binary::BinaryExpressionPartialEq::eq l = 2 * size-BinaryExpression l.self.now

abbrev pub decreases-function_call::FunctionCallPartialEq::eq : goal.decreases-function_call::FunctionCallPartialEq::eq
decreases-function_call::FunctionCallPartialEq::eq l = 2 * size-FunctionCall l.self.now

abbrev pub decreases-indexing::IndexingExpressionPartialEq::eq :
    goal.decreases-indexing::IndexingExpressionPartialEq::eq
decreases-indexing::IndexingExpressionPartialEq::eq l = 2 * size-IndexingExpression l.self.now

abbrev pub decreases-named_component::NamedComponentExpressionPartialEq::eq :
    goal.decreases-named_component::NamedComponentExpressionPartialEq::eq
decreases-named_component::NamedComponentExpressionPartialEq::eq l = 2 * size-NamedComponentExpression l.self.now

abbrev pub decreases-parenthesized::ParenthesizedExpressionPartialEq::eq :
    goal.decreases-parenthesized::ParenthesizedExpressionPartialEq::eq
decreases-parenthesized::ParenthesizedExpressionPartialEq::eq l = 2 * size-ParenthesizedExpression l.self.now

abbrev pub decreases-type_expression::TemplateArgPartialEq::eq :
    goal.decreases-type_expression::TemplateArgPartialEq::eq
decreases-type_expression::TemplateArgPartialEq::eq l = 2 * size-TemplateArg l.self.now

abbrev pub decreases-type_expression::TypeExpressionPartialEq::eq :
    goal.decreases-type_expression::TypeExpressionPartialEq::eq
decreases-type_expression::TypeExpressionPartialEq::eq l = 2 * size-TypeExpression l.self.now

abbrev pub decreases-unary::UnaryExpressionPartialEq::eq : goal.decreases-unary::UnaryExpressionPartialEq::eq
decreases-unary::UnaryExpressionPartialEq::eq l = 2 * size-UnaryExpression l.self.now

abbrev pub decreases-binary::equal_after : goal.decreases-binary::equal_after
decreases-binary::equal_after l = 2 * size-BinaryExpression l.x.now

abbrev pub decreases-chain::equal_chains : goal.decreases-chain::equal_chains
decreases-chain::equal_chains l = 2 * size-Expression l.a.now.node.value + 1

abbrev pub invariant-chain::equal_chains-steps : goal.invariant-chain::equal_chains-steps
invariant-chain::equal_chains-steps l =
    (same (expression_code (expression_view l.fn.a.node.value)) (expression_code (expression_view l.fn.b.node.value))
    ≡ same (expression_code (expression_view l.first)) (expression_code (expression_view l.second)))
    × (size-Expression l.first ≤ size-Expression l.fn.a.node.value)

abbrev pub decreases-chain::equal_chains-steps : goal.decreases-chain::equal_chains-steps
decreases-chain::equal_chains-steps l = size-Expression l.first
