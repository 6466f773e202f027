-- The trees of expressions (WGSL, "Expressions", "Literals").
use Rattle.std.specs.Prelude.{ℕ}
-- names of ExpressionNodes, written by tools/tables/plain_nodes.py
pub use Rattle.wgsl_model.specs.Trees.ExpressionNodes.{
  LiteralExpression,
  LiteralExpression.boolean,
  LiteralExpression.abstract_int,
  LiteralExpression.i32,
  LiteralExpression.u32,
  LiteralExpression.abstract_float,
  LiteralExpression.f32,
  LiteralExpression.f16,
  ExpressionNode,
  ExpressionNode.expression_node,
  Expression,
  Expression.literal,
  Expression.parenthesized,
  Expression.named_component,
  Expression.indexing,
  Expression.unary,
  Expression.binary,
  Expression.function_call,
  Expression.type_or_identifier,
  FunctionCall,
  FunctionCall.call,
  TypeExpression,
  TypeExpression.type_expression,
  ExpressionNodes,
  ExpressionNodes.no_expressions,
  ExpressionNodes.expression_before,
  TemplateArguments,
  TemplateArguments.no_template,
  TemplateArguments.template,
  expressions_of,
  template_of,
}

-- where an expression starts
abbrev pub start_of : ExpressionNode → ℕ
start_of (expression_node e s) = s.start

-- where an expression ends
abbrev pub end_of : ExpressionNode → ℕ
end_of (expression_node e s) = s.end
