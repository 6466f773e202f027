-- Written by tools/tables/plain_nodes.py from crates/wgsl_model/nodes: the trees of expressions.
use Rattle.std.specs.Prelude.{Bool, ℕ, ℤ, List, [], ◌∷◌, Option, Some, None}
use Rattle.grammar.specs.Tokens.{Span}
use Rattle.wgsl_model.specs.Trees.Operators.{UnaryOperator, BinaryOperator}

-- a literal, as `1`, `true` or `2.5f`. A float is its spelling without the suffix
pub data LiteralExpression : Type 0 where
  boolean : Bool → LiteralExpression
  abstract_int i32 : ℤ → LiteralExpression
  u32 : ℕ → LiteralExpression
  abstract_float f32 f16 : List ℕ → LiteralExpression

mutual
  -- an expression with its place
  pub data ExpressionNode : Type 0 where
    expression_node : Expression → Span → ExpressionNode

  -- an expression
  pub data Expression : Type 0 where
    literal : LiteralExpression → Expression
    parenthesized : ExpressionNode → Expression
    named_component : ExpressionNode → List ℕ → Expression
    indexing : ExpressionNode → ExpressionNode → Expression
    unary : UnaryOperator → ExpressionNode → Expression
    binary : BinaryOperator → ExpressionNode → ExpressionNode → Expression
    function_call : FunctionCall → Expression
    type_or_identifier : TypeExpression → Expression

  -- a call, as `f(a, b)`: its type and arguments
  pub data FunctionCall : Type 0 where
    call : TypeExpression → ExpressionNodes → FunctionCall

  -- a type or an identifier: a name with or without a template, as `a` or `array<f32, 2>`; its name
  -- and template arguments
  pub data TypeExpression : Type 0 where
    type_expression : List ℕ → TemplateArguments → TypeExpression

  -- expressions
  pub data ExpressionNodes : Type 0 where
    no_expressions : ExpressionNodes
    expression_before : ExpressionNode → ExpressionNodes → ExpressionNodes

  -- template arguments, or none
  pub data TemplateArguments : Type 0 where
    no_template : TemplateArguments
    template : ExpressionNodes → TemplateArguments

-- the expressions of a list
abbrev pub expressions_of : List ExpressionNode → ExpressionNodes
expressions_of [] = no_expressions
expressions_of (x ∷ xs) = expression_before x (expressions_of xs)

-- template arguments, or none
abbrev pub template_of : Option (List ExpressionNode) → TemplateArguments
template_of None = no_template
template_of (Some x) = template (expressions_of x)
