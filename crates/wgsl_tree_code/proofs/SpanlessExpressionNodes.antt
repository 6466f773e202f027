-- Written by tools/tables/tree_spans.py from crates/wgsl_model/nodes: expressions and types without
-- their spans.
use Rattle.std.specs.Prelude.{[], ◌∷◌, codes, true, ◌≡◌, ◌↔◌}
use Rattle.std.proofs.Common.{refl}
use Rattle.wgsl_model.specs.Trees.Expressions as plain
use Rattle.wgsl_model.specs.Trees.WithoutSpans.{bare_call, bare_expression, bare_expression_node, bare_expressions, bare_template, bare_type, no_span}
use Rattle.wgsl_tree_code.specs.Code.{boolean, code_before, list, natural, node_of, number, placed, text, variant}
use Rattle.wgsl_tree_code.specs.Same.{same, spanless, spanless_items}
use Rattle.wgsl_tree_code.specs.Laws.{same_is}
use Rattle.wgsl_tree_code.specs.OperatorNodes.{binary_operator_code, unary_operator_code}
use Rattle.wgsl_tree_code.specs.ExpressionNodes.{argument_code, call_code, expression_code, expression_node_code, expression_nodes_code, literal_code, template_code, template_expressions_code, type_code}
use Rattle.wgsl_tree_code.proofs.ReadExpressionNodes.{expression_node_of, expression_node_read, expression_of, expression_read, function_call_of, function_call_read, literal_expression_of, literal_expression_read, type_expression_of, type_expression_read}

pub literal_expression_spanless : (x : plain.LiteralExpression) → spanless (literal_code x) ≡ literal_code x
literal_expression_spanless (plain.boolean x) = λ i. variant (codes "Bool") (boolean x)
literal_expression_spanless (plain.abstract_int x) = λ i. variant (codes "AbstractInt") (number x)
literal_expression_spanless (plain.i32 x) = λ i. variant (codes "I32") (number x)
literal_expression_spanless (plain.u32 x) = λ i. variant (codes "U32") (natural x)
literal_expression_spanless (plain.abstract_float x) = λ i. variant (codes "AbstractFloat") (text x)
literal_expression_spanless (plain.f32 x) = λ i. variant (codes "F32") (text x)
literal_expression_spanless (plain.f16 x) = λ i. variant (codes "F16") (text x)

pub literal_expression_equal : (a b : plain.LiteralExpression)
    → (same (literal_code a) (literal_code b) ≡ true) ↔ (a ≡ b)
literal_expression_equal = same_is literal_code literal_expression_of
    (λ t. t) literal_expression_read literal_expression_spanless

mutual
  pub expression_spanless : (x : plain.Expression) → spanless (expression_code x) ≡ expression_code (bare_expression x)
  expression_spanless (plain.literal x) = λ i. variant (codes "Literal") (literal_expression_spanless x i)
  expression_spanless (plain.parenthesized expression) = λ i. variant (codes "Parenthesized")
      (node_of ((codes "expression", expression_node_spanless expression i) ∷ []))
  expression_spanless (plain.named_component base component) = λ i. variant (codes "NamedComponent")
      (node_of ((codes "component", text component) ∷ (codes "base", expression_node_spanless base i) ∷ []))
  expression_spanless (plain.indexing base index) =
      λ i. variant (codes "Indexing") (node_of ((codes "index", expression_node_spanless index i)
      ∷ (codes "base", expression_node_spanless base i) ∷ []))
  expression_spanless (plain.unary operator operand) =
      λ i. variant (codes "Unary") (node_of ((codes "operator", unary_operator_code operator)
      ∷ (codes "operand", expression_node_spanless operand i) ∷ []))
  expression_spanless (plain.binary operator left right) =
      λ i. variant (codes "Binary") (node_of ((codes "operator", binary_operator_code operator)
      ∷ (codes "right", expression_node_spanless right i) ∷ (codes "left", expression_node_spanless left i) ∷ []))
  expression_spanless (plain.function_call x) = λ i. variant (codes "FunctionCall") (function_call_spanless x i)
  expression_spanless (plain.type_or_identifier x) =
      λ i. variant (codes "TypeOrIdentifier") (type_expression_spanless x i)

  pub expression_node_spanless : (x : plain.ExpressionNode)
      → spanless (expression_node_code x) ≡ expression_node_code (bare_expression_node x)
  expression_node_spanless (plain.expression_node n span) = λ i. placed no_span (expression_spanless n i)

  pub function_call_spanless : (x : plain.FunctionCall) → spanless (call_code x) ≡ call_code (bare_call x)
  function_call_spanless (plain.call ty arguments) =
      λ i. node_of ((codes "ty", type_expression_spanless ty i)
      ∷ (codes "arguments", list (expression_nodes_spanless arguments i)) ∷ [])

  pub type_expression_spanless : (x : plain.TypeExpression) → spanless (type_code x) ≡ type_code (bare_type x)
  type_expression_spanless (plain.type_expression ident template_args) =
      λ i. node_of ((codes "ident", text ident)
      ∷ (codes "template_args", template_arguments_spanless template_args i) ∷ [])

  pub expression_nodes_spanless : (x : plain.ExpressionNodes)
      → spanless_items (expression_nodes_code x) ≡ expression_nodes_code (bare_expressions x)
  expression_nodes_spanless plain.no_expressions = refl
  expression_nodes_spanless (plain.expression_before x xs) =
      λ i. code_before (expression_node_spanless x i) (expression_nodes_spanless xs i)

  pub template_expressions_spanless : (x : plain.ExpressionNodes)
      → spanless_items (template_expressions_code x) ≡ template_expressions_code (bare_expressions x)
  template_expressions_spanless plain.no_expressions = refl
  template_expressions_spanless (plain.expression_before x xs) =
      λ i. code_before (argument_code (expression_node_spanless x i)) (template_expressions_spanless xs i)

  pub template_arguments_spanless : (x : plain.TemplateArguments)
      → spanless (template_code x) ≡ template_code (bare_template x)
  template_arguments_spanless plain.no_template = refl
  template_arguments_spanless (plain.template x) = λ i. list (template_expressions_spanless x i)

pub expression_equal : (a b : plain.Expression)
    → (same (expression_code a) (expression_code b) ≡ true) ↔ (bare_expression a ≡ bare_expression b)
expression_equal = same_is expression_code expression_of bare_expression expression_read expression_spanless

pub expression_node_equal : (a b : plain.ExpressionNode)
    → (same (expression_node_code a) (expression_node_code b) ≡ true)
    ↔ (bare_expression_node a ≡ bare_expression_node b)
expression_node_equal = same_is expression_node_code expression_node_of bare_expression_node
    expression_node_read expression_node_spanless

pub function_call_equal : (a b : plain.FunctionCall)
    → (same (call_code a) (call_code b) ≡ true) ↔ (bare_call a ≡ bare_call b)
function_call_equal = same_is call_code function_call_of bare_call function_call_read function_call_spanless

pub type_expression_equal : (a b : plain.TypeExpression)
    → (same (type_code a) (type_code b) ≡ true) ↔ (bare_type a ≡ bare_type b)
type_expression_equal = same_is type_code type_expression_of bare_type type_expression_read type_expression_spanless
