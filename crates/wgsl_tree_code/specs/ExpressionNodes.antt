-- Written by tools/tables/tree_codes.py from crates/wgsl_model/nodes: expressions and types.
use Rattle.std.specs.Prelude.{[], ◌∷◌, codes}
use Rattle.wgsl_model.specs.Trees.Expressions as plain
use Rattle.wgsl_tree_code.specs.Code.{Code, text, natural, boolean, number, absent, list, Codes, no_codes, code_before, node_of, variant, placed}
use Rattle.wgsl_tree_code.specs.OperatorNodes.{binary_operator_code, unary_operator_code}

-- a literal, as `1`, `true` or `2.5f`. A float is its spelling without the suffix
abbrev pub literal_code : plain.LiteralExpression → Code
literal_code (plain.boolean inner) = variant (codes "Bool") (boolean inner)
literal_code (plain.abstract_int inner) = variant (codes "AbstractInt") (number inner)
literal_code (plain.i32 inner) = variant (codes "I32") (number inner)
literal_code (plain.u32 inner) = variant (codes "U32") (natural inner)
literal_code (plain.abstract_float inner) = variant (codes "AbstractFloat") (text inner)
literal_code (plain.f32 inner) = variant (codes "F32") (text inner)
literal_code (plain.f16 inner) = variant (codes "F16") (text inner)

abbrev pub argument_code : Code → Code
argument_code e = node_of ((codes "expression", e) ∷ [])

abbrev mutual
  -- an expression
  pub expression_code : plain.Expression → Code
  expression_code (plain.literal inner) = variant (codes "Literal") (literal_code inner)
  expression_code (plain.parenthesized expression) =
      variant (codes "Parenthesized") (
      node_of ((codes "expression", expression_node_code expression) ∷ []))
  expression_code (plain.named_component base component) =
      variant (codes "NamedComponent") (node_of (
      (codes "component", text component) ∷
      (codes "base", expression_node_code base) ∷
      []))
  expression_code (plain.indexing base index) = variant (codes "Indexing") (node_of (
      (codes "index", expression_node_code index) ∷
      (codes "base", expression_node_code base) ∷
      []))
  expression_code (plain.unary operator operand) = variant (codes "Unary") (node_of (
      (codes "operator", unary_operator_code operator) ∷
      (codes "operand", expression_node_code operand) ∷
      []))
  expression_code (plain.binary operator left right) = variant (codes "Binary") (node_of (
      (codes "operator", binary_operator_code operator) ∷
      (codes "right", expression_node_code right) ∷
      (codes "left", expression_node_code left) ∷
      []))
  expression_code (plain.function_call inner) = variant (codes "FunctionCall") (call_code inner)
  expression_code (plain.type_or_identifier inner) =
      variant (codes "TypeOrIdentifier") (type_code inner)

  pub expression_node_code : plain.ExpressionNode → Code
  expression_node_code (plain.expression_node n span) = placed span (expression_code n)

  -- a call, as `f(a, b)`
  pub call_code : plain.FunctionCall → Code
  call_code (plain.call ty arguments) = node_of (
      (codes "ty", type_code ty) ∷
      (codes "arguments", list (expression_nodes_code arguments)) ∷
      [])

  -- a type or an identifier: a name with or without a template, as `a` or `array<f32, 2>`
  pub type_code : plain.TypeExpression → Code
  type_code (plain.type_expression ident template_args) = node_of (
      (codes "ident", text ident) ∷
      (codes "template_args", template_code template_args) ∷
      [])

  pub expression_nodes_code : plain.ExpressionNodes → Codes
  expression_nodes_code plain.no_expressions = no_codes
  expression_nodes_code (plain.expression_before x xs) =
      code_before (expression_node_code x) (expression_nodes_code xs)

  pub template_expressions_code : plain.ExpressionNodes → Codes
  template_expressions_code plain.no_expressions = no_codes
  template_expressions_code (plain.expression_before x xs) =
      code_before (argument_code (expression_node_code x)) (template_expressions_code xs)

  pub template_code : plain.TemplateArguments → Code
  template_code plain.no_template = absent
  template_code (plain.template x) = list (template_expressions_code x)

-- an argument of a template
abbrev pub template_arg_code : plain.ExpressionNode → Code
template_arg_code e = argument_code (expression_node_code e)
