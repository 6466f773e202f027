-- Trees with their spans set aside: each span is 0 to 0.
use Rattle.std.specs.Prelude.{map}
use Rattle.std.specs.Option.{option_map}
use Rattle.grammar.specs.Tokens.{Span}
use Rattle.wgsl_model.specs.Trees.Spanned.{Spanned}
use Rattle.wgsl_model.specs.Trees.Expressions.{ExpressionNode, expression_node, Expression, literal, parenthesized, named_component, indexing, unary, binary, function_call, type_or_identifier, FunctionCall, call, TypeExpression, type_expression, TemplateArguments, no_template, template, ExpressionNodes, no_expressions, expression_before}
use Rattle.wgsl_model.specs.Trees.Attributes.{Attribute, with_argument, Attribute.workgroup_size, Attribute.type_constraint, Attribute.custom, Attributes, WorkgroupSizeAttribute, TypeConstraint, CustomAttribute}

-- the span that replaces every span
abbrev pub no_span : Span
no_span = record { start = 0; end = 0 }

-- a node without the spans in it and its own
abbrev pub bare_spanned : {Node : Type 0} → (Node → Node) → Spanned Node → Spanned Node
bare_spanned bare s = record { node = bare s.node; span = no_span }

abbrev mutual
  pub bare_expression : Expression → Expression
  bare_expression (literal l) = literal l
  bare_expression (parenthesized e) = parenthesized (bare_expression_node e)
  bare_expression (named_component base component) = named_component (bare_expression_node base) component
  bare_expression (indexing base index) = indexing (bare_expression_node base) (bare_expression_node index)
  bare_expression (unary operator operand) = unary operator (bare_expression_node operand)
  bare_expression (binary operator left right) = binary operator (bare_expression_node left)
      (bare_expression_node right)
  bare_expression (function_call c) = function_call (bare_call c)
  bare_expression (type_or_identifier t) = type_or_identifier (bare_type t)

  pub bare_expression_node : ExpressionNode → ExpressionNode
  bare_expression_node (expression_node e span) = expression_node (bare_expression e) no_span

  pub bare_expressions : ExpressionNodes → ExpressionNodes
  bare_expressions no_expressions = no_expressions
  bare_expressions (expression_before e es) = expression_before (bare_expression_node e) (bare_expressions es)

  pub bare_call : FunctionCall → FunctionCall
  bare_call (call ty arguments) = call (bare_type ty) (bare_expressions arguments)

  pub bare_type : TypeExpression → TypeExpression
  bare_type (type_expression name arguments) = type_expression name (bare_template arguments)

  pub bare_template : TemplateArguments → TemplateArguments
  bare_template no_template = no_template
  bare_template (template arguments) = template (bare_expressions arguments)

-- attributes
abbrev pub bare_workgroup_size : WorkgroupSizeAttribute → WorkgroupSizeAttribute
bare_workgroup_size w = record {
  x = bare_expression_node w.x;
  y = option_map bare_expression_node w.y;
  z = option_map bare_expression_node w.z;
}

abbrev pub bare_type_constraint : TypeConstraint → TypeConstraint
bare_type_constraint t = record t { variants = map bare_type t.variants }

abbrev pub bare_custom : CustomAttribute → CustomAttribute
bare_custom c = record c { arguments = option_map (map bare_expression_node) c.arguments }

abbrev pub bare_attribute : Attribute → Attribute
bare_attribute (with_argument name e) = with_argument name (bare_expression_node e)
bare_attribute (workgroup_size w) = workgroup_size (bare_workgroup_size w)
bare_attribute (type_constraint t) = type_constraint (bare_type_constraint t)
bare_attribute (custom c) = custom (bare_custom c)
bare_attribute a = a

abbrev pub bare_attributes : Attributes → Attributes
bare_attributes = map (bare_spanned bare_attribute)
