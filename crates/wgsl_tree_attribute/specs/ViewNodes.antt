-- Written by tools/tables/tree_views.py from crates/wgsl_model/nodes: attributes as plain data.
use Rattle.std.specs.Prelude.{List, map, string_bytes}
use Rattle.std.specs.Option.{option_map}
use Rattle.std.specs.declared.vec.Vec.{Vec}
use Rattle.std.specs.declared.alloc.Global.{Global}
use Rattle.wgsl_model.specs.Trees.Attributes as plain
use Rattle.wgsl_model.specs.Trees.Expressions as plain_expression
use Rattle.wgsl_span.specs.declared.Spanned.{Spanned}
use Rattle.wgsl_tree_expression.specs.declared.expression.Expression.{Expression}
use Rattle.wgsl_tree_attribute.specs.declared.diagnostic.DiagnosticAttribute.{DiagnosticAttribute}
use Rattle.wgsl_tree_attribute.specs.declared.interpolate.InterpolateAttribute.{InterpolateAttribute}
use Rattle.wgsl_tree_attribute.specs.declared.workgroup_size.WorkgroupSizeAttribute.{WorkgroupSizeAttribute}
use Rattle.wgsl_tree_attribute.specs.declared.type_constraint.TypeConstraint.{TypeConstraint}
use Rattle.wgsl_tree_attribute.specs.declared.custom.CustomAttribute.{CustomAttribute}
use Rattle.wgsl_tree_attribute.specs.declared.attribute.Attribute.{Attribute}
use Rattle.wgsl_tree_attribute.specs.declared.attribute.Attribute.TheVariants as variant
use Rattle.wgsl_tree_expression.specs.View.{expression_node_view}
use Rattle.wgsl_tree_expression.specs.View.{ident_name}
use Rattle.wgsl_tree_expression.specs.View.{type_expression_view}
use Rattle.wgsl_tree_words.specs.View.{builtin_value_view}
use Rattle.wgsl_tree_words.specs.View.{interpolation_sampling_view}
use Rattle.wgsl_tree_words.specs.View.{interpolation_type_view}
use Rattle.wgsl_tree_words.specs.View.{severity_view}

-- expressions in a vector
abbrev pub expressions_view : Vec (Spanned Expression) Global
    → List plain_expression.ExpressionNode
expressions_view v = map expression_node_view v.items

abbrev pub diagnostic_view : DiagnosticAttribute → plain.DiagnosticAttribute
diagnostic_view node = record {
  severity = severity_view node.severity;
  rule = string_bytes node.rule;
}

abbrev pub interpolate_view : InterpolateAttribute → plain.InterpolateAttribute
interpolate_view node = record {
  ty = interpolation_type_view node.ty;
  sampling = option_map interpolation_sampling_view node.sampling;
}

abbrev pub workgroup_size_view : WorkgroupSizeAttribute → plain.WorkgroupSizeAttribute
workgroup_size_view node = record {
  x = expression_node_view node.x;
  y = option_map expression_node_view node.y;
  z = option_map expression_node_view node.z;
}

abbrev pub type_constraint_view : TypeConstraint → plain.TypeConstraint
type_constraint_view node = record {
  ident = ident_name node.ident;
  variants = map type_expression_view node.variants.items;
}

abbrev pub custom_view : CustomAttribute → plain.CustomAttribute
custom_view node = record {
  name = string_bytes node.name;
  arguments = option_map expressions_view node.arguments;
}

abbrev pub attribute_view : Attribute → plain.Attribute
attribute_view (variant.Align e) = plain.with_argument plain.align (expression_node_view e)
attribute_view (variant.Binding e) = plain.with_argument plain.binding (expression_node_view e)
attribute_view (variant.BlendSrc e) = plain.with_argument plain.blend_src (expression_node_view e)
attribute_view (variant.Group e) = plain.with_argument plain.group (expression_node_view e)
attribute_view (variant.Id e) = plain.with_argument plain.id (expression_node_view e)
attribute_view (variant.Location e) = plain.with_argument plain.location (expression_node_view e)
attribute_view (variant.Size e) = plain.with_argument plain.size (expression_node_view e)
attribute_view (variant.If e) = plain.with_argument plain.if_attribute (expression_node_view e)
attribute_view (variant.Elif e) = plain.with_argument plain.elif_attribute (expression_node_view e)
attribute_view (variant.Builtin e) = plain.builtin (builtin_value_view e)
attribute_view variant.Const = plain.without_argument plain.const_attribute
attribute_view variant.Invariant = plain.without_argument plain.invariant
attribute_view variant.MustUse = plain.without_argument plain.must_use
attribute_view variant.Vertex = plain.without_argument plain.vertex
attribute_view variant.Fragment = plain.without_argument plain.fragment
attribute_view variant.Compute = plain.without_argument plain.compute
attribute_view variant.Else = plain.without_argument plain.else_attribute
attribute_view (variant.Diagnostic e) = plain.diagnostic (diagnostic_view e)
attribute_view (variant.Interpolate e) = plain.interpolate (interpolate_view e)
attribute_view (variant.WorkgroupSize e) = plain.workgroup_size (workgroup_size_view e)
attribute_view (variant.TypeConstraint e) = plain.type_constraint (type_constraint_view e)
attribute_view (variant.Custom e) = plain.custom (custom_view e)
