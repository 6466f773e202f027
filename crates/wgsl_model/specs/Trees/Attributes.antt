-- The trees of attributes (WGSL, "Attributes").
use Rattle.std.specs.Prelude.{List}
use Rattle.wgsl_model.specs.Trees.Spanned.{Spanned}
-- names of AttributeNodes, written by tools/tables/plain_nodes.py
pub use Rattle.wgsl_model.specs.Trees.AttributeNodes.{
  DiagnosticAttribute,
  InterpolateAttribute,
  WorkgroupSizeAttribute,
  TypeConstraint,
  CustomAttribute,
  OneArgument,
  OneArgument.align,
  OneArgument.binding,
  OneArgument.blend_src,
  OneArgument.group,
  OneArgument.id,
  OneArgument.location,
  OneArgument.size,
  OneArgument.if_attribute,
  OneArgument.elif_attribute,
  one_argument_text,
  one_argument_attributes,
  NoArgument,
  NoArgument.const_attribute,
  NoArgument.invariant,
  NoArgument.must_use,
  NoArgument.vertex,
  NoArgument.fragment,
  NoArgument.compute,
  NoArgument.else_attribute,
  no_argument_text,
  no_argument_attributes,
  Attribute,
  Attribute.with_argument,
  Attribute.without_argument,
  Attribute.builtin,
  Attribute.diagnostic,
  Attribute.interpolate,
  Attribute.workgroup_size,
  Attribute.type_constraint,
  Attribute.custom,
}

-- attributes one after another
abbrev pub Attributes : Type 0
Attributes = List (Spanned Attribute)
