-- Written by tools/tables/tree_spans.py from crates/wgsl_model/nodes: attributes without their
-- spans.
use Rattle.std.specs.Prelude.{[], ◌∷◌, map, codes, true, ◌≡◌, ◌↔◌}
use Rattle.std.proofs.Common.{refl}
use Rattle.wgsl_model.specs.Trees.Attributes as plain
use Rattle.wgsl_model.specs.Trees.Spanned.{Spanned}
use Rattle.wgsl_model.specs.Trees.Attributes.{Attributes, TypeConstraint}
use Rattle.wgsl_model.specs.Trees.WithoutSpans.{bare_attribute, bare_attributes, bare_custom, bare_expression_node, bare_spanned, bare_type, bare_type_constraint, bare_workgroup_size, no_span}
use Rattle.wgsl_tree_code.specs.Code.{list_of, node_of, placed, text, variant}
use Rattle.wgsl_tree_code.specs.Same.{same, spanless}
use Rattle.wgsl_tree_code.specs.Laws.{same_is}
use Rattle.wgsl_tree_code.proofs.Spanless.{list_spanless, optional_alike, optional_spanless}
use Rattle.wgsl_tree_code.specs.WordNodes.{builtin_value_code, diagnostic_severity_code, interpolation_sampling_code, interpolation_type_code}
use Rattle.wgsl_tree_code.specs.ExpressionNodes.{expression_node_code, type_code}
use Rattle.wgsl_tree_code.specs.AttributeNodes.{attribute_code, attribute_node_code, attributes_code, custom_code, diagnostic_code, interpolate_code, type_constraint_code, workgroup_size_code}
use Rattle.wgsl_tree_code.proofs.ReadAttributeNodes.{attribute_of, attribute_read, custom_attribute_of, custom_attribute_read, diagnostic_attribute_of, diagnostic_attribute_read, interpolate_attribute_of, interpolate_attribute_read, type_constraint_of, type_constraint_read, workgroup_size_attribute_of, workgroup_size_attribute_read}
use Rattle.wgsl_tree_code.proofs.SpanlessExpressionNodes.{expression_node_spanless, type_expression_spanless}

pub diagnostic_attribute_spanless : (x : plain.DiagnosticAttribute) → spanless (diagnostic_code x) ≡ diagnostic_code x
diagnostic_attribute_spanless n =
    λ i. node_of ((codes "severity", diagnostic_severity_code n.severity) ∷ (codes "rule", text n.rule) ∷ [])

pub interpolate_attribute_spanless : (x : plain.InterpolateAttribute)
    → spanless (interpolate_code x) ≡ interpolate_code x
interpolate_attribute_spanless n = λ i. node_of ((codes "ty", interpolation_type_code n.ty)
    ∷ (codes "sampling", optional_alike interpolation_sampling_code (λ x. refl) n.sampling i) ∷ [])

pub workgroup_size_attribute_spanless : (x : plain.WorkgroupSizeAttribute)
    → spanless (workgroup_size_code x) ≡ workgroup_size_code (bare_workgroup_size x)
workgroup_size_attribute_spanless n = λ i. node_of ((codes "x", expression_node_spanless n.x i) ∷ (
  codes "y",
  optional_spanless expression_node_code bare_expression_node expression_node_spanless n.y i,
) ∷ (codes "z", optional_spanless expression_node_code bare_expression_node expression_node_spanless n.z i) ∷ [])

pub type_constraint_spanless : (x : plain.TypeConstraint)
    → spanless (type_constraint_code x) ≡ type_constraint_code (bare_type_constraint x)
type_constraint_spanless n = λ i. node_of ((codes "ident", text n.ident)
    ∷ (codes "variants", list_spanless type_code bare_type type_expression_spanless n.variants i) ∷ [])

pub custom_attribute_spanless : (x : plain.CustomAttribute) → spanless (custom_code x) ≡ custom_code (bare_custom x)
custom_attribute_spanless n = λ i. node_of ((codes "name", text n.name) ∷ (
  codes "arguments",
  optional_spanless (list_of expression_node_code) (map bare_expression_node)
      (list_spanless expression_node_code bare_expression_node expression_node_spanless) n.arguments i,
) ∷ [])

pub diagnostic_attribute_equal : (a b : plain.DiagnosticAttribute)
    → (same (diagnostic_code a) (diagnostic_code b) ≡ true) ↔ (a ≡ b)
diagnostic_attribute_equal = same_is diagnostic_code diagnostic_attribute_of
    (λ t. t) diagnostic_attribute_read diagnostic_attribute_spanless

pub interpolate_attribute_equal : (a b : plain.InterpolateAttribute)
    → (same (interpolate_code a) (interpolate_code b) ≡ true) ↔ (a ≡ b)
interpolate_attribute_equal = same_is interpolate_code interpolate_attribute_of
    (λ t. t) interpolate_attribute_read interpolate_attribute_spanless

pub workgroup_size_attribute_equal : (a b : plain.WorkgroupSizeAttribute)
    → (same (workgroup_size_code a) (workgroup_size_code b) ≡ true) ↔ (bare_workgroup_size a ≡ bare_workgroup_size b)
workgroup_size_attribute_equal = same_is workgroup_size_code workgroup_size_attribute_of
    bare_workgroup_size workgroup_size_attribute_read workgroup_size_attribute_spanless

pub type_constraint_equal : (a b : plain.TypeConstraint)
    → (same (type_constraint_code a) (type_constraint_code b) ≡ true)
    ↔ (bare_type_constraint a ≡ bare_type_constraint b)
type_constraint_equal = same_is type_constraint_code type_constraint_of bare_type_constraint
    type_constraint_read type_constraint_spanless

pub custom_attribute_equal : (a b : plain.CustomAttribute)
    → (same (custom_code a) (custom_code b) ≡ true) ↔ (bare_custom a ≡ bare_custom b)
custom_attribute_equal = same_is custom_code custom_attribute_of bare_custom custom_attribute_read
    custom_attribute_spanless

pub attribute_spanless : (x : plain.Attribute) → spanless (attribute_code x) ≡ attribute_code (bare_attribute x)
attribute_spanless (plain.with_argument plain.align e) = λ i. variant (codes "Align") (expression_node_spanless e i)
attribute_spanless (plain.with_argument plain.binding e) = λ i. variant (codes "Binding") (expression_node_spanless e i)
attribute_spanless (plain.with_argument plain.blend_src e) =
    λ i. variant (codes "BlendSrc") (expression_node_spanless e i)
attribute_spanless (plain.with_argument plain.group e) = λ i. variant (codes "Group") (expression_node_spanless e i)
attribute_spanless (plain.with_argument plain.id e) = λ i. variant (codes "Id") (expression_node_spanless e i)
attribute_spanless (plain.with_argument plain.location e) =
    λ i. variant (codes "Location") (expression_node_spanless e i)
attribute_spanless (plain.with_argument plain.size e) = λ i. variant (codes "Size") (expression_node_spanless e i)
attribute_spanless (plain.with_argument plain.if_attribute e) = λ i. variant (codes "If") (expression_node_spanless e i)
attribute_spanless (plain.with_argument plain.elif_attribute e) =
    λ i. variant (codes "Elif") (expression_node_spanless e i)
attribute_spanless (plain.builtin x) = λ i. variant (codes "Builtin") (builtin_value_code x)
attribute_spanless (plain.without_argument plain.const_attribute) = refl
attribute_spanless (plain.without_argument plain.invariant) = refl
attribute_spanless (plain.without_argument plain.must_use) = refl
attribute_spanless (plain.without_argument plain.vertex) = refl
attribute_spanless (plain.without_argument plain.fragment) = refl
attribute_spanless (plain.without_argument plain.compute) = refl
attribute_spanless (plain.without_argument plain.else_attribute) = refl
attribute_spanless (plain.diagnostic x) = λ i. variant (codes "Diagnostic") (diagnostic_attribute_spanless x i)
attribute_spanless (plain.interpolate x) = λ i. variant (codes "Interpolate") (interpolate_attribute_spanless x i)
attribute_spanless (plain.workgroup_size x) =
    λ i. variant (codes "WorkgroupSize") (workgroup_size_attribute_spanless x i)
attribute_spanless (plain.type_constraint x) = λ i. variant (codes "TypeConstraint") (type_constraint_spanless x i)
attribute_spanless (plain.custom x) = λ i. variant (codes "Custom") (custom_attribute_spanless x i)

pub attribute_node_spanless : (x : Spanned plain.Attribute)
    → spanless (attribute_node_code x) ≡ attribute_node_code (bare_spanned bare_attribute x)
attribute_node_spanless s = λ i. placed no_span (attribute_spanless s.node i)

pub attribute_equal : (a b : plain.Attribute)
    → (same (attribute_code a) (attribute_code b) ≡ true) ↔ (bare_attribute a ≡ bare_attribute b)
attribute_equal = same_is attribute_code attribute_of bare_attribute attribute_read attribute_spanless

pub attributes_spanless : (x : Attributes) → spanless (attributes_code x) ≡ attributes_code (bare_attributes x)
attributes_spanless x = list_spanless attribute_node_code (bare_spanned bare_attribute) attribute_node_spanless x
