-- Written by tools/tables/tree_readers.py from crates/wgsl_model/nodes: attributes read from their
-- codes.
use Rattle.std.specs.Prelude.{[], ◌∷◌, Option, None, Some, codes, ◌≡◌}
use Rattle.std.proofs.Common.{refl}
use Rattle.wgsl_model.specs.Trees.Attributes as plain
use Rattle.wgsl_model.specs.Trees.Spanned.{Spanned, spanned}
use Rattle.wgsl_model.specs.Trees.Attributes.{Attributes, TypeConstraint}
use Rattle.wgsl_tree_code.specs.Code.{Code, field, list_of, no_fields, node, text}
use Rattle.wgsl_tree_code.proofs.Reading.{chosen, expression_node_there, items_read, list_read_of, named, optional_of, optional_read, span_of, text_of, text_read, then_of}
use Rattle.wgsl_tree_code.specs.WordNodes.{interpolation_sampling_code}
use Rattle.wgsl_tree_code.proofs.ReadWordNodes.{builtin_value_of, builtin_value_read, diagnostic_severity_of, diagnostic_severity_read, interpolation_sampling_of, interpolation_sampling_read, interpolation_type_of, interpolation_type_read}
use Rattle.wgsl_tree_code.specs.ExpressionNodes.{expression_node_code, type_code}
use Rattle.wgsl_tree_code.proofs.ReadExpressionNodes.{expression_node_of, expression_node_read, type_expression_of, type_expression_read}
use Rattle.wgsl_tree_code.specs.AttributeNodes.{attribute_code, attribute_node_code, attributes_code, custom_code, diagnostic_code, interpolate_code, type_constraint_code, workgroup_size_code}

abbrev pub diagnostic_attribute_of : Code → Option plain.DiagnosticAttribute
diagnostic_attribute_of (node (field n0 c0 (field n1 c1 no_fields))) = named (n0 ∷ n1 ∷ [])
    (codes "severity" ∷ codes "rule" ∷ []) (then_of (diagnostic_severity_of c0)
    (λ x0. then_of (text_of c1) (λ x1. Some (record { severity = x0; rule = x1 }))))
diagnostic_attribute_of c = None

abbrev pub interpolate_attribute_of : Code → Option plain.InterpolateAttribute
interpolate_attribute_of (node (field n0 c0 (field n1 c1 no_fields))) = named (n0 ∷ n1 ∷ [])
    (codes "ty" ∷ codes "sampling" ∷ []) (then_of (interpolation_type_of c0)
    (λ x0. then_of (optional_of interpolation_sampling_of c1) (λ x1. Some (record { ty = x0; sampling = x1 }))))
interpolate_attribute_of c = None

abbrev pub workgroup_size_attribute_of : Code → Option plain.WorkgroupSizeAttribute
workgroup_size_attribute_of (node (field n0 c0 (field n1 c1 (field n2 c2 no_fields)))) =
    named (n0 ∷ n1 ∷ n2 ∷ []) (codes "x" ∷ codes "y" ∷ codes "z" ∷ [])
    (then_of (expression_node_of c0) (λ x0. then_of (optional_of expression_node_of c1)
    (λ x1. then_of (optional_of expression_node_of c2) (λ x2. Some (record { x = x0; y = x1; z = x2 })))))
workgroup_size_attribute_of c = None

abbrev pub type_constraint_of : Code → Option plain.TypeConstraint
type_constraint_of (node (field n0 c0 (field n1 c1 no_fields))) = named (n0 ∷ n1 ∷ [])
    (codes "ident" ∷ codes "variants" ∷ []) (then_of (text_of c0)
    (λ x0. then_of (list_read_of type_expression_of c1) (λ x1. Some (record { ident = x0; variants = x1 }))))
type_constraint_of c = None

abbrev pub custom_attribute_of : Code → Option plain.CustomAttribute
custom_attribute_of (node (field n0 c0 (field n1 c1 no_fields))) = named (n0 ∷ n1 ∷ [])
    (codes "name" ∷ codes "arguments" ∷ [])
    (then_of (text_of c0) (λ x0. then_of (optional_of (list_read_of expression_node_of) c1)
    (λ x1. Some (record { name = x0; arguments = x1 }))))
custom_attribute_of c = None

abbrev pub attribute_of : Code → Option plain.Attribute
attribute_of (text name) = chosen name
    ((codes "Const", λ _. Some (plain.without_argument plain.const_attribute))
    ∷ (codes "Invariant", λ _. Some (plain.without_argument plain.invariant))
    ∷ (codes "MustUse", λ _. Some (plain.without_argument plain.must_use))
    ∷ (codes "Vertex", λ _. Some (plain.without_argument plain.vertex))
    ∷ (codes "Fragment", λ _. Some (plain.without_argument plain.fragment))
    ∷ (codes "Compute", λ _. Some (plain.without_argument plain.compute))
    ∷ (codes "Else", λ _. Some (plain.without_argument plain.else_attribute)) ∷ [])
attribute_of (node (field name value no_fields)) = chosen name ((
  codes "Align",
  λ _. then_of (expression_node_of value) (λ x0. Some (plain.with_argument plain.align x0)),
) ∷ (codes "Binding", λ _. then_of (expression_node_of value) (λ x0. Some (plain.with_argument plain.binding x0))) ∷ (
  codes "BlendSrc",
  λ _. then_of (expression_node_of value) (λ x0. Some (plain.with_argument plain.blend_src x0)),
) ∷ (codes "Group", λ _. then_of (expression_node_of value) (λ x0. Some (plain.with_argument plain.group x0))) ∷ (
  codes "Id",
  λ _. then_of (expression_node_of value) (λ x0. Some (plain.with_argument plain.id x0)),
) ∷ (codes "Location", λ _. then_of (expression_node_of value) (λ x0. Some (plain.with_argument plain.location x0))) ∷ (
  codes "Size",
  λ _. then_of (expression_node_of value) (λ x0. Some (plain.with_argument plain.size x0)),
) ∷ (codes "If", λ _. then_of (expression_node_of value) (λ x0. Some (plain.with_argument plain.if_attribute x0))) ∷ (
  codes "Elif",
  λ _. then_of (expression_node_of value) (λ x0. Some (plain.with_argument plain.elif_attribute x0)),
) ∷ (codes "Builtin", λ _. then_of (builtin_value_of value) (λ x0. Some (plain.builtin x0))) ∷ (
  codes "Diagnostic",
  λ _. then_of (diagnostic_attribute_of value) (λ x0. Some (plain.diagnostic x0)),
) ∷ (codes "Interpolate", λ _. then_of (interpolate_attribute_of value) (λ x0. Some (plain.interpolate x0))) ∷ (
  codes "WorkgroupSize",
  λ _. then_of (workgroup_size_attribute_of value) (λ x0. Some (plain.workgroup_size x0)),
) ∷ (codes "TypeConstraint", λ _. then_of (type_constraint_of value) (λ x0. Some (plain.type_constraint x0)))
    ∷ (codes "Custom", λ _. then_of (custom_attribute_of value) (λ x0. Some (plain.custom x0))) ∷ [])
attribute_of c = None

abbrev pub attribute_node_of : Code → Option (Spanned plain.Attribute)
attribute_node_of (node (field n0 c0 (field n1 c1 no_fields))) = named (n0 ∷ n1 ∷ [])
    (codes "span" ∷ codes "node" ∷ [])
    (then_of (span_of c0) (λ x0. then_of (attribute_of c1) (λ x1. Some (spanned x1 x0))))
attribute_node_of c = None

abbrev pub attributes_of : Code → Option Attributes
attributes_of c = list_read_of attribute_node_of c

abbrev pub lone_attributes_of : Code → Option Attributes
lone_attributes_of (node (field n0 c0 no_fields)) = named (n0 ∷ []) (codes "attributes" ∷ []) (attributes_of c0)
lone_attributes_of c = None

pub diagnostic_attribute_read : (x : plain.DiagnosticAttribute) → diagnostic_attribute_of (diagnostic_code x) ≡ Some x
diagnostic_attribute_read n = λ i. then_of (diagnostic_severity_read n.severity i)
    (λ x0. then_of (text_read n.rule i) (λ x1. Some (record { severity = x0; rule = x1 })))

pub interpolate_attribute_read : (x : plain.InterpolateAttribute)
    → interpolate_attribute_of (interpolate_code x) ≡ Some x
interpolate_attribute_read n = λ i. then_of (interpolation_type_read n.ty i)
    (λ x0. then_of (optional_read interpolation_sampling_code interpolation_sampling_of
    interpolation_sampling_read (λ x. refl) n.sampling i) (λ x1. Some (record { ty = x0; sampling = x1 })))

pub workgroup_size_attribute_read : (x : plain.WorkgroupSizeAttribute)
    → workgroup_size_attribute_of (workgroup_size_code x) ≡ Some x
workgroup_size_attribute_read n = λ i. then_of (expression_node_read n.x i)
    (λ x0. then_of (optional_read expression_node_code expression_node_of expression_node_read
    expression_node_there n.y i) (λ x1. then_of (optional_read expression_node_code expression_node_of
    expression_node_read expression_node_there n.z i) (λ x2. Some (record { x = x0; y = x1; z = x2 }))))

pub type_constraint_read : (x : plain.TypeConstraint) → type_constraint_of (type_constraint_code x) ≡ Some x
type_constraint_read n =
    λ i. then_of (text_read n.ident i) (λ x0. then_of (items_read type_code type_expression_of
    type_expression_read n.variants i) (λ x1. Some (record { ident = x0; variants = x1 })))

pub custom_attribute_read : (x : plain.CustomAttribute) → custom_attribute_of (custom_code x) ≡ Some x
custom_attribute_read n =
    λ i. then_of (text_read n.name i) (λ x0. then_of (optional_read (list_of expression_node_code)
    (list_read_of expression_node_of) (items_read expression_node_code expression_node_of
    expression_node_read) (λ x. refl) n.arguments i) (λ x1. Some (record { name = x0; arguments = x1 })))

pub attribute_read : (x : plain.Attribute) → attribute_of (attribute_code x) ≡ Some x
attribute_read (plain.with_argument plain.align e) =
    λ i. then_of (expression_node_read e i) (λ x0. Some (plain.with_argument plain.align x0))
attribute_read (plain.with_argument plain.binding e) =
    λ i. then_of (expression_node_read e i) (λ x0. Some (plain.with_argument plain.binding x0))
attribute_read (plain.with_argument plain.blend_src e) =
    λ i. then_of (expression_node_read e i) (λ x0. Some (plain.with_argument plain.blend_src x0))
attribute_read (plain.with_argument plain.group e) =
    λ i. then_of (expression_node_read e i) (λ x0. Some (plain.with_argument plain.group x0))
attribute_read (plain.with_argument plain.id e) =
    λ i. then_of (expression_node_read e i) (λ x0. Some (plain.with_argument plain.id x0))
attribute_read (plain.with_argument plain.location e) =
    λ i. then_of (expression_node_read e i) (λ x0. Some (plain.with_argument plain.location x0))
attribute_read (plain.with_argument plain.size e) =
    λ i. then_of (expression_node_read e i) (λ x0. Some (plain.with_argument plain.size x0))
attribute_read (plain.with_argument plain.if_attribute e) =
    λ i. then_of (expression_node_read e i) (λ x0. Some (plain.with_argument plain.if_attribute x0))
attribute_read (plain.with_argument plain.elif_attribute e) =
    λ i. then_of (expression_node_read e i) (λ x0. Some (plain.with_argument plain.elif_attribute x0))
attribute_read (plain.builtin x) = λ i. then_of (builtin_value_read x i) (λ x0. Some (plain.builtin x0))
attribute_read (plain.without_argument plain.const_attribute) = refl
attribute_read (plain.without_argument plain.invariant) = refl
attribute_read (plain.without_argument plain.must_use) = refl
attribute_read (plain.without_argument plain.vertex) = refl
attribute_read (plain.without_argument plain.fragment) = refl
attribute_read (plain.without_argument plain.compute) = refl
attribute_read (plain.without_argument plain.else_attribute) = refl
attribute_read (plain.diagnostic x) = λ i. then_of (diagnostic_attribute_read x i) (λ x0. Some (plain.diagnostic x0))
attribute_read (plain.interpolate x) = λ i. then_of (interpolate_attribute_read x i) (λ x0. Some (plain.interpolate x0))
attribute_read (plain.workgroup_size x) =
    λ i. then_of (workgroup_size_attribute_read x i) (λ x0. Some (plain.workgroup_size x0))
attribute_read (plain.type_constraint x) =
    λ i. then_of (type_constraint_read x i) (λ x0. Some (plain.type_constraint x0))
attribute_read (plain.custom x) = λ i. then_of (custom_attribute_read x i) (λ x0. Some (plain.custom x0))

pub attribute_node_read : (x : Spanned plain.Attribute) → attribute_node_of (attribute_node_code x) ≡ Some x
attribute_node_read s = λ i. then_of (attribute_read s.node i) (λ x0. Some (spanned x0 s.span))

pub attributes_read : (x : Attributes) → attributes_of (attributes_code x) ≡ Some x
attributes_read x = items_read attribute_node_code attribute_node_of attribute_node_read x

pub lone_attributes_read : (x : Attributes)
    → lone_attributes_of (node (field (codes "attributes") (attributes_code x) no_fields)) ≡ Some x
lone_attributes_read x = attributes_read x
