-- Written by tools/tables/tree_codes.py from crates/wgsl_model/nodes: attributes.
use Rattle.std.specs.Prelude.{ℕ, List, [], ◌∷◌, codes}
use Rattle.wgsl_model.specs.Trees.Spanned.{Spanned}
use Rattle.wgsl_model.specs.Trees.Attributes.{Attributes}
use Rattle.wgsl_model.specs.Trees.Attributes as plain
use Rattle.wgsl_tree_code.specs.Code.{Code, text, node_of, variant, list_of, optional, placed}
use Rattle.wgsl_tree_code.specs.WordNodes.{builtin_value_code, diagnostic_severity_code, interpolation_sampling_code, interpolation_type_code}
use Rattle.wgsl_tree_code.specs.ExpressionNodes.{expression_node_code, type_code}

-- `@diagnostic(severity, rule)`: a severity and the name of a rule
abbrev pub diagnostic_code : plain.DiagnosticAttribute → Code
diagnostic_code n = node_of (
    (codes "severity", diagnostic_severity_code n.severity) ∷
    (codes "rule", text n.rule) ∷
    [])

-- `@interpolate(ty, sampling)`: how a value is interpolated
abbrev pub interpolate_code : plain.InterpolateAttribute → Code
interpolate_code n = node_of (
    (codes "ty", interpolation_type_code n.ty) ∷
    (codes "sampling", optional interpolation_sampling_code n.sampling) ∷
    [])

-- `@workgroup_size(x, y, z)`: the sizes of a workgroup
abbrev pub workgroup_size_code : plain.WorkgroupSizeAttribute → Code
workgroup_size_code n = node_of (
    (codes "x", expression_node_code n.x) ∷
    (codes "y", optional expression_node_code n.y) ∷
    (codes "z", optional expression_node_code n.z) ∷
    [])

-- `@type(ident, variants)`: a name, and the types that it may be
abbrev pub type_constraint_code : plain.TypeConstraint → Code
type_constraint_code n = node_of (
    (codes "ident", text n.ident) ∷
    (codes "variants", list_of type_code n.variants) ∷
    [])

-- an attribute of another name
abbrev pub custom_code : plain.CustomAttribute → Code
custom_code n = node_of (
    (codes "name", text n.name) ∷
    (codes "arguments", optional (list_of expression_node_code) n.arguments) ∷
    [])

-- an attribute, as `@align(4)`
abbrev pub attribute_code : plain.Attribute → Code
attribute_code (plain.with_argument plain.align e) =
    variant (codes "Align") (expression_node_code e)
attribute_code (plain.with_argument plain.binding e) =
    variant (codes "Binding") (expression_node_code e)
attribute_code (plain.with_argument plain.blend_src e) =
    variant (codes "BlendSrc") (expression_node_code e)
attribute_code (plain.with_argument plain.group e) =
    variant (codes "Group") (expression_node_code e)
attribute_code (plain.with_argument plain.id e) = variant (codes "Id") (expression_node_code e)
attribute_code (plain.with_argument plain.location e) =
    variant (codes "Location") (expression_node_code e)
attribute_code (plain.with_argument plain.size e) =
    variant (codes "Size") (expression_node_code e)
attribute_code (plain.with_argument plain.if_attribute e) =
    variant (codes "If") (expression_node_code e)
attribute_code (plain.with_argument plain.elif_attribute e) =
    variant (codes "Elif") (expression_node_code e)
attribute_code (plain.builtin inner) = variant (codes "Builtin") (builtin_value_code inner)
attribute_code (plain.without_argument plain.const_attribute) = text (codes "Const")
attribute_code (plain.without_argument plain.invariant) = text (codes "Invariant")
attribute_code (plain.without_argument plain.must_use) = text (codes "MustUse")
attribute_code (plain.without_argument plain.vertex) = text (codes "Vertex")
attribute_code (plain.without_argument plain.fragment) = text (codes "Fragment")
attribute_code (plain.without_argument plain.compute) = text (codes "Compute")
attribute_code (plain.without_argument plain.else_attribute) = text (codes "Else")
attribute_code (plain.diagnostic inner) = variant (codes "Diagnostic") (diagnostic_code inner)
attribute_code (plain.interpolate inner) =
    variant (codes "Interpolate") (interpolate_code inner)
attribute_code (plain.workgroup_size inner) =
    variant (codes "WorkgroupSize") (workgroup_size_code inner)
attribute_code (plain.type_constraint inner) =
    variant (codes "TypeConstraint") (type_constraint_code inner)
attribute_code (plain.custom inner) = variant (codes "Custom") (custom_code inner)

abbrev pub attribute_node_code : Spanned plain.Attribute → Code
attribute_node_code n = placed n.span (attribute_code n.node)

abbrev pub attributes_code : Attributes → Code
attributes_code attributes = list_of attribute_node_code attributes

abbrev pub alone_code : List ℕ → Attributes → Code
alone_code name [] = text name
alone_code name (a ∷ more) =
    variant name (node_of ((codes "attributes", attributes_code (a ∷ more)) ∷ []))
