-- The printed texts of attributes.
use Rattle.std.specs.Prelude.{ℕ, List, [], ◌∷◌, ◌++◌, map, Option, Some, None, codes}
use Rattle.wgsl_model.specs.Trees.NamedValues.{InterpolationSampling, severity_text, interpolation_type_text, interpolation_sampling_text, builtin_value_text}
use Rattle.wgsl_model.specs.Trees.Spanned.{Spanned}
use Rattle.wgsl_model.specs.Trees.Expressions.{ExpressionNode}
use Rattle.wgsl_model.specs.Trees.Attributes.{one_argument_text, no_argument_text, Attribute, with_argument, without_argument, builtin, diagnostic, interpolate, workgroup_size, type_constraint, custom, Attributes, DiagnosticAttribute, InterpolateAttribute, WorkgroupSizeAttribute, TypeConstraint, CustomAttribute}
use Rattle.wgsl_model.specs.Printed.Joining.{joined}
use Rattle.wgsl_model.specs.Printed.Expressions.{print_expression_node, print_type}

-- a severity and the name of a rule
abbrev pub print_diagnostic_attribute : DiagnosticAttribute → List ℕ
print_diagnostic_attribute d = codes "@diagnostic(" ++ severity_text d.severity ++ codes ", " ++ d.rule ++ codes ")"

-- a further argument, if there is one
abbrev pub print_sampling : Option InterpolationSampling → List ℕ
print_sampling None = []
print_sampling (Some sampling) = codes ", " ++ interpolation_sampling_text sampling

abbrev pub print_further : Option ExpressionNode → List ℕ
print_further None = []
print_further (Some e) = codes ", " ++ print_expression_node e

abbrev pub print_interpolate : InterpolateAttribute → List ℕ
print_interpolate i = codes "@interpolate(" ++ interpolation_type_text i.ty ++ print_sampling i.sampling ++ codes ")"

abbrev pub print_workgroup_size : WorkgroupSizeAttribute → List ℕ
print_workgroup_size w = codes "@workgroup_size(" ++ print_expression_node w.x ++ print_further w.y
    ++ print_further w.z ++ codes ")"

-- a name, and the types that it may be
abbrev pub print_type_constraint : TypeConstraint → List ℕ
print_type_constraint t = t.ident ++ codes ", " ++ joined (codes " | ") (map print_type t.variants)

-- a list of arguments in parentheses, if there is one
abbrev pub print_arguments : Option (List ExpressionNode) → List ℕ
print_arguments None = []
print_arguments (Some arguments) = codes "(" ++ joined (codes ", ") (map print_expression_node arguments) ++ codes ")"

abbrev pub print_custom : CustomAttribute → List ℕ
print_custom c = codes "@" ++ c.name ++ print_arguments c.arguments

abbrev pub print_attribute : Attribute → List ℕ
print_attribute (with_argument name e) = codes "@" ++ one_argument_text name ++ codes "("
    ++ print_expression_node e ++ codes ")"
print_attribute (without_argument name) = codes "@" ++ no_argument_text name
print_attribute (builtin value) = codes "@builtin(" ++ builtin_value_text value ++ codes ")"
print_attribute (diagnostic d) = print_diagnostic_attribute d
print_attribute (interpolate i) = print_interpolate i
print_attribute (workgroup_size w) = print_workgroup_size w
print_attribute (type_constraint t) = codes "@type(" ++ print_type_constraint t ++ codes ")"
print_attribute (custom c) = print_custom c

-- attributes with a space between each two, and an end after them if there are any
abbrev pub print_attributes : List ℕ → Attributes → List ℕ
print_attributes end [] = []
print_attributes end (a ∷ more) =
    joined (codes " ") (map (λ (b : Spanned Attribute). print_attribute b.node) (a ∷ more)) ++ end

-- attributes on a line of their own
abbrev pub print_attribute_line : Attributes → List ℕ
print_attribute_line = print_attributes (codes "\n")

-- attributes before what they are on
abbrev pub print_attributes_before : Attributes → List ℕ
print_attributes_before = print_attributes (codes " ")
