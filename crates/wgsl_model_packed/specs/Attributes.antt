-- The packed forms of attributes.
use Rattle.std.specs.Prelude.{ℕ, List, ◌∷◌, ◌++◌}
use Rattle.wgsl_model.specs.Trees.NamedValues.{InterpolationSampling, severity_text, interpolation_type_text, interpolation_sampling_text, builtin_value_text}
use Rattle.wgsl_model.specs.Trees.Spanned.{Spanned}
use Rattle.wgsl_model.specs.Trees.Attributes.{one_argument_text, no_argument_text, Attribute, with_argument, without_argument, builtin, diagnostic, interpolate, workgroup_size, type_constraint, custom, Attributes, TypeConstraint}
use Rattle.wgsl_model_packed.specs.Printing.{packed_text, packed_span}
use Rattle.wgsl_model_packed.specs.Expressions.{packed_expression_node, packed_type, packed_optional, packed_list}
use Rattle.wgsl_model_packed.specs.Rules.{part_rule, types_rule, attributes_rule, attributes_line_rule, attributes_space_rule, with_argument_rule, without_argument_rule, builtin_rule, diagnostic_rule, interpolate_rule, further_word_rule, workgroup_size_rule, further_node_rule, type_attribute_rule, type_constraint_rule, custom_rule, arguments_rule, nodes_rule, node_rule, nothing_rule}

-- a name, and the types that it may be
abbrev pub packed_type_constraint : TypeConstraint → List ℕ
packed_type_constraint t = type_constraint_rule
    ∷ (packed_text t.ident ++ packed_list nothing_rule types_rule part_rule packed_type t.variants)

abbrev pub packed_sampling : InterpolationSampling → List ℕ
packed_sampling sampling = packed_text (interpolation_sampling_text sampling)

abbrev pub packed_attribute : Attribute → List ℕ
packed_attribute (with_argument name e) = with_argument_rule
    ∷ (packed_text (one_argument_text name) ++ packed_expression_node e)
packed_attribute (without_argument name) =
    without_argument_rule ∷ packed_text (no_argument_text name)
packed_attribute (builtin value) = builtin_rule ∷ packed_text (builtin_value_text value)
packed_attribute (diagnostic d) = diagnostic_rule
    ∷ (packed_text (severity_text d.severity) ++ packed_text d.rule)
packed_attribute (interpolate i) = interpolate_rule
    ∷ (packed_text (interpolation_type_text i.ty)
    ++ packed_optional further_word_rule packed_sampling i.sampling)
packed_attribute (workgroup_size w) = workgroup_size_rule ∷ (packed_expression_node w.x
    ++ (packed_optional further_node_rule packed_expression_node w.y
    ++ packed_optional further_node_rule packed_expression_node w.z))
packed_attribute (type_constraint t) = type_attribute_rule ∷ packed_type_constraint t
packed_attribute (custom c) = custom_rule ∷ (packed_text c.name ++ packed_optional arguments_rule
    (packed_list nothing_rule nodes_rule node_rule packed_expression_node) c.arguments)

abbrev pub packed_attribute_node : Spanned Attribute → List ℕ
packed_attribute_node a = packed_span a.span ++ packed_attribute a.node

-- attributes on a line of their own
abbrev pub packed_attribute_line : Attributes → List ℕ
packed_attribute_line = packed_list nothing_rule attributes_rule attributes_line_rule packed_attribute_node

-- attributes before what they are on
abbrev pub packed_attributes_before : Attributes → List ℕ
packed_attributes_before = packed_list nothing_rule attributes_rule attributes_space_rule packed_attribute_node
