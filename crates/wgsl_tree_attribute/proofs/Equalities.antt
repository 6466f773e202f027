-- `==` of attributes is sameness of their codes.
use Rattle.std.proofs.Common.{Bool, true, false, true≢false, ◌&&◌, ◌==◌, List, [], ◌∷◌, Option, Some, None, map, ◌≡◌, ◌↔◌, refl, sym, ◌∙◌, subst, string_bytes}
use denote.Enum.Declared.{tag_of}
use Rattle.std.specs.Option.{option_map, option_eq}
use Rattle.std.specs.Cmp.{IsEquivalence, on_equiv}
use Rattle.std.specs.Cmp.Lexicographic.{pointwise}
use Rattle.wgsl_model.specs.Trees.WithoutSpans.{bare_attribute, bare_workgroup_size, bare_type_constraint, bare_custom}
use Rattle.wgsl_span.specs.declared.Spanned.{Spanned}
use Rattle.wgsl_span.specs.Spanned.{spanned_node}
use Rattle.wgsl_span.specs.View.{spanned_view}
use Rattle.wgsl_tree_words.specs.declared.words_nodes.DiagnosticSeverity.{DiagnosticSeverity}
use Rattle.wgsl_tree_words.specs.declared.words_nodes.DiagnosticSeverity.TheVariants as severity
use Rattle.wgsl_tree_words.specs.declared.words_nodes.InterpolationType.{InterpolationType}
use Rattle.wgsl_tree_words.specs.declared.words_nodes.InterpolationType.TheVariants as interpolation_type
use Rattle.wgsl_tree_words.specs.declared.words_nodes.InterpolationSampling.{InterpolationSampling}
use Rattle.wgsl_tree_words.specs.declared.words_nodes.InterpolationSampling.TheVariants as interpolation_sampling
use Rattle.wgsl_tree_words.specs.declared.words_nodes.BuiltinValue.{BuiltinValue}
use Rattle.wgsl_tree_words.specs.declared.words_nodes.BuiltinValue.TheVariants as builtin_value
use Rattle.wgsl_tree_words.specs.contracts.words_nodes.DiagnosticSeverity.{the_type as severity_type}
use Rattle.wgsl_tree_words.specs.contracts.words_nodes.InterpolationType.{the_type as interpolation_type_type}
use Rattle.wgsl_tree_words.specs.contracts.words_nodes.InterpolationSampling.{the_type as interpolation_sampling_type}
use Rattle.wgsl_tree_words.specs.contracts.words_nodes.BuiltinValue.{the_type as builtin_value_type}
use Rattle.wgsl_tree_words.specs.View.{severity_view, interpolation_type_view, interpolation_sampling_view, builtin_value_view}
use Rattle.wgsl_tree_expression.specs.View.{expression_node_view, type_expression_view}
use Rattle.wgsl_tree_code.specs.Code.{Code, absent, list_of, optional}
use Rattle.wgsl_tree_code.specs.Same.{same}
use Rattle.wgsl_tree_code.specs.Laws.{same_equivalence}
use Rattle.wgsl_tree_code.specs.ExpressionNodes.{expression_node_code, type_code}
use Rattle.wgsl_tree_code.specs.WordNodes.{diagnostic_severity_code, interpolation_type_code, interpolation_sampling_code, builtin_value_code}
use Rattle.wgsl_tree_code.specs.AttributeNodes.{diagnostic_code, interpolate_code, workgroup_size_code, type_constraint_code, custom_code, attribute_code, attribute_node_code, attributes_code}
use Rattle.wgsl_tree_code.proofs.Reading.{is_absent}
use Rattle.wgsl_tree_code.proofs.Reading.{expression_node_there, type_expression_there}
use Rattle.wgsl_tree_code.proofs.SpanlessAttributeNodes.{attribute_equal, diagnostic_attribute_equal, interpolate_attribute_equal, workgroup_size_attribute_equal, type_constraint_equal, custom_attribute_equal}
use Rattle.wgsl_tree_attribute.specs.declared.attribute.Attribute.{Attribute}
use Rattle.wgsl_tree_attribute.specs.declared.diagnostic.DiagnosticAttribute.{DiagnosticAttribute}
use Rattle.wgsl_tree_attribute.specs.declared.interpolate.InterpolateAttribute.{InterpolateAttribute}
use Rattle.wgsl_tree_attribute.specs.declared.workgroup_size.WorkgroupSizeAttribute.{WorkgroupSizeAttribute}
use Rattle.wgsl_tree_attribute.specs.declared.type_constraint.TypeConstraint.{TypeConstraint}
use Rattle.wgsl_tree_attribute.specs.declared.custom.CustomAttribute.{CustomAttribute}
use Rattle.wgsl_tree_attribute.specs.declared.attribute.Attribute.TheVariants as attribute
use Rattle.wgsl_tree_attribute.specs.View.{attribute_view, attributes_view, diagnostic_view, interpolate_view, workgroup_size_view, type_constraint_view, custom_view, expressions_view}
use Rattle.wgsl_tree_attribute.specs.Equality.{equal_attributes, equal_diagnostics, equal_interpolations, equal_workgroup_sizes, equal_type_constraints, equal_customs}

-- named values are compared by their words
pub severity_same : (x y : DiagnosticSeverity)
    → (tag_of severity_type x == tag_of severity_type y)
    ≡ same (diagnostic_severity_code (severity_view x)) (diagnostic_severity_code (severity_view y))
severity_same severity.Error severity.Error = refl
severity_same _ severity.Error = refl
severity_same _ _ = refl

type_same : (x y : InterpolationType)
    → (tag_of interpolation_type_type x == tag_of interpolation_type_type y)
    ≡ same (interpolation_type_code (interpolation_type_view x)) (interpolation_type_code (interpolation_type_view y))
type_same interpolation_type.Perspective interpolation_type.Perspective = refl
type_same _ interpolation_type.Perspective = refl
type_same _ _ = refl

sampling_same : (x y : InterpolationSampling)
    → (tag_of interpolation_sampling_type x == tag_of interpolation_sampling_type y)
    ≡ same (interpolation_sampling_code (interpolation_sampling_view x))
    (interpolation_sampling_code (interpolation_sampling_view y))
sampling_same interpolation_sampling.Center interpolation_sampling.Center = refl
sampling_same _ interpolation_sampling.Center = refl
sampling_same _ _ = refl

builtin_same : (x y : BuiltinValue)
    → (tag_of builtin_value_type x == tag_of builtin_value_type y)
    ≡ same (builtin_value_code (builtin_value_view x)) (builtin_value_code (builtin_value_view y))
builtin_same builtin_value.VertexIndex builtin_value.VertexIndex = refl
builtin_same _ builtin_value.VertexIndex = refl
builtin_same _ _ = refl

absent_before : (c : Code) → is_absent c ≡ false → same absent c ≡ false
absent_before absent e = absurd (true≢false e)
absent_before c e = refl

absent_after : (c : Code) → is_absent c ≡ false → same c absent ≡ false
absent_after absent e = absurd (true≢false e)
absent_after c e = refl

-- where items are compared by their codes, so are options and lists of them
module _ {X Y : Type 0} (view : X → Y) (code : Y → Code) (equal : X → X → Bool)
    (alike : (x y : X) → equal x y ≡ same (code (view x)) (code (view y))) where
  -- what is there has a code
  pub options_same : ((x : X) → is_absent (code (view x)) ≡ false) → (a b : Option X) → option_eq equal a b
      ≡ same (optional code (option_map view a)) (optional code (option_map view b))
  options_same there None None = refl
  options_same there None (Some y) = sym (absent_before (code (view y)) (there y))
  options_same there (Some x) None = sym (absent_after (code (view x)) (there x))
  options_same there (Some x) (Some y) = alike x y

  pub lists_same : (xs ys : List X)
      → pointwise equal xs ys ≡ same (list_of code (map view xs)) (list_of code (map view ys))
  lists_same [] [] = refl
  lists_same [] (y ∷ ys) = refl
  lists_same (x ∷ xs) [] = refl
  lists_same (x ∷ xs) (y ∷ ys) = λ i. alike x y i && lists_same xs ys i

diagnostics_same : (a b : DiagnosticAttribute)
    → equal_diagnostics a b ≡ same (diagnostic_code (diagnostic_view a)) (diagnostic_code (diagnostic_view b))
diagnostics_same a b = λ i. severity_same a.severity b.severity i
    && pointwise ◌==◌ (string_bytes a.rule) (string_bytes b.rule)

interpolations_same : (a b : InterpolateAttribute) → equal_interpolations a b
    ≡ same (interpolate_code (interpolate_view a)) (interpolate_code (interpolate_view b))
interpolations_same a b =
    let samplings = options_same interpolation_sampling_view interpolation_sampling_code _
    sampling_same (λ x. refl) a.sampling b.sampling in
    λ i. type_same a.ty b.ty i && samplings i

workgroup_sizes_same : (a b : WorkgroupSizeAttribute) → equal_workgroup_sizes a b
    ≡ same (workgroup_size_code (workgroup_size_view a)) (workgroup_size_code (workgroup_size_view b))
workgroup_sizes_same a b =
    let further = options_same expression_node_view expression_node_code _ (λ x y. refl)
    (λ x. refl) in
    λ i. same (expression_node_code (expression_node_view a.x))
    (expression_node_code (expression_node_view b.x)) && (further a.y b.y i && further a.z b.z i)

type_constraints_same : (a b : TypeConstraint) → equal_type_constraints a b
    ≡ same (type_constraint_code (type_constraint_view a)) (type_constraint_code (type_constraint_view b))
type_constraints_same a b =
    let variants = lists_same type_expression_view type_code _ (λ x y. refl) a.variants.items b.variants.items in
    λ i. pointwise ◌==◌ (string_bytes a.ident.name) (string_bytes b.ident.name) && variants i

customs_same : (a b : CustomAttribute)
    → equal_customs a b ≡ same (custom_code (custom_view a)) (custom_code (custom_view b))
customs_same a b =
    let arguments = options_same expressions_view (list_of expression_node_code) _
    (λ x y. lists_same expression_node_view expression_node_code _ (λ u v. refl) x.items y.items)
    (λ x. refl) a.arguments b.arguments in
    λ i. pointwise ◌==◌ (string_bytes a.name) (string_bytes b.name) && arguments i

pub attributes_same : (a b : Attribute)
    → equal_attributes a b ≡ same (attribute_code (attribute_view a)) (attribute_code (attribute_view b))
attributes_same (attribute.Builtin e) (attribute.Builtin f) = builtin_same e f
attributes_same (attribute.Diagnostic e) (attribute.Diagnostic f) = diagnostics_same e f
attributes_same (attribute.Interpolate e) (attribute.Interpolate f) = interpolations_same e f
attributes_same (attribute.WorkgroupSize e) (attribute.WorkgroupSize f) = workgroup_sizes_same e f
attributes_same (attribute.TypeConstraint e) (attribute.TypeConstraint f) = type_constraints_same e f
attributes_same (attribute.Custom e) (attribute.Custom f) = customs_same e f
attributes_same a (attribute.Custom f) = refl
attributes_same a b = refl

-- lists of attributes
pub attribute_lists_same : (xs ys : List (Spanned Attribute))
    → pointwise (λ x y. equal_attributes (spanned_node x) (spanned_node y)) xs ys
    ≡ same (attributes_code (attributes_view xs)) (attributes_code (attributes_view ys))
attribute_lists_same = lists_same (spanned_view attribute_view) attribute_node_code
    (λ x y. equal_attributes (spanned_node x) (spanned_node y))
    (λ x y. attributes_same (spanned_node x) (spanned_node y))

-- so `==` says that the views are one with their spans set aside
module _ {X Y : Type 0} (equal : X → X → Bool) (view : X → Y) (code : Y → Code)
    (alike : (a b : X) → equal a b ≡ same (code (view a)) (code (view b))) where
  pub agree : (bare : Y → Y) → ((a b : Y) → (same (code a) (code b) ≡ true) ↔ (bare a ≡ bare b))
      → (a b : X) → (equal a b ≡ true) ↔ (bare (view a) ≡ bare (view b))
  agree bare law a b =
      (λ e. (law (view a) (view b)).0 (sym (alike a b) ∙ e), λ e. alike a b ∙ (law (view a) (view b)).1 e)

  equivalent : IsEquivalence equal
  equivalent = subst IsEquivalence (λ i a b. sym (alike a b) i) (on_equiv (λ a. code (view a)) same_equivalence)

pub attributes_agree : (a b : Attribute)
    → (equal_attributes a b ≡ true) ↔ (bare_attribute (attribute_view a) ≡ bare_attribute (attribute_view b))
attributes_agree = agree equal_attributes attribute_view attribute_code attributes_same bare_attribute attribute_equal

pub diagnostics_agree : (a b : DiagnosticAttribute)
    → (equal_diagnostics a b ≡ true) ↔ (diagnostic_view a ≡ diagnostic_view b)
diagnostics_agree = agree equal_diagnostics diagnostic_view diagnostic_code diagnostics_same
    (λ d. d) diagnostic_attribute_equal

pub interpolations_agree : (a b : InterpolateAttribute)
    → (equal_interpolations a b ≡ true) ↔ (interpolate_view a ≡ interpolate_view b)
interpolations_agree = agree equal_interpolations interpolate_view interpolate_code
    interpolations_same (λ t. t) interpolate_attribute_equal

pub workgroup_sizes_agree : (a b : WorkgroupSizeAttribute) → (equal_workgroup_sizes a b ≡ true)
    ↔ (bare_workgroup_size (workgroup_size_view a) ≡ bare_workgroup_size (workgroup_size_view b))
workgroup_sizes_agree = agree equal_workgroup_sizes workgroup_size_view workgroup_size_code
    workgroup_sizes_same bare_workgroup_size workgroup_size_attribute_equal

pub type_constraints_agree : (a b : TypeConstraint) → (equal_type_constraints a b ≡ true)
    ↔ (bare_type_constraint (type_constraint_view a) ≡ bare_type_constraint (type_constraint_view b))
type_constraints_agree = agree equal_type_constraints type_constraint_view type_constraint_code
    type_constraints_same bare_type_constraint type_constraint_equal

pub customs_agree : (a b : CustomAttribute)
    → (equal_customs a b ≡ true) ↔ (bare_custom (custom_view a) ≡ bare_custom (custom_view b))
customs_agree = agree equal_customs custom_view custom_code customs_same bare_custom custom_attribute_equal

pub attributes_equivalence : IsEquivalence equal_attributes
attributes_equivalence = equivalent equal_attributes attribute_view attribute_code attributes_same
