-- Attributes are told apart.
use Rattle.std.proofs.Common.{◌≡◌, ℕ, refl, List, ◌∷◌, ◌++◌, Option}
use Rattle.grammar.specs.Tokens.{Span}
use Rattle.wgsl_model.specs.Trees.NamedValues.{DiagnosticSeverity, InterpolationType, InterpolationSampling}
use Rattle.wgsl_model.specs.Trees.Spanned.{Spanned, spanned}
use Rattle.wgsl_model.specs.Trees.Expressions.{ExpressionNode, TypeExpression}
use Rattle.wgsl_model.specs.Trees.Attributes.{Attribute, with_argument, without_argument, builtin, diagnostic, interpolate, workgroup_size, type_constraint, custom, Attributes}
use Rattle.wgsl_model_packed.specs.Rules.{types_rule, part_rule, attributes_rule, attributes_line_rule, attributes_space_rule, further_word_rule, further_node_rule, arguments_rule, nodes_rule, node_rule, nothing_rule}
use Rattle.wgsl_model_packed.specs.Attributes.{packed_type_constraint, packed_attribute, packed_attribute_node, packed_attribute_line, packed_attributes_before}
use Rattle.wgsl_theory_packed.specs.Fits.{SpanFits, ConstraintFits, AttributeFits, AttributesFit}
use Rattle.wgsl_theory_packed.proofs.Told.Forms.{Tells, AreTold, ◌▸◌, after_rule, apart, of_one, of_two, of_three, told_text, told_span, told_optional, told_further_word, told_list}
use Rattle.wgsl_theory_packed.proofs.Told.Words.{told_one_argument, told_no_argument, told_builtin_value, told_severity, told_interpolation_type, told_interpolation_sampling}
use Rattle.wgsl_theory_packed.proofs.Told.Expressions.{told_node, told_type}

pub told_constraint : AreTold ConstraintFits packed_type_constraint
told_constraint t h s k =
    of_two (λ (ident : List ℕ) (variants : List TypeExpression). record { ident = ident; variants = variants })
    (after_rule (told_text t.ident s.ident
    ▸ told_list nothing_rule types_rule part_rule refl refl refl told_type t.variants h s.variants k))

pub told_attribute : AreTold AttributeFits packed_attribute
told_attribute (with_argument a e) h (with_argument b d) k =
    of_two with_argument (after_rule (told_one_argument a b ▸ told_node e h d k))
told_attribute (without_argument a) h (without_argument b) k = of_one without_argument
    (after_rule (told_no_argument a b))
told_attribute (builtin a) h (builtin b) k = of_one builtin (after_rule (told_builtin_value a b))
told_attribute (diagnostic a) h (diagnostic b) k =
    of_two (λ (severity : DiagnosticSeverity) (rule : List ℕ). diagnostic (record { severity = severity; rule = rule }))
    (after_rule (told_severity a.severity b.severity ▸ told_text a.rule b.rule))
told_attribute (interpolate a) h (interpolate b) k =
    of_two (λ (ty : InterpolationType) (sampling : Option InterpolationSampling).
    interpolate (record { ty = ty; sampling = sampling }))
    (after_rule (told_interpolation_type a.ty b.ty
    ▸ told_further_word further_word_rule refl told_interpolation_sampling a.sampling b.sampling))
told_attribute (workgroup_size a) h (workgroup_size b) k =
    of_three (λ (x : ExpressionNode) (y z : Option ExpressionNode). workgroup_size (record { x = x; y = y; z = z }))
    (after_rule (told_node a.x h.0 b.x k.0 ▸ told_optional further_node_rule refl told_node a.y h.1 b.y k.1
    ▸ told_optional further_node_rule refl told_node a.z h.2 b.z k.2))
told_attribute (type_constraint a) h (type_constraint b) k =
    of_one type_constraint (after_rule (told_constraint a h b k))
told_attribute (custom a) h (custom b) k =
    of_two (λ (name : List ℕ) (arguments : Option (List ExpressionNode)).
    custom (record { name = name; arguments = arguments })) (after_rule (told_text a.name b.name
    ▸ told_optional arguments_rule refl (told_list nothing_rule nodes_rule node_rule refl refl refl told_node)
    a.arguments h b.arguments k))
told_attribute a h b k = apart refl

abbrev AttributeNodeFits : Spanned Attribute → Type 0
AttributeNodeFits a = SpanFits a.span × AttributeFits a.node

told_attribute_node : AreTold AttributeNodeFits packed_attribute_node
told_attribute_node a h b k = of_two (λ (span : Span) (node : Attribute). spanned node span)
    (told_span a.span h.0 b.span k.0 ▸ told_attribute a.node h.1 b.node k.1)

pub told_attribute_line : AreTold AttributesFit packed_attribute_line
told_attribute_line =
    told_list nothing_rule attributes_rule attributes_line_rule refl refl refl told_attribute_node

pub told_attributes_before : AreTold AttributesFit packed_attributes_before
told_attributes_before =
    told_list nothing_rule attributes_rule attributes_space_rule refl refl refl told_attribute_node

-- a node after its rule and its attributes
pub led : {X Y : Type 0} {m n : ℕ} {f g : List ℕ} {x y : X} (made : Attributes → X → Y)
    → (a : Attributes) → AttributesFit a → (b : Attributes) → AttributesFit b → Tells f g (x ≡ y)
    → Tells (m ∷ (packed_attribute_line a ++ f)) (n ∷ (packed_attribute_line b ++ g)) (made a x ≡ made b y)
led made a h b k one = of_two made (after_rule (told_attribute_line a h b k ▸ one))
