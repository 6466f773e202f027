-- The checks of attributes and `var` templates answer the same for arguments that differ by spans
-- alone.
use Rattle.std.proofs.Common.{◌≡◌, ℕ, List, [], ◌∷◌, ◌++◌, map, Option, Some, None, refl, sym, ap, ap₂, ◌∙◌}
use Rattle.std.specs.Prelude.{codes, option_and_then}
use Rattle.std.specs.Option.{option_map}
use Rattle.wgsl_model.specs.Tokens.Words.{look_up}
use Rattle.wgsl_model.specs.Trees.Operators.{bitwise_or}
use Rattle.wgsl_model.specs.Trees.NamedValues.{WordTable, DiagnosticSeverity, severities, AccessMode, access_modes, AddressSpace, AddressSpace.storage, address_spaces, InterpolationType, interpolation_types, InterpolationSampling, interpolation_samplings, builtin_values}
use Rattle.wgsl_model.specs.Trees.Expressions.{ExpressionNode, expression_node, Expression, named_component, binary, type_or_identifier, TypeExpression, type_expression, no_template}
use Rattle.wgsl_model.specs.Trees.Attributes.{OneArgument, NoArgument, Attribute, with_argument, without_argument, builtin, interpolate}
use Rattle.wgsl_model.specs.Grammar.Checks.{Checked, right, wrong, right_or, untemplated_word, untemplated_name, untemplated_name_in, rule_name, rule_name_in, variants, variants_in, space_in_template, space_and_mode, Arguments, with_one, with_none, builtin_attribute, severity_and_rule, diagnostic_attribute, type_and_sampling, interpolate_attribute, workgroup_size_attribute, name_and_variants, type_attribute, attribute_names, named_attribute, AttributeParts, attribute_of}
use Rattle.wgsl_model.specs.Trees.WithoutSpans.{bare_expression, bare_expression_node, bare_type, bare_attribute}
use Rattle.wgsl_theory_reread.proofs.Again.{same_arguments}
use Rattle.wgsl_theory_reread.proofs.Names.AttributeNames.{of_each_name}

-- ---- names and types
bare_name_in_alike : (e : Expression) → untemplated_name_in (bare_expression e) ≡ untemplated_name_in e
bare_name_in_alike (type_or_identifier (type_expression name no_template)) = refl
bare_name_in_alike e = refl

bare_name_alike : (e : ExpressionNode) → untemplated_name (bare_expression_node e) ≡ untemplated_name e
bare_name_alike (expression_node e s) = bare_name_in_alike e

bare_word_alike : {A : Type 0} (table : WordTable A) (e : ExpressionNode)
    → untemplated_word table (bare_expression_node e) ≡ untemplated_word table e
bare_word_alike table e =
    ap (λ (z : Option (List ℕ)). option_and_then (λ name. look_up table name) z) (bare_name_alike e)

rule_name_in_alike : (e : Expression) → rule_name_in (bare_expression e) ≡ rule_name_in e
rule_name_in_alike (named_component e name) =
    ap (λ (z : Option (List ℕ)). option_map (λ (first : List ℕ). first ++ (codes "." ++ name)) z)
    (bare_name_alike e)
rule_name_in_alike (type_or_identifier (type_expression name no_template)) = refl
rule_name_in_alike e = refl

rule_name_alike : (e : ExpressionNode) → rule_name (bare_expression_node e) ≡ rule_name e
rule_name_alike (expression_node e s) = rule_name_in_alike e

map_after : (ts : List TypeExpression) (t : TypeExpression)
    → map bare_type (ts ++ (t ∷ [])) ≡ map bare_type ts ++ (bare_type t ∷ [])
map_after [] t = refl
map_after (x ∷ ts) t = ap (λ (z : List TypeExpression). bare_type x ∷ z) (map_after ts t)

one_more : (t : TypeExpression) (o m : Option (List TypeExpression)) → o ≡ option_map (map bare_type) m
    → option_map (λ (ts : List TypeExpression). ts ++ (bare_type t ∷ [])) o
    ≡ option_map (map bare_type) (option_map (λ (ts : List TypeExpression). ts ++ (t ∷ [])) m)
one_more t o None h = rw h refl
one_more t o (Some ts) h = rw h (ap (λ (z : List TypeExpression). Some z) (sym (map_after ts t)))

variants_in_alike : (e : Expression) → variants_in (bare_expression e) ≡ option_map (map bare_type) (variants_in e)
variants_in_alike (type_or_identifier t) = refl
variants_in_alike (binary bitwise_or (expression_node left s) (expression_node (type_or_identifier t) u)) =
    one_more t (variants_in (bare_expression left)) (variants_in left) (variants_in_alike left)
variants_in_alike e = refl

variants_alike : (e : ExpressionNode) → variants (bare_expression_node e) ≡ option_map (map bare_type) (variants e)
variants_alike (expression_node e s) = variants_in_alike e

-- ---- `var` templates
mode_alike : (o : Option AddressSpace) (e : ExpressionNode)
    → space_and_mode o (bare_expression_node e) ≡ space_and_mode o e
mode_alike None e = refl
mode_alike (Some storage) e =
    ap (λ (z : Option AccessMode). right_or z (λ mode. (storage, Some mode)) (codes "invalid access mode"))
    (bare_word_alike access_modes e)
mode_alike (Some space) e = refl

pub space_alike : (es : List ExpressionNode) → space_in_template (map bare_expression_node es) ≡ space_in_template es
space_alike [] = refl
space_alike (e ∷ []) =
    ap (λ (z : Option AddressSpace). right_or z (λ space. (space, None)) (codes "invalid address space"))
    (bare_word_alike address_spaces e)
space_alike (e ∷ (m ∷ [])) = ap (λ (z : Option AddressSpace). space_and_mode z (bare_expression_node m))
    (bare_word_alike address_spaces e) ∙ mode_alike (untemplated_word address_spaces e) m
space_alike (e ∷ (m ∷ (n ∷ es))) = refl

-- ---- attributes
-- what is right without its spans
abbrev bare_checked : Checked Attribute → Checked Attribute
bare_checked (right a) = right (bare_attribute a)
bare_checked (wrong text) = wrong text

-- what a name makes of arguments without spans
abbrev IsAlike : (Arguments → Checked Attribute) → Type 0
IsAlike f = (x : Arguments) → f (same_arguments x) ≡ bare_checked (f x)

one_alike : (name : OneArgument) → IsAlike (with_one (with_argument name))
one_alike name (Some (e ∷ [])) = refl
one_alike name x = refl

none_alike : (name : NoArgument) → IsAlike (with_none (without_argument name))
none_alike name None = refl
none_alike name (Some es) = refl

right_alike : {A : Type 0} (f : A → Attribute) (text : List ℕ) → ((x : A) → f x ≡ bare_attribute (f x))
    → (o p : Option A) → p ≡ o → right_or p f text ≡ bare_checked (right_or o f text)
right_alike f text h None p e = rw e refl
right_alike f text h (Some x) p e = rw e (ap (λ (z : Attribute). right z) (h x))

builtin_alike : IsAlike builtin_attribute
builtin_alike None = refl
builtin_alike (Some []) = refl
builtin_alike (Some (e ∷ [])) = right_alike builtin
    (codes "the argument is not a valid built-in value name") (λ x. refl)
    (untemplated_word builtin_values e) (untemplated_word builtin_values (bare_expression_node e))
    (bare_word_alike builtin_values e)
builtin_alike (Some (e ∷ (x ∷ es))) = refl

severity_and_rule_alike : (o : Option DiagnosticSeverity) (m : Option (List ℕ))
    → severity_and_rule o m ≡ bare_checked (severity_and_rule o m)
severity_and_rule_alike (Some severity) (Some rule) = refl
severity_and_rule_alike o m = refl

diagnostic_alike : IsAlike diagnostic_attribute
diagnostic_alike (Some (e ∷ (r ∷ []))) =
    ap₂ severity_and_rule (bare_word_alike severities e) (rule_name_alike r)
    ∙ severity_and_rule_alike (untemplated_word severities e) (rule_name r)
diagnostic_alike x = refl

type_and_sampling_alike : (o : Option InterpolationType) (m : Option InterpolationSampling)
    → type_and_sampling o m ≡ bare_checked (type_and_sampling o m)
type_and_sampling_alike (Some ty) (Some sampling) = refl
type_and_sampling_alike o m = refl

interpolate_alike : IsAlike interpolate_attribute
interpolate_alike (Some (e ∷ [])) = right_alike (λ ty. interpolate (record { ty = ty; sampling = None }))
    (codes "invalid arguments") (λ x. refl) (untemplated_word interpolation_types e)
    (untemplated_word interpolation_types (bare_expression_node e)) (bare_word_alike interpolation_types e)
interpolate_alike (Some (e ∷ (s ∷ []))) =
    ap₂ type_and_sampling (bare_word_alike interpolation_types e) (bare_word_alike interpolation_samplings s)
    ∙ type_and_sampling_alike (untemplated_word interpolation_types e) (untemplated_word interpolation_samplings s)
interpolate_alike x = refl

size_alike : IsAlike workgroup_size_attribute
size_alike (Some (x ∷ [])) = refl
size_alike (Some (x ∷ (y ∷ []))) = refl
size_alike (Some (x ∷ (y ∷ (z ∷ [])))) = refl
size_alike x = refl

name_and_variants_alike : (o : Option (List ℕ)) (m : Option (List TypeExpression))
    → name_and_variants o (option_map (map bare_type) m) ≡ bare_checked (name_and_variants o m)
name_and_variants_alike None m = refl
name_and_variants_alike (Some name) None = refl
name_and_variants_alike (Some name) (Some types) = refl

type_alike : IsAlike type_attribute
type_alike (Some (t ∷ (c ∷ []))) = ap₂ name_and_variants (bare_name_alike t) (variants_alike c)
    ∙ name_and_variants_alike (untemplated_name t) (variants c)
type_alike x = refl

-- whatever the name
name_alike : (name : List ℕ) → IsAlike (named_attribute (look_up attribute_names name) name)
name_alike = of_each_name (λ name check. IsAlike check) one_alike none_alike
    (builtin_alike, (diagnostic_alike, (interpolate_alike, (size_alike, (type_alike, tt)))))
    (λ name x. refl)

-- what is right without its spans is right
bare_right : (c : Checked Attribute) (a : Attribute) → bare_checked c ≡ right (bare_attribute a)
    → (b : Attribute) × (c ≡ right b) × (bare_attribute b ≡ bare_attribute a)
bare_right (right b) a h = (b, refl, cc)
bare_right (wrong text) a h = absurd (cc)

-- the attribute of a name and arguments that differ by spans alone is right, and the same
pub attribute_alike : (w v : AttributeParts) (a : Attribute) → w.name ≡ v.name
    → same_arguments w.arguments ≡ same_arguments v.arguments → attribute_of v ≡ right a
    → (b : Attribute) × (attribute_of w ≡ right b) × (bare_attribute b ≡ bare_attribute a)
attribute_alike w v a same alike h = bare_right (attribute_of w) a (
    sym (name_alike w.name w.arguments)
    ∙ ap₂ (λ (name : List ℕ) (x : Arguments). named_attribute (look_up attribute_names name) name x) same alike
    ∙ name_alike v.name v.arguments
    ∙ ap bare_checked h)
