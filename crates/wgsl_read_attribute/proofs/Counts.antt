-- What checks say of arguments by their number.
use Rattle.std.proofs.Common.{◌≡◌, List, [], ◌∷◌, Option, Some, None, option_map, map, refl, codes}
use Rattle.std.specs.Option.{option_and_then}
use Rattle.wgsl_model.specs.Trees.NamedValues.{severities, AccessMode, AddressSpace, address_spaces, InterpolationType, InterpolationSampling, interpolation_types, interpolation_samplings, builtin_values}
use Rattle.wgsl_model.specs.Trees.Expressions.{ExpressionNode}
use Rattle.wgsl_model.specs.Trees.Attributes.{Attribute, builtin, interpolate, workgroup_size}
use Rattle.wgsl_model.specs.Grammar.Checks.{Checked, right, wrong, right_or, Arguments, untemplated_name, untemplated_word, rule_name, variants, with_one, builtin_attribute, severity_and_rule, diagnostic_attribute, type_and_sampling, interpolate_attribute, workgroup_size_attribute, name_and_variants, type_attribute, space_and_mode, space_in_template}
use Rattle.wgsl_tree_words.specs.declared.words_nodes.AddressSpace as declared
use Rattle.wgsl_tree_words.specs.declared.words_nodes.AddressSpace.TheVariants as address_space
use Rattle.wgsl_tree_words.specs.View.{address_space_view}
use Rattle.wgsl_read_attribute.specs.Counted.{one_to_three, seen_by, arguments_of, only_argument, two_arguments, interpolation, and_then, space_with_mode}

-- items are counted alike, however they are seen
pub seen : {A B : Type 0} (f : A → B) (items : List A)
    → one_to_three (map f items) ≡ option_map (seen_by f) (one_to_three items)
seen f [] = refl
seen f (a ∷ []) = refl
seen f (a ∷ (b ∷ [])) = refl
seen f (a ∷ (b ∷ (c ∷ []))) = refl
seen f (a ∷ (b ∷ (c ∷ (d ∷ ds)))) = refl

pub with_one_is : (attribute : ExpressionNode → Attribute) (arguments : Arguments)
    → with_one attribute arguments ≡ and_then (only_argument arguments) (λ e. right (attribute e))
with_one_is attribute None = refl
with_one_is attribute (Some []) = refl
with_one_is attribute (Some (a ∷ [])) = refl
with_one_is attribute (Some (a ∷ (b ∷ []))) = refl
with_one_is attribute (Some (a ∷ (b ∷ (c ∷ [])))) = refl
with_one_is attribute (Some (a ∷ (b ∷ (c ∷ (d ∷ ds))))) = refl

pub builtin_is : (arguments : Arguments) → builtin_attribute arguments
    ≡ and_then (only_argument arguments) (λ e. right_or (untemplated_word builtin_values e) builtin
    (codes "the argument is not a valid built-in value name"))
builtin_is None = refl
builtin_is (Some []) = refl
builtin_is (Some (a ∷ [])) = refl
builtin_is (Some (a ∷ (b ∷ []))) = refl
builtin_is (Some (a ∷ (b ∷ (c ∷ [])))) = refl
builtin_is (Some (a ∷ (b ∷ (c ∷ (d ∷ ds))))) = refl

pub diagnostic_is : (arguments : Arguments)
    → diagnostic_attribute arguments ≡ and_then (two_arguments arguments)
    (λ p. severity_and_rule (untemplated_word severities p.0) (rule_name p.1))
diagnostic_is None = refl
diagnostic_is (Some []) = refl
diagnostic_is (Some (a ∷ [])) = refl
diagnostic_is (Some (a ∷ (b ∷ []))) = refl
diagnostic_is (Some (a ∷ (b ∷ (c ∷ [])))) = refl
diagnostic_is (Some (a ∷ (b ∷ (c ∷ (d ∷ ds))))) = refl

pub type_is : (arguments : Arguments) → type_attribute arguments
    ≡ and_then (two_arguments arguments) (λ p. name_and_variants (untemplated_name p.0) (variants p.1))
type_is None = refl
type_is (Some []) = refl
type_is (Some (a ∷ [])) = refl
type_is (Some (a ∷ (b ∷ []))) = refl
type_is (Some (a ∷ (b ∷ (c ∷ [])))) = refl
type_is (Some (a ∷ (b ∷ (c ∷ (d ∷ ds))))) = refl

pub workgroup_size_is : (arguments : Arguments)
    → workgroup_size_attribute arguments ≡ right_or (arguments_of arguments)
    (λ p. workgroup_size (record { x = p.0; y = p.1; z = p.2 })) (codes "expected 1-3 arguments")
workgroup_size_is None = refl
workgroup_size_is (Some []) = refl
workgroup_size_is (Some (a ∷ [])) = refl
workgroup_size_is (Some (a ∷ (b ∷ []))) = refl
workgroup_size_is (Some (a ∷ (b ∷ (c ∷ [])))) = refl
workgroup_size_is (Some (a ∷ (b ∷ (c ∷ (d ∷ ds))))) = refl

one_word : (ty : Option InterpolationType)
    → right_or ty (λ t. interpolate (record { ty = t; sampling = None })) (codes "invalid arguments")
    ≡ right_or (option_map (λ t. record { ty = t; sampling = None }) ty) interpolate (codes "invalid arguments")
one_word None = refl
one_word (Some t) = refl

two_words : (ty : Option InterpolationType) (sampling : Option InterpolationSampling)
    → type_and_sampling ty sampling ≡ right_or (option_and_then (λ t. option_map (λ s.
    record { ty = t; sampling = Some s }) sampling) ty) interpolate (codes "invalid arguments")
two_words None sampling = refl
two_words (Some t) None = refl
two_words (Some t) (Some s) = refl

pub interpolate_is : (arguments : Arguments) → interpolate_attribute arguments
    ≡ right_or (interpolation arguments) interpolate (codes "invalid arguments")
interpolate_is None = refl
interpolate_is (Some []) = refl
interpolate_is (Some (a ∷ [])) = one_word (untemplated_word interpolation_types a)
interpolate_is (Some (a ∷ (b ∷ []))) = two_words (untemplated_word interpolation_types a)
    (untemplated_word interpolation_samplings b)
interpolate_is (Some (a ∷ (b ∷ (c ∷ [])))) = refl
interpolate_is (Some (a ∷ (b ∷ (c ∷ (d ∷ ds))))) = refl

-- the address space and the access mode of arguments
abbrev pub space_of : Option (ExpressionNode × Option ExpressionNode × Option ExpressionNode)
    → Checked (AddressSpace × Option AccessMode)
space_of (Some (e, mode, None)) = space_with_mode (untemplated_word address_spaces e) mode
space_of _ = wrong (codes "template is empty")

space_alone : (space : Option AddressSpace)
    → right_or space (λ s. (s, None)) (codes "invalid address space") ≡ space_with_mode space None
space_alone None = refl
space_alone (Some s) = refl

space_before_mode : (space : Option AddressSpace) (mode : ExpressionNode)
    → space_and_mode space mode ≡ space_with_mode space (Some mode)
space_before_mode None mode = refl
space_before_mode (Some s) mode = refl

pub space_is : (template : List ExpressionNode) → space_in_template template ≡ space_of (one_to_three template)
space_is [] = refl
space_is (a ∷ []) = space_alone (untemplated_word address_spaces a)
space_is (a ∷ (b ∷ [])) = space_before_mode (untemplated_word address_spaces a) b
space_is (a ∷ (b ∷ (c ∷ []))) = refl
space_is (a ∷ (b ∷ (c ∷ (d ∷ ds)))) = refl

-- only storage has an access mode
pub other_space : (space : declared.AddressSpace) → (space ≡ address_space.Storage → ⊥)
    → (mode : ExpressionNode)
    → space_and_mode (Some (address_space_view space)) mode
    ≡ wrong (codes "only variables with `storage` address space can have an access mode")
other_space address_space.Storage n mode = absurd (n refl)
other_space _ n mode = refl
