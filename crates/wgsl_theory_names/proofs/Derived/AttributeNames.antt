-- An attribute whose arguments are renamed is the attribute, renamed, or has no names.
use Rattle.std.proofs.Common.{◌≡◌, ℕ, List, [], ◌∷◌, ◌++◌, map, Option, Some, None, refl, sym, ap, ◌⊎◌, inl, inr}
use Rattle.std.specs.Option.{option_map}
use Rattle.wgsl_model.specs.Tokens.Words.{look_up}
use Rattle.wgsl_model.specs.Trees.Operators.{bitwise_or}
use Rattle.wgsl_model.specs.Trees.NamedValues.{DiagnosticSeverity, severities, InterpolationType, interpolation_types, InterpolationSampling, interpolation_samplings, builtin_values}
use Rattle.wgsl_model.specs.Trees.Spanned.{Spanned}
use Rattle.wgsl_model.specs.Trees.Expressions.{ExpressionNode, expression_node, Expression, binary, type_or_identifier, TypeExpression, type_expression, no_template}
use Rattle.wgsl_model.specs.Trees.Attributes as tree
use Rattle.wgsl_model.specs.Trees.Attributes.{OneArgument, NoArgument, Attribute, with_argument, without_argument}
use Rattle.wgsl_model.specs.Grammar.Checks.{Checked, right, wrong, right_or, untemplated_word, untemplated_name, untemplated_name_in, rule_name, variants, variants_in, Arguments, with_one, with_none, builtin_attribute, severity_and_rule, diagnostic_attribute, type_and_sampling, interpolate_attribute, workgroup_size_attribute, name_and_variants, type_attribute, attribute_names, named_attribute, AttributeParts}
use Rattle.wgsl_theory_reread.proofs.Ways.{map_after}
use Rattle.wgsl_theory_reread.proofs.Names.AttributeNames.{of_each_name}
use Rattle.wgsl_model_names.specs.Renamed.{Renaming, renamed_expression, renamed_node, renamed_type, renamed_attribute}

module _ (f : Renaming) where
  -- ---- names and types in arguments
  name_in_renamed : (e : Expression)
      → untemplated_name_in (renamed_expression f e) ≡ option_map f (untemplated_name_in e)
  name_in_renamed (type_or_identifier (type_expression name no_template)) = refl
  name_in_renamed e = refl

  name_renamed : (e : ExpressionNode) → untemplated_name (renamed_node f e) ≡ option_map f (untemplated_name e)
  name_renamed (expression_node e s) = name_in_renamed e

  one_more : (t : TypeExpression) (o m : Option (List TypeExpression)) → o ≡ option_map (map (renamed_type f)) m
      → option_map (λ (ts : List TypeExpression). ts ++ (renamed_type f t ∷ [])) o
      ≡ option_map (map (renamed_type f)) (option_map (λ (ts : List TypeExpression). ts ++ (t ∷ [])) m)
  one_more t o None h = rw h refl
  one_more t o (Some ts) h =
      rw h (ap (λ (z : List TypeExpression). Some z) (sym (map_after (renamed_type f) ts t)))

  variants_in_renamed : (e : Expression)
      → variants_in (renamed_expression f e) ≡ option_map (map (renamed_type f)) (variants_in e)
  variants_in_renamed (type_or_identifier t) = refl
  variants_in_renamed (binary bitwise_or (expression_node left s) (expression_node (type_or_identifier t) u)) =
      one_more t (variants_in (renamed_expression f left)) (variants_in left) (variants_in_renamed left)
  variants_in_renamed e = refl

  variants_renamed : (e : ExpressionNode)
      → variants (renamed_node f e) ≡ option_map (map (renamed_type f)) (variants e)
  variants_renamed (expression_node e s) = variants_in_renamed e

  -- ---- attributes
  abbrev pub renamed_arguments : Arguments → Arguments
  renamed_arguments = option_map (map (renamed_node f))

  -- what is right is so with renamed arguments, and renamed; or it has no names
  abbrev pub Turned : Checked Attribute → Checked Attribute → Type 0
  Turned (right a) d = (d ≡ right (renamed_attribute f a)) ⊎ (renamed_attribute f a ≡ a)
  Turned (wrong text) d = Unit {0}

  abbrev pub Turns : (Arguments → Checked Attribute) → Type 0
  Turns check = (x : Arguments) → Turned (check x) (check (renamed_arguments x))

  one_turns : (name : OneArgument) → Turns (with_one (with_argument name))
  one_turns name None = tt
  one_turns name (Some []) = tt
  one_turns tree.align (Some (e ∷ [])) = inl refl
  one_turns tree.binding (Some (e ∷ [])) = inl refl
  one_turns tree.blend_src (Some (e ∷ [])) = inl refl
  one_turns tree.group (Some (e ∷ [])) = inl refl
  one_turns tree.id (Some (e ∷ [])) = inl refl
  one_turns tree.location (Some (e ∷ [])) = inl refl
  one_turns tree.size (Some (e ∷ [])) = inl refl
  one_turns tree.if_attribute (Some (e ∷ [])) = inr refl
  one_turns tree.elif_attribute (Some (e ∷ [])) = inr refl
  one_turns name (Some (e ∷ (x ∷ es))) = tt

  none_turns : (name : NoArgument) → Turns (with_none (without_argument name))
  none_turns name None = inr refl
  none_turns name (Some es) = tt

  right_turns : {A : Type 0} (make : A → Attribute) (text : List ℕ) → ((a : A) → renamed_attribute f (make a) ≡ make a)
      → (o : Option A) (d : Checked Attribute) → Turned (right_or o make text) d
  right_turns make text h None d = tt
  right_turns make text h (Some a) d = inr (h a)

  builtin_turns : Turns builtin_attribute
  builtin_turns None = tt
  builtin_turns (Some []) = tt
  builtin_turns (Some (e ∷ [])) = right_turns tree.builtin _ (λ a. refl) (untemplated_word builtin_values e) _
  builtin_turns (Some (e ∷ (x ∷ es))) = tt

  rule_turns : (o : Option DiagnosticSeverity) (m : Option (List ℕ)) (d : Checked Attribute)
      → Turned (severity_and_rule o m) d
  rule_turns None m d = tt
  rule_turns (Some severity) None d = tt
  rule_turns (Some severity) (Some rule) d = inr refl

  diagnostic_turns : Turns diagnostic_attribute
  diagnostic_turns None = tt
  diagnostic_turns (Some []) = tt
  diagnostic_turns (Some (e ∷ [])) = tt
  diagnostic_turns (Some (e ∷ (r ∷ []))) = rule_turns (untemplated_word severities e) (rule_name r) _
  diagnostic_turns (Some (e ∷ (r ∷ (x ∷ es)))) = tt

  sampling_turns : (o : Option InterpolationType) (m : Option InterpolationSampling) (d : Checked Attribute)
      → Turned (type_and_sampling o m) d
  sampling_turns None m d = tt
  sampling_turns (Some ty) None d = tt
  sampling_turns (Some ty) (Some sampling) d = inr refl

  interpolate_turns : Turns interpolate_attribute
  interpolate_turns None = tt
  interpolate_turns (Some []) = tt
  interpolate_turns (Some (e ∷ [])) = right_turns (λ ty. tree.interpolate (record { ty = ty; sampling = None })) _
      (λ a. refl) (untemplated_word interpolation_types e) _
  interpolate_turns (Some (e ∷ (s ∷ []))) =
      sampling_turns (untemplated_word interpolation_types e) (untemplated_word interpolation_samplings s) _
  interpolate_turns (Some (e ∷ (s ∷ (x ∷ es)))) = tt

  size_turns : Turns workgroup_size_attribute
  size_turns None = tt
  size_turns (Some []) = tt
  size_turns (Some (x ∷ [])) = inl refl
  size_turns (Some (x ∷ (y ∷ []))) = inl refl
  size_turns (Some (x ∷ (y ∷ (z ∷ [])))) = inl refl
  size_turns (Some (x ∷ (y ∷ (z ∷ (e ∷ es))))) = tt

  type_of_turns : (o p : Option (List ℕ)) (m n : Option (List TypeExpression)) → p ≡ option_map f o
      → n ≡ option_map (map (renamed_type f)) m → Turned (name_and_variants o m) (name_and_variants p n)
  type_of_turns None p m n h k = tt
  type_of_turns (Some name) p None n h k = tt
  type_of_turns (Some name) p (Some types) n h k = inl (λ i. name_and_variants (h i) (k i))

  type_turns : Turns type_attribute
  type_turns None = tt
  type_turns (Some []) = tt
  type_turns (Some (t ∷ [])) = tt
  type_turns (Some (t ∷ (c ∷ []))) = type_of_turns (untemplated_name t) _ (variants c) _
      (name_renamed t) (variants_renamed c)
  type_turns (Some (t ∷ (c ∷ (x ∷ es)))) = tt

  -- whatever the name
  pub name_turns : (name : List ℕ) → Turns (named_attribute (look_up attribute_names name) name)
  name_turns = of_each_name (λ name check. Turns check) one_turns none_turns
      (builtin_turns, (diagnostic_turns, (interpolate_turns, (size_turns, (type_turns, tt)))))
      (λ name x. inr refl)

  abbrev pub renamed_parts : Spanned AttributeParts → Spanned AttributeParts
  renamed_parts v = record v { node = record v.node { arguments = renamed_arguments v.node.arguments } }
