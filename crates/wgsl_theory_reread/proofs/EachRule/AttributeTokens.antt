-- Attributes are written as their names and arguments.
use Rattle.std.proofs.Common.{◌≡◌, ℕ, List, [], ◌∷◌, ◌++◌, Option, Some, None, refl, sym, ap, subst, ◌∙◌}
use Rattle.std.specs.Prelude.{codes, option_map}
use Rattle.wgsl_model.specs.Tokens.ClassTable.{SymComma, SymOr, SymParenRight, TemplateArgsStart, TemplateArgsEnd}
use Rattle.wgsl_model.specs.Tokens.Kind.{Kind, plain}
use Rattle.wgsl_model.specs.Tokens.Raw.{kind_of_word}
use Rattle.wgsl_model.specs.Trees.Operators.{bitwise_or}
use Rattle.wgsl_model.specs.Trees.NamedValues.{DiagnosticSeverity, severities, AccessMode, access_modes, AddressSpace, AddressSpace.storage, address_spaces, InterpolationType, interpolation_types, InterpolationSampling, interpolation_samplings, builtin_values, address_space_text}
use Rattle.wgsl_model.specs.Trees.Expressions.{ExpressionNode, expression_node, Expression, binary, type_or_identifier, TypeExpression}
use Rattle.wgsl_model.specs.Trees.Attributes.{OneArgument, one_argument_text, NoArgument, no_argument_text, Attribute, with_argument, without_argument, builtin, diagnostic, interpolate, workgroup_size, type_constraint, custom}
use Rattle.wgsl_model.specs.Grammar.Checks.{Checked, right, right_or, untemplated_word, untemplated_name, rule_name, variants, variants_in, space_in_template, space_and_mode, Arguments, with_one, with_none, builtin_attribute, severity_and_rule, diagnostic_attribute, type_and_sampling, interpolate_attribute, workgroup_size_attribute, name_and_variants, type_attribute, named_attribute, AttributeParts, attribute_of}
use Rattle.wgsl_theory_reread.specs.CanonicalExpressions.{optional_tokens, expression_tokens, expression_node_tokens, type_tokens}
use Rattle.wgsl_theory_reread.specs.CanonicalAttributes.{types_tokens, further_types_tokens, arguments_tokens, named_attribute_tokens}
use Rattle.wgsl_theory_reread.specs.CanonicalStatements.{var_template_tokens}
use Rattle.wgsl_theory_reread.proofs.Again.{template_list_tokens}
use Rattle.wgsl_theory_reread.proofs.Names.AttributeNames.{of_each_name}
use Rattle.wgsl_theory_reread.proofs.Names.NamedWords.{bare_name_tokens, severity_tokens, access_mode_tokens, address_space_tokens, interpolation_type_tokens, interpolation_sampling_tokens, builtin_value_tokens}
use Rattle.wgsl_theory_reread.proofs.Names.RuleNames.{PlainArguments, rule_name_tokens}

-- ---- types with `|` between each two
further_after : (ts : List TypeExpression) (t : TypeExpression) (rest : List Kind)
    → further_types_tokens (ts ++ (t ∷ [])) rest ≡ further_types_tokens ts (plain SymOr ∷ type_tokens t rest)
further_after [] t rest = refl
further_after (x ∷ ts) t rest = ap (λ (z : List Kind). plain SymOr ∷ type_tokens x z) (further_after ts t rest)

-- there is one at least, and they are written as their expression
record WritesTypes (e : Expression) (types : List TypeExpression) : Type 0 where
  first : TypeExpression
  others : List TypeExpression
  whole : types ≡ first ∷ others
  tokens : (rest : List Kind) → expression_tokens e rest ≡ types_tokens types rest

variants_in_tokens : (e : Expression) (types : List TypeExpression) → variants_in e ≡ Some types → WritesTypes e types
variants_in_tokens (type_or_identifier t) types h =
    let same : t ∷ [] ≡ types = cc in subst (WritesTypes (type_or_identifier t)) same
    (record { first = t; others = []; whole = refl; tokens = λ rest. refl })
variants_in_tokens (binary bitwise_or (expression_node left s) (expression_node (type_or_identifier t) u)) types h =
    at (λ ts q. variants_in_tokens left ts q) (variants_in left) refl h
  where
    whole : Expression
    whole = binary bitwise_or (expression_node left s) (expression_node (type_or_identifier t) u)

    at : ((ts : List TypeExpression) → variants_in left ≡ Some ts → WritesTypes left ts)
        → (o : Option (List TypeExpression)) → variants_in left ≡ o
        → option_map (λ (ts : List TypeExpression). ts ++ (t ∷ [])) o ≡ Some types → WritesTypes whole types
    at before None q g = absurd (cc)
    at before (Some ts) q g =
        let same : ts ++ (t ∷ []) ≡ types = cc in
        let found = before ts q in
        let longer : types ≡ found.first ∷ (found.others ++ (t ∷ [])) = sym same
        ∙ ap (λ (z : List TypeExpression). z ++ (t ∷ [])) found.whole in
        record {
          first = found.first;
          others = found.others ++ (t ∷ []);
          whole = longer;
          tokens = λ rest. found.tokens (plain SymOr ∷ type_tokens t rest)
              ∙ ap (λ (z : List TypeExpression). types_tokens z (plain SymOr ∷ type_tokens t rest)) found.whole
              ∙ ap (λ (z : List Kind). type_tokens found.first z) (sym (further_after found.others t rest))
              ∙ ap (λ (z : List TypeExpression). types_tokens z rest) (sym longer);
        }
variants_in_tokens e types h = absurd (cc)

variants_tokens : (e : ExpressionNode) (types : List TypeExpression) → variants e ≡ Some types
    → (rest : List Kind) → expression_node_tokens e rest ≡ types_tokens types rest
variants_tokens (expression_node e s) types h rest = (variants_in_tokens e types h).tokens rest

-- what is right is there
right_there : {A B : Type 0} (o : Option A) (f : A → B) (text : List ℕ) (b : B)
    → right_or o f text ≡ right b → (x : A) × (o ≡ Some x) × (f x ≡ b)
right_there None f text b h = absurd (cc)
right_there (Some x) f text b h = (x, refl, cc)

-- ---- `var` templates
pub space_tokens : (es : List ExpressionNode) (p : AddressSpace × Option AccessMode)
    → space_in_template es ≡ right p → (rest : List Kind)
    → var_template_tokens p rest ≡ template_list_tokens es rest
space_tokens [] p h rest = absurd (cc)
space_tokens (e ∷ []) p h rest =
    let found = right_there (untemplated_word address_spaces e) (λ space. (space, None))
    (codes "invalid address space") p h in
    rw (← found.2, address_space_tokens e found.0 found.1 (plain TemplateArgsEnd ∷ rest)) refl
space_tokens (e ∷ (m ∷ [])) p h rest = at (untemplated_word address_spaces e) refl h where
  at : (o : Option AddressSpace) → untemplated_word address_spaces e ≡ o → space_and_mode o m ≡ right p
      → var_template_tokens p rest ≡ template_list_tokens (e ∷ (m ∷ [])) rest
  at (Some storage) f h =
      let found = right_there (untemplated_word access_modes m) (λ mode. (storage, Some mode))
      (codes "invalid access mode") p h in
      let first = address_space_tokens e storage f
      (plain SymComma ∷ expression_node_tokens m (plain TemplateArgsEnd ∷ rest)) in
      let second = access_mode_tokens m found.0 found.1 (plain TemplateArgsEnd ∷ rest) in
      ap (λ (z : AddressSpace × Option AccessMode). var_template_tokens z rest) (sym found.2)
      ∙ sym (ap (λ (z : List Kind). plain TemplateArgsStart ∷ z) (first
      ∙ ap (λ (z : List Kind). kind_of_word (address_space_text storage) ∷ (plain SymComma ∷ z)) second))
  at o f h = absurd (cc)
space_tokens (e ∷ (m ∷ (n ∷ es))) p h rest = absurd (cc)

-- ---- what a name makes of its arguments
-- it is written as that name and these arguments
abbrev WritesName : List ℕ → (Arguments → Checked Attribute) → Type 0
WritesName name f = (x : Arguments) → PlainArguments x → (a : Attribute) → f x ≡ right a
    → (rest : List Kind)
    → named_attribute_tokens a rest ≡ kind_of_word name ∷ optional_tokens arguments_tokens x rest

one_written : (name : OneArgument) → WritesName (one_argument_text name) (with_one (with_argument name))
one_written name (Some (e ∷ [])) p a q rest =
    let same : with_argument name e ≡ a = cc in
    ap (λ (z : Attribute). named_attribute_tokens z rest) (sym same)
one_written name x p a q rest = absurd (cc)

none_written : (name : NoArgument) → WritesName (no_argument_text name) (with_none (without_argument name))
none_written name None p a q rest =
    let same : without_argument name ≡ a = cc in
    ap (λ (z : Attribute). named_attribute_tokens z rest) (sym same)
none_written name x p a q rest = absurd (cc)

size_written : WritesName (codes "workgroup_size") workgroup_size_attribute
size_written (Some (x ∷ [])) p a q rest =
    let same : workgroup_size (record { x = x; y = None; z = None }) ≡ a = cc in
    ap (λ (z : Attribute). named_attribute_tokens z rest) (sym same)
size_written (Some (x ∷ (y ∷ []))) p a q rest =
    let same : workgroup_size (record { x = x; y = Some y; z = None }) ≡ a = cc in
    ap (λ (z : Attribute). named_attribute_tokens z rest) (sym same)
size_written (Some (x ∷ (y ∷ (z ∷ [])))) p a q rest =
    let same : workgroup_size (record { x = x; y = Some y; z = Some z }) ≡ a = cc in
    ap (λ (z : Attribute). named_attribute_tokens z rest) (sym same)
size_written x p a q rest = absurd (cc)

builtin_written : WritesName (codes "builtin") builtin_attribute
builtin_written (Some (e ∷ [])) p a q rest =
    let found = right_there (untemplated_word builtin_values e) builtin
    (codes "the argument is not a valid built-in value name") a q in
    rw (← found.2, builtin_value_tokens e found.0 found.1 (plain SymParenRight ∷ rest)) refl
builtin_written x p a q rest = absurd (cc)

diagnostic_written : WritesName (codes "diagnostic") diagnostic_attribute
diagnostic_written (Some (e ∷ (r ∷ []))) p a q rest = at (untemplated_word severities e) (rule_name r) refl refl q where
  at : (o : Option DiagnosticSeverity) (m : Option (List ℕ)) → untemplated_word severities e ≡ o
      → rule_name r ≡ m → severity_and_rule o m ≡ right a
      → named_attribute_tokens a rest ≡ kind_of_word (codes "diagnostic") ∷ arguments_tokens (e ∷ (r ∷ [])) rest
  at (Some severity) (Some rule) f g h =
      let same : diagnostic (record { severity = severity; rule = rule }) ≡ a = cc in
      let second : List Kind = plain SymComma ∷ expression_node_tokens r (plain SymParenRight ∷ rest) in
      rw (← same, severity_tokens e severity f second, rule_name_tokens r rule g p.1.0 (plain SymParenRight ∷ rest))
      refl
  at o m f g h = absurd (cc)
diagnostic_written x p a q rest = absurd (cc)

interpolate_written : WritesName (codes "interpolate") interpolate_attribute
interpolate_written (Some (e ∷ [])) p a q rest =
    let found = right_there (untemplated_word interpolation_types e)
    (λ ty. interpolate (record { ty = ty; sampling = None })) (codes "invalid arguments") a q in
    rw (← found.2, interpolation_type_tokens e found.0 found.1 (plain SymParenRight ∷ rest)) refl
interpolate_written (Some (e ∷ (s ∷ []))) p a q rest = at (untemplated_word interpolation_types e)
    (untemplated_word interpolation_samplings s) refl refl q
  where
    at : (o : Option InterpolationType) (m : Option InterpolationSampling)
        → untemplated_word interpolation_types e ≡ o
        → untemplated_word interpolation_samplings s ≡ m → type_and_sampling o m ≡ right a
        → named_attribute_tokens a rest ≡ kind_of_word (codes "interpolate") ∷ arguments_tokens (e ∷ (s ∷ [])) rest
    at (Some ty) (Some sampling) f g h =
        let same : interpolate (record { ty = ty; sampling = Some sampling }) ≡ a = cc in
        let second : List Kind = plain SymComma ∷ expression_node_tokens s (plain SymParenRight ∷ rest) in
        rw (
          ← same,
          interpolation_type_tokens e ty f second,
          interpolation_sampling_tokens s sampling g (plain SymParenRight ∷ rest),
        ) refl
    at o m f g h = absurd (cc)
interpolate_written x p a q rest = absurd (cc)

type_written : WritesName (codes "type") type_attribute
type_written (Some (t ∷ (c ∷ []))) p a q rest = at (untemplated_name t) (variants c) refl refl q where
  at : (o : Option (List ℕ)) (m : Option (List TypeExpression)) → untemplated_name t ≡ o
      → variants c ≡ m → name_and_variants o m ≡ right a
      → named_attribute_tokens a rest ≡ kind_of_word (codes "type") ∷ arguments_tokens (t ∷ (c ∷ [])) rest
  at (Some name) (Some types) f g h =
      let same : type_constraint (record { ident = name; variants = types }) ≡ a = cc in
      let second : List Kind = plain SymComma ∷ expression_node_tokens c (plain SymParenRight ∷ rest) in
      rw (← same, bare_name_tokens t name f second, variants_tokens c types g (plain SymParenRight ∷ rest)) refl
  at o m f g h = absurd (cc)
type_written x p a q rest = absurd (cc)

-- any other name is kept with its arguments
custom_written : (name : List ℕ) → WritesName name (named_attribute None name)
custom_written name x p a q rest =
    let same : custom (record { name = name; arguments = x }) ≡ a = cc in
    ap (λ (z : Attribute). named_attribute_tokens z rest) (sym same)

-- an attribute is written as its name and its arguments
pub attribute_written : (parts : AttributeParts) (a : Attribute) → PlainArguments parts.arguments
    → attribute_of parts ≡ right a → (rest : List Kind) → named_attribute_tokens a rest
    ≡ kind_of_word parts.name ∷ optional_tokens arguments_tokens parts.arguments rest
attribute_written parts a p h rest =
    of_each_name WritesName one_written none_written
    (builtin_written, (diagnostic_written, (interpolate_written, (size_written, (type_written, tt)))))
    custom_written parts.name parts.arguments p a h rest
