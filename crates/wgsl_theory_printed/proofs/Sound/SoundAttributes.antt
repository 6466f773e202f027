-- An attribute whose name and arguments are sound is sound.
use Rattle.std.proofs.Common.{ℕ, sym, subst, List, [], ◌∷◌, ◌++◌, Option, Some, None, append_assoc, append-nil}
use Rattle.std.specs.Prelude.{codes, option_map}
use Rattle.wgsl_model.specs.Tokens.Words.{look_up}
use Rattle.wgsl_model.specs.Trees.NamedValues.{DiagnosticSeverity, severities, InterpolationType, interpolation_types, InterpolationSampling, interpolation_samplings, builtin_values}
use Rattle.wgsl_model.specs.Trees.Operators.{bitwise_or}
use Rattle.wgsl_model.specs.Trees.Expressions.{ExpressionNode, expression_node, Expression, named_component, binary, type_or_identifier, TypeExpression, type_expression, no_template}
use Rattle.wgsl_model.specs.Trees.Attributes.{OneArgument, NoArgument, Attribute, with_argument, without_argument, builtin, interpolate, custom}
use Rattle.wgsl_model.specs.Trees.Spanned.{Spanned}
use Rattle.wgsl_model.specs.Grammar.Checks.{Checked, right, wrong, right_in, right_or, given_or, untemplated_name_in, untemplated_name, untemplated_word, rule_name, variants_in, variants, Arguments, with_one, with_none, builtin_attribute, severity_and_rule, diagnostic_attribute, type_and_sampling, interpolate_attribute, workgroup_size_attribute, name_and_variants, type_attribute, attribute_names, named_attribute, AttributeParts, attribute_of, attribute_node}
use Rattle.wgsl_theory_reread.proofs.Words.{NoPeriod}
use Rattle.wgsl_theory_reread.proofs.Names.AttributeNames.{of_each_name}
use Rattle.wgsl_theory_printed.proofs.Spelling.NoPeriods.{name_has_no_period}
use Rattle.wgsl_theory_printed.proofs.Spelling.Ends.{IsNameText}
use Rattle.wgsl_theory_printed.proofs.Fits.SoundExpressions.{IsSoundNode, IsSoundExpression, IsSoundType}
use Rattle.wgsl_theory_printed.proofs.Fits.FittingAttributes.{IfSome, Every, IsSoundRule, IsSoundAttribute, Every-following}

-- ---- names of rules

one_name_from : (start left : List ℕ) → NoPeriod left → IsNameText (start ++ left) → IsSoundRule start left
one_name_from start [] p n = subst IsNameText (append-nil start) n
one_name_from start (c ∷ cs) p n = rw p.0
    (one_name_from (start ++ (c ∷ [])) cs p.1 (subst IsNameText (sym (append_assoc start (c ∷ []) cs)) n))

-- one name
pub one_name_rule : (text : List ℕ) → IsNameText text → IsSoundRule [] text
one_name_rule text n = one_name_from [] text (name_has_no_period text n) n

two_names_from : (start left second : List ℕ) → NoPeriod left → IsNameText (start ++ left)
    → IsNameText second → IsSoundRule start (left ++ (46 ∷ second))
two_names_from start [] second p n m = (subst IsNameText (append-nil start) n, m)
two_names_from start (c ∷ cs) second p n m = rw p.0 (two_names_from (start ++ (c ∷ [])) cs second p.1
    (subst IsNameText (sym (append_assoc start (c ∷ []) cs)) n) m)

-- two names with `.` between
pub two_names_rule : (first second : List ℕ) → IsNameText first → IsNameText second
    → IsSoundRule [] (first ++ (codes "." ++ second))
two_names_rule first second n m = two_names_from [] first second (name_has_no_period first n) n m

-- ---- arguments

-- a bare name, the name of a rule, and types, where they are found
bare_name_in_sound : (e : Expression) → IsSoundExpression e → IfSome IsNameText (untemplated_name_in e)
bare_name_in_sound (type_or_identifier (type_expression text no_template)) s = s.0
bare_name_in_sound e s = tt

bare_name_sound : (e : ExpressionNode) → IsSoundNode e → IfSome IsNameText (untemplated_name e)
bare_name_sound (expression_node e span) s = bare_name_in_sound e s

-- the name of a rule
mapped_sound : (component : List ℕ) (o : Option (List ℕ)) → IsNameText component → IfSome IsNameText o
    → IfSome (IsSoundRule []) (option_map (λ text. text ++ (codes "." ++ component)) o)
mapped_sound component None n s = tt
mapped_sound component (Some text) n s = two_names_rule text component s n

rule_name_sound : (r : ExpressionNode) → IsSoundNode r → IfSome (IsSoundRule []) (rule_name r)
rule_name_sound (expression_node (named_component base component) span) s = mapped_sound component
    (untemplated_name base) s.2 (bare_name_sound base s.1)
rule_name_sound (expression_node (type_or_identifier (type_expression text no_template)) span) s =
    one_name_rule text s.0
rule_name_sound (expression_node e span) s = tt

more_variants : (o : Option (List TypeExpression)) (ty : TypeExpression) → IfSome (Every IsSoundType) o
    → IsSoundType ty → IfSome (Every IsSoundType) (option_map (λ types. types ++ (ty ∷ [])) o)
more_variants None ty s t = tt
more_variants (Some types) ty s t = Every-following IsSoundType types ty s t

variants_in_sound : (e : Expression) → IsSoundExpression e → IfSome (Every IsSoundType) (variants_in e)
variants_in_sound (type_or_identifier ty) s = (s, tt)
variants_in_sound (binary bitwise_or (expression_node left x) (expression_node (type_or_identifier ty) u)) s =
    more_variants (variants_in left) ty (variants_in_sound left s.0) s.1
variants_in_sound e s = tt

variants_sound : (e : ExpressionNode) → IsSoundNode e → IfSome (Every IsSoundType) (variants e)
variants_sound (expression_node e span) s = variants_in_sound e s

-- ---- what names make of their arguments

-- what is right is sound
abbrev IsSoundChecked : Checked Attribute → Type 0
IsSoundChecked (right a) = IsSoundAttribute a
IsSoundChecked (wrong text) = Unit {0}

abbrev pub AreSoundArguments : Arguments → Type 0
AreSoundArguments = IfSome (λ (es : List ExpressionNode). Every IsSoundNode es)

abbrev Makes : (Arguments → Checked Attribute) → Type 0
Makes f = (a : Arguments) → AreSoundArguments a → IsSoundChecked (f a)

one_makes : (name : OneArgument) → Makes (with_one (with_argument name))
one_makes name None s = tt
one_makes name (Some []) s = tt
one_makes name (Some (e ∷ [])) s = s.0
one_makes name (Some (e ∷ (d ∷ es))) s = tt

none_makes : (name : NoArgument) → Makes (with_none (without_argument name))
none_makes name None s = tt
none_makes name (Some es) s = tt

right_or_sound : {A : Type 0} (o : Option A) (f : A → Attribute) (text : List ℕ)
    → ((x : A) → IsSoundAttribute (f x)) → IsSoundChecked (right_or o f text)
right_or_sound None f text h = tt
right_or_sound (Some x) f text h = h x

builtin_makes : Makes builtin_attribute
builtin_makes None s = tt
builtin_makes (Some []) s = tt
builtin_makes (Some (e ∷ [])) s = right_or_sound (untemplated_word builtin_values e) builtin _ (λ x. tt)
builtin_makes (Some (e ∷ (d ∷ es))) s = tt

severity_and_rule_sound : (x : Option DiagnosticSeverity) (rule : Option (List ℕ))
    → IfSome (IsSoundRule []) rule → IsSoundChecked (severity_and_rule x rule)
severity_and_rule_sound None rule s = tt
severity_and_rule_sound (Some x) None s = tt
severity_and_rule_sound (Some x) (Some rule) s = s

diagnostic_makes : Makes diagnostic_attribute
diagnostic_makes None s = tt
diagnostic_makes (Some []) s = tt
diagnostic_makes (Some (e ∷ [])) s = tt
diagnostic_makes (Some (e ∷ (r ∷ []))) s = severity_and_rule_sound (untemplated_word severities e)
    (rule_name r) (rule_name_sound r s.1.0)
diagnostic_makes (Some (e ∷ (r ∷ (d ∷ es)))) s = tt

type_and_sampling_sound : (x : Option InterpolationType) (y : Option InterpolationSampling)
    → IsSoundChecked (type_and_sampling x y)
type_and_sampling_sound None y = tt
type_and_sampling_sound (Some x) None = tt
type_and_sampling_sound (Some x) (Some y) = tt

interpolate_makes : Makes interpolate_attribute
interpolate_makes None s = tt
interpolate_makes (Some []) s = tt
interpolate_makes (Some (e ∷ [])) s = right_or_sound (untemplated_word interpolation_types e)
    (λ ty. interpolate (record { ty = ty; sampling = None })) _ (λ x. tt)
interpolate_makes (Some (e ∷ (r ∷ []))) s = type_and_sampling_sound
    (untemplated_word interpolation_types e) (untemplated_word interpolation_samplings r)
interpolate_makes (Some (e ∷ (r ∷ (d ∷ es)))) s = tt

workgroup_size_makes : Makes workgroup_size_attribute
workgroup_size_makes None s = tt
workgroup_size_makes (Some []) s = tt
workgroup_size_makes (Some (x ∷ [])) s = (s.0, tt, tt)
workgroup_size_makes (Some (x ∷ (y ∷ []))) s = (s.0, s.1.0, tt)
workgroup_size_makes (Some (x ∷ (y ∷ (z ∷ [])))) s = (s.0, s.1.0, s.1.1.0)
workgroup_size_makes (Some (x ∷ (y ∷ (z ∷ (d ∷ es))))) s = tt

name_and_variants_sound : (x : Option (List ℕ)) (y : Option (List TypeExpression))
    → IfSome IsNameText x → IfSome (Every IsSoundType) y → IsSoundChecked (name_and_variants x y)
name_and_variants_sound None y s t = tt
name_and_variants_sound (Some x) None s t = tt
name_and_variants_sound (Some x) (Some y) s t = (s, t)

type_makes : Makes type_attribute
type_makes None s = tt
type_makes (Some []) s = tt
type_makes (Some (e ∷ [])) s = tt
type_makes (Some (e ∷ (r ∷ []))) s = name_and_variants_sound (untemplated_name e) (variants r)
    (bare_name_sound e s.0) (variants_sound r s.1.0)
type_makes (Some (e ∷ (r ∷ (d ∷ es)))) s = tt

-- whatever the name, which is sound itself
name_makes : (name : List ℕ) → IsNameText name → Makes (named_attribute (look_up attribute_names name) name)
name_makes = of_each_name (λ name check. IsNameText name → Makes check) (λ name n. one_makes name)
    (λ name n. none_makes name) (
      (λ n. builtin_makes),
      ((λ n. diagnostic_makes), ((λ n. interpolate_makes), ((λ n. workgroup_size_makes), ((λ n. type_makes), tt)))),
    ) (λ name n a s. (n, s))

-- an attribute, or a name with its arguments
given_sound : (c : Checked Attribute) (x : Attribute) → IsSoundChecked c → IsSoundAttribute x
    → IsSoundAttribute (given_or x (right_in c))
given_sound (right a) x s t = s
given_sound (wrong text) x s t = t

pub attribute_sound : (p : Spanned AttributeParts) → IsNameText p.node.name
    → AreSoundArguments p.node.arguments → IsSoundAttribute (attribute_node p).node
attribute_sound p n s = given_sound (attribute_of p.node)
    (custom (record { name = p.node.name; arguments = p.node.arguments }))
    (name_makes p.node.name n p.node.arguments s) (n, s)
