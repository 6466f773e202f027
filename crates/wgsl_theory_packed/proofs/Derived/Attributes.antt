-- An attribute fits if its arguments and its span do.
use Rattle.std.proofs.Common.{ℕ, List, [], ◌∷◌, ◌++◌, Option, Some, None}
use Rattle.std.specs.Prelude.{option_map}
use Rattle.std.specs.Option.{IfSome}
use Rattle.wgsl_model.specs.Tokens.Words.{look_up}
use Rattle.wgsl_model.specs.Trees.Operators.{bitwise_or}
use Rattle.wgsl_model.specs.Trees.NamedValues.{DiagnosticSeverity, BuiltinValue, InterpolationType, InterpolationSampling, builtin_values, severities, interpolation_types, interpolation_samplings}
use Rattle.wgsl_model.specs.Trees.Spanned.{Spanned}
use Rattle.wgsl_model.specs.Trees.Expressions.{ExpressionNode, expression_node, Expression, binary, type_or_identifier, TypeExpression}
use Rattle.wgsl_model.specs.Trees.Attributes.{OneArgument, NoArgument, Attribute, with_argument, without_argument, builtin, interpolate}
use Rattle.wgsl_model.specs.Grammar.Checks.{Checked, right, wrong, right_in, right_or, given_or, Arguments, AttributeParts, attribute_names, named_attribute, attribute_of, attribute_node, with_one, with_none, builtin_attribute, diagnostic_attribute, interpolate_attribute, workgroup_size_attribute, type_attribute, severity_and_rule, type_and_sampling, name_and_variants, untemplated_word, untemplated_name, rule_name, variants, variants_in}
use Rattle.wgsl_theory_reread.proofs.Names.AttributeNames.{of_each_name}
use Rattle.wgsl_theory_packed.specs.Fits.{Every, SpanFits, ExpressionFits, NodeFits, TypeFits, AttributeFits}
use Rattle.wgsl_theory_packed.proofs.Derived.Ways.{every_more}

abbrev RightFits : Checked Attribute → Type 0
RightFits (right a) = AttributeFits a
RightFits (wrong text) = Unit {0}

abbrev ArgumentsFit : Arguments → Type 0
ArgumentsFit arguments = IfSome arguments (Every NodeFits)

-- an attribute of these arguments fits if they do
abbrev Keeps : List ℕ → (Arguments → Checked Attribute) → Type 0
Keeps name check = (arguments : Arguments) → ArgumentsFit arguments → RightFits (check arguments)

-- ---- one argument, and none
one_fits : (name : OneArgument) (arguments : Arguments) → ArgumentsFit arguments
    → RightFits (with_one (with_argument name) arguments)
one_fits name (Some (e ∷ [])) h = h.0
one_fits name arguments h = tt

none_fits : (name : NoArgument) (arguments : Arguments) → ArgumentsFit arguments
    → RightFits (with_none (without_argument name) arguments)
none_fits name None h = tt
none_fits name (Some es) h = tt

-- ---- names of values
builtin_right : (o : Option BuiltinValue) (text : List ℕ) → RightFits (right_or o builtin text)
builtin_right None text = tt
builtin_right (Some value) text = tt

builtin_fits : (arguments : Arguments) → ArgumentsFit arguments → RightFits (builtin_attribute arguments)
builtin_fits (Some (e ∷ [])) h = builtin_right (untemplated_word builtin_values e) _
builtin_fits arguments h = tt

rule_right : (o : Option DiagnosticSeverity) (r : Option (List ℕ)) → RightFits (severity_and_rule o r)
rule_right (Some severity) (Some rule) = tt
rule_right o r = tt

diagnostic_fits : (arguments : Arguments) → ArgumentsFit arguments → RightFits (diagnostic_attribute arguments)
diagnostic_fits (Some (e ∷ (r ∷ []))) h = rule_right (untemplated_word severities e) (rule_name r)
diagnostic_fits arguments h = tt

type_right : (o : Option InterpolationType) (text : List ℕ)
    → RightFits (right_or o (λ ty. interpolate (record { ty = ty; sampling = None })) text)
type_right None text = tt
type_right (Some ty) text = tt

sampling_right : (o : Option InterpolationType) (s : Option InterpolationSampling) → RightFits (type_and_sampling o s)
sampling_right (Some ty) (Some sampling) = tt
sampling_right o s = tt

interpolate_fits : (arguments : Arguments) → ArgumentsFit arguments → RightFits (interpolate_attribute arguments)
interpolate_fits (Some (e ∷ [])) h = type_right (untemplated_word interpolation_types e) _
interpolate_fits (Some (e ∷ (s ∷ []))) h =
    sampling_right (untemplated_word interpolation_types e) (untemplated_word interpolation_samplings s)
interpolate_fits arguments h = tt

-- ---- expressions
workgroup_fits : (arguments : Arguments) → ArgumentsFit arguments → RightFits (workgroup_size_attribute arguments)
workgroup_fits (Some (x ∷ [])) h = (h.0, tt, tt)
workgroup_fits (Some (x ∷ (y ∷ []))) h = (h.0, h.1.0, tt)
workgroup_fits (Some (x ∷ (y ∷ (z ∷ [])))) h = (h.0, h.1.0, h.1.1.0)
workgroup_fits arguments h = tt

one_more : (o : Option (List TypeExpression)) (ty : TypeExpression) → IfSome o (Every TypeFits) → TypeFits ty
    → IfSome (option_map (λ types. types ++ (ty ∷ [])) o) (Every TypeFits)
one_more None ty h k = tt
one_more (Some types) ty h k = every_more TypeFits types ty h k

variants_fit : (e : Expression) → ExpressionFits e → IfSome (variants_in e) (Every TypeFits)
variants_fit (type_or_identifier ty) h = (h, tt)
variants_fit (binary bitwise_or (expression_node left s) (expression_node (type_or_identifier ty) u)) h =
    one_more (variants_in left) ty (variants_fit left h.0.1) h.1.1
variants_fit e h = tt

node_variants : (e : ExpressionNode) → NodeFits e → IfSome (variants e) (Every TypeFits)
node_variants (expression_node e s) h = variants_fit e h.1

variants_right : (name : Option (List ℕ)) (types : Option (List TypeExpression)) → IfSome types (Every TypeFits)
    → RightFits (name_and_variants name types)
variants_right (Some name) (Some types) h = h
variants_right name types h = tt

type_fits : (arguments : Arguments) → ArgumentsFit arguments → RightFits (type_attribute arguments)
type_fits (Some (t ∷ (c ∷ []))) h = variants_right (untemplated_name t) (variants c) (node_variants c h.1.0)
type_fits arguments h = tt

-- ---- all of them
named_fits : (name : List ℕ) → Keeps name (named_attribute (look_up attribute_names name) name)
named_fits = of_each_name Keeps one_fits none_fits
    (builtin_fits, (diagnostic_fits, (interpolate_fits, (workgroup_fits, (type_fits, tt))))) (λ name arguments h. h)

given_fits : (c : Checked Attribute) (other : Attribute) → RightFits c → AttributeFits other
    → AttributeFits (given_or other (right_in c))
given_fits (right a) other h k = h
given_fits (wrong text) other h k = k

pub attribute_fits : (a : Spanned AttributeParts) → ArgumentsFit a.node.arguments → SpanFits a.span
    → SpanFits (attribute_node a).span × AttributeFits (attribute_node a).node
attribute_fits a h s = (
  s,
  given_fits (attribute_of a.node) _
      (named_fits a.node.name a.node.arguments h) h,
)
