-- The checks of names, severities, attributes and `var` templates (WGSL, "Diagnostics",
-- "Attributes", "Address Spaces", "Memory Access Mode"): a value, or the text of the fault.
use Rattle.std.specs.Prelude.{ℕ, ◌==◌, if◌then◌else◌, List, [], ◌∷◌, ◌++◌, Option, Some, None, option_map, option_and_then, codes}
use Rattle.grammar.specs.Tokens.{Token, Span, Fault}
use Rattle.wgsl_model.specs.Tokens.ClassTable.{ReservedWord}
use Rattle.wgsl_model.specs.Tokens.Words.{look_up}
use Rattle.wgsl_model.specs.Faults.Kinds.{span_of_token, reserved_word, diagnostic_severity, invalid_attribute, invalid_var_template}
use Rattle.wgsl_model.specs.Trees.Operators.{BinaryOperator.bitwise_or}
use Rattle.wgsl_model.specs.Trees.NamedValues.{WordTable, words_of, DiagnosticSeverity, DiagnosticSeverity.error, severities, AccessMode, access_modes, AddressSpace, AddressSpace.storage, address_spaces, InterpolationType, interpolation_types, InterpolationSampling, interpolation_samplings, builtin_values}
use Rattle.wgsl_model.specs.Trees.Spanned.{Spanned}
use Rattle.wgsl_model.specs.Trees.Expressions.{ExpressionNode, ExpressionNode.expression_node, Expression, Expression.named_component, Expression.binary, Expression.type_or_identifier, TypeExpression, TypeExpression.type_expression, TemplateArguments.no_template}
use Rattle.wgsl_model.specs.Trees.Attributes.{one_argument_text, one_argument_attributes, no_argument_text, no_argument_attributes, Attribute, with_argument, without_argument, builtin, diagnostic, interpolate, workgroup_size, type_constraint, custom}
use Rattle.wgsl_model.specs.Trees.Statements.{DeclarationKind, DeclarationKind.var_kind}
use Rattle.wgsl_model.specs.Grammar.TokenValues.{text_of}

-- a value, or the text of the fault
pub data Checked (A : Type 0) : Type 0 where
  right : A → Checked A
  wrong : List ℕ → Checked A

-- the value of what is right
abbrev pub right_in : {A : Type 0} → Checked A → Option A
right_in (right a) = Some a
right_in (wrong text) = None

-- a fault with the text of what is wrong
abbrev pub fault_in : {A : Type 0} → Checked A → (List ℕ → Fault) → Option Fault
fault_in (right a) fault = None
fault_in (wrong text) fault = Some (fault text)

-- the value that is there, or the text of the fault
abbrev pub right_or : {A B : Type 0} → Option A → (A → B) → List ℕ → Checked B
right_or None f text = wrong text
right_or (Some a) f text = right (f a)

-- what is there, or another value
abbrev pub given_or : {A : Type 0} → A → Option A → A
given_or a None = a
given_or a (Some b) = b

-- ---- names
-- a reserved word is no name
abbrev pub unreserved : Token → Span → Option Fault
unreserved t span = if t.class == ReservedWord then Some (reserved_word (text_of t) span) else None

-- a fault where nothing is there
abbrev pub fault_unless : {A : Type 0} → Option A → Fault → Option Fault
fault_unless None fault = Some fault
fault_unless (Some a) fault = None

-- an identifier names a severity; a reserved word is a fault of its own
abbrev pub severity_fault : Token → Option Fault
severity_fault t = if t.class == ReservedWord then None
    else fault_unless (look_up severities (text_of t)) (diagnostic_severity (span_of_token t))

-- the severity that an identifier names
abbrev pub severity_of : Token → DiagnosticSeverity
severity_of t = given_or error (look_up severities (text_of t))

-- ---- arguments
-- the name that an expression is: an identifier without a template
abbrev pub untemplated_name_in : Expression → Option (List ℕ)
untemplated_name_in (type_or_identifier (type_expression name no_template)) = Some name
untemplated_name_in e = None

-- the name that a node is
abbrev pub untemplated_name : ExpressionNode → Option (List ℕ)
untemplated_name (expression_node e s) = untemplated_name_in e

-- what a table has for the name that a node is
abbrev pub untemplated_word : {A : Type 0} → WordTable A → ExpressionNode → Option A
untemplated_word words e = option_and_then (λ name. look_up words name) (untemplated_name e)

-- the name of a diagnostic rule that an expression is: one name, or two with `.` between
abbrev pub rule_name_in : Expression → Option (List ℕ)
rule_name_in (named_component base component) =
    option_map (λ name. name ++ (codes "." ++ component)) (untemplated_name base)
rule_name_in e = untemplated_name_in e

-- the name of a diagnostic rule that a node is
abbrev pub rule_name : ExpressionNode → Option (List ℕ)
rule_name (expression_node e s) = rule_name_in e

-- a type expression, or a left chain of them by `|`
abbrev pub variants_in : Expression → Option (List TypeExpression)
variants_in (type_or_identifier ty) = Some (ty ∷ [])
variants_in (binary bitwise_or (expression_node left s) (expression_node (type_or_identifier ty) u)) =
    option_map (λ types. types ++ (ty ∷ [])) (variants_in left)
variants_in e = None

-- the types that a node lists
abbrev pub variants : ExpressionNode → Option (List TypeExpression)
variants (expression_node e s) = variants_in e

-- ---- `var` templates
-- an access mode after an address space, which only storage can have
abbrev pub space_and_mode : Option AddressSpace → ExpressionNode → Checked (AddressSpace × Option AccessMode)
space_and_mode None e = wrong (codes "invalid address space")
space_and_mode (Some storage) e = right_or (untemplated_word access_modes e)
    (λ mode. (storage, Some mode)) (codes "invalid access mode")
space_and_mode (Some space) e = wrong (codes "only variables with `storage` address space can have an access mode")

-- one or two arguments: an address space, and an access mode
abbrev pub space_in_template : List ExpressionNode → Checked (AddressSpace × Option AccessMode)
space_in_template [] = wrong (codes "template is empty")
space_in_template (e ∷ []) = right_or (untemplated_word address_spaces e) (λ space. (space, None))
    (codes "invalid address space")
space_in_template (e ∷ (m ∷ [])) = space_and_mode (untemplated_word address_spaces e) m
space_in_template (e ∷ (m ∷ (n ∷ es))) = wrong (codes "template is empty")

-- what is wrong with `var` and its template
abbrev pub var_fault : Option (List ExpressionNode) → Span → Option Fault
var_fault None span = None
var_fault (Some es) span = fault_in (space_in_template es) (λ text. invalid_var_template text span)

-- the kind that `var` declares with its template
abbrev pub var_kind_of : Option (List ExpressionNode) → DeclarationKind
var_kind_of None = var_kind None
var_kind_of (Some es) = var_kind (right_in (space_in_template es))

-- ---- attributes
-- an attribute's arguments: none without parentheses
abbrev pub Arguments : Type 0
Arguments = Option (List ExpressionNode)

-- a list of one
abbrev pub with_one : (ExpressionNode → Attribute) → Arguments → Checked Attribute
with_one attribute (Some (e ∷ [])) = right (attribute e)
with_one attribute arguments = wrong (codes "expected 1 argument")

-- no list
abbrev pub with_none : Attribute → Arguments → Checked Attribute
with_none attribute None = right attribute
with_none attribute (Some es) = wrong (codes "expected 0 arguments")

-- a list of one: the name of a built-in value
abbrev pub builtin_attribute : Arguments → Checked Attribute
builtin_attribute (Some (e ∷ [])) = right_or (untemplated_word builtin_values e) builtin
    (codes "the argument is not a valid built-in value name")
builtin_attribute arguments = wrong (codes "expected 1 argument")

-- a list of two: a severity and the name of a rule
abbrev pub severity_and_rule : Option DiagnosticSeverity → Option (List ℕ) → Checked Attribute
severity_and_rule (Some severity) (Some rule) = right (diagnostic (record { severity = severity; rule = rule }))
severity_and_rule severity rule = wrong (codes "invalid arguments")

-- a list of two, a severity and the name of a rule
abbrev pub diagnostic_attribute : Arguments → Checked Attribute
diagnostic_attribute (Some (e ∷ (r ∷ []))) = severity_and_rule (untemplated_word severities e) (rule_name r)
diagnostic_attribute arguments = wrong (codes "expected 2 arguments")

-- a list of one or two: an interpolation type, and a sampling
abbrev pub type_and_sampling : Option InterpolationType → Option InterpolationSampling → Checked Attribute
type_and_sampling (Some ty) (Some sampling) = right (interpolate (record { ty = ty; sampling = Some sampling }))
type_and_sampling ty sampling = wrong (codes "invalid arguments")

-- a list of one or two, an interpolation type and a sampling
abbrev pub interpolate_attribute : Arguments → Checked Attribute
interpolate_attribute (Some (e ∷ [])) = right_or (untemplated_word interpolation_types e)
    (λ ty. interpolate (record { ty = ty; sampling = None })) (codes "invalid arguments")
interpolate_attribute (Some (e ∷ (s ∷ []))) = type_and_sampling (untemplated_word interpolation_types e)
    (untemplated_word interpolation_samplings s)
interpolate_attribute arguments = wrong (codes "invalid arguments")

-- a list of one to three
abbrev pub workgroup_size_attribute : Arguments → Checked Attribute
workgroup_size_attribute (Some (x ∷ [])) = right (workgroup_size (record { x = x; y = None; z = None }))
workgroup_size_attribute (Some (x ∷ (y ∷ []))) = right (workgroup_size (record { x = x; y = Some y; z = None }))
workgroup_size_attribute (Some (x ∷ (y ∷ (z ∷ [])))) = right (workgroup_size (record { x = x; y = Some y; z = Some z }))
workgroup_size_attribute arguments = wrong (codes "expected 1-3 arguments")

-- a list of two: a name, and the types that it may be
abbrev pub name_and_variants : Option (List ℕ) → Option (List TypeExpression) → Checked Attribute
name_and_variants None types = wrong (codes "invalid first argument (type name)")
name_and_variants (Some name) None = wrong (codes "invalid second argument (type constraint)")
name_and_variants (Some name) (Some types) = right (type_constraint (record { ident = name; variants = types }))

-- a list of two, a name and the types that it may be
abbrev pub type_attribute : Arguments → Checked Attribute
type_attribute (Some (t ∷ (c ∷ []))) = name_and_variants (untemplated_name t) (variants c)
type_attribute arguments = wrong (codes "expected 2 arguments")

-- what each name makes of its arguments
abbrev pub attribute_names : WordTable (Arguments → Checked Attribute)
attribute_names =
    words_of one_argument_text (λ name. with_one (with_argument name)) one_argument_attributes
    ++ (words_of no_argument_text (λ name. with_none (without_argument name)) no_argument_attributes ++
    ((codes "builtin", builtin_attribute) ∷ (codes "diagnostic", diagnostic_attribute)
    ∷ (codes "interpolate", interpolate_attribute)
    ∷ (codes "workgroup_size", workgroup_size_attribute) ∷ (codes "type", type_attribute) ∷ []))

-- any other name keeps its arguments as they are
abbrev pub named_attribute : Option (Arguments → Checked Attribute) → List ℕ → Arguments → Checked Attribute
named_attribute None name arguments = right (custom (record { name = name; arguments = arguments }))
named_attribute (Some attribute) name arguments = attribute arguments

-- the name and the arguments of an attribute, before they are checked
pub record AttributeParts : Type 0 where
  pub name : List ℕ
  pub arguments : Arguments

-- the parts of an attribute and where it is
abbrev pub attribute_parts : Token × Arguments → Span → Spanned AttributeParts
attribute_parts (name, arguments) span =
    record { node = record { name = text_of name; arguments = arguments }; span = span }

-- the attribute that a name makes of its arguments
abbrev pub attribute_of : AttributeParts → Checked Attribute
attribute_of a = named_attribute (look_up attribute_names a.name) a.name a.arguments

-- what is wrong with an attribute
abbrev pub attribute_fault : Spanned AttributeParts → Span → Option Fault
attribute_fault a span = fault_in (attribute_of a.node) (λ text. invalid_attribute a.node.name text span)

-- the attribute that is right; unchecked, one that is wrong stays a name with its arguments
abbrev pub attribute_node : Spanned AttributeParts → Spanned Attribute
attribute_node a = record {
  node = given_or (custom (record { name = a.node.name; arguments = a.node.arguments }))
      (right_in (attribute_of a.node));
  span = a.span;
}
