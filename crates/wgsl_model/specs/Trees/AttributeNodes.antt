-- Written by tools/tables/plain_nodes.py from crates/wgsl_model/nodes: the trees of attributes.
use Rattle.std.specs.Prelude.{ℕ, List, [], ◌∷◌, Option, codes}
use Rattle.wgsl_model.specs.Trees.NamedValues.{DiagnosticSeverity, BuiltinValue, InterpolationType, InterpolationSampling}
use Rattle.wgsl_model.specs.Trees.Expressions.{ExpressionNode, TypeExpression}

-- `@diagnostic(severity, rule)`: a severity and the name of a rule
pub record DiagnosticAttribute : Type 0 where
  pub severity : DiagnosticSeverity
  pub rule : List ℕ

-- `@interpolate(ty, sampling)`: how a value is interpolated
pub record InterpolateAttribute : Type 0 where
  -- the type of the interpolation
  pub ty : InterpolationType
  pub sampling : Option InterpolationSampling

-- `@workgroup_size(x, y, z)`: the sizes of a workgroup
pub record WorkgroupSizeAttribute : Type 0 where
  pub x : ExpressionNode
  pub y : Option ExpressionNode
  pub z : Option ExpressionNode

-- `@type(ident, variants)`: a name, and the types that it may be
pub record TypeConstraint : Type 0 where
  pub ident : List ℕ
  pub variants : List TypeExpression

-- an attribute of another name
pub record CustomAttribute : Type 0 where
  pub name : List ℕ
  -- the arguments, if it has parentheses
  pub arguments : Option (List ExpressionNode)

-- an attribute with one argument
pub data OneArgument : Type 0 where
  align binding blend_src group id location size if_attribute elif_attribute : OneArgument

-- the name of an attribute with one argument
abbrev pub one_argument_text : OneArgument → List ℕ
one_argument_text align = codes "align"
one_argument_text binding = codes "binding"
one_argument_text blend_src = codes "blend_src"
one_argument_text group = codes "group"
one_argument_text id = codes "id"
one_argument_text location = codes "location"
one_argument_text size = codes "size"
one_argument_text if_attribute = codes "if"
one_argument_text elif_attribute = codes "elif"

-- the attributes with one argument
abbrev pub one_argument_attributes : List OneArgument
one_argument_attributes = align ∷ binding ∷ blend_src ∷ group ∷ id ∷ location ∷ size ∷ if_attribute
    ∷ elif_attribute ∷ []

-- an attribute without arguments
pub data NoArgument : Type 0 where
  const_attribute invariant must_use vertex fragment compute else_attribute : NoArgument

-- the name of an attribute without arguments
abbrev pub no_argument_text : NoArgument → List ℕ
no_argument_text const_attribute = codes "const"
no_argument_text invariant = codes "invariant"
no_argument_text must_use = codes "must_use"
no_argument_text vertex = codes "vertex"
no_argument_text fragment = codes "fragment"
no_argument_text compute = codes "compute"
no_argument_text else_attribute = codes "else"

-- the attributes without arguments
abbrev pub no_argument_attributes : List NoArgument
no_argument_attributes = const_attribute ∷ invariant ∷ must_use ∷ vertex ∷ fragment ∷ compute ∷ else_attribute ∷ []

-- an attribute, as `@align(4)`
pub data Attribute : Type 0 where
  with_argument : OneArgument → ExpressionNode → Attribute
  without_argument : NoArgument → Attribute
  builtin : BuiltinValue → Attribute
  diagnostic : DiagnosticAttribute → Attribute
  interpolate : InterpolateAttribute → Attribute
  workgroup_size : WorkgroupSizeAttribute → Attribute
  type_constraint : TypeConstraint → Attribute
  custom : CustomAttribute → Attribute
