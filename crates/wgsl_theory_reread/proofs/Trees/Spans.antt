-- The printed texts of expressions and attributes are the same with the spans set aside.
use Rattle.std.proofs.Common.{◌≡◌, ℕ, List, [], ◌∷◌, ◌++◌, map, refl, codes, if◌then◌else◌, Option, Some, None}
use Rattle.std.specs.Option.{option_map}
use Rattle.wgsl_model.specs.Trees.Spanned.{Spanned}
use Rattle.wgsl_model.specs.Trees.Operators.{UnaryOperator}
use Rattle.wgsl_model.specs.Printed.Operators.{unary_operator_text, binary_operator_text}
use Rattle.wgsl_model.specs.Trees.Expressions.{ExpressionNode, expression_node, Expression, literal, parenthesized, named_component, indexing, unary, binary, function_call, type_or_identifier, FunctionCall, call, TypeExpression, type_expression, no_template, template, ExpressionNodes, no_expressions, expression_before}
use Rattle.wgsl_model.specs.Trees.Attributes as tree
use Rattle.wgsl_model.specs.Printed.Joining.{joined}
use Rattle.wgsl_model.specs.Printed.Expressions.{is_abstract_int, fuses, expression_in, print_expression, print_expression_node, expression_texts, print_call, print_type}
use Rattle.wgsl_model.specs.Printed.Attributes.{print_further, print_arguments, print_attribute, print_attributes, print_attribute_line, print_attributes_before}
use Rattle.wgsl_model.specs.Trees.WithoutSpans.{bare_expression, bare_expression_node, bare_expressions, bare_call, bare_type, bare_attribute, bare_attributes}

-- ---- expressions
-- what an expression begins with, where a blank depends on it
whole_bare : (e : ExpressionNode)
    → is_abstract_int (expression_in (bare_expression_node e)) ≡ is_abstract_int (expression_in e)
whole_bare (expression_node (literal l) s) = refl
whole_bare (expression_node e s) = refl

fuses_bare : (operator : UnaryOperator) (e : ExpressionNode)
    → fuses operator (expression_in (bare_expression_node e)) ≡ fuses operator (expression_in e)
fuses_bare operator (expression_node (literal l) s) = refl
fuses_bare operator (expression_node e s) = refl

mutual
  pub expression_bare : (e : Expression) → print_expression (bare_expression e) ≡ print_expression e
  expression_bare (literal l) = refl
  expression_bare (parenthesized e) = λ i. codes "(" ++ node_bare e i ++ codes ")"
  expression_bare (named_component base name) =
      λ i. node_bare base i ++ (if whole_bare base i then codes " ." else codes ".") ++ name
  expression_bare (indexing base index) = λ i. node_bare base i ++ codes "[" ++ node_bare index i ++ codes "]"
  expression_bare (unary operator operand) = λ i. unary_operator_text operator
      ++ (if fuses_bare operator operand i then codes " " else []) ++ node_bare operand i
  expression_bare (binary operator left right) =
      λ i. node_bare left i ++ codes " " ++ binary_operator_text operator ++ codes " " ++ node_bare right i
  expression_bare (function_call c) = call_bare c
  expression_bare (type_or_identifier t) = type_bare t

  pub node_bare : (e : ExpressionNode) → print_expression_node (bare_expression_node e) ≡ print_expression_node e
  node_bare (expression_node e s) = expression_bare e

  texts_bare : (es : ExpressionNodes) → expression_texts (bare_expressions es) ≡ expression_texts es
  texts_bare no_expressions = refl
  texts_bare (expression_before e es) = λ i. node_bare e i ∷ texts_bare es i

  pub call_bare : (c : FunctionCall) → print_call (bare_call c) ≡ print_call c
  call_bare (call ty arguments) =
      λ i. type_bare ty i ++ codes "(" ++ joined (codes ", ") (texts_bare arguments i) ++ codes ")"

  pub type_bare : (t : TypeExpression) → print_type (bare_type t) ≡ print_type t
  type_bare (type_expression name no_template) = refl
  type_bare (type_expression name (template arguments)) =
      λ i. name ++ codes "<" ++ joined (codes ", ") (texts_bare arguments i) ++ codes ">"

-- ---- attributes
further_bare : (e : Option ExpressionNode) → print_further (option_map bare_expression_node e) ≡ print_further e
further_bare None = refl
further_bare (Some e) = λ i. codes ", " ++ node_bare e i

nodes_bare : (es : List ExpressionNode)
    → map print_expression_node (map bare_expression_node es) ≡ map print_expression_node es
nodes_bare [] = refl
nodes_bare (e ∷ es) = λ i. node_bare e i ∷ nodes_bare es i

types_bare : (ts : List TypeExpression) → map print_type (map bare_type ts) ≡ map print_type ts
types_bare [] = refl
types_bare (t ∷ ts) = λ i. type_bare t i ∷ types_bare ts i

arguments_bare : (arguments : Option (List ExpressionNode))
    → print_arguments (option_map (map bare_expression_node) arguments) ≡ print_arguments arguments
arguments_bare None = refl
arguments_bare (Some es) = λ i. codes "(" ++ joined (codes ", ") (nodes_bare es i) ++ codes ")"

attribute_bare : (a : tree.Attribute) → print_attribute (bare_attribute a) ≡ print_attribute a
attribute_bare (tree.with_argument name e) =
    λ i. codes "@" ++ tree.one_argument_text name ++ codes "(" ++ node_bare e i ++ codes ")"
attribute_bare (tree.without_argument name) = refl
attribute_bare (tree.builtin value) = refl
attribute_bare (tree.diagnostic d) = refl
attribute_bare (tree.interpolate j) = refl
attribute_bare (tree.workgroup_size w) =
    λ i. codes "@workgroup_size(" ++ node_bare w.x i ++ further_bare w.y i ++ further_bare w.z i ++ codes ")"
attribute_bare (tree.type_constraint t) = λ i. codes "@type("
    ++ (t.ident ++ codes ", " ++ joined (codes " | ") (types_bare t.variants i)) ++ codes ")"
attribute_bare (tree.custom c) = λ i. codes "@" ++ c.name ++ arguments_bare c.arguments i

attribute_texts_bare : (attributes : tree.Attributes)
    → map (λ (a : Spanned tree.Attribute). print_attribute a.node) (bare_attributes attributes)
    ≡ map (λ (a : Spanned tree.Attribute). print_attribute a.node) attributes
attribute_texts_bare [] = refl
attribute_texts_bare (a ∷ more) = λ i. attribute_bare a.node i ∷ attribute_texts_bare more i

attributes_bare : (end : List ℕ) (attributes : tree.Attributes)
    → print_attributes end (bare_attributes attributes) ≡ print_attributes end attributes
attributes_bare end [] = refl
attributes_bare end (a ∷ more) = λ i. joined (codes " ") (attribute_texts_bare (a ∷ more) i) ++ end

pub attribute_line_bare : (attributes : tree.Attributes)
    → print_attribute_line (bare_attributes attributes) ≡ print_attribute_line attributes
attribute_line_bare = attributes_bare (codes "\n")

pub attributes_before_bare : (attributes : tree.Attributes)
    → print_attributes_before (bare_attributes attributes) ≡ print_attributes_before attributes
attributes_before_bare = attributes_bare (codes " ")
