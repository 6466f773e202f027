-- Written by tools/tables/tree_readers.py from crates/wgsl_model/nodes: expressions and types read
-- from their codes.
use Rattle.std.specs.Prelude.{[], ◌∷◌, Option, None, Some, codes, ◌≡◌}
use Rattle.std.proofs.Common.{refl}
use Rattle.wgsl_model.specs.Trees.Expressions as plain
use Rattle.wgsl_tree_code.specs.Code.{Code, Codes, absent, code_before, field, list, no_codes, no_fields, node}
use Rattle.wgsl_tree_code.proofs.Reading.{boolean_of, boolean_read, chosen, named, natural_of, natural_read, number_of, number_read, span_of, text_of, text_read, then_of}
use Rattle.wgsl_tree_code.proofs.ReadOperatorNodes.{binary_operator_of, binary_operator_read, unary_operator_of, unary_operator_read}
use Rattle.wgsl_tree_code.specs.ExpressionNodes.{call_code, expression_code, expression_node_code, expression_nodes_code, literal_code, template_code, template_expressions_code, type_code}

abbrev pub literal_expression_of : Code → Option plain.LiteralExpression
literal_expression_of (node (field name value no_fields)) = chosen name
    ((codes "Bool", λ _. then_of (boolean_of value) (λ x0. Some (plain.boolean x0)))
    ∷ (codes "AbstractInt", λ _. then_of (number_of value) (λ x0. Some (plain.abstract_int x0)))
    ∷ (codes "I32", λ _. then_of (number_of value) (λ x0. Some (plain.i32 x0)))
    ∷ (codes "U32", λ _. then_of (natural_of value) (λ x0. Some (plain.u32 x0)))
    ∷ (codes "AbstractFloat", λ _. then_of (text_of value) (λ x0. Some (plain.abstract_float x0)))
    ∷ (codes "F32", λ _. then_of (text_of value) (λ x0. Some (plain.f32 x0)))
    ∷ (codes "F16", λ _. then_of (text_of value) (λ x0. Some (plain.f16 x0))) ∷ [])
literal_expression_of c = None

abbrev mutual
  pub expression_of : Code → Option plain.Expression
  expression_of (node (field name value no_fields)) = chosen name
      ((codes "Literal", λ _. then_of (literal_expression_of value) (λ x0. Some (plain.literal x0)))
      ∷ (codes "Parenthesized", λ _. parenthesized_expression_of value)
      ∷ (codes "NamedComponent", λ _. named_component_expression_of value)
      ∷ (codes "Indexing", λ _. indexing_expression_of value)
      ∷ (codes "Unary", λ _. unary_expression_of value) ∷ (codes "Binary", λ _. binary_expression_of value)
      ∷ (codes "FunctionCall", λ _. then_of (function_call_of value) (λ x0. Some (plain.function_call x0))) ∷ (
        codes "TypeOrIdentifier",
        λ _. then_of (type_expression_of value) (λ x0. Some (plain.type_or_identifier x0)),
      ) ∷ [])
  expression_of c = None

  pub parenthesized_expression_of : Code → Option plain.Expression
  parenthesized_expression_of (node (field n0 c0 no_fields)) = named (n0 ∷ [])
      (codes "expression" ∷ []) (then_of (expression_node_of c0) (λ x0. Some (plain.parenthesized x0)))
  parenthesized_expression_of c = None

  pub named_component_expression_of : Code → Option plain.Expression
  named_component_expression_of (node (field n0 c0 (field n1 c1 no_fields))) = named (n0 ∷ n1 ∷ [])
      (codes "component" ∷ codes "base" ∷ [])
      (then_of (text_of c0) (λ x0. then_of (expression_node_of c1) (λ x1. Some (plain.named_component x1 x0))))
  named_component_expression_of c = None

  pub indexing_expression_of : Code → Option plain.Expression
  indexing_expression_of (node (field n0 c0 (field n1 c1 no_fields))) = named (n0 ∷ n1 ∷ [])
      (codes "index" ∷ codes "base" ∷ []) (then_of (expression_node_of c0)
      (λ x0. then_of (expression_node_of c1) (λ x1. Some (plain.indexing x1 x0))))
  indexing_expression_of c = None

  pub unary_expression_of : Code → Option plain.Expression
  unary_expression_of (node (field n0 c0 (field n1 c1 no_fields))) = named (n0 ∷ n1 ∷ [])
      (codes "operator" ∷ codes "operand" ∷ [])
      (then_of (unary_operator_of c0) (λ x0. then_of (expression_node_of c1) (λ x1. Some (plain.unary x0 x1))))
  unary_expression_of c = None

  pub binary_expression_of : Code → Option plain.Expression
  binary_expression_of (node (field n0 c0 (field n1 c1 (field n2 c2 no_fields)))) =
      named (n0 ∷ n1 ∷ n2 ∷ []) (codes "operator" ∷ codes "right" ∷ codes "left" ∷ [])
      (then_of (binary_operator_of c0) (λ x0. then_of (expression_node_of c1)
      (λ x1. then_of (expression_node_of c2) (λ x2. Some (plain.binary x0 x2 x1)))))
  binary_expression_of c = None

  pub expression_node_of : Code → Option plain.ExpressionNode
  expression_node_of (node (field n0 c0 (field n1 c1 no_fields))) = named (n0 ∷ n1 ∷ [])
      (codes "span" ∷ codes "node" ∷ [])
      (then_of (span_of c0) (λ x0. then_of (expression_of c1) (λ x1. Some (plain.expression_node x1 x0))))
  expression_node_of c = None

  pub function_call_of : Code → Option plain.FunctionCall
  function_call_of (node (field n0 c0 (field n1 (list c1) no_fields))) = named (n0 ∷ n1 ∷ [])
      (codes "ty" ∷ codes "arguments" ∷ []) (then_of (type_expression_of c0)
      (λ x0. then_of (expression_nodes_of c1) (λ x1. Some (plain.call x0 x1))))
  function_call_of c = None

  pub type_expression_of : Code → Option plain.TypeExpression
  type_expression_of (node (field n0 c0 (field n1 c1 no_fields))) = named (n0 ∷ n1 ∷ [])
      (codes "ident" ∷ codes "template_args" ∷ []) (then_of (text_of c0)
      (λ x0. then_of (template_arguments_of c1) (λ x1. Some (plain.type_expression x0 x1))))
  type_expression_of c = None

  pub template_arg_of : Code → Option plain.ExpressionNode
  template_arg_of (node (field n0 c0 no_fields)) = named (n0 ∷ []) (codes "expression" ∷ []) (expression_node_of c0)
  template_arg_of c = None

  pub expression_nodes_of : Codes → Option plain.ExpressionNodes
  expression_nodes_of no_codes = Some plain.no_expressions
  expression_nodes_of (code_before c cs) = then_of (expression_node_of c)
      (λ x0. then_of (expression_nodes_of cs) (λ x1. Some (plain.expression_before x0 x1)))

  pub template_expressions_of : Codes → Option plain.ExpressionNodes
  template_expressions_of no_codes = Some plain.no_expressions
  template_expressions_of (code_before c cs) = then_of (template_arg_of c)
      (λ x0. then_of (template_expressions_of cs) (λ x1. Some (plain.expression_before x0 x1)))

  pub template_arguments_of : Code → Option plain.TemplateArguments
  template_arguments_of absent = Some plain.no_template
  template_arguments_of (list cs) = then_of (template_expressions_of cs) (λ x0. Some (plain.template x0))
  template_arguments_of c = None

pub literal_expression_read : (x : plain.LiteralExpression) → literal_expression_of (literal_code x) ≡ Some x
literal_expression_read (plain.boolean x) = λ i. then_of (boolean_read x i) (λ x0. Some (plain.boolean x0))
literal_expression_read (plain.abstract_int x) = λ i. then_of (number_read x i) (λ x0. Some (plain.abstract_int x0))
literal_expression_read (plain.i32 x) = λ i. then_of (number_read x i) (λ x0. Some (plain.i32 x0))
literal_expression_read (plain.u32 x) = λ i. then_of (natural_read x i) (λ x0. Some (plain.u32 x0))
literal_expression_read (plain.abstract_float x) = λ i. then_of (text_read x i) (λ x0. Some (plain.abstract_float x0))
literal_expression_read (plain.f32 x) = λ i. then_of (text_read x i) (λ x0. Some (plain.f32 x0))
literal_expression_read (plain.f16 x) = λ i. then_of (text_read x i) (λ x0. Some (plain.f16 x0))

mutual
  pub expression_read : (x : plain.Expression) → expression_of (expression_code x) ≡ Some x
  expression_read (plain.literal x) = λ i. then_of (literal_expression_read x i) (λ x0. Some (plain.literal x0))
  expression_read (plain.parenthesized expression) =
      λ i. then_of (expression_node_read expression i) (λ x0. Some (plain.parenthesized x0))
  expression_read (plain.named_component base component) = λ i. then_of (text_read component i)
      (λ x0. then_of (expression_node_read base i) (λ x1. Some (plain.named_component x1 x0)))
  expression_read (plain.indexing base index) = λ i. then_of (expression_node_read index i)
      (λ x0. then_of (expression_node_read base i) (λ x1. Some (plain.indexing x1 x0)))
  expression_read (plain.unary operator operand) = λ i. then_of (unary_operator_read operator i)
      (λ x0. then_of (expression_node_read operand i) (λ x1. Some (plain.unary x0 x1)))
  expression_read (plain.binary operator left right) =
      λ i. then_of (binary_operator_read operator i) (λ x0. then_of (expression_node_read right i)
      (λ x1. then_of (expression_node_read left i) (λ x2. Some (plain.binary x0 x2 x1))))
  expression_read (plain.function_call x) = λ i. then_of (function_call_read x i) (λ x0. Some (plain.function_call x0))
  expression_read (plain.type_or_identifier x) =
      λ i. then_of (type_expression_read x i) (λ x0. Some (plain.type_or_identifier x0))

  pub expression_node_read : (x : plain.ExpressionNode) → expression_node_of (expression_node_code x) ≡ Some x
  expression_node_read (plain.expression_node n span) =
      λ i. then_of (expression_read n i) (λ x0. Some (plain.expression_node x0 span))

  pub function_call_read : (x : plain.FunctionCall) → function_call_of (call_code x) ≡ Some x
  function_call_read (plain.call ty arguments) = λ i. then_of (type_expression_read ty i)
      (λ x0. then_of (expression_nodes_read arguments i) (λ x1. Some (plain.call x0 x1)))

  pub type_expression_read : (x : plain.TypeExpression) → type_expression_of (type_code x) ≡ Some x
  type_expression_read (plain.type_expression ident template_args) = λ i. then_of (text_read ident i)
      (λ x0. then_of (template_arguments_read template_args i) (λ x1. Some (plain.type_expression x0 x1)))

  pub expression_nodes_read : (x : plain.ExpressionNodes) → expression_nodes_of (expression_nodes_code x) ≡ Some x
  expression_nodes_read plain.no_expressions = refl
  expression_nodes_read (plain.expression_before x xs) = λ i. then_of (expression_node_read x i)
      (λ x0. then_of (expression_nodes_read xs i) (λ x1. Some (plain.expression_before x0 x1)))

  pub template_expressions_read : (x : plain.ExpressionNodes)
      → template_expressions_of (template_expressions_code x) ≡ Some x
  template_expressions_read plain.no_expressions = refl
  template_expressions_read (plain.expression_before x xs) = λ i. then_of (expression_node_read x i)
      (λ x0. then_of (template_expressions_read xs i) (λ x1. Some (plain.expression_before x0 x1)))

  pub template_arguments_read : (x : plain.TemplateArguments) → template_arguments_of (template_code x) ≡ Some x
  template_arguments_read plain.no_template = refl
  template_arguments_read (plain.template x) =
      λ i. then_of (template_expressions_read x i) (λ x0. Some (plain.template x0))
