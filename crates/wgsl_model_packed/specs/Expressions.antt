-- The packed forms of expressions and types. Where components, elements and operations follow one
-- another, what is leftmost comes first, and then each in turn after the span of what is before it.
use Rattle.std.specs.Prelude.{ℕ, true, false, List, [], ◌∷◌, ◌++◌, Option, Some, None, if◌then◌else◌}
use Rattle.std.specs.Fmt.{decimal, signed_decimal}
use Rattle.wgsl_model.specs.Printed.Expressions.{is_abstract_int, expression_in, fuses}
use Rattle.wgsl_model.specs.Trees.Operators.{UnaryOperator}
use Rattle.wgsl_model.specs.Printed.Operators.{unary_operator_text, binary_operator_text}
use Rattle.wgsl_model.specs.Trees.Expressions.{LiteralExpression, boolean, abstract_int, i32, u32, abstract_float, f32, f16, ExpressionNode, expression_node, Expression, literal, parenthesized, named_component, indexing, unary, binary, function_call, type_or_identifier, FunctionCall, call, TypeExpression, type_expression, no_template, template, ExpressionNodes, no_expressions, expression_before}
use Rattle.wgsl_model_packed.specs.Printing.{packed_text, packed_span}
use Rattle.wgsl_model_packed.specs.Rules.{false_rule, true_rule, int_rule, i32_rule, u32_rule, float_rule, f32_rule, f16_rule, parenthesized_rule, unary_rule, unary_apart_rule, call_rule, name_rule, template_rule, chain_rule, component_rule, component_of_int_rule, index_rule, binary_rule, nothing_rule, nodes_rule, node_rule}

abbrev pub packed_literal : LiteralExpression → List ℕ
packed_literal (boolean true) = true_rule ∷ []
packed_literal (boolean false) = false_rule ∷ []
packed_literal (abstract_int n) = int_rule ∷ packed_text (signed_decimal n)
packed_literal (i32 n) = i32_rule ∷ packed_text (signed_decimal n)
packed_literal (u32 n) = u32_rule ∷ packed_text (decimal n)
packed_literal (abstract_float spelling) = float_rule ∷ packed_text spelling
packed_literal (f32 spelling) = f32_rule ∷ packed_text spelling
packed_literal (f16 spelling) = f16_rule ∷ packed_text spelling

-- the rule of a component, by what it is taken of
abbrev pub component_rule_of : Expression → ℕ
component_rule_of base = if is_abstract_int base then component_of_int_rule else component_rule

-- the rule of an expression in a list, by those that follow
abbrev pub node_rule_before : ExpressionNodes → ℕ
node_rule_before no_expressions = node_rule
node_rule_before (expression_before e es) = nodes_rule

-- the rule of an operator before an operand
abbrev pub unary_rule_of : UnaryOperator → Expression → ℕ
unary_rule_of operator operand = if fuses operator operand then unary_apart_rule else unary_rule

abbrev mutual
  pub packed_expression : Expression → List ℕ
  packed_expression (literal l) = packed_literal l
  packed_expression (parenthesized e) = parenthesized_rule ∷ packed_expression_node e
  packed_expression (named_component base component) = chain_rule ∷ (link component_rule_of base
      ++ (packed_text component ++ (nothing_rule ∷ [])))
  packed_expression (indexing base index) = chain_rule ∷ (link (λ e. index_rule) base
      ++ (packed_expression_node index ++ (nothing_rule ∷ [])))
  packed_expression (unary operator operand) = unary_rule_of operator (expression_in operand)
      ∷ (packed_text (unary_operator_text operator) ++ packed_expression_node operand)
  packed_expression (binary operator left right) = chain_rule ∷ (link (λ e. binary_rule) left
      ++ (packed_text (binary_operator_text operator)
      ++ (packed_expression_node right ++ (nothing_rule ∷ []))))
  packed_expression (function_call c) = packed_call c
  packed_expression (type_or_identifier t) = packed_type t

  -- what is before a component, an index or an operator, the number of the rule of what follows,
  -- and the span of what is before it
  pub link : (Expression → ℕ) → ExpressionNode → List ℕ
  link rule (expression_node e span) = leftmost e ++ (rule e ∷ packed_span span)

  -- what is leftmost in an expression, and what follows it
  pub leftmost : Expression → List ℕ
  leftmost (literal l) = packed_literal l
  leftmost (parenthesized e) = parenthesized_rule ∷ packed_expression_node e
  leftmost (named_component base component) =
      link component_rule_of base ++ packed_text component
  leftmost (indexing base index) = link (λ e. index_rule) base ++ packed_expression_node index
  leftmost (unary operator operand) = unary_rule_of operator (expression_in operand)
      ∷ (packed_text (unary_operator_text operator) ++ packed_expression_node operand)
  leftmost (binary operator left right) = link (λ e. binary_rule) left
      ++ (packed_text (binary_operator_text operator) ++ packed_expression_node right)
  leftmost (function_call c) = packed_call c
  leftmost (type_or_identifier t) = packed_type t

  pub packed_expression_node : ExpressionNode → List ℕ
  packed_expression_node (expression_node e span) = packed_span span ++ packed_expression e

  -- expressions one after another
  pub packed_expressions : ExpressionNodes → List ℕ
  packed_expressions no_expressions = nothing_rule ∷ []
  packed_expressions (expression_before e es) =
      node_rule_before es ∷ (packed_expression_node e ++ packed_further es)

  pub packed_further : ExpressionNodes → List ℕ
  packed_further no_expressions = []
  packed_further (expression_before e es) =
      node_rule_before es ∷ (packed_expression_node e ++ packed_further es)

  pub packed_call : FunctionCall → List ℕ
  packed_call (call ty arguments) = call_rule ∷ (packed_type ty ++ packed_expressions arguments)

  pub packed_type : TypeExpression → List ℕ
  packed_type (type_expression name no_template) = name_rule ∷ packed_text name
  packed_type (type_expression name (template arguments)) =
      template_rule ∷ (packed_text name ++ packed_expressions arguments)

-- what may be left out, after the number of a rule
abbrev pub packed_optional : {X : Type 0} → ℕ → (X → List ℕ) → Option X → List ℕ
packed_optional rule packed None = nothing_rule ∷ []
packed_optional rule packed (Some x) = rule ∷ packed x

-- the rule of an item of a list, by those that follow
abbrev pub rule_before : {X : Type 0} → ℕ → ℕ → List X → ℕ
rule_before before last [] = last
rule_before before last (x ∷ xs) = before

-- items one after another, each after the number of a rule: one for the last, one for the others
abbrev pub packed_items : {X : Type 0} → ℕ → ℕ → (X → List ℕ) → List X → List ℕ
packed_items before last packed [] = []
packed_items before last packed (x ∷ xs) =
    rule_before before last xs ∷ (packed x ++ packed_items before last packed xs)

-- the same, and what is there if there are none
abbrev pub packed_list : {X : Type 0} → ℕ → ℕ → ℕ → (X → List ℕ) → List X → List ℕ
packed_list none before last packed [] = none ∷ []
packed_list none before last packed (x ∷ xs) = packed_items before last packed (x ∷ xs)
