-- The printed texts of expressions and types.
use Rattle.std.specs.Prelude.{Bool, true, false, ℕ, List, [], ◌∷◌, ◌++◌, codes, if◌then◌else◌}
use Rattle.std.specs.Fmt.{decimal, signed_decimal}
use Rattle.wgsl_model.specs.Trees.Operators.{UnaryOperator, UnaryOperator.negation, UnaryOperator.address_of}
use Rattle.wgsl_model.specs.Printed.Operators.{unary_operator_text, binary_operator_text}
use Rattle.wgsl_model.specs.Trees.Expressions.{LiteralExpression, boolean, abstract_int, i32, u32, abstract_float, f32, f16, ExpressionNode, expression_node, Expression, literal, parenthesized, named_component, indexing, unary, binary, function_call, type_or_identifier, FunctionCall, call, TypeExpression, type_expression, no_template, template, ExpressionNodes, no_expressions, expression_before}
use Rattle.wgsl_model.specs.Printed.Joining.{joined}

-- a number in decimal, or its spelling, with its suffix
abbrev pub print_literal : LiteralExpression → List ℕ
print_literal (boolean b) = if b then codes "true" else codes "false"
print_literal (abstract_int n) = signed_decimal n
print_literal (i32 n) = signed_decimal n ++ codes "i"
print_literal (u32 n) = decimal n ++ codes "u"
print_literal (abstract_float text) = text
print_literal (f32 text) = text ++ codes "f"
print_literal (f16 text) = text ++ codes "h"

-- an integer literal without a suffix; with a `.` after it a float would be read
abbrev pub is_abstract_int : Expression → Bool
is_abstract_int (literal (abstract_int n)) = true
is_abstract_int e = false

-- two operators that would be read as one token, `--` or `&&`
abbrev pub fuse : UnaryOperator → UnaryOperator → Bool
fuse negation negation = true
fuse address_of address_of = true
fuse outer inner = false

-- an operator would fuse with the one that its operand begins with
abbrev pub fuses : UnaryOperator → Expression → Bool
fuses operator (unary inner operand) = fuse operator inner
fuses operator e = false

-- the expression of a node
abbrev pub expression_in : ExpressionNode → Expression
expression_in (expression_node e span) = e

abbrev mutual
  pub print_expression : Expression → List ℕ
  print_expression (literal l) = print_literal l
  print_expression (parenthesized e) = codes "(" ++ print_expression_node e ++ codes ")"
  print_expression (named_component base component) = print_expression_node base
      ++ (if is_abstract_int (expression_in base) then codes " ." else codes ".") ++ component
  print_expression (indexing base index) = print_expression_node base ++ codes "["
      ++ print_expression_node index ++ codes "]"
  print_expression (unary operator operand) = unary_operator_text operator
      ++ (if fuses operator (expression_in operand) then codes " " else []) ++ print_expression_node operand
  print_expression (binary operator left right) = print_expression_node left ++ codes " "
      ++ binary_operator_text operator ++ codes " " ++ print_expression_node right
  print_expression (function_call c) = print_call c
  print_expression (type_or_identifier t) = print_type t

  pub print_expression_node : ExpressionNode → List ℕ
  print_expression_node (expression_node e span) = print_expression e

  -- the texts of expressions
  pub expression_texts : ExpressionNodes → List (List ℕ)
  expression_texts no_expressions = []
  expression_texts (expression_before e es) = print_expression_node e ∷ expression_texts es

  pub print_call : FunctionCall → List ℕ
  print_call (call ty arguments) = print_type ty ++ codes "("
      ++ joined (codes ", ") (expression_texts arguments) ++ codes ")"

  pub print_type : TypeExpression → List ℕ
  print_type (type_expression name no_template) = name
  print_type (type_expression name (template arguments)) = name ++ codes "<"
      ++ joined (codes ", ") (expression_texts arguments) ++ codes ">"
