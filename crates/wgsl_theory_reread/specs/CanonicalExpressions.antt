-- The tokens that a printed expression has, written from its tree before the tokens that follow it:
-- no comma after the last item of a list, and `-` `-` for two minuses.
use Rattle.std.specs.Prelude.{ℕ, pos, List, [], ◌∷◌, Option, Some, None, if◌then◌else◌}
use Rattle.grammar.specs.Tokens.{Payload.number}
use Rattle.wgsl_model.specs.Tokens.ClassTable.{SymAnd, SymAndAnd, SymBang, SymBracketLeft, SymBracketRight, SymComma, SymEqualEqual, SymForwardSlash, SymGreaterThan, SymGreaterThanEqual, SymLessThan, SymLessThanEqual, SymMinus, SymModulo, SymNotEqual, SymOr, SymOrOr, SymParenLeft, SymParenRight, SymPeriod, SymPlus, SymShiftLeft, SymShiftRight, SymStar, SymTilde, SymXor, KwTrue, KwFalse, AbstractInt, I32, U32, AbstractFloat, F32, F16, TemplateArgsStart, TemplateArgsEnd}
use Rattle.wgsl_model.specs.Tokens.Kind.{Kind, plain, named}
use Rattle.wgsl_model.specs.Tokens.Raw.{kind_of_word}
use Rattle.wgsl_model.specs.Trees.Operators.{UnaryOperator, logical_negation, negation, bitwise_complement, address_of, indirection, BinaryOperator, short_circuit_or, short_circuit_and, addition, subtraction, multiplication, division, remainder, equality, inequality, less_than, less_than_equal, greater_than, greater_than_equal, bitwise_or, bitwise_and, bitwise_xor, shift_left, shift_right}
use Rattle.wgsl_model.specs.Trees.Expressions.{LiteralExpression, boolean, abstract_int, i32, u32, abstract_float, f32, f16, ExpressionNode, expression_node, Expression, literal, parenthesized, named_component, indexing, unary, binary, function_call, type_or_identifier, FunctionCall, call, TypeExpression, type_expression, TemplateArguments, no_template, template, ExpressionNodes, no_expressions, expression_before}

-- ---- parts that may be left out, and lists
-- what is written from a value, before the tokens that follow
abbrev pub Writer : Type 0 → Type 0
Writer A = A → List Kind → List Kind

-- a part, if there is one
abbrev pub optional_tokens : {A : Type 0} → Writer A → Writer (Option A)
optional_tokens write None rest = rest
optional_tokens write (Some a) rest = write a rest

-- parts one after another
abbrev pub all_tokens : {A : Type 0} → Writer A → Writer (List A)
all_tokens write [] rest = rest
all_tokens write (a ∷ more) rest = write a (all_tokens write more rest)

-- further items of a list, each after a comma
abbrev pub further_tokens : {A : Type 0} → Writer A → Writer (List A)
further_tokens write [] rest = rest
further_tokens write (a ∷ more) rest = plain SymComma ∷ write a (further_tokens write more rest)

-- items with a comma between each two
abbrev pub list_tokens : {A : Type 0} → Writer A → Writer (List A)
list_tokens write [] rest = rest
list_tokens write (a ∷ more) rest = write a (further_tokens write more rest)

-- a word, which may be a keyword or a reserved word
abbrev pub word_token : Writer (List ℕ)
word_token word rest = kind_of_word word ∷ rest

-- ---- operators and literals
-- an operator before an operand
abbrev pub unary_operator_class : UnaryOperator → ℕ
unary_operator_class logical_negation = SymBang
unary_operator_class negation = SymMinus
unary_operator_class bitwise_complement = SymTilde
unary_operator_class address_of = SymAnd
unary_operator_class indirection = SymStar

-- an operator between operands
abbrev pub binary_operator_class : BinaryOperator → ℕ
binary_operator_class short_circuit_or = SymOrOr
binary_operator_class short_circuit_and = SymAndAnd
binary_operator_class addition = SymPlus
binary_operator_class subtraction = SymMinus
binary_operator_class multiplication = SymStar
binary_operator_class division = SymForwardSlash
binary_operator_class remainder = SymModulo
binary_operator_class equality = SymEqualEqual
binary_operator_class inequality = SymNotEqual
binary_operator_class less_than = SymLessThan
binary_operator_class less_than_equal = SymLessThanEqual
binary_operator_class greater_than = SymGreaterThan
binary_operator_class greater_than_equal = SymGreaterThanEqual
binary_operator_class bitwise_or = SymOr
binary_operator_class bitwise_and = SymAnd
binary_operator_class bitwise_xor = SymXor
binary_operator_class shift_left = SymShiftLeft
binary_operator_class shift_right = SymShiftRight

-- a literal: `true`, `false` or a number
abbrev pub literal_token : LiteralExpression → Kind
literal_token (boolean b) = plain (if b then KwTrue else KwFalse)
literal_token (abstract_int n) = record { class = AbstractInt; payload = number n }
literal_token (i32 n) = record { class = I32; payload = number n }
literal_token (u32 n) = record { class = U32; payload = number (pos n) }
literal_token (abstract_float text) = named AbstractFloat text
literal_token (f32 text) = named F32 text
literal_token (f16 text) = named F16 text

-- ---- expressions
abbrev mutual
  pub expression_tokens : Expression → List Kind → List Kind
  expression_tokens (literal l) rest = literal_token l ∷ rest
  expression_tokens (parenthesized e) rest = plain SymParenLeft ∷ expression_node_tokens e (plain SymParenRight ∷ rest)
  expression_tokens (named_component base component) rest = expression_node_tokens base
      (plain SymPeriod ∷ (kind_of_word component ∷ rest))
  expression_tokens (indexing base index) rest = expression_node_tokens base
      (plain SymBracketLeft ∷ expression_node_tokens index (plain SymBracketRight ∷ rest))
  expression_tokens (unary operator operand) rest = plain (unary_operator_class operator)
      ∷ expression_node_tokens operand rest
  expression_tokens (binary operator left right) rest = expression_node_tokens left
      (plain (binary_operator_class operator) ∷ expression_node_tokens right rest)
  expression_tokens (function_call c) rest = call_tokens c rest
  expression_tokens (type_or_identifier t) rest = type_tokens t rest

  pub expression_node_tokens : ExpressionNode → List Kind → List Kind
  expression_node_tokens (expression_node e span) rest = expression_tokens e rest

  pub call_tokens : FunctionCall → List Kind → List Kind
  call_tokens (call ty arguments) rest = type_tokens ty
      (plain SymParenLeft ∷ expressions_tokens arguments (plain SymParenRight ∷ rest))

  pub type_tokens : TypeExpression → List Kind → List Kind
  type_tokens (type_expression name arguments) rest = kind_of_word name ∷ template_tokens arguments rest

  pub template_tokens : TemplateArguments → List Kind → List Kind
  template_tokens no_template rest = rest
  template_tokens (template arguments) rest = plain TemplateArgsStart
      ∷ expressions_tokens arguments (plain TemplateArgsEnd ∷ rest)

  -- expressions with a comma between each two
  pub expressions_tokens : ExpressionNodes → List Kind → List Kind
  expressions_tokens no_expressions rest = rest
  expressions_tokens (expression_before e es) rest = expression_node_tokens e (further_expressions_tokens es rest)

  -- further expressions, each after a comma
  pub further_expressions_tokens : ExpressionNodes → List Kind → List Kind
  further_expressions_tokens no_expressions rest = rest
  further_expressions_tokens (expression_before e es) rest = plain SymComma
      ∷ expression_node_tokens e (further_expressions_tokens es rest)
