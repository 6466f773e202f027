-- The pieces of a printed expression, written from its tree before the pieces that follow: they
-- print it and have its tokens.
use Rattle.std.proofs.Common.{ℕ, Bool, true, false, cond, List, [], ◌∷◌, ◌++◌}
use Rattle.std.specs.Prelude.{codes}
use Rattle.std.specs.List.{flat_map}
use Rattle.wgsl_model.specs.Tokens.ClassTable.{SymBracketLeft, SymBracketRight, SymComma, SymParenLeft, SymParenRight, SymPeriod}
use Rattle.wgsl_model.specs.Tokens.Kind.{plain}
use Rattle.wgsl_model.specs.Tokens.Raw.{kind_of_word}
use Rattle.wgsl_model.specs.Printed.Operators.{unary_operator_text, binary_operator_text}
use Rattle.wgsl_model.specs.Trees.Expressions.{ExpressionNode, expression_node, Expression, literal, parenthesized, named_component, indexing, unary, binary, function_call, type_or_identifier, FunctionCall, call, TypeExpression, type_expression, TemplateArguments, no_template, template, ExpressionNodes, no_expressions, expression_before}
use Rattle.wgsl_model.specs.Printed.Joining.{joined}
use Rattle.wgsl_model.specs.Printed.Expressions.{print_literal, is_abstract_int, fuses, expression_in, print_expression, print_expression_node, expression_texts, print_call, print_type}
use Rattle.wgsl_theory_reread.specs.CanonicalExpressions.{unary_operator_class, binary_operator_class, literal_token, expression_tokens, expression_node_tokens, call_tokens, type_tokens, expressions_tokens, further_expressions_tokens}
use Rattle.wgsl_theory_printed.proofs.Spelling.Pieces.{Piece, space, opens, closes, word}
use Rattle.wgsl_theory_printed.proofs.TreePieces.Printing.{Puts, Prints, none_prints, ◌before◌, word_prints, space_prints, opens_prints, closes_prints}

-- ---- the pieces

-- a symbol or a keyword
abbrev pub sign : List ℕ → ℕ → Puts
sign text class rest = word text (plain class) ∷ rest

-- a name, which may be a keyword or a reserved word
abbrev pub name : List ℕ → Puts
name text rest = word text (kind_of_word text) ∷ rest

-- a space, or none
abbrev pub gap : Bool → Puts
gap true rest = space ∷ rest
gap false rest = rest

-- a comma and a space
abbrev pub comma : Puts
comma rest = word (codes ",") (plain SymComma) ∷ (space ∷ rest)

abbrev mutual
  pub expression_pieces : Expression → List Piece → List Piece
  expression_pieces (literal l) rest = word (print_literal l) (literal_token l) ∷ rest
  expression_pieces (parenthesized e) rest = sign (codes "(") SymParenLeft
      (expression_node_pieces e (sign (codes ")") SymParenRight rest))
  expression_pieces (named_component base component) rest = expression_node_pieces base
      (gap (is_abstract_int (expression_in base)) (sign (codes ".") SymPeriod (name component rest)))
  expression_pieces (indexing base index) rest = expression_node_pieces base
      (sign (codes "[") SymBracketLeft (expression_node_pieces index (sign (codes "]") SymBracketRight rest)))
  expression_pieces (unary operator operand) rest = sign (unary_operator_text operator)
      (unary_operator_class operator)
      (gap (fuses operator (expression_in operand)) (expression_node_pieces operand rest))
  expression_pieces (binary operator left right) rest = expression_node_pieces left
      (space ∷ sign (binary_operator_text operator) (binary_operator_class operator)
      (space ∷ expression_node_pieces right rest))
  expression_pieces (function_call c) rest = call_pieces c rest
  expression_pieces (type_or_identifier t) rest = type_pieces t rest

  pub expression_node_pieces : ExpressionNode → List Piece → List Piece
  expression_node_pieces (expression_node e span) rest = expression_pieces e rest

  pub call_pieces : FunctionCall → List Piece → List Piece
  call_pieces (call ty arguments) rest = type_pieces ty
      (sign (codes "(") SymParenLeft (expressions_pieces arguments (sign (codes ")") SymParenRight rest)))

  pub type_pieces : TypeExpression → List Piece → List Piece
  type_pieces (type_expression text arguments) rest = name text (template_pieces arguments rest)

  pub template_pieces : TemplateArguments → List Piece → List Piece
  template_pieces no_template rest = rest
  template_pieces (template arguments) rest = opens ∷ expressions_pieces arguments (closes ∷ rest)

  -- expressions with a comma between each two
  pub expressions_pieces : ExpressionNodes → List Piece → List Piece
  expressions_pieces no_expressions rest = rest
  expressions_pieces (expression_before e es) rest = expression_node_pieces e (further_expressions_pieces es rest)

  -- further expressions, each after a comma
  pub further_expressions_pieces : ExpressionNodes → List Piece → List Piece
  further_expressions_pieces no_expressions rest = rest
  further_expressions_pieces (expression_before e es) rest =
      comma (expression_node_pieces e (further_expressions_pieces es rest))

-- ---- they print the tree

pub name_prints : {n : ℕ} (text : List ℕ) → Prints n text (name text) (λ rest. kind_of_word text ∷ rest)
name_prints text = word_prints

pub comma_prints : {n : ℕ} → Prints n (codes ", ") comma (λ rest. plain SymComma ∷ rest)
comma_prints = word_prints before space_prints

point_prints : {n : ℕ} (b : Bool) → Prints n (cond b (codes " .") (codes "."))
    (λ rest. gap b (sign (codes ".") SymPeriod rest)) (λ rest. plain SymPeriod ∷ rest)
point_prints true = space_prints before word_prints
point_prints false = word_prints

gap_prints : {n : ℕ} (b : Bool) → Prints n (cond b (codes " ") []) (gap b) (λ rest. rest)
gap_prints true = space_prints
gap_prints false = none_prints

mutual
  pub expression_prints : {n : ℕ} (e : Expression)
      → Prints n (print_expression e) (expression_pieces e) (expression_tokens e)
  expression_prints (literal l) = word_prints
  expression_prints (parenthesized e) = word_prints before expression_node_prints e before word_prints
  expression_prints (named_component base component) = expression_node_prints base before point_prints
      (is_abstract_int (expression_in base)) before name_prints component
  expression_prints (indexing base index) = expression_node_prints base before word_prints before
      expression_node_prints index before word_prints
  expression_prints (unary operator operand) = word_prints before gap_prints
      (fuses operator (expression_in operand)) before expression_node_prints operand
  expression_prints (binary operator left right) = expression_node_prints left before space_prints
      before word_prints before space_prints before expression_node_prints right
  expression_prints (function_call c) = call_prints c
  expression_prints (type_or_identifier t) = type_prints t

  pub expression_node_prints : {n : ℕ} (e : ExpressionNode)
      → Prints n (print_expression_node e) (expression_node_pieces e) (expression_node_tokens e)
  expression_node_prints (expression_node e span) = expression_prints e

  pub call_prints : {n : ℕ} (c : FunctionCall) → Prints n (print_call c) (call_pieces c) (call_tokens c)
  call_prints (call ty arguments) =
      type_prints ty before word_prints before expressions_prints arguments before word_prints

  pub type_prints : {n : ℕ} (t : TypeExpression) → Prints n (print_type t) (type_pieces t) (type_tokens t)
  type_prints (type_expression text no_template) = name_prints text
  type_prints (type_expression text (template arguments)) =
      name_prints text before opens_prints before expressions_prints arguments before closes_prints

  expressions_prints : {n : ℕ} (es : ExpressionNodes)
      → Prints n (joined (codes ", ") (expression_texts es)) (expressions_pieces es) (expressions_tokens es)
  expressions_prints no_expressions = none_prints
  expressions_prints (expression_before e es) = expression_node_prints e before further_expressions_prints es

  further_expressions_prints : {n : ℕ} (es : ExpressionNodes)
      → Prints n (flat_map (λ text. codes ", " ++ text) (expression_texts es))
      (further_expressions_pieces es) (further_expressions_tokens es)
  further_expressions_prints no_expressions = none_prints
  further_expressions_prints (expression_before e es) =
      (comma_prints before expression_node_prints e) before further_expressions_prints es
