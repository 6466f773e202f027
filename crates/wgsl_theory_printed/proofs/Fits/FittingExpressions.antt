-- The pieces of sound expressions fit.
use Rattle.std.proofs.Common.{ℕ, Bool, true, false, refl, sym, subst, List, [], ◌∷◌, ◌++◌, inr}
use Rattle.std.specs.Prelude.{codes}
use Rattle.std.specs.Str.{chars}
use Rattle.wgsl_model.specs.Tokens.ClassTable.{SymLessThan, SymPeriod, SymParenLeft, SymParenRight, SymBracketLeft, SymBracketRight}
use Rattle.wgsl_model.specs.Tokens.Kind.{plain}
use Rattle.wgsl_model.specs.Trees.Operators.{UnaryOperator, logical_negation, negation, bitwise_complement, address_of, indirection}
use Rattle.wgsl_model.specs.Printed.Operators.{unary_operator_text}
use Rattle.wgsl_model.specs.Trees.Expressions.{LiteralExpression, boolean, abstract_int, i32, u32, abstract_float, f32, f16, ExpressionNode, expression_node, Expression, literal, parenthesized, named_component, indexing, unary, binary, function_call, type_or_identifier, FunctionCall, call, TypeExpression, type_expression, TemplateArguments, no_template, template, ExpressionNodes, no_expressions, expression_before}
use Rattle.wgsl_model.specs.Printed.Expressions.{print_literal, is_abstract_int, fuses, expression_in}
use Rattle.wgsl_theory_reread.specs.CanonicalExpressions.{literal_token, unary_operator_class}
use Rattle.wgsl_theory_printed.proofs.Spelling.Pieces.{Piece, closes, render, Stands, FitsBefore, Fits}
use Rattle.wgsl_theory_printed.proofs.Spelling.Signs.{NotOn, sign_stands, number_no_operator, name_no_operator}
use Rattle.wgsl_theory_printed.proofs.Spelling.Ends.{EndsName, IsNameText}
use Rattle.wgsl_theory_printed.proofs.Fits.FittingWords.{name_fits, point_fits}
use Rattle.wgsl_theory_printed.proofs.Fits.SoundExpressions.{IsNumberText, IsSoundLiteral, EndsAtPoint, literal_fits, IsPrimary, IsPrimaryNode, IsOperand, IsOperandNode, IsSoundExpression, IsSoundNode, IsSoundCall, IsSoundType, IsSoundTemplate, AreSoundNodes, EndsType, EndsExpression, EndsNode, Closed, closed_node}
use Rattle.wgsl_theory_printed.proofs.Fits.FittingSigns.{as_text, before_name, left_paren_fits, right_paren_fits, left_bracket_fits, right_bracket_fits, comma_fits, binary_operator_fits, unary_operator_fits, BeginsFree, free_not_on, operand_not_on, operator_not_on}
use Rattle.wgsl_theory_printed.proofs.TreePieces.PiecesOfExpressions.{sign, name, gap, comma, expression_pieces, expression_node_pieces, call_pieces, type_pieces, template_pieces, expressions_pieces, further_expressions_pieces}

-- ---- what follows

pub closed_by_paren : (rest : List Piece) → Closed (render (sign (codes ")") SymParenRight rest))
closed_by_paren rest = as_text Closed (codes ")") (render rest) refl refl

closed_by_bracket : (rest : List Piece) → Closed (render (sign (codes "]") SymBracketRight rest))
closed_by_bracket rest = as_text Closed (codes "]") (render rest) refl refl

opened_by_bracket : (rest : List Piece) → Closed (render (sign (codes "[") SymBracketLeft rest))
opened_by_bracket rest = as_text Closed (codes "[") (render rest) refl refl

pub closed_by_comma : (rest : List Piece) → Closed (render (comma rest))
closed_by_comma rest = as_text Closed (codes ",") (32 ∷ render rest) refl refl

pub ends_at_paren : (rest : List Piece) → EndsName (render (sign (codes "(") SymParenLeft rest))
ends_at_paren rest = as_text EndsName (codes "(") (render rest) refl refl

pub ends_at_point : (rest : List Piece) → EndsName (render (sign (codes ".") SymPeriod rest))
ends_at_point rest = as_text EndsName (codes ".") (render rest) refl refl

-- what may follow a base, a component does
component_follows : (e : Expression) (rest : List Piece) → IsPrimary e
    → EndsExpression e (render (gap (is_abstract_int e) (sign (codes ".") SymPeriod rest)))
component_follows (literal (boolean b)) rest p = ends_at_point rest
component_follows (literal (abstract_int n)) rest p = refl
component_follows (literal (i32 n)) rest p = as_text EndsAtPoint (codes ".") (render rest) refl (inr refl)
component_follows (literal (u32 n)) rest p = as_text EndsAtPoint (codes ".") (render rest) refl (inr refl)
component_follows (literal (abstract_float t)) rest p = as_text EndsAtPoint (codes ".") (render rest) refl (inr refl)
component_follows (literal (f32 t)) rest p = as_text EndsAtPoint (codes ".") (render rest) refl (inr refl)
component_follows (literal (f16 t)) rest p = as_text EndsAtPoint (codes ".") (render rest) refl (inr refl)
component_follows (parenthesized e) rest p = tt
component_follows (named_component base component) rest p = ends_at_point rest
component_follows (indexing base index) rest p = tt
component_follows (unary operator operand) rest p = absurd p
component_follows (binary operator a b) rest p = absurd p
component_follows (function_call c) rest p = tt
component_follows (type_or_identifier (type_expression text no_template)) rest p = ends_at_point rest
component_follows (type_or_identifier (type_expression text (template arguments))) rest p = tt

component_follows_node : (e : ExpressionNode) (rest : List Piece) → IsPrimaryNode e
    → EndsNode e (render (gap (is_abstract_int (expression_in e)) (sign (codes ".") SymPeriod rest)))
component_follows_node (expression_node e span) rest p = component_follows e rest p

-- ---- what expressions begin with

name_free : (bytes rest : List ℕ) → IsNameText bytes → BeginsFree (chars bytes ++ rest)
name_free bytes rest n = before_name BeginsFree bytes rest n (λ c cs b. name_no_operator c b)

number_free : (l : LiteralExpression) (rest : List ℕ)
    → IsNumberText (literal_token l) (print_literal l) → BeginsFree (chars (print_literal l) ++ rest)
number_free l rest n = subst (λ x. BeginsFree (x ++ rest)) (sym n.characters) (number_no_operator n.first n.begins)

literal_free : (l : LiteralExpression) (rest : List ℕ) → IsSoundLiteral l → BeginsFree (chars (print_literal l) ++ rest)
literal_free (boolean true) rest s = as_text BeginsFree (codes "true") rest refl refl
literal_free (boolean false) rest s = as_text BeginsFree (codes "false") rest refl refl
literal_free (abstract_int n) rest s = number_free (abstract_int n) rest s
literal_free (i32 n) rest s = number_free (i32 n) rest s
literal_free (u32 n) rest s = number_free (u32 n) rest s
literal_free (abstract_float t) rest s = number_free (abstract_float t) rest s
literal_free (f32 t) rest s = number_free (f32 t) rest s
literal_free (f16 t) rest s = number_free (f16 t) rest s

type_free : (t : TypeExpression) (rest : List Piece) → IsSoundType t → BeginsFree (render (type_pieces t rest))
type_free (type_expression text arguments) rest s = name_free text (render (template_pieces arguments rest)) s.0

call_free : (c : FunctionCall) (rest : List Piece) → IsSoundCall c → BeginsFree (render (call_pieces c rest))
call_free (call ty arguments) rest s = type_free ty
    (sign (codes "(") SymParenLeft (expressions_pieces arguments (sign (codes ")") SymParenRight rest))) s.0

mutual
  primary_free : (e : Expression) (rest : List Piece) → IsSoundExpression e → IsPrimary e
      → BeginsFree (render (expression_pieces e rest))
  primary_free (literal l) rest s p = literal_free l (render rest) s
  primary_free (parenthesized e) rest s p = as_text BeginsFree (codes "(")
      (render (expression_node_pieces e (sign (codes ")") SymParenRight rest))) refl refl
  primary_free (named_component base component) rest s p = primary_node_free base
      (gap (is_abstract_int (expression_in base)) (sign (codes ".") SymPeriod (name component rest))) s.1 s.0
  primary_free (indexing base index) rest s p = primary_node_free base (sign (codes "[")
      SymBracketLeft (expression_node_pieces index (sign (codes "]") SymBracketRight rest))) s.0 p
  primary_free (unary operator operand) rest s p = absurd p
  primary_free (binary operator a b) rest s p = absurd p
  primary_free (function_call c) rest s p = call_free c rest s
  primary_free (type_or_identifier t) rest s p = type_free t rest s

  primary_node_free : (e : ExpressionNode) (rest : List Piece) → IsSoundNode e → IsPrimaryNode e
      → BeginsFree (render (expression_node_pieces e rest))
  primary_node_free (expression_node e span) rest s p = primary_free e rest s p

-- an operator before its operand
operator_before : (o : UnaryOperator) (e : Expression) (rest : List Piece) → IsOperand e
    → IsSoundExpression e
    → NotOn (unary_operator_text o) (render (gap (fuses o e) (expression_pieces e rest)))
operator_before o (unary i (expression_node e span)) rest p s = operator_not_on o i
    (gap (fuses i e) (expression_pieces e rest))
operator_before o (literal l) rest p s = operand_not_on o
    (render (expression_pieces (literal l) rest)) (primary_free (literal l) rest s p)
operator_before o (parenthesized e) rest p s = operand_not_on o
    (render (expression_pieces (parenthesized e) rest)) (primary_free (parenthesized e) rest s p)
operator_before o (named_component base component) rest p s = operand_not_on o
    (render (expression_pieces (named_component base component) rest))
    (primary_free (named_component base component) rest s p)
operator_before o (indexing base index) rest p s = operand_not_on o
    (render (expression_pieces (indexing base index) rest)) (primary_free (indexing base index) rest s p)
operator_before o (binary operator a b) rest p s = absurd p
operator_before o (function_call c) rest p s = operand_not_on o
    (render (expression_pieces (function_call c) rest)) (primary_free (function_call c) rest s p)
operator_before o (type_or_identifier t) rest p s = operand_not_on o
    (render (expression_pieces (type_or_identifier t) rest)) (primary_free (type_or_identifier t) rest s p)

operator_before_node : (o : UnaryOperator) (e : ExpressionNode) (rest : List Piece)
    → IsOperandNode e → IsSoundNode e
    → NotOn (unary_operator_text o) (render (gap (fuses o (expression_in e)) (expression_node_pieces e rest)))
operator_before_node o (expression_node e span) rest p s = operator_before o e rest p s

-- the `<` of a template list before an expression
less_before_operator : (o : UnaryOperator) (rest : List Piece)
    → NotOn (codes "<") (render (sign (unary_operator_text o) (unary_operator_class o) rest))
less_before_operator logical_negation rest = as_text (NotOn (codes "<")) (codes "!") (render rest) refl refl
less_before_operator negation rest = as_text (NotOn (codes "<")) (codes "-") (render rest) refl refl
less_before_operator bitwise_complement rest = as_text (NotOn (codes "<")) (codes "~") (render rest) refl refl
less_before_operator address_of rest = as_text (NotOn (codes "<")) (codes "&") (render rest) refl refl
less_before_operator indirection rest = as_text (NotOn (codes "<")) (codes "*") (render rest) refl refl

mutual
  less_before : (e : Expression) (rest : List Piece) → IsSoundExpression e
      → NotOn (codes "<") (render (expression_pieces e rest))
  less_before (literal l) rest s = free_not_on 60 [] (render (expression_pieces (literal l) rest))
      (literal_free l (render rest) s)
  less_before (parenthesized e) rest s = as_text (NotOn (codes "<")) (codes "(")
      (render (expression_node_pieces e (sign (codes ")") SymParenRight rest))) refl refl
  less_before (named_component base component) rest s = less_before_node base
      (gap (is_abstract_int (expression_in base)) (sign (codes ".") SymPeriod (name component rest))) s.1
  less_before (indexing base index) rest s = less_before_node base (sign (codes "[") SymBracketLeft
      (expression_node_pieces index (sign (codes "]") SymBracketRight rest))) s.0
  less_before (unary operator operand) rest s = less_before_operator operator
      (gap (fuses operator (expression_in operand)) (expression_node_pieces operand rest))
  less_before (binary operator a b) rest s = less_before_node a _ s.0
  less_before (function_call c) rest s = free_not_on 60 [] (render (call_pieces c rest)) (call_free c rest s)
  less_before (type_or_identifier t) rest s = free_not_on 60 [] (render (type_pieces t rest)) (type_free t rest s)

  less_before_node : (e : ExpressionNode) (rest : List Piece) → IsSoundNode e
      → NotOn (codes "<") (render (expression_node_pieces e rest))
  less_before_node (expression_node e span) rest s = less_before e rest s

pub opens_stands : (text : List ℕ) → NotOn (codes "<") text → Stands (codes "<") (plain SymLessThan) text
opens_stands text n = sign_stands 60 [] SymLessThan text refl refl n

less_before_nodes : (es : ExpressionNodes) (rest : List Piece) → AreSoundNodes es
    → NotOn (codes "<") (render (expressions_pieces es (closes ∷ rest)))
less_before_nodes no_expressions rest s = refl
less_before_nodes (expression_before e es) rest s = less_before_node e
    (further_expressions_pieces es (closes ∷ rest)) s.0

-- ---- expressions fit

ends_at_template : (a : TemplateArguments) (rest : List Piece) (text : List ℕ)
    → EndsType (type_expression text a) (render rest) → EndsName (render (template_pieces a rest))
ends_at_template no_template rest text e = e
ends_at_template (template arguments) rest text e = refl

closed_further : (es : ExpressionNodes) (rest : List Piece) → Closed (render rest)
    → Closed (render (further_expressions_pieces es rest))
closed_further no_expressions rest c = c
closed_further (expression_before e es) rest c =
    closed_by_comma (expression_node_pieces e (further_expressions_pieces es rest))

gap_fits : (b : Bool) (rest : List Piece) → Fits rest → Fits (gap b rest)
gap_fits true rest f = f
gap_fits false rest f = f

-- `.` and a name
component_fits : (component : List ℕ) (rest : List Piece) → IsNameText component
    → EndsName (render rest) → Fits rest → Fits (sign (codes ".") SymPeriod (name component rest))
component_fits component rest n e f = (
  before_name (FitsBefore (codes ".") (plain SymPeriod)) component (render rest) n point_fits,
  (name_fits component (render rest) n e, f),
)

call_ends : (t : TypeExpression) (rest : List Piece) → EndsType t (render (sign (codes "(") SymParenLeft rest))
call_ends (type_expression text no_template) rest = ends_at_paren rest
call_ends (type_expression text (template arguments)) rest = tt

mutual
  pub expression_fits : (e : Expression) (rest : List Piece) → IsSoundExpression e
      → EndsExpression e (render rest) → Fits rest → Fits (expression_pieces e rest)
  expression_fits (literal l) rest s e f = (literal_fits l (render rest) s e, f)
  expression_fits (parenthesized x) rest s e f = (
    left_paren_fits _,
    expression_node_fits x (sign (codes ")") SymParenRight rest) s
        (closed_node x (render (sign (codes ")") SymParenRight rest)) (closed_by_paren rest))
        (right_paren_fits _, f),
  )
  expression_fits (named_component base component) rest s e f =
      expression_node_fits base
      (gap (is_abstract_int (expression_in base)) (sign (codes ".") SymPeriod (name component rest))) s.1
      (component_follows_node base (name component rest) s.0)
      (gap_fits (is_abstract_int (expression_in base))
      (sign (codes ".") SymPeriod (name component rest)) (component_fits component rest s.2 e f))
  expression_fits (indexing base index) rest s e f =
      let more = expression_node_pieces index (sign (codes "]") SymBracketRight rest) in
      expression_node_fits base (sign (codes "[") SymBracketLeft more) s.0
      (closed_node base (render (sign (codes "[") SymBracketLeft more)) (opened_by_bracket more)) (
        left_bracket_fits _,
        expression_node_fits index (sign (codes "]") SymBracketRight rest) s.1
            (closed_node index (render (sign (codes "]") SymBracketRight rest)) (closed_by_bracket rest))
            (right_bracket_fits _, f),
      )
  expression_fits (unary operator operand) rest s e f = (
    unary_operator_fits operator _ (operator_before_node operator operand rest s.0 s.1),
    gap_fits (fuses operator (expression_in operand)) (expression_node_pieces operand rest)
        (expression_node_fits operand rest s.1 e f),
  )
  expression_fits (binary operator a b) rest s e f =
      expression_node_fits a _ s.0 (closed_node a _ refl)
      (binary_operator_fits operator _, expression_node_fits b rest s.1 e f)
  expression_fits (function_call c) rest s e f = call_fits c rest s f
  expression_fits (type_or_identifier t) rest s e f = type_fits t rest s e f

  pub expression_node_fits : (e : ExpressionNode) (rest : List Piece) → IsSoundNode e
      → EndsNode e (render rest) → Fits rest → Fits (expression_node_pieces e rest)
  expression_node_fits (expression_node e span) rest s n f = expression_fits e rest s n f

  pub call_fits : (c : FunctionCall) (rest : List Piece) → IsSoundCall c → Fits rest → Fits (call_pieces c rest)
  call_fits (call ty arguments) rest s f =
      let more = expressions_pieces arguments (sign (codes ")") SymParenRight rest) in
      type_fits ty (sign (codes "(") SymParenLeft more) s.0 (call_ends ty more) (
        left_paren_fits _,
        expressions_fit arguments (sign (codes ")") SymParenRight rest) s.1 (closed_by_paren rest)
            (right_paren_fits _, f),
      )

  pub type_fits : (t : TypeExpression) (rest : List Piece) → IsSoundType t
      → EndsType t (render rest) → Fits rest → Fits (type_pieces t rest)
  type_fits (type_expression text arguments) rest s e f =
      (name_fits text _ s.0 (ends_at_template arguments rest text e), template_fits arguments rest s.1 f)

  template_fits : (a : TemplateArguments) (rest : List Piece) → IsSoundTemplate a → Fits rest
      → Fits (template_pieces a rest)
  template_fits no_template rest s f = f
  template_fits (template arguments) rest s f =
      (opens_stands _ (less_before_nodes arguments rest s), expressions_fit arguments (closes ∷ rest) s refl f)

  expressions_fit : (es : ExpressionNodes) (rest : List Piece) → AreSoundNodes es
      → Closed (render rest) → Fits rest → Fits (expressions_pieces es rest)
  expressions_fit no_expressions rest s c f = f
  expressions_fit (expression_before e es) rest s c f =
      expression_node_fits e (further_expressions_pieces es rest) s.0
      (closed_node e (render (further_expressions_pieces es rest)) (closed_further es rest c))
      (further_expressions_fit es rest s.1 c f)

  further_expressions_fit : (es : ExpressionNodes) (rest : List Piece) → AreSoundNodes es
      → Closed (render rest) → Fits rest → Fits (further_expressions_pieces es rest)
  further_expressions_fit no_expressions rest s c f = f
  further_expressions_fit (expression_before e es) rest s c f = (
    comma_fits _,
    expression_node_fits e (further_expressions_pieces es rest) s.0
        (closed_node e (render (further_expressions_pieces es rest)) (closed_further es rest c))
        (further_expressions_fit es rest s.1 c f),
  )
