-- Expressions whose names and literals are spelled as they are printed, and what may follow them.
use Rattle.std.proofs.Common.{◌≡◌, ℕ, ◌==◌, ◌&&◌, true, false, not, refl, sym, subst, List, [], ◌∷◌, ◌++◌, Some, ◌⊎◌, inl, inr}
use Rattle.std.specs.Prelude.{codes}
use Rattle.std.specs.Str.{IsUtf8, chars}
use Rattle.std.proofs.lemmas.Bool.{and_parts, not-true}
use Rattle.wgsl_model.specs.Tokens.ClassTable.{AbstractInt}
use Rattle.wgsl_model.specs.Tokens.Kind.{Kind}
use Rattle.wgsl_model.specs.Tokens.Numbers.{number_spelling, number_of}
use Rattle.wgsl_model.specs.Trees.Expressions.{LiteralExpression, boolean, abstract_int, i32, u32, abstract_float, f32, f16, ExpressionNode, expression_node, Expression, literal, parenthesized, named_component, indexing, unary, binary, function_call, type_or_identifier, FunctionCall, call, TypeExpression, type_expression, TemplateArguments, no_template, template, ExpressionNodes, no_expressions, expression_before}
use Rattle.wgsl_model.specs.Printed.Expressions.{print_literal}
use Rattle.wgsl_theory_reread.specs.CanonicalExpressions.{literal_token}
use Rattle.wgsl_theory_printed.proofs.Spelling.Split.{takes}
use Rattle.wgsl_theory_printed.proofs.Spelling.Pieces.{IsOrdinary, Stands, FitsBefore}
use Rattle.wgsl_theory_printed.proofs.Spelling.Spellings.{IsSpelling, EndsBefore, spelling_stands}
use Rattle.wgsl_theory_printed.proofs.Spelling.Signs.{begins_number, one_of_three}
use Rattle.wgsl_theory_printed.proofs.Spelling.Ends.{ends_name, EndsName, EndsNumber, IsNameText, number_no_name, number_no_symbol, number_ends_before}
use Rattle.wgsl_theory_printed.proofs.Fits.FittingWords.{spelled_on_one_line, name_fits, word_name}
use Rattle.wgsl_theory_printed.proofs.Fits.PointAfter.{no_point_after}

-- ---- literals

-- the bytes of a number
pub record IsNumberText (k : Kind) (bytes : List ℕ) : Type 0 where
  pub utf8 : IsUtf8 bytes
  pub first : ℕ
  pub others : List ℕ
  pub characters : chars bytes ≡ first ∷ others
  pub begins : begins_number first ≡ true
  pub spelling : IsSpelling k (first ∷ others)
  pub numbered : number_of (first ∷ others) ≡ Some k

-- a rest begins with what no number goes on with, or with a point
abbrev pub EndsAtPoint : List ℕ → Type 0
EndsAtPoint [] = Unit {0}
EndsAtPoint (c ∷ cs) = (takes c number_spelling ≡ false) ⊎ (c ≡ 46)

number_fits_before : (k : Kind) (bytes rest : List ℕ) → IsOrdinary k → (n : IsNumberText k bytes)
    → EndsBefore (n.first ∷ n.others) rest → FitsBefore bytes k rest
number_fits_before k bytes rest o n e = record {
  ordinary = o;
  stands = subst (λ w. Stands w k rest) (sym n.characters) (spelling_stands k (n.first ∷ n.others) rest n.spelling e);
  utf8 = n.utf8;
  on_one_line = spelled_on_one_line bytes (n.first ∷ n.others) n.utf8 n.characters n.spelling.spelled;
}

number_fits : (k : Kind) (bytes rest : List ℕ) → IsOrdinary k → IsNumberText k bytes
    → EndsNumber rest → FitsBefore bytes k rest
number_fits k bytes rest o n e = number_fits_before k bytes rest o n
    (number_ends_before n.first n.others rest n.begins e)

point_ends : (k : Kind) (bytes rest : List ℕ) → (n : IsNumberText k bytes)
    → (k.class == AbstractInt) ≡ false → EndsAtPoint rest → EndsBefore (n.first ∷ n.others) rest
point_ends k bytes [] n a e = tt
point_ends k bytes (c ∷ cs) n a (inl e) = number_ends_before n.first n.others (c ∷ cs) n.begins e
point_ends k bytes (c ∷ cs) n a (inr e) = subst (λ d. EndsBefore (n.first ∷ n.others) (d ∷ cs))
    (sym e) (λ z h. one_of_three ((n.first ∷ n.others) ++ (46 ∷ z)) h
    (λ s. number_no_name n.first (n.others ++ (46 ∷ z)) n.begins s)
    (λ s. no_point_after (n.first ∷ n.others) k n.numbered a z s)
    (λ s. number_no_symbol n.first n.others 46 z n.begins s))

number_fits_at_point : (k : Kind) (bytes rest : List ℕ) → IsOrdinary k → IsNumberText k bytes
    → (k.class == AbstractInt) ≡ false → EndsAtPoint rest → FitsBefore bytes k rest
number_fits_at_point k bytes rest o n a e = number_fits_before k bytes rest o n (point_ends k bytes rest n a e)

-- a literal is spelled as it is printed
abbrev pub IsSoundLiteral : LiteralExpression → Type 0
IsSoundLiteral (boolean b) = Unit {0}
IsSoundLiteral l = IsNumberText (literal_token l) (print_literal l)

-- what may follow it
abbrev pub EndsLiteral : LiteralExpression → List ℕ → Type 0
EndsLiteral (boolean b) rest = EndsName rest
EndsLiteral (abstract_int n) rest = EndsNumber rest
EndsLiteral l rest = EndsAtPoint rest

pub literal_fits : (l : LiteralExpression) (rest : List ℕ) → IsSoundLiteral l → EndsLiteral l rest
    → FitsBefore (print_literal l) (literal_token l) rest
literal_fits (boolean true) rest s e = name_fits (codes "true") rest (word_name (codes "true") refl) e
literal_fits (boolean false) rest s e = name_fits (codes "false") rest (word_name (codes "false") refl) e
literal_fits (abstract_int n) rest s e = number_fits (literal_token (abstract_int n))
    (print_literal (abstract_int n)) rest tt s e
literal_fits (i32 n) rest s e = number_fits_at_point (literal_token (i32 n)) (print_literal (i32 n)) rest tt s refl e
literal_fits (u32 n) rest s e = number_fits_at_point (literal_token (u32 n)) (print_literal (u32 n)) rest tt s refl e
literal_fits (abstract_float t) rest s e = number_fits_at_point (literal_token (abstract_float t))
    (print_literal (abstract_float t)) rest tt s refl e
literal_fits (f32 t) rest s e = number_fits_at_point (literal_token (f32 t)) (print_literal (f32 t)) rest tt s refl e
literal_fits (f16 t) rest s e = number_fits_at_point (literal_token (f16 t)) (print_literal (f16 t)) rest tt s refl e

-- ---- expressions

-- an expression that begins with no operator: a literal, a call, a type or an expression in
-- parentheses, with components after it
abbrev mutual
  pub IsPrimary : Expression → Type 0
  IsPrimary (named_component base component) = IsPrimaryNode base
  IsPrimary (indexing base index) = IsPrimaryNode base
  IsPrimary (unary operator operand) = ⊥
  IsPrimary (binary operator a b) = ⊥
  IsPrimary e = Unit {0}

  pub IsPrimaryNode : ExpressionNode → Type 0
  IsPrimaryNode (expression_node e span) = IsPrimary e

-- an operand of an operator before it
abbrev pub IsOperand : Expression → Type 0
IsOperand (unary operator operand) = Unit {0}
IsOperand e = IsPrimary e

abbrev pub IsOperandNode : ExpressionNode → Type 0
IsOperandNode (expression_node e span) = IsOperand e

abbrev mutual
  -- names and literals are spelled, operators are before operands, and names of components after
  -- what begins with no operator
  pub IsSoundExpression : Expression → Type 0
  IsSoundExpression (literal l) = IsSoundLiteral l
  IsSoundExpression (parenthesized e) = IsSoundNode e
  IsSoundExpression (named_component base component) = IsPrimaryNode base × IsSoundNode base × IsNameText component
  IsSoundExpression (indexing base index) = IsSoundNode base × IsSoundNode index
  IsSoundExpression (unary operator operand) = IsOperandNode operand × IsSoundNode operand
  IsSoundExpression (binary operator a b) = IsSoundNode a × IsSoundNode b
  IsSoundExpression (function_call c) = IsSoundCall c
  IsSoundExpression (type_or_identifier t) = IsSoundType t

  pub IsSoundNode : ExpressionNode → Type 0
  IsSoundNode (expression_node e span) = IsSoundExpression e

  pub IsSoundCall : FunctionCall → Type 0
  IsSoundCall (call ty arguments) = IsSoundType ty × AreSoundNodes arguments

  pub IsSoundType : TypeExpression → Type 0
  IsSoundType (type_expression name arguments) = IsNameText name × IsSoundTemplate arguments

  pub IsSoundTemplate : TemplateArguments → Type 0
  IsSoundTemplate no_template = Unit {0}
  IsSoundTemplate (template arguments) = AreSoundNodes arguments

  pub AreSoundNodes : ExpressionNodes → Type 0
  AreSoundNodes no_expressions = Unit {0}
  AreSoundNodes (expression_before e es) = IsSoundNode e × AreSoundNodes es

-- what may follow a type and an expression
abbrev pub EndsType : TypeExpression → List ℕ → Type 0
EndsType (type_expression name no_template) rest = EndsName rest
EndsType (type_expression name (template arguments)) rest = Unit {0}

abbrev mutual
  pub EndsExpression : Expression → List ℕ → Type 0
  EndsExpression (literal l) rest = EndsLiteral l rest
  EndsExpression (named_component base component) rest = EndsName rest
  EndsExpression (unary operator operand) rest = EndsNode operand rest
  EndsExpression (binary operator a b) rest = EndsNode b rest
  EndsExpression (type_or_identifier t) rest = EndsType t rest
  EndsExpression e rest = Unit {0}

  pub EndsNode : ExpressionNode → List ℕ → Type 0
  EndsNode (expression_node e span) rest = EndsExpression e rest

-- a rest begins with what goes on with no name and no number
abbrev pub Closed : List ℕ → Type 0
Closed [] = Unit {0}
Closed (c ∷ cs) = (ends_name c && not (takes c number_spelling)) ≡ true

pub closed_name : (rest : List ℕ) → Closed rest → EndsName rest
closed_name [] h = tt
closed_name (c ∷ cs) h = (and_parts (ends_name c) _ h).0

closed_number : (rest : List ℕ) → Closed rest → EndsNumber rest
closed_number [] h = tt
closed_number (c ∷ cs) h = not-true (takes c number_spelling) (and_parts (ends_name c) _ h).1

closed_point : (rest : List ℕ) → Closed rest → EndsAtPoint rest
closed_point [] h = tt
closed_point (c ∷ cs) h = inl (closed_number (c ∷ cs) h)

closed_literal : (l : LiteralExpression) (rest : List ℕ) → Closed rest → EndsLiteral l rest
closed_literal (boolean b) rest h = closed_name rest h
closed_literal (abstract_int n) rest h = closed_number rest h
closed_literal l rest h = closed_point rest h

pub closed_type : (t : TypeExpression) (rest : List ℕ) → Closed rest → EndsType t rest
closed_type (type_expression name no_template) rest h = closed_name rest h
closed_type (type_expression name (template arguments)) rest h = tt

mutual
  pub closed_expression : (e : Expression) (rest : List ℕ) → Closed rest → EndsExpression e rest
  closed_expression (literal l) rest h = closed_literal l rest h
  closed_expression (named_component base component) rest h = closed_name rest h
  closed_expression (unary operator operand) rest h = closed_node operand rest h
  closed_expression (binary operator a b) rest h = closed_node b rest h
  closed_expression (type_or_identifier t) rest h = closed_type t rest h
  closed_expression e rest h = tt

  pub closed_node : (e : ExpressionNode) (rest : List ℕ) → Closed rest → EndsNode e rest
  closed_node (expression_node e span) rest h = closed_expression e rest h
