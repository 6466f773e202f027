-- Declarations of values, statements without others and parts of statements whose names and literals
-- are spelled as they are printed: the pieces of these fit.
use Rattle.std.proofs.Common.{ℕ, zero, suc, Bool, true, false, cond, refl, List, [], ◌∷◌, Option, Some, None}
use Rattle.std.specs.Prelude.{codes}
use Rattle.wgsl_model.specs.Tokens.ClassTable.{SymAndEqual, SymBraceLeft, SymBraceRight, SymColon, SymEqual, SymMinusEqual, SymMinusMinus, SymModuloEqual, SymOrEqual, SymPlusEqual, SymPlusPlus, SymSemicolon, SymShiftLeftAssign, SymShiftRightAssign, SymTimesEqual, SymXorEqual}
use Rattle.wgsl_model.specs.Tokens.Kind.{plain}
use Rattle.wgsl_model.specs.Trees.Operators.{AssignmentOperator, equal, plus_equal, minus_equal, times_equal, division_equal, modulo_equal, and_equal, or_equal, xor_equal, shift_right_assign, shift_left_assign}
use Rattle.wgsl_model.specs.Printed.Operators.{assignment_operator_text}
use Rattle.wgsl_model.specs.Trees.NamedValues.{AddressSpace, AccessMode, address_space_text, access_mode_text}
use Rattle.wgsl_model.specs.Trees.Expressions.{ExpressionNode, expression_node, Expression, literal, parenthesized, named_component, indexing, unary, binary, function_call, type_or_identifier, TypeExpression, type_expression, no_template, template}
use Rattle.wgsl_model.specs.Trees.Attributes.{Attributes}
use Rattle.wgsl_model.specs.Trees.Attributed.{Attributed}
use Rattle.wgsl_model.specs.Trees.Statements.{DeclarationKind, const_kind, override_kind, let_kind, var_kind, Declaration, ConstAssert, BreakIfStatement, CaseSelector, default_selector, expression_selector, AssignmentStatement, IncrementStatement, DecrementStatement, ReturnStatement, FunctionCallStatement}
use Rattle.wgsl_theory_reread.specs.CanonicalStatements.{assignment_operator_class}
use Rattle.wgsl_theory_printed.proofs.Spelling.Pieces.{Piece, space, closes, render, FitsBefore, Fits}
use Rattle.wgsl_theory_printed.proofs.TreePieces.Printing.{four, line}
use Rattle.wgsl_theory_printed.proofs.Spelling.Signs.{NotOn, goes_on-no_operator, name_no_operator}
use Rattle.wgsl_theory_printed.proofs.Spelling.Ends.{EndsName, IsNameText}
use Rattle.wgsl_theory_printed.proofs.Fits.FittingWords.{sign_fits, slash_equal_fits, not_on}
use Rattle.wgsl_theory_printed.proofs.Fits.SoundExpressions.{IsSoundNode, IsSoundCall, IsSoundType, EndsExpression, EndsNode, Closed, closed_name}
use Rattle.wgsl_theory_printed.proofs.Fits.FittingSigns.{as_text, before_name}
use Rattle.wgsl_theory_printed.proofs.Fits.FittingExpressions.{opens_stands, expression_node_fits, call_fits}
use Rattle.wgsl_theory_printed.proofs.Fits.WrittenWords.{access_mode_name, address_space_name, keyword_fits}
use Rattle.wgsl_theory_printed.proofs.Fits.FittingAttributes.{IfSome, Every, AreSoundAttributes, list_fits, node_fits, closed_type_fits, plain_name_fits, optional_fits, attributes_fit}
use Rattle.wgsl_theory_printed.proofs.TreePieces.PiecesOfExpressions.{sign, name, expression_node_pieces, type_pieces}
use Rattle.wgsl_theory_printed.proofs.TreePieces.PiecesOfAttributes.{list_pieces, optional_pieces, after_comma_pieces, attributes_pieces}
use Rattle.wgsl_theory_printed.proofs.TreePieces.PiecesOfStatements.{var_template_pieces, kind_pieces, typed_pieces, initializer_pieces, declaration_pieces, returned_pieces, assert_pieces, selector_pieces, break_if_pieces, assignment_pieces, increment_pieces, decrement_pieces, return_pieces, call_statement_pieces}

-- ---- statements that are so spelled

abbrev pub IsSoundDeclaration : Declaration → Type 0
IsSoundDeclaration d = IsNameText d.ident × IfSome IsSoundType d.ty × IfSome IsSoundNode d.initializer

-- an expression that ends with a name or a bracket
abbrev mutual
  pub EndsWithName : Expression → Type 0
  EndsWithName (literal l) = ⊥
  EndsWithName (binary operator a b) = ⊥
  EndsWithName (unary operator operand) = EndsWithNameNode operand
  EndsWithName e = Unit {0}

  pub EndsWithNameNode : ExpressionNode → Type 0
  EndsWithNameNode (expression_node e span) = EndsWithName e

abbrev pub IsSoundSelector : CaseSelector → Type 0
IsSoundSelector default_selector = Unit {0}
IsSoundSelector (expression_selector e) = IsSoundNode e

abbrev pub IsSoundBreakIf : Attributed BreakIfStatement → Type 0
IsSoundBreakIf b = AreSoundAttributes b.attributes × IsSoundNode b.node.expression

-- before `++` and `--` such an expression, which is not read together with them
abbrev pub IsSoundIncrement : IncrementStatement → Type 0
IsSoundIncrement i = EndsWithNameNode i.expression × IsSoundNode i.expression

abbrev pub IsSoundDecrement : DecrementStatement → Type 0
IsSoundDecrement d = EndsWithNameNode d.expression × IsSoundNode d.expression

-- ---- lines and symbols

-- what holds before every line break holds before a line
pub before_line : (P : List ℕ → Type 0) (n : ℕ) (rest : List Piece) → ((cs : List ℕ) → P (10 ∷ cs))
    → P (render (line n rest))
before_line P zero rest h = h (render rest)
before_line P (suc n) rest h = before_line P n (four rest) h

pub line_fits : (n : ℕ) (rest : List Piece) → Fits rest → Fits (line n rest)
line_fits zero rest f = f
line_fits (suc n) rest f = line_fits n (four rest) f

pub closed_line : (n : ℕ) (rest : List Piece) → Closed (render (line n rest))
closed_line n rest = before_line Closed n rest (λ cs. refl)

-- attributes on lines of their own
pub attribute_lines_fit : (n : ℕ) (a : Attributes) (rest : List Piece) → AreSoundAttributes a
    → Fits rest → Fits (attributes_pieces (line n) a rest)
attribute_lines_fit n a rest s f = attributes_fit (line n) a rest s
    (before_line EndsName n rest (λ cs. refl)) (line_fits n rest f) f

pub left_brace_fits : (rest : List ℕ) → FitsBefore (codes "{") (plain SymBraceLeft) rest
left_brace_fits rest = sign_fits 123 [] SymBraceLeft rest refl refl refl tt (not_on (codes "{") (λ c. refl) rest)

pub right_brace_fits : (rest : List ℕ) → FitsBefore (codes "}") (plain SymBraceRight) rest
right_brace_fits rest = sign_fits 125 [] SymBraceRight rest refl refl refl tt (not_on (codes "}") (λ c. refl) rest)

pub semicolon_fits : (rest : List ℕ) → FitsBefore (codes ";") (plain SymSemicolon) rest
semicolon_fits rest = sign_fits 59 [] SymSemicolon rest refl refl refl tt (not_on (codes ";") (λ c. refl) rest)

pub colon_fits : (rest : List ℕ) → FitsBefore (codes ":") (plain SymColon) rest
colon_fits rest = sign_fits 58 [] SymColon rest refl refl refl tt (not_on (codes ":") (λ c. refl) rest)

-- `=` before a space
pub equal_fits : (rest : List ℕ) → FitsBefore (codes "=") (plain SymEqual) (32 ∷ rest)
equal_fits rest = sign_fits 61 [] SymEqual (32 ∷ rest) refl refl refl tt refl

pub closed_by_semicolon : (rest : List Piece) → Closed (render (sign (codes ";") SymSemicolon rest))
closed_by_semicolon rest = as_text Closed (codes ";") (render rest) refl refl

-- in an assignment
assignment_operator_fits : (o : AssignmentOperator) (rest : List ℕ)
    → FitsBefore (assignment_operator_text o) (plain (assignment_operator_class o)) (32 ∷ rest)
assignment_operator_fits equal rest = sign_fits 61 [] SymEqual (32 ∷ rest) refl refl refl tt refl
assignment_operator_fits plus_equal rest = sign_fits 43 (61 ∷ []) SymPlusEqual (32 ∷ rest) refl refl refl tt refl
assignment_operator_fits minus_equal rest = sign_fits 45 (61 ∷ []) SymMinusEqual (32 ∷ rest) refl refl refl tt refl
assignment_operator_fits times_equal rest = sign_fits 42 (61 ∷ []) SymTimesEqual (32 ∷ rest) refl refl refl tt refl
assignment_operator_fits division_equal rest = slash_equal_fits rest
assignment_operator_fits modulo_equal rest = sign_fits 37 (61 ∷ []) SymModuloEqual (32 ∷ rest) refl refl refl tt refl
assignment_operator_fits and_equal rest = sign_fits 38 (61 ∷ []) SymAndEqual (32 ∷ rest) refl refl refl tt refl
assignment_operator_fits or_equal rest = sign_fits 124 (61 ∷ []) SymOrEqual (32 ∷ rest) refl refl refl tt refl
assignment_operator_fits xor_equal rest = sign_fits 94 (61 ∷ []) SymXorEqual (32 ∷ rest) refl refl refl tt refl
assignment_operator_fits shift_right_assign rest = sign_fits 62 (62 ∷ 61 ∷ []) SymShiftRightAssign
    (32 ∷ rest) refl refl refl tt refl
assignment_operator_fits shift_left_assign rest = sign_fits 60 (60 ∷ 61 ∷ []) SymShiftLeftAssign
    (32 ∷ rest) refl refl refl tt refl

-- ---- declarations of values

mode_fits : (o : Option AccessMode) (rest : List Piece) → Fits rest
    → Fits (optional_pieces (after_comma_pieces (λ (m : AccessMode). name (access_mode_text m))) o
    (closes ∷ rest)) × Closed (render (optional_pieces
    (after_comma_pieces (λ (m : AccessMode). name (access_mode_text m))) o (closes ∷ rest)))
mode_fits o rest f = optional_fits (λ (m : AccessMode). name (access_mode_text m)) (λ m. Unit {0})
    (λ m r u c g. plain_name_fits (access_mode_text m) r (access_mode_name m) c g) o (closes ∷ rest)
    (any o) refl f
  where
    any : (o : Option AccessMode) → IfSome (λ (m : AccessMode). Unit {0}) o
    any None = tt
    any (Some m) = tt

var_template_fits : (o : Option (AddressSpace × Option AccessMode)) (rest : List Piece)
    → EndsName (render rest) → Fits rest → Fits (optional_pieces var_template_pieces o rest)
    × EndsName (render (optional_pieces var_template_pieces o rest))
var_template_fits None rest e f = (f, e)
var_template_fits (Some p) rest e f =
    let mode = mode_fits p.1 rest f in
    let more = optional_pieces (after_comma_pieces (λ (m : AccessMode). name (access_mode_text m)))
    p.1 (closes ∷ rest) in (
      (
        opens_stands _ (before_name (NotOn (codes "<")) (address_space_text p.0) (render more)
            (address_space_name p.0) (λ c cs b. goes_on-no_operator 60 [] c (name_no_operator c b))),
        plain_name_fits (address_space_text p.0) more (address_space_name p.0) mode.1 mode.0,
      ),
      refl,
    )

kind_fits : (k : DeclarationKind) (rest : List Piece) → EndsName (render rest) → Fits rest → Fits (kind_pieces k rest)
kind_fits const_kind rest e f = (keyword_fits (render rest) refl e, f)
kind_fits override_kind rest e f = (keyword_fits (render rest) refl e, f)
kind_fits let_kind rest e f = (keyword_fits (render rest) refl e, f)
kind_fits (var_kind t) rest e f = let more = var_template_fits t rest e f in (keyword_fits _ refl more.1, more.0)

initializer_fits : (o : Option ExpressionNode) (rest : List Piece) → IfSome IsSoundNode o
    → Closed (render rest) → Fits rest → Fits (optional_pieces initializer_pieces o rest)
    × Closed (render (optional_pieces initializer_pieces o rest))
initializer_fits None rest s c f = (f, c)
initializer_fits (Some e) rest s c f =
    ((equal_fits (render (expression_node_pieces e rest)), node_fits e rest s c f), refl)

closed_by_colon : (rest : List Piece) → Closed (render (sign (codes ":") SymColon rest))
closed_by_colon rest = as_text Closed (codes ":") (render rest) refl refl

typed_fits : (o : Option TypeExpression) (rest : List Piece) → IfSome IsSoundType o
    → Closed (render rest) → Fits rest
    → Fits (optional_pieces typed_pieces o rest) × Closed (render (optional_pieces typed_pieces o rest))
typed_fits None rest s c f = (f, c)
typed_fits (Some t) rest s c f = (
  (colon_fits (32 ∷ render (type_pieces t rest)), closed_type_fits t rest s c f),
  closed_by_colon (space ∷ type_pieces t rest),
)

pub declaration_fits : (d : Declaration) (rest : List Piece) → IsSoundDeclaration d
    → Closed (render rest) → Fits rest → Fits (declaration_pieces d rest)
declaration_fits d rest s c f =
    let value = initializer_fits d.initializer rest s.2 c f in
    let typed = typed_fits d.ty (optional_pieces initializer_pieces d.initializer rest) s.1 value.1 value.0 in
    let last = optional_pieces typed_pieces d.ty (optional_pieces initializer_pieces d.initializer rest) in
    kind_fits d.kind (space ∷ name d.ident last) refl (plain_name_fits d.ident last s.0 typed.1 typed.0)

pub assert_fits : (c : ConstAssert) (rest : List Piece) → IsSoundNode c.expression
    → Closed (render rest) → Fits rest → Fits (assert_pieces c rest)
assert_fits c rest s d f = (keyword_fits _ refl refl, node_fits c.expression rest s d f)

-- ---- statements that hold no others

mutual
  name_ends_expression : (e : Expression) (rest : List ℕ) → EndsWithName e → EndsName rest → EndsExpression e rest
  name_ends_expression (literal l) rest s e = absurd s
  name_ends_expression (parenthesized x) rest s e = tt
  name_ends_expression (named_component base component) rest s e = e
  name_ends_expression (indexing base index) rest s e = tt
  name_ends_expression (unary operator operand) rest s e = name_ends_node operand rest s e
  name_ends_expression (binary operator a b) rest s e = absurd s
  name_ends_expression (function_call c) rest s e = tt
  name_ends_expression (type_or_identifier (type_expression text no_template)) rest s e = e
  name_ends_expression (type_or_identifier (type_expression text (template arguments))) rest s e = tt

  name_ends_node : (e : ExpressionNode) (rest : List ℕ) → EndsWithNameNode e → EndsName rest → EndsNode e rest
  name_ends_node (expression_node e span) rest s n = name_ends_expression e rest s n

pub assignment_fits : (a : AssignmentStatement) (rest : List Piece)
    → IsSoundNode a.lhs × IsSoundNode a.rhs → Closed (render rest) → Fits rest → Fits (assignment_pieces a rest)
assignment_fits a rest s c f =
    node_fits a.lhs _ s.0 refl (assignment_operator_fits a.operator _, node_fits a.rhs rest s.1 c f)

pub increment_fits : (i : IncrementStatement) (rest : List Piece) → IsSoundIncrement i → Fits rest
    → Fits (increment_pieces i rest)
increment_fits i rest s f =
    expression_node_fits i.expression (sign (codes "++") SymPlusPlus rest) s.1
    (name_ends_node i.expression (render (sign (codes "++") SymPlusPlus rest)) s.0
    (as_text EndsName (codes "++") (render rest) refl refl)) (
      sign_fits 43 (43 ∷ []) SymPlusPlus (render rest) refl refl refl tt
          (not_on (codes "++") (λ c. refl) (render rest)),
      f,
    )

pub decrement_fits : (d : DecrementStatement) (rest : List Piece) → IsSoundDecrement d → Fits rest
    → Fits (decrement_pieces d rest)
decrement_fits d rest s f =
    expression_node_fits d.expression (sign (codes "--") SymMinusMinus rest) s.1
    (name_ends_node d.expression (render (sign (codes "--") SymMinusMinus rest)) s.0
    (as_text EndsName (codes "--") (render rest) refl refl)) (
      sign_fits 45 (45 ∷ []) SymMinusMinus (render rest) refl refl refl tt
          (not_on (codes "--") (λ c. refl) (render rest)),
      f,
    )

returned_fits : (o : Option ExpressionNode) (rest : List Piece) → IfSome IsSoundNode o
    → Closed (render rest) → Fits rest → Fits (optional_pieces returned_pieces o rest)
    × EndsName (render (optional_pieces returned_pieces o rest))
returned_fits None rest s c f = (f, closed_name (render rest) c)
returned_fits (Some e) rest s c f = (node_fits e rest s c f, refl)

pub return_fits : (r : ReturnStatement) (rest : List Piece) → IfSome IsSoundNode r.expression
    → Closed (render rest) → Fits rest → Fits (return_pieces r rest)
return_fits r rest s c f = let more = returned_fits r.expression rest s c f in (keyword_fits _ refl more.1, more.0)

pub call_statement_fits : (c : FunctionCallStatement) (rest : List Piece) → IsSoundCall c.call
    → Fits rest → Fits (call_statement_pieces c rest)
call_statement_fits c rest s f = call_fits c.call rest s f

pub condition_fits : (o : Option ExpressionNode) (rest : List Piece) → IfSome IsSoundNode o
    → Closed (render rest) → Fits rest → Fits (optional_pieces expression_node_pieces o rest)
condition_fits None rest s c f = f
condition_fits (Some e) rest s c f = node_fits e rest s c f

selector_fits : (x : CaseSelector) (rest : List Piece) → IsSoundSelector x → Closed (render rest)
    → Fits rest → Fits (selector_pieces x rest)
selector_fits default_selector rest s c f = (keyword_fits (render rest) refl (closed_name (render rest) c), f)
selector_fits (expression_selector e) rest s c f = node_fits e rest s c f

pub break_if_fits : (n : ℕ) (o : Option (Attributed BreakIfStatement)) (rest : List Piece)
    → IfSome IsSoundBreakIf o → Fits rest → Fits (optional_pieces (break_if_pieces n) o rest)
break_if_fits n None rest s f = f
break_if_fits n (Some b) rest s f =
    let condition = node_fits b.node.expression (sign (codes ";") SymSemicolon (line n rest)) s.1
    (closed_by_semicolon (line n rest)) (semicolon_fits (render (line n rest)), line_fits n rest f) in
    attribute_lines_fit (suc n) b.attributes _ s.0
    (keyword_fits _ refl refl, (keyword_fits _ refl refl, condition))

pub selectors_fit : (ss : List CaseSelector) (rest : List Piece) → Every IsSoundSelector ss
    → Closed (render rest) → Fits rest → Fits (list_pieces selector_pieces ss rest)
selectors_fit ss rest s c f = list_fits selector_pieces IsSoundSelector selector_fits ss rest s c f

-- ---- statements

pub one_closed : (n : ℕ) (b : Bool) (rest last : List Piece) → Closed (render rest)
    → Closed (render (cond b rest (line n last)))
one_closed n true rest last c = c
one_closed n false rest last c = closed_line n last

pub one_fits : (b : Bool) (rest last : List Piece) → Fits rest → Fits last → Fits (cond b rest last)
one_fits true rest last f g = f
one_fits false rest last f g = g
