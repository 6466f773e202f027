-- Which trees fit in packed forms: their numbers have 64 bits, and there are no attributes of empty
-- items, nor of what a function does not return, which forms leave out.
use Rattle.std.specs.Prelude.{ℕ, ◌≡◌, ◌<◌, ◌^◌, true, List, [], ◌∷◌, length, Option, Some, None, FitsSigned}
use Rattle.std.specs.Int.{w64}
use Rattle.std.specs.Option.{IfSome}
use Rattle.grammar.specs.Tokens.{Span}
use Rattle.wgsl_model.specs.Tokens.Places.{width}
use Rattle.wgsl_model.specs.Grammar.Symbols.{Symbol, Value}
use Rattle.wgsl_model.specs.SourceTrees.{IsTreeOf}
use Rattle.wgsl_model.specs.Printed.Statements.{is_void}
use Rattle.wgsl_model.specs.Printed.Units as units
use Rattle.wgsl_model.specs.Trees.Spanned.{Spanned}
use Rattle.wgsl_model.specs.Trees.Attributed.{Attributed, without_attributes}
use Rattle.wgsl_model.specs.Trees.Expressions.{LiteralExpression, abstract_int, i32, u32, ExpressionNode, expression_node, Expression, literal, parenthesized, named_component, indexing, unary, binary, function_call, type_or_identifier, FunctionCall, call, TypeExpression, type_expression, no_template, template, ExpressionNodes, no_expressions, expression_before}
use Rattle.wgsl_model.specs.Trees.Attributes.{Attribute, with_argument, workgroup_size, type_constraint, custom, Attributes, TypeConstraint}
use Rattle.wgsl_model.specs.Trees.Statements.{Declaration, BreakIfStatement, CaseSelector, default_selector, expression_selector, StatementNode, statement_node, Statement, statement, UnattributedStatement, void, compound, assignment, increment, decrement, if_statement, switch_statement, loop_statement, for_statement, while_statement, return_statement, function_call_statement, const_assert, declaration, CompoundStatement, compound_statement, IfStatement, if_else, IfClause, if_clause, ElseIfClause, else_if_clause, ElseClause, else_clause, SwitchStatement, switch, SwitchClause, switch_clause, LoopStatement, repeat, ContinuingStatement, continuing, ForStatement, repeat_for, WhileStatement, repeat_while, StatementNodes, no_statements, statement_before, ElseIfClauses, no_else_ifs, else_if_before, MaybeElseClause, no_else, one_else, SwitchClauses, no_clauses, clause_before, MaybeContinuing, no_continuing, one_continuing, MaybeStatement, no_statement, one_statement, unattributed}
use Rattle.wgsl_model.specs.Trees.Units as tree

-- ---- parts
-- P of each item
abbrev pub Every : {X : Type 0} → (X → Type 0) → List X → Type 0
Every P [] = Unit {0}
Every P (x ∷ xs) = P x × Every P xs

abbrev pub SpanFits : Span → Type 0
SpanFits span = (span.start < 2 ^ 64) × (span.end < 2 ^ 64)

-- ---- expressions
abbrev pub LiteralFits : LiteralExpression → Type 0
LiteralFits (abstract_int n) = FitsSigned w64 n
LiteralFits (i32 n) = FitsSigned w64 n
LiteralFits (u32 n) = n < 2 ^ 64
LiteralFits l = Unit {0}

abbrev mutual
  pub ExpressionFits : Expression → Type 0
  ExpressionFits (literal l) = LiteralFits l
  ExpressionFits (parenthesized e) = NodeFits e
  ExpressionFits (named_component base component) = NodeFits base
  ExpressionFits (indexing base index) = NodeFits base × NodeFits index
  ExpressionFits (unary operator operand) = NodeFits operand
  ExpressionFits (binary operator left right) = NodeFits left × NodeFits right
  ExpressionFits (function_call c) = CallFits c
  ExpressionFits (type_or_identifier t) = TypeFits t

  pub NodeFits : ExpressionNode → Type 0
  NodeFits (expression_node e span) = SpanFits span × ExpressionFits e

  pub CallFits : FunctionCall → Type 0
  CallFits (call ty arguments) = TypeFits ty × NodesFit arguments

  pub TypeFits : TypeExpression → Type 0
  TypeFits (type_expression name no_template) = Unit {0}
  TypeFits (type_expression name (template arguments)) = NodesFit arguments

  pub NodesFit : ExpressionNodes → Type 0
  NodesFit no_expressions = Unit {0}
  NodesFit (expression_before e es) = NodeFits e × NodesFit es

-- ---- attributes
abbrev pub ConstraintFits : TypeConstraint → Type 0
ConstraintFits t = Every TypeFits t.variants

abbrev pub AttributeFits : Attribute → Type 0
AttributeFits (with_argument name e) = NodeFits e
AttributeFits (workgroup_size w) = NodeFits w.x × IfSome w.y NodeFits × IfSome w.z NodeFits
AttributeFits (type_constraint t) = ConstraintFits t
AttributeFits (custom c) = IfSome c.arguments (Every NodeFits)
AttributeFits a = Unit {0}

abbrev pub AttributesFit : Attributes → Type 0
AttributesFit = Every (λ a. SpanFits a.span × AttributeFits a.node)

-- ---- statements
abbrev pub DeclarationFits : Declaration → Type 0
DeclarationFits d = IfSome d.ty TypeFits × IfSome d.initializer NodeFits

abbrev pub BreakIfFits : Attributed BreakIfStatement → Type 0
BreakIfFits b = AttributesFit b.attributes × NodeFits b.node.expression

abbrev pub SelectorFits : CaseSelector → Type 0
SelectorFits default_selector = Unit {0}
SelectorFits (expression_selector e) = NodeFits e

abbrev mutual
  pub StatementFits : Statement → Type 0
  StatementFits (statement attributes s) = AttributesFit attributes × UnattributedFits s

  pub UnattributedFits : UnattributedStatement → Type 0
  UnattributedFits (compound ss) = ItemsFit ss
  UnattributedFits (assignment a) = NodeFits a.lhs × NodeFits a.rhs
  UnattributedFits (increment i) = NodeFits i.expression
  UnattributedFits (decrement d) = NodeFits d.expression
  UnattributedFits (if_statement s) = IfFits s
  UnattributedFits (switch_statement s) = SwitchFits s
  UnattributedFits (loop_statement s) = LoopFits s
  UnattributedFits (for_statement s) = ForFits s
  UnattributedFits (while_statement s) = WhileFits s
  UnattributedFits (return_statement r) = IfSome r.expression NodeFits
  UnattributedFits (function_call_statement c) = CallFits c.call
  UnattributedFits (const_assert c) = NodeFits c.expression
  UnattributedFits (declaration d) = DeclarationFits d
  UnattributedFits s = Unit {0}

  pub StatementNodeFits : StatementNode → Type 0
  StatementNodeFits (statement_node s span) = SpanFits span × StatementFits s

  -- an item of a block, without attributes if it is empty
  pub ItemFits : StatementNode → Type 0
  ItemFits (statement_node s span) =
      SpanFits span × StatementFits s × (is_void s ≡ true → s ≡ unattributed void)

  pub ItemsFit : StatementNodes → Type 0
  ItemsFit no_statements = Unit {0}
  ItemsFit (statement_before s ss) = ItemFits s × ItemsFit ss

  pub CompoundFits : CompoundStatement → Type 0
  CompoundFits (compound_statement attributes ss) = AttributesFit attributes × ItemsFit ss

  pub IfFits : IfStatement → Type 0
  IfFits (if_else first others last) = IfClauseFits first × ElseIfsFit others × ElseFits last

  pub IfClauseFits : IfClause → Type 0
  IfClauseFits (if_clause e block) = NodeFits e × CompoundFits block

  pub ElseIfsFit : ElseIfClauses → Type 0
  ElseIfsFit no_else_ifs = Unit {0}
  ElseIfsFit (else_if_before c cs) = ElseIfClauseFits c × ElseIfsFit cs

  pub ElseIfClauseFits : ElseIfClause → Type 0
  ElseIfClauseFits (else_if_clause attributes e block) =
      AttributesFit attributes × NodeFits e × CompoundFits block

  pub ElseFits : MaybeElseClause → Type 0
  ElseFits no_else = Unit {0}
  ElseFits (one_else c) = ElseClauseFits c

  pub ElseClauseFits : ElseClause → Type 0
  ElseClauseFits (else_clause attributes block) = AttributesFit attributes × CompoundFits block

  pub SwitchFits : SwitchStatement → Type 0
  SwitchFits (switch e body_attributes cs) = NodeFits e × AttributesFit body_attributes × ClausesFit cs

  pub ClausesFit : SwitchClauses → Type 0
  ClausesFit no_clauses = Unit {0}
  ClausesFit (clause_before c cs) = SwitchClauseFits c × ClausesFit cs

  pub SwitchClauseFits : SwitchClause → Type 0
  SwitchClauseFits (switch_clause attributes selectors block) =
      AttributesFit attributes × Every SelectorFits selectors × CompoundFits block

  pub LoopFits : LoopStatement → Type 0
  LoopFits (repeat body last) = CompoundFits body × MaybeContinuingFits last

  pub MaybeContinuingFits : MaybeContinuing → Type 0
  MaybeContinuingFits no_continuing = Unit {0}
  MaybeContinuingFits (one_continuing c) = ContinuingFits c

  pub ContinuingFits : ContinuingStatement → Type 0
  ContinuingFits (continuing attributes body condition) =
      AttributesFit attributes × CompoundFits body × IfSome condition BreakIfFits

  pub ForFits : ForStatement → Type 0
  ForFits (repeat_for init condition update block) =
      PartFits init × IfSome condition NodeFits × PartFits update × CompoundFits block

  pub PartFits : MaybeStatement → Type 0
  PartFits no_statement = Unit {0}
  PartFits (one_statement s) = StatementNodeFits s

  pub WhileFits : WhileStatement → Type 0
  WhileFits (repeat_while e block) = NodeFits e × CompoundFits block

-- ---- modules
abbrev pub DirectiveFits : tree.GlobalDirective → Type 0
DirectiveFits d = AttributesFit d.attributes

abbrev pub MemberFits : tree.StructMember → Type 0
MemberFits m = AttributesFit m.attributes × TypeFits m.ty

abbrev pub ParameterFits : tree.FormalParameter → Type 0
ParameterFits p = AttributesFit p.attributes × TypeFits p.ty

-- what a function returns, without attributes if it is nothing
abbrev pub ResultFits : Attributes → Option TypeExpression → Type 0
ResultFits attributes None = attributes ≡ []
ResultFits attributes (Some t) = AttributesFit attributes × TypeFits t

abbrev pub FunctionFits : tree.Function → Type 0
FunctionFits f = Every ParameterFits f.parameters × ResultFits f.return_attributes f.return_type × CompoundFits f.body

abbrev pub UnattributedDeclarationFits : tree.UnattributedDeclaration → Type 0
UnattributedDeclarationFits (tree.declaration d) = DeclarationFits d
UnattributedDeclarationFits (tree.type_alias a) = TypeFits a.ty
UnattributedDeclarationFits (tree.structure s) = Every (λ m. SpanFits m.span × MemberFits m.node) s.members
UnattributedDeclarationFits (tree.function f) = FunctionFits f
UnattributedDeclarationFits (tree.const_assert c) = NodeFits c.expression
UnattributedDeclarationFits tree.void = Unit {0}

abbrev pub GlobalDeclarationFits : tree.GlobalDeclaration → Type 0
GlobalDeclarationFits d = AttributesFit d.attributes × UnattributedDeclarationFits d.node

-- a declaration of a module, without attributes if it is empty
abbrev pub GlobalItemFits : Spanned tree.GlobalDeclaration → Type 0
GlobalItemFits d = SpanFits d.span × GlobalDeclarationFits d.node
    × (units.is_void d.node ≡ true → d.node ≡ without_attributes tree.void)

abbrev pub UnitFits : tree.TranslationUnit → Type 0
UnitFits u = Every DirectiveFits u.global_directives × Every GlobalItemFits u.global_declarations

-- ---- what is said of trees
-- each that fits is the only one with its packed form, if that has fewer than 2^64 bytes
abbrev pub HaveOwnForms : {Tree : Type 0} → (Tree → Type 0) → (Tree → List ℕ) → Type 0
HaveOwnForms {Tree} Fit packed = (a b : Tree) → Fit a → Fit b → length (packed a) < 2 ^ 64
    → packed a ≡ packed b → a ≡ b

-- each that a text of fewer than 2^64 bytes derives fits
abbrev pub FitInTexts : (n : Symbol) → (Value n → Type 0) → Type 0
FitInTexts n Fit = (source : List ℕ) (v : Value n) → width source < 2 ^ 64 → IsTreeOf n source v → Fit v

-- the statement of a node
abbrev pub statement_in : StatementNode → Statement
statement_in (statement_node s span) = s

-- of those that texts of fewer than 2^64 bytes derive each is the only one with its packed form, if
-- that has fewer than 2^64 bytes; of one with its span, what has the span
abbrev pub HaveOwnFormsInTexts : {Tree : Type 0} (n : Symbol) → (Value n → Tree) → (Tree → List ℕ) → Type 0
HaveOwnFormsInTexts n tree_in packed = (one other : List ℕ) (a b : Value n)
    → width one < 2 ^ 64 → width other < 2 ^ 64 → IsTreeOf n one a → IsTreeOf n other b
    → length (packed (tree_in a)) < 2 ^ 64 → packed (tree_in a) ≡ packed (tree_in b) → tree_in a ≡ tree_in b
