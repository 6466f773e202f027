-- The grammar in the form in which one token decides.
use Rattle.std.specs.Prelude.{ℕ, List, [], ◌∷◌, Option, Some, None}
use Rattle.grammar.specs.Tokens.{Token, Span}
use Rattle.grammar.specs.Grammar.{Grammar, Grammar.empty, Grammar.token, Grammar.sequence, Grammar.choice, Grammar.mapped, Grammar.node, Grammar.checked, Grammar.symbol, Grammar.left_chain}
use Rattle.grammar.specs.Notation.{one_token, ◌then◌, ◌or◌, ◌gives◌, ◌makes◌, ◌▹◌, ◌◃◌, ◌means◌, optional, many}
use Rattle.wgsl_model.specs.Tokens.ClassTable.{SymAnd, SymAndAnd, SymArrow, SymBraceLeft, SymBraceRight, SymColon, SymComma, SymShiftRight, SymShiftLeft, SymMinusMinus, SymPlusPlus, SymOr, SymOrOr, SymParenLeft, SymParenRight, SymSemicolon, SymStar, SymXor, KwBreak, KwCase, KwContinuing, KwDefault, KwElse, KwEnable, KwFn, KwFor, KwIf, KwLoop, KwOverride, KwRequires, KwStruct, KwSwitch, KwWhile, TemplateArgsStart, TemplateArgsEnd, SymEqual, SymPeriod, SymUnderscore, KwAlias, KwConst, KwConstAssert, KwContinue, KwDiscard, KwLet, KwReturn}
use Rattle.wgsl_model.specs.Trees.Operators.{UnaryOperator.address_of, UnaryOperator.indirection, BinaryOperator, BinaryOperator.short_circuit_or, BinaryOperator.short_circuit_and, BinaryOperator.bitwise_or, BinaryOperator.bitwise_and, BinaryOperator.bitwise_xor, BinaryOperator.shift_left, BinaryOperator.shift_right, AssignmentOperator.equal}
use Rattle.wgsl_model.specs.Trees.Spanned.{Spanned, spanned}
use Rattle.wgsl_model.specs.Trees.Expressions.{ExpressionNode, Expression, TypeExpression, start_of, end_of}
use Rattle.wgsl_model.specs.Trees.Attributes.{Attributes}
use Rattle.wgsl_model.specs.Trees.Attributed.{with_attributes, without_attributes, Attributed}
use Rattle.wgsl_model.specs.Trees.Statements.{DeclarationKind, BreakIfStatement, CaseSelector, StatementNode, statement, UnattributedStatement, unattributed, statements_of, ElseIfClause, ElseClause, SwitchClause, ContinuingStatement, CompoundStatement, ConstAssert, compound_of, assignment_of, increment_of, decrement_of, call_statement_of, if_of, clause_of, switch_of, loop_of, for_of, while_of, local_of, return_of, assert_of, break_if_of, continuing_statement_of}
use Rattle.wgsl_model.specs.Trees.Units.{GlobalDirective, StructMember, FormalParameter, GlobalDeclaration, UnattributedDeclaration, UnattributedDirective}
use Rattle.wgsl_model.specs.Grammar.ExpressionParts.{placed_expression, type_of, call_of, unary_of, binary_of, multiplicative_operator, relational_operator, summand}
use Rattle.wgsl_model.specs.Grammar.StatementParts.{placed_statement, attributes, initializer, var_kind, assignment_operator, variable_at, parenthesized_at, underscore_at}
use Rattle.wgsl_model.specs.Grammar.UnitParts.{member_of, parameter_of, value_of, struct_of, function_of, enable_of, requires_of, alias_of, diagnostic_of}
use Rattle.wgsl_model.specs.Grammar.Symbols.{Dialect, Dialect.parsed, Dialect.recognized, Symbol, Symbol.ident, Symbol.type_specifier, Symbol.template_list, Symbol.expressions, Symbol.arguments, Symbol.literal, Symbol.primary_expression, Symbol.singular_expression, Symbol.component, Symbol.unary_expression, Symbol.shift_expression, Symbol.relational_expression, Symbol.expression, Symbol.lhs_expression, Symbol.compound_statement, Symbol.statement, Symbol.return_statement, Symbol.if_statement, Symbol.switch_statement, Symbol.loop_statement, Symbol.for_statement, Symbol.while_statement, Symbol.var_statement, Symbol.value_statement, Symbol.break_statement, Symbol.continue_statement, Symbol.discard_statement, Symbol.phony_assignment, Symbol.const_assert, Symbol.switch_clause, Symbol.case_selector, Symbol.continuing_statement, Symbol.for_init, Symbol.for_update, Symbol.typed_ident, Symbol.struct_member, Symbol.formal_parameter, Symbol.global_declaration, Symbol.var_declaration, Symbol.const_declaration, Symbol.override_declaration, Symbol.alias_declaration, Symbol.struct_declaration, Symbol.function_declaration, Symbol.global_directive, Symbol.enable_directive, Symbol.requires_directive, Symbol.unit, Value, Rule, Symbol.call, Symbol.call_statement, Symbol.diagnostic_severity, Symbol.diagnostic_directive}
use Rattle.wgsl_model.specs.Grammar.Written.{rules}

-- symbols beside the written ones: each is what a part of a rule reads
pub data Further : Type 0 where
  -- list(X) with the token that closes it; what may follow after a comma; what may follow after
  -- an X
  template_items template_rest template_more argument_rest argument_more member_items member_rest member_more : Further
  parameter_rest parameter_more name_items name_rest name_more : Further
  -- list(Selector)
  selectors : Further
  -- what an expression grows by
  components factors summands sum_rest relation_rest and_rest or_rest bitwise_and_rest
      bitwise_or_rest bitwise_xor_rest expression_rest : Further
  -- attributes; statements, clauses and parts of a header with the token that closes them
  attribute_list statement_rest loop_rest continuing_rest clause_rest else_rest init_part
      condition_part update_part : Further
  -- after their attributes, from their first word on: statements that end with a block, and all of
  -- these
  if_part switch_part loop_part for_part while_part block_part braced_part : Further
  -- statements that end with `;`, without it; all of these save `break`, with it
  returning_part local_part value_part phony_part simple_part ended_part : Further
  -- `const_assert` without its `;`; a clause; `continuing`
  assert_part clause_part continuing_part : Further
  -- what follows a left side; a left side that begins with `(`, and one with `*` or `&`; what
  -- follows a name
  left_side_rest left_side_in_parentheses prefixed_left_side name_rest_statement : Further
  -- what never has attributes: an assignment, increment or decrement that begins with `(`, without
  -- its `;`; such a statement with it, or an empty one
  parenthesized_statement plain_statement : Further
  -- declarations and directives after their attributes, from their first word on
  var_part override_part function_part const_part alias_part struct_part enable_part requires_part
      diagnostic_part : Further
  -- declarations that have attributes in both dialects, the others, and directives, each after its
  -- attributes
  attributed_part led_part directive_part : Further
  -- all declarations; all directives and declarations
  declaration_list front : Further

-- the symbols
pub data FactoredSymbol : Type 0 where
  of : Symbol → FactoredSymbol
  further : Further → FactoredSymbol

-- a tree that waits for its first operand
abbrev pub Growth : Type 0
Growth = ExpressionNode → ExpressionNode

-- what each further symbol derives
abbrev pub FurtherValue : Further → Type 0
FurtherValue template_items = List ExpressionNode
FurtherValue template_rest = List ExpressionNode
FurtherValue template_more = List ExpressionNode
FurtherValue argument_rest = List ExpressionNode
FurtherValue argument_more = List ExpressionNode
FurtherValue member_items = List (Spanned StructMember)
FurtherValue member_rest = List (Spanned StructMember)
FurtherValue member_more = List (Spanned StructMember)
FurtherValue parameter_rest = List FormalParameter
FurtherValue parameter_more = List FormalParameter
FurtherValue name_items = List Token
FurtherValue name_rest = List Token
FurtherValue name_more = List Token
FurtherValue selectors = List CaseSelector
FurtherValue components = Growth
FurtherValue factors = Growth
FurtherValue summands = Growth
FurtherValue sum_rest = Growth
FurtherValue relation_rest = Growth
FurtherValue and_rest = Growth
FurtherValue or_rest = Growth
FurtherValue bitwise_and_rest = Growth
FurtherValue bitwise_or_rest = Growth
FurtherValue bitwise_xor_rest = Growth
FurtherValue expression_rest = Growth
FurtherValue attribute_list = Attributes
FurtherValue statement_rest = List StatementNode
FurtherValue loop_rest = List StatementNode × Option ContinuingStatement
FurtherValue continuing_rest = List StatementNode × Option (Attributed BreakIfStatement)
FurtherValue clause_rest = List SwitchClause
FurtherValue else_rest = List ElseIfClause × Option ElseClause
FurtherValue init_part = Option StatementNode
FurtherValue condition_part = Option ExpressionNode
FurtherValue update_part = Option StatementNode
FurtherValue if_part = UnattributedStatement
FurtherValue switch_part = UnattributedStatement
FurtherValue loop_part = UnattributedStatement
FurtherValue for_part = UnattributedStatement
FurtherValue while_part = UnattributedStatement
FurtherValue block_part = UnattributedStatement
FurtherValue braced_part = UnattributedStatement
FurtherValue returning_part = UnattributedStatement
FurtherValue local_part = UnattributedStatement
FurtherValue value_part = UnattributedStatement
FurtherValue phony_part = UnattributedStatement
FurtherValue simple_part = UnattributedStatement
FurtherValue ended_part = UnattributedStatement
FurtherValue assert_part = ConstAssert
FurtherValue clause_part = List CaseSelector × CompoundStatement
FurtherValue continuing_part = CompoundStatement × Option (Attributed BreakIfStatement)
FurtherValue left_side_rest = ExpressionNode → UnattributedStatement
FurtherValue left_side_in_parentheses = ExpressionNode
FurtherValue prefixed_left_side = ExpressionNode
FurtherValue name_rest_statement = Token → UnattributedStatement
FurtherValue parenthesized_statement = UnattributedStatement
FurtherValue plain_statement = StatementNode
FurtherValue var_part = UnattributedDeclaration
FurtherValue override_part = UnattributedDeclaration
FurtherValue function_part = UnattributedDeclaration
FurtherValue const_part = UnattributedDeclaration
FurtherValue alias_part = UnattributedDeclaration
FurtherValue struct_part = UnattributedDeclaration
FurtherValue enable_part = UnattributedDirective
FurtherValue requires_part = UnattributedDirective
FurtherValue diagnostic_part = UnattributedDirective
FurtherValue attributed_part = UnattributedDeclaration
FurtherValue led_part = UnattributedDeclaration
FurtherValue directive_part = UnattributedDirective
FurtherValue declaration_list = List (Spanned GlobalDeclaration)
FurtherValue front = List GlobalDirective × List (Spanned GlobalDeclaration)

-- what each symbol derives
abbrev pub FactoredValue : FactoredSymbol → Type 0
FactoredValue (of n) = Value n
FactoredValue (further x) = FurtherValue x

-- a right side over these symbols
abbrev pub FactoredRule : Type 0 → Type 1
FactoredRule A = Grammar FactoredSymbol FactoredValue A

-- a written right side, over these symbols
abbrev pub lifted : {A : Type 0} → Rule A → FactoredRule A
lifted (empty a) = empty a
lifted (token c) = token c
lifted (sequence g h) = sequence (lifted g) (lifted h)
lifted (choice g h) = choice (lifted g) (lifted h)
lifted (mapped f g) = mapped f (lifted g)
lifted (node f g) = node f (lifted g)
lifted (checked f g) = checked f (lifted g)
lifted (symbol n) = symbol (of n)
lifted (left_chain f g h) = left_chain f (lifted g) (lifted h)

-- ---- lists
-- X, then what may follow
abbrev pub items_of : {N : Type 0} {V : N → Type 0} {A : Type 0} → Grammar N V A
    → Grammar N V (List A) → Grammar N V (List A)
items_of x more = x then more gives λ (item, items). item ∷ items

-- the token that closes the list, or its items
abbrev pub items_or_close : {N : Type 0} {V : N → Type 0} {A : Type 0} → ℕ → Grammar N V A
    → Grammar N V (List A) → Grammar N V (List A)
items_or_close close x more = close means [] or items_of x more

-- a comma and the rest, or the token that closes the list
abbrev pub more_of : {N : Type 0} {V : N → Type 0} {A : Type 0} → ℕ → Grammar N V (List A) → Grammar N V (List A)
more_of close rest = SymComma ▹ rest or close means []

-- list(X), item by item
abbrev pub listed : {N : Type 0} {V : N → Type 0} {A : Type 0} → Grammar N V A
    → Grammar N V (List A) → Grammar N V (List A)
listed x xs = x then (SymComma ▹ (xs or empty []) or empty []) gives λ (item, items). item ∷ items

-- the token that closes, or a part and then that token
abbrev pub closed_optional : {N : Type 0} {V : N → Type 0} {A : Type 0} → ℕ → Grammar N V A → Grammar N V (Option A)
closed_optional close x = close means None or x ◃ close gives λ a. Some a

-- ---- expressions, from a first operand on
-- a component and its end, after a base
abbrev pub grown_by_component : Growth → (ExpressionNode → Expression) × ℕ → Span → Growth
grown_by_component f (make, last) span base = placed_expression (make (f base))
    (record { start = start_of (f base); end = last })

-- an operator and an operand after an operand
abbrev pub with_operand : BinaryOperator × ExpressionNode → Growth
with_operand (operator, operand) left = binary_of left (operator, operand)
    (record { start = start_of left; end = end_of operand })

-- one operator and operand more
abbrev pub grown : Growth → BinaryOperator × ExpressionNode → Span → Growth
grown f p span left = with_operand p (f left)

-- no more operands
abbrev pub unchanged : {N : Type 0} {V : N → Type 0} → Grammar N V Growth
unchanged = empty (λ e. e)

-- further operands, none too; one more; one more at least
abbrev pub any_more : {N : Type 0} {V : N → Type 0} → Grammar N V (BinaryOperator × ExpressionNode) → Grammar N V Growth
any_more item = left_chain grown unchanged item

-- one operand more
abbrev pub one_more : {N : Type 0} {V : N → Type 0} → Grammar N V (BinaryOperator × ExpressionNode) → Grammar N V Growth
one_more item = item gives with_operand

-- further operands after one operator, one at least
abbrev pub some_more : {N : Type 0} {V : N → Type 0} → ℕ → BinaryOperator
    → Grammar N V ExpressionNode → Grammar N V Growth
some_more class operator x = left_chain grown (one_more (class means operator then x)) (class means operator then x)

-- a call where there are arguments, else the type alone
abbrev pub call_or_type : TypeExpression × Option (List ExpressionNode) → Expression
call_or_type (t, None) = Expression.type_or_identifier t
call_or_type (t, Some es) = Expression.function_call (call_of (t, es))

-- ---- attributes first, then the word that is after them decides
-- attributes, and what is after
abbrev pub attributes_before : {A B : Type 0} → (Attributes → A → B) → FactoredRule A → FactoredRule B
attributes_before make g = symbol (further attribute_list) then g gives λ (a, x). make a x

-- attributes; in the dialect, none
abbrev pub leading_list : Dialect → FactoredRule Attributes
leading_list parsed = symbol (further attribute_list)
leading_list recognized = empty []

-- the same, and what is after
abbrev pub leading_before : {A B : Type 0} → Dialect → (Attributes → A → B) → FactoredRule A → FactoredRule B
leading_before L make g = leading_list L then g gives λ (a, x). make a x

-- attributes, and one of two after them; the second has none in the dialect
abbrev pub either_after : {A B : Type 0} → Dialect → (Attributes → A → B) → FactoredRule A
    → FactoredRule A → FactoredRule B
either_after parsed make g h = attributes_before make (g or h)
either_after recognized make g h = attributes_before make g or leading_before recognized make h

-- a part with its place
abbrev pub with_place : {A : Type 0} → FactoredRule A → FactoredRule (A × Span)
with_place g = g makes λ v span. (v, span)

-- attributes, taken by what waits for them
abbrev pub taken_by : {B : Type 0} → Attributes → (Attributes → B) → B
taken_by a f = f a

-- attributes, and after them another part, or an item of one of two kinds and the rest; the other
-- part and the second kind have none in the dialect
abbrev pub items_after : {A R B : Type 0} → Dialect → ((A × Span) × R → Attributes → B)
    → FactoredRule A → FactoredRule A → FactoredRule R → FactoredRule (Attributes → B) → FactoredRule B
items_after parsed put g h rest other = attributes_before taken_by (other or with_place (g or h) then rest gives put)
items_after recognized put g h rest other = attributes_before taken_by (with_place g then rest gives put)
    or leading_before recognized taken_by (other or with_place h then rest gives put)

-- a place, from the first of the attributes before it on
abbrev pub begun_by : Attributes → Span → Span
begun_by [] span = span
begun_by (a ∷ more) span = record { start = a.span.start; end = span.end }

-- a statement of its attributes, and of what is after them with its place
abbrev pub statement_after : Attributes → UnattributedStatement × Span → StatementNode
statement_after a (s, span) = placed_statement (statement a s) (begun_by a span)

-- the same, before the rest of a block
abbrev pub statement_first : {E : Type 0} → (UnattributedStatement × Span) × (List StatementNode × E)
    → Attributes → List StatementNode × E
statement_first (s, (statements, last)) a = (statement_after a s ∷ statements, last)

-- a declaration of its attributes, and of what is after them with its place
abbrev pub declaration_after : Attributes → UnattributedDeclaration × Span → Spanned GlobalDeclaration
declaration_after a (d, span) = spanned (with_attributes a d) (begun_by a span)

-- the same, before further declarations
abbrev pub declaration_first : (UnattributedDeclaration × Span) × List (Spanned GlobalDeclaration)
    → Attributes → List GlobalDirective × List (Spanned GlobalDeclaration)
declaration_first (d, declarations) a = ([], declaration_after a d ∷ declarations)

-- ---- statements
-- a name as a left side, and a call of it
abbrev pub variable_of : Token → ExpressionNode
variable_of t = variable_at t (record { start = t.start; end = t.end })

-- a call of a name with a template and arguments
abbrev pub call_by_name : Token → Option (List ExpressionNode) × List ExpressionNode → UnattributedStatement
call_by_name name (template, es) = call_statement_of (call_of (type_of (name, template), es))

-- `break` with its `;`
abbrev pub break_part : FactoredRule UnattributedStatement
break_part = (KwBreak means UnattributedStatement.break_statement) ◃ SymSemicolon

-- what `break` and its `;` make in a `continuing`, before the rest of it
abbrev pub with_break : Token × (List StatementNode × Option (Attributed BreakIfStatement)) → Token
    → Attributes → List StatementNode × Option (Attributed BreakIfStatement)
with_break (semicolon, rest) b a = statement_first
    ((UnattributedStatement.break_statement, record { start = b.start; end = semicolon.end }), rest) a

-- the condition of a `break if`, which is the last in a `continuing`
abbrev pub with_condition : ExpressionNode → Token → Attributes
    → List StatementNode × Option (Attributed BreakIfStatement)
with_condition e b a = ([], Some (with_attributes a (break_if_of e)))

-- `continuing`, which is the last in a `loop`
abbrev pub with_continuing : CompoundStatement × Option (Attributed BreakIfStatement) → Attributes
    → List StatementNode × Option ContinuingStatement
with_continuing p a = ([], Some (continuing_statement_of a p))

-- a directive, before the rest of a unit
abbrev pub directive_first : UnattributedDirective × (List GlobalDirective × List (Spanned GlobalDeclaration))
    → Attributes → List GlobalDirective × List (Spanned GlobalDeclaration)
directive_first (d, (directives, declarations)) a = (with_attributes a d ∷ directives, declarations)

-- an empty declaration
abbrev pub void_declaration : FactoredRule (Spanned GlobalDeclaration)
void_declaration = SymSemicolon means without_attributes UnattributedDeclaration.void makes spanned

-- ---- the right sides of the further symbols
abbrev pub further_body : Dialect → (x : Further) → FactoredRule (FurtherValue x)
further_body L template_items = items_of (symbol (of expression)) (symbol (further template_more))
further_body L template_rest = items_or_close TemplateArgsEnd (symbol (of expression)) (symbol (further template_more))
further_body L template_more = more_of TemplateArgsEnd (symbol (further template_rest))
further_body L argument_rest = items_or_close SymParenRight (symbol (of expression)) (symbol (further argument_more))
further_body L argument_more = more_of SymParenRight (symbol (further argument_rest))
further_body L member_items = items_of (symbol (of struct_member)) (symbol (further member_more))
further_body L member_rest = items_or_close SymBraceRight (symbol (of struct_member)) (symbol (further member_more))
further_body L member_more = more_of SymBraceRight (symbol (further member_rest))
further_body L parameter_rest = items_or_close SymParenRight (symbol (of formal_parameter))
    (symbol (further parameter_more))
further_body L parameter_more = more_of SymParenRight (symbol (further parameter_rest))
further_body L name_items = items_of (symbol (of ident)) (symbol (further name_more))
further_body L name_rest = items_or_close SymSemicolon (symbol (of ident)) (symbol (further name_more))
further_body L name_more = more_of SymSemicolon (symbol (further name_rest))
further_body L selectors = listed (symbol (of case_selector)) (symbol (further selectors))
further_body L components = left_chain grown_by_component unchanged
    (symbol (of component) makes λ c span. (c, span.end))
further_body L factors = any_more (lifted multiplicative_operator then symbol (of unary_expression))
further_body L summands = any_more (lifted (summand L))
further_body L sum_rest = one_more (SymShiftLeft means shift_left then symbol (of unary_expression))
    or one_more (SymShiftRight means shift_right then symbol (of unary_expression))
    or symbol (further factors) then symbol (further summands) gives λ (product, sum) left. sum (product left)
further_body L relation_rest = one_more (lifted relational_operator then symbol (of shift_expression)) or unchanged
further_body L and_rest = some_more SymAndAnd short_circuit_and (symbol (of relational_expression))
further_body L or_rest = some_more SymOrOr short_circuit_or (symbol (of relational_expression))
further_body L bitwise_and_rest = some_more SymAnd bitwise_and (symbol (of unary_expression))
further_body L bitwise_or_rest = some_more SymOr bitwise_or (symbol (of unary_expression))
further_body L bitwise_xor_rest = some_more SymXor bitwise_xor (symbol (of unary_expression))
further_body L expression_rest = symbol (further bitwise_and_rest)
    or symbol (further bitwise_or_rest) or symbol (further bitwise_xor_rest)
    or symbol (further sum_rest) then symbol (further relation_rest) then (symbol (further and_rest)
    or symbol (further or_rest) or unchanged) gives λ (sum, (relation, more)) left. more (relation (sum left))
further_body L attribute_list = lifted attributes
further_body L statement_rest = SymBraceRight means []
    or symbol (of statement) then symbol (further statement_rest) gives λ (s, statements). s ∷ statements
further_body L loop_rest = SymBraceRight means ([], None)
    or symbol (further plain_statement) then symbol (further loop_rest)
    gives (λ (s, (statements, last)). (s ∷ statements, last))
    or items_after L statement_first (symbol (further braced_part))
    (symbol (further ended_part) or break_part) (symbol (further loop_rest))
    (symbol (further continuing_part) ◃ SymBraceRight gives with_continuing)
further_body L continuing_rest = SymBraceRight means ([], None)
    or symbol (further plain_statement) then symbol (further continuing_rest)
    gives (λ (s, (statements, last)). (s ∷ statements, last))
    or items_after L statement_first (symbol (further braced_part)) (symbol (further ended_part))
    (symbol (further continuing_rest))
    (one_token KwBreak then (one_token SymSemicolon then symbol (further continuing_rest) gives with_break
    or KwIf ▹ symbol (of expression) ◃ SymSemicolon ◃ SymBraceRight gives with_condition) gives λ (b, more). more b)
further_body L clause_rest = SymBraceRight means []
    or symbol (of switch_clause) then symbol (further clause_rest) gives λ (clause, clauses). clause ∷ clauses
further_body L else_rest =
    KwElse ▹ (KwIf ▹ symbol (of expression) then symbol (of compound_statement) then symbol (further else_rest)
    gives (λ (condition, (block, (else_ifs, last))). (ElseIfClause.else_if_clause [] condition block ∷ else_ifs, last))
    or symbol (of compound_statement) gives λ b. ([], Some (ElseClause.else_clause [] b)))
    or empty ([], None)
further_body L init_part = closed_optional SymSemicolon (symbol (of for_init))
further_body L condition_part = closed_optional SymSemicolon (symbol (of expression))
further_body L update_part = closed_optional SymParenRight (symbol (of for_update))
further_body L if_part =
    KwIf ▹ symbol (of expression) then symbol (of compound_statement) then symbol (further else_rest)
    gives λ (condition, (block, elses)). if_of condition block elses
further_body L switch_part = KwSwitch ▹ symbol (of expression) then symbol (further attribute_list)
    then SymBraceLeft ▹ symbol (of switch_clause) then symbol (further clause_rest)
    gives λ (selected, (body_attributes, (clause, clauses))). switch_of selected body_attributes (clause ∷ clauses)
further_body L loop_part =
    KwLoop ▹ symbol (further attribute_list) then SymBraceLeft ▹ symbol (further loop_rest)
    gives λ (body_attributes, (body, continuing)). loop_of body_attributes body continuing
further_body L for_part =
    KwFor ▹ SymParenLeft ▹ symbol (further init_part) then symbol (further condition_part)
    then symbol (further update_part) then symbol (of compound_statement)
    gives λ (init, (condition, (update, block))). for_of init condition update block
further_body L while_part = KwWhile ▹ symbol (of expression) then symbol (of compound_statement)
    gives λ (condition, block). while_of condition block
further_body L block_part = SymBraceLeft ▹ symbol (further statement_rest)
    gives λ ss. UnattributedStatement.compound (statements_of ss)
further_body L braced_part = symbol (further if_part) or symbol (further switch_part)
    or symbol (further loop_part) or symbol (further for_part) or symbol (further while_part)
    or symbol (further block_part)
further_body L returning_part = KwReturn ▹ optional (symbol (of expression)) gives return_of
further_body L local_part = lifted var_kind then symbol (of typed_ident) then optional (lifted initializer)
    gives λ (kind, (typed, value)). local_of kind typed value
further_body L value_part =
    (KwLet means DeclarationKind.let_kind or KwConst means DeclarationKind.const_kind)
    then symbol (of typed_ident) then lifted initializer
    gives λ (kind, (typed, value)). local_of kind typed (Some value)
further_body L phony_part = (one_token SymUnderscore makes underscore_at) then lifted initializer
    gives λ (left, right). assignment_of left equal right
further_body L simple_part =
    symbol (of ident) then symbol (further name_rest_statement) gives (λ (name, rest). rest name)
    or symbol (further prefixed_left_side) then symbol (further left_side_rest) gives (λ (left, rest). rest left)
    or symbol (further phony_part)
further_body L ended_part = (symbol (further returning_part)
    or symbol (further local_part)
    or symbol (further value_part)
    or KwContinue means UnattributedStatement.continue_statement
    or KwDiscard means UnattributedStatement.discard_statement
    or symbol (further simple_part)
    or symbol (further assert_part) gives UnattributedStatement.const_assert) ◃ SymSemicolon
further_body L assert_part = KwConstAssert ▹ symbol (of expression) gives assert_of
further_body L clause_part = KwCase ▹ symbol (further selectors) then optional (one_token SymColon)
    then symbol (of compound_statement) gives (λ (cases, (colon, block)). (cases, block))
    or KwDefault ▹ optional (one_token SymColon) then symbol (of compound_statement)
    gives λ (colon, block). (CaseSelector.default_selector ∷ [], block)
further_body L continuing_part =
    KwContinuing ▹ symbol (further attribute_list) then SymBraceLeft ▹ symbol (further continuing_rest)
    gives λ (body_attributes, (body, break_if)). (compound_of body_attributes body, break_if)
further_body L left_side_rest = lifted assignment_operator then symbol (of expression)
    gives (λ (operator, right) left. assignment_of left operator right)
    or SymPlusPlus means increment_of or SymMinusMinus means decrement_of
further_body L left_side_in_parentheses =
    (SymParenLeft ▹ symbol (of lhs_expression) ◃ SymParenRight makes parenthesized_at)
    then symbol (further components) gives λ (left, growth). growth left
further_body L prefixed_left_side = SymStar means indirection then symbol (of lhs_expression) makes unary_of
    or SymAnd means address_of then symbol (of lhs_expression) makes unary_of
further_body L name_rest_statement = optional (symbol (of template_list)) then symbol (of arguments)
    gives (λ called name. call_by_name name called)
    or symbol (further components) then symbol (further left_side_rest)
    gives λ (growth, rest) name. rest (growth (variable_of name))
further_body L parenthesized_statement =
    symbol (further left_side_in_parentheses) then symbol (further left_side_rest)
    gives λ (left, rest). rest left
further_body L plain_statement = (SymSemicolon means unattributed UnattributedStatement.void
    or symbol (further parenthesized_statement) ◃ SymSemicolon gives unattributed) makes placed_statement
further_body L var_part =
    lifted var_kind then symbol (of typed_ident) then optional (lifted initializer) ◃ SymSemicolon
    gives λ (kind, (typed, value)). value_of kind typed value
further_body L override_part =
    KwOverride ▹ symbol (of typed_ident) then optional (lifted initializer) ◃ SymSemicolon
    gives λ (typed, value). value_of DeclarationKind.override_kind typed value
further_body L function_part =
    KwFn ▹ symbol (of ident) then SymParenLeft ▹ symbol (further parameter_rest) then optional (SymArrow
    ▹ symbol (further attribute_list) then symbol (of type_specifier)) then symbol (of compound_statement)
    gives λ (name, (parameters, (returned, block))). function_of name parameters returned block
further_body L const_part = KwConst ▹ symbol (of typed_ident) then lifted initializer ◃ SymSemicolon
    gives λ (typed, value). value_of DeclarationKind.const_kind typed (Some value)
further_body L alias_part =
    KwAlias ▹ symbol (of ident) then SymEqual ▹ symbol (of type_specifier) ◃ SymSemicolon gives alias_of
further_body L struct_part =
    KwStruct ▹ symbol (of ident) then SymBraceLeft ▹ symbol (further member_items) gives struct_of
further_body L enable_part = KwEnable ▹ symbol (further name_items) gives enable_of
further_body L requires_part = KwRequires ▹ symbol (further name_items) gives requires_of
further_body L diagnostic_part = symbol (of diagnostic_severity) ◃ SymComma then symbol (of ident)
    then optional (SymPeriod ▹ symbol (of ident)) then optional (one_token SymComma) ◃ SymParenRight ◃ SymSemicolon
    gives λ (severity, (first, (second, comma))). diagnostic_of severity first second
further_body L attributed_part = symbol (further var_part) or symbol (further override_part)
    or symbol (further function_part)
further_body L led_part = symbol (further const_part) or symbol (further alias_part)
    or symbol (further struct_part)
    or symbol (further assert_part) ◃ SymSemicolon gives UnattributedDeclaration.const_assert
further_body L directive_part = symbol (further enable_part) or symbol (further requires_part)
    or symbol (further diagnostic_part)
further_body L declaration_list = many (symbol (of global_declaration))
further_body L front =
    void_declaration then symbol (further declaration_list) gives (λ (d, declarations). ([], d ∷ declarations))
    or items_after L declaration_first (symbol (further attributed_part))
    (symbol (further led_part)) (symbol (further declaration_list))
    (symbol (further directive_part) then symbol (further front) gives directive_first)
    or empty ([], [])

-- ---- the rules that differ; what is not named here is as written
abbrev pub factored : Dialect → (n : FactoredSymbol) → FactoredRule (FactoredValue n)
factored L (further x) = further_body L x
factored L (of template_list) = TemplateArgsStart ▹ symbol (further template_items)
factored L (of expressions) = listed (symbol (of expression)) (symbol (of expressions))
factored L (of arguments) = SymParenLeft ▹ symbol (further argument_rest)
factored L (of primary_expression) =
    (symbol (of type_specifier) then optional (symbol (of arguments)) gives call_or_type
    or symbol (of literal) gives Expression.literal or SymParenLeft
    ▹ symbol (of expression) ◃ SymParenRight gives Expression.parenthesized) makes placed_expression
factored L (of singular_expression) = symbol (of primary_expression) then symbol (further components)
    gives λ (first, growth). growth first
factored L (of shift_expression) = symbol (of unary_expression) then symbol (further sum_rest)
    gives λ (first, growth). growth first
factored L (of relational_expression) = symbol (of shift_expression) then symbol (further relation_rest)
    gives λ (first, growth). growth first
factored L (of expression) = symbol (of unary_expression) then symbol (further expression_rest)
    gives λ (first, growth). growth first
factored L (of lhs_expression) =
    (symbol (of ident) makes variable_at) then symbol (further components) gives (λ (left, growth). growth left)
    or symbol (further prefixed_left_side) or symbol (further left_side_in_parentheses)
factored L (of compound_statement) = attributes_before compound_of (SymBraceLeft ▹ symbol (further statement_rest))
factored L (of statement) = symbol (further plain_statement) or either_after L statement
    (symbol (further braced_part)) (symbol (further ended_part) or break_part) makes placed_statement
factored L (of return_statement) = leading_before L statement (symbol (further returning_part))
factored L (of if_statement) = attributes_before statement (symbol (further if_part))
factored L (of switch_statement) = attributes_before statement (symbol (further switch_part))
factored L (of loop_statement) = attributes_before statement (symbol (further loop_part))
factored L (of for_statement) = attributes_before statement (symbol (further for_part))
factored L (of while_statement) = attributes_before statement (symbol (further while_part))
factored L (of call_statement) = leading_before L statement (symbol (of call) gives call_statement_of)
factored L (of var_statement) = leading_before L statement (symbol (further local_part))
factored L (of value_statement) = leading_before L statement (symbol (further value_part))
factored L (of break_statement) = leading_before L statement (KwBreak means UnattributedStatement.break_statement)
factored L (of continue_statement) = leading_before L statement
    (KwContinue means UnattributedStatement.continue_statement)
factored L (of discard_statement) = leading_before L statement (KwDiscard means UnattributedStatement.discard_statement)
factored L (of phony_assignment) = leading_before L statement (symbol (further phony_part))
factored L (of const_assert) = leading_before L with_attributes (symbol (further assert_part))
factored L (of switch_clause) = leading_before L clause_of (symbol (further clause_part))
factored L (of continuing_statement) = leading_before L continuing_statement_of (symbol (further continuing_part))
factored L (of for_init) = (symbol (further parenthesized_statement) gives unattributed
    or leading_before L statement (symbol (further local_part) or symbol (further value_part)
    or symbol (further simple_part))) makes placed_statement
factored L (of for_update) = (symbol (further parenthesized_statement) gives unattributed
    or leading_before L statement (symbol (further simple_part))) makes placed_statement
factored L (of struct_member) =
    symbol (further attribute_list) then symbol (of ident) ◃ SymColon then symbol (of type_specifier)
    makes member_of
factored L (of formal_parameter) =
    symbol (further attribute_list) then symbol (of ident) ◃ SymColon then symbol (of type_specifier)
    gives parameter_of
factored L (of global_declaration) = void_declaration
    or either_after L with_attributes (symbol (further attributed_part)) (symbol (further led_part)) makes spanned
factored L (of var_declaration) = attributes_before with_attributes (symbol (further var_part))
factored L (of const_declaration) = leading_before L with_attributes (symbol (further const_part))
factored L (of override_declaration) = attributes_before with_attributes (symbol (further override_part))
factored L (of alias_declaration) = leading_before L with_attributes (symbol (further alias_part))
factored L (of struct_declaration) = leading_before L with_attributes (symbol (further struct_part))
factored L (of function_declaration) = attributes_before with_attributes (symbol (further function_part))
factored L (of global_directive) = leading_before L with_attributes (symbol (further directive_part))
factored L (of enable_directive) = leading_before L with_attributes (symbol (further enable_part))
factored L (of requires_directive) = leading_before L with_attributes (symbol (further requires_part))
factored L (of diagnostic_directive) = leading_before L with_attributes (symbol (further diagnostic_part))
factored L (of unit) = symbol (further front) gives λ (directives, declarations).
    record { global_directives = directives; global_declarations = declarations }
factored L (of n) = lifted (rules L n)

-- those of the whole language
abbrev pub body : (n : FactoredSymbol) → FactoredRule (FactoredValue n)
body = factored parsed

-- those of the dialect
abbrev pub small_body : (n : FactoredSymbol) → FactoredRule (FactoredValue n)
small_body = factored recognized
