-- Statements and modules with their spans set aside.
use Rattle.std.specs.Prelude.{false, map}
use Rattle.std.specs.Option.{option_map}
use Rattle.wgsl_model.specs.Trees.Attributed.{Attributed}
use Rattle.wgsl_model.specs.Trees.Statements.{Declaration, AssignmentStatement, IncrementStatement, DecrementStatement, ReturnStatement, FunctionCallStatement, ConstAssert, BreakIfStatement, CaseSelector, default_selector, expression_selector, assignment, increment, decrement, return_statement, function_call_statement, const_assert, declaration, Statement, UnattributedStatement, StatementNode, StatementNodes, CompoundStatement, IfClause, ElseIfClause, ElseIfClauses, ElseClause, MaybeElseClause, SwitchClauses, SwitchClause, MaybeContinuing, ContinuingStatement, MaybeStatement, Change, changed_statement, changed_unattributed, changed_node, changed_statements, changed_compound, changed_if_clause, changed_else_if_clause, changed_else_ifs, changed_else_clause, changed_else, changed_clauses, changed_switch_clause, changed_maybe_continuing, changed_continuing, changed_part}
use Rattle.wgsl_model.specs.Trees.Units.{TypeAlias, StructMember, Struct, FormalParameter, Function, GlobalDirective, GlobalDeclaration, UnattributedDeclaration, UnattributedDeclaration.declaration, UnattributedDeclaration.type_alias, UnattributedDeclaration.structure, UnattributedDeclaration.function, UnattributedDeclaration.const_assert, TranslationUnit}
use Rattle.wgsl_model.specs.Trees.WithoutSpans.{no_span, bare_spanned, bare_expression_node, bare_call, bare_type, bare_attributes}

-- a node after its attributes
abbrev pub bare_attributed : {Node : Type 0} → (Node → Node) → Attributed Node → Attributed Node
bare_attributed bare a = record { attributes = bare_attributes a.attributes; node = bare a.node }

abbrev pub bare_declaration : Declaration → Declaration
bare_declaration d =
    record d { ty = option_map bare_type d.ty; initializer = option_map bare_expression_node d.initializer }

abbrev pub bare_assignment : AssignmentStatement → AssignmentStatement
bare_assignment a = record a { lhs = bare_expression_node a.lhs; rhs = bare_expression_node a.rhs }

abbrev pub bare_increment : IncrementStatement → IncrementStatement
bare_increment i = record { expression = bare_expression_node i.expression }

abbrev pub bare_decrement : DecrementStatement → DecrementStatement
bare_decrement d = record { expression = bare_expression_node d.expression }

abbrev pub bare_return : ReturnStatement → ReturnStatement
bare_return r = record { expression = option_map bare_expression_node r.expression }

abbrev pub bare_call_statement : FunctionCallStatement → FunctionCallStatement
bare_call_statement c = record { call = bare_call c.call }

abbrev pub bare_assert : ConstAssert → ConstAssert
bare_assert c = record { expression = bare_expression_node c.expression }

abbrev pub bare_break_if : BreakIfStatement → BreakIfStatement
bare_break_if b = record { expression = bare_expression_node b.expression }

abbrev pub bare_selector : CaseSelector → CaseSelector
bare_selector default_selector = default_selector
bare_selector (expression_selector e) = expression_selector (bare_expression_node e)

-- a statement in which no others are
abbrev pub bare_simple : UnattributedStatement → UnattributedStatement
bare_simple (assignment a) = assignment (bare_assignment a)
bare_simple (increment i) = increment (bare_increment i)
bare_simple (decrement d) = decrement (bare_decrement d)
bare_simple (return_statement r) = return_statement (bare_return r)
bare_simple (function_call_statement c) = function_call_statement (bare_call_statement c)
bare_simple (const_assert c) = const_assert (bare_assert c)
bare_simple (declaration d) = declaration (bare_declaration d)
bare_simple s = s

-- the change that sets every span aside
abbrev pub without_spans : Change
without_spans = record {
  attributes = bare_attributes;
  expression = bare_expression_node;
  condition = option_map bare_expression_node;
  selectors = map bare_selector;
  break_if = option_map (bare_attributed bare_break_if);
  simple = bare_simple;
  span = λ span. no_span;
  leaves_out = λ s. false;
}

-- statements and their parts
abbrev pub bare_statement : Statement → Statement
bare_statement = changed_statement without_spans

abbrev pub bare_unattributed : UnattributedStatement → UnattributedStatement
bare_unattributed = changed_unattributed without_spans

abbrev pub bare_statement_node : StatementNode → StatementNode
bare_statement_node = changed_node without_spans

abbrev pub bare_statements : StatementNodes → StatementNodes
bare_statements = changed_statements without_spans

abbrev pub bare_compound : CompoundStatement → CompoundStatement
bare_compound = changed_compound without_spans

abbrev pub bare_if_clause : IfClause → IfClause
bare_if_clause = changed_if_clause without_spans

abbrev pub bare_else_if_clause : ElseIfClause → ElseIfClause
bare_else_if_clause = changed_else_if_clause without_spans

abbrev pub bare_else_ifs : ElseIfClauses → ElseIfClauses
bare_else_ifs = changed_else_ifs without_spans

abbrev pub bare_else_clause : ElseClause → ElseClause
bare_else_clause = changed_else_clause without_spans

abbrev pub bare_else : MaybeElseClause → MaybeElseClause
bare_else = changed_else without_spans

abbrev pub bare_clauses : SwitchClauses → SwitchClauses
bare_clauses = changed_clauses without_spans

abbrev pub bare_switch_clause : SwitchClause → SwitchClause
bare_switch_clause = changed_switch_clause without_spans

abbrev pub bare_maybe_continuing : MaybeContinuing → MaybeContinuing
bare_maybe_continuing = changed_maybe_continuing without_spans

abbrev pub bare_continuing : ContinuingStatement → ContinuingStatement
bare_continuing = changed_continuing without_spans

abbrev pub bare_part : MaybeStatement → MaybeStatement
bare_part = changed_part without_spans

-- directives of modules, in which nothing else has a span
abbrev pub bare_directive : GlobalDirective → GlobalDirective
bare_directive = bare_attributed (λ d. d)

-- declarations of modules, and modules
abbrev pub bare_type_alias : TypeAlias → TypeAlias
bare_type_alias a = record a { ty = bare_type a.ty }

abbrev pub bare_member : StructMember → StructMember
bare_member m = record m { attributes = bare_attributes m.attributes; ty = bare_type m.ty }

abbrev pub bare_struct : Struct → Struct
bare_struct s = record s { members = map (bare_spanned bare_member) s.members }

abbrev pub bare_parameter : FormalParameter → FormalParameter
bare_parameter p = record p { attributes = bare_attributes p.attributes; ty = bare_type p.ty }

abbrev pub bare_function : Function → Function
bare_function f = record f {
  parameters = map bare_parameter f.parameters;
  return_attributes = bare_attributes f.return_attributes;
  return_type = option_map bare_type f.return_type;
  body = bare_compound f.body;
}

abbrev pub bare_unattributed_declaration : UnattributedDeclaration → UnattributedDeclaration
bare_unattributed_declaration (declaration d) = declaration (bare_declaration d)
bare_unattributed_declaration (type_alias a) = type_alias (bare_type_alias a)
bare_unattributed_declaration (structure s) = structure (bare_struct s)
bare_unattributed_declaration (function f) = function (bare_function f)
bare_unattributed_declaration (const_assert c) = const_assert (bare_assert c)
bare_unattributed_declaration d = d

abbrev pub bare_global_declaration : GlobalDeclaration → GlobalDeclaration
bare_global_declaration = bare_attributed bare_unattributed_declaration

abbrev pub bare_unit : TranslationUnit → TranslationUnit
bare_unit u = record {
  global_directives = map bare_directive u.global_directives;
  global_declarations = map (bare_spanned bare_global_declaration) u.global_declarations;
}
