-- Trees without the empty items of their lists. An empty item is a `;` alone where a statement or a
-- declaration may be (`void`). One that is itself the value, or the part of a `for` header,
-- stays.
use Rattle.std.specs.Prelude.{Bool, List, [], ◌∷◌, if◌then◌else◌}
use Rattle.wgsl_model.specs.Trees.Spanned.{Spanned}
use Rattle.wgsl_model.specs.Trees.Attributed.{Attributed}
use Rattle.wgsl_model.specs.Trees.Statements.{StatementNode, statement_node, Statement, UnattributedStatement, StatementNodes, CompoundStatement, IfStatement, IfClause, ElseIfClause, ElseIfClauses, ElseClause, MaybeElseClause, SwitchStatement, SwitchClauses, SwitchClause, MaybeContinuing, ContinuingStatement, MaybeStatement, Change, changed_statement, changed_unattributed, changed_statements, changed_compound, changed_if, changed_if_clause, changed_else_if_clause, changed_else_ifs, changed_else_clause, changed_else, changed_switch, changed_clauses, changed_switch_clause, changed_maybe_continuing, changed_continuing, changed_part}
use Rattle.wgsl_model.specs.Trees.Units.{Function, GlobalDeclaration, UnattributedDeclaration, UnattributedDeclaration.function, TranslationUnit}
use Rattle.wgsl_model.specs.Printed.Statements as statements
use Rattle.wgsl_model.specs.Printed.Units as units

-- a node after its attributes
abbrev pub full_attributed : {Node : Type 0} → (Node → Node) → Attributed Node → Attributed Node
full_attributed full a = record a { node = full a.node }

-- the node of an empty statement
abbrev pub is_void_node : StatementNode → Bool
is_void_node (statement_node s span) = statements.is_void s

-- the change that leaves empty statements out of lists, and all else as it is
abbrev pub without_empty : Change
without_empty = record {
  attributes = λ attributes. attributes;
  expression = λ e. e;
  condition = λ e. e;
  selectors = λ selectors. selectors;
  break_if = λ b. b;
  simple = λ s. s;
  span = λ span. span;
  leaves_out = is_void_node;
}

-- statements and their parts
abbrev pub full_statement : Statement → Statement
full_statement = changed_statement without_empty

abbrev pub full_unattributed : UnattributedStatement → UnattributedStatement
full_unattributed = changed_unattributed without_empty

abbrev pub full_statements : StatementNodes → StatementNodes
full_statements = changed_statements without_empty

abbrev pub full_compound : CompoundStatement → CompoundStatement
full_compound = changed_compound without_empty

abbrev pub full_if : IfStatement → IfStatement
full_if = changed_if without_empty

abbrev pub full_if_clause : IfClause → IfClause
full_if_clause = changed_if_clause without_empty

abbrev pub full_else_if_clause : ElseIfClause → ElseIfClause
full_else_if_clause = changed_else_if_clause without_empty

abbrev pub full_else_ifs : ElseIfClauses → ElseIfClauses
full_else_ifs = changed_else_ifs without_empty

abbrev pub full_else_clause : ElseClause → ElseClause
full_else_clause = changed_else_clause without_empty

abbrev pub full_else : MaybeElseClause → MaybeElseClause
full_else = changed_else without_empty

abbrev pub full_switch : SwitchStatement → SwitchStatement
full_switch = changed_switch without_empty

abbrev pub full_clauses : SwitchClauses → SwitchClauses
full_clauses = changed_clauses without_empty

abbrev pub full_switch_clause : SwitchClause → SwitchClause
full_switch_clause = changed_switch_clause without_empty

abbrev pub full_maybe_continuing : MaybeContinuing → MaybeContinuing
full_maybe_continuing = changed_maybe_continuing without_empty

abbrev pub full_continuing : ContinuingStatement → ContinuingStatement
full_continuing = changed_continuing without_empty

abbrev pub full_part : MaybeStatement → MaybeStatement
full_part = changed_part without_empty

-- declarations of modules, and modules
abbrev pub full_function : Function → Function
full_function f = record f { body = full_compound f.body }

abbrev pub full_unattributed_declaration : UnattributedDeclaration → UnattributedDeclaration
full_unattributed_declaration (function f) = function (full_function f)
full_unattributed_declaration d = d

abbrev pub full_declaration : GlobalDeclaration → GlobalDeclaration
full_declaration = full_attributed full_unattributed_declaration

-- the declarations that are not empty
abbrev pub full_declarations : List (Spanned GlobalDeclaration) → List (Spanned GlobalDeclaration)
full_declarations [] = []
full_declarations (d ∷ ds) = if units.is_void d.node then full_declarations ds
    else record d { node = full_declaration d.node } ∷ full_declarations ds

abbrev pub full_unit : TranslationUnit → TranslationUnit
full_unit u = record u { global_declarations = full_declarations u.global_declarations }
