-- The uses, declarations and scopes of each node. No use is a name after `.`, the name of a member
-- or of an attribute, or a word that has its meaning from where it is, as in `@builtin`.
use Rattle.std.specs.Prelude.{ℕ, List, [], ◌∷◌, Option, Some, None}
use Rattle.wgsl_model.specs.Trees.Spanned.{Spanned}
use Rattle.wgsl_model.specs.Trees.NamedValues.{AddressSpace, AccessMode, address_space_text, access_mode_text}
use Rattle.wgsl_model.specs.Trees.Expressions.{ExpressionNode, expression_node, Expression, literal, parenthesized, named_component, indexing, unary, binary, function_call, type_or_identifier, FunctionCall, call, TypeExpression, type_expression, ExpressionNodes, no_expressions, expression_before, TemplateArguments, no_template, template}
use Rattle.wgsl_model.specs.Trees.Attributes.{Attribute, with_argument, without_argument, if_attribute, elif_attribute, else_attribute, workgroup_size, type_constraint, custom, Attributes}
use Rattle.wgsl_model.specs.Trees.Attributed.{Attributed}
use Rattle.wgsl_model.specs.Trees.Statements as tree
use Rattle.wgsl_model.specs.Trees.Units as unit
use Rattle.wgsl_model_names.specs.Scopes.{Names, nothing, used, unknown, declared, alternative, ◌then◌, scope, Branch, under_if, under_elif, under_else, under_several, Referent, referents_of}

-- what there may be, and what is in a list
abbrev pub maybe : {A : Type 0} → (A → Names) → Option A → Names
maybe names None = nothing
maybe names (Some x) = names x

abbrev pub each : {A : Type 0} → (A → Names) → List A → Names
each names [] = nothing
each names (x ∷ xs) = names x then each names xs

-- ---- expressions and types
-- the names of an expression, each as one kind: a use, or not known
abbrev mutual
  pub names_in_expression : (List ℕ → Names) → Expression → Names
  names_in_expression kind (literal l) = nothing
  names_in_expression kind (parenthesized e) = names_in kind e
  names_in_expression kind (named_component base component) = names_in kind base
  names_in_expression kind (indexing base index) = names_in kind base then names_in kind index
  names_in_expression kind (unary operator operand) = names_in kind operand
  names_in_expression kind (binary operator left right) = names_in kind left then names_in kind right
  names_in_expression kind (function_call c) = names_in_call kind c
  names_in_expression kind (type_or_identifier t) = names_in_type kind t

  pub names_in : (List ℕ → Names) → ExpressionNode → Names
  names_in kind (expression_node e span) = names_in_expression kind e

  pub names_in_all : (List ℕ → Names) → ExpressionNodes → Names
  names_in_all kind no_expressions = nothing
  names_in_all kind (expression_before e es) = names_in kind e then names_in_all kind es

  pub names_in_call : (List ℕ → Names) → FunctionCall → Names
  names_in_call kind (call ty arguments) = names_in_type kind ty then names_in_all kind arguments

  pub names_in_type : (List ℕ → Names) → TypeExpression → Names
  names_in_type kind (type_expression name arguments) = kind name then names_in_template kind arguments

  pub names_in_template : (List ℕ → Names) → TemplateArguments → Names
  names_in_template kind no_template = nothing
  names_in_template kind (template arguments) = names_in_all kind arguments

abbrev pub node_names : ExpressionNode → Names
node_names = names_in used

abbrev pub call_names : FunctionCall → Names
call_names = names_in_call used

abbrev pub type_names : TypeExpression → Names
type_names = names_in_type used

-- ---- attributes
-- What the names in the arguments of `@if` and `@elif` refer to is not known, nor of those in the
-- arguments of an attribute that the language does not know.
abbrev pub attribute_names : Attribute → Names
attribute_names (with_argument if_attribute e) = names_in unknown e
attribute_names (with_argument elif_attribute e) = names_in unknown e
attribute_names (with_argument name e) = node_names e
attribute_names (workgroup_size w) = node_names w.x then maybe node_names w.y then maybe node_names w.z
attribute_names (type_constraint t) = used t.ident then each type_names t.variants
attribute_names (custom c) = maybe (each (names_in unknown)) c.arguments
attribute_names a = nothing

abbrev pub spanned_attribute_names : Spanned Attribute → Names
spanned_attribute_names a = attribute_names a.node

abbrev pub attributes_names : Attributes → Names
attributes_names = each spanned_attribute_names

-- the condition that an attribute states
abbrev pub branch_of : Attribute → Option Branch
branch_of (with_argument if_attribute e) = Some under_if
branch_of (with_argument elif_attribute e) = Some under_elif
branch_of (without_argument else_attribute) = Some under_else
branch_of a = None

-- one condition and others
abbrev pub both_branches : Option Branch → Option Branch → Option Branch
both_branches None others = others
both_branches (Some branch) None = Some branch
both_branches (Some branch) (Some others) = Some under_several

-- the condition under which a node with these attributes is there
abbrev pub branch_under : Attributes → Option Branch
branch_under [] = None
branch_under (a ∷ more) = both_branches (branch_of a.node) (branch_under more)

-- what is declared under a condition, or always
abbrev pub declared_in : Option Branch → Option (List ℕ) → Names
declared_in None None = nothing
declared_in None (Some x) = declared x
declared_in (Some branch) name = alternative branch name

-- what a node with these attributes declares
abbrev pub declared_under : Attributes → Option (List ℕ) → Names
declared_under attributes name = declared_in (branch_under attributes) name

-- ---- statements
-- the address space and the access mode of a `var` are uses
abbrev pub space_names : AddressSpace → Names
space_names space = used (address_space_text space)

abbrev pub mode_names : AccessMode → Names
mode_names mode = used (access_mode_text mode)

abbrev pub kind_names : tree.DeclarationKind → Names
kind_names (tree.var_kind (Some (space, mode))) = space_names space then maybe mode_names mode
kind_names kind = nothing

-- the names in the declaration of a value, but the one that it declares
abbrev pub value_names : tree.Declaration → Names
value_names d = kind_names d.kind then maybe type_names d.ty then maybe node_names d.initializer

abbrev pub selector_names : tree.CaseSelector → Names
selector_names tree.default_selector = nothing
selector_names (tree.expression_selector e) = node_names e

abbrev pub break_if_names : Attributed tree.BreakIfStatement → Names
break_if_names b = attributes_names b.attributes then node_names b.node.expression

-- the name that a statement declares
abbrev pub name_declared : tree.UnattributedStatement → Option (List ℕ)
name_declared (tree.declaration d) = Some d.ident
name_declared s = None

abbrev mutual
  -- a declaration is in scope after its end
  pub statement_names : tree.Statement → Names
  statement_names (tree.statement attributes s) =
      attributes_names attributes then unattributed_names s then declared_under attributes (name_declared s)

  pub statement_node_names : tree.StatementNode → Names
  statement_node_names (tree.statement_node s span) = statement_names s

  pub unattributed_names : tree.UnattributedStatement → Names
  unattributed_names (tree.compound ss) = scope (statements_names ss)
  unattributed_names (tree.assignment a) = node_names a.lhs then node_names a.rhs
  unattributed_names (tree.increment s) = node_names s.expression
  unattributed_names (tree.decrement s) = node_names s.expression
  unattributed_names (tree.if_statement s) = if_names s
  unattributed_names (tree.switch_statement s) = switch_names s
  unattributed_names (tree.loop_statement s) = loop_names s
  unattributed_names (tree.for_statement s) = for_names s
  unattributed_names (tree.while_statement s) = while_names s
  unattributed_names (tree.return_statement s) = maybe node_names s.expression
  unattributed_names (tree.function_call_statement s) = call_names s.call
  unattributed_names (tree.const_assert s) = node_names s.expression
  unattributed_names (tree.declaration d) = value_names d
  unattributed_names s = nothing

  pub compound_names : tree.CompoundStatement → Names
  compound_names (tree.compound_statement attributes ss) = attributes_names attributes then scope (statements_names ss)

  pub if_names : tree.IfStatement → Names
  if_names (tree.if_else clause others last) = if_clause_names clause then else_ifs_names others then else_names last

  pub if_clause_names : tree.IfClause → Names
  if_clause_names (tree.if_clause condition body) = node_names condition then compound_names body

  pub else_if_clause_names : tree.ElseIfClause → Names
  else_if_clause_names (tree.else_if_clause attributes condition body) =
      attributes_names attributes then node_names condition then compound_names body

  pub else_clause_names : tree.ElseClause → Names
  else_clause_names (tree.else_clause attributes body) = attributes_names attributes then compound_names body

  pub switch_names : tree.SwitchStatement → Names
  switch_names (tree.switch e attributes clauses) =
      node_names e then attributes_names attributes then clauses_names clauses

  pub switch_clause_names : tree.SwitchClause → Names
  switch_clause_names (tree.switch_clause attributes selectors body) =
      attributes_names attributes then each selector_names selectors then compound_names body

  -- what the body declares is in scope in `continuing`
  pub loop_names : tree.LoopStatement → Names
  loop_names (tree.repeat (tree.compound_statement attributes ss) last) =
      attributes_names attributes then scope (statements_names ss then maybe_continuing_names last)

  -- what `continuing` declares is in scope in its `break if`
  pub continuing_names : tree.ContinuingStatement → Names
  continuing_names (tree.continuing attributes (tree.compound_statement block_attributes ss) break_if) =
      attributes_names attributes then attributes_names block_attributes
      then scope (statements_names ss then maybe break_if_names break_if)

  -- what the header declares is in scope in the rest of the header and in the body
  pub for_names : tree.ForStatement → Names
  for_names (tree.repeat_for initializer condition update body) = scope (part_names initializer
      then maybe node_names condition then part_names update then compound_names body)

  pub while_names : tree.WhileStatement → Names
  while_names (tree.repeat_while condition body) = node_names condition then compound_names body

  pub statements_names : tree.StatementNodes → Names
  statements_names tree.no_statements = nothing
  statements_names (tree.statement_before s ss) = statement_node_names s then statements_names ss

  pub part_names : tree.MaybeStatement → Names
  part_names tree.no_statement = nothing
  part_names (tree.one_statement s) = statement_node_names s

  pub else_ifs_names : tree.ElseIfClauses → Names
  else_ifs_names tree.no_else_ifs = nothing
  else_ifs_names (tree.else_if_before c cs) = else_if_clause_names c then else_ifs_names cs

  pub else_names : tree.MaybeElseClause → Names
  else_names tree.no_else = nothing
  else_names (tree.one_else c) = else_clause_names c

  pub clauses_names : tree.SwitchClauses → Names
  clauses_names tree.no_clauses = nothing
  clauses_names (tree.clause_before c cs) = switch_clause_names c then clauses_names cs

  pub maybe_continuing_names : tree.MaybeContinuing → Names
  maybe_continuing_names tree.no_continuing = nothing
  maybe_continuing_names (tree.one_continuing c) = continuing_names c

-- ---- modules
abbrev pub member_names : Spanned unit.StructMember → Names
member_names m = attributes_names m.node.attributes then type_names m.node.ty

abbrev pub parameter_names : unit.FormalParameter → Names
parameter_names p = attributes_names p.attributes then type_names p.ty

-- parameters are in scope in the whole body
abbrev pub parameter_declared : unit.FormalParameter → Names
parameter_declared p = declared_under p.attributes (Some p.ident)

abbrev pub function_names : unit.Function → Names
function_names f = each parameter_names f.parameters
    then attributes_names f.return_attributes then maybe type_names f.return_type
    then scope (each parameter_declared f.parameters then compound_names f.body)

-- the names of a declaration of a module, but the one that it declares
abbrev pub content_names : unit.UnattributedDeclaration → Names
content_names unit.void = nothing
content_names (unit.declaration d) = value_names d
content_names (unit.type_alias a) = type_names a.ty
content_names (unit.structure s) = each member_names s.members
content_names (unit.function f) = function_names f
content_names (unit.const_assert c) = node_names c.expression

abbrev pub global_names : Spanned unit.GlobalDeclaration → Names
global_names d = attributes_names d.node.attributes then content_names d.node.node

-- the name that it declares
abbrev pub global_name : unit.UnattributedDeclaration → Option (List ℕ)
global_name unit.void = None
global_name (unit.declaration d) = Some d.ident
global_name (unit.type_alias a) = Some a.ident
global_name (unit.structure s) = Some s.ident
global_name (unit.function f) = Some f.ident
global_name (unit.const_assert c) = None

abbrev pub global_declared : Spanned unit.GlobalDeclaration → Names
global_declared d = declared_under d.node.attributes (global_name d.node.node)

abbrev pub directive_names : unit.GlobalDirective → Names
directive_names d = attributes_names d.attributes

-- what a module declares is in scope in the whole module
abbrev pub unit_names : unit.TranslationUnit → Names
unit_names u = each global_declared u.global_declarations
    then each directive_names u.global_directives then each global_names u.global_declarations

-- what each use of a module may refer to
abbrev pub unit_referents : unit.TranslationUnit → List (List Referent)
unit_referents u = referents_of (unit_names u)
