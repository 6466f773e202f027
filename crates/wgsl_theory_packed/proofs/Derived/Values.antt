-- What each symbol derives fits.
use Rattle.std.proofs.Common.{◌≡◌, ℕ, true, List, [], ◌∷◌, Option, Some, None}
use Rattle.std.specs.Option.{IfSome}
use Rattle.wgsl_model.specs.Printed.Statements.{is_void}
use Rattle.wgsl_model.specs.Printed.Units as units
use Rattle.wgsl_model.specs.Trees.Attributed.{without_attributes}
use Rattle.wgsl_model.specs.Trees.Expressions.{ExpressionNode, type_expression, expressions_of, template_of}
use Rattle.wgsl_model.specs.Trees.Statements.{StatementNode, ElseIfClause, ElseClause, SwitchClause, ContinuingStatement, Statement, void, unattributed, statements_of, maybe_statement, else_ifs_of, else_of, clauses_of, continuing_of}
use Rattle.wgsl_model.specs.Trees.Units as tree
use Rattle.wgsl_model.specs.Grammar.Symbols.{Symbol, Rule, ident, type_specifier, template_list, expressions, call, arguments, literal, primary_expression, singular_expression, component, unary_expression, multiplicative_expression, negated_expression, additive_expression, shift_expression, relational_expression, expression, lhs_expression, attribute, compound_statement, statement, const_assert, switch_clause, case_selector, continuing_statement, for_init, for_update, var_template, typed_ident, struct_member, formal_parameter, global_declaration, var_declaration, const_declaration, override_declaration, alias_declaration, struct_declaration, function_declaration, diagnostic_severity, global_directive, enable_directive, requires_directive, diagnostic_directive, unit, Value}
use Rattle.wgsl_theory_reread.proofs.Gives.{GivesBy}
use Rattle.wgsl_theory_packed.specs.Fits.{Every, SpanFits, LiteralFits, ExpressionFits, NodeFits, CallFits, TypeFits, NodesFit, AttributesFit, SelectorFits, StatementFits, StatementNodeFits, ItemFits, ItemsFit, CompoundFits, ElseIfsFit, ElseIfClauseFits, ElseFits, ElseClauseFits, ClausesFit, SwitchClauseFits, MaybeContinuingFits, ContinuingFits, PartFits, DirectiveFits, MemberFits, ParameterFits, GlobalDeclarationFits, GlobalItemFits, UnitFits}
use Rattle.wgsl_theory_packed.proofs.Derived.Tokens.{TokenFits}

-- without attributes if it is empty
abbrev pub AsItem : Statement → Type 0
AsItem s = StatementFits s × (is_void s ≡ true → s ≡ unattributed void)

abbrev pub AsGlobalItem : tree.GlobalDeclaration → Type 0
AsGlobalItem d = GlobalDeclarationFits d × (units.is_void d ≡ true → d ≡ without_attributes tree.void)

abbrev pub FitsAs : (n : Symbol) → Value n → Type 0
FitsAs ident v = Unit {0}
FitsAs type_specifier v = TypeFits v
FitsAs template_list v = Every NodeFits v
FitsAs expressions v = Every NodeFits v
FitsAs call v = CallFits v
FitsAs arguments v = Every NodeFits v
FitsAs literal v = LiteralFits v
FitsAs primary_expression v = NodeFits v
FitsAs singular_expression v = NodeFits v
FitsAs component v = (base : ExpressionNode) → NodeFits base → ExpressionFits (v base)
FitsAs unary_expression v = NodeFits v
FitsAs multiplicative_expression v = NodeFits v
FitsAs negated_expression v = NodeFits v
FitsAs additive_expression v = NodeFits v
FitsAs shift_expression v = NodeFits v
FitsAs relational_expression v = NodeFits v
FitsAs expression v = NodeFits v
FitsAs lhs_expression v = NodeFits v
FitsAs attribute v = IfSome v.node.arguments (Every NodeFits) × SpanFits v.span
FitsAs compound_statement v = CompoundFits v
FitsAs statement v = ItemFits v
FitsAs const_assert v = AttributesFit v.attributes × NodeFits v.node.expression
FitsAs switch_clause v = SwitchClauseFits v
FitsAs case_selector v = SelectorFits v
FitsAs continuing_statement v = ContinuingFits v
FitsAs for_init v = StatementNodeFits v
FitsAs for_update v = StatementNodeFits v
FitsAs var_template v = Unit {0}
FitsAs typed_ident v = IfSome v.1 TypeFits
FitsAs struct_member v = SpanFits v.span × MemberFits v.node
FitsAs formal_parameter v = ParameterFits v
FitsAs global_declaration v = GlobalItemFits v
FitsAs var_declaration v = AsGlobalItem v
FitsAs const_declaration v = AsGlobalItem v
FitsAs override_declaration v = AsGlobalItem v
FitsAs alias_declaration v = AsGlobalItem v
FitsAs struct_declaration v = AsGlobalItem v
FitsAs function_declaration v = AsGlobalItem v
FitsAs diagnostic_severity v = Unit {0}
FitsAs global_directive v = DirectiveFits v
FitsAs enable_directive v = DirectiveFits v
FitsAs requires_directive v = DirectiveFits v
FitsAs diagnostic_directive v = DirectiveFits v
FitsAs unit v = UnitFits v
FitsAs n v = AsItem v

-- a right side whose values fit
abbrev pub Gives : {A : Type 0} → Rule A → (A → Type 0) → Type 0
Gives g P = GivesBy TokenFits FitsAs g P

-- ---- lists, as they are in a tree
pub nodes_fit : (es : List ExpressionNode) → Every NodeFits es → NodesFit (expressions_of es)
nodes_fit [] h = tt
nodes_fit (e ∷ es) h = (h.0, nodes_fit es h.1)

pub template_fits : (name : List ℕ) (o : Option (List ExpressionNode)) → IfSome o (Every NodeFits)
    → TypeFits (type_expression name (template_of o))
template_fits name None h = tt
template_fits name (Some es) h = nodes_fit es h

pub items_fit : (ss : List StatementNode) → Every ItemFits ss → ItemsFit (statements_of ss)
items_fit [] h = tt
items_fit (s ∷ ss) h = (h.0, items_fit ss h.1)

pub part_fits : (o : Option StatementNode) → IfSome o StatementNodeFits → PartFits (maybe_statement o)
part_fits None h = tt
part_fits (Some s) h = h

pub else_ifs_fit : (cs : List ElseIfClause) → Every ElseIfClauseFits cs → ElseIfsFit (else_ifs_of cs)
else_ifs_fit [] h = tt
else_ifs_fit (c ∷ cs) h = (h.0, else_ifs_fit cs h.1)

pub else_fits : (o : Option ElseClause) → IfSome o ElseClauseFits → ElseFits (else_of o)
else_fits None h = tt
else_fits (Some c) h = h

pub clauses_fit : (cs : List SwitchClause) → Every SwitchClauseFits cs → ClausesFit (clauses_of cs)
clauses_fit [] h = tt
clauses_fit (c ∷ cs) h = (h.0, clauses_fit cs h.1)

pub continuing_fits : (o : Option ContinuingStatement) → IfSome o ContinuingFits
    → MaybeContinuingFits (continuing_of o)
continuing_fits None h = tt
continuing_fits (Some c) h = h
