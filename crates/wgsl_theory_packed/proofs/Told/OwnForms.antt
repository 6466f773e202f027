-- A tree that fits is the only one of its kind with its packed form.
use Rattle.wgsl_model_packed.specs.Expressions.{packed_expression, packed_expression_node, packed_type}
use Rattle.wgsl_model_packed.specs.Attributes.{packed_attribute, packed_type_constraint}
use Rattle.wgsl_model_packed.specs.Statements.{packed_kind, packed_selector, packed_statement, packed_if_clause, packed_else_if_clause, packed_else_clause, packed_switch_clause, packed_continuing, packed_break_if}
use Rattle.wgsl_model_packed.specs.Units.{packed_unit, packed_directive, packed_global_declaration, packed_member, packed_parameter}
use Rattle.wgsl_theory_packed.specs.Fits.{HaveOwnForms, ExpressionFits, NodeFits, TypeFits, AttributeFits, ConstraintFits, SelectorFits, StatementFits, IfClauseFits, ElseIfClauseFits, ElseClauseFits, SwitchClauseFits, ContinuingFits, BreakIfFits, UnitFits, DirectiveFits, GlobalDeclarationFits, MemberFits, ParameterFits}
use Rattle.wgsl_theory_packed.proofs.Told.Forms.{own_forms}
use Rattle.wgsl_theory_packed.proofs.Told.Expressions.{told_expression, told_node, told_type}
use Rattle.wgsl_theory_packed.proofs.Told.Attributes.{told_attribute, told_constraint}
use Rattle.wgsl_theory_packed.proofs.Told.Statements.{told_kind, told_selector, told_statement, told_if_clause, told_else_if_clause, told_else_clause, told_switch_clause, told_continuing, told_break_if}
use Rattle.wgsl_theory_packed.proofs.Told.Units.{told_unit, told_directive, told_global_declaration, told_member, told_parameter}

pub units_differ : HaveOwnForms UnitFits packed_unit
units_differ = own_forms UnitFits packed_unit told_unit

pub directives_differ : HaveOwnForms DirectiveFits packed_directive
directives_differ = own_forms DirectiveFits packed_directive told_directive

pub declarations_differ : HaveOwnForms GlobalDeclarationFits packed_global_declaration
declarations_differ = own_forms GlobalDeclarationFits packed_global_declaration told_global_declaration

pub statements_differ : HaveOwnForms StatementFits packed_statement
statements_differ = own_forms StatementFits packed_statement told_statement

pub expressions_differ : HaveOwnForms ExpressionFits packed_expression
expressions_differ = own_forms ExpressionFits packed_expression told_expression

pub expression_nodes_differ : HaveOwnForms NodeFits packed_expression_node
expression_nodes_differ = own_forms NodeFits packed_expression_node told_node

pub types_differ : HaveOwnForms TypeFits packed_type
types_differ = own_forms TypeFits packed_type told_type

pub attributes_differ : HaveOwnForms AttributeFits packed_attribute
attributes_differ = own_forms AttributeFits packed_attribute told_attribute

pub members_differ : HaveOwnForms MemberFits packed_member
members_differ = own_forms MemberFits packed_member told_member

pub parameters_differ : HaveOwnForms ParameterFits packed_parameter
parameters_differ = own_forms ParameterFits packed_parameter told_parameter

pub kinds_differ : HaveOwnForms (λ k. Unit {0}) packed_kind
kinds_differ = own_forms (λ k. Unit {0}) packed_kind (λ a h b k. told_kind a b)

pub selectors_differ : HaveOwnForms SelectorFits packed_selector
selectors_differ = own_forms SelectorFits packed_selector told_selector

pub if_clauses_differ : HaveOwnForms IfClauseFits packed_if_clause
if_clauses_differ = own_forms IfClauseFits packed_if_clause told_if_clause

pub else_if_clauses_differ : HaveOwnForms ElseIfClauseFits packed_else_if_clause
else_if_clauses_differ = own_forms ElseIfClauseFits packed_else_if_clause told_else_if_clause

pub else_clauses_differ : HaveOwnForms ElseClauseFits packed_else_clause
else_clauses_differ = own_forms ElseClauseFits packed_else_clause told_else_clause

pub switch_clauses_differ : HaveOwnForms SwitchClauseFits packed_switch_clause
switch_clauses_differ = own_forms SwitchClauseFits packed_switch_clause told_switch_clause

pub continuings_differ : HaveOwnForms ContinuingFits packed_continuing
continuings_differ = own_forms ContinuingFits packed_continuing told_continuing

pub break_ifs_differ : HaveOwnForms BreakIfFits packed_break_if
break_ifs_differ = own_forms BreakIfFits packed_break_if told_break_if

pub type_constraints_differ : HaveOwnForms ConstraintFits packed_type_constraint
type_constraints_differ = own_forms ConstraintFits packed_type_constraint told_constraint
