-- What each rule derives from a text is sound; written by tools/tables/rule_terms.py.
use Rattle.wgsl_model.specs.Trees.Statements as statement_trees
use Rattle.std.proofs.Common.{◌∷◌}
use Rattle.std.specs.Prelude.{Some, []}
use Rattle.wgsl_model.specs.Grammar.ExpressionParts.{call_of, type_of}
use Rattle.wgsl_model.specs.Grammar.Symbols.{Symbol, additive_expression, alias_declaration, arguments, assignment, attribute, break_statement, call, call_statement, case_selector, component, compound_statement, const_assert, const_declaration, continue_statement, continuing_statement, decrement, diagnostic_directive, diagnostic_severity, discard_statement, enable_directive, expression, expressions, for_init, for_statement, for_update, formal_parameter, function_declaration, global_declaration, global_directive, ident, if_statement, increment, lhs_expression, literal, loop_statement, multiplicative_expression, negated_expression, override_declaration, phony_assignment, primary_expression, relational_expression, requires_directive, return_statement, shift_expression, singular_expression, statement, struct_declaration, struct_member, switch_clause, switch_statement, template_list, type_specifier, typed_ident, unary_expression, unit, value_statement, var_declaration, var_statement, var_template, while_statement}
use Rattle.wgsl_model.specs.Grammar.TokenValues.{text_of}
use Rattle.wgsl_model.specs.Grammar.UnitParts.{alias_of, diagnostic_of, enable_of, function_of, member_of, parameter_of, requires_of, struct_of, value_of}
use Rattle.wgsl_model.specs.Grammar.Written.{written}
use Rattle.wgsl_model.specs.Tokens.ClassTable.{KwAlias, KwBreak, KwCase, KwConst, KwContinue, KwContinuing, KwDefault, KwDiscard, KwEnable, KwFn, KwFor, KwIf, KwLoop, KwOverride, KwRequires, KwReturn, KwStruct, KwSwitch, KwWhile, SymBraceLeft, SymBraceRight, SymColon, SymComma, SymEqual, SymMinusMinus, SymParenLeft, SymParenRight, SymPeriod, SymPlusPlus, SymSemicolon, TemplateArgsEnd, TemplateArgsStart}
use Rattle.wgsl_model.specs.Trees.Attributed.{with_attributes, without_attributes}
use Rattle.wgsl_model.specs.Trees.Operators.{AssignmentOperator.equal}
use Rattle.wgsl_model.specs.Trees.Statements.{CaseSelector, DeclarationKind, UnattributedStatement, assignment_of, call_statement_of, compound_of, decrement_of, for_of, if_of, increment_of, local_of, loop_of, return_of, switch_of, unattributed, while_of}
use Rattle.wgsl_model.specs.Trees.Units.{UnattributedDeclaration}
use Rattle.wgsl_theory_printed.proofs.Fits.FittingNodes.{IsSoundStatement, IsSoundUnattributed}
use Rattle.wgsl_theory_printed.proofs.Fits.FittingUnits.{IsSoundGlobal, IsSoundUnattributedDeclaration, IsSoundUnattributedDirective}
use Rattle.wgsl_theory_printed.proofs.Sound.DerivedSound.{additive_expression_gives, assertion_gives, assignment_operator_gives, attribute_gives, attributed_gives, attributes_give, block_gives, clauses_sound, component_gives, continuing_sound, else_block_gives, else_if_gives, else_ifs_sound, else_sound, expression_gives, ident_gives, initializer_gives, item_gives, left_side_gives, lhs_expression_gives, list_gives, literal_gives, multiplicative_expression_gives, negated_expression_gives, nodes_sound, part_sound, primary_expression_gives, relational_expression_gives, rule_of_sound, shift_expression_gives, singular_expression_gives, statements_give, statements_sound, template_sound, texts_sound, unary_expression_gives, underscore_gives, value_kind_gives, var_kind_gives}
use Rattle.wgsl_theory_printed.proofs.Sound.SoundRules.{Gives, Sound, list_or_none_sound, list_sound, many_sound, optional_sound, several_sound}
use Rattle.wgsl_theory_printed.proofs.Sound.SoundUnits.{IsSoundBody, IsSoundCase, assert_gives, asserted_gives, break_if_gives, clause_gives, continuing_gives, declaration_gives, diagnostic_severity_gives, directive_gives, function_sound, no_sign_gives, placed_gives, return_part_gives, var_template_gives}
use Rattle.wgsl_theory_reread.proofs.Gives.{gives_sound, makes_sound, means_sound, or_sound, sign_after, sign_before, symbol_sound, then_sound}

type_specifier_gives : Gives (written type_specifier) (Sound type_specifier)
type_specifier_gives =
    gives_sound (then_sound (symbol_sound ident) (optional_sound (symbol_sound template_list)))
    type_of (Sound type_specifier) (λ a h. (h.0, template_sound a.1 h.1))

template_list_gives : Gives (written template_list) (Sound template_list)
template_list_gives = sign_before TemplateArgsStart (sign_after TemplateArgsEnd list_gives)

expressions_gives : Gives (written expressions) (Sound expressions)
expressions_gives = list_gives

call_gives : Gives (written call) (Sound call)
call_gives =
    gives_sound (then_sound (symbol_sound type_specifier) (symbol_sound arguments)) call_of
    (Sound call) (λ a h. (h.0, nodes_sound a.1 h.1))

arguments_gives : Gives (written arguments) (Sound arguments)
arguments_gives =
    sign_before SymParenLeft
    (sign_after SymParenRight (list_or_none_sound SymComma (symbol_sound expression)))

compound_statement_gives : Gives (written compound_statement) (Sound compound_statement)
compound_statement_gives =
    gives_sound (then_sound attributes_give
    (sign_before SymBraceLeft (sign_after SymBraceRight statements_give)))
    (λ (a, x). compound_of a x) (Sound compound_statement) (λ a h. (h.0, statements_sound a.1 h.1))

statement_gives : Gives (written statement) (Sound statement)
statement_gives =
    item_gives (or_sound
    (means_sound SymSemicolon (unattributed UnattributedStatement.void) IsSoundStatement (tt, tt))
    (or_sound (sign_after SymSemicolon (symbol_sound return_statement))
    (or_sound (symbol_sound if_statement)
    (or_sound (symbol_sound switch_statement)
    (or_sound (symbol_sound loop_statement)
    (or_sound (symbol_sound for_statement)
    (or_sound (symbol_sound while_statement)
    (or_sound (sign_after SymSemicolon (symbol_sound call_statement))
    (or_sound (sign_after SymSemicolon (symbol_sound var_statement))
    (or_sound (sign_after SymSemicolon (symbol_sound value_statement))
    (or_sound (sign_after SymSemicolon (symbol_sound break_statement))
    (or_sound (sign_after SymSemicolon (symbol_sound continue_statement))
    (or_sound (sign_after SymSemicolon (symbol_sound discard_statement))
    (or_sound (sign_after SymSemicolon (symbol_sound assignment))
    (or_sound (sign_after SymSemicolon (symbol_sound phony_assignment))
    (or_sound (sign_after SymSemicolon (symbol_sound increment))
    (or_sound (sign_after SymSemicolon (symbol_sound decrement))
    (or_sound block_gives assertion_gives))))))))))))))))))

return_statement_gives : Gives (written return_statement) (Sound return_statement)
return_statement_gives =
    attributed_gives (gives_sound (sign_before KwReturn (optional_sound (symbol_sound expression)))
    return_of IsSoundUnattributed (λ a h. h))

if_statement_gives : Gives (written if_statement) (Sound if_statement)
if_statement_gives =
    attributed_gives (gives_sound (sign_before KwIf
    (then_sound (symbol_sound expression)
    (then_sound (symbol_sound compound_statement)
    (then_sound (many_sound else_if_gives) (optional_sound else_block_gives)))))
    (λ (condition, (block, elses)). if_of condition block elses) IsSoundUnattributed
    (λ a h. ((h.0, h.1.0), else_ifs_sound a.1.1.0 h.1.1.0, else_sound a.1.1.1 h.1.1.1)))

switch_statement_gives : Gives (written switch_statement) (Sound switch_statement)
switch_statement_gives =
    attributed_gives (gives_sound (sign_before KwSwitch
    (then_sound (symbol_sound expression)
    (then_sound attributes_give (sign_before SymBraceLeft
    (sign_after SymBraceRight (several_sound (symbol_sound switch_clause)))))))
    (λ (selected, (body_attributes, clauses)). switch_of selected body_attributes clauses)
    IsSoundUnattributed (λ a h. (h.0, h.1.0, clauses_sound a.1.1 h.1.1)))

loop_statement_gives : Gives (written loop_statement) (Sound loop_statement)
loop_statement_gives =
    attributed_gives (gives_sound (sign_before KwLoop
    (then_sound attributes_give (sign_before SymBraceLeft
    (sign_after SymBraceRight
    (then_sound statements_give (optional_sound (symbol_sound continuing_statement)))))))
    (λ (body_attributes, (body, continuing)). loop_of body_attributes body continuing)
    IsSoundUnattributed
    (λ a h. ((h.0, statements_sound a.1.0 h.1.0), continuing_sound a.1.1 h.1.1)))

for_statement_gives : Gives (written for_statement) (Sound for_statement)
for_statement_gives =
    attributed_gives (gives_sound (sign_before KwFor
    (sign_before SymParenLeft (then_sound
    (sign_after SymSemicolon (optional_sound (symbol_sound for_init)))
    (then_sound (sign_after SymSemicolon (optional_sound (symbol_sound expression)))
    (then_sound (sign_after SymParenRight (optional_sound (symbol_sound for_update)))
    (symbol_sound compound_statement))))))
    (λ (init, (condition, (update, block))). for_of init condition update block) IsSoundUnattributed
    (λ a h. (part_sound a.0 h.0, h.1.0, part_sound a.1.1.0 h.1.1.0, h.1.1.1)))

while_statement_gives : Gives (written while_statement) (Sound while_statement)
while_statement_gives =
    attributed_gives (gives_sound
    (sign_before KwWhile (then_sound (symbol_sound expression) (symbol_sound compound_statement)))
    (λ (condition, block). while_of condition block) IsSoundUnattributed (λ a h. (h.0, h.1)))

call_statement_gives : Gives (written call_statement) (Sound call_statement)
call_statement_gives =
    attributed_gives
    (gives_sound (symbol_sound call) call_statement_of IsSoundUnattributed (λ a h. h))

var_statement_gives : Gives (written var_statement) (Sound var_statement)
var_statement_gives =
    attributed_gives (gives_sound (then_sound var_kind_gives
    (then_sound (symbol_sound typed_ident) (optional_sound initializer_gives)))
    (λ (kind, (typed, value)). local_of kind typed value) IsSoundUnattributed
    (λ a h. (h.1.0.0, h.1.0.1, h.1.1)))

value_statement_gives : Gives (written value_statement) (Sound value_statement)
value_statement_gives =
    attributed_gives (gives_sound
    (then_sound value_kind_gives (then_sound (symbol_sound typed_ident) initializer_gives))
    (λ (kind, (typed, value)). local_of kind typed (Some value)) IsSoundUnattributed
    (λ a h. (h.1.0.0, h.1.0.1, h.1.1)))

break_statement_gives : Gives (written break_statement) (Sound break_statement)
break_statement_gives =
    attributed_gives
    (means_sound KwBreak UnattributedStatement.break_statement IsSoundUnattributed tt)

continue_statement_gives : Gives (written continue_statement) (Sound continue_statement)
continue_statement_gives =
    attributed_gives
    (means_sound KwContinue UnattributedStatement.continue_statement IsSoundUnattributed tt)

discard_statement_gives : Gives (written discard_statement) (Sound discard_statement)
discard_statement_gives =
    attributed_gives
    (means_sound KwDiscard UnattributedStatement.discard_statement IsSoundUnattributed tt)

assignment_gives : Gives (written assignment) (Sound assignment)
assignment_gives =
    gives_sound
    (then_sound left_side_gives (then_sound assignment_operator_gives (symbol_sound expression)))
    (λ ((attributes, left), (operator, right)). statement_trees.statement attributes
    (assignment_of left operator right)) (Sound assignment) (λ a h. (h.0.0, (h.0.1.2, h.1.1)))

phony_assignment_gives : Gives (written phony_assignment) (Sound phony_assignment)
phony_assignment_gives =
    attributed_gives (gives_sound (then_sound underscore_gives initializer_gives)
    (λ (left, right). assignment_of left equal right) IsSoundUnattributed (λ a h. (h.0, h.1)))

increment_gives : Gives (written increment) (Sound increment)
increment_gives =
    gives_sound (sign_after SymPlusPlus left_side_gives)
    (λ (attributes, left). statement_trees.statement attributes (increment_of left))
    (Sound increment) (λ a h. (h.0, (h.1.1, h.1.2)))

decrement_gives : Gives (written decrement) (Sound decrement)
decrement_gives =
    gives_sound (sign_after SymMinusMinus left_side_gives)
    (λ (attributes, left). statement_trees.statement attributes (decrement_of left))
    (Sound decrement) (λ a h. (h.0, (h.1.1, h.1.2)))

const_assert_gives : Gives (written const_assert) (Sound const_assert)
const_assert_gives =
    gives_sound (then_sound attributes_give assert_gives) (λ (a, x). with_attributes a x)
    (Sound const_assert) (λ a h. (h.0, h.1))

switch_clause_gives : Gives (written switch_clause) (Sound switch_clause)
switch_clause_gives =
    clause_gives (or_sound (gives_sound
    (sign_before KwCase (then_sound (list_sound SymComma (symbol_sound case_selector))
    (then_sound (no_sign_gives SymColon) (symbol_sound compound_statement))))
    (λ (selectors, (colon, block)). (selectors, block)) IsSoundCase (λ a h. (h.0, h.1.1)))
    (gives_sound
    (sign_before KwDefault (then_sound (no_sign_gives SymColon) (symbol_sound compound_statement)))
    (λ (colon, block). (CaseSelector.default_selector ∷ [], block)) IsSoundCase
    (λ a h. ((tt, tt), h.1))))

case_selector_gives : Gives (written case_selector) (Sound case_selector)
case_selector_gives =
    or_sound (means_sound KwDefault CaseSelector.default_selector (Sound case_selector) tt)
    (gives_sound (symbol_sound expression) CaseSelector.expression_selector (Sound case_selector)
    (λ a h. h))

continuing_statement_gives : Gives (written continuing_statement) (Sound continuing_statement)
continuing_statement_gives =
    continuing_gives (gives_sound (sign_before KwContinuing
    (then_sound attributes_give (sign_before SymBraceLeft
    (sign_after SymBraceRight (then_sound statements_give (optional_sound break_if_gives))))))
    (λ (body_attributes, (body, break_if)). (compound_of body_attributes body, break_if))
    IsSoundBody (λ a h. ((h.0, statements_sound a.1.0 h.1.0), h.1.1)))

for_init_gives : Gives (written for_init) (Sound for_init)
for_init_gives =
    item_gives (or_sound (symbol_sound var_statement)
    (or_sound (symbol_sound value_statement)
    (or_sound (symbol_sound assignment)
    (or_sound (symbol_sound phony_assignment)
    (or_sound (symbol_sound increment)
    (or_sound (symbol_sound decrement) (symbol_sound call_statement)))))))

for_update_gives : Gives (written for_update) (Sound for_update)
for_update_gives =
    item_gives (or_sound (symbol_sound assignment)
    (or_sound (symbol_sound phony_assignment)
    (or_sound (symbol_sound increment)
    (or_sound (symbol_sound decrement) (symbol_sound call_statement)))))

typed_ident_gives : Gives (written typed_ident) (Sound typed_ident)
typed_ident_gives =
    gives_sound (then_sound (symbol_sound ident)
    (optional_sound (sign_before SymColon (symbol_sound type_specifier))))
    (λ (name, ty). (text_of name, ty)) (Sound typed_ident) (λ a h. (h.0, h.1))

struct_member_gives : Gives (written struct_member) (Sound struct_member)
struct_member_gives =
    makes_sound (then_sound attributes_give
    (then_sound (sign_after SymColon (symbol_sound ident)) (symbol_sound type_specifier))) member_of
    (Sound struct_member) (λ a s h. (h.0, h.1.0, h.1.1))

formal_parameter_gives : Gives (written formal_parameter) (Sound formal_parameter)
formal_parameter_gives =
    gives_sound (then_sound attributes_give
    (then_sound (sign_after SymColon (symbol_sound ident)) (symbol_sound type_specifier)))
    parameter_of (Sound formal_parameter) (λ a h. (h.0, h.1.0, h.1.1))

global_declaration_gives : Gives (written global_declaration) (Sound global_declaration)
global_declaration_gives =
    placed_gives (or_sound (means_sound SymSemicolon
    (without_attributes UnattributedDeclaration.void) IsSoundGlobal (tt, tt))
    (or_sound (symbol_sound var_declaration)
    (or_sound (symbol_sound const_declaration)
    (or_sound (symbol_sound override_declaration)
    (or_sound (symbol_sound alias_declaration)
    (or_sound (symbol_sound struct_declaration)
    (or_sound (symbol_sound function_declaration) asserted_gives)))))))

var_declaration_gives : Gives (written var_declaration) (Sound var_declaration)
var_declaration_gives =
    declaration_gives (gives_sound
    (then_sound var_kind_gives (then_sound (symbol_sound typed_ident)
    (sign_after SymSemicolon (optional_sound initializer_gives))))
    (λ (kind, (typed, value)). value_of kind typed value) IsSoundUnattributedDeclaration
    (λ a h. (h.1.0.0, h.1.0.1, h.1.1)))

const_declaration_gives : Gives (written const_declaration) (Sound const_declaration)
const_declaration_gives =
    declaration_gives (gives_sound
    (sign_before KwConst
    (then_sound (symbol_sound typed_ident) (sign_after SymSemicolon initializer_gives)))
    (λ (typed, value). value_of DeclarationKind.const_kind typed (Some value))
    IsSoundUnattributedDeclaration (λ a h. (h.0.0, h.0.1, h.1)))

override_declaration_gives : Gives (written override_declaration) (Sound override_declaration)
override_declaration_gives =
    declaration_gives (gives_sound
    (sign_before KwOverride (then_sound (symbol_sound typed_ident)
    (sign_after SymSemicolon (optional_sound initializer_gives))))
    (λ (typed, value). value_of DeclarationKind.override_kind typed value)
    IsSoundUnattributedDeclaration (λ a h. (h.0.0, h.0.1, h.1)))

alias_declaration_gives : Gives (written alias_declaration) (Sound alias_declaration)
alias_declaration_gives =
    declaration_gives (gives_sound
    (sign_before KwAlias (then_sound (symbol_sound ident)
    (sign_before SymEqual (sign_after SymSemicolon (symbol_sound type_specifier))))) alias_of
    IsSoundUnattributedDeclaration (λ a h. (h.0, h.1)))

struct_declaration_gives : Gives (written struct_declaration) (Sound struct_declaration)
struct_declaration_gives =
    declaration_gives (gives_sound
    (sign_before KwStruct (then_sound (symbol_sound ident)
    (sign_before SymBraceLeft
    (sign_after SymBraceRight (list_sound SymComma (symbol_sound struct_member)))))) struct_of
    IsSoundUnattributedDeclaration (λ a h. (h.0, h.1)))

function_declaration_gives : Gives (written function_declaration) (Sound function_declaration)
function_declaration_gives =
    declaration_gives (gives_sound
    (sign_before KwFn (then_sound (symbol_sound ident)
    (sign_before SymParenLeft (then_sound
    (sign_after SymParenRight (list_or_none_sound SymComma (symbol_sound formal_parameter)))
    (then_sound (optional_sound return_part_gives) (symbol_sound compound_statement))))))
    (λ (name, (parameters, (returned, block))). function_of name parameters returned block)
    IsSoundUnattributedDeclaration
    (λ a h. function_sound a.0 a.1.0 a.1.1.0 a.1.1.1 h.0 h.1.0 h.1.1.0 h.1.1.1))

global_directive_gives : Gives (written global_directive) (Sound global_directive)
global_directive_gives =
    or_sound (symbol_sound enable_directive)
    (or_sound (symbol_sound requires_directive) (symbol_sound diagnostic_directive))

enable_directive_gives : Gives (written enable_directive) (Sound enable_directive)
enable_directive_gives =
    directive_gives (gives_sound
    (sign_before KwEnable (sign_after SymSemicolon (list_sound SymComma (symbol_sound ident))))
    enable_of IsSoundUnattributedDirective (λ a h. texts_sound a h))

requires_directive_gives : Gives (written requires_directive) (Sound requires_directive)
requires_directive_gives =
    directive_gives (gives_sound
    (sign_before KwRequires (sign_after SymSemicolon (list_sound SymComma (symbol_sound ident))))
    requires_of IsSoundUnattributedDirective (λ a h. texts_sound a h))

diagnostic_directive_gives : Gives (written diagnostic_directive) (Sound diagnostic_directive)
diagnostic_directive_gives =
    directive_gives (gives_sound (then_sound
    (sign_after SymComma (symbol_sound diagnostic_severity))
    (then_sound (symbol_sound ident)
    (then_sound (optional_sound (sign_before SymPeriod (symbol_sound ident)))
    (sign_after SymSemicolon (sign_after SymParenRight (no_sign_gives SymComma))))))
    (λ (severity, (first, (second, comma))). diagnostic_of severity first second)
    IsSoundUnattributedDirective (λ a h. rule_of_sound a.1.0 a.1.1.0 h.1.0 h.1.1.0))

unit_gives : Gives (written unit) (Sound unit)
unit_gives =
    gives_sound (then_sound (many_sound (symbol_sound global_directive))
    (many_sound (symbol_sound global_declaration)))
    (λ (directives, declarations). record {
      global_directives = directives;
      global_declarations = declarations;
    }) (Sound unit) (λ a h. (h.0, h.1))

-- each rule of the grammar
pub rules : (n : Symbol) → Gives (written n) (Sound n)
rules ident = ident_gives
rules type_specifier = type_specifier_gives
rules template_list = template_list_gives
rules expressions = expressions_gives
rules call = call_gives
rules arguments = arguments_gives
rules literal = literal_gives
rules primary_expression = primary_expression_gives
rules singular_expression = singular_expression_gives
rules component = component_gives
rules unary_expression = unary_expression_gives
rules multiplicative_expression = multiplicative_expression_gives
rules negated_expression = negated_expression_gives
rules additive_expression = additive_expression_gives
rules shift_expression = shift_expression_gives
rules relational_expression = relational_expression_gives
rules expression = expression_gives
rules lhs_expression = lhs_expression_gives
rules attribute = attribute_gives
rules compound_statement = compound_statement_gives
rules statement = statement_gives
rules return_statement = return_statement_gives
rules if_statement = if_statement_gives
rules switch_statement = switch_statement_gives
rules loop_statement = loop_statement_gives
rules for_statement = for_statement_gives
rules while_statement = while_statement_gives
rules call_statement = call_statement_gives
rules var_statement = var_statement_gives
rules value_statement = value_statement_gives
rules break_statement = break_statement_gives
rules continue_statement = continue_statement_gives
rules discard_statement = discard_statement_gives
rules assignment = assignment_gives
rules phony_assignment = phony_assignment_gives
rules increment = increment_gives
rules decrement = decrement_gives
rules const_assert = const_assert_gives
rules switch_clause = switch_clause_gives
rules case_selector = case_selector_gives
rules continuing_statement = continuing_statement_gives
rules for_init = for_init_gives
rules for_update = for_update_gives
rules var_template = var_template_gives
rules typed_ident = typed_ident_gives
rules struct_member = struct_member_gives
rules formal_parameter = formal_parameter_gives
rules global_declaration = global_declaration_gives
rules var_declaration = var_declaration_gives
rules const_declaration = const_declaration_gives
rules override_declaration = override_declaration_gives
rules alias_declaration = alias_declaration_gives
rules struct_declaration = struct_declaration_gives
rules function_declaration = function_declaration_gives
rules diagnostic_severity = diagnostic_severity_gives
rules global_directive = global_directive_gives
rules enable_directive = enable_directive_gives
rules requires_directive = requires_directive_gives
rules diagnostic_directive = diagnostic_directive_gives
rules unit = unit_gives
