-- What is written from each rule in place of what was read; written by tools/tables/rule_terms.py.
use Rattle.grammar.specs.Grammar.{Grammar.symbol}
use Rattle.std.proofs.Common.{Bool, false, refl, true}
use Rattle.wgsl_model.specs.Grammar.Symbols.{Symbol, additive_expression, alias_declaration, arguments, assignment, attribute, break_statement, call, call_statement, case_selector, component, compound_statement, const_assert, const_declaration, continue_statement, continuing_statement, decrement, diagnostic_directive, diagnostic_severity, discard_statement, enable_directive, expression, expressions, for_init, for_statement, for_update, formal_parameter, function_declaration, global_declaration, global_directive, ident, if_statement, increment, lhs_expression, literal, loop_statement, multiplicative_expression, negated_expression, override_declaration, phony_assignment, primary_expression, relational_expression, requires_directive, return_statement, shift_expression, singular_expression, statement, struct_declaration, struct_member, switch_clause, switch_statement, template_list, type_specifier, typed_ident, unary_expression, unit, value_statement, var_declaration, var_statement, var_template, while_statement}
use Rattle.wgsl_model.specs.Grammar.Written.{written}
use Rattle.wgsl_model.specs.Tokens.ClassTable.{KwAlias, KwBreak, KwConst, KwContinue, KwContinuing, KwDefault, KwDiscard, KwEnable, KwFor, KwIf, KwLoop, KwOverride, KwRequires, KwReturn, KwStruct, KwSwitch, KwWhile, SymAnd, SymAndAnd, SymBang, SymBraceLeft, SymBraceRight, SymColon, SymEqual, SymEqualEqual, SymForwardSlash, SymGreaterThan, SymGreaterThanEqual, SymLessThan, SymLessThanEqual, SymMinus, SymMinusMinus, SymModulo, SymNotEqual, SymOr, SymOrOr, SymParenLeft, SymParenRight, SymPlus, SymSemicolon, SymShiftLeft, SymShiftRight, SymStar, SymTilde, SymXor, TemplateArgsEnd, TemplateArgsStart}
use Rattle.wgsl_model.specs.Trees.Operators.{BinaryOperator.bitwise_and, BinaryOperator.bitwise_or, BinaryOperator.bitwise_xor, BinaryOperator.short_circuit_and, BinaryOperator.short_circuit_or}
use Rattle.wgsl_theory_grammar.proofs.Faults.WrittenEnds.{closing}
use Rattle.wgsl_theory_reread.specs.CanonicalStatements.{unended_tokens}
use Rattle.wgsl_theory_templates.proofs.Changes.EditAttributeRules.{attribute_right, attributes_edits, diagnostic_severity_right, var_template_right}
use Rattle.wgsl_theory_templates.proofs.Changes.EditRules.{arguments_edits, components_edits, ident_right, literal_right, negated_expression_right, node_edits, one_operation_edits, open_left_side_edits, operand_edits, operation_edits, operations_edits, parenthesized_left_side_edits, template_edits, two_or_more_edits}
use Rattle.wgsl_theory_templates.proofs.Changes.EditStatementParts.{assignment_operator_edits, break_if_edits, clauses_edits, else_edits, else_ifs_edits, initializer_edits, maybe_continuing_edits, part_edits, statements_edits, var_kind_edits}
use Rattle.wgsl_theory_templates.proofs.Changes.EditStatementRules.{assert_edits, attributed_edits, block_edits, continuing_edits, ended_edits, increased_edits, item_edits, left_side_edits, switch_clause_right, underscore_edits, unended_edits, value_kind_edits, void_edits}
use Rattle.wgsl_theory_templates.proofs.Changes.EditSymbols.{IsTurned, symbol_edits}
use Rattle.wgsl_theory_templates.proofs.Changes.EditUnitRules.{declaration_edits, diagnostic_directive_right, directive_edits, empty_declaration_edits, filled_edits, function_declaration_right, names_edits, placed_edits}
use Rattle.wgsl_theory_templates.proofs.Changes.EditWays.{Changes, after_edits, before_edits, edit_write, ended_list_edits, gives_edits, list_edits, list_or_none_edits, makes_edits, means_edits, optional_edits, or_edits, then_edits}

type_specifier_right :
    {b : Bool} → Changes (closing type_specifier) b (written type_specifier)
    (edit_write type_specifier)
type_specifier_right =
    gives_edits (then_edits (symbol_edits ident tt) template_edits) (λ a rest. refl)

template_list_right :
    {b : Bool} → Changes (closing template_list) b (written template_list)
    (edit_write template_list)
template_list_right =
    before_edits TemplateArgsStart
    (ended_list_edits TemplateArgsEnd refl
    (list_edits (symbol_edits expression tt) (symbol_edits expression tt)))

call_right : {b : Bool} → Changes (closing call) b (written call) (edit_write call)
call_right =
    gives_edits (then_edits (symbol_edits type_specifier tt) arguments_edits) (λ a rest. refl)

arguments_right :
    {b : Bool} → Changes (closing arguments) b (written arguments) (edit_write arguments)
arguments_right =
    before_edits SymParenLeft (ended_list_edits SymParenRight refl
    (list_or_none_edits (symbol_edits expression tt) (symbol_edits expression tt)))

primary_expression_right :
    {b : Bool} → Changes (closing primary_expression) b (written primary_expression)
    (edit_write primary_expression)
primary_expression_right =
    node_edits (or_edits (gives_edits (symbol_edits type_specifier tt) (λ a rest. refl))
    (or_edits (gives_edits (symbol_edits call tt) (λ a rest. refl))
    (or_edits (gives_edits (symbol_edits literal tt) (λ a rest. refl))
    (gives_edits (before_edits SymParenLeft
    (after_edits {m = closing expression} SymParenRight (symbol_edits expression tt)))
    (λ a rest. refl)))))

singular_expression_right :
    {b : Bool} → Changes (closing singular_expression) b (written singular_expression)
    (edit_write singular_expression)
singular_expression_right = components_edits (symbol_edits primary_expression tt)

unary_expression_right :
    {b : Bool} → Changes (closing unary_expression) b (written unary_expression)
    (edit_write unary_expression)
unary_expression_right =
    or_edits (symbol_edits singular_expression tt)
    (operation_edits (or_edits (means_edits SymMinus (λ rest. refl))
    (or_edits (means_edits SymBang (λ rest. refl))
    (or_edits (means_edits SymTilde (λ rest. refl))
    (or_edits (means_edits SymStar (λ rest. refl)) (means_edits SymAnd (λ rest. refl))))))
    (symbol_edits unary_expression tt))

multiplicative_expression_right :
    {b : Bool} → Changes (closing multiplicative_expression) b (written multiplicative_expression)
    (edit_write multiplicative_expression)
multiplicative_expression_right =
    operations_edits (symbol_edits unary_expression tt)
    (operand_edits (or_edits (means_edits SymStar (λ rest. refl))
    (or_edits (means_edits SymForwardSlash (λ rest. refl)) (means_edits SymModulo (λ rest. refl))))
    (symbol_edits unary_expression tt))

additive_expression_right :
    {b : Bool} → Changes (closing additive_expression) b (written additive_expression)
    (edit_write additive_expression)
additive_expression_right =
    operations_edits (symbol_edits multiplicative_expression tt)
    (or_edits (operand_edits
    (or_edits (means_edits SymPlus (λ rest. refl)) (means_edits SymMinus (λ rest. refl)))
    (symbol_edits multiplicative_expression tt))
    (gives_edits (symbol_edits negated_expression tt) (λ a rest. refl)))

shift_expression_right :
    {b : Bool} → Changes (closing shift_expression) b (written shift_expression)
    (edit_write shift_expression)
shift_expression_right =
    or_edits (symbol_edits additive_expression tt)
    (or_edits (one_operation_edits (symbol_edits unary_expression tt)
    (means_edits SymShiftLeft (λ rest. refl)) (symbol_edits unary_expression tt))
    (one_operation_edits (symbol_edits unary_expression tt)
    (means_edits SymShiftRight (λ rest. refl)) (symbol_edits unary_expression tt)))

relational_expression_right :
    {b : Bool} → Changes (closing relational_expression) b (written relational_expression)
    (edit_write relational_expression)
relational_expression_right =
    or_edits (symbol_edits shift_expression tt)
    (one_operation_edits (symbol_edits shift_expression tt)
    (or_edits (means_edits SymLessThan (λ rest. refl))
    (or_edits (means_edits SymGreaterThan (λ rest. refl))
    (or_edits (means_edits SymLessThanEqual (λ rest. refl))
    (or_edits (means_edits SymGreaterThanEqual (λ rest. refl))
    (or_edits (means_edits SymEqualEqual (λ rest. refl))
    (means_edits SymNotEqual (λ rest. refl))))))) (symbol_edits shift_expression tt))

expression_right :
    {b : Bool} → Changes (closing expression) b (written expression) (edit_write expression)
expression_right =
    or_edits (symbol_edits relational_expression tt)
    (or_edits (two_or_more_edits SymAndAnd short_circuit_and refl refl
    (symbol_edits relational_expression tt) (symbol_edits relational_expression tt))
    (or_edits (two_or_more_edits SymOrOr short_circuit_or refl refl
    (symbol_edits relational_expression tt) (symbol_edits relational_expression tt))
    (or_edits (two_or_more_edits SymAnd bitwise_and refl refl (symbol_edits unary_expression tt)
    (symbol_edits unary_expression tt))
    (or_edits (two_or_more_edits SymOr bitwise_or refl refl (symbol_edits unary_expression tt)
    (symbol_edits unary_expression tt))
    (two_or_more_edits SymXor bitwise_xor refl refl (symbol_edits unary_expression tt)
    (symbol_edits unary_expression tt))))))

lhs_expression_right :
    {b : Bool} → Changes (closing lhs_expression) b (written lhs_expression)
    (edit_write lhs_expression)
lhs_expression_right = or_edits open_left_side_edits parenthesized_left_side_edits

compound_statement_right :
    {b : Bool} → Changes (closing compound_statement) b (written compound_statement)
    (edit_write compound_statement)
compound_statement_right =
    gives_edits (then_edits attributes_edits
    (before_edits SymBraceLeft (after_edits {m = true} SymBraceRight statements_edits)))
    (λ a rest. refl)

pub statement_right : Changes true true (written statement) (edit_write statement)
statement_right =
    item_edits (void_edits (or_edits (ended_edits {g = symbol return_statement} (λ v xs ys h. h))
    (or_edits (unended_edits {g = symbol if_statement} (λ v xs ys h. h))
    (or_edits (unended_edits {g = symbol switch_statement} (λ v xs ys h. h))
    (or_edits (unended_edits {g = symbol loop_statement} (λ v xs ys h. h))
    (or_edits (unended_edits {g = symbol for_statement} (λ v xs ys h. h))
    (or_edits (unended_edits {g = symbol while_statement} (λ v xs ys h. h))
    (or_edits (ended_edits {g = symbol call_statement} (λ v xs ys h. h))
    (or_edits (ended_edits {g = symbol var_statement} (λ v xs ys h. h))
    (or_edits (ended_edits {g = symbol value_statement} (λ v xs ys h. h))
    (or_edits (ended_edits {g = symbol break_statement} (λ v xs ys h. h))
    (or_edits (ended_edits {g = symbol continue_statement} (λ v xs ys h. h))
    (or_edits (ended_edits {g = symbol discard_statement} (λ v xs ys h. h))
    (or_edits (ended_edits {g = symbol assignment} (λ v xs ys h. h))
    (or_edits (ended_edits {g = symbol phony_assignment} (λ v xs ys h. h))
    (or_edits (ended_edits {g = symbol increment} (λ v xs ys h. h))
    (or_edits (ended_edits {g = symbol decrement} (λ v xs ys h. h))
    (or_edits block_edits (gives_edits
    (after_edits {m = closing const_assert} SymSemicolon (symbol_edits const_assert tt))
    (λ a rest. refl))))))))))))))))))))

return_statement_right :
    {b : Bool} → Changes (closing return_statement) b (written return_statement)
    (edit_write return_statement)
return_statement_right =
    attributed_edits (gives_edits (before_edits KwReturn
    (optional_edits {e = closing expression} tt (symbol_edits expression tt))) (λ a rest. refl))

if_statement_right :
    {b : Bool} → Changes (closing if_statement) b (written if_statement) (edit_write if_statement)
if_statement_right =
    attributed_edits (gives_edits (before_edits KwIf
    (then_edits (symbol_edits expression tt)
    (then_edits (symbol_edits compound_statement tt) (then_edits else_ifs_edits else_edits))))
    (λ a rest. refl))

switch_statement_right :
    {b : Bool} → Changes (closing switch_statement) b (written switch_statement)
    (edit_write switch_statement)
switch_statement_right =
    attributed_edits (gives_edits (before_edits KwSwitch
    (then_edits (symbol_edits expression tt)
    (then_edits attributes_edits
    (before_edits SymBraceLeft (after_edits {m = true} SymBraceRight clauses_edits)))))
    (λ a rest. refl))

loop_statement_right :
    {b : Bool} → Changes (closing loop_statement) b (written loop_statement)
    (edit_write loop_statement)
loop_statement_right =
    attributed_edits (gives_edits (before_edits KwLoop
    (then_edits attributes_edits (before_edits SymBraceLeft
    (after_edits {m = true} SymBraceRight (then_edits statements_edits maybe_continuing_edits)))))
    (λ a rest. refl))

for_statement_right :
    {b : Bool} → Changes (closing for_statement) b (written for_statement)
    (edit_write for_statement)
for_statement_right =
    attributed_edits (gives_edits (before_edits KwFor
    (before_edits SymParenLeft (then_edits
    (after_edits {m = false} SymSemicolon (part_edits (symbol_edits for_init tt)))
    (then_edits (after_edits {m = closing expression} SymSemicolon
    (optional_edits {e = closing expression} tt (symbol_edits expression tt)))
    (then_edits (after_edits {m = false} SymParenRight (part_edits (symbol_edits for_update tt)))
    (symbol_edits compound_statement tt)))))) (λ a rest. refl))

while_statement_right :
    {b : Bool} → Changes (closing while_statement) b (written while_statement)
    (edit_write while_statement)
while_statement_right =
    attributed_edits (gives_edits (before_edits KwWhile
    (then_edits (symbol_edits expression tt) (symbol_edits compound_statement tt)))
    (λ a rest. refl))

call_statement_right :
    {b : Bool} → Changes (closing call_statement) b (written call_statement)
    (edit_write call_statement)
call_statement_right = attributed_edits (gives_edits (symbol_edits call tt) (λ a rest. refl))

var_statement_right :
    {b : Bool} → Changes (closing var_statement) b (written var_statement)
    (edit_write var_statement)
var_statement_right =
    attributed_edits (gives_edits (then_edits var_kind_edits
    (then_edits (symbol_edits typed_ident tt) (optional_edits {e = false} tt initializer_edits)))
    (λ a rest. refl))

value_statement_right :
    {b : Bool} → Changes (closing value_statement) b (written value_statement)
    (edit_write value_statement)
value_statement_right =
    attributed_edits (gives_edits
    (then_edits value_kind_edits (then_edits (symbol_edits typed_ident tt) initializer_edits))
    (λ a rest. refl))

break_statement_right :
    {b : Bool} → Changes (closing break_statement) b (written break_statement)
    (edit_write break_statement)
break_statement_right = attributed_edits (means_edits KwBreak (λ rest. refl))

continue_statement_right :
    {b : Bool} → Changes (closing continue_statement) b (written continue_statement)
    (edit_write continue_statement)
continue_statement_right = attributed_edits (means_edits KwContinue (λ rest. refl))

discard_statement_right :
    {b : Bool} → Changes (closing discard_statement) b (written discard_statement)
    (edit_write discard_statement)
discard_statement_right = attributed_edits (means_edits KwDiscard (λ rest. refl))

assignment_right :
    {b : Bool} → Changes (closing assignment) b (written assignment) (edit_write assignment)
assignment_right =
    gives_edits
    (then_edits left_side_edits (then_edits assignment_operator_edits (symbol_edits expression tt)))
    (λ a rest. refl)

phony_assignment_right :
    {b : Bool} → Changes (closing phony_assignment) b (written phony_assignment)
    (edit_write phony_assignment)
phony_assignment_right =
    attributed_edits (gives_edits (then_edits underscore_edits initializer_edits) (λ a rest. refl))

increment_right :
    {b : Bool} → Changes (closing increment) b (written increment) (edit_write increment)
increment_right = gives_edits increased_edits (λ a rest. refl)

decrement_right :
    {b : Bool} → Changes (closing decrement) b (written decrement) (edit_write decrement)
decrement_right =
    gives_edits (after_edits {m = false} SymMinusMinus left_side_edits) (λ a rest. refl)

const_assert_right :
    {b : Bool} → Changes (closing const_assert) b (written const_assert) (edit_write const_assert)
const_assert_right = gives_edits (then_edits attributes_edits assert_edits) (λ a rest. refl)

case_selector_right :
    {b : Bool} → Changes (closing case_selector) b (written case_selector)
    (edit_write case_selector)
case_selector_right =
    or_edits (means_edits KwDefault (λ rest. refl))
    (gives_edits (symbol_edits expression tt) (λ a rest. refl))

continuing_statement_right :
    {b : Bool} → Changes (closing continuing_statement) b (written continuing_statement)
    (edit_write continuing_statement)
continuing_statement_right =
    continuing_edits (gives_edits (before_edits KwContinuing
    (then_edits attributes_edits (before_edits SymBraceLeft
    (after_edits {m = true} SymBraceRight
    (then_edits statements_edits (optional_edits {e = true} {b = true} tt break_if_edits))))))
    (λ a rest. refl))

for_init_right : {b : Bool} → Changes (closing for_init) b (written for_init) (edit_write for_init)
for_init_right =
    makes_edits {writes = unended_tokens}
    (or_edits (symbol_edits var_statement tt)
    (or_edits (symbol_edits value_statement tt)
    (or_edits (symbol_edits assignment tt)
    (or_edits (symbol_edits phony_assignment tt)
    (or_edits (symbol_edits increment tt)
    (or_edits (symbol_edits decrement tt) (symbol_edits call_statement tt)))))))
    (λ a span rest. refl)

for_update_right :
    {b : Bool} → Changes (closing for_update) b (written for_update) (edit_write for_update)
for_update_right =
    makes_edits {writes = unended_tokens}
    (or_edits (symbol_edits assignment tt)
    (or_edits (symbol_edits phony_assignment tt)
    (or_edits (symbol_edits increment tt)
    (or_edits (symbol_edits decrement tt) (symbol_edits call_statement tt))))) (λ a span rest. refl)

typed_ident_right :
    {b : Bool} → Changes (closing typed_ident) b (written typed_ident) (edit_write typed_ident)
typed_ident_right =
    gives_edits (then_edits (symbol_edits ident tt)
    (optional_edits {e = closing type_specifier} tt
    (before_edits SymColon (symbol_edits type_specifier tt)))) (λ a rest. refl)

struct_member_right :
    {b : Bool} → Changes (closing struct_member) b (written struct_member)
    (edit_write struct_member)
struct_member_right =
    makes_edits (then_edits attributes_edits
    (then_edits (after_edits {m = closing ident} SymColon (symbol_edits ident tt))
    (symbol_edits type_specifier tt))) (λ a span rest. refl)

formal_parameter_right :
    {b : Bool} → Changes (closing formal_parameter) b (written formal_parameter)
    (edit_write formal_parameter)
formal_parameter_right =
    gives_edits (then_edits attributes_edits
    (then_edits (after_edits {m = closing ident} SymColon (symbol_edits ident tt))
    (symbol_edits type_specifier tt))) (λ a rest. refl)

pub global_declaration_right :
    Changes true true (written global_declaration) (edit_write global_declaration)
global_declaration_right =
    placed_edits (empty_declaration_edits
    (or_edits (filled_edits {g = symbol var_declaration} (λ v xs ys h. h))
    (or_edits (filled_edits {g = symbol const_declaration} (λ v xs ys h. h))
    (or_edits (filled_edits {g = symbol override_declaration} (λ v xs ys h. h))
    (or_edits (filled_edits {g = symbol alias_declaration} (λ v xs ys h. h))
    (or_edits (filled_edits {g = symbol struct_declaration} (λ v xs ys h. h))
    (or_edits (filled_edits {g = symbol function_declaration} (λ v xs ys h. h))
    (gives_edits
    (after_edits {m = closing const_assert} SymSemicolon (symbol_edits const_assert tt))
    (λ a rest. refl)))))))))

var_declaration_right :
    {b : Bool} → Changes (closing var_declaration) b (written var_declaration)
    (edit_write var_declaration)
var_declaration_right =
    declaration_edits (gives_edits
    (then_edits var_kind_edits (then_edits (symbol_edits typed_ident tt)
    (after_edits {m = false} SymSemicolon (optional_edits {e = false} tt initializer_edits))))
    (λ a rest. refl))

const_declaration_right :
    {b : Bool} → Changes (closing const_declaration) b (written const_declaration)
    (edit_write const_declaration)
const_declaration_right =
    declaration_edits (gives_edits
    (before_edits KwConst (then_edits (symbol_edits typed_ident tt)
    (after_edits {m = false} SymSemicolon initializer_edits))) (λ a rest. refl))

override_declaration_right :
    {b : Bool} → Changes (closing override_declaration) b (written override_declaration)
    (edit_write override_declaration)
override_declaration_right =
    declaration_edits (gives_edits
    (before_edits KwOverride (then_edits (symbol_edits typed_ident tt)
    (after_edits {m = false} SymSemicolon (optional_edits {e = false} tt initializer_edits))))
    (λ a rest. refl))

alias_declaration_right :
    {b : Bool} → Changes (closing alias_declaration) b (written alias_declaration)
    (edit_write alias_declaration)
alias_declaration_right =
    declaration_edits (gives_edits
    (before_edits KwAlias (then_edits (symbol_edits ident tt)
    (before_edits SymEqual
    (after_edits {m = closing type_specifier} SymSemicolon (symbol_edits type_specifier tt)))))
    (λ a rest. refl))

struct_declaration_right :
    {b : Bool} → Changes (closing struct_declaration) b (written struct_declaration)
    (edit_write struct_declaration)
struct_declaration_right =
    declaration_edits (gives_edits
    (before_edits KwStruct (then_edits (symbol_edits ident tt)
    (before_edits SymBraceLeft (ended_list_edits SymBraceRight refl
    (list_edits (symbol_edits struct_member tt) (symbol_edits struct_member tt))))))
    (λ a rest. refl))

global_directive_right :
    {b : Bool} → Changes (closing global_directive) b (written global_directive)
    (edit_write global_directive)
global_directive_right =
    or_edits (symbol_edits enable_directive tt)
    (or_edits (symbol_edits requires_directive tt) (symbol_edits diagnostic_directive tt))

enable_directive_right :
    {b : Bool} → Changes (closing enable_directive) b (written enable_directive)
    (edit_write enable_directive)
enable_directive_right =
    directive_edits (gives_edits
    (before_edits KwEnable (ended_list_edits SymSemicolon refl names_edits)) (λ a rest. refl))

requires_directive_right :
    {b : Bool} → Changes (closing requires_directive) b (written requires_directive)
    (edit_write requires_directive)
requires_directive_right =
    directive_edits (gives_edits
    (before_edits KwRequires (ended_list_edits SymSemicolon refl names_edits)) (λ a rest. refl))

-- each rule of the grammar
pub rights :
    (n : Symbol) → IsTurned n → {b : Bool} → Changes (closing n) b (written n) (edit_write n)
rights ident k = ident_right
rights type_specifier k = type_specifier_right
rights template_list k = template_list_right
rights call k = call_right
rights arguments k = arguments_right
rights literal k = literal_right
rights primary_expression k = primary_expression_right
rights singular_expression k = singular_expression_right
rights unary_expression k = unary_expression_right
rights multiplicative_expression k = multiplicative_expression_right
rights negated_expression k = negated_expression_right
rights additive_expression k = additive_expression_right
rights shift_expression k = shift_expression_right
rights relational_expression k = relational_expression_right
rights expression k = expression_right
rights lhs_expression k = lhs_expression_right
rights attribute k = attribute_right
rights compound_statement k = compound_statement_right
rights statement k = absurd k
rights return_statement k = return_statement_right
rights if_statement k = if_statement_right
rights switch_statement k = switch_statement_right
rights loop_statement k = loop_statement_right
rights for_statement k = for_statement_right
rights while_statement k = while_statement_right
rights call_statement k = call_statement_right
rights var_statement k = var_statement_right
rights value_statement k = value_statement_right
rights break_statement k = break_statement_right
rights continue_statement k = continue_statement_right
rights discard_statement k = discard_statement_right
rights assignment k = assignment_right
rights phony_assignment k = phony_assignment_right
rights increment k = increment_right
rights decrement k = decrement_right
rights const_assert k = const_assert_right
rights switch_clause k = switch_clause_right
rights case_selector k = case_selector_right
rights continuing_statement k = continuing_statement_right
rights for_init k = for_init_right
rights for_update k = for_update_right
rights var_template k = var_template_right
rights typed_ident k = typed_ident_right
rights struct_member k = struct_member_right
rights formal_parameter k = formal_parameter_right
rights global_declaration k = absurd k
rights var_declaration k = var_declaration_right
rights const_declaration k = const_declaration_right
rights override_declaration k = override_declaration_right
rights alias_declaration k = alias_declaration_right
rights struct_declaration k = struct_declaration_right
rights function_declaration k = function_declaration_right
rights diagnostic_severity k = diagnostic_severity_right
rights global_directive k = global_directive_right
rights enable_directive k = enable_directive_right
rights requires_directive k = requires_directive_right
rights diagnostic_directive k = diagnostic_directive_right
rights unit k = absurd k
rights component k = absurd k
rights expressions k = absurd k
