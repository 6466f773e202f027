-- What each rule derives of renamed tokens; written by tools/tables/rule_terms.py.
use Rattle.wgsl_model.specs.Trees.Expressions as expression_trees
use Rattle.wgsl_model.specs.Trees.Operators as operator_trees
use Rattle.wgsl_model.specs.Trees.Statements as statement_trees
use Rattle.wgsl_model.specs.Trees.Units as unit_trees
use Rattle.std.proofs.Common.{refl, ◌≡◌}
use Rattle.std.specs.Prelude.{Some}
use Rattle.wgsl_model.specs.Grammar.ExpressionParts.{additive_operator, multiplicative_operator, relational_operator, unary_operator}
use Rattle.wgsl_model.specs.Grammar.Symbols.{Symbol, additive_expression, alias_declaration, arguments, assignment, attribute, break_statement, call, call_statement, case_selector, component, compound_statement, const_assert, const_declaration, continue_statement, continuing_statement, decrement, diagnostic_directive, diagnostic_severity, discard_statement, enable_directive, expression, expressions, for_init, for_statement, for_update, formal_parameter, function_declaration, global_declaration, global_directive, ident, if_statement, increment, lhs_expression, literal, loop_statement, multiplicative_expression, negated_expression, override_declaration, phony_assignment, primary_expression, relational_expression, requires_directive, return_statement, shift_expression, singular_expression, statement, struct_declaration, struct_member, switch_clause, switch_statement, template_list, type_specifier, typed_ident, unary_expression, unit, value_statement, var_declaration, var_statement, var_template, while_statement}
use Rattle.wgsl_model.specs.Grammar.Written.{written}
use Rattle.wgsl_model.specs.Tokens.ClassTable.{KwAlias, KwBreak, KwCase, KwConst, KwConstAssert, KwContinue, KwContinuing, KwDefault, KwDiscard, KwFor, KwIf, KwLoop, KwOverride, KwReturn, KwStruct, KwSwitch, KwWhile, SymAnd, SymAndAnd, SymBraceLeft, SymBraceRight, SymColon, SymComma, SymEqual, SymMinusMinus, SymOr, SymOrOr, SymParenLeft, SymParenRight, SymPlusPlus, SymSemicolon, SymShiftLeft, SymShiftRight, SymXor, TemplateArgsEnd, TemplateArgsStart}
use Rattle.wgsl_model.specs.Trees.Operators.{BinaryOperator.bitwise_and, BinaryOperator.bitwise_or, BinaryOperator.bitwise_xor, BinaryOperator.shift_left, BinaryOperator.shift_right, BinaryOperator.short_circuit_and, BinaryOperator.short_circuit_or}
use Rattle.wgsl_model_names.specs.Renamed.{Renaming, renamed_assert, renamed_attributed, renamed_break_if, renamed_directive, renamed_global, renamed_member, renamed_node, renamed_selector, renamed_spanned, renamed_type}
use Rattle.wgsl_theory_names.proofs.Derived.AttributeRules.{attribute_renames, attributes_rename, diagnostic_severity_renames, var_template_renames}
use Rattle.wgsl_theory_names.proofs.Derived.ExpressionRules.{arguments_rename, binary_renames, component_renames, components_rename, ident_renames, literal_renames, name_renames, negated_expression_renames, node_renames, open_left_side_renames, operand_renames, operations_rename, parenthesized_left_side_renames, template_renames, two_or_more_rename, two_rename, unary_renames}
use Rattle.wgsl_theory_names.proofs.Derived.Renews.{Renamed, kept, renamed_statement}
use Rattle.wgsl_theory_names.proofs.Derived.StatementRules.{assignment_operator_renames, attributed_renames, block_renames, break_if_renames, clause_renames, clauses_rename, continuing_renames, else_ifs_rename, else_renames, initializer_renames, left_side_renames, maybe_continuing_renames, part_renames, statements_rename, underscore_renames, value_kind_renames, var_kind_renames, with_attributes_renames}
use Rattle.wgsl_theory_names.proofs.Derived.UnitRules.{declaration_renames, diagnostic_directive_renames, enable_directive_renames, function_declaration_renames, requires_directive_renames, struct_member_renames}
use Rattle.wgsl_theory_names.proofs.Derived.Ways.{RenamesBy, after_renames, before_renames, gives_renames, kept_by, list_or_none_renames, list_renames, makes_renames, many_renames, means_renames, optional_renames, or_renames, sign_renames, symbol_renames, then_renames}

type_specifier_renames :
    {f : Renaming} → RenamesBy f (written type_specifier) (Renamed f type_specifier)
type_specifier_renames {f = f} =
    gives_renames (then_renames name_renames template_renames)
    (λ w v h. λ i. expression_trees.type_expression (h.0 i) (h.1 i))

template_list_renames :
    {f : Renaming} → RenamesBy f (written template_list) (Renamed f template_list)
template_list_renames {f = f} =
    before_renames TemplateArgsStart
    (after_renames TemplateArgsEnd
    (list_renames SymComma {change = renamed_node f} (symbol_renames expression)))

expressions_renames : {f : Renaming} → RenamesBy f (written expressions) (Renamed f expressions)
expressions_renames {f = f} =
    list_renames SymComma {change = renamed_node f} (symbol_renames expression)

call_renames : {f : Renaming} → RenamesBy f (written call) (Renamed f call)
call_renames {f = f} =
    gives_renames (then_renames (symbol_renames type_specifier) arguments_rename)
    (λ w v h. λ i. expression_trees.call (h.0 i) (h.1 i))

arguments_renames : {f : Renaming} → RenamesBy f (written arguments) (Renamed f arguments)
arguments_renames {f = f} =
    before_renames SymParenLeft (after_renames SymParenRight
    (list_or_none_renames SymComma {change = renamed_node f} (symbol_renames expression)))

primary_expression_renames :
    {f : Renaming} → RenamesBy f (written primary_expression) (Renamed f primary_expression)
primary_expression_renames {f = f} =
    node_renames (or_renames (gives_renames (symbol_renames type_specifier)
    (λ w v h. λ i. expression_trees.type_or_identifier (h i)))
    (or_renames
    (gives_renames (symbol_renames call) (λ w v h. λ i. expression_trees.function_call (h i)))
    (or_renames
    (gives_renames (symbol_renames literal) (λ w v h. λ i. expression_trees.literal (h i)))
    (gives_renames
    (before_renames SymParenLeft (after_renames SymParenRight (symbol_renames expression)))
    (λ w v h. λ i. expression_trees.parenthesized (h i))))))

singular_expression_renames :
    {f : Renaming} → RenamesBy f (written singular_expression) (Renamed f singular_expression)
singular_expression_renames {f = f} = components_rename (symbol_renames primary_expression)

unary_expression_renames :
    {f : Renaming} → RenamesBy f (written unary_expression) (Renamed f unary_expression)
unary_expression_renames {f = f} =
    or_renames (symbol_renames singular_expression)
    (unary_renames (kept_by unary_operator) (symbol_renames unary_expression))

multiplicative_expression_renames :
    {f : Renaming} → RenamesBy f (written multiplicative_expression)
    (Renamed f multiplicative_expression)
multiplicative_expression_renames {f = f} =
    operations_rename (symbol_renames unary_expression)
    (operand_renames (kept_by multiplicative_operator) (symbol_renames unary_expression))

additive_expression_renames :
    {f : Renaming} → RenamesBy f (written additive_expression) (Renamed f additive_expression)
additive_expression_renames {f = f} =
    operations_rename (symbol_renames multiplicative_expression)
    (or_renames
    (operand_renames (kept_by additive_operator) (symbol_renames multiplicative_expression))
    (gives_renames (symbol_renames negated_expression) (λ w v h. (refl, h))))

shift_expression_renames :
    {f : Renaming} → RenamesBy f (written shift_expression) (Renamed f shift_expression)
shift_expression_renames {f = f} =
    or_renames (symbol_renames additive_expression)
    (or_renames (two_rename SymShiftLeft shift_left (symbol_renames unary_expression))
    (two_rename SymShiftRight shift_right (symbol_renames unary_expression)))

relational_expression_renames :
    {f : Renaming} → RenamesBy f (written relational_expression) (Renamed f relational_expression)
relational_expression_renames {f = f} =
    or_renames (symbol_renames shift_expression)
    (binary_renames (symbol_renames shift_expression) (kept_by relational_operator)
    (symbol_renames shift_expression))

expression_renames : {f : Renaming} → RenamesBy f (written expression) (Renamed f expression)
expression_renames {f = f} =
    or_renames (symbol_renames relational_expression)
    (or_renames
    (two_or_more_rename SymAndAnd short_circuit_and (symbol_renames relational_expression))
    (or_renames (two_or_more_rename SymOrOr short_circuit_or (symbol_renames relational_expression))
    (or_renames (two_or_more_rename SymAnd bitwise_and (symbol_renames unary_expression))
    (or_renames (two_or_more_rename SymOr bitwise_or (symbol_renames unary_expression))
    (two_or_more_rename SymXor bitwise_xor (symbol_renames unary_expression))))))

lhs_expression_renames :
    {f : Renaming} → RenamesBy f (written lhs_expression) (Renamed f lhs_expression)
lhs_expression_renames {f = f} = or_renames open_left_side_renames parenthesized_left_side_renames

compound_statement_renames :
    {f : Renaming} → RenamesBy f (written compound_statement) (Renamed f compound_statement)
compound_statement_renames {f = f} =
    gives_renames (then_renames attributes_rename
    (before_renames SymBraceLeft (after_renames SymBraceRight statements_rename)))
    (λ w v h. λ i. statement_trees.compound_statement (h.0 i) (h.1 i))

statement_renames : {f : Renaming} → RenamesBy f (written statement) (Renamed f statement)
statement_renames {f = f} =
    makes_renames {like = λ w v. w ≡ renamed_statement f v}
    (or_renames (means_renames SymSemicolon refl)
    (or_renames (after_renames SymSemicolon (symbol_renames return_statement))
    (or_renames (symbol_renames if_statement)
    (or_renames (symbol_renames switch_statement)
    (or_renames (symbol_renames loop_statement)
    (or_renames (symbol_renames for_statement)
    (or_renames (symbol_renames while_statement)
    (or_renames (after_renames SymSemicolon (symbol_renames call_statement))
    (or_renames (after_renames SymSemicolon (symbol_renames var_statement))
    (or_renames (after_renames SymSemicolon (symbol_renames value_statement))
    (or_renames (after_renames SymSemicolon (symbol_renames break_statement))
    (or_renames (after_renames SymSemicolon (symbol_renames continue_statement))
    (or_renames (after_renames SymSemicolon (symbol_renames discard_statement))
    (or_renames (after_renames SymSemicolon (symbol_renames assignment))
    (or_renames (after_renames SymSemicolon (symbol_renames phony_assignment))
    (or_renames (after_renames SymSemicolon (symbol_renames increment))
    (or_renames (after_renames SymSemicolon (symbol_renames decrement))
    (or_renames block_renames (gives_renames
    (after_renames SymSemicolon (symbol_renames const_assert))
    (λ w v h. λ i. statement_trees.as_statement statement_trees.const_assert
    (h i))))))))))))))))))))) (λ w v s h. λ i. statement_trees.statement_node (h i) s)

return_statement_renames :
    {f : Renaming} → RenamesBy f (written return_statement) (Renamed f return_statement)
return_statement_renames {f = f} =
    attributed_renames (gives_renames
    (before_renames KwReturn
    (optional_renames {change = renamed_node f} (symbol_renames expression)))
    (λ w v h. λ i. statement_trees.return_statement (record { expression = h i })))

if_statement_renames : {f : Renaming} → RenamesBy f (written if_statement) (Renamed f if_statement)
if_statement_renames {f = f} =
    attributed_renames (gives_renames
    (before_renames KwIf (then_renames (symbol_renames expression)
    (then_renames (symbol_renames compound_statement) (then_renames else_ifs_rename else_renames))))
    (λ w v h. λ i. statement_trees.if_statement
    (statement_trees.if_else (statement_trees.if_clause (h.0 i) (h.1.0 i)) (h.1.1.0 i)
    (h.1.1.1 i))))

switch_statement_renames :
    {f : Renaming} → RenamesBy f (written switch_statement) (Renamed f switch_statement)
switch_statement_renames {f = f} =
    attributed_renames (gives_renames
    (before_renames KwSwitch (then_renames (symbol_renames expression)
    (then_renames attributes_rename
    (before_renames SymBraceLeft (after_renames SymBraceRight clauses_rename)))))
    (λ w v h. λ i. statement_trees.switch_statement
    (statement_trees.switch (h.0 i) (h.1.0 i) (h.1.1 i))))

loop_statement_renames :
    {f : Renaming} → RenamesBy f (written loop_statement) (Renamed f loop_statement)
loop_statement_renames {f = f} =
    attributed_renames (gives_renames
    (before_renames KwLoop (then_renames attributes_rename
    (before_renames SymBraceLeft
    (after_renames SymBraceRight (then_renames statements_rename maybe_continuing_renames)))))
    (λ w v h. λ i. statement_trees.loop_statement
    (statement_trees.repeat (statement_trees.compound_statement (h.0 i) (h.1.0 i)) (h.1.1 i))))

for_statement_renames :
    {f : Renaming} → RenamesBy f (written for_statement) (Renamed f for_statement)
for_statement_renames {f = f} =
    attributed_renames (gives_renames
    (before_renames KwFor (before_renames SymParenLeft
    (then_renames (after_renames SymSemicolon (part_renames (symbol_renames for_init)))
    (then_renames (after_renames SymSemicolon
    (optional_renames {change = renamed_node f} (symbol_renames expression)))
    (then_renames (after_renames SymParenRight (part_renames (symbol_renames for_update)))
    (symbol_renames compound_statement))))))
    (λ w v h. λ i. statement_trees.for_statement
    (statement_trees.repeat_for (h.0 i) (h.1.0 i) (h.1.1.0 i) (h.1.1.1 i))))

while_statement_renames :
    {f : Renaming} → RenamesBy f (written while_statement) (Renamed f while_statement)
while_statement_renames {f = f} =
    attributed_renames (gives_renames
    (before_renames KwWhile
    (then_renames (symbol_renames expression) (symbol_renames compound_statement)))
    (λ w v h. λ i. statement_trees.while_statement (statement_trees.repeat_while (h.0 i) (h.1 i))))

call_statement_renames :
    {f : Renaming} → RenamesBy f (written call_statement) (Renamed f call_statement)
call_statement_renames {f = f} =
    attributed_renames (gives_renames (symbol_renames call)
    (λ w v h. λ i. statement_trees.function_call_statement (record { call = h i })))

var_statement_renames :
    {f : Renaming} → RenamesBy f (written var_statement) (Renamed f var_statement)
var_statement_renames {f = f} =
    attributed_renames (gives_renames
    (then_renames var_kind_renames
    (then_renames (symbol_renames typed_ident)
    (optional_renames {change = renamed_node f} initializer_renames)))
    (λ w v h. λ i. statement_trees.declaration
    (record { kind = h.0 i; ident = h.1.0.0 i; ty = h.1.0.1 i; initializer = h.1.1 i })))

value_statement_renames :
    {f : Renaming} → RenamesBy f (written value_statement) (Renamed f value_statement)
value_statement_renames {f = f} =
    attributed_renames (gives_renames
    (then_renames value_kind_renames
    (then_renames (symbol_renames typed_ident) initializer_renames))
    (λ w v h. λ i. statement_trees.declaration
    (record { kind = h.0 i; ident = h.1.0.0 i; ty = h.1.0.1 i; initializer = Some (h.1.1 i) })))

break_statement_renames :
    {f : Renaming} → RenamesBy f (written break_statement) (Renamed f break_statement)
break_statement_renames {f = f} = attributed_renames (means_renames KwBreak refl)

continue_statement_renames :
    {f : Renaming} → RenamesBy f (written continue_statement) (Renamed f continue_statement)
continue_statement_renames {f = f} = attributed_renames (means_renames KwContinue refl)

discard_statement_renames :
    {f : Renaming} → RenamesBy f (written discard_statement) (Renamed f discard_statement)
discard_statement_renames {f = f} = attributed_renames (means_renames KwDiscard refl)

assignment_renames : {f : Renaming} → RenamesBy f (written assignment) (Renamed f assignment)
assignment_renames {f = f} =
    gives_renames (then_renames left_side_renames
    (then_renames assignment_operator_renames (symbol_renames expression)))
    (λ w v h. λ i. statement_trees.statement (h.0.0 i)
    (statement_trees.assignment (record { operator = h.1.0 i; lhs = h.0.1 i; rhs = h.1.1 i })))

phony_assignment_renames :
    {f : Renaming} → RenamesBy f (written phony_assignment) (Renamed f phony_assignment)
phony_assignment_renames {f = f} =
    attributed_renames (gives_renames (then_renames underscore_renames initializer_renames)
    (λ w v h. λ i. statement_trees.assignment
    (record { operator = operator_trees.equal; lhs = h.0 i; rhs = h.1 i })))

increment_renames : {f : Renaming} → RenamesBy f (written increment) (Renamed f increment)
increment_renames {f = f} =
    gives_renames (after_renames SymPlusPlus left_side_renames)
    (λ w v h. λ i. statement_trees.statement (h.0 i)
    (statement_trees.increment (record { expression = h.1 i })))

decrement_renames : {f : Renaming} → RenamesBy f (written decrement) (Renamed f decrement)
decrement_renames {f = f} =
    gives_renames (after_renames SymMinusMinus left_side_renames)
    (λ w v h. λ i. statement_trees.statement (h.0 i)
    (statement_trees.decrement (record { expression = h.1 i })))

const_assert_renames : {f : Renaming} → RenamesBy f (written const_assert) (Renamed f const_assert)
const_assert_renames {f = f} =
    with_attributes_renames {change = renamed_assert f}
    (gives_renames (before_renames KwConstAssert (symbol_renames expression))
    (λ w v h. λ i. record { expression = h i }))

switch_clause_renames :
    {f : Renaming} → RenamesBy f (written switch_clause) (Renamed f switch_clause)
switch_clause_renames {f = f} =
    clause_renames (or_renames (gives_renames
    (before_renames KwCase (then_renames
    (list_renames SymComma {change = renamed_selector f} (symbol_renames case_selector))
    (then_renames (optional_renames {change = kept} (sign_renames SymColon))
    (symbol_renames compound_statement)))) (λ w v h. (h.0, h.1.1)))
    (gives_renames (before_renames KwDefault
    (then_renames (optional_renames {change = kept} (sign_renames SymColon))
    (symbol_renames compound_statement))) (λ w v h. (refl, h.1))))

case_selector_renames :
    {f : Renaming} → RenamesBy f (written case_selector) (Renamed f case_selector)
case_selector_renames {f = f} =
    or_renames (means_renames KwDefault refl)
    (gives_renames (symbol_renames expression)
    (λ w v h. λ i. statement_trees.expression_selector (h i)))

continuing_statement_renames :
    {f : Renaming} → RenamesBy f (written continuing_statement) (Renamed f continuing_statement)
continuing_statement_renames {f = f} =
    continuing_renames (gives_renames
    (before_renames KwContinuing (then_renames attributes_rename
    (before_renames SymBraceLeft (after_renames SymBraceRight
    (then_renames statements_rename
    (optional_renames {change = renamed_attributed f (renamed_break_if f)} break_if_renames))))))
    (λ w v h. ((λ i. statement_trees.compound_statement (h.0 i) (h.1.0 i)), h.1.1)))

for_init_renames : {f : Renaming} → RenamesBy f (written for_init) (Renamed f for_init)
for_init_renames {f = f} =
    makes_renames {like = λ w v. w ≡ renamed_statement f v}
    (or_renames (symbol_renames var_statement)
    (or_renames (symbol_renames value_statement)
    (or_renames (symbol_renames assignment)
    (or_renames (symbol_renames phony_assignment)
    (or_renames (symbol_renames increment)
    (or_renames (symbol_renames decrement) (symbol_renames call_statement)))))))
    (λ w v s h. λ i. statement_trees.statement_node (h i) s)

for_update_renames : {f : Renaming} → RenamesBy f (written for_update) (Renamed f for_update)
for_update_renames {f = f} =
    makes_renames {like = λ w v. w ≡ renamed_statement f v}
    (or_renames (symbol_renames assignment)
    (or_renames (symbol_renames phony_assignment)
    (or_renames (symbol_renames increment)
    (or_renames (symbol_renames decrement) (symbol_renames call_statement)))))
    (λ w v s h. λ i. statement_trees.statement_node (h i) s)

typed_ident_renames : {f : Renaming} → RenamesBy f (written typed_ident) (Renamed f typed_ident)
typed_ident_renames {f = f} =
    gives_renames (then_renames name_renames
    (optional_renames {change = renamed_type f}
    (before_renames SymColon (symbol_renames type_specifier)))) (λ w v h. (h.0, h.1))

formal_parameter_renames :
    {f : Renaming} → RenamesBy f (written formal_parameter) (Renamed f formal_parameter)
formal_parameter_renames {f = f} =
    gives_renames (then_renames attributes_rename
    (then_renames (after_renames SymColon name_renames) (symbol_renames type_specifier)))
    (λ w v h. λ i. record { attributes = h.0 i; ident = h.1.0 i; ty = h.1.1 i })

global_declaration_renames :
    {f : Renaming} → RenamesBy f (written global_declaration) (Renamed f global_declaration)
global_declaration_renames {f = f} =
    makes_renames {like = λ w v. w ≡ renamed_global f v}
    (or_renames (means_renames SymSemicolon refl)
    (or_renames (symbol_renames var_declaration)
    (or_renames (symbol_renames const_declaration)
    (or_renames (symbol_renames override_declaration)
    (or_renames (symbol_renames alias_declaration)
    (or_renames (symbol_renames struct_declaration)
    (or_renames (symbol_renames function_declaration)
    (gives_renames (after_renames SymSemicolon (symbol_renames const_assert))
    (λ w v h. λ i. unit_trees.as_declaration unit_trees.const_assert (h i))))))))))
    (λ w v s h. λ i. record { node = h i; span = s })

var_declaration_renames :
    {f : Renaming} → RenamesBy f (written var_declaration) (Renamed f var_declaration)
var_declaration_renames {f = f} =
    declaration_renames (gives_renames
    (then_renames var_kind_renames
    (then_renames (symbol_renames typed_ident)
    (after_renames SymSemicolon (optional_renames {change = renamed_node f} initializer_renames))))
    (λ w v h. λ i. unit_trees.declaration
    (record { kind = h.0 i; ident = h.1.0.0 i; ty = h.1.0.1 i; initializer = h.1.1 i })))

const_declaration_renames :
    {f : Renaming} → RenamesBy f (written const_declaration) (Renamed f const_declaration)
const_declaration_renames {f = f} =
    declaration_renames (gives_renames
    (before_renames KwConst
    (then_renames (symbol_renames typed_ident) (after_renames SymSemicolon initializer_renames)))
    (λ w v h. λ i. unit_trees.declaration
    (record {
      kind = statement_trees.const_kind;
      ident = h.0.0 i;
      ty = h.0.1 i;
      initializer = Some (h.1 i);
    })))

override_declaration_renames :
    {f : Renaming} → RenamesBy f (written override_declaration) (Renamed f override_declaration)
override_declaration_renames {f = f} =
    declaration_renames (gives_renames
    (before_renames KwOverride (then_renames (symbol_renames typed_ident)
    (after_renames SymSemicolon (optional_renames {change = renamed_node f} initializer_renames))))
    (λ w v h. λ i. unit_trees.declaration
    (record
    { kind = statement_trees.override_kind; ident = h.0.0 i; ty = h.0.1 i; initializer = h.1 i })))

alias_declaration_renames :
    {f : Renaming} → RenamesBy f (written alias_declaration) (Renamed f alias_declaration)
alias_declaration_renames {f = f} =
    declaration_renames (gives_renames
    (before_renames KwAlias (then_renames name_renames
    (before_renames SymEqual (after_renames SymSemicolon (symbol_renames type_specifier)))))
    (λ w v h. λ i. unit_trees.type_alias (record { ident = h.0 i; ty = h.1 i })))

struct_declaration_renames :
    {f : Renaming} → RenamesBy f (written struct_declaration) (Renamed f struct_declaration)
struct_declaration_renames {f = f} =
    declaration_renames (gives_renames
    (before_renames KwStruct (then_renames name_renames
    (before_renames SymBraceLeft (after_renames SymBraceRight
    (list_renames SymComma {change = renamed_spanned (renamed_member f)}
    (symbol_renames struct_member))))))
    (λ w v h. λ i. unit_trees.structure (record { ident = h.0 i; members = h.1 i })))

global_directive_renames :
    {f : Renaming} → RenamesBy f (written global_directive) (Renamed f global_directive)
global_directive_renames {f = f} =
    or_renames (symbol_renames enable_directive)
    (or_renames (symbol_renames requires_directive) (symbol_renames diagnostic_directive))

unit_renames : {f : Renaming} → RenamesBy f (written unit) (Renamed f unit)
unit_renames {f = f} =
    gives_renames (then_renames
    (many_renames {change = renamed_directive f} (symbol_renames global_directive))
    (many_renames {change = renamed_spanned (renamed_global f)}
    (symbol_renames global_declaration)))
    (λ w v h. λ i. record { global_directives = h.0 i; global_declarations = h.1 i })

-- each rule of the grammar
pub rules : {f : Renaming} → (n : Symbol) → RenamesBy f (written n) (Renamed f n)
rules ident = ident_renames
rules type_specifier = type_specifier_renames
rules template_list = template_list_renames
rules expressions = expressions_renames
rules call = call_renames
rules arguments = arguments_renames
rules literal = literal_renames
rules primary_expression = primary_expression_renames
rules singular_expression = singular_expression_renames
rules component = component_renames
rules unary_expression = unary_expression_renames
rules multiplicative_expression = multiplicative_expression_renames
rules negated_expression = negated_expression_renames
rules additive_expression = additive_expression_renames
rules shift_expression = shift_expression_renames
rules relational_expression = relational_expression_renames
rules expression = expression_renames
rules lhs_expression = lhs_expression_renames
rules attribute = attribute_renames
rules compound_statement = compound_statement_renames
rules statement = statement_renames
rules return_statement = return_statement_renames
rules if_statement = if_statement_renames
rules switch_statement = switch_statement_renames
rules loop_statement = loop_statement_renames
rules for_statement = for_statement_renames
rules while_statement = while_statement_renames
rules call_statement = call_statement_renames
rules var_statement = var_statement_renames
rules value_statement = value_statement_renames
rules break_statement = break_statement_renames
rules continue_statement = continue_statement_renames
rules discard_statement = discard_statement_renames
rules assignment = assignment_renames
rules phony_assignment = phony_assignment_renames
rules increment = increment_renames
rules decrement = decrement_renames
rules const_assert = const_assert_renames
rules switch_clause = switch_clause_renames
rules case_selector = case_selector_renames
rules continuing_statement = continuing_statement_renames
rules for_init = for_init_renames
rules for_update = for_update_renames
rules var_template = var_template_renames
rules typed_ident = typed_ident_renames
rules struct_member = struct_member_renames
rules formal_parameter = formal_parameter_renames
rules global_declaration = global_declaration_renames
rules var_declaration = var_declaration_renames
rules const_declaration = const_declaration_renames
rules override_declaration = override_declaration_renames
rules alias_declaration = alias_declaration_renames
rules struct_declaration = struct_declaration_renames
rules function_declaration = function_declaration_renames
rules diagnostic_severity = diagnostic_severity_renames
rules global_directive = global_directive_renames
rules enable_directive = enable_directive_renames
rules requires_directive = requires_directive_renames
rules diagnostic_directive = diagnostic_directive_renames
rules unit = unit_renames
