-- What each rule derives is derived wherever the tokens are; written by tools/tables/rule_terms.py.
use Rattle.wgsl_model.specs.Trees.Expressions as expression_trees
use Rattle.wgsl_model.specs.Trees.Operators as operator_trees
use Rattle.wgsl_model.specs.Trees.Statements as statement_trees
use Rattle.wgsl_model.specs.Trees.Units as unit_trees
use Rattle.std.proofs.Common.{refl, ◌≡◌}
use Rattle.std.specs.Prelude.{Some}
use Rattle.wgsl_model.specs.Grammar.Symbols.{Symbol, additive_expression, alias_declaration, arguments, assignment, attribute, break_statement, call, call_statement, case_selector, component, compound_statement, const_assert, const_declaration, continue_statement, continuing_statement, decrement, diagnostic_directive, diagnostic_severity, discard_statement, enable_directive, expression, expressions, for_init, for_statement, for_update, formal_parameter, function_declaration, global_declaration, global_directive, ident, if_statement, increment, lhs_expression, literal, loop_statement, multiplicative_expression, negated_expression, override_declaration, phony_assignment, primary_expression, relational_expression, requires_directive, return_statement, shift_expression, singular_expression, statement, struct_declaration, struct_member, switch_clause, switch_statement, template_list, type_specifier, typed_ident, unary_expression, unit, value_statement, var_declaration, var_statement, var_template, while_statement}
use Rattle.wgsl_model.specs.Grammar.Written.{written}
use Rattle.wgsl_model.specs.Tokens.ClassTable.{KwAlias, KwBreak, KwCase, KwConst, KwConstAssert, KwContinue, KwContinuing, KwDefault, KwDiscard, KwEnable, KwFor, KwIf, KwLoop, KwOverride, KwRequires, KwReturn, KwStruct, KwSwitch, KwWhile, SymAnd, SymAndAnd, SymBang, SymBraceLeft, SymBraceRight, SymColon, SymComma, SymEqual, SymEqualEqual, SymForwardSlash, SymGreaterThan, SymGreaterThanEqual, SymLessThan, SymLessThanEqual, SymMinus, SymMinusMinus, SymModulo, SymNotEqual, SymOr, SymOrOr, SymParenLeft, SymParenRight, SymPlus, SymPlusPlus, SymSemicolon, SymShiftLeft, SymShiftRight, SymStar, SymTilde, SymXor, TemplateArgsEnd, TemplateArgsStart}
use Rattle.wgsl_model.specs.Trees.Operators.{BinaryOperator.bitwise_and, BinaryOperator.bitwise_or, BinaryOperator.bitwise_xor, BinaryOperator.shift_left, BinaryOperator.shift_right, BinaryOperator.short_circuit_and, BinaryOperator.short_circuit_or}
use Rattle.wgsl_model.specs.Trees.StatementsWithoutSpans.{bare_assert, bare_attributed, bare_break_if, bare_directive, bare_global_declaration, bare_member, bare_selector, bare_statement}
use Rattle.wgsl_model.specs.Trees.WithoutSpans.{bare_expression_node, bare_spanned, bare_type, no_span}
use Rattle.wgsl_theory_reread.specs.CanonicalUnits.{without_place}
use Rattle.wgsl_theory_tidy.proofs.Moved.Alike.{Alike}
use Rattle.wgsl_theory_tidy.proofs.Moved.AttributeRules.{attribute_moves, attributes_move, diagnostic_severity_moves, var_template_moves}
use Rattle.wgsl_theory_tidy.proofs.Moved.ExpressionRules.{arguments_move, binary_moves, component_moves, components_move, ident_moves, literal_moves, name_moves, node_moves, open_left_side_moves, operand_moves, operations_move, parenthesized_left_side_moves, template_moves, two_move, two_or_more_move, unary_moves}
use Rattle.wgsl_theory_tidy.proofs.Moved.StatementRules.{assignment_operator_moves, attributed_moves, block_moves, break_if_moves, clause_moves, clauses_move, continuing_moves, else_ifs_move, else_moves, initializer_moves, left_side_moves, maybe_continuing_moves, part_moves, statements_move, underscore_moves, value_kind_moves, var_kind_moves, with_attributes_moves}
use Rattle.wgsl_theory_tidy.proofs.Moved.UnitRules.{declaration_moves, diagnostic_directive_moves, directive_moves, function_declaration_moves, names_move}
use Rattle.wgsl_theory_tidy.proofs.Moved.Ways.{MovesBy, after_moves, before_moves, gives_moves, list_moves, list_or_none_moves, makes_moves, many_moves, means_moves, optional_moves, or_moves, sign_moves, symbol_moves, then_moves}

type_specifier_moves : MovesBy (written type_specifier) (Alike type_specifier)
type_specifier_moves =
    gives_moves (then_moves name_moves template_moves)
    (λ w v h. λ i. expression_trees.type_expression (h.0 i) (h.1 i))

template_list_moves : MovesBy (written template_list) (Alike template_list)
template_list_moves =
    before_moves TemplateArgsStart
    (after_moves TemplateArgsEnd
    (list_moves SymComma {bare = bare_expression_node} (symbol_moves expression)))

expressions_moves : MovesBy (written expressions) (Alike expressions)
expressions_moves = list_moves SymComma {bare = bare_expression_node} (symbol_moves expression)

call_moves : MovesBy (written call) (Alike call)
call_moves =
    gives_moves (then_moves (symbol_moves type_specifier) arguments_move)
    (λ w v h. λ i. expression_trees.call (h.0 i) (h.1 i))

arguments_moves : MovesBy (written arguments) (Alike arguments)
arguments_moves =
    before_moves SymParenLeft (after_moves SymParenRight
    (list_or_none_moves SymComma {bare = bare_expression_node} (symbol_moves expression)))

primary_expression_moves : MovesBy (written primary_expression) (Alike primary_expression)
primary_expression_moves =
    node_moves (or_moves (gives_moves (symbol_moves type_specifier)
    (λ w v h. λ i. expression_trees.type_or_identifier (h i)))
    (or_moves (gives_moves (symbol_moves call) (λ w v h. λ i. expression_trees.function_call (h i)))
    (or_moves (gives_moves (symbol_moves literal) (λ w v h. λ i. expression_trees.literal (h i)))
    (gives_moves (before_moves SymParenLeft (after_moves SymParenRight (symbol_moves expression)))
    (λ w v h. λ i. expression_trees.parenthesized (h i))))))

singular_expression_moves : MovesBy (written singular_expression) (Alike singular_expression)
singular_expression_moves = components_move (symbol_moves primary_expression)

unary_expression_moves : MovesBy (written unary_expression) (Alike unary_expression)
unary_expression_moves =
    or_moves (symbol_moves singular_expression)
    (unary_moves (or_moves (means_moves SymMinus refl)
    (or_moves (means_moves SymBang refl)
    (or_moves (means_moves SymTilde refl)
    (or_moves (means_moves SymStar refl) (means_moves SymAnd refl)))))
    (symbol_moves unary_expression))

multiplicative_expression_moves :
    MovesBy (written multiplicative_expression) (Alike multiplicative_expression)
multiplicative_expression_moves =
    operations_move (symbol_moves unary_expression)
    (operand_moves (or_moves (means_moves SymStar refl)
    (or_moves (means_moves SymForwardSlash refl) (means_moves SymModulo refl)))
    (symbol_moves unary_expression)) (λ e p s. refl)

negated_expression_moves : MovesBy (written negated_expression) (Alike negated_expression)
negated_expression_moves =
    operations_move (makes_moves {like = λ w v. bare_expression_node w ≡ bare_expression_node v}
    (before_moves SymMinusMinus (symbol_moves unary_expression))
    (λ w v s r h. λ i. expression_trees.expression_node
    (expression_trees.unary operator_trees.negation (h i)) no_span))
    (operand_moves (or_moves (means_moves SymStar refl)
    (or_moves (means_moves SymForwardSlash refl) (means_moves SymModulo refl)))
    (symbol_moves unary_expression)) (λ e p s. refl)

additive_expression_moves : MovesBy (written additive_expression) (Alike additive_expression)
additive_expression_moves =
    operations_move (symbol_moves multiplicative_expression)
    (or_moves (operand_moves (or_moves (means_moves SymPlus refl) (means_moves SymMinus refl))
    (symbol_moves multiplicative_expression))
    (gives_moves (symbol_moves negated_expression) (λ w v h. (refl, h)))) (λ e p s. refl)

shift_expression_moves : MovesBy (written shift_expression) (Alike shift_expression)
shift_expression_moves =
    or_moves (symbol_moves additive_expression)
    (or_moves (two_move SymShiftLeft shift_left (symbol_moves unary_expression))
    (two_move SymShiftRight shift_right (symbol_moves unary_expression)))

relational_expression_moves : MovesBy (written relational_expression) (Alike relational_expression)
relational_expression_moves =
    or_moves (symbol_moves shift_expression)
    (binary_moves (symbol_moves shift_expression)
    (or_moves (means_moves SymLessThan refl)
    (or_moves (means_moves SymGreaterThan refl)
    (or_moves (means_moves SymLessThanEqual refl)
    (or_moves (means_moves SymGreaterThanEqual refl)
    (or_moves (means_moves SymEqualEqual refl) (means_moves SymNotEqual refl))))))
    (symbol_moves shift_expression))

expression_moves : MovesBy (written expression) (Alike expression)
expression_moves =
    or_moves (symbol_moves relational_expression)
    (or_moves (two_or_more_move SymAndAnd short_circuit_and (symbol_moves relational_expression))
    (or_moves (two_or_more_move SymOrOr short_circuit_or (symbol_moves relational_expression))
    (or_moves (two_or_more_move SymAnd bitwise_and (symbol_moves unary_expression))
    (or_moves (two_or_more_move SymOr bitwise_or (symbol_moves unary_expression))
    (two_or_more_move SymXor bitwise_xor (symbol_moves unary_expression))))))

lhs_expression_moves : MovesBy (written lhs_expression) (Alike lhs_expression)
lhs_expression_moves = or_moves open_left_side_moves parenthesized_left_side_moves

compound_statement_moves : MovesBy (written compound_statement) (Alike compound_statement)
compound_statement_moves =
    gives_moves (then_moves attributes_move
    (before_moves SymBraceLeft (after_moves SymBraceRight statements_move)))
    (λ w v h. λ i. statement_trees.compound_statement (h.0 i) (h.1 i))

statement_moves : MovesBy (written statement) (Alike statement)
statement_moves =
    makes_moves {like = λ w v. bare_statement w ≡ bare_statement v}
    (or_moves (means_moves SymSemicolon refl)
    (or_moves (after_moves SymSemicolon (symbol_moves return_statement))
    (or_moves (symbol_moves if_statement)
    (or_moves (symbol_moves switch_statement)
    (or_moves (symbol_moves loop_statement)
    (or_moves (symbol_moves for_statement)
    (or_moves (symbol_moves while_statement)
    (or_moves (after_moves SymSemicolon (symbol_moves call_statement))
    (or_moves (after_moves SymSemicolon (symbol_moves var_statement))
    (or_moves (after_moves SymSemicolon (symbol_moves value_statement))
    (or_moves (after_moves SymSemicolon (symbol_moves break_statement))
    (or_moves (after_moves SymSemicolon (symbol_moves continue_statement))
    (or_moves (after_moves SymSemicolon (symbol_moves discard_statement))
    (or_moves (after_moves SymSemicolon (symbol_moves assignment))
    (or_moves (after_moves SymSemicolon (symbol_moves phony_assignment))
    (or_moves (after_moves SymSemicolon (symbol_moves increment))
    (or_moves (after_moves SymSemicolon (symbol_moves decrement))
    (or_moves block_moves (gives_moves (after_moves SymSemicolon (symbol_moves const_assert))
    (λ w v h. λ i. statement_trees.as_statement statement_trees.const_assert
    (h i))))))))))))))))))))) (λ w v s r h. λ i. statement_trees.statement_node (h i) no_span)

return_statement_moves : MovesBy (written return_statement) (Alike return_statement)
return_statement_moves =
    attributed_moves (gives_moves
    (before_moves KwReturn (optional_moves {bare = bare_expression_node} (symbol_moves expression)))
    (λ w v h. λ i. statement_trees.return_statement (record { expression = h i })))

if_statement_moves : MovesBy (written if_statement) (Alike if_statement)
if_statement_moves =
    attributed_moves (gives_moves (before_moves KwIf
    (then_moves (symbol_moves expression)
    (then_moves (symbol_moves compound_statement) (then_moves else_ifs_move else_moves))))
    (λ w v h. λ i. statement_trees.if_statement
    (statement_trees.if_else (statement_trees.if_clause (h.0 i) (h.1.0 i)) (h.1.1.0 i)
    (h.1.1.1 i))))

switch_statement_moves : MovesBy (written switch_statement) (Alike switch_statement)
switch_statement_moves =
    attributed_moves (gives_moves (before_moves KwSwitch
    (then_moves (symbol_moves expression)
    (then_moves attributes_move
    (before_moves SymBraceLeft (after_moves SymBraceRight clauses_move)))))
    (λ w v h. λ i. statement_trees.switch_statement
    (statement_trees.switch (h.0 i) (h.1.0 i) (h.1.1 i))))

loop_statement_moves : MovesBy (written loop_statement) (Alike loop_statement)
loop_statement_moves =
    attributed_moves (gives_moves (before_moves KwLoop
    (then_moves attributes_move (before_moves SymBraceLeft
    (after_moves SymBraceRight (then_moves statements_move maybe_continuing_moves)))))
    (λ w v h. λ i. statement_trees.loop_statement
    (statement_trees.repeat (statement_trees.compound_statement (h.0 i) (h.1.0 i)) (h.1.1 i))))

for_statement_moves : MovesBy (written for_statement) (Alike for_statement)
for_statement_moves =
    attributed_moves (gives_moves (before_moves KwFor
    (before_moves SymParenLeft (then_moves
    (after_moves SymSemicolon (part_moves (symbol_moves for_init)))
    (then_moves (after_moves SymSemicolon
    (optional_moves {bare = bare_expression_node} (symbol_moves expression)))
    (then_moves (after_moves SymParenRight (part_moves (symbol_moves for_update)))
    (symbol_moves compound_statement))))))
    (λ w v h. λ i. statement_trees.for_statement
    (statement_trees.repeat_for (h.0 i) (h.1.0 i) (h.1.1.0 i) (h.1.1.1 i))))

while_statement_moves : MovesBy (written while_statement) (Alike while_statement)
while_statement_moves =
    attributed_moves (gives_moves
    (before_moves KwWhile (then_moves (symbol_moves expression) (symbol_moves compound_statement)))
    (λ w v h. λ i. statement_trees.while_statement (statement_trees.repeat_while (h.0 i) (h.1 i))))

call_statement_moves : MovesBy (written call_statement) (Alike call_statement)
call_statement_moves =
    attributed_moves (gives_moves (symbol_moves call)
    (λ w v h. λ i. statement_trees.function_call_statement (record { call = h i })))

var_statement_moves : MovesBy (written var_statement) (Alike var_statement)
var_statement_moves =
    attributed_moves (gives_moves (then_moves var_kind_moves
    (then_moves (symbol_moves typed_ident)
    (optional_moves {bare = bare_expression_node} initializer_moves)))
    (λ w v h. λ i. statement_trees.declaration
    (record { kind = h.0 i; ident = h.1.0.0 i; ty = h.1.0.1 i; initializer = h.1.1 i })))

value_statement_moves : MovesBy (written value_statement) (Alike value_statement)
value_statement_moves =
    attributed_moves (gives_moves
    (then_moves value_kind_moves (then_moves (symbol_moves typed_ident) initializer_moves))
    (λ w v h. λ i. statement_trees.declaration
    (record { kind = h.0 i; ident = h.1.0.0 i; ty = h.1.0.1 i; initializer = Some (h.1.1 i) })))

break_statement_moves : MovesBy (written break_statement) (Alike break_statement)
break_statement_moves = attributed_moves (means_moves KwBreak refl)

continue_statement_moves : MovesBy (written continue_statement) (Alike continue_statement)
continue_statement_moves = attributed_moves (means_moves KwContinue refl)

discard_statement_moves : MovesBy (written discard_statement) (Alike discard_statement)
discard_statement_moves = attributed_moves (means_moves KwDiscard refl)

assignment_moves : MovesBy (written assignment) (Alike assignment)
assignment_moves =
    gives_moves
    (then_moves left_side_moves (then_moves assignment_operator_moves (symbol_moves expression)))
    (λ w v h. λ i. statement_trees.statement (h.0.0 i)
    (statement_trees.assignment (record { operator = h.1.0 i; lhs = h.0.1 i; rhs = h.1.1 i })))

phony_assignment_moves : MovesBy (written phony_assignment) (Alike phony_assignment)
phony_assignment_moves =
    attributed_moves (gives_moves (then_moves underscore_moves initializer_moves)
    (λ w v h. λ i. statement_trees.assignment
    (record { operator = operator_trees.equal; lhs = h.0 i; rhs = h.1 i })))

increment_moves : MovesBy (written increment) (Alike increment)
increment_moves =
    gives_moves (after_moves SymPlusPlus left_side_moves)
    (λ w v h. λ i. statement_trees.statement (h.0 i)
    (statement_trees.increment (record { expression = h.1 i })))

decrement_moves : MovesBy (written decrement) (Alike decrement)
decrement_moves =
    gives_moves (after_moves SymMinusMinus left_side_moves)
    (λ w v h. λ i. statement_trees.statement (h.0 i)
    (statement_trees.decrement (record { expression = h.1 i })))

const_assert_moves : MovesBy (written const_assert) (Alike const_assert)
const_assert_moves =
    with_attributes_moves {bare = bare_assert}
    (gives_moves (before_moves KwConstAssert (symbol_moves expression))
    (λ w v h. λ i. record { expression = h i }))

switch_clause_moves : MovesBy (written switch_clause) (Alike switch_clause)
switch_clause_moves =
    clause_moves (or_moves (gives_moves
    (before_moves KwCase (then_moves
    (list_moves SymComma {bare = bare_selector} (symbol_moves case_selector))
    (then_moves (optional_moves {bare = without_place} (sign_moves SymColon))
    (symbol_moves compound_statement)))) (λ w v h. (h.0, h.1.1)))
    (gives_moves (before_moves KwDefault
    (then_moves (optional_moves {bare = without_place} (sign_moves SymColon))
    (symbol_moves compound_statement))) (λ w v h. (refl, h.1))))

case_selector_moves : MovesBy (written case_selector) (Alike case_selector)
case_selector_moves =
    or_moves (means_moves KwDefault refl)
    (gives_moves (symbol_moves expression)
    (λ w v h. λ i. statement_trees.expression_selector (h i)))

continuing_statement_moves : MovesBy (written continuing_statement) (Alike continuing_statement)
continuing_statement_moves =
    continuing_moves (gives_moves (before_moves KwContinuing
    (then_moves attributes_move (before_moves SymBraceLeft
    (after_moves SymBraceRight (then_moves statements_move
    (optional_moves {bare = bare_attributed bare_break_if} break_if_moves))))))
    (λ w v h. ((λ i. statement_trees.compound_statement (h.0 i) (h.1.0 i)), h.1.1)))

for_init_moves : MovesBy (written for_init) (Alike for_init)
for_init_moves =
    makes_moves {like = λ w v. bare_statement w ≡ bare_statement v}
    (or_moves (symbol_moves var_statement)
    (or_moves (symbol_moves value_statement)
    (or_moves (symbol_moves assignment)
    (or_moves (symbol_moves phony_assignment)
    (or_moves (symbol_moves increment)
    (or_moves (symbol_moves decrement) (symbol_moves call_statement)))))))
    (λ w v s r h. λ i. statement_trees.statement_node (h i) no_span)

for_update_moves : MovesBy (written for_update) (Alike for_update)
for_update_moves =
    makes_moves {like = λ w v. bare_statement w ≡ bare_statement v}
    (or_moves (symbol_moves assignment)
    (or_moves (symbol_moves phony_assignment)
    (or_moves (symbol_moves increment)
    (or_moves (symbol_moves decrement) (symbol_moves call_statement)))))
    (λ w v s r h. λ i. statement_trees.statement_node (h i) no_span)

typed_ident_moves : MovesBy (written typed_ident) (Alike typed_ident)
typed_ident_moves =
    gives_moves (then_moves name_moves
    (optional_moves {bare = bare_type} (before_moves SymColon (symbol_moves type_specifier))))
    (λ w v h. (h.0, h.1))

struct_member_moves : MovesBy (written struct_member) (Alike struct_member)
struct_member_moves =
    makes_moves (then_moves attributes_move
    (then_moves (after_moves SymColon name_moves) (symbol_moves type_specifier)))
    (λ w v s r h. λ i. record {
      node = record { attributes = h.0 i; ident = h.1.0 i; ty = h.1.1 i };
      span = no_span;
    })

formal_parameter_moves : MovesBy (written formal_parameter) (Alike formal_parameter)
formal_parameter_moves =
    gives_moves (then_moves attributes_move
    (then_moves (after_moves SymColon name_moves) (symbol_moves type_specifier)))
    (λ w v h. λ i. record { attributes = h.0 i; ident = h.1.0 i; ty = h.1.1 i })

global_declaration_moves : MovesBy (written global_declaration) (Alike global_declaration)
global_declaration_moves =
    makes_moves {like = λ w v. bare_global_declaration w ≡ bare_global_declaration v}
    (or_moves (means_moves SymSemicolon refl)
    (or_moves (symbol_moves var_declaration)
    (or_moves (symbol_moves const_declaration)
    (or_moves (symbol_moves override_declaration)
    (or_moves (symbol_moves alias_declaration)
    (or_moves (symbol_moves struct_declaration)
    (or_moves (symbol_moves function_declaration)
    (gives_moves (after_moves SymSemicolon (symbol_moves const_assert))
    (λ w v h. λ i. unit_trees.as_declaration unit_trees.const_assert (h i))))))))))
    (λ w v s r h. λ i. record { node = h i; span = no_span })

var_declaration_moves : MovesBy (written var_declaration) (Alike var_declaration)
var_declaration_moves =
    declaration_moves (gives_moves
    (then_moves var_kind_moves (then_moves (symbol_moves typed_ident)
    (after_moves SymSemicolon (optional_moves {bare = bare_expression_node} initializer_moves))))
    (λ w v h. λ i. unit_trees.declaration
    (record { kind = h.0 i; ident = h.1.0.0 i; ty = h.1.0.1 i; initializer = h.1.1 i })))

const_declaration_moves : MovesBy (written const_declaration) (Alike const_declaration)
const_declaration_moves =
    declaration_moves (gives_moves
    (before_moves KwConst
    (then_moves (symbol_moves typed_ident) (after_moves SymSemicolon initializer_moves)))
    (λ w v h. λ i. unit_trees.declaration
    (record {
      kind = statement_trees.const_kind;
      ident = h.0.0 i;
      ty = h.0.1 i;
      initializer = Some (h.1 i);
    })))

override_declaration_moves : MovesBy (written override_declaration) (Alike override_declaration)
override_declaration_moves =
    declaration_moves (gives_moves
    (before_moves KwOverride (then_moves (symbol_moves typed_ident)
    (after_moves SymSemicolon (optional_moves {bare = bare_expression_node} initializer_moves))))
    (λ w v h. λ i. unit_trees.declaration
    (record
    { kind = statement_trees.override_kind; ident = h.0.0 i; ty = h.0.1 i; initializer = h.1 i })))

alias_declaration_moves : MovesBy (written alias_declaration) (Alike alias_declaration)
alias_declaration_moves =
    declaration_moves (gives_moves
    (before_moves KwAlias (then_moves name_moves
    (before_moves SymEqual (after_moves SymSemicolon (symbol_moves type_specifier)))))
    (λ w v h. λ i. unit_trees.type_alias (record { ident = h.0 i; ty = h.1 i })))

struct_declaration_moves : MovesBy (written struct_declaration) (Alike struct_declaration)
struct_declaration_moves =
    declaration_moves (gives_moves
    (before_moves KwStruct (then_moves name_moves
    (before_moves SymBraceLeft (after_moves SymBraceRight
    (list_moves SymComma {bare = bare_spanned bare_member} (symbol_moves struct_member))))))
    (λ w v h. λ i. unit_trees.structure (record { ident = h.0 i; members = h.1 i })))

global_directive_moves : MovesBy (written global_directive) (Alike global_directive)
global_directive_moves =
    or_moves (symbol_moves enable_directive)
    (or_moves (symbol_moves requires_directive) (symbol_moves diagnostic_directive))

enable_directive_moves : MovesBy (written enable_directive) (Alike enable_directive)
enable_directive_moves =
    directive_moves (gives_moves (before_moves KwEnable (after_moves SymSemicolon names_move))
    (λ w v h. λ i. unit_trees.enable (record { extensions = h i })))

requires_directive_moves : MovesBy (written requires_directive) (Alike requires_directive)
requires_directive_moves =
    directive_moves (gives_moves (before_moves KwRequires (after_moves SymSemicolon names_move))
    (λ w v h. λ i. unit_trees.requires (record { extensions = h i })))

unit_moves : MovesBy (written unit) (Alike unit)
unit_moves =
    gives_moves (then_moves (many_moves {bare = bare_directive} (symbol_moves global_directive))
    (many_moves {bare = bare_spanned bare_global_declaration} (symbol_moves global_declaration)))
    (λ w v h. λ i. record { global_directives = h.0 i; global_declarations = h.1 i })

-- each rule of the grammar
pub rules : (n : Symbol) → MovesBy (written n) (Alike n)
rules ident = ident_moves
rules type_specifier = type_specifier_moves
rules template_list = template_list_moves
rules expressions = expressions_moves
rules call = call_moves
rules arguments = arguments_moves
rules literal = literal_moves
rules primary_expression = primary_expression_moves
rules singular_expression = singular_expression_moves
rules component = component_moves
rules unary_expression = unary_expression_moves
rules multiplicative_expression = multiplicative_expression_moves
rules negated_expression = negated_expression_moves
rules additive_expression = additive_expression_moves
rules shift_expression = shift_expression_moves
rules relational_expression = relational_expression_moves
rules expression = expression_moves
rules lhs_expression = lhs_expression_moves
rules attribute = attribute_moves
rules compound_statement = compound_statement_moves
rules statement = statement_moves
rules return_statement = return_statement_moves
rules if_statement = if_statement_moves
rules switch_statement = switch_statement_moves
rules loop_statement = loop_statement_moves
rules for_statement = for_statement_moves
rules while_statement = while_statement_moves
rules call_statement = call_statement_moves
rules var_statement = var_statement_moves
rules value_statement = value_statement_moves
rules break_statement = break_statement_moves
rules continue_statement = continue_statement_moves
rules discard_statement = discard_statement_moves
rules assignment = assignment_moves
rules phony_assignment = phony_assignment_moves
rules increment = increment_moves
rules decrement = decrement_moves
rules const_assert = const_assert_moves
rules switch_clause = switch_clause_moves
rules case_selector = case_selector_moves
rules continuing_statement = continuing_statement_moves
rules for_init = for_init_moves
rules for_update = for_update_moves
rules var_template = var_template_moves
rules typed_ident = typed_ident_moves
rules struct_member = struct_member_moves
rules formal_parameter = formal_parameter_moves
rules global_declaration = global_declaration_moves
rules var_declaration = var_declaration_moves
rules const_declaration = const_declaration_moves
rules override_declaration = override_declaration_moves
rules alias_declaration = alias_declaration_moves
rules struct_declaration = struct_declaration_moves
rules function_declaration = function_declaration_moves
rules diagnostic_severity = diagnostic_severity_moves
rules global_directive = global_directive_moves
rules enable_directive = enable_directive_moves
rules requires_directive = requires_directive_moves
rules diagnostic_directive = diagnostic_directive_moves
rules unit = unit_moves
