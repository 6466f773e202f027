-- What each rule derives is read again; written by tools/tables/rule_terms.py.
use Rattle.wgsl_model.specs.Trees.Expressions as expression_trees
use Rattle.wgsl_model.specs.Trees.Operators as operator_trees
use Rattle.wgsl_model.specs.Trees.Statements as statement_trees
use Rattle.wgsl_model.specs.Trees.Units as unit_trees
use Rattle.grammar.specs.Grammar.{Grammar.symbol}
use Rattle.std.proofs.Common.{refl}
use Rattle.std.specs.Prelude.{Some}
use Rattle.wgsl_model.specs.Grammar.Symbols.{Symbol, additive_expression, alias_declaration, arguments, assignment, attribute, break_statement, call, call_statement, case_selector, component, compound_statement, const_assert, const_declaration, continue_statement, continuing_statement, decrement, diagnostic_directive, diagnostic_severity, discard_statement, enable_directive, expression, expressions, for_init, for_statement, for_update, formal_parameter, function_declaration, global_declaration, global_directive, ident, if_statement, increment, lhs_expression, literal, loop_statement, multiplicative_expression, negated_expression, override_declaration, phony_assignment, primary_expression, relational_expression, requires_directive, return_statement, shift_expression, singular_expression, statement, struct_declaration, struct_member, switch_clause, switch_statement, template_list, type_specifier, typed_ident, unary_expression, unit, value_statement, var_declaration, var_statement, var_template, while_statement}
use Rattle.wgsl_model.specs.Grammar.Written.{written}
use Rattle.wgsl_model.specs.Tokens.ClassTable.{KwAlias, KwBreak, KwConst, KwContinue, KwContinuing, KwDefault, KwDiscard, KwEnable, KwFor, KwIf, KwLoop, KwOverride, KwRequires, KwReturn, KwStruct, KwSwitch, KwWhile, SymAnd, SymAndAnd, SymBang, SymBraceLeft, SymBraceRight, SymColon, SymEqual, SymEqualEqual, SymForwardSlash, SymGreaterThan, SymGreaterThanEqual, SymLessThan, SymLessThanEqual, SymMinus, SymMinusMinus, SymModulo, SymNotEqual, SymOr, SymOrOr, SymParenLeft, SymParenRight, SymPlusPlus, SymSemicolon, SymShiftLeft, SymShiftRight, SymStar, SymTilde, SymXor, TemplateArgsEnd, TemplateArgsStart}
use Rattle.wgsl_model.specs.Trees.Operators.{BinaryOperator.bitwise_and, BinaryOperator.bitwise_or, BinaryOperator.bitwise_xor, BinaryOperator.short_circuit_and, BinaryOperator.short_circuit_or}
use Rattle.wgsl_model.specs.Trees.StatementsWithoutSpans.{bare_attributed, bare_break_if, bare_member}
use Rattle.wgsl_model.specs.Trees.WithoutSpans.{bare_expression_node, bare_spanned, bare_type, no_span}
use Rattle.wgsl_theory_reread.proofs.Again.{Same, write}
use Rattle.wgsl_theory_reread.proofs.EachRule.AttributeRules.{attribute_node_reads}
use Rattle.wgsl_theory_reread.proofs.EachRule.ExpressionRules.{addend_reads, arguments_read, components_reads, literal_reads, node_reads, one_operation_reads, open_left_side_reads, operand_reads, operation_reads, operations_reads, parenthesized_left_side_reads, template_reads, two_or_more_reads}
use Rattle.wgsl_theory_reread.proofs.EachRule.StatementParts.{assignment_operator_reads, break_if_reads, clauses_read, else_ifs_read, else_reads, maybe_continuing_reads, part_reads, statements_read}
use Rattle.wgsl_theory_reread.proofs.EachRule.StatementRules.{assert_reads, attributed_reads, block_reads, continuing_reads, ended_reads, item_reads, left_side_reads, part_of_header_reads, switch_clause_reads, underscore_reads, unended_reads, value_kind_reads}
use Rattle.wgsl_theory_reread.proofs.EachRule.UnitParts.{attributed_ident_reads, names_read}
use Rattle.wgsl_theory_reread.proofs.EachRule.UnitRules.{declaration_reads, diagnostic_directive_reads, directive_reads, function_declaration_reads, placed_declaration_reads, unit_reads}
use Rattle.wgsl_theory_reread.proofs.Rules.{IsRead, attributes_read, initializer_reads, symbol_reads, var_kind_reads}
use Rattle.wgsl_theory_reread.proofs.Ways.{Reads, after_reads, before_reads, gives_reads, list_or_none_reads, list_reads, makes_reads, means_reads, optional_reads, or_reads, then_reads}

type_specifier_reads : Reads (written type_specifier) (write type_specifier) (Same type_specifier)
type_specifier_reads =
    gives_reads (then_reads (symbol_reads ident) template_reads) (λ a rest. refl)
    (λ w a h. λ i. expression_trees.type_expression (h.0 i) (h.1 i))

template_list_reads : Reads (written template_list) (write template_list) (Same template_list)
template_list_reads =
    before_reads TemplateArgsStart refl
    (after_reads TemplateArgsEnd refl
    (list_reads {bare = bare_expression_node} {kept = bare_expression_node}
    (symbol_reads expression)))

expressions_reads : Reads (written expressions) (write expressions) (Same expressions)
expressions_reads =
    list_reads {bare = bare_expression_node} {kept = bare_expression_node} (symbol_reads expression)

call_reads : Reads (written call) (write call) (Same call)
call_reads =
    gives_reads (then_reads (symbol_reads type_specifier) arguments_read) (λ a rest. refl)
    (λ w a h. λ i. expression_trees.call (h.0 i) (h.1 i))

arguments_reads : Reads (written arguments) (write arguments) (Same arguments)
arguments_reads =
    before_reads SymParenLeft refl
    (after_reads SymParenRight refl
    (list_or_none_reads {bare = bare_expression_node} {kept = bare_expression_node}
    (symbol_reads expression)))

primary_expression_reads :
    Reads (written primary_expression) (write primary_expression) (Same primary_expression)
primary_expression_reads =
    node_reads (or_reads (gives_reads (symbol_reads type_specifier) (λ a rest. refl)
    (λ w a h. λ i. expression_trees.type_or_identifier (h i)))
    (or_reads (gives_reads (symbol_reads call) (λ a rest. refl)
    (λ w a h. λ i. expression_trees.function_call (h i)))
    (or_reads (gives_reads (symbol_reads literal) (λ a rest. refl)
    (λ w a h. λ i. expression_trees.literal (h i)))
    (gives_reads
    (before_reads SymParenLeft refl (after_reads SymParenRight refl (symbol_reads expression)))
    (λ a rest. refl) (λ w a h. λ i. expression_trees.parenthesized (h i))))))

singular_expression_reads :
    Reads (written singular_expression) (write singular_expression) (Same singular_expression)
singular_expression_reads = components_reads (symbol_reads primary_expression)

unary_expression_reads :
    Reads (written unary_expression) (write unary_expression) (Same unary_expression)
unary_expression_reads =
    or_reads (symbol_reads singular_expression)
    (operation_reads (or_reads (means_reads SymMinus refl (λ rest. refl) refl)
    (or_reads (means_reads SymBang refl (λ rest. refl) refl)
    (or_reads (means_reads SymTilde refl (λ rest. refl) refl)
    (or_reads (means_reads SymStar refl (λ rest. refl) refl)
    (means_reads SymAnd refl (λ rest. refl) refl))))) (symbol_reads unary_expression))

multiplicative_expression_reads :
    Reads (written multiplicative_expression) (write multiplicative_expression)
    (Same multiplicative_expression)
multiplicative_expression_reads =
    operations_reads (symbol_reads unary_expression)
    (operand_reads (or_reads (means_reads SymStar refl (λ rest. refl) refl)
    (or_reads (means_reads SymForwardSlash refl (λ rest. refl) refl)
    (means_reads SymModulo refl (λ rest. refl) refl))) (symbol_reads unary_expression))

additive_expression_reads :
    Reads (written additive_expression) (write additive_expression) (Same additive_expression)
additive_expression_reads = operations_reads (symbol_reads multiplicative_expression) addend_reads

shift_expression_reads :
    Reads (written shift_expression) (write shift_expression) (Same shift_expression)
shift_expression_reads =
    or_reads (symbol_reads additive_expression)
    (or_reads (one_operation_reads (symbol_reads unary_expression)
    (means_reads SymShiftLeft refl (λ rest. refl) refl) (symbol_reads unary_expression))
    (one_operation_reads (symbol_reads unary_expression)
    (means_reads SymShiftRight refl (λ rest. refl) refl) (symbol_reads unary_expression)))

relational_expression_reads :
    Reads (written relational_expression) (write relational_expression) (Same relational_expression)
relational_expression_reads =
    or_reads (symbol_reads shift_expression)
    (one_operation_reads (symbol_reads shift_expression)
    (or_reads (means_reads SymLessThan refl (λ rest. refl) refl)
    (or_reads (means_reads SymGreaterThan refl (λ rest. refl) refl)
    (or_reads (means_reads SymLessThanEqual refl (λ rest. refl) refl)
    (or_reads (means_reads SymGreaterThanEqual refl (λ rest. refl) refl)
    (or_reads (means_reads SymEqualEqual refl (λ rest. refl) refl)
    (means_reads SymNotEqual refl (λ rest. refl) refl)))))) (symbol_reads shift_expression))

expression_reads : Reads (written expression) (write expression) (Same expression)
expression_reads =
    or_reads (symbol_reads relational_expression)
    (or_reads
    (two_or_more_reads SymAndAnd short_circuit_and refl refl (symbol_reads relational_expression))
    (or_reads
    (two_or_more_reads SymOrOr short_circuit_or refl refl (symbol_reads relational_expression))
    (or_reads (two_or_more_reads SymAnd bitwise_and refl refl (symbol_reads unary_expression))
    (or_reads (two_or_more_reads SymOr bitwise_or refl refl (symbol_reads unary_expression))
    (two_or_more_reads SymXor bitwise_xor refl refl (symbol_reads unary_expression))))))

lhs_expression_reads : Reads (written lhs_expression) (write lhs_expression) (Same lhs_expression)
lhs_expression_reads = or_reads open_left_side_reads parenthesized_left_side_reads

compound_statement_reads :
    Reads (written compound_statement) (write compound_statement) (Same compound_statement)
compound_statement_reads =
    gives_reads (then_reads (attributes_read attribute_node_reads)
    (before_reads SymBraceLeft refl (after_reads SymBraceRight refl statements_read)))
    (λ a rest. refl) (λ w a h. λ i. statement_trees.compound_statement (h.0 i) (h.1 i))

statement_reads : Reads (written statement) (write statement) (Same statement)
statement_reads =
    item_reads (or_reads (means_reads SymSemicolon refl (λ rest. refl) refl)
    (or_reads (ended_reads {g = symbol return_statement} (λ v xs ys h. h))
    (or_reads (unended_reads {g = symbol if_statement} (λ v xs ys h. h))
    (or_reads (unended_reads {g = symbol switch_statement} (λ v xs ys h. h))
    (or_reads (unended_reads {g = symbol loop_statement} (λ v xs ys h. h))
    (or_reads (unended_reads {g = symbol for_statement} (λ v xs ys h. h))
    (or_reads (unended_reads {g = symbol while_statement} (λ v xs ys h. h))
    (or_reads (ended_reads {g = symbol call_statement} (λ v xs ys h. h))
    (or_reads (ended_reads {g = symbol var_statement} (λ v xs ys h. h))
    (or_reads (ended_reads {g = symbol value_statement} (λ v xs ys h. h))
    (or_reads (ended_reads {g = symbol break_statement} (λ v xs ys h. h))
    (or_reads (ended_reads {g = symbol continue_statement} (λ v xs ys h. h))
    (or_reads (ended_reads {g = symbol discard_statement} (λ v xs ys h. h))
    (or_reads (ended_reads {g = symbol assignment} (λ v xs ys h. h))
    (or_reads (ended_reads {g = symbol phony_assignment} (λ v xs ys h. h))
    (or_reads (ended_reads {g = symbol increment} (λ v xs ys h. h))
    (or_reads (ended_reads {g = symbol decrement} (λ v xs ys h. h))
    (or_reads block_reads (gives_reads (after_reads SymSemicolon refl (symbol_reads const_assert))
    (λ a rest. refl) (λ w a h. λ i. statement_trees.as_statement statement_trees.const_assert
    (h i)))))))))))))))))))))

return_statement_reads :
    Reads (written return_statement) (write return_statement) (Same return_statement)
return_statement_reads =
    attributed_reads attribute_node_reads
    (gives_reads (before_reads KwReturn refl
    (optional_reads {bare = bare_expression_node} {kept = bare_expression_node}
    (symbol_reads expression))) (λ a rest. refl)
    (λ w a h. λ i. statement_trees.return_statement (record { expression = h i })))

if_statement_reads : Reads (written if_statement) (write if_statement) (Same if_statement)
if_statement_reads =
    attributed_reads attribute_node_reads
    (gives_reads (before_reads KwIf refl
    (then_reads (symbol_reads expression)
    (then_reads (symbol_reads compound_statement) (then_reads else_ifs_read else_reads))))
    (λ a rest. refl) (λ w a h. λ i. statement_trees.if_statement
    (statement_trees.if_else (statement_trees.if_clause (h.0 i) (h.1.0 i)) (h.1.1.0 i)
    (h.1.1.1 i))))

switch_statement_reads :
    Reads (written switch_statement) (write switch_statement) (Same switch_statement)
switch_statement_reads =
    attributed_reads attribute_node_reads
    (gives_reads (before_reads KwSwitch refl
    (then_reads (symbol_reads expression)
    (then_reads (attributes_read attribute_node_reads)
    (before_reads SymBraceLeft refl (after_reads SymBraceRight refl clauses_read)))))
    (λ a rest. refl) (λ w a h. λ i. statement_trees.switch_statement
    (statement_trees.switch (h.0 i) (h.1.0 i) (h.1.1 i))))

loop_statement_reads : Reads (written loop_statement) (write loop_statement) (Same loop_statement)
loop_statement_reads =
    attributed_reads attribute_node_reads
    (gives_reads (before_reads KwLoop refl
    (then_reads (attributes_read attribute_node_reads)
    (before_reads SymBraceLeft refl
    (after_reads SymBraceRight refl (then_reads statements_read maybe_continuing_reads)))))
    (λ a rest. refl) (λ w a h. λ i. statement_trees.loop_statement
    (statement_trees.repeat (statement_trees.compound_statement (h.0 i) (h.1.0 i)) (h.1.1 i))))

for_statement_reads : Reads (written for_statement) (write for_statement) (Same for_statement)
for_statement_reads =
    attributed_reads attribute_node_reads
    (gives_reads (before_reads KwFor refl
    (before_reads SymParenLeft refl
    (then_reads (after_reads SymSemicolon refl (part_reads (symbol_reads for_init)))
    (then_reads (after_reads SymSemicolon refl
    (optional_reads {bare = bare_expression_node} {kept = bare_expression_node}
    (symbol_reads expression))) (then_reads
    (after_reads SymParenRight refl (part_reads (symbol_reads for_update)))
    (symbol_reads compound_statement)))))) (λ a rest. refl)
    (λ w a h. λ i. statement_trees.for_statement
    (statement_trees.repeat_for (h.0 i) (h.1.0 i) (h.1.1.0 i) (h.1.1.1 i))))

while_statement_reads :
    Reads (written while_statement) (write while_statement) (Same while_statement)
while_statement_reads =
    attributed_reads attribute_node_reads
    (gives_reads (before_reads KwWhile refl
    (then_reads (symbol_reads expression) (symbol_reads compound_statement))) (λ a rest. refl)
    (λ w a h. λ i. statement_trees.while_statement (statement_trees.repeat_while (h.0 i) (h.1 i))))

call_statement_reads : Reads (written call_statement) (write call_statement) (Same call_statement)
call_statement_reads =
    attributed_reads attribute_node_reads
    (gives_reads (symbol_reads call) (λ a rest. refl)
    (λ w a h. λ i. statement_trees.function_call_statement (record { call = h i })))

var_statement_reads : Reads (written var_statement) (write var_statement) (Same var_statement)
var_statement_reads =
    attributed_reads attribute_node_reads
    (gives_reads (then_reads var_kind_reads
    (then_reads (symbol_reads typed_ident)
    (optional_reads {bare = bare_expression_node} {kept = bare_expression_node} initializer_reads)))
    (λ a rest. refl) (λ w a h. λ i. statement_trees.declaration
    (record { kind = h.0 i; ident = h.1.0.0 i; ty = h.1.0.1 i; initializer = h.1.1 i })))

value_statement_reads :
    Reads (written value_statement) (write value_statement) (Same value_statement)
value_statement_reads =
    attributed_reads attribute_node_reads
    (gives_reads
    (then_reads value_kind_reads (then_reads (symbol_reads typed_ident) initializer_reads))
    (λ a rest. refl) (λ w a h. λ i. statement_trees.declaration
    (record { kind = h.0 i; ident = h.1.0.0 i; ty = h.1.0.1 i; initializer = Some (h.1.1 i) })))

break_statement_reads :
    Reads (written break_statement) (write break_statement) (Same break_statement)
break_statement_reads =
    attributed_reads attribute_node_reads (means_reads KwBreak refl (λ rest. refl) refl)

continue_statement_reads :
    Reads (written continue_statement) (write continue_statement) (Same continue_statement)
continue_statement_reads =
    attributed_reads attribute_node_reads (means_reads KwContinue refl (λ rest. refl) refl)

discard_statement_reads :
    Reads (written discard_statement) (write discard_statement) (Same discard_statement)
discard_statement_reads =
    attributed_reads attribute_node_reads (means_reads KwDiscard refl (λ rest. refl) refl)

assignment_reads : Reads (written assignment) (write assignment) (Same assignment)
assignment_reads =
    gives_reads (then_reads (left_side_reads attribute_node_reads)
    (then_reads assignment_operator_reads (symbol_reads expression))) (λ a rest. refl)
    (λ w a h. λ i. statement_trees.statement (h.0.0 i)
    (statement_trees.assignment (record { operator = h.1.0 i; lhs = h.0.1 i; rhs = h.1.1 i })))

phony_assignment_reads :
    Reads (written phony_assignment) (write phony_assignment) (Same phony_assignment)
phony_assignment_reads =
    attributed_reads attribute_node_reads
    (gives_reads (then_reads underscore_reads initializer_reads) (λ a rest. refl)
    (λ w a h. λ i. statement_trees.assignment
    (record { operator = operator_trees.equal; lhs = h.0 i; rhs = h.1 i })))

increment_reads : Reads (written increment) (write increment) (Same increment)
increment_reads =
    gives_reads (after_reads SymPlusPlus refl (left_side_reads attribute_node_reads))
    (λ a rest. refl) (λ w a h. λ i. statement_trees.statement (h.0 i)
    (statement_trees.increment (record { expression = h.1 i })))

decrement_reads : Reads (written decrement) (write decrement) (Same decrement)
decrement_reads =
    gives_reads (after_reads SymMinusMinus refl (left_side_reads attribute_node_reads))
    (λ a rest. refl) (λ w a h. λ i. statement_trees.statement (h.0 i)
    (statement_trees.decrement (record { expression = h.1 i })))

const_assert_reads : Reads (written const_assert) (write const_assert) (Same const_assert)
const_assert_reads =
    gives_reads (then_reads (attributes_read attribute_node_reads) assert_reads) (λ a rest. refl)
    (λ w a h. λ i. record { attributes = h.0 i; node = h.1 i })

case_selector_reads : Reads (written case_selector) (write case_selector) (Same case_selector)
case_selector_reads =
    or_reads (means_reads KwDefault refl (λ rest. refl) refl)
    (gives_reads (symbol_reads expression) (λ a rest. refl)
    (λ w a h. λ i. statement_trees.expression_selector (h i)))

continuing_statement_reads :
    Reads (written continuing_statement) (write continuing_statement) (Same continuing_statement)
continuing_statement_reads =
    continuing_reads attribute_node_reads
    (gives_reads (before_reads KwContinuing refl
    (then_reads (attributes_read attribute_node_reads)
    (before_reads SymBraceLeft refl
    (after_reads SymBraceRight refl
    (then_reads statements_read (optional_reads {bare = bare_attributed bare_break_if}
    {kept = bare_attributed bare_break_if} (break_if_reads attribute_node_reads)))))))
    (λ a rest. refl)
    (λ w a h. ((λ i. statement_trees.compound_statement (h.0 i) (h.1.0 i)), h.1.1)))

for_init_reads : Reads (written for_init) (write for_init) (Same for_init)
for_init_reads =
    part_of_header_reads (or_reads (symbol_reads var_statement)
    (or_reads (symbol_reads value_statement)
    (or_reads (symbol_reads assignment)
    (or_reads (symbol_reads phony_assignment)
    (or_reads (symbol_reads increment)
    (or_reads (symbol_reads decrement) (symbol_reads call_statement)))))))

for_update_reads : Reads (written for_update) (write for_update) (Same for_update)
for_update_reads =
    part_of_header_reads (or_reads (symbol_reads assignment)
    (or_reads (symbol_reads phony_assignment)
    (or_reads (symbol_reads increment)
    (or_reads (symbol_reads decrement) (symbol_reads call_statement)))))

typed_ident_reads : Reads (written typed_ident) (write typed_ident) (Same typed_ident)
typed_ident_reads =
    gives_reads (then_reads (symbol_reads ident)
    (optional_reads {bare = bare_type} {kept = bare_type}
    (before_reads SymColon refl (symbol_reads type_specifier)))) (λ a rest. refl)
    (λ w a h. (h.0, h.1))

struct_member_reads : Reads (written struct_member) (write struct_member) (Same struct_member)
struct_member_reads =
    makes_reads (attributed_ident_reads attribute_node_reads) (λ a span rest. refl)
    (λ w a s r h. λ i. record {
      node = record { attributes = h.0 i; ident = h.1.0 i; ty = h.1.1 i };
      span = no_span;
    })

formal_parameter_reads :
    Reads (written formal_parameter) (write formal_parameter) (Same formal_parameter)
formal_parameter_reads =
    gives_reads (attributed_ident_reads attribute_node_reads) (λ a rest. refl)
    (λ w a h. λ i. record { attributes = h.0 i; ident = h.1.0 i; ty = h.1.1 i })

global_declaration_reads :
    Reads (written global_declaration) (write global_declaration) (Same global_declaration)
global_declaration_reads =
    placed_declaration_reads (or_reads (means_reads SymSemicolon refl (λ rest. refl) refl)
    (or_reads (symbol_reads var_declaration)
    (or_reads (symbol_reads const_declaration)
    (or_reads (symbol_reads override_declaration)
    (or_reads (symbol_reads alias_declaration)
    (or_reads (symbol_reads struct_declaration)
    (or_reads (symbol_reads function_declaration)
    (gives_reads (after_reads SymSemicolon refl (symbol_reads const_assert)) (λ a rest. refl)
    (λ w a h. λ i. unit_trees.as_declaration unit_trees.const_assert (h i))))))))))

var_declaration_reads :
    Reads (written var_declaration) (write var_declaration) (Same var_declaration)
var_declaration_reads =
    declaration_reads attribute_node_reads
    (gives_reads (then_reads var_kind_reads
    (then_reads (symbol_reads typed_ident)
    (after_reads SymSemicolon refl
    (optional_reads {bare = bare_expression_node} {kept = bare_expression_node}
    initializer_reads)))) (λ a rest. refl)
    (λ w a h. λ i. unit_trees.declaration
    (record { kind = h.0 i; ident = h.1.0.0 i; ty = h.1.0.1 i; initializer = h.1.1 i })))

const_declaration_reads :
    Reads (written const_declaration) (write const_declaration) (Same const_declaration)
const_declaration_reads =
    declaration_reads attribute_node_reads
    (gives_reads (before_reads KwConst refl
    (then_reads (symbol_reads typed_ident) (after_reads SymSemicolon refl initializer_reads)))
    (λ a rest. refl) (λ w a h. λ i. unit_trees.declaration
    (record {
      kind = statement_trees.const_kind;
      ident = h.0.0 i;
      ty = h.0.1 i;
      initializer = Some (h.1 i);
    })))

override_declaration_reads :
    Reads (written override_declaration) (write override_declaration) (Same override_declaration)
override_declaration_reads =
    declaration_reads attribute_node_reads
    (gives_reads (before_reads KwOverride refl
    (then_reads (symbol_reads typed_ident)
    (after_reads SymSemicolon refl
    (optional_reads {bare = bare_expression_node} {kept = bare_expression_node}
    initializer_reads)))) (λ a rest. refl)
    (λ w a h. λ i. unit_trees.declaration
    (record
    { kind = statement_trees.override_kind; ident = h.0.0 i; ty = h.0.1 i; initializer = h.1 i })))

alias_declaration_reads :
    Reads (written alias_declaration) (write alias_declaration) (Same alias_declaration)
alias_declaration_reads =
    declaration_reads attribute_node_reads
    (gives_reads (before_reads KwAlias refl
    (then_reads (symbol_reads ident)
    (before_reads SymEqual refl (after_reads SymSemicolon refl (symbol_reads type_specifier)))))
    (λ a rest. refl) (λ w a h. λ i. unit_trees.type_alias (record { ident = h.0 i; ty = h.1 i })))

struct_declaration_reads :
    Reads (written struct_declaration) (write struct_declaration) (Same struct_declaration)
struct_declaration_reads =
    declaration_reads attribute_node_reads
    (gives_reads (before_reads KwStruct refl
    (then_reads (symbol_reads ident)
    (before_reads SymBraceLeft refl
    (after_reads SymBraceRight refl
    (list_reads {bare = bare_spanned bare_member} {kept = bare_spanned bare_member}
    (symbol_reads struct_member)))))) (λ a rest. refl)
    (λ w a h. λ i. unit_trees.structure (record { ident = h.0 i; members = h.1 i })))

global_directive_reads :
    Reads (written global_directive) (write global_directive) (Same global_directive)
global_directive_reads =
    or_reads (symbol_reads enable_directive)
    (or_reads (symbol_reads requires_directive) (symbol_reads diagnostic_directive))

enable_directive_reads :
    Reads (written enable_directive) (write enable_directive) (Same enable_directive)
enable_directive_reads =
    directive_reads attribute_node_reads
    (gives_reads (before_reads KwEnable refl (after_reads SymSemicolon refl names_read))
    (λ a rest. refl) (λ w a h. λ i. unit_trees.enable (record { extensions = h i })))

requires_directive_reads :
    Reads (written requires_directive) (write requires_directive) (Same requires_directive)
requires_directive_reads =
    directive_reads attribute_node_reads
    (gives_reads (before_reads KwRequires refl (after_reads SymSemicolon refl names_read))
    (λ a rest. refl) (λ w a h. λ i. unit_trees.requires (record { extensions = h i })))

-- each rule of the grammar
pub rule_reads : (n : Symbol) → IsRead n → Reads (written n) (write n) (Same n)
rule_reads type_specifier k = type_specifier_reads
rule_reads template_list k = template_list_reads
rule_reads expressions k = expressions_reads
rule_reads call k = call_reads
rule_reads arguments k = arguments_reads
rule_reads literal k = literal_reads
rule_reads primary_expression k = primary_expression_reads
rule_reads singular_expression k = singular_expression_reads
rule_reads unary_expression k = unary_expression_reads
rule_reads multiplicative_expression k = multiplicative_expression_reads
rule_reads additive_expression k = additive_expression_reads
rule_reads shift_expression k = shift_expression_reads
rule_reads relational_expression k = relational_expression_reads
rule_reads expression k = expression_reads
rule_reads lhs_expression k = lhs_expression_reads
rule_reads compound_statement k = compound_statement_reads
rule_reads statement k = statement_reads
rule_reads return_statement k = return_statement_reads
rule_reads if_statement k = if_statement_reads
rule_reads switch_statement k = switch_statement_reads
rule_reads loop_statement k = loop_statement_reads
rule_reads for_statement k = for_statement_reads
rule_reads while_statement k = while_statement_reads
rule_reads call_statement k = call_statement_reads
rule_reads var_statement k = var_statement_reads
rule_reads value_statement k = value_statement_reads
rule_reads break_statement k = break_statement_reads
rule_reads continue_statement k = continue_statement_reads
rule_reads discard_statement k = discard_statement_reads
rule_reads assignment k = assignment_reads
rule_reads phony_assignment k = phony_assignment_reads
rule_reads increment k = increment_reads
rule_reads decrement k = decrement_reads
rule_reads const_assert k = const_assert_reads
rule_reads switch_clause k = switch_clause_reads attribute_node_reads
rule_reads case_selector k = case_selector_reads
rule_reads continuing_statement k = continuing_statement_reads
rule_reads for_init k = for_init_reads
rule_reads for_update k = for_update_reads
rule_reads typed_ident k = typed_ident_reads
rule_reads struct_member k = struct_member_reads
rule_reads formal_parameter k = formal_parameter_reads
rule_reads global_declaration k = global_declaration_reads
rule_reads var_declaration k = var_declaration_reads
rule_reads const_declaration k = const_declaration_reads
rule_reads override_declaration k = override_declaration_reads
rule_reads alias_declaration k = alias_declaration_reads
rule_reads struct_declaration k = struct_declaration_reads
rule_reads function_declaration k = function_declaration_reads attribute_node_reads
rule_reads global_directive k = global_directive_reads
rule_reads enable_directive k = enable_directive_reads
rule_reads requires_directive k = requires_directive_reads
rule_reads diagnostic_directive k = diagnostic_directive_reads attribute_node_reads
rule_reads unit k = unit_reads
rule_reads ident k = absurd k
rule_reads component k = absurd k
rule_reads negated_expression k = absurd k
rule_reads attribute k = absurd k
rule_reads var_template k = absurd k
rule_reads diagnostic_severity k = absurd k
