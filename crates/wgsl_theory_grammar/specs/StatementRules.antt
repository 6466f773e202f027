-- What the symbols of attributes and statements that are cited read by their right sides, each as a
-- word of its own, which no computation opens; written by tools/tables/rules.py.
use Rattle.grammar.specs.States.{State, Read, go}
use Rattle.wgsl_model.specs.Grammar.Symbols.{Value, Symbol.attribute, Symbol.compound_statement, Symbol.statement, Symbol.switch_clause, Symbol.case_selector, Symbol.for_init, Symbol.for_update, Symbol.var_template, Symbol.typed_ident}
use Rattle.wgsl_theory_grammar.specs.Factored.{FactoredSymbol.of, FactoredSymbol.further, FurtherValue, Further.selectors, Further.attribute_list, Further.statement_rest, Further.loop_rest, Further.continuing_rest, Further.clause_rest, Further.else_rest, Further.init_part, Further.condition_part, Further.update_part, Further.block_part, Further.braced_part, Further.returning_part, Further.local_part, Further.value_part, Further.phony_part, Further.simple_part, Further.ended_part, Further.assert_part, Further.clause_part, Further.left_side_rest, Further.left_side_in_parentheses, Further.prefixed_left_side, Further.name_rest_statement, Further.parenthesized_statement, Further.plain_statement, body}
use Rattle.wgsl_theory_grammar.specs.Tables.{tables}
use Rattle.wgsl_theory_grammar.specs.Reader.{reader}

unfoldable pub attribute_at : State → Read (Value attribute)
attribute_at s = go tables reader (body (of attribute)) s

unfoldable pub compound_statement_at : State → Read (Value compound_statement)
compound_statement_at s = go tables reader (body (of compound_statement)) s

unfoldable pub statement_at : State → Read (Value statement)
statement_at s = go tables reader (body (of statement)) s

unfoldable pub switch_clause_at : State → Read (Value switch_clause)
switch_clause_at s = go tables reader (body (of switch_clause)) s

unfoldable pub case_selector_at : State → Read (Value case_selector)
case_selector_at s = go tables reader (body (of case_selector)) s

unfoldable pub for_init_at : State → Read (Value for_init)
for_init_at s = go tables reader (body (of for_init)) s

unfoldable pub for_update_at : State → Read (Value for_update)
for_update_at s = go tables reader (body (of for_update)) s

unfoldable pub var_template_at : State → Read (Value var_template)
var_template_at s = go tables reader (body (of var_template)) s

unfoldable pub typed_ident_at : State → Read (Value typed_ident)
typed_ident_at s = go tables reader (body (of typed_ident)) s

unfoldable pub selectors_at : State → Read (FurtherValue selectors)
selectors_at s = go tables reader (body (further selectors)) s

unfoldable pub attribute_list_at : State → Read (FurtherValue attribute_list)
attribute_list_at s = go tables reader (body (further attribute_list)) s

unfoldable pub statement_rest_at : State → Read (FurtherValue statement_rest)
statement_rest_at s = go tables reader (body (further statement_rest)) s

unfoldable pub loop_rest_at : State → Read (FurtherValue loop_rest)
loop_rest_at s = go tables reader (body (further loop_rest)) s

unfoldable pub continuing_rest_at : State → Read (FurtherValue continuing_rest)
continuing_rest_at s = go tables reader (body (further continuing_rest)) s

unfoldable pub clause_rest_at : State → Read (FurtherValue clause_rest)
clause_rest_at s = go tables reader (body (further clause_rest)) s

unfoldable pub else_rest_at : State → Read (FurtherValue else_rest)
else_rest_at s = go tables reader (body (further else_rest)) s

unfoldable pub init_part_at : State → Read (FurtherValue init_part)
init_part_at s = go tables reader (body (further init_part)) s

unfoldable pub condition_part_at : State → Read (FurtherValue condition_part)
condition_part_at s = go tables reader (body (further condition_part)) s

unfoldable pub update_part_at : State → Read (FurtherValue update_part)
update_part_at s = go tables reader (body (further update_part)) s

unfoldable pub block_part_at : State → Read (FurtherValue block_part)
block_part_at s = go tables reader (body (further block_part)) s

unfoldable pub braced_part_at : State → Read (FurtherValue braced_part)
braced_part_at s = go tables reader (body (further braced_part)) s

unfoldable pub returning_part_at : State → Read (FurtherValue returning_part)
returning_part_at s = go tables reader (body (further returning_part)) s

unfoldable pub local_part_at : State → Read (FurtherValue local_part)
local_part_at s = go tables reader (body (further local_part)) s

unfoldable pub value_part_at : State → Read (FurtherValue value_part)
value_part_at s = go tables reader (body (further value_part)) s

unfoldable pub phony_part_at : State → Read (FurtherValue phony_part)
phony_part_at s = go tables reader (body (further phony_part)) s

unfoldable pub simple_part_at : State → Read (FurtherValue simple_part)
simple_part_at s = go tables reader (body (further simple_part)) s

unfoldable pub ended_part_at : State → Read (FurtherValue ended_part)
ended_part_at s = go tables reader (body (further ended_part)) s

unfoldable pub assert_part_at : State → Read (FurtherValue assert_part)
assert_part_at s = go tables reader (body (further assert_part)) s

unfoldable pub clause_part_at : State → Read (FurtherValue clause_part)
clause_part_at s = go tables reader (body (further clause_part)) s

unfoldable pub left_side_rest_at : State → Read (FurtherValue left_side_rest)
left_side_rest_at s = go tables reader (body (further left_side_rest)) s

unfoldable pub left_side_in_parentheses_at : State → Read (FurtherValue left_side_in_parentheses)
left_side_in_parentheses_at s = go tables reader (body (further left_side_in_parentheses)) s

unfoldable pub prefixed_left_side_at : State → Read (FurtherValue prefixed_left_side)
prefixed_left_side_at s = go tables reader (body (further prefixed_left_side)) s

unfoldable pub name_rest_statement_at : State → Read (FurtherValue name_rest_statement)
name_rest_statement_at s = go tables reader (body (further name_rest_statement)) s

unfoldable pub parenthesized_statement_at : State → Read (FurtherValue parenthesized_statement)
parenthesized_statement_at s = go tables reader (body (further parenthesized_statement)) s

unfoldable pub plain_statement_at : State → Read (FurtherValue plain_statement)
plain_statement_at s = go tables reader (body (further plain_statement)) s
