-- Each symbol of attributes and statements that is cited reads what its right side reads; written
-- by tools/tables/rules.py.
use Rattle.std.proofs.Common.{◌≡◌}
use Rattle.grammar.specs.States.{State}
use Rattle.wgsl_model.specs.Grammar.Symbols.{Symbol.attribute, Symbol.compound_statement, Symbol.statement, Symbol.switch_clause, Symbol.case_selector, Symbol.for_init, Symbol.for_update, Symbol.var_template, Symbol.typed_ident}
use Rattle.wgsl_theory_grammar.specs.Factored.{FactoredSymbol.of, FactoredSymbol.further, Further.selectors, Further.attribute_list, Further.statement_rest, Further.loop_rest, Further.continuing_rest, Further.clause_rest, Further.else_rest, Further.init_part, Further.condition_part, Further.update_part, Further.block_part, Further.braced_part, Further.returning_part, Further.local_part, Further.value_part, Further.phony_part, Further.simple_part, Further.ended_part, Further.assert_part, Further.clause_part, Further.left_side_rest, Further.left_side_in_parentheses, Further.prefixed_left_side, Further.name_rest_statement, Further.parenthesized_statement, Further.plain_statement}
use Rattle.wgsl_theory_grammar.specs.Reader.{reader}
use Rattle.wgsl_theory_grammar.specs.StatementRules.{attribute_at, compound_statement_at, statement_at, switch_clause_at, case_selector_at, for_init_at, for_update_at, var_template_at, typed_ident_at, selectors_at, attribute_list_at, statement_rest_at, loop_rest_at, continuing_rest_at, clause_rest_at, else_rest_at, init_part_at, condition_part_at, update_part_at, block_part_at, braced_part_at, returning_part_at, local_part_at, value_part_at, phony_part_at, simple_part_at, ended_part_at, assert_part_at, clause_part_at, left_side_rest_at, left_side_in_parentheses_at, prefixed_left_side_at, name_rest_statement_at, parenthesized_statement_at, plain_statement_at}
use Rattle.wgsl_theory_grammar.proofs.Reader.{step}

pub attribute_is : (s : State) → reader (of attribute) s ≡ attribute_at s
unfolding attribute_at
attribute_is s = step (of attribute) s

pub compound_statement_is : (s : State) → reader (of compound_statement) s ≡ compound_statement_at s
unfolding compound_statement_at
compound_statement_is s = step (of compound_statement) s

pub statement_is : (s : State) → reader (of statement) s ≡ statement_at s
unfolding statement_at
statement_is s = step (of statement) s

pub switch_clause_is : (s : State) → reader (of switch_clause) s ≡ switch_clause_at s
unfolding switch_clause_at
switch_clause_is s = step (of switch_clause) s

pub case_selector_is : (s : State) → reader (of case_selector) s ≡ case_selector_at s
unfolding case_selector_at
case_selector_is s = step (of case_selector) s

pub for_init_is : (s : State) → reader (of for_init) s ≡ for_init_at s
unfolding for_init_at
for_init_is s = step (of for_init) s

pub for_update_is : (s : State) → reader (of for_update) s ≡ for_update_at s
unfolding for_update_at
for_update_is s = step (of for_update) s

pub var_template_is : (s : State) → reader (of var_template) s ≡ var_template_at s
unfolding var_template_at
var_template_is s = step (of var_template) s

pub typed_ident_is : (s : State) → reader (of typed_ident) s ≡ typed_ident_at s
unfolding typed_ident_at
typed_ident_is s = step (of typed_ident) s

pub selectors_is : (s : State) → reader (further selectors) s ≡ selectors_at s
unfolding selectors_at
selectors_is s = step (further selectors) s

pub attribute_list_is : (s : State) → reader (further attribute_list) s ≡ attribute_list_at s
unfolding attribute_list_at
attribute_list_is s = step (further attribute_list) s

pub statement_rest_is : (s : State) → reader (further statement_rest) s ≡ statement_rest_at s
unfolding statement_rest_at
statement_rest_is s = step (further statement_rest) s

pub loop_rest_is : (s : State) → reader (further loop_rest) s ≡ loop_rest_at s
unfolding loop_rest_at
loop_rest_is s = step (further loop_rest) s

pub continuing_rest_is : (s : State) → reader (further continuing_rest) s ≡ continuing_rest_at s
unfolding continuing_rest_at
continuing_rest_is s = step (further continuing_rest) s

pub clause_rest_is : (s : State) → reader (further clause_rest) s ≡ clause_rest_at s
unfolding clause_rest_at
clause_rest_is s = step (further clause_rest) s

pub else_rest_is : (s : State) → reader (further else_rest) s ≡ else_rest_at s
unfolding else_rest_at
else_rest_is s = step (further else_rest) s

pub init_part_is : (s : State) → reader (further init_part) s ≡ init_part_at s
unfolding init_part_at
init_part_is s = step (further init_part) s

pub condition_part_is : (s : State) → reader (further condition_part) s ≡ condition_part_at s
unfolding condition_part_at
condition_part_is s = step (further condition_part) s

pub update_part_is : (s : State) → reader (further update_part) s ≡ update_part_at s
unfolding update_part_at
update_part_is s = step (further update_part) s

pub block_part_is : (s : State) → reader (further block_part) s ≡ block_part_at s
unfolding block_part_at
block_part_is s = step (further block_part) s

pub braced_part_is : (s : State) → reader (further braced_part) s ≡ braced_part_at s
unfolding braced_part_at
braced_part_is s = step (further braced_part) s

pub returning_part_is : (s : State) → reader (further returning_part) s ≡ returning_part_at s
unfolding returning_part_at
returning_part_is s = step (further returning_part) s

pub local_part_is : (s : State) → reader (further local_part) s ≡ local_part_at s
unfolding local_part_at
local_part_is s = step (further local_part) s

pub value_part_is : (s : State) → reader (further value_part) s ≡ value_part_at s
unfolding value_part_at
value_part_is s = step (further value_part) s

pub phony_part_is : (s : State) → reader (further phony_part) s ≡ phony_part_at s
unfolding phony_part_at
phony_part_is s = step (further phony_part) s

pub simple_part_is : (s : State) → reader (further simple_part) s ≡ simple_part_at s
unfolding simple_part_at
simple_part_is s = step (further simple_part) s

pub ended_part_is : (s : State) → reader (further ended_part) s ≡ ended_part_at s
unfolding ended_part_at
ended_part_is s = step (further ended_part) s

pub assert_part_is : (s : State) → reader (further assert_part) s ≡ assert_part_at s
unfolding assert_part_at
assert_part_is s = step (further assert_part) s

pub clause_part_is : (s : State) → reader (further clause_part) s ≡ clause_part_at s
unfolding clause_part_at
clause_part_is s = step (further clause_part) s

pub left_side_rest_is : (s : State) → reader (further left_side_rest) s ≡ left_side_rest_at s
unfolding left_side_rest_at
left_side_rest_is s = step (further left_side_rest) s

pub left_side_in_parentheses_is : (s : State)
    → reader (further left_side_in_parentheses) s ≡ left_side_in_parentheses_at s
unfolding left_side_in_parentheses_at
left_side_in_parentheses_is s = step (further left_side_in_parentheses) s

pub prefixed_left_side_is : (s : State) → reader (further prefixed_left_side) s ≡ prefixed_left_side_at s
unfolding prefixed_left_side_at
prefixed_left_side_is s = step (further prefixed_left_side) s

pub name_rest_statement_is : (s : State) → reader (further name_rest_statement) s ≡ name_rest_statement_at s
unfolding name_rest_statement_at
name_rest_statement_is s = step (further name_rest_statement) s

pub parenthesized_statement_is : (s : State) → reader (further parenthesized_statement) s ≡ parenthesized_statement_at s
unfolding parenthesized_statement_at
parenthesized_statement_is s = step (further parenthesized_statement) s

pub plain_statement_is : (s : State) → reader (further plain_statement) s ≡ plain_statement_at s
unfolding plain_statement_at
plain_statement_is s = step (further plain_statement) s
