-- What the symbols of declarations, directives and units that are cited read by their right sides,
-- each as a word of its own, which no computation opens; written by tools/tables/rules.py.
use Rattle.grammar.specs.States.{State, Read, go}
use Rattle.wgsl_model.specs.Grammar.Symbols.{Value, Symbol.struct_member, Symbol.formal_parameter, Symbol.global_declaration, Symbol.diagnostic_severity, Symbol.global_directive, Symbol.unit}
use Rattle.wgsl_theory_grammar.specs.Factored.{FactoredSymbol.of, FactoredSymbol.further, FurtherValue, Further.var_part, Further.override_part, Further.function_part, Further.const_part, Further.alias_part, Further.struct_part, Further.diagnostic_part, Further.attributed_part, Further.led_part, Further.directive_part, Further.declaration_list, Further.front, body}
use Rattle.wgsl_theory_grammar.specs.Tables.{tables}
use Rattle.wgsl_theory_grammar.specs.Reader.{reader}

unfoldable pub struct_member_at : State → Read (Value struct_member)
struct_member_at s = go tables reader (body (of struct_member)) s

unfoldable pub formal_parameter_at : State → Read (Value formal_parameter)
formal_parameter_at s = go tables reader (body (of formal_parameter)) s

unfoldable pub global_declaration_at : State → Read (Value global_declaration)
global_declaration_at s = go tables reader (body (of global_declaration)) s

unfoldable pub diagnostic_severity_at : State → Read (Value diagnostic_severity)
diagnostic_severity_at s = go tables reader (body (of diagnostic_severity)) s

unfoldable pub global_directive_at : State → Read (Value global_directive)
global_directive_at s = go tables reader (body (of global_directive)) s

unfoldable pub unit_at : State → Read (Value unit)
unit_at s = go tables reader (body (of unit)) s

unfoldable pub var_part_at : State → Read (FurtherValue var_part)
var_part_at s = go tables reader (body (further var_part)) s

unfoldable pub override_part_at : State → Read (FurtherValue override_part)
override_part_at s = go tables reader (body (further override_part)) s

unfoldable pub function_part_at : State → Read (FurtherValue function_part)
function_part_at s = go tables reader (body (further function_part)) s

unfoldable pub const_part_at : State → Read (FurtherValue const_part)
const_part_at s = go tables reader (body (further const_part)) s

unfoldable pub alias_part_at : State → Read (FurtherValue alias_part)
alias_part_at s = go tables reader (body (further alias_part)) s

unfoldable pub struct_part_at : State → Read (FurtherValue struct_part)
struct_part_at s = go tables reader (body (further struct_part)) s

unfoldable pub diagnostic_part_at : State → Read (FurtherValue diagnostic_part)
diagnostic_part_at s = go tables reader (body (further diagnostic_part)) s

unfoldable pub attributed_part_at : State → Read (FurtherValue attributed_part)
attributed_part_at s = go tables reader (body (further attributed_part)) s

unfoldable pub led_part_at : State → Read (FurtherValue led_part)
led_part_at s = go tables reader (body (further led_part)) s

unfoldable pub directive_part_at : State → Read (FurtherValue directive_part)
directive_part_at s = go tables reader (body (further directive_part)) s

unfoldable pub declaration_list_at : State → Read (FurtherValue declaration_list)
declaration_list_at s = go tables reader (body (further declaration_list)) s

unfoldable pub front_at : State → Read (FurtherValue front)
front_at s = go tables reader (body (further front)) s
