-- Each symbol of declarations, directives and units that is cited reads what its right side reads;
-- written by tools/tables/rules.py.
use Rattle.std.proofs.Common.{◌≡◌}
use Rattle.grammar.specs.States.{State}
use Rattle.wgsl_model.specs.Grammar.Symbols.{Symbol.struct_member, Symbol.formal_parameter, Symbol.global_declaration, Symbol.diagnostic_severity, Symbol.global_directive, Symbol.unit}
use Rattle.wgsl_theory_grammar.specs.Factored.{FactoredSymbol.of, FactoredSymbol.further, Further.var_part, Further.override_part, Further.function_part, Further.const_part, Further.alias_part, Further.struct_part, Further.diagnostic_part, Further.attributed_part, Further.led_part, Further.directive_part, Further.declaration_list, Further.front}
use Rattle.wgsl_theory_grammar.specs.Reader.{reader}
use Rattle.wgsl_theory_grammar.specs.UnitRules.{struct_member_at, formal_parameter_at, global_declaration_at, diagnostic_severity_at, global_directive_at, unit_at, var_part_at, override_part_at, function_part_at, const_part_at, alias_part_at, struct_part_at, diagnostic_part_at, attributed_part_at, led_part_at, directive_part_at, declaration_list_at, front_at}
use Rattle.wgsl_theory_grammar.proofs.Reader.{step}

pub struct_member_is : (s : State) → reader (of struct_member) s ≡ struct_member_at s
unfolding struct_member_at
struct_member_is s = step (of struct_member) s

pub formal_parameter_is : (s : State) → reader (of formal_parameter) s ≡ formal_parameter_at s
unfolding formal_parameter_at
formal_parameter_is s = step (of formal_parameter) s

pub global_declaration_is : (s : State) → reader (of global_declaration) s ≡ global_declaration_at s
unfolding global_declaration_at
global_declaration_is s = step (of global_declaration) s

pub diagnostic_severity_is : (s : State) → reader (of diagnostic_severity) s ≡ diagnostic_severity_at s
unfolding diagnostic_severity_at
diagnostic_severity_is s = step (of diagnostic_severity) s

pub global_directive_is : (s : State) → reader (of global_directive) s ≡ global_directive_at s
unfolding global_directive_at
global_directive_is s = step (of global_directive) s

pub unit_is : (s : State) → reader (of unit) s ≡ unit_at s
unfolding unit_at
unit_is s = step (of unit) s

pub var_part_is : (s : State) → reader (further var_part) s ≡ var_part_at s
unfolding var_part_at
var_part_is s = step (further var_part) s

pub override_part_is : (s : State) → reader (further override_part) s ≡ override_part_at s
unfolding override_part_at
override_part_is s = step (further override_part) s

pub function_part_is : (s : State) → reader (further function_part) s ≡ function_part_at s
unfolding function_part_at
function_part_is s = step (further function_part) s

pub const_part_is : (s : State) → reader (further const_part) s ≡ const_part_at s
unfolding const_part_at
const_part_is s = step (further const_part) s

pub alias_part_is : (s : State) → reader (further alias_part) s ≡ alias_part_at s
unfolding alias_part_at
alias_part_is s = step (further alias_part) s

pub struct_part_is : (s : State) → reader (further struct_part) s ≡ struct_part_at s
unfolding struct_part_at
struct_part_is s = step (further struct_part) s

pub diagnostic_part_is : (s : State) → reader (further diagnostic_part) s ≡ diagnostic_part_at s
unfolding diagnostic_part_at
diagnostic_part_is s = step (further diagnostic_part) s

pub attributed_part_is : (s : State) → reader (further attributed_part) s ≡ attributed_part_at s
unfolding attributed_part_at
attributed_part_is s = step (further attributed_part) s

pub led_part_is : (s : State) → reader (further led_part) s ≡ led_part_at s
unfolding led_part_at
led_part_is s = step (further led_part) s

pub directive_part_is : (s : State) → reader (further directive_part) s ≡ directive_part_at s
unfolding directive_part_at
directive_part_is s = step (further directive_part) s

pub declaration_list_is : (s : State) → reader (further declaration_list) s ≡ declaration_list_at s
unfolding declaration_list_at
declaration_list_is s = step (further declaration_list) s

pub front_is : (s : State) → reader (further front) s ≡ front_at s
unfolding front_at
front_is s = step (further front) s
