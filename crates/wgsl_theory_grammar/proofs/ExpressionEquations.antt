-- Each symbol of expressions that is cited reads what its right side reads; written by
-- tools/tables/rules.py.
use Rattle.std.proofs.Common.{◌≡◌}
use Rattle.grammar.specs.States.{State}
use Rattle.wgsl_model.specs.Grammar.Symbols.{Symbol.ident, Symbol.type_specifier, Symbol.template_list, Symbol.arguments, Symbol.literal, Symbol.component, Symbol.lhs_expression}
use Rattle.wgsl_theory_grammar.specs.Factored.{FactoredSymbol.of}
use Rattle.wgsl_theory_grammar.specs.Reader.{reader}
use Rattle.wgsl_theory_grammar.specs.ExpressionRules.{ident_at, type_specifier_at, template_list_at, arguments_at, literal_at, component_at, lhs_expression_at}
use Rattle.wgsl_theory_grammar.proofs.Reader.{step}

pub ident_is : (s : State) → reader (of ident) s ≡ ident_at s
unfolding ident_at
ident_is s = step (of ident) s

pub type_specifier_is : (s : State) → reader (of type_specifier) s ≡ type_specifier_at s
unfolding type_specifier_at
type_specifier_is s = step (of type_specifier) s

pub template_list_is : (s : State) → reader (of template_list) s ≡ template_list_at s
unfolding template_list_at
template_list_is s = step (of template_list) s

pub arguments_is : (s : State) → reader (of arguments) s ≡ arguments_at s
unfolding arguments_at
arguments_is s = step (of arguments) s

pub literal_is : (s : State) → reader (of literal) s ≡ literal_at s
unfolding literal_at
literal_is s = step (of literal) s

pub component_is : (s : State) → reader (of component) s ≡ component_at s
unfolding component_at
component_is s = step (of component) s

pub lhs_expression_is : (s : State) → reader (of lhs_expression) s ≡ lhs_expression_at s
unfolding lhs_expression_at
lhs_expression_is s = step (of lhs_expression) s
