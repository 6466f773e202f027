-- What the symbols of expressions that are cited read by their right sides, each as a word of its
-- own, which no computation opens; written by tools/tables/rules.py.
use Rattle.grammar.specs.States.{State, Read, go}
use Rattle.wgsl_model.specs.Grammar.Symbols.{Value, Symbol.ident, Symbol.type_specifier, Symbol.template_list, Symbol.arguments, Symbol.literal, Symbol.component, Symbol.lhs_expression}
use Rattle.wgsl_theory_grammar.specs.Factored.{FactoredSymbol.of, body}
use Rattle.wgsl_theory_grammar.specs.Tables.{tables}
use Rattle.wgsl_theory_grammar.specs.Reader.{reader}

unfoldable pub ident_at : State → Read (Value ident)
ident_at s = go tables reader (body (of ident)) s

unfoldable pub type_specifier_at : State → Read (Value type_specifier)
type_specifier_at s = go tables reader (body (of type_specifier)) s

unfoldable pub template_list_at : State → Read (Value template_list)
template_list_at s = go tables reader (body (of template_list)) s

unfoldable pub arguments_at : State → Read (Value arguments)
arguments_at s = go tables reader (body (of arguments)) s

unfoldable pub literal_at : State → Read (Value literal)
literal_at s = go tables reader (body (of literal)) s

unfoldable pub component_at : State → Read (Value component)
component_at s = go tables reader (body (of component)) s

unfoldable pub lhs_expression_at : State → Read (Value lhs_expression)
lhs_expression_at s = go tables reader (body (of lhs_expression)) s
