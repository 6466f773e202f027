-- Each tree of a text fits in a packed form.
use Rattle.std.proofs.Common.{[]}
use Rattle.grammar.specs.Grammar.{Mode.checking}
use Rattle.grammar.specs.Endings.{Ending.finished}
use Rattle.grammar.proofs.Reading.Depth.{least}
use Rattle.wgsl_theory_packed.specs.Fits.{NodeFits, ItemFits, DirectiveFits, GlobalItemFits, UnitFits, FitInTexts}
use Rattle.wgsl_model.specs.Grammar.Symbols.{Symbol, ident, type_specifier, template_list, expressions, call, arguments, literal, primary_expression, singular_expression, component, unary_expression, multiplicative_expression, negated_expression, additive_expression, shift_expression, relational_expression, expression, lhs_expression, attribute, compound_statement, statement, return_statement, if_statement, switch_statement, loop_statement, for_statement, while_statement, call_statement, var_statement, value_statement, break_statement, continue_statement, discard_statement, assignment, phony_assignment, increment, decrement, const_assert, switch_clause, case_selector, continuing_statement, for_init, for_update, var_template, typed_ident, struct_member, formal_parameter, global_declaration, var_declaration, const_declaration, override_declaration, alias_declaration, struct_declaration, function_declaration, diagnostic_severity, global_directive, enable_directive, requires_directive, diagnostic_directive, unit}
use Rattle.wgsl_model.specs.Grammar.Written.{written}
use Rattle.wgsl_theory_reread.proofs.Gives.{Given}
use Rattle.wgsl_theory_packed.proofs.Derived.Tokens.{TokenFits, text_fits}
use Rattle.wgsl_theory_packed.proofs.Derived.Values.{FitsAs, Gives}
use Rattle.wgsl_theory_packed.proofs.Derived.ExpressionRules.{ident_gives, type_specifier_gives, template_list_gives, expressions_gives, call_gives, arguments_gives, literal_gives, primary_expression_gives, singular_expression_gives, component_gives, unary_expression_gives, multiplicative_expression_gives, negated_expression_gives, additive_expression_gives, shift_expression_gives, relational_expression_gives, expression_gives, lhs_expression_gives}
use Rattle.wgsl_theory_packed.proofs.Derived.StatementRules.{attribute_gives, compound_statement_gives, statement_gives, return_statement_gives, if_statement_gives, switch_statement_gives, loop_statement_gives, for_statement_gives, while_statement_gives, call_statement_gives, var_statement_gives, value_statement_gives, break_statement_gives, continue_statement_gives, discard_statement_gives, assignment_gives, phony_assignment_gives, increment_gives, decrement_gives, const_assert_gives, switch_clause_gives, case_selector_gives, continuing_statement_gives, for_init_gives, for_update_gives, var_template_gives, typed_ident_gives}
use Rattle.wgsl_theory_packed.proofs.Derived.UnitRules.{struct_member_gives, formal_parameter_gives, global_declaration_gives, var_declaration_gives, const_declaration_gives, override_declaration_gives, alias_declaration_gives, struct_declaration_gives, function_declaration_gives, diagnostic_severity_gives, global_directive_gives, enable_directive_gives, requires_directive_gives, diagnostic_directive_gives, unit_gives}

-- each rule of the grammar
rules : (n : Symbol) → Gives (written n) (FitsAs n)
rules ident = ident_gives
rules type_specifier = type_specifier_gives
rules template_list = template_list_gives
rules expressions = expressions_gives
rules call = call_gives
rules arguments = arguments_gives
rules literal = literal_gives
rules primary_expression = primary_expression_gives
rules singular_expression = singular_expression_gives
rules component = component_gives
rules unary_expression = unary_expression_gives
rules multiplicative_expression = multiplicative_expression_gives
rules negated_expression = negated_expression_gives
rules additive_expression = additive_expression_gives
rules shift_expression = shift_expression_gives
rules relational_expression = relational_expression_gives
rules expression = expression_gives
rules lhs_expression = lhs_expression_gives
rules attribute = attribute_gives
rules compound_statement = compound_statement_gives
rules statement = statement_gives
rules return_statement = return_statement_gives
rules if_statement = if_statement_gives
rules switch_statement = switch_statement_gives
rules loop_statement = loop_statement_gives
rules for_statement = for_statement_gives
rules while_statement = while_statement_gives
rules call_statement = call_statement_gives
rules var_statement = var_statement_gives
rules value_statement = value_statement_gives
rules break_statement = break_statement_gives
rules continue_statement = continue_statement_gives
rules discard_statement = discard_statement_gives
rules assignment = assignment_gives
rules phony_assignment = phony_assignment_gives
rules increment = increment_gives
rules decrement = decrement_gives
rules const_assert = const_assert_gives
rules switch_clause = switch_clause_gives
rules case_selector = case_selector_gives
rules continuing_statement = continuing_statement_gives
rules for_init = for_init_gives
rules for_update = for_update_gives
rules var_template = var_template_gives
rules typed_ident = typed_ident_gives
rules struct_member = struct_member_gives
rules formal_parameter = formal_parameter_gives
rules global_declaration = global_declaration_gives
rules var_declaration = var_declaration_gives
rules const_declaration = const_declaration_gives
rules override_declaration = override_declaration_gives
rules alias_declaration = alias_declaration_gives
rules struct_declaration = struct_declaration_gives
rules function_declaration = function_declaration_gives
rules diagnostic_severity = diagnostic_severity_gives
rules global_directive = global_directive_gives
rules enable_directive = enable_directive_gives
rules requires_directive = requires_directive_gives
rules diagnostic_directive = diagnostic_directive_gives
rules unit = unit_gives

-- what a text derives fits, if it has fewer than 2^64 bytes
trees_fit : (n : Symbol) → FitInTexts n (FitsAs n)
trees_fit n source v small (ts, tokens, d) =
    (least checking written (Given TokenFits FitsAs) (λ m w xs ys means. (rules m).sound w xs ys means) n
    v ts [] d (text_fits source ts finished small tokens)).1

-- ---- each kind of tree
pub units_fit : FitInTexts unit UnitFits
units_fit = trees_fit unit

pub directives_fit : FitInTexts global_directive DirectiveFits
directives_fit = trees_fit global_directive

pub declarations_fit : FitInTexts global_declaration GlobalItemFits
declarations_fit = trees_fit global_declaration

pub statements_fit : FitInTexts statement ItemFits
statements_fit = trees_fit statement

pub expressions_fit : FitInTexts expression NodeFits
expressions_fit = trees_fit expression
