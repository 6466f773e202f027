-- The written and the factored grammar derive the same.
use Rattle.grammar.specs.Grammar.{Grammar.symbol, Mode, Means, Part}
use Rattle.grammar.specs.Notation.{◌gives◌, ◌means◌}
use Rattle.grammar.proofs.Reading.Depth.{Kept, same_mode, means_mono, roll, unroll, least}
use Rattle.wgsl_model.specs.Tokens.ClassTable.{SymBraceRight, SymParenRight, SymSemicolon, TemplateArgsEnd, KwBreak, KwContinue, KwDiscard}
use Rattle.wgsl_model.specs.Trees.Attributes.{Attributes}
use Rattle.wgsl_model.specs.Trees.Attributed.{with_attributes}
use Rattle.wgsl_model.specs.Trees.Statements.{statement, UnattributedStatement, call_statement_of, clause_of, continuing_statement_of}
use Rattle.wgsl_model.specs.Grammar.StatementParts.{led}
use Rattle.wgsl_model.specs.Grammar.Symbols.{Dialect, Symbol, Symbol.ident, Symbol.expressions, Symbol.primary_expression, Symbol.singular_expression, Symbol.additive_expression, Symbol.shift_expression, Symbol.relational_expression, Symbol.expression, Symbol.lhs_expression, Symbol.attribute, Symbol.statement, Symbol.switch_clause, Symbol.case_selector, Symbol.for_init, Symbol.for_update, Symbol.var_template, Symbol.struct_member, Symbol.formal_parameter, Symbol.global_declaration, Symbol.diagnostic_severity, Symbol.call, Symbol.assignment, Symbol.increment, Symbol.decrement, Symbol.global_directive, Symbol.return_statement, Symbol.call_statement, Symbol.var_statement, Symbol.value_statement, Symbol.break_statement, Symbol.continue_statement, Symbol.discard_statement, Symbol.phony_assignment, Symbol.const_assert, Symbol.continuing_statement, Symbol.const_declaration, Symbol.alias_declaration, Symbol.struct_declaration, Symbol.enable_directive, Symbol.requires_directive, Symbol.diagnostic_directive, Rule}
use Rattle.wgsl_model.specs.Grammar.Written.{rules}
use Rattle.wgsl_theory_grammar.specs.Factored.{Further.template_items, Further.template_rest, Further.template_more, Further.argument_rest, Further.argument_more, Further.member_items, Further.member_rest, Further.member_more, Further.parameter_rest, Further.parameter_more, Further.name_items, Further.name_rest, Further.name_more, Further.selectors, Further.components, Further.factors, Further.summands, Further.sum_rest, Further.relation_rest, Further.and_rest, Further.or_rest, Further.bitwise_and_rest, Further.bitwise_or_rest, Further.bitwise_xor_rest, Further.expression_rest, Further.attribute_list, Further.statement_rest, Further.loop_rest, Further.continuing_rest, Further.clause_rest, Further.else_rest, Further.init_part, Further.condition_part, Further.update_part, Further.switch_part, Further.braced_part, Further.returning_part, Further.local_part, Further.value_part, Further.phony_part, Further.simple_part, Further.ended_part, Further.assert_part, Further.clause_part, Further.continuing_part, Further.left_side_rest, Further.left_side_in_parentheses, Further.prefixed_left_side, Further.parenthesized_statement, Further.plain_statement, Further.const_part, Further.alias_part, Further.struct_part, Further.enable_part, Further.requires_part, Further.diagnostic_part, Further.attributed_part, Further.led_part, Further.directive_part, Further.declaration_list, Further.front, FactoredSymbol, FactoredSymbol.of, FactoredSymbol.further, factored, FactoredRule, leading_before}
use Rattle.wgsl_theory_grammar.specs.Meaning.{phony_kind}
use Rattle.wgsl_theory_grammar.specs.MeaningRules.{meaning, returning_rule, local_rule, value_rule, assert_rule, clause_rule, continuing_rule, const_rule, alias_rule, struct_rule, enable_rule, requires_rule, diagnostic_rule}
use Rattle.wgsl_theory_grammar.proofs.Forms.ListLinks.{Closing, items_in, rest_in, more_in, items_out, rest_out, more_out, listed_in, listed_out, optional_in, optional_out, until_in, until_out}
use Rattle.wgsl_theory_grammar.proofs.Forms.Lifted.{FactoredRelation, lifted_in, lifted_out}
use Rattle.wgsl_theory_grammar.proofs.Forms.Shifts.{Meant}
use Rattle.wgsl_theory_grammar.proofs.Forms.LevelLinks.{WrittenPart, ReadPart, summands_read, sum_read, expression_read, singular_derived, shift_derived, relation_derived, expression_derived, singular_back, shift_back, relation_back, expression_back}
use Rattle.wgsl_theory_grammar.proofs.Forms.AttributeLinks.{read_list, meant_list, led_to, led_from}
use Rattle.wgsl_theory_grammar.proofs.Forms.LeftSides.{primary_in, primary_out, left_in, left_out, parenthesized_in, parenthesized_out, simple_part_out}
use Rattle.wgsl_theory_grammar.proofs.Forms.StatementCases.{statement_in}
use Rattle.wgsl_theory_grammar.proofs.Forms.StatementLinks.{statement_out, init_in, init_out, update_in, update_out}
use Rattle.wgsl_theory_grammar.proofs.Forms.UnitLinks.{declaration_in, declaration_out, directive_in, directive_out, front_in, front_out}
use Rattle.wgsl_theory_grammar.proofs.Forms.BlockLinks.{switch_part_in, switch_part_out, loop_rest_in, loop_rest_out, continuing_rest_in, continuing_rest_out, else_rest_in, else_rest_out}

-- ---- what a further symbol means, it derives: those that refer to no other of these, or to their
-- own list alone
abbrev Based : Dialect → Mode → FactoredRelation
Based L M (of n) v xs ys = Part M (factored L) (of n) v xs ys
Based L M (further template_items) v xs ys = Meant L M (ReadPart L M) (further template_items) v xs ys
Based L M (further template_rest) v xs ys = Meant L M (ReadPart L M) (further template_rest) v xs ys
Based L M (further template_more) v xs ys = Meant L M (ReadPart L M) (further template_more) v xs ys
Based L M (further argument_rest) v xs ys = Meant L M (ReadPart L M) (further argument_rest) v xs ys
Based L M (further argument_more) v xs ys = Meant L M (ReadPart L M) (further argument_more) v xs ys
Based L M (further member_items) v xs ys = Meant L M (ReadPart L M) (further member_items) v xs ys
Based L M (further member_rest) v xs ys = Meant L M (ReadPart L M) (further member_rest) v xs ys
Based L M (further member_more) v xs ys = Meant L M (ReadPart L M) (further member_more) v xs ys
Based L M (further parameter_rest) v xs ys = Meant L M (ReadPart L M) (further parameter_rest) v xs ys
Based L M (further parameter_more) v xs ys = Meant L M (ReadPart L M) (further parameter_more) v xs ys
Based L M (further name_items) v xs ys = Meant L M (ReadPart L M) (further name_items) v xs ys
Based L M (further name_rest) v xs ys = Meant L M (ReadPart L M) (further name_rest) v xs ys
Based L M (further name_more) v xs ys = Meant L M (ReadPart L M) (further name_more) v xs ys
Based L M (further selectors) v xs ys = Meant L M (ReadPart L M) (further selectors) v xs ys
Based L M (further components) v xs ys = Meant L M (ReadPart L M) (further components) v xs ys
Based L M (further factors) v xs ys = Meant L M (ReadPart L M) (further factors) v xs ys
Based L M (further summands) v xs ys = Meant L M (ReadPart L M) (further summands) v xs ys
Based L M (further relation_rest) v xs ys = Meant L M (ReadPart L M) (further relation_rest) v xs ys
Based L M (further and_rest) v xs ys = Meant L M (ReadPart L M) (further and_rest) v xs ys
Based L M (further or_rest) v xs ys = Meant L M (ReadPart L M) (further or_rest) v xs ys
Based L M (further bitwise_and_rest) v xs ys = Meant L M (ReadPart L M) (further bitwise_and_rest) v xs ys
Based L M (further bitwise_or_rest) v xs ys = Meant L M (ReadPart L M) (further bitwise_or_rest) v xs ys
Based L M (further bitwise_xor_rest) v xs ys = Meant L M (ReadPart L M) (further bitwise_xor_rest) v xs ys
Based L M (further attribute_list) v xs ys = Meant L M (ReadPart L M) (further attribute_list) v xs ys
Based L M (further left_side_rest) v xs ys = Meant L M (ReadPart L M) (further left_side_rest) v xs ys
Based L M (further declaration_list) v xs ys = Meant L M (ReadPart L M) (further declaration_list) v xs ys
Based L M (further statement_rest) v xs ys = Meant L M (ReadPart L M) (further statement_rest) v xs ys
Based L M (further loop_rest) v xs ys = Meant L M (ReadPart L M) (further loop_rest) v xs ys
Based L M (further clause_rest) v xs ys = Meant L M (ReadPart L M) (further clause_rest) v xs ys
Based L M (further else_rest) v xs ys = Meant L M (ReadPart L M) (further else_rest) v xs ys
Based L M (further init_part) v xs ys = Meant L M (ReadPart L M) (further init_part) v xs ys
Based L M (further condition_part) v xs ys = Meant L M (ReadPart L M) (further condition_part) v xs ys
Based L M (further update_part) v xs ys = Meant L M (ReadPart L M) (further update_part) v xs ys
Based L M (further continuing_rest) v xs ys = Meant L M (ReadPart L M) (further continuing_rest) v xs ys
Based L M (further returning_part) v xs ys = Meant L M (ReadPart L M) (further returning_part) v xs ys
Based L M (further local_part) v xs ys = Meant L M (ReadPart L M) (further local_part) v xs ys
Based L M (further value_part) v xs ys = Meant L M (ReadPart L M) (further value_part) v xs ys
Based L M (further phony_part) v xs ys = Meant L M (ReadPart L M) (further phony_part) v xs ys
Based L M (further assert_part) v xs ys = Meant L M (ReadPart L M) (further assert_part) v xs ys
Based L M (further prefixed_left_side) v xs ys = Meant L M (ReadPart L M) (further prefixed_left_side) v xs ys
Based L M (further const_part) v xs ys = Meant L M (ReadPart L M) (further const_part) v xs ys
Based L M (further alias_part) v xs ys = Meant L M (ReadPart L M) (further alias_part) v xs ys
Based L M (further diagnostic_part) v xs ys = Meant L M (ReadPart L M) (further diagnostic_part) v xs ys
Based L M n v xs ys = ⊥

template_closing : (L : Dialect) (M : Mode) → Closing M (Part M (factored L)) TemplateArgsEnd
    (symbol (of expression)) (symbol (further template_rest)) (symbol (further template_more))
template_closing L M = record {
  to_rest = roll M (factored L) (further template_rest);
  to_more = roll M (factored L) (further template_more);
}

argument_closing : (L : Dialect) (M : Mode) → Closing M (Part M (factored L)) SymParenRight
    (symbol (of expression)) (symbol (further argument_rest)) (symbol (further argument_more))
argument_closing L M = record {
  to_rest = roll M (factored L) (further argument_rest);
  to_more = roll M (factored L) (further argument_more);
}

member_closing : (L : Dialect) (M : Mode) → Closing M (Part M (factored L)) SymBraceRight
    (symbol (of struct_member)) (symbol (further member_rest)) (symbol (further member_more))
member_closing L M =
    record { to_rest = roll M (factored L) (further member_rest); to_more = roll M (factored L) (further member_more) }

parameter_closing : (L : Dialect) (M : Mode) → Closing M (Part M (factored L)) SymParenRight
    (symbol (of formal_parameter)) (symbol (further parameter_rest)) (symbol (further parameter_more))
parameter_closing L M = record {
  to_rest = roll M (factored L) (further parameter_rest);
  to_more = roll M (factored L) (further parameter_more);
}

name_closing : (L : Dialect) (M : Mode) → Closing M (Part M (factored L)) SymSemicolon
    (symbol (of ident)) (symbol (further name_rest)) (symbol (further name_more))
name_closing L M =
    record { to_rest = roll M (factored L) (further name_rest); to_more = roll M (factored L) (further name_more) }

based_in : (L : Dialect) (M : Mode) (n : FactoredSymbol) → Kept (Based L M n) (Part M (factored L) n)
based_in L M (of n) v xs ys d = d
based_in L M (further template_items) v xs ys d = roll M (factored L) (further template_items) v xs ys
    (items_in M (Part M (factored L)) TemplateArgsEnd (symbol (of expression))
    (symbol (further template_rest)) (symbol (further template_more)) (template_closing L M) v xs ys d)
based_in L M (further template_rest) v xs ys d = rest_in M (Part M (factored L)) TemplateArgsEnd
    (symbol (of expression)) (symbol (further template_rest)) (symbol (further template_more))
    (template_closing L M) v xs ys d
based_in L M (further template_more) v xs ys d = more_in M (Part M (factored L)) TemplateArgsEnd
    (symbol (of expression)) (symbol (further template_rest)) (symbol (further template_more))
    (template_closing L M) v xs ys d
based_in L M (further argument_rest) v xs ys d = rest_in M (Part M (factored L)) SymParenRight
    (symbol (of expression)) (symbol (further argument_rest)) (symbol (further argument_more))
    (argument_closing L M) v xs ys d
based_in L M (further argument_more) v xs ys d = more_in M (Part M (factored L)) SymParenRight
    (symbol (of expression)) (symbol (further argument_rest)) (symbol (further argument_more))
    (argument_closing L M) v xs ys d
based_in L M (further member_items) v xs ys d = roll M (factored L) (further member_items) v xs ys
    (items_in M (Part M (factored L)) SymBraceRight (symbol (of struct_member))
    (symbol (further member_rest)) (symbol (further member_more)) (member_closing L M) v xs ys d)
based_in L M (further member_rest) v xs ys d = rest_in M (Part M (factored L)) SymBraceRight
    (symbol (of struct_member)) (symbol (further member_rest)) (symbol (further member_more))
    (member_closing L M) v xs ys d
based_in L M (further member_more) v xs ys d = more_in M (Part M (factored L)) SymBraceRight
    (symbol (of struct_member)) (symbol (further member_rest)) (symbol (further member_more))
    (member_closing L M) v xs ys d
based_in L M (further parameter_rest) v xs ys d = rest_in M (Part M (factored L)) SymParenRight
    (symbol (of formal_parameter)) (symbol (further parameter_rest))
    (symbol (further parameter_more)) (parameter_closing L M) v xs ys d
based_in L M (further parameter_more) v xs ys d = more_in M (Part M (factored L)) SymParenRight
    (symbol (of formal_parameter)) (symbol (further parameter_rest))
    (symbol (further parameter_more)) (parameter_closing L M) v xs ys d
based_in L M (further name_items) v xs ys d = roll M (factored L) (further name_items) v xs ys
    (items_in M (Part M (factored L)) SymSemicolon (symbol (of ident)) (symbol (further name_rest))
    (symbol (further name_more)) (name_closing L M) v xs ys d)
based_in L M (further name_rest) v xs ys d = rest_in M (Part M (factored L)) SymSemicolon
    (symbol (of ident)) (symbol (further name_rest)) (symbol (further name_more))
    (name_closing L M) v xs ys d
based_in L M (further name_more) v xs ys d = more_in M (Part M (factored L)) SymSemicolon
    (symbol (of ident)) (symbol (further name_rest)) (symbol (further name_more))
    (name_closing L M) v xs ys d
based_in L M (further selectors) v xs ys d = listed_in M (Part M (factored L)) (symbol (of case_selector))
    (symbol (further selectors)) (roll M (factored L) (further selectors)) v xs ys d
based_in L M (further components) v xs ys d = roll M (factored L) (further components) v xs ys d
based_in L M (further factors) v xs ys d = roll M (factored L) (further factors) v xs ys d
based_in L M (further summands) v xs ys d = summands_read L M v xs ys d
based_in L M (further relation_rest) v xs ys d = roll M (factored L) (further relation_rest) v xs ys d
based_in L M (further and_rest) v xs ys d = roll M (factored L) (further and_rest) v xs ys d
based_in L M (further or_rest) v xs ys d = roll M (factored L) (further or_rest) v xs ys d
based_in L M (further bitwise_and_rest) v xs ys d = roll M (factored L) (further bitwise_and_rest) v xs ys d
based_in L M (further bitwise_or_rest) v xs ys d = roll M (factored L) (further bitwise_or_rest) v xs ys d
based_in L M (further bitwise_xor_rest) v xs ys d = roll M (factored L) (further bitwise_xor_rest) v xs ys d
based_in L M (further attribute_list) v xs ys d = roll M (factored L) (further attribute_list) v xs ys d
based_in L M (further left_side_rest) v xs ys d = roll M (factored L) (further left_side_rest) v xs ys d
based_in L M (further declaration_list) v xs ys d = roll M (factored L) (further declaration_list) v xs ys d
based_in L M (further statement_rest) v xs ys d = until_in M (Part M (factored L)) SymBraceRight
    (symbol (of statement)) (symbol (further statement_rest))
    (roll M (factored L) (further statement_rest)) v xs ys d
based_in L M (further clause_rest) v xs ys d = until_in M (Part M (factored L)) SymBraceRight
    (symbol (of switch_clause)) (symbol (further clause_rest))
    (roll M (factored L) (further clause_rest)) v xs ys d
based_in L M (further loop_rest) v xs ys d = loop_rest_in L M v xs ys d
based_in L M (further else_rest) v xs ys d = else_rest_in L M v xs ys d
based_in L M (further init_part) v xs ys d = roll M (factored L) (further init_part) v xs ys
    (optional_in M (Part M (factored L)) SymSemicolon (symbol (of for_init)) v xs ys d)
based_in L M (further condition_part) v xs ys d = roll M (factored L) (further condition_part) v xs ys
    (optional_in M (Part M (factored L)) SymSemicolon (symbol (of expression)) v xs ys d)
based_in L M (further update_part) v xs ys d = roll M (factored L) (further update_part) v xs ys
    (optional_in M (Part M (factored L)) SymParenRight (symbol (of for_update)) v xs ys d)
based_in L M (further continuing_rest) v xs ys d = continuing_rest_in L M v xs ys d
based_in L M (further returning_part) v xs ys d = roll M (factored L) (further returning_part) v xs ys d
based_in L M (further local_part) v xs ys d = roll M (factored L) (further local_part) v xs ys d
based_in L M (further value_part) v xs ys d = roll M (factored L) (further value_part) v xs ys d
based_in L M (further phony_part) v xs ys d = roll M (factored L) (further phony_part) v xs ys d
based_in L M (further assert_part) v xs ys d = roll M (factored L) (further assert_part) v xs ys d
based_in L M (further prefixed_left_side) v xs ys d = roll M (factored L) (further prefixed_left_side) v xs ys d
based_in L M (further const_part) v xs ys d = roll M (factored L) (further const_part) v xs ys d
based_in L M (further alias_part) v xs ys d = roll M (factored L) (further alias_part) v xs ys d
based_in L M (further diagnostic_part) v xs ys d = roll M (factored L) (further diagnostic_part) v xs ys d
based_in L M n v xs ys d = absurd d

-- and the others, save those that only the symbols read which lead to them
abbrev Met : Dialect → Mode → FactoredRelation
Met L M (further braced_part) v xs ys = ⊥
Met L M (further simple_part) v xs ys = ⊥
Met L M (further ended_part) v xs ys = ⊥
Met L M (further parenthesized_statement) v xs ys = ⊥
Met L M (further plain_statement) v xs ys = ⊥
Met L M (further attributed_part) v xs ys = ⊥
Met L M (further led_part) v xs ys = ⊥
Met L M (further directive_part) v xs ys = ⊥
Met L M n v xs ys = Meant L M (ReadPart L M) n v xs ys

part_in : (L : Dialect) (M : Mode) (n : FactoredSymbol)
    → Kept (Means M (Based L M) (factored L n)) (Part M (factored L) n)
part_in L M n v xs ys d = roll M (factored L) n v xs ys
    (means_mono M M (same_mode M) (Based L M) (Part M (factored L)) (based_in L M) (factored L n) v xs ys d)

met_in : (L : Dialect) (M : Mode) (n : FactoredSymbol) → Kept (Met L M n) (Part M (factored L) n)
met_in L M (of n) v xs ys d = d
met_in L M (further sum_rest) v xs ys d = sum_read L M v xs ys d
met_in L M (further expression_rest) v xs ys d = expression_read L M v xs ys d
met_in L M (further switch_part) v xs ys d = switch_part_in L M v xs ys d
met_in L M (further left_side_in_parentheses) v xs ys d = parenthesized_in L M v xs ys d
met_in L M (further front) v xs ys d = front_in L M v xs ys d
met_in L M (further braced_part) v xs ys d = absurd d
met_in L M (further simple_part) v xs ys d = absurd d
met_in L M (further ended_part) v xs ys d = absurd d
met_in L M (further parenthesized_statement) v xs ys d = absurd d
met_in L M (further plain_statement) v xs ys d = absurd d
met_in L M (further attributed_part) v xs ys d = absurd d
met_in L M (further led_part) v xs ys d = absurd d
met_in L M (further directive_part) v xs ys d = absurd d
met_in L M (further template_items) v xs ys d = based_in L M (further template_items) v xs ys d
met_in L M (further template_rest) v xs ys d = based_in L M (further template_rest) v xs ys d
met_in L M (further template_more) v xs ys d = based_in L M (further template_more) v xs ys d
met_in L M (further argument_rest) v xs ys d = based_in L M (further argument_rest) v xs ys d
met_in L M (further argument_more) v xs ys d = based_in L M (further argument_more) v xs ys d
met_in L M (further member_items) v xs ys d = based_in L M (further member_items) v xs ys d
met_in L M (further member_rest) v xs ys d = based_in L M (further member_rest) v xs ys d
met_in L M (further member_more) v xs ys d = based_in L M (further member_more) v xs ys d
met_in L M (further parameter_rest) v xs ys d = based_in L M (further parameter_rest) v xs ys d
met_in L M (further parameter_more) v xs ys d = based_in L M (further parameter_more) v xs ys d
met_in L M (further name_items) v xs ys d = based_in L M (further name_items) v xs ys d
met_in L M (further name_rest) v xs ys d = based_in L M (further name_rest) v xs ys d
met_in L M (further name_more) v xs ys d = based_in L M (further name_more) v xs ys d
met_in L M (further selectors) v xs ys d = based_in L M (further selectors) v xs ys d
met_in L M (further components) v xs ys d = based_in L M (further components) v xs ys d
met_in L M (further factors) v xs ys d = based_in L M (further factors) v xs ys d
met_in L M (further summands) v xs ys d = based_in L M (further summands) v xs ys d
met_in L M (further relation_rest) v xs ys d = based_in L M (further relation_rest) v xs ys d
met_in L M (further and_rest) v xs ys d = based_in L M (further and_rest) v xs ys d
met_in L M (further or_rest) v xs ys d = based_in L M (further or_rest) v xs ys d
met_in L M (further bitwise_and_rest) v xs ys d = based_in L M (further bitwise_and_rest) v xs ys d
met_in L M (further bitwise_or_rest) v xs ys d = based_in L M (further bitwise_or_rest) v xs ys d
met_in L M (further bitwise_xor_rest) v xs ys d = based_in L M (further bitwise_xor_rest) v xs ys d
met_in L M (further attribute_list) v xs ys d = based_in L M (further attribute_list) v xs ys d
met_in L M (further left_side_rest) v xs ys d = based_in L M (further left_side_rest) v xs ys d
met_in L M (further declaration_list) v xs ys d = based_in L M (further declaration_list) v xs ys d
met_in L M (further statement_rest) v xs ys d = based_in L M (further statement_rest) v xs ys d
met_in L M (further loop_rest) v xs ys d = based_in L M (further loop_rest) v xs ys d
met_in L M (further clause_rest) v xs ys d = based_in L M (further clause_rest) v xs ys d
met_in L M (further else_rest) v xs ys d = based_in L M (further else_rest) v xs ys d
met_in L M (further init_part) v xs ys d = based_in L M (further init_part) v xs ys d
met_in L M (further condition_part) v xs ys d = based_in L M (further condition_part) v xs ys d
met_in L M (further update_part) v xs ys d = based_in L M (further update_part) v xs ys d
met_in L M (further continuing_rest) v xs ys d = based_in L M (further continuing_rest) v xs ys d
met_in L M (further returning_part) v xs ys d = based_in L M (further returning_part) v xs ys d
met_in L M (further local_part) v xs ys d = based_in L M (further local_part) v xs ys d
met_in L M (further value_part) v xs ys d = based_in L M (further value_part) v xs ys d
met_in L M (further phony_part) v xs ys d = based_in L M (further phony_part) v xs ys d
met_in L M (further assert_part) v xs ys d = based_in L M (further assert_part) v xs ys d
met_in L M (further prefixed_left_side) v xs ys d = based_in L M (further prefixed_left_side) v xs ys d
met_in L M (further const_part) v xs ys d = based_in L M (further const_part) v xs ys d
met_in L M (further alias_part) v xs ys d = based_in L M (further alias_part) v xs ys d
met_in L M (further diagnostic_part) v xs ys d = based_in L M (further diagnostic_part) v xs ys d
met_in L M n v xs ys d = part_in L M n v xs ys d

-- a rule whose two forms are alike
alike_in : (L : Dialect) (M : Mode) (n : Symbol) → Kept (Means M (Met L M) (factored L (of n))) (ReadPart L M n)
alike_in L M n v xs ys d = roll M (factored L) (of n) v xs ys
    (means_mono M M (same_mode M) (Met L M) (Part M (factored L)) (met_in L M) (factored L (of n)) v xs ys d)

-- a rule of a part after attributes, which may be left out in a dialect
after_in : (L : Dialect) (M : Mode) {A B : Type 0} (make : Attributes → A → B) (g : Rule A)
    (h : FactoredRule A) → Kept (Means M (ReadPart L M) g) (Means M (Part M (factored L)) h)
    → Kept (Means M (ReadPart L M) (led L make g)) (Means M (Part M (factored L)) (leading_before L make h))
after_in L M make g h H = led_to L M (ReadPart L M) (Part M (factored L)) (read_list L M) make g h H

rule_in : (L : Dialect) (M : Mode) (n : Symbol) → Kept (Means M (ReadPart L M) (rules L n)) (ReadPart L M n)
rule_in L M ident v xs ys d = alike_in L M ident v xs ys (lifted_in M (Met L M) (rules L ident) v xs ys d)
rule_in L M attribute v xs ys d = alike_in L M attribute v xs ys (lifted_in M (Met L M) (rules L attribute) v xs ys d)
rule_in L M var_template v xs ys d = alike_in L M var_template v xs ys
    (lifted_in M (Met L M) (rules L var_template) v xs ys d)
rule_in L M diagnostic_severity v xs ys d = alike_in L M diagnostic_severity v xs ys
    (lifted_in M (Met L M) (rules L diagnostic_severity) v xs ys d)
rule_in L M additive_expression v xs ys d = alike_in L M additive_expression v xs ys
    (lifted_in M (Met L M) (rules L additive_expression) v xs ys d)
rule_in L M assignment v xs ys d = alike_in L M assignment v xs ys
    (lifted_in M (Met L M) (rules L assignment) v xs ys d)
rule_in L M increment v xs ys d = alike_in L M increment v xs ys (lifted_in M (Met L M) (rules L increment) v xs ys d)
rule_in L M decrement v xs ys d = alike_in L M decrement v xs ys (lifted_in M (Met L M) (rules L decrement) v xs ys d)
rule_in L M expressions v xs ys d = listed_in M (Part M (factored L)) (symbol (of expression))
    (symbol (of expressions)) (roll M (factored L) (of expressions)) v xs ys d
rule_in L M primary_expression v xs ys d = primary_in L M v xs ys d
rule_in L M singular_expression v xs ys d = singular_derived L M v xs ys d
rule_in L M shift_expression v xs ys d = shift_derived L M v xs ys d
rule_in L M relational_expression v xs ys d = relation_derived L M v xs ys d
rule_in L M expression v xs ys d = expression_derived L M v xs ys d
rule_in L M lhs_expression v xs ys d = left_in L M v xs ys d
rule_in L M statement v xs ys d = statement_in L M v xs ys d
rule_in L M for_init v xs ys d = init_in L M v xs ys d
rule_in L M for_update v xs ys d = update_in L M v xs ys d
rule_in L M global_declaration v xs ys d = declaration_in L M v xs ys d
rule_in L M global_directive v xs ys d = directive_in L M v xs ys d
rule_in L M return_statement v xs ys d = roll M (factored L) (of return_statement) v xs ys
    (after_in L M statement returning_rule (symbol (further returning_part))
    (met_in L M (further returning_part)) v xs ys d)
rule_in L M call_statement v xs ys d = roll M (factored L) (of call_statement) v xs ys
    (after_in L M statement (symbol call gives call_statement_of)
    (symbol (of call) gives call_statement_of) (λ u us vs s. s) v xs ys d)
rule_in L M var_statement v xs ys d = roll M (factored L) (of var_statement) v xs ys (after_in L M
    statement local_rule (symbol (further local_part)) (met_in L M (further local_part)) v xs ys d)
rule_in L M value_statement v xs ys d = roll M (factored L) (of value_statement) v xs ys
    (after_in L M statement value_rule (symbol (further value_part)) (met_in L M (further value_part)) v xs ys d)
rule_in L M break_statement v xs ys d = roll M (factored L) (of break_statement) v xs ys
    (after_in L M statement (KwBreak means UnattributedStatement.break_statement)
    (KwBreak means UnattributedStatement.break_statement) (λ u us vs s. s) v xs ys d)
rule_in L M continue_statement v xs ys d = roll M (factored L) (of continue_statement) v xs ys
    (after_in L M statement (KwContinue means UnattributedStatement.continue_statement)
    (KwContinue means UnattributedStatement.continue_statement) (λ u us vs s. s) v xs ys d)
rule_in L M discard_statement v xs ys d = roll M (factored L) (of discard_statement) v xs ys
    (after_in L M statement (KwDiscard means UnattributedStatement.discard_statement)
    (KwDiscard means UnattributedStatement.discard_statement) (λ u us vs s. s) v xs ys d)
rule_in L M phony_assignment v xs ys d = roll M (factored L) (of phony_assignment) v xs ys
    (after_in L M statement phony_kind (symbol (further phony_part)) (met_in L M (further phony_part)) v xs ys d)
rule_in L M const_assert v xs ys d = roll M (factored L) (of const_assert) v xs ys
    (after_in L M with_attributes assert_rule (symbol (further assert_part))
    (met_in L M (further assert_part)) v xs ys d)
rule_in L M switch_clause v xs ys d = roll M (factored L) (of switch_clause) v xs ys (after_in L M
    clause_of clause_rule (symbol (further clause_part)) (met_in L M (further clause_part)) v xs ys d)
rule_in L M continuing_statement v xs ys d = roll M (factored L) (of continuing_statement) v xs ys
    (after_in L M continuing_statement_of (continuing_rule L) (symbol (further continuing_part))
    (met_in L M (further continuing_part)) v xs ys d)
rule_in L M const_declaration v xs ys d = roll M (factored L) (of const_declaration) v xs ys
    (after_in L M with_attributes const_rule (symbol (further const_part))
    (met_in L M (further const_part)) v xs ys d)
rule_in L M alias_declaration v xs ys d = roll M (factored L) (of alias_declaration) v xs ys
    (after_in L M with_attributes alias_rule (symbol (further alias_part)) (met_in L M (further alias_part)) v xs ys d)
rule_in L M struct_declaration v xs ys d = roll M (factored L) (of struct_declaration) v xs ys
    (after_in L M with_attributes struct_rule (symbol (further struct_part))
    (met_in L M (further struct_part)) v xs ys d)
rule_in L M enable_directive v xs ys d = roll M (factored L) (of enable_directive) v xs ys
    (after_in L M with_attributes enable_rule (symbol (further enable_part))
    (met_in L M (further enable_part)) v xs ys d)
rule_in L M requires_directive v xs ys d = roll M (factored L) (of requires_directive) v xs ys
    (after_in L M with_attributes requires_rule (symbol (further requires_part))
    (met_in L M (further requires_part)) v xs ys d)
rule_in L M diagnostic_directive v xs ys d = roll M (factored L) (of diagnostic_directive) v xs ys
    (after_in L M with_attributes diagnostic_rule (symbol (further diagnostic_part))
    (met_in L M (further diagnostic_part)) v xs ys d)
rule_in L M n v xs ys d = alike_in L M n v xs ys d

-- what the written grammar derives, the factored one does
pub written_is_factored : (L : Dialect) (M : Mode) (n : Symbol) → Kept (Part M (rules L) n) (Part M (factored L) (of n))
written_is_factored L M = least M (rules L) (ReadPart L M) (rule_in L M)

-- ---- and back
after_out : (L : Dialect) (M : Mode) {A B : Type 0} (make : Attributes → A → B) (g : Rule A) (h : FactoredRule A)
    → Kept (Means M (Meant L M (WrittenPart L M)) h) (Means M (WrittenPart L M) g)
    → Kept (Means M (Meant L M (WrittenPart L M)) (leading_before L make h)) (Means M (WrittenPart L M) (led L make g))
after_out L M make g h H = led_from L M (WrittenPart L M) (Meant L M (WrittenPart L M)) (meant_list L M) make g h H

rule_out : (L : Dialect) (M : Mode) (n : FactoredSymbol)
    → Kept (Means M (Meant L M (WrittenPart L M)) (factored L n)) (Meant L M (WrittenPart L M) n)
rule_out L M (further template_items) v xs ys d = items_out M (Meant L M (WrittenPart L M))
    TemplateArgsEnd (symbol (of expression)) (symbol (further template_more)) (λ v xs ys d. d) v xs ys d
rule_out L M (further template_rest) v xs ys d = rest_out M (Meant L M (WrittenPart L M)) TemplateArgsEnd
    (symbol (of expression)) (symbol (further template_more)) (λ v xs ys d. d) v xs ys d
rule_out L M (further template_more) v xs ys d = more_out M (Meant L M (WrittenPart L M)) TemplateArgsEnd
    (symbol (of expression)) (symbol (further template_rest)) (λ v xs ys d. d) v xs ys d
rule_out L M (further argument_rest) v xs ys d = rest_out M (Meant L M (WrittenPart L M)) SymParenRight
    (symbol (of expression)) (symbol (further argument_more)) (λ v xs ys d. d) v xs ys d
rule_out L M (further argument_more) v xs ys d = more_out M (Meant L M (WrittenPart L M)) SymParenRight
    (symbol (of expression)) (symbol (further argument_rest)) (λ v xs ys d. d) v xs ys d
rule_out L M (further member_items) v xs ys d = items_out M (Meant L M (WrittenPart L M)) SymBraceRight
    (symbol (of struct_member)) (symbol (further member_more)) (λ v xs ys d. d) v xs ys d
rule_out L M (further member_rest) v xs ys d = rest_out M (Meant L M (WrittenPart L M)) SymBraceRight
    (symbol (of struct_member)) (symbol (further member_more)) (λ v xs ys d. d) v xs ys d
rule_out L M (further member_more) v xs ys d = more_out M (Meant L M (WrittenPart L M)) SymBraceRight
    (symbol (of struct_member)) (symbol (further member_rest)) (λ v xs ys d. d) v xs ys d
rule_out L M (further parameter_rest) v xs ys d = rest_out M (Meant L M (WrittenPart L M)) SymParenRight
    (symbol (of formal_parameter)) (symbol (further parameter_more)) (λ v xs ys d. d) v xs ys d
rule_out L M (further parameter_more) v xs ys d = more_out M (Meant L M (WrittenPart L M)) SymParenRight
    (symbol (of formal_parameter)) (symbol (further parameter_rest)) (λ v xs ys d. d) v xs ys d
rule_out L M (further name_items) v xs ys d = items_out M (Meant L M (WrittenPart L M)) SymSemicolon
    (symbol (of ident)) (symbol (further name_more)) (λ v xs ys d. d) v xs ys d
rule_out L M (further name_rest) v xs ys d = rest_out M (Meant L M (WrittenPart L M)) SymSemicolon
    (symbol (of ident)) (symbol (further name_more)) (λ v xs ys d. d) v xs ys d
rule_out L M (further name_more) v xs ys d = more_out M (Meant L M (WrittenPart L M)) SymSemicolon
    (symbol (of ident)) (symbol (further name_rest)) (λ v xs ys d. d) v xs ys d
rule_out L M (further selectors) v xs ys d = listed_out M (Meant L M (WrittenPart L M))
    (symbol (of case_selector)) (symbol (further selectors)) (λ v xs ys d. d) v xs ys d
rule_out L M (further statement_rest) v xs ys d = until_out M (Meant L M (WrittenPart L M))
    SymBraceRight (symbol (of statement)) (symbol (further statement_rest)) (λ v xs ys d. d) v xs ys d
rule_out L M (further clause_rest) v xs ys d = until_out M (Meant L M (WrittenPart L M)) SymBraceRight
    (symbol (of switch_clause)) (symbol (further clause_rest)) (λ v xs ys d. d) v xs ys d
rule_out L M (further init_part) v xs ys d = optional_out M
    (Meant L M (WrittenPart L M)) SymSemicolon (symbol (of for_init)) v xs ys d
rule_out L M (further condition_part) v xs ys d = optional_out M
    (Meant L M (WrittenPart L M)) SymSemicolon (symbol (of expression)) v xs ys d
rule_out L M (further update_part) v xs ys d = optional_out M
    (Meant L M (WrittenPart L M)) SymParenRight (symbol (of for_update)) v xs ys d
rule_out L M (further loop_rest) v xs ys d = loop_rest_out L M v xs ys d
rule_out L M (further else_rest) v xs ys d = else_rest_out L M v xs ys d
rule_out L M (further continuing_rest) v xs ys d = continuing_rest_out L M v xs ys d
rule_out L M (further switch_part) v xs ys d = switch_part_out L M v xs ys d
rule_out L M (further left_side_in_parentheses) v xs ys d = parenthesized_out L M v xs ys d
rule_out L M (further simple_part) v xs ys d = simple_part_out L M v xs ys d
rule_out L M (further front) v xs ys d = front_out L M v xs ys d
rule_out L M (further summands) v xs ys d = lifted_out M (Meant L M (WrittenPart L M)) (meaning L summands) v xs ys d
rule_out L M (further x) v xs ys d = d
rule_out L M (of ident) v xs ys d = roll M (rules L) ident v xs ys
    (lifted_out M (Meant L M (WrittenPart L M)) (rules L ident) v xs ys d)
rule_out L M (of attribute) v xs ys d = roll M (rules L) attribute v xs ys
    (lifted_out M (Meant L M (WrittenPart L M)) (rules L attribute) v xs ys d)
rule_out L M (of var_template) v xs ys d = roll M (rules L) var_template v xs ys
    (lifted_out M (Meant L M (WrittenPart L M)) (rules L var_template) v xs ys d)
rule_out L M (of diagnostic_severity) v xs ys d = roll M (rules L) diagnostic_severity v xs ys
    (lifted_out M (Meant L M (WrittenPart L M)) (rules L diagnostic_severity) v xs ys d)
rule_out L M (of assignment) v xs ys d = roll M (rules L) assignment v xs ys
    (lifted_out M (Meant L M (WrittenPart L M)) (rules L assignment) v xs ys d)
rule_out L M (of increment) v xs ys d = roll M (rules L) increment v xs ys
    (lifted_out M (Meant L M (WrittenPart L M)) (rules L increment) v xs ys d)
rule_out L M (of decrement) v xs ys d = roll M (rules L) decrement v xs ys
    (lifted_out M (Meant L M (WrittenPart L M)) (rules L decrement) v xs ys d)
rule_out L M (of return_statement) v xs ys d = roll M (rules L) return_statement v xs ys
    (after_out L M statement returning_rule (symbol (further returning_part)) (λ u us vs s. s) v xs ys d)
rule_out L M (of call_statement) v xs ys d = roll M (rules L) call_statement v xs ys
    (after_out L M statement (symbol call gives call_statement_of)
    (symbol (of call) gives call_statement_of) (λ u us vs s. s) v xs ys d)
rule_out L M (of var_statement) v xs ys d = roll M (rules L) var_statement v xs ys
    (after_out L M statement local_rule (symbol (further local_part)) (λ u us vs s. s) v xs ys d)
rule_out L M (of value_statement) v xs ys d = roll M (rules L) value_statement v xs ys
    (after_out L M statement value_rule (symbol (further value_part)) (λ u us vs s. s) v xs ys d)
rule_out L M (of break_statement) v xs ys d = roll M (rules L) break_statement v xs ys
    (after_out L M statement (KwBreak means UnattributedStatement.break_statement)
    (KwBreak means UnattributedStatement.break_statement) (λ u us vs s. s) v xs ys d)
rule_out L M (of continue_statement) v xs ys d = roll M (rules L) continue_statement v xs ys
    (after_out L M statement (KwContinue means UnattributedStatement.continue_statement)
    (KwContinue means UnattributedStatement.continue_statement) (λ u us vs s. s) v xs ys d)
rule_out L M (of discard_statement) v xs ys d = roll M (rules L) discard_statement v xs ys
    (after_out L M statement (KwDiscard means UnattributedStatement.discard_statement)
    (KwDiscard means UnattributedStatement.discard_statement) (λ u us vs s. s) v xs ys d)
rule_out L M (of phony_assignment) v xs ys d = roll M (rules L) phony_assignment v xs ys
    (after_out L M statement phony_kind (symbol (further phony_part)) (λ u us vs s. s) v xs ys d)
rule_out L M (of const_assert) v xs ys d = roll M (rules L) const_assert v xs ys
    (after_out L M with_attributes assert_rule (symbol (further assert_part)) (λ u us vs s. s) v xs ys d)
rule_out L M (of switch_clause) v xs ys d = roll M (rules L) switch_clause v xs ys
    (after_out L M clause_of clause_rule (symbol (further clause_part)) (λ u us vs s. s) v xs ys d)
rule_out L M (of continuing_statement) v xs ys d = roll M (rules L) continuing_statement v xs ys
    (after_out L M continuing_statement_of (continuing_rule L) (symbol (further continuing_part))
    (λ u us vs s. s) v xs ys d)
rule_out L M (of const_declaration) v xs ys d = roll M (rules L) const_declaration v xs ys
    (after_out L M with_attributes const_rule (symbol (further const_part)) (λ u us vs s. s) v xs ys d)
rule_out L M (of alias_declaration) v xs ys d = roll M (rules L) alias_declaration v xs ys
    (after_out L M with_attributes alias_rule (symbol (further alias_part)) (λ u us vs s. s) v xs ys d)
rule_out L M (of struct_declaration) v xs ys d = roll M (rules L) struct_declaration v xs ys
    (after_out L M with_attributes struct_rule (symbol (further struct_part)) (λ u us vs s. s) v xs ys d)
rule_out L M (of enable_directive) v xs ys d = roll M (rules L) enable_directive v xs ys
    (after_out L M with_attributes enable_rule (symbol (further enable_part)) (λ u us vs s. s) v xs ys d)
rule_out L M (of requires_directive) v xs ys d = roll M (rules L) requires_directive v xs ys
    (after_out L M with_attributes requires_rule (symbol (further requires_part)) (λ u us vs s. s) v xs ys d)
rule_out L M (of diagnostic_directive) v xs ys d = roll M (rules L) diagnostic_directive v xs ys
    (after_out L M with_attributes diagnostic_rule (symbol (further diagnostic_part)) (λ u us vs s. s) v xs ys d)
rule_out L M (of additive_expression) v xs ys d = roll M (rules L) additive_expression v xs ys
    (lifted_out M (Meant L M (WrittenPart L M)) (rules L additive_expression) v xs ys d)
rule_out L M (of expressions) v xs ys d = roll M (rules L) expressions v xs ys
    (listed_out M (Meant L M (WrittenPart L M)) (symbol (of expression)) (symbol (of expressions))
    (λ v xs ys d. unroll M (rules L) expressions v xs ys d) v xs ys d)
rule_out L M (of primary_expression) v xs ys d = primary_out L M v xs ys d
rule_out L M (of singular_expression) v xs ys d = singular_back L M v xs ys d
rule_out L M (of shift_expression) v xs ys d = shift_back L M v xs ys d
rule_out L M (of relational_expression) v xs ys d = relation_back L M v xs ys d
rule_out L M (of expression) v xs ys d = expression_back L M v xs ys d
rule_out L M (of lhs_expression) v xs ys d = left_out L M v xs ys d
rule_out L M (of statement) v xs ys d = statement_out L M v xs ys d
rule_out L M (of for_init) v xs ys d = init_out L M v xs ys d
rule_out L M (of for_update) v xs ys d = update_out L M v xs ys d
rule_out L M (of global_declaration) v xs ys d = declaration_out L M v xs ys d
rule_out L M (of global_directive) v xs ys d = directive_out L M v xs ys d
rule_out L M (of n) v xs ys d = roll M (rules L) n v xs ys d

-- what the factored grammar derives, the written one does
pub factored_is_written : (L : Dialect) (M : Mode) (n : Symbol) → Kept (Part M (factored L) (of n)) (Part M (rules L) n)
factored_is_written L M n v xs ys d = least M (factored L) (Meant L M (WrittenPart L M)) (rule_out L M) (of n) v xs ys d
