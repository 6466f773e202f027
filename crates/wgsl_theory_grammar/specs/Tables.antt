-- The tables of the factored grammar, written by tools/tables/tables.py.
use Rattle.std.specs.Prelude.{ℕ, Bool, true, false, List, [], ◌∷◌}
use Rattle.grammar.specs.Tables.{Tables}
use Rattle.wgsl_model.specs.Tokens.ClassTable.{SymAnd, SymAndAnd, SymAttr, SymForwardSlash, SymBang, SymBracketLeft, SymBraceLeft, SymBraceRight, SymColon, SymComma, SymEqual, SymEqualEqual, SymNotEqual, SymGreaterThan, SymGreaterThanEqual, SymShiftRight, SymLessThan, SymLessThanEqual, SymShiftLeft, SymModulo, SymMinus, SymMinusMinus, SymPeriod, SymPlus, SymPlusPlus, SymOr, SymOrOr, SymParenLeft, SymParenRight, SymSemicolon, SymStar, SymTilde, SymUnderscore, SymXor, SymPlusEqual, SymMinusEqual, SymTimesEqual, SymDivisionEqual, SymModuloEqual, SymAndEqual, SymOrEqual, SymXorEqual, SymShiftRightAssign, SymShiftLeftAssign, KwAlias, KwBreak, KwCase, KwConst, KwConstAssert, KwContinue, KwContinuing, KwDefault, KwDiagnostic, KwDiscard, KwElse, KwEnable, KwFalse, KwFn, KwFor, KwIf, KwLet, KwLoop, KwOverride, KwRequires, KwReturn, KwStruct, KwSwitch, KwTrue, KwVar, KwWhile, Ident, ReservedWord, AbstractInt, I32, U32, AbstractFloat, F32, F16, TemplateArgsStart, TemplateArgsEnd}
use Rattle.wgsl_model.specs.Grammar.Symbols.{Symbol.ident, Symbol.type_specifier, Symbol.template_list, Symbol.expressions, Symbol.call, Symbol.arguments, Symbol.literal, Symbol.primary_expression, Symbol.singular_expression, Symbol.component, Symbol.unary_expression, Symbol.multiplicative_expression, Symbol.negated_expression, Symbol.additive_expression, Symbol.shift_expression, Symbol.relational_expression, Symbol.expression, Symbol.lhs_expression, Symbol.attribute, Symbol.compound_statement, Symbol.statement, Symbol.return_statement, Symbol.if_statement, Symbol.switch_statement, Symbol.loop_statement, Symbol.for_statement, Symbol.while_statement, Symbol.call_statement, Symbol.var_statement, Symbol.value_statement, Symbol.break_statement, Symbol.continue_statement, Symbol.discard_statement, Symbol.assignment, Symbol.phony_assignment, Symbol.increment, Symbol.decrement, Symbol.const_assert, Symbol.switch_clause, Symbol.case_selector, Symbol.continuing_statement, Symbol.for_init, Symbol.for_update, Symbol.var_template, Symbol.typed_ident, Symbol.struct_member, Symbol.formal_parameter, Symbol.global_declaration, Symbol.var_declaration, Symbol.const_declaration, Symbol.override_declaration, Symbol.alias_declaration, Symbol.struct_declaration, Symbol.function_declaration, Symbol.diagnostic_severity, Symbol.global_directive, Symbol.enable_directive, Symbol.requires_directive, Symbol.diagnostic_directive, Symbol.unit}
use Rattle.wgsl_theory_grammar.specs.Factored.{FactoredSymbol, FactoredSymbol.of, FactoredSymbol.further, Further.template_items, Further.template_rest, Further.template_more, Further.argument_rest, Further.argument_more, Further.member_items, Further.member_rest, Further.member_more, Further.parameter_rest, Further.parameter_more, Further.name_items, Further.name_rest, Further.name_more, Further.selectors, Further.components, Further.factors, Further.summands, Further.sum_rest, Further.relation_rest, Further.and_rest, Further.or_rest, Further.bitwise_and_rest, Further.bitwise_or_rest, Further.bitwise_xor_rest, Further.expression_rest, Further.attribute_list, Further.statement_rest, Further.loop_rest, Further.continuing_rest, Further.clause_rest, Further.else_rest, Further.init_part, Further.condition_part, Further.update_part, Further.if_part, Further.switch_part, Further.loop_part, Further.for_part, Further.while_part, Further.block_part, Further.braced_part, Further.returning_part, Further.local_part, Further.value_part, Further.phony_part, Further.simple_part, Further.ended_part, Further.assert_part, Further.clause_part, Further.continuing_part, Further.left_side_rest, Further.left_side_in_parentheses, Further.prefixed_left_side, Further.name_rest_statement, Further.parenthesized_statement, Further.plain_statement, Further.var_part, Further.override_part, Further.function_part, Further.const_part, Further.alias_part, Further.struct_part, Further.enable_part, Further.requires_part, Further.diagnostic_part, Further.attributed_part, Further.led_part, Further.directive_part, Further.declaration_list, Further.front}

-- the classes that begin expressions, unary_expression, multiplicative_expression,
-- additive_expression, shift_expression, relational_expression, expression, template_items
abbrev pub begin_expressions : List ℕ
begin_expressions = SymAnd ∷ SymBang ∷ SymMinus ∷ SymParenLeft ∷ SymStar ∷ SymTilde ∷ KwFalse
    ∷ KwTrue ∷ Ident ∷ ReservedWord ∷ AbstractInt ∷ I32 ∷ U32 ∷ AbstractFloat ∷ F32 ∷ F16 ∷ []

-- the classes that begin primary_expression, singular_expression
abbrev pub begin_primary_expression : List ℕ
begin_primary_expression = SymParenLeft ∷ KwFalse ∷ KwTrue ∷ Ident ∷ ReservedWord ∷ AbstractInt
    ∷ I32 ∷ U32 ∷ AbstractFloat ∷ F32 ∷ F16 ∷ []

-- the classes that begin call_statement, struct_member, formal_parameter, member_items
abbrev pub begin_call_statement : List ℕ
begin_call_statement = SymAttr ∷ Ident ∷ ReservedWord ∷ []

-- the classes that begin assignment, increment, decrement
abbrev pub begin_assignment : List ℕ
begin_assignment = SymAnd ∷ SymAttr ∷ SymParenLeft ∷ SymStar ∷ Ident ∷ ReservedWord ∷ []

-- the classes that begin case_selector, selectors
abbrev pub begin_case_selector : List ℕ
begin_case_selector = SymAnd ∷ SymBang ∷ SymMinus ∷ SymParenLeft ∷ SymStar ∷ SymTilde ∷ KwDefault
    ∷ KwFalse ∷ KwTrue ∷ Ident ∷ ReservedWord ∷ AbstractInt ∷ I32 ∷ U32 ∷ AbstractFloat ∷ F32 ∷ F16 ∷ []

-- the classes that begin global_declaration, declaration_list
abbrev pub begin_global_declaration : List ℕ
begin_global_declaration = SymAttr ∷ SymSemicolon ∷ KwAlias ∷ KwConst ∷ KwConstAssert ∷ KwFn
    ∷ KwOverride ∷ KwStruct ∷ KwVar ∷ []

-- the classes that begin unit, front
abbrev pub begin_unit : List ℕ
begin_unit = SymAttr ∷ SymSemicolon ∷ KwAlias ∷ KwConst ∷ KwConstAssert ∷ KwDiagnostic ∷ KwEnable
    ∷ KwFn ∷ KwOverride ∷ KwRequires ∷ KwStruct ∷ KwVar ∷ []

-- the classes that begin statement_rest, continuing_rest
abbrev pub begin_statement_rest : List ℕ
begin_statement_rest = SymAnd ∷ SymAttr ∷ SymBraceLeft ∷ SymBraceRight ∷ SymParenLeft ∷ SymSemicolon
    ∷ SymStar ∷ SymUnderscore ∷ KwBreak ∷ KwConst ∷ KwConstAssert ∷ KwContinue ∷ KwDiscard ∷ KwFor
    ∷ KwIf ∷ KwLet ∷ KwLoop ∷ KwReturn ∷ KwSwitch ∷ KwVar ∷ KwWhile ∷ Ident ∷ ReservedWord ∷ []

-- the classes that begin each symbol
abbrev pub firsts : FactoredSymbol → List ℕ
firsts (of ident) = Ident ∷ ReservedWord ∷ []
firsts (of type_specifier) = Ident ∷ ReservedWord ∷ []
firsts (of template_list) = TemplateArgsStart ∷ []
firsts (of call) = Ident ∷ ReservedWord ∷ []
firsts (of arguments) = SymParenLeft ∷ []
firsts (of literal) = KwFalse ∷ KwTrue ∷ AbstractInt ∷ I32 ∷ U32 ∷ AbstractFloat ∷ F32 ∷ F16 ∷ []
firsts (of primary_expression) = begin_primary_expression
firsts (of singular_expression) = begin_primary_expression
firsts (of component) = SymBracketLeft ∷ SymPeriod ∷ []
firsts (of negated_expression) = SymMinusMinus ∷ []
firsts (of lhs_expression) = SymAnd ∷ SymParenLeft ∷ SymStar ∷ Ident ∷ ReservedWord ∷ []
firsts (of attribute) = SymAttr ∷ []
firsts (of compound_statement) = SymAttr ∷ SymBraceLeft ∷ []
firsts (of statement) = SymAnd ∷ SymAttr ∷ SymBraceLeft ∷ SymParenLeft ∷ SymSemicolon ∷ SymStar
    ∷ SymUnderscore ∷ KwBreak ∷ KwConst ∷ KwConstAssert ∷ KwContinue ∷ KwDiscard ∷ KwFor ∷ KwIf
    ∷ KwLet ∷ KwLoop ∷ KwReturn ∷ KwSwitch ∷ KwVar ∷ KwWhile ∷ Ident ∷ ReservedWord ∷ []
firsts (of return_statement) = SymAttr ∷ KwReturn ∷ []
firsts (of if_statement) = SymAttr ∷ KwIf ∷ []
firsts (of switch_statement) = SymAttr ∷ KwSwitch ∷ []
firsts (of loop_statement) = SymAttr ∷ KwLoop ∷ []
firsts (of for_statement) = SymAttr ∷ KwFor ∷ []
firsts (of while_statement) = SymAttr ∷ KwWhile ∷ []
firsts (of call_statement) = begin_call_statement
firsts (of var_statement) = SymAttr ∷ KwVar ∷ []
firsts (of value_statement) = SymAttr ∷ KwConst ∷ KwLet ∷ []
firsts (of break_statement) = SymAttr ∷ KwBreak ∷ []
firsts (of continue_statement) = SymAttr ∷ KwContinue ∷ []
firsts (of discard_statement) = SymAttr ∷ KwDiscard ∷ []
firsts (of assignment) = begin_assignment
firsts (of phony_assignment) = SymAttr ∷ SymUnderscore ∷ []
firsts (of increment) = begin_assignment
firsts (of decrement) = begin_assignment
firsts (of const_assert) = SymAttr ∷ KwConstAssert ∷ []
firsts (of switch_clause) = SymAttr ∷ KwCase ∷ KwDefault ∷ []
firsts (of case_selector) = begin_case_selector
firsts (of continuing_statement) = SymAttr ∷ KwContinuing ∷ []
firsts (of for_init) = SymAnd ∷ SymAttr ∷ SymParenLeft ∷ SymStar ∷ SymUnderscore ∷ KwConst ∷ KwLet
    ∷ KwVar ∷ Ident ∷ ReservedWord ∷ []
firsts (of for_update) = SymAnd ∷ SymAttr ∷ SymParenLeft ∷ SymStar ∷ SymUnderscore ∷ Ident ∷ ReservedWord ∷ []
firsts (of var_template) = KwVar ∷ []
firsts (of typed_ident) = Ident ∷ ReservedWord ∷ []
firsts (of struct_member) = begin_call_statement
firsts (of formal_parameter) = begin_call_statement
firsts (of global_declaration) = begin_global_declaration
firsts (of var_declaration) = SymAttr ∷ KwVar ∷ []
firsts (of const_declaration) = SymAttr ∷ KwConst ∷ []
firsts (of override_declaration) = SymAttr ∷ KwOverride ∷ []
firsts (of alias_declaration) = SymAttr ∷ KwAlias ∷ []
firsts (of struct_declaration) = SymAttr ∷ KwStruct ∷ []
firsts (of function_declaration) = SymAttr ∷ KwFn ∷ []
firsts (of diagnostic_severity) = KwDiagnostic ∷ []
firsts (of global_directive) = SymAttr ∷ KwDiagnostic ∷ KwEnable ∷ KwRequires ∷ []
firsts (of enable_directive) = SymAttr ∷ KwEnable ∷ []
firsts (of requires_directive) = SymAttr ∷ KwRequires ∷ []
firsts (of diagnostic_directive) = SymAttr ∷ KwDiagnostic ∷ []
firsts (of unit) = begin_unit
firsts (further template_rest) = SymAnd ∷ SymBang ∷ SymMinus ∷ SymParenLeft ∷ SymStar ∷ SymTilde
    ∷ KwFalse ∷ KwTrue ∷ Ident ∷ ReservedWord ∷ AbstractInt ∷ I32 ∷ U32 ∷ AbstractFloat ∷ F32 ∷ F16
    ∷ TemplateArgsEnd ∷ []
firsts (further template_more) = SymComma ∷ TemplateArgsEnd ∷ []
firsts (further argument_rest) = SymAnd ∷ SymBang ∷ SymMinus ∷ SymParenLeft ∷ SymParenRight
    ∷ SymStar ∷ SymTilde ∷ KwFalse ∷ KwTrue ∷ Ident ∷ ReservedWord ∷ AbstractInt ∷ I32 ∷ U32
    ∷ AbstractFloat ∷ F32 ∷ F16 ∷ []
firsts (further argument_more) = SymComma ∷ SymParenRight ∷ []
firsts (further member_items) = begin_call_statement
firsts (further member_rest) = SymAttr ∷ SymBraceRight ∷ Ident ∷ ReservedWord ∷ []
firsts (further member_more) = SymBraceRight ∷ SymComma ∷ []
firsts (further parameter_rest) = SymAttr ∷ SymParenRight ∷ Ident ∷ ReservedWord ∷ []
firsts (further parameter_more) = SymComma ∷ SymParenRight ∷ []
firsts (further name_items) = Ident ∷ ReservedWord ∷ []
firsts (further name_rest) = SymSemicolon ∷ Ident ∷ ReservedWord ∷ []
firsts (further name_more) = SymComma ∷ SymSemicolon ∷ []
firsts (further selectors) = begin_case_selector
firsts (further components) = SymBracketLeft ∷ SymPeriod ∷ []
firsts (further factors) = SymForwardSlash ∷ SymModulo ∷ SymStar ∷ []
firsts (further summands) = SymMinus ∷ SymMinusMinus ∷ SymPlus ∷ []
firsts (further sum_rest) = SymForwardSlash ∷ SymShiftRight ∷ SymShiftLeft ∷ SymModulo ∷ SymMinus
    ∷ SymMinusMinus ∷ SymPlus ∷ SymStar ∷ []
firsts (further relation_rest) = SymEqualEqual ∷ SymNotEqual ∷ SymGreaterThan ∷ SymGreaterThanEqual
    ∷ SymLessThan ∷ SymLessThanEqual ∷ []
firsts (further and_rest) = SymAndAnd ∷ []
firsts (further or_rest) = SymOrOr ∷ []
firsts (further bitwise_and_rest) = SymAnd ∷ []
firsts (further bitwise_or_rest) = SymOr ∷ []
firsts (further bitwise_xor_rest) = SymXor ∷ []
firsts (further expression_rest) = SymAnd ∷ SymAndAnd ∷ SymForwardSlash ∷ SymEqualEqual ∷ SymNotEqual
    ∷ SymGreaterThan ∷ SymGreaterThanEqual ∷ SymShiftRight ∷ SymLessThan ∷ SymLessThanEqual ∷ SymShiftLeft
    ∷ SymModulo ∷ SymMinus ∷ SymMinusMinus ∷ SymPlus ∷ SymOr ∷ SymOrOr ∷ SymStar ∷ SymXor ∷ []
firsts (further attribute_list) = SymAttr ∷ []
firsts (further statement_rest) = begin_statement_rest
firsts (further loop_rest) = SymAnd ∷ SymAttr ∷ SymBraceLeft ∷ SymBraceRight ∷ SymParenLeft
    ∷ SymSemicolon ∷ SymStar ∷ SymUnderscore ∷ KwBreak ∷ KwConst ∷ KwConstAssert ∷ KwContinue
    ∷ KwContinuing ∷ KwDiscard ∷ KwFor ∷ KwIf ∷ KwLet ∷ KwLoop ∷ KwReturn ∷ KwSwitch ∷ KwVar
    ∷ KwWhile ∷ Ident ∷ ReservedWord ∷ []
firsts (further continuing_rest) = begin_statement_rest
firsts (further clause_rest) = SymAttr ∷ SymBraceRight ∷ KwCase ∷ KwDefault ∷ []
firsts (further else_rest) = KwElse ∷ []
firsts (further init_part) = SymAnd ∷ SymAttr ∷ SymParenLeft ∷ SymSemicolon ∷ SymStar
    ∷ SymUnderscore ∷ KwConst ∷ KwLet ∷ KwVar ∷ Ident ∷ ReservedWord ∷ []
firsts (further condition_part) = SymAnd ∷ SymBang ∷ SymMinus ∷ SymParenLeft ∷ SymSemicolon
    ∷ SymStar ∷ SymTilde ∷ KwFalse ∷ KwTrue ∷ Ident ∷ ReservedWord ∷ AbstractInt ∷ I32 ∷ U32
    ∷ AbstractFloat ∷ F32 ∷ F16 ∷ []
firsts (further update_part) = SymAnd ∷ SymAttr ∷ SymParenLeft ∷ SymParenRight ∷ SymStar
    ∷ SymUnderscore ∷ Ident ∷ ReservedWord ∷ []
firsts (further if_part) = KwIf ∷ []
firsts (further switch_part) = KwSwitch ∷ []
firsts (further loop_part) = KwLoop ∷ []
firsts (further for_part) = KwFor ∷ []
firsts (further while_part) = KwWhile ∷ []
firsts (further block_part) = SymBraceLeft ∷ []
firsts (further braced_part) = SymBraceLeft ∷ KwFor ∷ KwIf ∷ KwLoop ∷ KwSwitch ∷ KwWhile ∷ []
firsts (further returning_part) = KwReturn ∷ []
firsts (further local_part) = KwVar ∷ []
firsts (further value_part) = KwConst ∷ KwLet ∷ []
firsts (further phony_part) = SymUnderscore ∷ []
firsts (further simple_part) = SymAnd ∷ SymStar ∷ SymUnderscore ∷ Ident ∷ ReservedWord ∷ []
firsts (further ended_part) = SymAnd ∷ SymStar ∷ SymUnderscore ∷ KwConst ∷ KwConstAssert
    ∷ KwContinue ∷ KwDiscard ∷ KwLet ∷ KwReturn ∷ KwVar ∷ Ident ∷ ReservedWord ∷ []
firsts (further assert_part) = KwConstAssert ∷ []
firsts (further clause_part) = KwCase ∷ KwDefault ∷ []
firsts (further continuing_part) = KwContinuing ∷ []
firsts (further left_side_rest) = SymEqual ∷ SymMinusMinus ∷ SymPlusPlus ∷ SymPlusEqual
    ∷ SymMinusEqual ∷ SymTimesEqual ∷ SymDivisionEqual ∷ SymModuloEqual ∷ SymAndEqual ∷ SymOrEqual
    ∷ SymXorEqual ∷ SymShiftRightAssign ∷ SymShiftLeftAssign ∷ []
firsts (further left_side_in_parentheses) = SymParenLeft ∷ []
firsts (further prefixed_left_side) = SymAnd ∷ SymStar ∷ []
firsts (further name_rest_statement) = SymBracketLeft ∷ SymEqual ∷ SymMinusMinus ∷ SymPeriod
    ∷ SymPlusPlus ∷ SymParenLeft ∷ SymPlusEqual ∷ SymMinusEqual ∷ SymTimesEqual ∷ SymDivisionEqual
    ∷ SymModuloEqual ∷ SymAndEqual ∷ SymOrEqual ∷ SymXorEqual ∷ SymShiftRightAssign
    ∷ SymShiftLeftAssign ∷ TemplateArgsStart ∷ []
firsts (further parenthesized_statement) = SymParenLeft ∷ []
firsts (further plain_statement) = SymParenLeft ∷ SymSemicolon ∷ []
firsts (further var_part) = KwVar ∷ []
firsts (further override_part) = KwOverride ∷ []
firsts (further function_part) = KwFn ∷ []
firsts (further const_part) = KwConst ∷ []
firsts (further alias_part) = KwAlias ∷ []
firsts (further struct_part) = KwStruct ∷ []
firsts (further enable_part) = KwEnable ∷ []
firsts (further requires_part) = KwRequires ∷ []
firsts (further diagnostic_part) = KwDiagnostic ∷ []
firsts (further attributed_part) = KwFn ∷ KwOverride ∷ KwVar ∷ []
firsts (further led_part) = KwAlias ∷ KwConst ∷ KwConstAssert ∷ KwStruct ∷ []
firsts (further directive_part) = KwDiagnostic ∷ KwEnable ∷ KwRequires ∷ []
firsts (further declaration_list) = begin_global_declaration
firsts (further front) = begin_unit
firsts n = begin_expressions

-- the symbols that can be empty
abbrev pub empties : FactoredSymbol → Bool
empties (of unit) = true
empties (further components) = true
empties (further factors) = true
empties (further summands) = true
empties (further sum_rest) = true
empties (further relation_rest) = true
empties (further expression_rest) = true
empties (further attribute_list) = true
empties (further else_rest) = true
empties (further declaration_list) = true
empties (further front) = true
empties n = false

-- the classes that could go on after singular_expression, unary_expression
abbrev pub after_singular_expression : List ℕ
after_singular_expression = SymBracketLeft ∷ SymPeriod ∷ SymParenLeft ∷ TemplateArgsStart ∷ []

-- the classes that could go on after multiplicative_expression, negated_expression, factors
abbrev pub after_multiplicative_expression : List ℕ
after_multiplicative_expression = SymForwardSlash ∷ SymBracketLeft ∷ SymModulo ∷ SymPeriod
    ∷ SymParenLeft ∷ SymStar ∷ TemplateArgsStart ∷ []

-- the classes that could go on after additive_expression, summands
abbrev pub after_additive_expression : List ℕ
after_additive_expression = SymForwardSlash ∷ SymBracketLeft ∷ SymModulo ∷ SymMinus ∷ SymMinusMinus
    ∷ SymPeriod ∷ SymPlus ∷ SymParenLeft ∷ SymStar ∷ TemplateArgsStart ∷ []

-- the classes that could go on after shift_expression, sum_rest
abbrev pub after_shift_expression : List ℕ
after_shift_expression = SymForwardSlash ∷ SymBracketLeft ∷ SymShiftRight ∷ SymShiftLeft ∷ SymModulo
    ∷ SymMinus ∷ SymMinusMinus ∷ SymPeriod ∷ SymPlus ∷ SymParenLeft ∷ SymStar ∷ TemplateArgsStart ∷ []

-- the classes that could go on after relational_expression, relation_rest
abbrev pub after_relational_expression : List ℕ
after_relational_expression = SymForwardSlash ∷ SymBracketLeft ∷ SymEqualEqual ∷ SymNotEqual
    ∷ SymGreaterThan ∷ SymGreaterThanEqual ∷ SymShiftRight ∷ SymLessThan ∷ SymLessThanEqual
    ∷ SymShiftLeft ∷ SymModulo ∷ SymMinus ∷ SymMinusMinus ∷ SymPeriod ∷ SymPlus ∷ SymParenLeft
    ∷ SymStar ∷ TemplateArgsStart ∷ []

-- the classes that could go on after expression, value_statement, assignment, phony_assignment,
-- const_assert, case_selector, for_update, expression_rest, value_part, phony_part, simple_part,
-- assert_part, left_side_rest, name_rest_statement, parenthesized_statement
abbrev pub after_expression : List ℕ
after_expression = SymAnd ∷ SymAndAnd ∷ SymForwardSlash ∷ SymBracketLeft ∷ SymEqualEqual
    ∷ SymNotEqual ∷ SymGreaterThan ∷ SymGreaterThanEqual ∷ SymShiftRight ∷ SymLessThan
    ∷ SymLessThanEqual ∷ SymShiftLeft ∷ SymModulo ∷ SymMinus ∷ SymMinusMinus ∷ SymPeriod ∷ SymPlus
    ∷ SymOr ∷ SymOrOr ∷ SymParenLeft ∷ SymStar ∷ SymXor ∷ TemplateArgsStart ∷ []

-- the classes that could go on after return_statement, returning_part
abbrev pub after_return_statement : List ℕ
after_return_statement = SymAnd ∷ SymAndAnd ∷ SymForwardSlash ∷ SymBang ∷ SymBracketLeft
    ∷ SymEqualEqual ∷ SymNotEqual ∷ SymGreaterThan ∷ SymGreaterThanEqual ∷ SymShiftRight ∷ SymLessThan
    ∷ SymLessThanEqual ∷ SymShiftLeft ∷ SymModulo ∷ SymMinus ∷ SymMinusMinus ∷ SymPeriod ∷ SymPlus
    ∷ SymOr ∷ SymOrOr ∷ SymParenLeft ∷ SymStar ∷ SymTilde ∷ SymXor ∷ KwFalse ∷ KwTrue ∷ Ident
    ∷ ReservedWord ∷ AbstractInt ∷ I32 ∷ U32 ∷ AbstractFloat ∷ F32 ∷ F16 ∷ TemplateArgsStart ∷ []

-- the classes that could go on after var_statement, for_init, local_part
abbrev pub after_var_statement : List ℕ
after_var_statement = SymAnd ∷ SymAndAnd ∷ SymForwardSlash ∷ SymBracketLeft ∷ SymColon ∷ SymEqual
    ∷ SymEqualEqual ∷ SymNotEqual ∷ SymGreaterThan ∷ SymGreaterThanEqual ∷ SymShiftRight ∷ SymLessThan
    ∷ SymLessThanEqual ∷ SymShiftLeft ∷ SymModulo ∷ SymMinus ∷ SymMinusMinus ∷ SymPeriod ∷ SymPlus
    ∷ SymOr ∷ SymOrOr ∷ SymParenLeft ∷ SymStar ∷ SymXor ∷ TemplateArgsStart ∷ []

-- the classes that could go on after unit, front
abbrev pub after_unit : List ℕ
after_unit = SymAttr ∷ SymSemicolon ∷ KwAlias ∷ KwConst ∷ KwConstAssert ∷ KwDiagnostic ∷ KwEnable
    ∷ KwFn ∷ KwOverride ∷ KwRequires ∷ KwStruct ∷ KwVar ∷ []

-- the classes that could go on after each symbol
abbrev pub mores : FactoredSymbol → List ℕ
mores (of type_specifier) = TemplateArgsStart ∷ []
mores (of expressions) = SymAnd ∷ SymAndAnd ∷ SymForwardSlash ∷ SymBang ∷ SymBracketLeft ∷ SymComma
    ∷ SymEqualEqual ∷ SymNotEqual ∷ SymGreaterThan ∷ SymGreaterThanEqual ∷ SymShiftRight ∷ SymLessThan
    ∷ SymLessThanEqual ∷ SymShiftLeft ∷ SymModulo ∷ SymMinus ∷ SymMinusMinus ∷ SymPeriod ∷ SymPlus
    ∷ SymOr ∷ SymOrOr ∷ SymParenLeft ∷ SymStar ∷ SymTilde ∷ SymXor ∷ KwFalse ∷ KwTrue ∷ Ident
    ∷ ReservedWord ∷ AbstractInt ∷ I32 ∷ U32 ∷ AbstractFloat ∷ F32 ∷ F16 ∷ TemplateArgsStart ∷ []
mores (of primary_expression) = SymParenLeft ∷ TemplateArgsStart ∷ []
mores (of singular_expression) = after_singular_expression
mores (of unary_expression) = after_singular_expression
mores (of multiplicative_expression) = after_multiplicative_expression
mores (of negated_expression) = after_multiplicative_expression
mores (of additive_expression) = after_additive_expression
mores (of shift_expression) = after_shift_expression
mores (of relational_expression) = after_relational_expression
mores (of expression) = after_expression
mores (of lhs_expression) = SymBracketLeft ∷ SymPeriod ∷ []
mores (of attribute) = SymParenLeft ∷ []
mores (of statement) = KwElse ∷ []
mores (of return_statement) = after_return_statement
mores (of if_statement) = KwElse ∷ []
mores (of var_statement) = after_var_statement
mores (of value_statement) = after_expression
mores (of assignment) = after_expression
mores (of phony_assignment) = after_expression
mores (of const_assert) = after_expression
mores (of case_selector) = after_expression
mores (of for_init) = after_var_statement
mores (of for_update) = after_expression
mores (of var_template) = TemplateArgsStart ∷ []
mores (of typed_ident) = SymColon ∷ TemplateArgsStart ∷ []
mores (of struct_member) = TemplateArgsStart ∷ []
mores (of formal_parameter) = TemplateArgsStart ∷ []
mores (of unit) = after_unit
mores (further selectors) = SymAnd ∷ SymAndAnd ∷ SymForwardSlash ∷ SymBang ∷ SymBracketLeft
    ∷ SymComma ∷ SymEqualEqual ∷ SymNotEqual ∷ SymGreaterThan ∷ SymGreaterThanEqual ∷ SymShiftRight
    ∷ SymLessThan ∷ SymLessThanEqual ∷ SymShiftLeft ∷ SymModulo ∷ SymMinus ∷ SymMinusMinus
    ∷ SymPeriod ∷ SymPlus ∷ SymOr ∷ SymOrOr ∷ SymParenLeft ∷ SymStar ∷ SymTilde ∷ SymXor ∷ KwDefault
    ∷ KwFalse ∷ KwTrue ∷ Ident ∷ ReservedWord ∷ AbstractInt ∷ I32 ∷ U32 ∷ AbstractFloat ∷ F32 ∷ F16
    ∷ TemplateArgsStart ∷ []
mores (further components) = SymBracketLeft ∷ SymPeriod ∷ []
mores (further factors) = after_multiplicative_expression
mores (further summands) = after_additive_expression
mores (further sum_rest) = after_shift_expression
mores (further relation_rest) = after_relational_expression
mores (further and_rest) = SymAndAnd ∷ SymForwardSlash ∷ SymBracketLeft ∷ SymEqualEqual
    ∷ SymNotEqual ∷ SymGreaterThan ∷ SymGreaterThanEqual ∷ SymShiftRight ∷ SymLessThan
    ∷ SymLessThanEqual ∷ SymShiftLeft ∷ SymModulo ∷ SymMinus ∷ SymMinusMinus ∷ SymPeriod ∷ SymPlus
    ∷ SymParenLeft ∷ SymStar ∷ TemplateArgsStart ∷ []
mores (further or_rest) = SymForwardSlash ∷ SymBracketLeft ∷ SymEqualEqual ∷ SymNotEqual
    ∷ SymGreaterThan ∷ SymGreaterThanEqual ∷ SymShiftRight ∷ SymLessThan ∷ SymLessThanEqual
    ∷ SymShiftLeft ∷ SymModulo ∷ SymMinus ∷ SymMinusMinus ∷ SymPeriod ∷ SymPlus ∷ SymOrOr
    ∷ SymParenLeft ∷ SymStar ∷ TemplateArgsStart ∷ []
mores (further bitwise_and_rest) = SymAnd ∷ SymBracketLeft ∷ SymPeriod ∷ SymParenLeft ∷ TemplateArgsStart ∷ []
mores (further bitwise_or_rest) = SymBracketLeft ∷ SymPeriod ∷ SymOr ∷ SymParenLeft ∷ TemplateArgsStart ∷ []
mores (further bitwise_xor_rest) = SymBracketLeft ∷ SymPeriod ∷ SymParenLeft ∷ SymXor ∷ TemplateArgsStart ∷ []
mores (further expression_rest) = after_expression
mores (further attribute_list) = SymAttr ∷ SymParenLeft ∷ []
mores (further else_rest) = KwElse ∷ []
mores (further if_part) = KwElse ∷ []
mores (further braced_part) = KwElse ∷ []
mores (further returning_part) = after_return_statement
mores (further local_part) = after_var_statement
mores (further value_part) = after_expression
mores (further phony_part) = after_expression
mores (further simple_part) = after_expression
mores (further assert_part) = after_expression
mores (further left_side_rest) = after_expression
mores (further left_side_in_parentheses) = SymBracketLeft ∷ SymPeriod ∷ []
mores (further prefixed_left_side) = SymBracketLeft ∷ SymPeriod ∷ []
mores (further name_rest_statement) = after_expression
mores (further parenthesized_statement) = after_expression
mores (further declaration_list) = SymAttr ∷ SymSemicolon ∷ KwAlias ∷ KwConst ∷ KwConstAssert ∷ KwFn
    ∷ KwOverride ∷ KwStruct ∷ KwVar ∷ []
mores (further front) = after_unit
mores n = []

-- how many symbols can follow one another before a token is taken
abbrev pub ranks : FactoredSymbol → ℕ
ranks (of type_specifier) = 1
ranks (of expressions) = 6
ranks (of call) = 2
ranks (of primary_expression) = 2
ranks (of singular_expression) = 3
ranks (of unary_expression) = 4
ranks (of multiplicative_expression) = 5
ranks (of additive_expression) = 6
ranks (of shift_expression) = 5
ranks (of relational_expression) = 6
ranks (of expression) = 5
ranks (of lhs_expression) = 1
ranks (of compound_statement) = 2
ranks (of statement) = 3
ranks (of return_statement) = 2
ranks (of if_statement) = 2
ranks (of switch_statement) = 2
ranks (of loop_statement) = 2
ranks (of for_statement) = 2
ranks (of while_statement) = 2
ranks (of call_statement) = 3
ranks (of var_statement) = 2
ranks (of value_statement) = 2
ranks (of break_statement) = 2
ranks (of continue_statement) = 2
ranks (of discard_statement) = 2
ranks (of assignment) = 1
ranks (of phony_assignment) = 2
ranks (of increment) = 1
ranks (of decrement) = 1
ranks (of const_assert) = 2
ranks (of switch_clause) = 2
ranks (of case_selector) = 6
ranks (of continuing_statement) = 2
ranks (of for_init) = 2
ranks (of for_update) = 2
ranks (of typed_ident) = 1
ranks (of struct_member) = 2
ranks (of formal_parameter) = 2
ranks (of global_declaration) = 3
ranks (of var_declaration) = 2
ranks (of const_declaration) = 2
ranks (of override_declaration) = 2
ranks (of alias_declaration) = 2
ranks (of struct_declaration) = 2
ranks (of function_declaration) = 2
ranks (of global_directive) = 3
ranks (of enable_directive) = 2
ranks (of requires_directive) = 2
ranks (of diagnostic_directive) = 2
ranks (of unit) = 4
ranks (further template_items) = 6
ranks (further template_rest) = 6
ranks (further argument_rest) = 6
ranks (further member_items) = 3
ranks (further member_rest) = 3
ranks (further parameter_rest) = 3
ranks (further name_items) = 1
ranks (further name_rest) = 1
ranks (further selectors) = 7
ranks (further components) = 1
ranks (further summands) = 1
ranks (further sum_rest) = 2
ranks (further expression_rest) = 3
ranks (further attribute_list) = 1
ranks (further statement_rest) = 4
ranks (further loop_rest) = 3
ranks (further continuing_rest) = 3
ranks (further clause_rest) = 3
ranks (further init_part) = 3
ranks (further condition_part) = 6
ranks (further update_part) = 3
ranks (further braced_part) = 1
ranks (further local_part) = 1
ranks (further simple_part) = 1
ranks (further ended_part) = 2
ranks (further name_rest_statement) = 2
ranks (further parenthesized_statement) = 1
ranks (further plain_statement) = 2
ranks (further var_part) = 1
ranks (further diagnostic_part) = 1
ranks (further attributed_part) = 2
ranks (further led_part) = 1
ranks (further directive_part) = 2
ranks (further declaration_list) = 4
ranks (further front) = 3
ranks n = 0

-- how many symbols are within one another at least
abbrev pub heights : FactoredSymbol → ℕ
heights (of type_specifier) = 1
heights (of template_list) = 6
heights (of expressions) = 5
heights (of call) = 2
heights (of arguments) = 1
heights (of primary_expression) = 1
heights (of singular_expression) = 2
heights (of component) = 1
heights (of unary_expression) = 3
heights (of multiplicative_expression) = 4
heights (of negated_expression) = 4
heights (of additive_expression) = 5
heights (of shift_expression) = 4
heights (of relational_expression) = 5
heights (of expression) = 4
heights (of lhs_expression) = 1
heights (of compound_statement) = 1
heights (of statement) = 1
heights (of return_statement) = 1
heights (of if_statement) = 6
heights (of switch_statement) = 6
heights (of loop_statement) = 2
heights (of for_statement) = 3
heights (of while_statement) = 6
heights (of call_statement) = 3
heights (of var_statement) = 3
heights (of value_statement) = 6
heights (of break_statement) = 1
heights (of continue_statement) = 1
heights (of discard_statement) = 1
heights (of assignment) = 5
heights (of phony_assignment) = 6
heights (of increment) = 1
heights (of decrement) = 1
heights (of const_assert) = 6
heights (of switch_clause) = 3
heights (of continuing_statement) = 2
heights (of for_init) = 3
heights (of for_update) = 3
heights (of typed_ident) = 1
heights (of struct_member) = 2
heights (of formal_parameter) = 2
heights (of var_declaration) = 3
heights (of const_declaration) = 6
heights (of override_declaration) = 3
heights (of alias_declaration) = 3
heights (of struct_declaration) = 5
heights (of function_declaration) = 3
heights (of diagnostic_severity) = 1
heights (of global_directive) = 4
heights (of enable_directive) = 3
heights (of requires_directive) = 3
heights (of diagnostic_directive) = 3
heights (of unit) = 1
heights (further template_items) = 5
heights (further member_items) = 3
heights (further name_items) = 1
heights (further selectors) = 1
heights (further sum_rest) = 1
heights (further and_rest) = 6
heights (further or_rest) = 6
heights (further bitwise_and_rest) = 4
heights (further bitwise_or_rest) = 4
heights (further bitwise_xor_rest) = 4
heights (further expression_rest) = 2
heights (further if_part) = 5
heights (further switch_part) = 5
heights (further loop_part) = 1
heights (further for_part) = 2
heights (further while_part) = 5
heights (further block_part) = 1
heights (further braced_part) = 2
heights (further local_part) = 2
heights (further value_part) = 5
heights (further phony_part) = 5
heights (further simple_part) = 2
heights (further assert_part) = 5
heights (further clause_part) = 2
heights (further continuing_part) = 1
heights (further left_side_in_parentheses) = 2
heights (further prefixed_left_side) = 2
heights (further name_rest_statement) = 1
heights (further parenthesized_statement) = 3
heights (further var_part) = 2
heights (further override_part) = 2
heights (further function_part) = 2
heights (further const_part) = 5
heights (further alias_part) = 2
heights (further struct_part) = 4
heights (further enable_part) = 2
heights (further requires_part) = 2
heights (further diagnostic_part) = 2
heights (further attributed_part) = 3
heights (further led_part) = 3
heights (further directive_part) = 3
heights n = 0

-- the greatest rank of a part
abbrev pub rank_limit : ℕ
rank_limit = 8

-- all of them
abbrev pub tables : Tables FactoredSymbol
tables = record { first = firsts; empty = empties; more = mores; rank = ranks }
