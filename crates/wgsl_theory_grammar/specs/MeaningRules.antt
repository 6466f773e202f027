-- Written by tools/tables/meanings.py from Written and Factored: what the further symbols mean.
use Rattle.grammar.specs.Grammar.{Grammar.symbol}
use Rattle.grammar.specs.Notation.{list, list_or_none, many, one_token, optional, several, ◌gives◌, ◌means◌, ◌or◌, ◌then◌, ◌▹◌, ◌◃◌}
use Rattle.std.specs.Prelude.{List, Option, Some, [], ◌∷◌}
use Rattle.wgsl_model.specs.Grammar.StatementParts.{attributes, break_if, else_block, else_if, initializer, statements, var_kind}
use Rattle.wgsl_model.specs.Grammar.Symbols.{Dialect, Rule, Symbol.case_selector, Symbol.compound_statement, Symbol.continuing_statement, Symbol.diagnostic_severity, Symbol.expression, Symbol.for_init, Symbol.for_update, Symbol.formal_parameter, Symbol.ident, Symbol.struct_member, Symbol.switch_clause, Symbol.type_specifier, Symbol.typed_ident}
use Rattle.wgsl_model.specs.Grammar.UnitParts.{alias_of, diagnostic_of, enable_of, function_of, requires_of, return_part, struct_of, value_of}
use Rattle.wgsl_model.specs.Tokens.ClassTable.{KwAlias, KwCase, KwConst, KwConstAssert, KwContinue, KwContinuing, KwDefault, KwDiscard, KwEnable, KwFn, KwFor, KwIf, KwLet, KwLoop, KwOverride, KwRequires, KwReturn, KwStruct, KwSwitch, KwWhile, SymBraceLeft, SymBraceRight, SymColon, SymComma, SymEqual, SymParenLeft, SymParenRight, SymPeriod, SymSemicolon}
use Rattle.wgsl_model.specs.Trees.Attributed.{Attributed}
use Rattle.wgsl_model.specs.Trees.Statements.{BreakIfStatement, CaseSelector, CompoundStatement, ConstAssert, DeclarationKind, UnattributedStatement, assert_of, compound_of, for_of, if_of, local_of, loop_of, return_of, statements_of, switch_of, while_of}
use Rattle.wgsl_model.specs.Trees.Units.{UnattributedDeclaration, UnattributedDirective}
use Rattle.wgsl_theory_grammar.specs.Factored.{Further, Further.alias_part, Further.assert_part, Further.attributed_part, Further.block_part, Further.braced_part, Further.clause_part, Further.const_part, Further.continuing_part, Further.diagnostic_part, Further.directive_part, Further.enable_part, Further.ended_part, Further.for_part, Further.function_part, Further.if_part, Further.led_part, Further.local_part, Further.loop_part, Further.override_part, Further.requires_part, Further.returning_part, Further.struct_part, Further.switch_part, Further.value_part, Further.var_part, Further.while_part, FurtherValue}
use Rattle.wgsl_theory_grammar.specs.Meaning.{elses, other_meaning, simple_kinds}

abbrev pub returning_rule : Rule UnattributedStatement
returning_rule = KwReturn ▹ optional (symbol expression) gives return_of

abbrev pub if_rule : Rule UnattributedStatement
if_rule = KwIf ▹ symbol expression then symbol compound_statement then (many else_if then optional else_block)
    gives λ (condition, (block, elses)). if_of condition block elses

abbrev pub switch_rule : Rule UnattributedStatement
switch_rule = KwSwitch ▹ symbol expression then attributes then SymBraceLeft
    ▹ several (symbol switch_clause) ◃ SymBraceRight
    gives λ (selected, (body_attributes, clauses)). switch_of selected body_attributes clauses

abbrev pub loop_rule : Rule UnattributedStatement
loop_rule = KwLoop ▹ attributes then SymBraceLeft
    ▹ (statements then optional (symbol continuing_statement)) ◃ SymBraceRight
    gives λ (body_attributes, (body, continuing)). loop_of body_attributes body continuing

abbrev pub for_rule : Rule UnattributedStatement
for_rule = KwFor ▹ SymParenLeft ▹ optional (symbol for_init) ◃ SymSemicolon then optional (symbol expression)
    ◃ SymSemicolon then optional (symbol for_update) ◃ SymParenRight then symbol compound_statement
    gives λ (init, (condition, (update, block))). for_of init condition update block

abbrev pub while_rule : Rule UnattributedStatement
while_rule = KwWhile ▹ symbol expression then symbol compound_statement
    gives λ (condition, block). while_of condition block

abbrev pub local_rule : Rule UnattributedStatement
local_rule = var_kind then symbol typed_ident then optional initializer
    gives λ (kind, (typed, value)). local_of kind typed value

abbrev pub value_rule : Rule UnattributedStatement
value_rule = (KwLet means DeclarationKind.let_kind or KwConst means DeclarationKind.const_kind)
    then symbol typed_ident then initializer
    gives λ (kind, (typed, value)). local_of kind typed (Some value)

abbrev pub assert_rule : Rule ConstAssert
assert_rule = KwConstAssert ▹ symbol expression gives assert_of

abbrev pub clause_rule : Rule (List CaseSelector × CompoundStatement)
clause_rule = KwCase ▹ list SymComma (symbol case_selector) then optional (one_token SymColon)
    then symbol compound_statement gives (λ (selectors, (colon, block)). (selectors, block))
    or KwDefault ▹ optional (one_token SymColon) then symbol compound_statement
    gives λ (colon, block). (CaseSelector.default_selector ∷ [], block)

abbrev pub continuing_rule : Dialect → Rule (CompoundStatement × Option (Attributed BreakIfStatement))
continuing_rule L =
    KwContinuing ▹ attributes then SymBraceLeft ▹ (statements then optional (break_if L)) ◃ SymBraceRight
    gives λ (body_attributes, (body, break_if)). (compound_of body_attributes body, break_if)

abbrev pub var_rule : Rule UnattributedDeclaration
var_rule = var_kind then symbol typed_ident then optional initializer ◃ SymSemicolon
    gives λ (kind, (typed, value)). value_of kind typed value

abbrev pub const_rule : Rule UnattributedDeclaration
const_rule = KwConst ▹ symbol typed_ident then initializer ◃ SymSemicolon
    gives λ (typed, value). value_of DeclarationKind.const_kind typed (Some value)

abbrev pub override_rule : Rule UnattributedDeclaration
override_rule = KwOverride ▹ symbol typed_ident then optional initializer ◃ SymSemicolon
    gives λ (typed, value). value_of DeclarationKind.override_kind typed value

abbrev pub alias_rule : Rule UnattributedDeclaration
alias_rule = KwAlias ▹ symbol ident then SymEqual ▹ symbol type_specifier ◃ SymSemicolon gives alias_of

abbrev pub struct_rule : Rule UnattributedDeclaration
struct_rule =
    KwStruct ▹ symbol ident then SymBraceLeft ▹ list SymComma (symbol struct_member) ◃ SymBraceRight
    gives struct_of

abbrev pub function_rule : Rule UnattributedDeclaration
function_rule = KwFn ▹ symbol ident then SymParenLeft ▹ list_or_none SymComma (symbol formal_parameter)
    ◃ SymParenRight then optional return_part then symbol compound_statement
    gives λ (name, (parameters, (returned, block))). function_of name parameters returned block

abbrev pub enable_rule : Rule UnattributedDirective
enable_rule = KwEnable ▹ list SymComma (symbol ident) ◃ SymSemicolon gives enable_of

abbrev pub requires_rule : Rule UnattributedDirective
requires_rule = KwRequires ▹ list SymComma (symbol ident) ◃ SymSemicolon gives requires_of

abbrev pub diagnostic_rule : Rule UnattributedDirective
diagnostic_rule =
    symbol diagnostic_severity ◃ SymComma then symbol ident then optional (SymPeriod ▹ symbol ident)
    then optional (one_token SymComma) ◃ SymParenRight ◃ SymSemicolon
    gives λ (severity, (first, (second, comma))). diagnostic_of severity first second

abbrev pub block_rule : Rule UnattributedStatement
block_rule = SymBraceLeft ▹ (statements ◃ SymBraceRight) gives λ ss. UnattributedStatement.compound (statements_of ss)

abbrev pub braced_rule : Rule UnattributedStatement
braced_rule = if_rule or switch_rule or loop_rule or for_rule or while_rule or block_rule

abbrev pub ended_rule : Rule UnattributedStatement
ended_rule = (returning_rule or local_rule or value_rule or KwContinue
    means UnattributedStatement.continue_statement or KwDiscard means UnattributedStatement.discard_statement
    or simple_kinds or assert_rule gives UnattributedStatement.const_assert) ◃ SymSemicolon

abbrev pub attributed_rule : Rule UnattributedDeclaration
attributed_rule = var_rule or override_rule or function_rule

abbrev pub led_rule : Rule UnattributedDeclaration
led_rule = const_rule or alias_rule or struct_rule
    or assert_rule ◃ SymSemicolon gives UnattributedDeclaration.const_assert

abbrev pub directive_rule : Rule UnattributedDirective
directive_rule = enable_rule or requires_rule or diagnostic_rule

-- what each further symbol means
abbrev pub meaning : Dialect → (x : Further) → Rule (FurtherValue x)
meaning L returning_part = returning_rule
meaning L if_part = if_rule
meaning L switch_part = switch_rule
meaning L loop_part = loop_rule
meaning L for_part = for_rule
meaning L while_part = while_rule
meaning L local_part = local_rule
meaning L value_part = value_rule
meaning L assert_part = assert_rule
meaning L clause_part = clause_rule
meaning L continuing_part = continuing_rule L
meaning L var_part = var_rule
meaning L const_part = const_rule
meaning L override_part = override_rule
meaning L alias_part = alias_rule
meaning L struct_part = struct_rule
meaning L function_part = function_rule
meaning L enable_part = enable_rule
meaning L requires_part = requires_rule
meaning L diagnostic_part = diagnostic_rule
meaning L block_part = block_rule
meaning L braced_part = braced_rule
meaning L ended_part = ended_rule
meaning L attributed_part = attributed_rule
meaning L led_part = led_rule
meaning L directive_part = directive_rule
meaning L x = other_meaning L x tt
