-- What the rules of attributes and statements derive fits.
use Rattle.std.proofs.Common.{◌≡◌, refl, sym, ◌∙◌, Bool, true, false, true≢false, List, [], ◌∷◌, Option, Some}
use Rattle.std.specs.Option.{IfSome}
use Rattle.wgsl_model.specs.Printed.Statements.{is_void}
use Rattle.grammar.specs.Grammar.{Grammar.token}
use Rattle.grammar.specs.Notation.{one_token, ◌or◌, ◌means◌, ◌makes◌, optional}
use Rattle.wgsl_model.specs.Tokens.ClassTable.{Ident, ReservedWord, SymAttr, SymBraceLeft, SymBraceRight, SymColon, SymComma, SymEqual, SymMinusMinus, SymParenLeft, SymParenRight, SymPlusPlus, SymSemicolon, SymUnderscore, KwBreak, KwCase, KwConst, KwConstAssert, KwContinue, KwContinuing, KwDefault, KwDiscard, KwElse, KwFor, KwIf, KwLet, KwLoop, KwReturn, KwSwitch, KwWhile}
use Rattle.wgsl_model.specs.Trees.Operators.{AssignmentOperator.equal}
use Rattle.wgsl_model.specs.Trees.Expressions.{ExpressionNode}
use Rattle.wgsl_model.specs.Trees.Attributes.{Attributes}
use Rattle.wgsl_model.specs.Trees.Attributed.{Attributed, with_attributes}
use Rattle.wgsl_model.specs.Trees.Statements as tree
use Rattle.wgsl_model.specs.Trees.Statements.{CaseSelector, CompoundStatement, compound_statement, ConstAssert, BreakIfStatement, DeclarationKind, Statement, UnattributedStatement, unattributed, local_of, compound_of, assignment_of, increment_of, decrement_of, call_statement_of, return_of, if_of, assert_of, assert_statement, clause_of, switch_of, loop_of, continuing_statement_of, for_of, while_of, break_if_of}
use Rattle.wgsl_model.specs.Grammar.TokenValues.{text_of}
use Rattle.wgsl_model.specs.Grammar.Checks.{attribute_parts, attribute_fault, attribute_node}
use Rattle.wgsl_model.specs.Grammar.StatementParts.{placed_statement, attributed, attributes, statements, initializer, var_kind, assignment_operator, underscore_at, left_side, else_if, else_block, break_if}
use Rattle.wgsl_model.specs.Grammar.Symbols as symbols
use Rattle.wgsl_model.specs.Grammar.Symbols.{Dialect.parsed, Rule}
use Rattle.wgsl_model.specs.Grammar.Written.{written, keyword_classes}
use Rattle.wgsl_theory_reread.proofs.Gives.{anything, symbol_sound, then_sound, or_sound, gives_sound, check_sound, weaker_sound, means_sound, sign_before, sign_after}
use Rattle.wgsl_theory_packed.specs.Fits.{Every, SpanFits, NodeFits, AttributeFits, AttributesFit, BreakIfFits, SelectorFits, UnattributedFits, StatementNodeFits, ItemFits, CompoundFits, ElseIfClauseFits, ElseClauseFits}
use Rattle.wgsl_theory_packed.proofs.Derived.Ways.{makes_fits, optional_fits, many_fit, several_fit, list_fits}
use Rattle.wgsl_theory_packed.proofs.Derived.Values.{AsItem, FitsAs, Gives, items_fit, part_fits, else_ifs_fit, else_fits, clauses_fit, continuing_fits}
use Rattle.wgsl_theory_packed.proofs.Derived.Attributes.{attribute_fits}
use Rattle.wgsl_theory_packed.proofs.Derived.ExpressionRules.{open_left_side_gives, parenthesized_left_side_gives}

-- ---- attributes
pub attribute_gives : Gives (written symbols.attribute) (FitsAs symbols.attribute)
attribute_gives = check_sound (makes_fits (sign_before SymAttr
    (then_sound (anything (token (Ident ∷ ReservedWord ∷ keyword_classes)))
    (optional_fits (symbol_sound symbols.arguments))))
    attribute_parts (FitsAs symbols.attribute) (λ p s f h. (h.1, f))) attribute_fault

pub attributes_give : Gives attributes AttributesFit
attributes_give = weaker_sound (many_fit (gives_sound (symbol_sound symbols.attribute) attribute_node
    (λ a. SpanFits a.span × AttributeFits a.node) (λ a h. attribute_fits a h.0 h.1))) AttributesFit (λ xs h. h)

-- ---- parts
-- what is written with the attributes before it, and is not empty
abbrev Part : UnattributedStatement → Type 0
Part s = UnattributedFits s × ((attributes : Attributes) → is_void (tree.statement attributes s) ≡ false)

pub not_empty : {A : Type 0} {b : Bool} → b ≡ false → b ≡ true → A
not_empty e f = absurd (true≢false (sym f ∙ e))

statements_give : Gives statements (Every ItemFits)
statements_give = many_fit (symbol_sound symbols.statement)

pub initializer_gives : Gives initializer NodeFits
initializer_gives = sign_before SymEqual (symbol_sound symbols.expression)

pub var_kind_gives : Gives var_kind (λ (k : DeclarationKind). Unit {0})
var_kind_gives = anything var_kind

pub var_template_gives : Gives (written symbols.var_template) (FitsAs symbols.var_template)
var_template_gives = anything (written symbols.var_template)

pub typed_ident_gives : Gives (written symbols.typed_ident) (FitsAs symbols.typed_ident)
typed_ident_gives = gives_sound (then_sound (symbol_sound symbols.ident)
    (optional_fits (sign_before SymColon (symbol_sound symbols.type_specifier))))
    (λ (name, ty). (text_of name, ty)) (FitsAs symbols.typed_ident) (λ a h. h.1)

-- a statement after its attributes
attributed_gives : {g : Rule UnattributedStatement} → Gives g Part → Gives (attributed tree.statement g) AsItem
attributed_gives G = gives_sound (then_sound attributes_give G) (λ p. tree.statement p.0 p.1) AsItem
    (λ p h. ((h.0, h.1.0), not_empty (h.1.1 p.0)))

-- a statement and where it is
placed_gives : {g : Rule Statement} → Gives g AsItem → Gives (g makes placed_statement) StatementNodeFits
placed_gives G = makes_fits G placed_statement StatementNodeFits (λ v s f h. (f, h.0))

-- ---- blocks and statements
pub compound_statement_gives : Gives (written symbols.compound_statement) (FitsAs symbols.compound_statement)
compound_statement_gives = gives_sound (then_sound attributes_give
    (sign_before SymBraceLeft (sign_after SymBraceRight statements_give))) (λ p. compound_of p.0 p.1)
    (FitsAs symbols.compound_statement) (λ p h. (h.0, items_fit p.1 h.1))

block_fits : (b : CompoundStatement) → CompoundFits b → AsItem (tree.block_statement b)
block_fits (compound_statement before ss) h = (h, not_empty refl)

pub statement_gives : Gives (written symbols.statement) (FitsAs symbols.statement)
statement_gives = makes_fits
    (or_sound (means_sound SymSemicolon (unattributed UnattributedStatement.void) AsItem ((tt, tt), λ e. refl))
    (or_sound (sign_after SymSemicolon (symbol_sound symbols.return_statement))
    (or_sound (symbol_sound symbols.if_statement) (or_sound (symbol_sound symbols.switch_statement)
    (or_sound (symbol_sound symbols.loop_statement) (or_sound (symbol_sound symbols.for_statement)
    (or_sound (symbol_sound symbols.while_statement) (or_sound (sign_after SymSemicolon (symbol_sound
    symbols.call_statement)) (or_sound (sign_after SymSemicolon (symbol_sound symbols.var_statement))
    (or_sound (sign_after SymSemicolon (symbol_sound symbols.value_statement))
    (or_sound (sign_after SymSemicolon (symbol_sound symbols.break_statement)) (or_sound (sign_after
    SymSemicolon (symbol_sound symbols.continue_statement)) (or_sound (sign_after SymSemicolon
    (symbol_sound symbols.discard_statement)) (or_sound (sign_after SymSemicolon (symbol_sound
    symbols.assignment)) (or_sound (sign_after SymSemicolon (symbol_sound symbols.phony_assignment))
    (or_sound (sign_after SymSemicolon (symbol_sound symbols.increment)) (or_sound (sign_after SymSemicolon
    (symbol_sound symbols.decrement)) (or_sound (gives_sound (symbol_sound symbols.compound_statement)
    tree.block_statement AsItem block_fits) (gives_sound (sign_after SymSemicolon (symbol_sound
    symbols.const_assert)) assert_statement AsItem (λ c h. (h, not_empty refl)))))))))))))))))))))
    placed_statement ItemFits (λ v s f h. (f, h.0, h.1))

pub return_statement_gives : Gives (written symbols.return_statement) AsItem
return_statement_gives = attributed_gives
    (gives_sound (sign_before KwReturn (optional_fits (symbol_sound symbols.expression))) return_of
    Part (λ o h. (h, λ a. refl)))

-- ---- `if`, `switch` and loops
else_if_gives : Gives else_if ElseIfClauseFits
else_if_gives = gives_sound (sign_before KwElse (sign_before KwIf
    (then_sound (symbol_sound symbols.expression) (symbol_sound symbols.compound_statement))))
    (λ (condition, block). tree.else_if_clause [] condition block)
    ElseIfClauseFits (λ p h. (tt, h.0, h.1))

else_block_gives : Gives else_block ElseClauseFits
else_block_gives = gives_sound (sign_before KwElse (symbol_sound symbols.compound_statement))
    (tree.else_clause []) ElseClauseFits (λ b h. (tt, h))

pub if_statement_gives : Gives (written symbols.if_statement) AsItem
if_statement_gives = attributed_gives (gives_sound (sign_before KwIf
    (then_sound (symbol_sound symbols.expression) (then_sound (symbol_sound symbols.compound_statement)
    (then_sound (many_fit else_if_gives) (optional_fits else_block_gives)))))
    (λ (condition, (block, elses)). if_of condition block elses) Part
    (λ p h. (((h.0, h.1.0), else_ifs_fit p.1.1.0 h.1.1.0, else_fits p.1.1.1 h.1.1.1), λ a. refl)))

pub switch_statement_gives : Gives (written symbols.switch_statement) AsItem
switch_statement_gives = attributed_gives (gives_sound (sign_before KwSwitch
    (then_sound (symbol_sound symbols.expression) (then_sound attributes_give (sign_before SymBraceLeft
    (sign_after SymBraceRight (several_fit (symbol_sound symbols.switch_clause)))))))
    (λ (selected, (body_attributes, clauses)). switch_of selected body_attributes clauses)
    Part (λ p h. ((h.0, h.1.0, clauses_fit p.1.1 h.1.1), λ a. refl)))

pub loop_statement_gives : Gives (written symbols.loop_statement) AsItem
loop_statement_gives = attributed_gives (gives_sound (sign_before KwLoop
    (then_sound attributes_give (sign_before SymBraceLeft (sign_after SymBraceRight
    (then_sound statements_give (optional_fits (symbol_sound symbols.continuing_statement)))))))
    (λ (body_attributes, (body, continuing)). loop_of body_attributes body continuing) Part
    (λ p h. (((h.0, items_fit p.1.0 h.1.0), continuing_fits p.1.1 h.1.1), λ a. refl)))

pub for_statement_gives : Gives (written symbols.for_statement) AsItem
for_statement_gives = attributed_gives (gives_sound (sign_before KwFor (sign_before SymParenLeft
    (then_sound (sign_after SymSemicolon (optional_fits (symbol_sound symbols.for_init)))
    (then_sound (sign_after SymSemicolon (optional_fits (symbol_sound symbols.expression)))
    (then_sound (sign_after SymParenRight (optional_fits (symbol_sound symbols.for_update)))
    (symbol_sound symbols.compound_statement)))))) (λ (init, (condition, (update, block))).
    for_of init condition update block) Part
    (λ p h. ((part_fits p.0 h.0, h.1.0, part_fits p.1.1.0 h.1.1.0, h.1.1.1), λ a. refl)))

pub while_statement_gives : Gives (written symbols.while_statement) AsItem
while_statement_gives = attributed_gives (gives_sound (sign_before KwWhile
    (then_sound (symbol_sound symbols.expression) (symbol_sound symbols.compound_statement)))
    (λ (condition, block). while_of condition block) Part (λ p h. (h, λ a. refl)))

-- ---- calls, declarations and jumps
pub call_statement_gives : Gives (written symbols.call_statement) AsItem
call_statement_gives = attributed_gives
    (gives_sound (symbol_sound symbols.call) call_statement_of Part (λ c h. (h, λ a. refl)))

pub var_statement_gives : Gives (written symbols.var_statement) AsItem
var_statement_gives = attributed_gives (gives_sound (then_sound var_kind_gives
    (then_sound (symbol_sound symbols.typed_ident) (optional_fits initializer_gives)))
    (λ (kind, (typed, value)). local_of kind typed value) Part (λ p h. (h.1, λ a. refl)))

pub value_statement_gives : Gives (written symbols.value_statement) AsItem
value_statement_gives =
    attributed_gives (gives_sound (then_sound (anything (KwLet means DeclarationKind.let_kind
    or KwConst means DeclarationKind.const_kind)) (then_sound (symbol_sound symbols.typed_ident)
    initializer_gives)) (λ (kind, (typed, value)). local_of kind typed (Some value)) Part (λ p h. (h.1, λ a. refl)))

pub break_statement_gives : Gives (written symbols.break_statement) AsItem
break_statement_gives = attributed_gives
    (means_sound KwBreak UnattributedStatement.break_statement Part (tt, λ a. refl))

pub continue_statement_gives : Gives (written symbols.continue_statement) AsItem
continue_statement_gives = attributed_gives
    (means_sound KwContinue UnattributedStatement.continue_statement Part (tt, λ a. refl))

pub discard_statement_gives : Gives (written symbols.discard_statement) AsItem
discard_statement_gives = attributed_gives
    (means_sound KwDiscard UnattributedStatement.discard_statement Part (tt, λ a. refl))

-- ---- assignments
abbrev LeftFits : Attributes × ExpressionNode → Type 0
LeftFits p = AttributesFit p.0 × NodeFits p.1

left_side_gives : Gives (left_side parsed) LeftFits
left_side_gives = or_sound (then_sound attributes_give open_left_side_gives)
    (gives_sound parenthesized_left_side_gives (λ (e : ExpressionNode). ([], e)) LeftFits (λ e h. (tt, h)))

pub assignment_gives : Gives (written symbols.assignment) AsItem
assignment_gives = gives_sound (then_sound left_side_gives
    (then_sound (anything assignment_operator) (symbol_sound symbols.expression)))
    (λ ((attributes, left), (operator, right)). tree.statement attributes (assignment_of left operator right))
    AsItem (λ p h. ((h.0.0, (h.0.1, h.1.1)), not_empty refl))

pub phony_assignment_gives : Gives (written symbols.phony_assignment) AsItem
phony_assignment_gives =
    attributed_gives (gives_sound (then_sound (makes_fits (anything (one_token SymUnderscore))
    underscore_at NodeFits (λ t s f h. (f, tt))) initializer_gives)
    (λ (left, right). assignment_of left equal right) Part (λ p h. (h, λ a. refl)))

pub increment_gives : Gives (written symbols.increment) AsItem
increment_gives = gives_sound (sign_after SymPlusPlus left_side_gives)
    (λ (attributes, left). tree.statement attributes (increment_of left)) AsItem
    (λ p h. (h, not_empty refl))

pub decrement_gives : Gives (written symbols.decrement) AsItem
decrement_gives = gives_sound (sign_after SymMinusMinus left_side_gives)
    (λ (attributes, left). tree.statement attributes (decrement_of left)) AsItem
    (λ p h. (h, not_empty refl))

pub const_assert_gives : Gives (written symbols.const_assert) (FitsAs symbols.const_assert)
const_assert_gives = gives_sound (then_sound attributes_give (gives_sound (sign_before KwConstAssert
    (symbol_sound symbols.expression)) assert_of (λ (c : ConstAssert). NodeFits c.expression) (λ e h. h)))
    (λ p. with_attributes p.0 p.1) (FitsAs symbols.const_assert) (λ p h. h)

-- ---- clauses
abbrev SelectorsFit : List CaseSelector × CompoundStatement → Type 0
SelectorsFit p = Every SelectorFits p.0 × CompoundFits p.1

clause_gives : {g : Rule (List CaseSelector × CompoundStatement)} → Gives g SelectorsFit
    → Gives (attributed clause_of g) (FitsAs symbols.switch_clause)
clause_gives G = gives_sound (then_sound attributes_give G) (λ p. clause_of p.0 p.1)
    (FitsAs symbols.switch_clause) (λ p h. (h.0, h.1.0, h.1.1))

pub switch_clause_gives : Gives (written symbols.switch_clause) (FitsAs symbols.switch_clause)
switch_clause_gives =
    clause_gives (or_sound (gives_sound (sign_before KwCase (then_sound (list_fits SymComma
    (symbol_sound symbols.case_selector)) (then_sound (anything (optional (one_token SymColon)))
    (symbol_sound symbols.compound_statement)))) (λ (selectors, (colon, block)). (selectors, block))
    SelectorsFit (λ p h. (h.0, h.1.1))) (gives_sound (sign_before KwDefault
    (then_sound (anything (optional (one_token SymColon))) (symbol_sound symbols.compound_statement)))
    (λ (colon, block). (CaseSelector.default_selector ∷ [], block)) SelectorsFit (λ p h. ((tt, tt), h.1))))

pub case_selector_gives : Gives (written symbols.case_selector) (FitsAs symbols.case_selector)
case_selector_gives =
    or_sound (means_sound KwDefault CaseSelector.default_selector (FitsAs symbols.case_selector) tt)
    (gives_sound (symbol_sound symbols.expression) CaseSelector.expression_selector
    (FitsAs symbols.case_selector) (λ e h. h))

break_if_gives : Gives (break_if parsed) BreakIfFits
break_if_gives = gives_sound (then_sound attributes_give (gives_sound (sign_before KwBreak
    (sign_before KwIf (sign_after SymSemicolon (symbol_sound symbols.expression)))) break_if_of
    (λ (b : BreakIfStatement). NodeFits b.expression) (λ e h. h)))
    (λ p. with_attributes p.0 p.1) BreakIfFits (λ p h. h)

abbrev BodyFits : CompoundStatement × Option (Attributed BreakIfStatement) → Type 0
BodyFits p = CompoundFits p.0 × IfSome p.1 BreakIfFits

continuing_gives : {g : Rule (CompoundStatement × Option (Attributed BreakIfStatement))} → Gives g BodyFits
    → Gives (attributed continuing_statement_of g) (FitsAs symbols.continuing_statement)
continuing_gives G = gives_sound (then_sound attributes_give G)
    (λ p. continuing_statement_of p.0 p.1) (FitsAs symbols.continuing_statement)
    (λ p h. (h.0, h.1.0, h.1.1))

pub continuing_statement_gives : Gives (written symbols.continuing_statement) (FitsAs symbols.continuing_statement)
continuing_statement_gives = continuing_gives
    (gives_sound (sign_before KwContinuing (then_sound attributes_give (sign_before SymBraceLeft
    (sign_after SymBraceRight (then_sound statements_give (optional_fits break_if_gives))))))
    (λ (body_attributes, (body, break_if)). (compound_of body_attributes body, break_if)) BodyFits
    (λ p h. ((h.0, items_fit p.1.0 h.1.0), h.1.1)))

pub for_init_gives : Gives (written symbols.for_init) (FitsAs symbols.for_init)
for_init_gives = placed_gives (or_sound (symbol_sound symbols.var_statement)
    (or_sound (symbol_sound symbols.value_statement)
    (or_sound (symbol_sound symbols.assignment)
    (or_sound (symbol_sound symbols.phony_assignment)
    (or_sound (symbol_sound symbols.increment)
    (or_sound (symbol_sound symbols.decrement) (symbol_sound symbols.call_statement)))))))

pub for_update_gives : Gives (written symbols.for_update) (FitsAs symbols.for_update)
for_update_gives = placed_gives (or_sound (symbol_sound symbols.assignment)
    (or_sound (symbol_sound symbols.phony_assignment)
    (or_sound (symbol_sound symbols.increment)
    (or_sound (symbol_sound symbols.decrement) (symbol_sound symbols.call_statement)))))
