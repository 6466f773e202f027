-- What parts of a text derive is sound, with rules that RuleTerms leaves out: names and literals
-- are
-- spelled as they are printed, and a text is printed as it is read.
use Rattle.std.proofs.Common.{◌≡◌, ℕ, ◌==◌, Bool, true, false, cond, refl, List, [], ◌∷◌, Option, Some, None, lit<}
use Rattle.std.specs.Prelude.{codes}
use Rattle.std.proofs.lemmas.Str.{IsUtf8-from_ascii, chars-IsAscii}
use Rattle.unicode_ident.proofs.IdentLemmas.{is_xid_start-ascii}
use Rattle.grammar.specs.Tokens.{Token}
use Rattle.grammar.specs.Grammar.{Grammar.symbol, Grammar.left_chain}
use Rattle.grammar.specs.Notation.{one_token, ◌or◌, ◌means◌, ◌gives◌, ◌makes◌, ◌◃◌, list}
use Rattle.wgsl_model.specs.Tokens.ClassTable.{SymSemicolon, SymEqual, KwConst, KwElse, KwIf, KwLet, SymAnd, SymAndAnd, SymAttr, SymBracketLeft, SymBracketRight, SymComma, SymMinusMinus, SymOr, SymOrOr, SymParenLeft, SymParenRight, SymPeriod, SymShiftLeft, SymShiftRight, SymStar, SymXor, Ident, ReservedWord, SymUnderscore, symbols}
use Rattle.wgsl_model.specs.Trees.Operators.{address_of, indirection, AssignmentOperator, BinaryOperator, short_circuit_or, short_circuit_and, subtraction, bitwise_or, bitwise_and, bitwise_xor, shift_left, shift_right}
use Rattle.wgsl_model.specs.Trees.Spanned.{Spanned}
use Rattle.wgsl_model.specs.Trees.Expressions.{ExpressionNode, expression_node, Expression, expressions_of, template_of}
use Rattle.wgsl_model.specs.Trees.Attributes.{Attribute}
use Rattle.wgsl_model.specs.Trees.Statements as tree
use Rattle.wgsl_model.specs.Trees.Statements.{DeclarationKind, Statement, StatementNode, statement_node, UnattributedStatement, CompoundStatement, ElseIfClause, ElseClause, else_clause, SwitchClause, ContinuingStatement, statements_of, else_ifs_of, else_of, clauses_of, continuing_of, maybe_statement, assert_statement}
use Rattle.wgsl_model.specs.Grammar.TokenValues.{text_of, literal_of}
use Rattle.wgsl_model.specs.Grammar.Checks.{unreserved, attribute_parts, attribute_fault, attribute_node}
use Rattle.wgsl_model.specs.Grammar.ExpressionParts.{placed_expression, index_of, component_of, with_component, unary_of, binary_of, operation_of, negation_of, negated_product_of, two, two_or_more, unary_operator, multiplicative_operator, additive_operator, relational_operator}
use Rattle.wgsl_model.specs.Grammar.StatementParts.{placed_statement, variable_at, parenthesized_at, attributed, attributes, statements, initializer, var_kind, assignment_operator, else_if, else_block, open_left_side, parenthesized_left_side, left_side, underscore_at}
use Rattle.wgsl_model.specs.Grammar.UnitParts.{rule_of, texts_of}
use Rattle.wgsl_model.specs.Grammar.Symbols.{Dialect.parsed, Rule, ident, type_specifier, call, arguments, literal, primary_expression, singular_expression, component, unary_expression, multiplicative_expression, negated_expression, additive_expression, shift_expression, relational_expression, expression, lhs_expression, attribute, compound_statement, statement, const_assert}
use Rattle.wgsl_model.specs.Grammar.Written.{written}
use Rattle.wgsl_theory_reread.proofs.EachRule.ExpressionRules.{literal_classes}
use Rattle.wgsl_theory_printed.proofs.Spelling.Signs.{looked_up, spelled_symbol}
use Rattle.wgsl_theory_printed.proofs.Spelling.Ends.{IsNameText}
use Rattle.wgsl_theory_printed.proofs.Fits.FittingWords.{plain_ascii}
use Rattle.wgsl_theory_printed.proofs.Fits.SoundExpressions.{IsSoundLiteral, IsPrimary, IsPrimaryNode, IsOperand, IsOperandNode, IsSoundExpression, IsSoundNode, AreSoundNodes, IsSoundTemplate}
use Rattle.wgsl_theory_printed.proofs.Fits.FittingAttributes.{IfSome, Every, IsSoundRule, IsSoundAttribute, AreSoundAttributes}
use Rattle.wgsl_theory_printed.proofs.Fits.FittingStatements.{EndsWithNameNode}
use Rattle.wgsl_theory_printed.proofs.Fits.FittingNodes.{IsSoundStatement, IsSoundUnattributed, AreSoundStatements, IsSoundCompound, AreSoundElseIfs, IsSoundElseIf, IsSoundElse, IsSoundElseClause, AreSoundClauses, IsSoundClause, IsSoundMaybeContinuing, IsSoundContinuing, IsSoundPart}
use Rattle.wgsl_theory_printed.proofs.Sound.Scanned.{word_classes}
use Rattle.wgsl_theory_printed.proofs.Sound.SoundAttributes.{one_name_rule, two_names_rule, attribute_sound}
use Rattle.wgsl_theory_reread.proofs.Gives.{anything, token_sound, symbol_sound, then_sound, or_sound, gives_sound, makes_sound, check_sound, weaker_sound, chain_sound, sign_before, sign_after}
use Rattle.wgsl_theory_printed.proofs.Sound.SoundRules.{IsSoundStatementNode, Sound, Gives, optional_sound, many_sound, list_sound}

-- ---- lists, as they are in a tree

pub nodes_sound : (es : List ExpressionNode) → Every IsSoundNode es → AreSoundNodes (expressions_of es)
nodes_sound [] h = tt
nodes_sound (e ∷ es) h = (h.0, nodes_sound es h.1)

pub template_sound : (o : Option (List ExpressionNode)) → IfSome (Every IsSoundNode) o → IsSoundTemplate (template_of o)
template_sound None h = tt
template_sound (Some es) h = nodes_sound es h

pub statements_sound : (ss : List StatementNode) → Every IsSoundStatementNode ss → AreSoundStatements (statements_of ss)
statements_sound [] h = tt
statements_sound (statement_node s span ∷ ss) h = (h.0, statements_sound ss h.1)

pub else_ifs_sound : (cs : List ElseIfClause) → Every IsSoundElseIf cs → AreSoundElseIfs (else_ifs_of cs)
else_ifs_sound [] h = tt
else_ifs_sound (c ∷ cs) h = (h.0, else_ifs_sound cs h.1)

pub else_sound : (o : Option ElseClause) → IfSome IsSoundElseClause o → IsSoundElse (else_of o)
else_sound None h = tt
else_sound (Some c) h = h

pub clauses_sound : (cs : List SwitchClause) → Every IsSoundClause cs → AreSoundClauses (clauses_of cs)
clauses_sound [] h = tt
clauses_sound (c ∷ cs) h = (h.0, clauses_sound cs h.1)

pub continuing_sound : (o : Option ContinuingStatement) → IfSome IsSoundContinuing o
    → IsSoundMaybeContinuing (continuing_of o)
continuing_sound None h = tt
continuing_sound (Some c) h = h

pub part_sound : (o : Option StatementNode) → IfSome IsSoundStatementNode o → IsSoundPart (maybe_statement o)
part_sound None h = tt
part_sound (Some (statement_node s span)) h = h

pub texts_sound : (ts : List Token) → Every (λ (t : Token). IsNameText (text_of t)) ts → Every IsNameText (texts_of ts)
texts_sound [] h = tt
texts_sound (t ∷ ts) h = (h.0, texts_sound ts h.1)

pub rule_of_sound : (first : Token) (second : Option Token) → IsNameText (text_of first)
    → IfSome (λ (t : Token). IsNameText (text_of t)) second → IsSoundRule [] (rule_of first second)
rule_of_sound first None n h = one_name_rule (text_of first) n
rule_of_sound first (Some t) n h = two_names_rule (text_of first) (text_of t) n h

-- ---- expressions

among_words : (a b : Bool) (rest : Bool) → cond a true (cond b true false) ≡ true
    → cond a true (cond b true rest) ≡ true
among_words true b rest h = refl
among_words false true rest h = refl
among_words false false rest h = absurd (cc)

pub ident_gives : Gives (written ident) (Sound ident)
ident_gives = check_sound (token_sound (Ident ∷ ReservedWord ∷ []) (λ t. IsNameText (text_of t))
    (λ t m h. h.words (among_words (t.class == Ident) (t.class == ReservedWord) _ m))) unreserved

-- list(Expression)
pub list_gives : Gives (list SymComma (symbol expression)) (Every IsSoundNode)
list_gives = list_sound SymComma (symbol_sound expression)

pub literal_gives : Gives (written literal) (Sound literal)
literal_gives = gives_sound (token_sound literal_classes (λ t. IsSoundLiteral (literal_of t))
    (λ t m h. h.literals m)) literal_of IsSoundLiteral (λ t h. h)

-- an expression that begins with no operator
abbrev IsSoundPrimary : Expression → Type 0
IsSoundPrimary e = IsPrimary e × IsSoundExpression e

abbrev IsSoundPrimaryNode : ExpressionNode → Type 0
IsSoundPrimaryNode e = IsPrimaryNode e × IsSoundNode e

pub primary_expression_gives : Gives (written primary_expression) (Sound primary_expression)
primary_expression_gives = makes_sound (or_sound (gives_sound (symbol_sound type_specifier)
    Expression.type_or_identifier IsSoundPrimary (λ t h. (tt, h)))
    (or_sound (gives_sound (symbol_sound call) Expression.function_call IsSoundPrimary (λ c h. (tt, h)))
    (or_sound (gives_sound (symbol_sound literal) Expression.literal IsSoundPrimary (λ l h. (tt, h)))
    (gives_sound (sign_before SymParenLeft (sign_after SymParenRight (symbol_sound expression)))
    Expression.parenthesized IsSoundPrimary (λ e h. (tt, h))))))
    placed_expression IsSoundPrimaryNode (λ e s h. h)

pub singular_expression_gives : Gives (written singular_expression) (Sound singular_expression)
singular_expression_gives = chain_sound (symbol_sound primary_expression)
    (symbol_sound component) with_component (λ a b s h k. (let x = k a h.0 h.1 in (x.0, x.2)))

pub component_gives : Gives (written component) (Sound component)
component_gives = or_sound
    (gives_sound (sign_before SymBracketLeft (sign_after SymBracketRight (symbol_sound expression)))
    index_of (Sound component) (λ i h base p s. (p, tt, (s, h))))
    (gives_sound (sign_before SymPeriod (symbol_sound ident)) component_of (Sound component)
    (λ t h base p s. (p, tt, (p, s, h))))

primary_operand : (e : Expression) → IsPrimary e → IsOperand e
primary_operand (Expression.unary operator operand) p = tt
primary_operand (Expression.literal l) p = p
primary_operand (Expression.parenthesized e) p = p
primary_operand (Expression.named_component base text) p = p
primary_operand (Expression.indexing base index) p = p
primary_operand (Expression.binary operator a b) p = p
primary_operand (Expression.function_call c) p = p
primary_operand (Expression.type_or_identifier t) p = p

primary_operand_node : (e : ExpressionNode) → IsPrimaryNode e → IsOperandNode e
primary_operand_node (expression_node e span) p = primary_operand e p

pub unary_expression_gives : Gives (written unary_expression) (Sound unary_expression)
unary_expression_gives = or_sound (weaker_sound (symbol_sound singular_expression)
    (Sound unary_expression) (λ e h. (primary_operand_node e h.0, h.1)))
    (makes_sound (then_sound (anything unary_operator) (symbol_sound unary_expression)) unary_of
    (Sound unary_expression) (λ p s h. (tt, h.1)))

-- a sound operand
operand_gives : Gives (symbol unary_expression) IsSoundNode
operand_gives = weaker_sound (symbol_sound unary_expression) IsSoundNode (λ e h. h.1)

-- an operator and an operand
abbrev IsSoundAfter : BinaryOperator × ExpressionNode → Type 0
IsSoundAfter p = Unit {0} × IsSoundNode p.1

pub multiplicative_expression_gives : Gives (written multiplicative_expression) (Sound multiplicative_expression)
multiplicative_expression_gives = chain_sound operand_gives
    (then_sound (anything multiplicative_operator) operand_gives) binary_of (λ a b s h k. (h, k.1))

pub negated_expression_gives : Gives (written negated_expression) (Sound negated_expression)
negated_expression_gives =
    chain_sound (makes_sound (sign_before SymMinusMinus (symbol_sound unary_expression)) negation_of
    IsSoundNode (λ e s h. h)) (then_sound (anything multiplicative_operator) operand_gives)
    negated_product_of (λ a b s h k. (h, k.1))

pub additive_expression_gives : Gives (written additive_expression) (Sound additive_expression)
additive_expression_gives = chain_sound (symbol_sound multiplicative_expression)
    (or_sound (then_sound (anything additive_operator) (symbol_sound multiplicative_expression))
    (gives_sound (symbol_sound negated_expression) (λ (e : ExpressionNode). (subtraction, e))
    IsSoundAfter (λ e h. (tt, h)))) binary_of (λ a b s h k. (h, k.1))

two_gives : (class : ℕ) (operator : BinaryOperator) {x : Rule ExpressionNode} → Gives x IsSoundNode
    → Gives (two class operator x) IsSoundNode
two_gives class operator G = makes_sound (then_sound G (then_sound (anything (class means operator)) G))
    operation_of IsSoundNode (λ p s h. (h.0, h.1.1))

two_or_more_gives : (class : ℕ) (operator : BinaryOperator) {x : Rule ExpressionNode}
    → Gives x IsSoundNode → Gives (two_or_more class operator x) IsSoundNode
two_or_more_gives class operator G = chain_sound (two_gives class operator G)
    (then_sound (anything (class means operator)) G) binary_of (λ a b s h k. (h, k.1))

pub shift_expression_gives : Gives (written shift_expression) (Sound shift_expression)
shift_expression_gives = or_sound (symbol_sound additive_expression)
    (or_sound (two_gives SymShiftLeft shift_left operand_gives) (two_gives SymShiftRight shift_right operand_gives))

pub relational_expression_gives : Gives (written relational_expression) (Sound relational_expression)
relational_expression_gives = or_sound (symbol_sound shift_expression)
    (makes_sound (then_sound (symbol_sound shift_expression) (then_sound (anything relational_operator)
    (symbol_sound shift_expression))) operation_of IsSoundNode (λ p s h. (h.0, h.1.1)))

pub expression_gives : Gives (written expression) (Sound expression)
expression_gives = or_sound (symbol_sound relational_expression)
    (or_sound (two_or_more_gives SymAndAnd short_circuit_and (symbol_sound relational_expression))
    (or_sound (two_or_more_gives SymOrOr short_circuit_or (symbol_sound relational_expression))
    (or_sound (two_or_more_gives SymAnd bitwise_and operand_gives) (or_sound (two_or_more_gives SymOr
    bitwise_or operand_gives) (two_or_more_gives SymXor bitwise_xor operand_gives)))))

-- a left side that begins with no operator, and one that ends with a name or a bracket
abbrev IsSoundLeft : ExpressionNode → Type 0
IsSoundLeft e = IsPrimaryNode e × EndsWithNameNode e × IsSoundNode e

left_chain_gives : {g : Rule ExpressionNode} → Gives g IsSoundLeft
    → Gives (left_chain with_component g (symbol component)) (Sound lhs_expression)
left_chain_gives G =
    weaker_sound (chain_sound G (symbol_sound component) with_component (λ a b s h k. k a h.0 h.2))
    (Sound lhs_expression) (λ e h. (primary_operand_node e h.0, h.1, h.2))

pub open_left_side_gives : Gives open_left_side (Sound lhs_expression)
open_left_side_gives = or_sound
    (left_chain_gives (makes_sound (symbol_sound ident) variable_at IsSoundLeft (λ t s h. (tt, tt, (h, tt)))))
    (or_sound (makes_sound (then_sound (anything (SymStar means indirection))
    (symbol_sound lhs_expression)) unary_of (Sound lhs_expression) (λ p s h. (tt, h.1.1, (h.1.0, h.1.2))))
    (makes_sound (then_sound (anything (SymAnd means address_of)) (symbol_sound lhs_expression))
    unary_of (Sound lhs_expression) (λ p s h. (tt, h.1.1, (h.1.0, h.1.2)))))

pub parenthesized_left_side_gives : Gives parenthesized_left_side (Sound lhs_expression)
parenthesized_left_side_gives =
    left_chain_gives (makes_sound (sign_before SymParenLeft (sign_after SymParenRight
    (symbol_sound lhs_expression))) parenthesized_at IsSoundLeft (λ e s h. (tt, tt, h.2)))

pub lhs_expression_gives : Gives (written lhs_expression) (Sound lhs_expression)
lhs_expression_gives = or_sound open_left_side_gives parenthesized_left_side_gives

-- ---- attributes

pub attribute_gives : Gives (written attribute) (Sound attribute)
attribute_gives = check_sound (makes_sound (sign_before SymAttr (then_sound (token_sound word_classes
    (λ t. IsNameText (text_of t)) (λ t m h. h.words m)) (optional_sound (symbol_sound arguments))))
    attribute_parts (Sound attribute) (λ p s h. attribute_sound (attribute_parts p s) h.0 h.1))
    attribute_fault

pub attributes_give : Gives attributes AreSoundAttributes
attributes_give = many_sound (gives_sound (symbol_sound attribute) attribute_node
    (λ (a : Spanned Attribute). IsSoundAttribute a.node) (λ a h. h))

-- ---- statements

pub statements_give : Gives statements (Every IsSoundStatementNode)
statements_give = many_sound (symbol_sound statement)

pub initializer_gives : Gives initializer IsSoundNode
initializer_gives = sign_before SymEqual (symbol_sound expression)

block_sound : (b : CompoundStatement) → IsSoundCompound b → IsSoundStatement (tree.block_statement b)
block_sound (tree.compound_statement _ _) h = h

pub block_gives : Gives (symbol compound_statement gives tree.block_statement) IsSoundStatement
block_gives = gives_sound (symbol_sound compound_statement) tree.block_statement IsSoundStatement block_sound

pub assertion_gives : Gives (symbol const_assert ◃ SymSemicolon gives assert_statement) IsSoundStatement
assertion_gives = gives_sound (sign_after SymSemicolon (symbol_sound const_assert))
    assert_statement IsSoundStatement (λ c h. h)

-- a statement and where it is
pub item_gives : {g : Rule Statement} → Gives g IsSoundStatement → Gives (g makes placed_statement) IsSoundStatementNode
item_gives G = makes_sound G placed_statement IsSoundStatementNode (λ v s h. h)

-- the kind of a declaration, and the operator of an assignment
pub var_kind_gives : Gives var_kind (λ (k : DeclarationKind). Unit {0})
var_kind_gives = anything var_kind

pub value_kind_gives : Gives (KwLet means DeclarationKind.let_kind or KwConst means DeclarationKind.const_kind)
    (λ (k : DeclarationKind). Unit {0})
value_kind_gives = anything (KwLet means DeclarationKind.let_kind or KwConst means DeclarationKind.const_kind)

pub assignment_operator_gives : Gives assignment_operator (λ (o : AssignmentOperator). Unit {0})
assignment_operator_gives = anything assignment_operator

-- a statement after attributes
pub attributed_gives : {g : Rule UnattributedStatement} → Gives g IsSoundUnattributed
    → Gives (attributed tree.statement g) IsSoundStatement
attributed_gives G = gives_sound (then_sound attributes_give G)
    (λ p. tree.statement p.0 p.1) IsSoundStatement (λ p h. h)

pub else_if_gives : Gives else_if IsSoundElseIf
else_if_gives = gives_sound (sign_before KwElse
    (sign_before KwIf (then_sound (symbol_sound expression) (symbol_sound compound_statement))))
    (λ p. tree.else_if_clause [] p.0 p.1) IsSoundElseIf (λ p h. (tt, h.0, h.1))

pub else_block_gives : Gives else_block IsSoundElseClause
else_block_gives = gives_sound (sign_before KwElse (symbol_sound compound_statement))
    (tree.else_clause []) IsSoundElseClause (λ b h. (tt, h))

-- a left side after attributes
pub left_side_gives : Gives (left_side parsed) (λ p. AreSoundAttributes p.0 × Sound lhs_expression p.1)
left_side_gives = or_sound (then_sound attributes_give open_left_side_gives)
    (gives_sound parenthesized_left_side_gives (λ e. ([], e))
    (λ p. AreSoundAttributes p.0 × Sound lhs_expression p.1) (λ e h. (tt, h)))

-- the name `_`
underscore_name : IsNameText (codes "_")
underscore_name = record {
  utf8 = IsUtf8-from_ascii (codes "_") (plain_ascii (codes "_") refl);
  first = 95;
  others = [];
  characters = chars-IsAscii (codes "_") (plain_ascii (codes "_") refl);
  begins = rw (is_xid_start-ascii 95 (lit< tt)) refl;
  spelled = spelled_symbol (codes "_") (looked_up symbols (codes "_") SymUnderscore refl);
}

-- the left side of a phony assignment
pub underscore_gives : Gives (one_token SymUnderscore makes underscore_at) IsSoundNode
underscore_gives = makes_sound (anything (one_token SymUnderscore)) underscore_at IsSoundNode
    (λ t s h. (underscore_name, tt))
