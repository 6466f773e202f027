-- The names in the trees of a text have no `.`.
use Rattle.std.proofs.Common.{◌≡◌, ℕ, Bool, true, false, cond, eqb, refl, List, [], ◌∷◌, ◌++◌, Option, Some, None}
use Rattle.grammar.specs.Tokens.{Token}
use Rattle.grammar.specs.Grammar.{Grammar.token, Grammar.symbol, Mode.checking, is_among}
use Rattle.grammar.specs.Notation.{◌then◌, ◌▹◌, ◌◃◌, ◌means◌, optional, separated, list_or_none}
use Rattle.grammar.proofs.Reading.Depth.{least}
use Rattle.wgsl_model.specs.Tokens.ClassTable.{Ident, ReservedWord, SymComma, SymAttr, SymParenLeft, SymParenRight, SymBracketLeft, SymBracketRight, SymPeriod, SymAnd, SymAndAnd, SymOr, SymOrOr, SymXor, SymShiftLeft, SymShiftRight}
use Rattle.wgsl_model.specs.Trees.Operators.{BinaryOperator, bitwise_or, bitwise_and, bitwise_xor, short_circuit_and, short_circuit_or, shift_left, shift_right}
use Rattle.wgsl_model.specs.Trees.Expressions.{ExpressionNode, expression_node, Expression, named_component}
use Rattle.wgsl_model.specs.Grammar.Checks.{unreserved, attribute_parts, attribute_fault}
use Rattle.wgsl_model.specs.Grammar.ExpressionParts.{placed_expression, type_of, index_of, component_of, with_component, unary_of, binary_of, operation_of, unary_operator, multiplicative_operator, summand, relational_operator, two, two_or_more}
use Rattle.wgsl_model.specs.Grammar.TokenValues.{text_of}
use Rattle.wgsl_model.specs.Grammar.Symbols.{Dialect.parsed, Symbol, ident, type_specifier, template_list, call, literal, arguments, primary_expression, singular_expression, component, unary_expression, multiplicative_expression, additive_expression, shift_expression, relational_expression, expression, attribute, Value, Rule}
use Rattle.wgsl_model.specs.Grammar.Written.{written, keyword_classes}
use Rattle.wgsl_theory_reread.proofs.Words.{NoPeriod, IsWord}
use Rattle.wgsl_theory_reread.proofs.Again.{D}
use Rattle.wgsl_theory_reread.proofs.Gives.{Given, GivesBy, token_sound, symbol_sound, none_sound, then_sound, or_sound, gives_sound, makes_sound, check_sound, chain_sound, anything, sign_before, sign_after}
use Rattle.wgsl_theory_reread.proofs.Names.RuleNames.{IsPlainType, IsPlainName, IsPlainRule, PlainNode, PlainNodes, PlainArguments}

-- what has no `.` in the value of a symbol
abbrev pub IsPlain : (n : Symbol) → Value n → Type 0
IsPlain ident t = NoPeriod (text_of t)
IsPlain type_specifier t = IsPlainType t
IsPlain arguments es = PlainNodes es
IsPlain primary_expression e = PlainNode e
IsPlain singular_expression e = PlainNode e
IsPlain component f = (e : ExpressionNode) → PlainNode e → IsPlainRule (f e)
IsPlain unary_expression e = PlainNode e
IsPlain multiplicative_expression e = PlainNode e
IsPlain additive_expression e = PlainNode e
IsPlain shift_expression e = PlainNode e
IsPlain relational_expression e = PlainNode e
IsPlain expression e = PlainNode e
IsPlain attribute a = PlainArguments a.node.arguments
IsPlain n v = Unit {0}

-- derived from words, a value is so, and what follows are words
abbrev pub OfWords : (n : Symbol) → Value n → List Token → List Token → Type 0
OfWords = Given IsWord IsPlain

abbrev Keeps : {A : Type 0} → Rule A → (A → Type 0) → Type 0
Keeps g P = GivesBy IsWord IsPlain g P

-- ---- lists
nodes_after : (es : List ExpressionNode) (e : ExpressionNode) → PlainNodes es → PlainNode e
    → PlainNodes (es ++ (e ∷ []))
nodes_after [] e h k = (k, tt)
nodes_after (x ∷ es) e h k = (h.0, nodes_after es e h.1 k)

separated_keeps : Keeps (separated SymComma (symbol expression)) PlainNodes
separated_keeps = chain_sound (gives_sound (symbol_sound expression) (λ (e : ExpressionNode). e ∷ [])
    PlainNodes (λ e h. (h, tt))) (sign_before SymComma (symbol_sound expression))
    (λ (es : List ExpressionNode) (e : ExpressionNode) s. es ++ (e ∷ []))
    (λ es e span h k. nodes_after es e h k)

nodes_keep : Keeps (list_or_none SymComma (symbol expression)) PlainNodes
nodes_keep = or_sound (or_sound separated_keeps (sign_after SymComma separated_keeps)) (none_sound [] PlainNodes tt)

-- ---- the rules
names_among : (c : ℕ) → is_among c (Ident ∷ ReservedWord ∷ []) ≡ true
    → is_among c (Ident ∷ ReservedWord ∷ keyword_classes) ≡ true
names_among c h = go (eqb c Ident) (eqb c ReservedWord) h where
  go : (a b : Bool) → cond a true (cond b true false) ≡ true
      → cond a true (cond b true (is_among c keyword_classes)) ≡ true
  go true b h = refl
  go false true h = refl
  go false false h = absurd (cc)

ident_keeps : Keeps (written ident) (IsPlain ident)
ident_keeps = check_sound (token_sound (Ident ∷ ReservedWord ∷ []) (λ t. NoPeriod (text_of t))
    (λ t m h. (h (names_among t.class m)).1)) unreserved

plain_type : (t : Token) (o : Option (List ExpressionNode)) → NoPeriod (text_of t) → IsPlainType (type_of (t, o))
plain_type t None h = h
plain_type t (Some es) h = tt

type_keeps : Keeps (written type_specifier) (IsPlain type_specifier)
type_keeps = gives_sound (then_sound (symbol_sound ident) (anything (optional (symbol template_list))))
    type_of IsPlainType (λ p h. plain_type p.0 p.1 h.0)

arguments_keep : Keeps (written arguments) (IsPlain arguments)
arguments_keep = sign_before SymParenLeft (sign_after SymParenRight nodes_keep)

primary_keeps : Keeps (written primary_expression) (IsPlain primary_expression)
primary_keeps = makes_sound
    (or_sound (gives_sound (symbol_sound type_specifier) Expression.type_or_identifier IsPlainRule (λ t h. h))
    (or_sound (gives_sound (anything (symbol call)) Expression.function_call IsPlainRule (λ c h. tt))
    (or_sound (gives_sound (anything (symbol literal)) Expression.literal IsPlainRule (λ l h. tt))
    (gives_sound (anything (SymParenLeft ▹ symbol expression ◃ SymParenRight))
    Expression.parenthesized IsPlainRule (λ e h. tt)))))
    placed_expression PlainNode (λ e span h. h)

singular_keeps : Keeps (written singular_expression) (IsPlain singular_expression)
singular_keeps = chain_sound (symbol_sound primary_expression)
    (symbol_sound component) with_component (λ e f span h k. k e h)

plain_name : (e : Expression) → IsPlainRule e → IsPlainName e
plain_name (named_component x name) h = tt
plain_name e h = h

plain_component : (t : Token) (e : ExpressionNode) → PlainNode e → IsPlainRule (component_of t e)
plain_component t (expression_node e s) h = plain_name e h

component_keeps : Keeps (written component) (IsPlain component)
component_keeps = or_sound (gives_sound (anything (SymBracketLeft ▹ symbol expression ◃ SymBracketRight))
    index_of (IsPlain component) (λ i h e k. tt))
    (gives_sound (anything (SymPeriod ▹ symbol ident)) component_of (IsPlain component)
    (λ t h e k. plain_component t e k))

unary_keeps : Keeps (written unary_expression) (IsPlain unary_expression)
unary_keeps = or_sound (symbol_sound singular_expression)
    (makes_sound (anything (unary_operator then symbol unary_expression)) unary_of PlainNode (λ p span h. tt))

multiplicative_keeps : Keeps (written multiplicative_expression) (IsPlain multiplicative_expression)
multiplicative_keeps = chain_sound (symbol_sound unary_expression)
    (anything (multiplicative_operator then symbol unary_expression)) binary_of (λ e p span h k. tt)

additive_keeps : Keeps (written additive_expression) (IsPlain additive_expression)
additive_keeps = chain_sound (symbol_sound multiplicative_expression)
    (anything (summand parsed)) binary_of (λ e p span h k. tt)

two_keep : (c : ℕ) (operator : BinaryOperator) (n : Rule ExpressionNode) → Keeps (two c operator n) PlainNode
two_keep c operator x = makes_sound (anything (x then c means operator then x)) operation_of PlainNode (λ p span h. tt)

more_keep : (c : ℕ) (operator : BinaryOperator) (x : Rule ExpressionNode) → Keeps (two_or_more c operator x) PlainNode
more_keep c operator x = chain_sound (two_keep c operator x)
    (anything (c means operator then x)) binary_of (λ e p span h k. tt)

shift_keeps : Keeps (written shift_expression) (IsPlain shift_expression)
shift_keeps = or_sound (symbol_sound additive_expression) (or_sound (two_keep SymShiftLeft shift_left
    (symbol unary_expression)) (two_keep SymShiftRight shift_right (symbol unary_expression)))

relational_keeps : Keeps (written relational_expression) (IsPlain relational_expression)
relational_keeps = or_sound (symbol_sound shift_expression) (makes_sound (anything (symbol shift_expression
    then relational_operator then symbol shift_expression)) operation_of PlainNode (λ p span h. tt))

expression_keeps : Keeps (written expression) (IsPlain expression)
expression_keeps = or_sound (symbol_sound relational_expression)
    (or_sound (more_keep SymAndAnd short_circuit_and (symbol relational_expression))
    (or_sound (more_keep SymOrOr short_circuit_or (symbol relational_expression))
    (or_sound (more_keep SymAnd bitwise_and (symbol unary_expression)) (or_sound (more_keep SymOr
    bitwise_or (symbol unary_expression)) (more_keep SymXor bitwise_xor (symbol unary_expression))))))

attribute_keeps : Keeps (written attribute) (IsPlain attribute)
attribute_keeps = check_sound
    (makes_sound (sign_before SymAttr (then_sound (anything (token (Ident ∷ ReservedWord ∷ keyword_classes)))
    (or_sound (gives_sound (symbol_sound arguments) (λ (es : List ExpressionNode). Some es)
    PlainArguments (λ es h. h)) (none_sound None PlainArguments tt)))) attribute_parts
    (IsPlain attribute) (λ p span h. h.1)) attribute_fault

rules : (n : Symbol) → Keeps (written n) (IsPlain n)
rules ident = ident_keeps
rules type_specifier = type_keeps
rules arguments = arguments_keep
rules primary_expression = primary_keeps
rules singular_expression = singular_keeps
rules component = component_keeps
rules unary_expression = unary_keeps
rules multiplicative_expression = multiplicative_keeps
rules additive_expression = additive_keeps
rules shift_expression = shift_keeps
rules relational_expression = relational_keeps
rules expression = expression_keeps
rules attribute = attribute_keeps
rules n = anything (written n)

-- the names in what is derived from words have no `.`
pub named : (n : Symbol) (v : Value n) (xs ys : List Token) → D n v xs ys → OfWords n v xs ys
named = least checking written OfWords (λ n v xs ys d. (rules n).sound v xs ys d)
