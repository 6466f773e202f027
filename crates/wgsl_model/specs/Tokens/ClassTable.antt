-- Written by tools/tables/tokens.py from crates/wgsl_model/tokens: the classes of tokens, and their
-- texts.
-- A class is a number; symbols come first, then keywords, then other tokens (WGSL, "Tokens").
use Rattle.std.specs.Prelude.{ℕ, Bool, ◌&&◌, nat_le, nat_lt, List, [], ◌∷◌, codes}

-- the symbol `&`
abbrev pub SymAnd : ℕ
SymAnd = 0

-- the symbol `&&`
abbrev pub SymAndAnd : ℕ
SymAndAnd = 1

-- the symbol `->`
abbrev pub SymArrow : ℕ
SymArrow = 2

-- the symbol `@`
abbrev pub SymAttr : ℕ
SymAttr = 3

-- the symbol `/`
abbrev pub SymForwardSlash : ℕ
SymForwardSlash = 4

-- the symbol `!`
abbrev pub SymBang : ℕ
SymBang = 5

-- the symbol `[`
abbrev pub SymBracketLeft : ℕ
SymBracketLeft = 6

-- the symbol `]`
abbrev pub SymBracketRight : ℕ
SymBracketRight = 7

-- the symbol `{`
abbrev pub SymBraceLeft : ℕ
SymBraceLeft = 8

-- the symbol `}`
abbrev pub SymBraceRight : ℕ
SymBraceRight = 9

-- the symbol `:`
abbrev pub SymColon : ℕ
SymColon = 10

-- the symbol `,`
abbrev pub SymComma : ℕ
SymComma = 11

-- the symbol `=`
abbrev pub SymEqual : ℕ
SymEqual = 12

-- the symbol `==`
abbrev pub SymEqualEqual : ℕ
SymEqualEqual = 13

-- the symbol `!=`
abbrev pub SymNotEqual : ℕ
SymNotEqual = 14

-- the symbol `>`
abbrev pub SymGreaterThan : ℕ
SymGreaterThan = 15

-- the symbol `>=`
abbrev pub SymGreaterThanEqual : ℕ
SymGreaterThanEqual = 16

-- the symbol `>>`
abbrev pub SymShiftRight : ℕ
SymShiftRight = 17

-- the symbol `<`
abbrev pub SymLessThan : ℕ
SymLessThan = 18

-- the symbol `<=`
abbrev pub SymLessThanEqual : ℕ
SymLessThanEqual = 19

-- the symbol `<<`
abbrev pub SymShiftLeft : ℕ
SymShiftLeft = 20

-- the symbol `%`
abbrev pub SymModulo : ℕ
SymModulo = 21

-- the symbol `-`
abbrev pub SymMinus : ℕ
SymMinus = 22

-- the symbol `--`
abbrev pub SymMinusMinus : ℕ
SymMinusMinus = 23

-- the symbol `.`
abbrev pub SymPeriod : ℕ
SymPeriod = 24

-- the symbol `+`
abbrev pub SymPlus : ℕ
SymPlus = 25

-- the symbol `++`
abbrev pub SymPlusPlus : ℕ
SymPlusPlus = 26

-- the symbol `|`
abbrev pub SymOr : ℕ
SymOr = 27

-- the symbol `||`
abbrev pub SymOrOr : ℕ
SymOrOr = 28

-- the symbol `(`
abbrev pub SymParenLeft : ℕ
SymParenLeft = 29

-- the symbol `)`
abbrev pub SymParenRight : ℕ
SymParenRight = 30

-- the symbol `;`
abbrev pub SymSemicolon : ℕ
SymSemicolon = 31

-- the symbol `*`
abbrev pub SymStar : ℕ
SymStar = 32

-- the symbol `~`
abbrev pub SymTilde : ℕ
SymTilde = 33

-- the symbol `_`
abbrev pub SymUnderscore : ℕ
SymUnderscore = 34

-- the symbol `^`
abbrev pub SymXor : ℕ
SymXor = 35

-- the symbol `+=`
abbrev pub SymPlusEqual : ℕ
SymPlusEqual = 36

-- the symbol `-=`
abbrev pub SymMinusEqual : ℕ
SymMinusEqual = 37

-- the symbol `*=`
abbrev pub SymTimesEqual : ℕ
SymTimesEqual = 38

-- the symbol `/=`
abbrev pub SymDivisionEqual : ℕ
SymDivisionEqual = 39

-- the symbol `%=`
abbrev pub SymModuloEqual : ℕ
SymModuloEqual = 40

-- the symbol `&=`
abbrev pub SymAndEqual : ℕ
SymAndEqual = 41

-- the symbol `|=`
abbrev pub SymOrEqual : ℕ
SymOrEqual = 42

-- the symbol `^=`
abbrev pub SymXorEqual : ℕ
SymXorEqual = 43

-- the symbol `>>=`
abbrev pub SymShiftRightAssign : ℕ
SymShiftRightAssign = 44

-- the symbol `<<=`
abbrev pub SymShiftLeftAssign : ℕ
SymShiftLeftAssign = 45

-- the keyword `alias`
abbrev pub KwAlias : ℕ
KwAlias = 46

-- the keyword `break`
abbrev pub KwBreak : ℕ
KwBreak = 47

-- the keyword `case`
abbrev pub KwCase : ℕ
KwCase = 48

-- the keyword `const`
abbrev pub KwConst : ℕ
KwConst = 49

-- the keyword `const_assert`
abbrev pub KwConstAssert : ℕ
KwConstAssert = 50

-- the keyword `continue`
abbrev pub KwContinue : ℕ
KwContinue = 51

-- the keyword `continuing`
abbrev pub KwContinuing : ℕ
KwContinuing = 52

-- the keyword `default`
abbrev pub KwDefault : ℕ
KwDefault = 53

-- the keyword `diagnostic`
abbrev pub KwDiagnostic : ℕ
KwDiagnostic = 54

-- the keyword `discard`
abbrev pub KwDiscard : ℕ
KwDiscard = 55

-- the keyword `else`
abbrev pub KwElse : ℕ
KwElse = 56

-- the keyword `enable`
abbrev pub KwEnable : ℕ
KwEnable = 57

-- the keyword `false`
abbrev pub KwFalse : ℕ
KwFalse = 58

-- the keyword `fn`
abbrev pub KwFn : ℕ
KwFn = 59

-- the keyword `for`
abbrev pub KwFor : ℕ
KwFor = 60

-- the keyword `if`
abbrev pub KwIf : ℕ
KwIf = 61

-- the keyword `let`
abbrev pub KwLet : ℕ
KwLet = 62

-- the keyword `loop`
abbrev pub KwLoop : ℕ
KwLoop = 63

-- the keyword `override`
abbrev pub KwOverride : ℕ
KwOverride = 64

-- the keyword `requires`
abbrev pub KwRequires : ℕ
KwRequires = 65

-- the keyword `return`
abbrev pub KwReturn : ℕ
KwReturn = 66

-- the keyword `struct`
abbrev pub KwStruct : ℕ
KwStruct = 67

-- the keyword `switch`
abbrev pub KwSwitch : ℕ
KwSwitch = 68

-- the keyword `true`
abbrev pub KwTrue : ℕ
KwTrue = 69

-- the keyword `var`
abbrev pub KwVar : ℕ
KwVar = 70

-- the keyword `while`
abbrev pub KwWhile : ℕ
KwWhile = 71

-- an identifier
abbrev pub Ident : ℕ
Ident = 72

-- a reserved word
abbrev pub ReservedWord : ℕ
ReservedWord = 73

-- a whole number without suffix
abbrev pub AbstractInt : ℕ
AbstractInt = 74

-- a whole number with the suffix `i`
abbrev pub I32 : ℕ
I32 = 75

-- a whole number with the suffix `u`
abbrev pub U32 : ℕ
U32 = 76

-- a float without suffix
abbrev pub AbstractFloat : ℕ
AbstractFloat = 77

-- a float with the suffix `f`
abbrev pub F32 : ℕ
F32 = 78

-- a float with the suffix `h`
abbrev pub F16 : ℕ
F16 = 79

-- the `<` that begins a template list
abbrev pub TemplateArgsStart : ℕ
TemplateArgsStart = 80

-- the `>` that ends a template list
abbrev pub TemplateArgsEnd : ℕ
TemplateArgsEnd = 81

-- a line comment
abbrev pub LineComment : ℕ
LineComment = 82

-- a block comment
abbrev pub BlockComment : ℕ
BlockComment = 83

-- a keyword: the classes from that of `alias` to that of `while`
abbrev pub is_keyword : ℕ → Bool
is_keyword class = nat_le KwAlias class && nat_lt class Ident

-- the symbols with their classes
abbrev pub symbols : List (List ℕ × ℕ)
symbols =
    (codes "&", SymAnd) ∷ (codes "&&", SymAndAnd) ∷ (codes "->", SymArrow) ∷ (codes "@", SymAttr) ∷
    (codes "/", SymForwardSlash) ∷ (codes "!", SymBang) ∷ (codes "[", SymBracketLeft) ∷
    (codes "]", SymBracketRight) ∷ (codes "{", SymBraceLeft) ∷ (codes "}", SymBraceRight) ∷
    (codes ":", SymColon) ∷ (codes ",", SymComma) ∷ (codes "=", SymEqual) ∷
    (codes "==", SymEqualEqual) ∷ (codes "!=", SymNotEqual) ∷ (codes ">", SymGreaterThan) ∷
    (codes ">=", SymGreaterThanEqual) ∷ (codes ">>", SymShiftRight) ∷ (codes "<", SymLessThan) ∷
    (codes "<=", SymLessThanEqual) ∷ (codes "<<", SymShiftLeft) ∷ (codes "%", SymModulo) ∷
    (codes "-", SymMinus) ∷ (codes "--", SymMinusMinus) ∷ (codes ".", SymPeriod) ∷
    (codes "+", SymPlus) ∷ (codes "++", SymPlusPlus) ∷ (codes "|", SymOr) ∷ (codes "||", SymOrOr) ∷
    (codes "(", SymParenLeft) ∷ (codes ")", SymParenRight) ∷ (codes ";", SymSemicolon) ∷
    (codes "*", SymStar) ∷ (codes "~", SymTilde) ∷ (codes "_", SymUnderscore) ∷
    (codes "^", SymXor) ∷ (codes "+=", SymPlusEqual) ∷ (codes "-=", SymMinusEqual) ∷
    (codes "*=", SymTimesEqual) ∷ (codes "/=", SymDivisionEqual) ∷ (codes "%=", SymModuloEqual) ∷
    (codes "&=", SymAndEqual) ∷ (codes "|=", SymOrEqual) ∷ (codes "^=", SymXorEqual) ∷
    (codes ">>=", SymShiftRightAssign) ∷ (codes "<<=", SymShiftLeftAssign) ∷ []

-- the keywords with their classes
abbrev pub keywords : List (List ℕ × ℕ)
keywords =
    (codes "alias", KwAlias) ∷ (codes "break", KwBreak) ∷ (codes "case", KwCase) ∷
    (codes "const", KwConst) ∷ (codes "const_assert", KwConstAssert) ∷
    (codes "continue", KwContinue) ∷ (codes "continuing", KwContinuing) ∷
    (codes "default", KwDefault) ∷ (codes "diagnostic", KwDiagnostic) ∷
    (codes "discard", KwDiscard) ∷ (codes "else", KwElse) ∷ (codes "enable", KwEnable) ∷
    (codes "false", KwFalse) ∷ (codes "fn", KwFn) ∷ (codes "for", KwFor) ∷ (codes "if", KwIf) ∷
    (codes "let", KwLet) ∷ (codes "loop", KwLoop) ∷ (codes "override", KwOverride) ∷
    (codes "requires", KwRequires) ∷ (codes "return", KwReturn) ∷ (codes "struct", KwStruct) ∷
    (codes "switch", KwSwitch) ∷ (codes "true", KwTrue) ∷ (codes "var", KwVar) ∷
    (codes "while", KwWhile) ∷ []

-- how messages name the tokens that have no spelling of their own
abbrev pub special_texts : List (List ℕ × ℕ)
special_texts =
    (codes "start of template", TemplateArgsStart) ∷ (codes "end of template", TemplateArgsEnd) ∷
    (codes "// line comment", LineComment) ∷ (codes "/* block comment */", BlockComment) ∷ []

-- the classes of the keywords
abbrev pub keyword_classes : List ℕ
keyword_classes =
    KwAlias ∷ KwBreak ∷ KwCase ∷ KwConst ∷ KwConstAssert ∷ KwContinue ∷ KwContinuing ∷ KwDefault ∷
    KwDiagnostic ∷ KwDiscard ∷ KwElse ∷ KwEnable ∷ KwFalse ∷ KwFn ∷ KwFor ∷ KwIf ∷ KwLet ∷ KwLoop ∷
    KwOverride ∷ KwRequires ∷ KwReturn ∷ KwStruct ∷ KwSwitch ∷ KwTrue ∷ KwVar ∷ KwWhile ∷ []
