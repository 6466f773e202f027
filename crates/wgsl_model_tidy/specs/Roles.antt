-- What a token does where it is, by its class and by whether an operand ends before it.
use Rattle.std.specs.Prelude.{ℕ, Bool, true, false, ◌==◌, if◌then◌else◌, List, [], ◌∷◌}
use Rattle.grammar.specs.Grammar.{is_among}
use Rattle.wgsl_model.specs.Tokens.ClassTable.{SymAnd, SymAndAnd, SymAttr, SymForwardSlash, SymBang, SymBracketLeft, SymBracketRight, SymBraceLeft, SymBraceRight, SymColon, SymComma, SymEqual, SymEqualEqual, SymNotEqual, SymGreaterThan, SymGreaterThanEqual, SymShiftRight, SymLessThan, SymLessThanEqual, SymShiftLeft, SymModulo, SymMinus, SymMinusMinus, SymPeriod, SymPlus, SymPlusPlus, SymOr, SymOrOr, SymParenLeft, SymParenRight, SymSemicolon, SymStar, SymTilde, SymXor, SymPlusEqual, SymMinusEqual, SymTimesEqual, SymDivisionEqual, SymModuloEqual, SymAndEqual, SymOrEqual, SymXorEqual, SymShiftRightAssign, SymShiftLeftAssign, KwDiagnostic, KwElse, KwFalse, KwTrue, Ident, ReservedWord, AbstractInt, I32, U32, AbstractFloat, F32, F16, TemplateArgsStart, TemplateArgsEnd}

pub data Role : Type 0 where
  -- a name; a whole number without a suffix, which would go on with a `.`; every other number
  name unsuffixed number : Role
  -- every other word, `_` and `->`; and `else`
  word else_word : Role
  -- `(` or `[`, and `)` or `]`
  opening closing : Role
  -- the brackets of a template list
  template_start template_end : Role
  -- `{` and `}`
  block_start block_end : Role
  -- `,` `;` `:` `.` `@`
  comma semicolon colon period at : Role
  -- an operator before its operand: `-`, `&`, or another
  minus ampersand prefix : Role
  -- an operator between operands; one of an assignment
  binary assign : Role
  -- `++` or `--` of an increment or a decrement
  step : Role
  -- after it only: nothing; the end of a statement, a declaration or a member; the name of an
  -- attribute, or its arguments
  beginning item_end attribute : Role

-- its place among the roles
abbrev pub role_number : Role → ℕ
role_number name = 0
role_number unsuffixed = 1
role_number number = 2
role_number word = 3
role_number else_word = 4
role_number opening = 5
role_number closing = 6
role_number template_start = 7
role_number template_end = 8
role_number block_start = 9
role_number block_end = 10
role_number comma = 11
role_number semicolon = 12
role_number colon = 13
role_number period = 14
role_number at = 15
role_number minus = 16
role_number ampersand = 17
role_number prefix = 18
role_number binary = 19
role_number assign = 20
role_number step = 21
role_number beginning = 22
role_number item_end = 23
role_number attribute = 24

-- it is this one
abbrev pub is : Role → Role → Bool
is role other = role_number role == role_number other

-- an operand can end with it
abbrev pub ends_operand : Role → Bool
ends_operand name = true
ends_operand unsuffixed = true
ends_operand number = true
ends_operand closing = true
ends_operand template_end = true
ends_operand role = false

-- it is a name or a number
abbrev pub is_literal : Role → Bool
is_literal name = true
is_literal unsuffixed = true
is_literal number = true
is_literal role = false

-- an operand can begin with it
abbrev pub begins_operand : Role → Bool
begins_operand name = true
begins_operand unsuffixed = true
begins_operand number = true
begins_operand opening = true
begins_operand minus = true
begins_operand ampersand = true
begins_operand prefix = true
begins_operand role = false

-- an operand comes next: after the `<` of a template list and an operator before its operand
abbrev pub wants_operand : Role → Bool
wants_operand template_start = true
wants_operand minus = true
wants_operand ampersand = true
wants_operand prefix = true
wants_operand role = false

-- nothing is before it: `,` `;` `:` `)` `]`
abbrev pub is_tight : Role → Bool
is_tight comma = true
is_tight semicolon = true
is_tight colon = true
is_tight closing = true
is_tight role = false

-- it opens a bracket, a template list or a block
abbrev pub opens : Role → Bool
opens opening = true
opens template_start = true
opens block_start = true
opens role = false

-- it opens a bracket or a template list
abbrev pub opens_bracket : Role → Bool
opens_bracket opening = true
opens_bracket template_start = true
opens_bracket role = false

-- it closes one
abbrev pub closes_bracket : Role → Bool
closes_bracket closing = true
closes_bracket template_end = true
closes_bracket role = false

-- it closes a bracket, a template list or a block
abbrev pub closes : Role → Bool
closes closing = true
closes template_end = true
closes block_end = true
closes role = false

-- a statement, a declaration, a member or a clause can begin after it
abbrev pub begins_item : Role → Bool
begins_item beginning = true
begins_item item_end = true
begins_item block_start = true
begins_item block_end = true
begins_item attribute = true
begins_item role = false

-- the operators that are between operands alone
abbrev pub is_operator : ℕ → Bool
is_operator class =
    is_among class (SymAndAnd ∷ SymOrOr ∷ SymOr ∷ SymXor ∷ SymPlus ∷ SymForwardSlash ∷ SymModulo
    ∷ SymShiftLeft ∷ SymShiftRight
    ∷ SymLessThan ∷ SymLessThanEqual ∷ SymGreaterThan ∷ SymGreaterThanEqual ∷ SymEqualEqual ∷ SymNotEqual ∷ [])

-- those of assignments
abbrev pub is_assignment : ℕ → Bool
is_assignment class =
    is_among class
    (SymEqual ∷ SymPlusEqual ∷ SymMinusEqual ∷ SymTimesEqual ∷ SymDivisionEqual ∷ SymModuloEqual ∷ SymAndEqual
    ∷ SymOrEqual ∷ SymXorEqual ∷ SymShiftRightAssign ∷ SymShiftLeftAssign ∷ [])

-- `-`, `&` and `*` are between operands after an operand, else before one
abbrev pub sign_role : Bool → ℕ → Role
sign_role true class = binary
sign_role false class = if class == SymMinus then minus else if class == SymAnd then ampersand else prefix

-- what a token of a class does, after an operand or not, `--` as in a decrement; `diagnostic` has
-- its arguments after it, as a name has
abbrev pub role_of : Bool → ℕ → Role
role_of after_operand class =
    if is_among class (Ident ∷ ReservedWord ∷ KwTrue ∷ KwFalse ∷ KwDiagnostic ∷ []) then name
    else if class == AbstractInt then unsuffixed
    else if is_among class (I32 ∷ U32 ∷ AbstractFloat ∷ F32 ∷ F16 ∷ []) then number
    else if class == KwElse then else_word
    else if is_among class (SymParenLeft ∷ SymBracketLeft ∷ []) then opening
    else if is_among class (SymParenRight ∷ SymBracketRight ∷ []) then closing
    else if class == TemplateArgsStart then template_start
    else if class == TemplateArgsEnd then template_end
    else if class == SymBraceLeft then block_start
    else if class == SymBraceRight then block_end
    else if class == SymComma then comma
    else if class == SymSemicolon then semicolon
    else if class == SymColon then colon
    else if class == SymPeriod then period
    else if class == SymAttr then at
    else if is_among class (SymMinus ∷ SymAnd ∷ SymStar ∷ []) then sign_role after_operand class
    else if is_among class (SymBang ∷ SymTilde ∷ []) then prefix
    else if is_among class (SymPlusPlus ∷ SymMinusMinus ∷ []) then step
    else if is_operator class then binary
    else if is_assignment class then assign
    else word

-- ---- precedences (WGSL, "Operator Precedence and Associativity")

-- how an operator between operands binds, the weakest first: `||`, `&&`, those on bits,
-- comparisons,
-- shifts, sums, products; no other is one
abbrev pub precedence : Role → ℕ → ℕ
precedence binary class =
    if class == SymOrOr then 1
    else if class == SymAndAnd then 2
    else if is_among class (SymOr ∷ SymXor ∷ SymAnd ∷ []) then 3
    else if is_among class (SymShiftLeft ∷ SymShiftRight ∷ []) then 5
    else if is_among class (SymPlus ∷ SymMinus ∷ SymMinusMinus ∷ []) then 6
    else if is_among class (SymStar ∷ SymForwardSlash ∷ SymModulo ∷ []) then 7
    else 4
precedence role class = 0

-- all of them, the weakest first
abbrev pub precedences : List ℕ
precedences = 1 ∷ 2 ∷ 3 ∷ 4 ∷ 5 ∷ 6 ∷ 7 ∷ []

-- an item or a bracket ends with it, a block begins or ends, or something is assigned
abbrev pub ends_item : Role → Bool
ends_item comma = true
ends_item semicolon = true
ends_item closing = true
ends_item template_end = true
ends_item block_start = true
ends_item block_end = true
ends_item assign = true
ends_item role = false

-- operands end with it
abbrev pub ends_operands : Role → Bool
ends_operands colon = true
ends_operands word = true
ends_operands else_word = true
ends_operands at = true
ends_operands role = ends_item role

-- it is in the middle of an operand
abbrev pub is_in_operand : Role → Bool
is_in_operand period = true
is_in_operand at = true
is_in_operand step = true
is_in_operand minus = true
is_in_operand ampersand = true
is_in_operand prefix = true
is_in_operand role = ends_operand role
