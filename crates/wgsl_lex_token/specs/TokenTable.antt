-- Written by tools/tables/tokens.py from crates/wgsl_model/tokens: which token it is, and what it
-- holds.
use Rattle.std.specs.Prelude.{pos, string_bytes}
use Rattle.grammar.specs.Tokens.{Payload, Payload.nothing, Payload.name, Payload.number}
use Rattle.wgsl_lex_token.specs.declared.kind_table.TokenKind.{TokenKind}
use Rattle.wgsl_lex_token.specs.declared.kind_table.TokenKind.TheVariants as kind
use Rattle.wgsl_lex_token.specs.declared.token_table.Token.{Token}
use Rattle.wgsl_lex_token.specs.declared.token_table.Token.TheVariants as token

-- which token it is
abbrev pub kind_of : Token → TokenKind
kind_of token.SymAnd = kind.SymAnd
kind_of token.SymAndAnd = kind.SymAndAnd
kind_of token.SymArrow = kind.SymArrow
kind_of token.SymAttr = kind.SymAttr
kind_of token.SymForwardSlash = kind.SymForwardSlash
kind_of token.SymBang = kind.SymBang
kind_of token.SymBracketLeft = kind.SymBracketLeft
kind_of token.SymBracketRight = kind.SymBracketRight
kind_of token.SymBraceLeft = kind.SymBraceLeft
kind_of token.SymBraceRight = kind.SymBraceRight
kind_of token.SymColon = kind.SymColon
kind_of token.SymComma = kind.SymComma
kind_of token.SymEqual = kind.SymEqual
kind_of token.SymEqualEqual = kind.SymEqualEqual
kind_of token.SymNotEqual = kind.SymNotEqual
kind_of token.SymGreaterThan = kind.SymGreaterThan
kind_of token.SymGreaterThanEqual = kind.SymGreaterThanEqual
kind_of token.SymShiftRight = kind.SymShiftRight
kind_of token.SymLessThan = kind.SymLessThan
kind_of token.SymLessThanEqual = kind.SymLessThanEqual
kind_of token.SymShiftLeft = kind.SymShiftLeft
kind_of token.SymModulo = kind.SymModulo
kind_of token.SymMinus = kind.SymMinus
kind_of token.SymMinusMinus = kind.SymMinusMinus
kind_of token.SymPeriod = kind.SymPeriod
kind_of token.SymPlus = kind.SymPlus
kind_of token.SymPlusPlus = kind.SymPlusPlus
kind_of token.SymOr = kind.SymOr
kind_of token.SymOrOr = kind.SymOrOr
kind_of token.SymParenLeft = kind.SymParenLeft
kind_of token.SymParenRight = kind.SymParenRight
kind_of token.SymSemicolon = kind.SymSemicolon
kind_of token.SymStar = kind.SymStar
kind_of token.SymTilde = kind.SymTilde
kind_of token.SymUnderscore = kind.SymUnderscore
kind_of token.SymXor = kind.SymXor
kind_of token.SymPlusEqual = kind.SymPlusEqual
kind_of token.SymMinusEqual = kind.SymMinusEqual
kind_of token.SymTimesEqual = kind.SymTimesEqual
kind_of token.SymDivisionEqual = kind.SymDivisionEqual
kind_of token.SymModuloEqual = kind.SymModuloEqual
kind_of token.SymAndEqual = kind.SymAndEqual
kind_of token.SymOrEqual = kind.SymOrEqual
kind_of token.SymXorEqual = kind.SymXorEqual
kind_of token.SymShiftRightAssign = kind.SymShiftRightAssign
kind_of token.SymShiftLeftAssign = kind.SymShiftLeftAssign
kind_of token.KwAlias = kind.KwAlias
kind_of token.KwBreak = kind.KwBreak
kind_of token.KwCase = kind.KwCase
kind_of token.KwConst = kind.KwConst
kind_of token.KwConstAssert = kind.KwConstAssert
kind_of token.KwContinue = kind.KwContinue
kind_of token.KwContinuing = kind.KwContinuing
kind_of token.KwDefault = kind.KwDefault
kind_of token.KwDiagnostic = kind.KwDiagnostic
kind_of token.KwDiscard = kind.KwDiscard
kind_of token.KwElse = kind.KwElse
kind_of token.KwEnable = kind.KwEnable
kind_of token.KwFalse = kind.KwFalse
kind_of token.KwFn = kind.KwFn
kind_of token.KwFor = kind.KwFor
kind_of token.KwIf = kind.KwIf
kind_of token.KwLet = kind.KwLet
kind_of token.KwLoop = kind.KwLoop
kind_of token.KwOverride = kind.KwOverride
kind_of token.KwRequires = kind.KwRequires
kind_of token.KwReturn = kind.KwReturn
kind_of token.KwStruct = kind.KwStruct
kind_of token.KwSwitch = kind.KwSwitch
kind_of token.KwTrue = kind.KwTrue
kind_of token.KwVar = kind.KwVar
kind_of token.KwWhile = kind.KwWhile
kind_of (token.Ident held) = kind.Ident
kind_of (token.ReservedWord held) = kind.ReservedWord
kind_of (token.AbstractInt held) = kind.AbstractInt
kind_of (token.I32 held) = kind.I32
kind_of (token.U32 held) = kind.U32
kind_of (token.AbstractFloat held) = kind.AbstractFloat
kind_of (token.F32 held) = kind.F32
kind_of (token.F16 held) = kind.F16
kind_of token.TemplateArgsStart = kind.TemplateArgsStart
kind_of token.TemplateArgsEnd = kind.TemplateArgsEnd
kind_of token.LineComment = kind.LineComment
kind_of token.BlockComment = kind.BlockComment

-- what a token holds: a text by its bytes, or a number
abbrev pub payload_of : Token → Payload
payload_of (token.Ident held) = name (string_bytes held)
payload_of (token.ReservedWord held) = name (string_bytes held)
payload_of (token.AbstractInt held) = number held
payload_of (token.I32 held) = number held
payload_of (token.U32 held) = number (pos held)
payload_of (token.AbstractFloat held) = name (string_bytes held)
payload_of (token.F32 held) = name (string_bytes held)
payload_of (token.F16 held) = name (string_bytes held)
payload_of _ = nothing
