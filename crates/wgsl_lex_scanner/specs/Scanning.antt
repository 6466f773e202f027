-- How the scanner goes over a text, a character at a time: what its own functions promise one
-- another.
use Rattle.std.specs.Prelude.{ℕ, ◌==◌, ◌||◌, if◌then◌else◌, List, [], ◌∷◌, Option, Some, None}
use Rattle.std.specs.Str.{encode_utf8_all}
use Rattle.unicode_ident.specs.Ident.{is_xid_start, is_xid_continue}
use Rattle.wgsl_model.specs.Tokens.ClassTable.{SymAnd, SymAndAnd, SymArrow, SymAttr, SymForwardSlash, SymBang, SymBracketLeft, SymBracketRight, SymBraceLeft, SymBraceRight, SymColon, SymComma, SymEqual, SymEqualEqual, SymNotEqual, SymGreaterThan, SymGreaterThanEqual, SymShiftRight, SymLessThan, SymLessThanEqual, SymShiftLeft, SymModulo, SymMinus, SymMinusMinus, SymPeriod, SymPlus, SymPlusPlus, SymOr, SymOrOr, SymParenLeft, SymParenRight, SymSemicolon, SymStar, SymTilde, SymXor, SymPlusEqual, SymMinusEqual, SymTimesEqual, SymDivisionEqual, SymModuloEqual, SymAndEqual, SymOrEqual, SymXorEqual, SymShiftRightAssign, SymShiftLeftAssign}
use Rattle.wgsl_model.specs.Tokens.Raw.{Raw, none_left, invalid, token, front, kind_of_word, valued}
use Rattle.wgsl_lex_token.specs.View.{view_of_class}
use Rattle.wgsl_lex_scanner.specs.Digits.{skip_while}
use Rattle.wgsl_lex_scanner.specs.ScannedNumbers.{NumericLiteral, number_kind, number}

-- ---- words

abbrev pub after_word : List ℕ → List ℕ
after_word text = skip_while is_xid_continue text

-- ---- symbols: their class, and what follows them

-- `=` may follow
abbrev pub with_equal : ℕ → ℕ → List ℕ → ℕ × List ℕ
with_equal equal alone [] = (alone, [])
with_equal equal alone (c ∷ cs) = if c == 61 then (equal, cs) else (alone, c ∷ cs)

-- the same character or `=` may follow
abbrev pub doubled : ℕ → ℕ → ℕ → ℕ → List ℕ → ℕ × List ℕ
doubled own twice equal alone [] = (alone, [])
doubled own twice equal alone (c ∷ cs) = if c == own then (twice, cs) else if c == 61
    then (equal, cs) else (alone, c ∷ cs)

-- after `-`
abbrev pub minus : List ℕ → ℕ × List ℕ
minus [] = (SymMinus, [])
minus (c ∷ cs) =
    if c == 62 then (SymArrow, cs)
    else if c == 45 then (SymMinusMinus, cs)
    else if c == 61 then (SymMinusEqual, cs)
    else (SymMinus, c ∷ cs)

-- after `<` or `>`
abbrev pub angle : ℕ → ℕ → ℕ → ℕ → ℕ → List ℕ → ℕ × List ℕ
angle own shift_assign shift equal alone [] = (alone, [])
angle own shift_assign shift equal alone (c ∷ cs) =
    if c == own then with_equal shift_assign shift cs else if c == 61 then (equal, cs) else (alone, c ∷ cs)

-- the symbol that begins with a character
abbrev pub symbol_at : ℕ → List ℕ → Option (ℕ × List ℕ)
symbol_at c cs =
    if c == 38 then Some (doubled 38 SymAndAnd SymAndEqual SymAnd cs)
    else if c == 124 then Some (doubled 124 SymOrOr SymOrEqual SymOr cs)
    else if c == 43 then Some (doubled 43 SymPlusPlus SymPlusEqual SymPlus cs)
    else if c == 45 then Some (minus cs)
    else if c == 60 then Some (angle 60 SymShiftLeftAssign SymShiftLeft SymLessThanEqual SymLessThan cs)
    else if c == 62 then Some (angle 62 SymShiftRightAssign SymShiftRight SymGreaterThanEqual SymGreaterThan cs)
    else if c == 61 then Some (with_equal SymEqualEqual SymEqual cs)
    else if c == 33 then Some (with_equal SymNotEqual SymBang cs)
    else if c == 42 then Some (with_equal SymTimesEqual SymStar cs)
    else if c == 47 then Some (with_equal SymDivisionEqual SymForwardSlash cs)
    else if c == 37 then Some (with_equal SymModuloEqual SymModulo cs)
    else if c == 94 then Some (with_equal SymXorEqual SymXor cs)
    else if c == 64 then Some ((SymAttr, cs))
    else if c == 91 then Some ((SymBracketLeft, cs))
    else if c == 93 then Some ((SymBracketRight, cs))
    else if c == 123 then Some ((SymBraceLeft, cs))
    else if c == 125 then Some ((SymBraceRight, cs))
    else if c == 40 then Some ((SymParenLeft, cs))
    else if c == 41 then Some ((SymParenRight, cs))
    else if c == 58 then Some ((SymColon, cs))
    else if c == 44 then Some ((SymComma, cs))
    else if c == 59 then Some ((SymSemicolon, cs))
    else if c == 46 then Some ((SymPeriod, cs))
    else if c == 126 then Some ((SymTilde, cs))
    else None

-- ---- a token

-- a number that was read, or none where it does not fit its type
abbrev pub numbered : List ℕ → NumericLiteral × List ℕ → Raw
numbered text found = valued text found.1 (number_kind found.0 (front text found.1))

abbrev pub symboled : List ℕ → List ℕ → Option (ℕ × List ℕ) → Raw
symboled text cs None = invalid text cs
symboled text cs (Some found) = token (view_of_class found.0) text found.1

-- a number, or else a symbol
abbrev pub number_or_symbol : Option (NumericLiteral × List ℕ) → ℕ → List ℕ → Raw
number_or_symbol None c cs = symboled (c ∷ cs) cs (symbol_at c cs)
number_or_symbol (Some found) c cs = numbered (c ∷ cs) found

-- the token at the front of a text that does not begin with trivia
abbrev pub scan_at : List ℕ → Raw
scan_at [] = none_left
scan_at (c ∷ cs) =
    if is_xid_start c || c == 95
    then token (kind_of_word (encode_utf8_all (front (c ∷ cs) (after_word cs)))) (c ∷ cs) (after_word cs)
    else number_or_symbol (number c cs) c cs
