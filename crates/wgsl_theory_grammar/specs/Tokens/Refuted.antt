-- Tokens that no expression holds.
use Rattle.std.specs.Prelude.{ℕ, not, List, [], ◌∷◌}
use Rattle.std.specs.List.{filter}
use Rattle.grammar.specs.Grammar.{is_among}
use Rattle.wgsl_model.specs.Tokens.ClassTable.{SymArrow, SymAttr, SymBraceLeft, SymBraceRight, SymColon, SymEqual, SymPlusPlus, SymSemicolon, SymUnderscore, SymPlusEqual, SymMinusEqual, SymTimesEqual, SymDivisionEqual, SymModuloEqual, SymAndEqual, SymOrEqual, SymXorEqual, SymShiftLeftAssign, KwFalse, KwTrue, ReservedWord}
use Rattle.wgsl_model.specs.Grammar.Written.{keyword_classes}

-- the symbols of declarations and statements but `>>=`, which may end a template list, the reserved
-- words, and the keywords but `false` and `true`
abbrev pub in_no_expression : List ℕ
in_no_expression =
    SymArrow ∷ SymAttr ∷ SymBraceLeft ∷ SymBraceRight ∷ SymColon ∷ SymEqual ∷ SymPlusPlus
    ∷ SymSemicolon ∷ SymUnderscore ∷ SymPlusEqual ∷ SymMinusEqual ∷ SymTimesEqual ∷ SymDivisionEqual
    ∷ SymModuloEqual ∷ SymAndEqual ∷ SymOrEqual ∷
    SymXorEqual ∷ SymShiftLeftAssign ∷ ReservedWord
    ∷ filter (λ class. not (is_among class (KwFalse ∷ KwTrue ∷ []))) keyword_classes
