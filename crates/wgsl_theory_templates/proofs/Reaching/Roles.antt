-- The classes of tokens that expressions have, besides names, brackets, tokens that begin with `>`,
-- `&&` and `||`.
use Rattle.std.specs.Prelude.{ℕ, Bool, [], ◌∷◌}
use Rattle.grammar.specs.Grammar.{is_among}
use Rattle.wgsl_model.specs.Tokens.ClassTable.{SymAnd, SymBang, SymComma, SymEqualEqual, SymForwardSlash, SymLessThan, SymLessThanEqual, SymMinus, SymMinusMinus, SymModulo, SymNotEqual, SymOr, SymPeriod, SymPlus, SymShiftLeft, SymStar, SymTilde, SymXor, AbstractInt, I32, U32, AbstractFloat, F32, F16}

-- operators, `.`, `,`, and numbers
abbrev pub is_of_expressions : ℕ → Bool
is_of_expressions c = is_among c
    (SymAnd ∷ SymBang ∷ SymComma ∷ SymEqualEqual ∷ SymForwardSlash ∷ SymLessThan ∷ SymLessThanEqual
    ∷ SymMinus ∷ SymMinusMinus ∷ SymModulo ∷ SymNotEqual ∷ SymOr ∷ SymPeriod ∷ SymPlus ∷
    SymShiftLeft ∷ SymStar ∷ SymTilde ∷ SymXor ∷ AbstractInt ∷ I32 ∷ U32 ∷ AbstractFloat ∷ F32 ∷ F16 ∷ [])
