-- The symbols of printed expressions fit before what follows.
use Rattle.std.proofs.Common.{◌≡◌, ℕ, true, false, refl, sym, subst, List, [], ◌∷◌, ◌++◌}
use Rattle.std.specs.Prelude.{codes}
use Rattle.std.specs.Str.{chars}
use Rattle.std.proofs.lemmas.Str.{chars-IsAscii}
use Rattle.wgsl_model.specs.Tokens.ClassTable.{SymAnd, SymAndAnd, SymBang, SymBracketLeft, SymBracketRight, SymComma, SymEqualEqual, SymGreaterThan, SymGreaterThanEqual, SymLessThan, SymLessThanEqual, SymMinus, SymModulo, SymNotEqual, SymOr, SymOrOr, SymParenLeft, SymParenRight, SymPlus, SymShiftLeft, SymShiftRight, SymStar, SymTilde, SymXor}
use Rattle.wgsl_model.specs.Tokens.Kind.{plain}
use Rattle.wgsl_model.specs.Trees.Operators.{UnaryOperator, logical_negation, negation, bitwise_complement, address_of, indirection, BinaryOperator, short_circuit_or, short_circuit_and, addition, subtraction, multiplication, division, remainder, equality, inequality, less_than, less_than_equal, greater_than, greater_than_equal, bitwise_or, bitwise_and, bitwise_xor, shift_left, shift_right}
use Rattle.wgsl_model.specs.Printed.Operators.{unary_operator_text, binary_operator_text}
use Rattle.wgsl_model.specs.Printed.Expressions.{fuse}
use Rattle.wgsl_theory_reread.specs.CanonicalExpressions.{unary_operator_class, binary_operator_class}
use Rattle.wgsl_theory_printed.proofs.Spelling.Pieces.{Piece, render, FitsBefore}
use Rattle.wgsl_theory_printed.proofs.Spelling.Signs.{begins_name, is_operator, NotOn, goes_on-no_operator}
use Rattle.wgsl_theory_printed.proofs.Spelling.Ends.{IsNameText}
use Rattle.wgsl_theory_printed.proofs.Fits.FittingWords.{plain_text, plain_ascii, sign_fits, slash_fits, not_on}
use Rattle.wgsl_theory_printed.proofs.TreePieces.PiecesOfExpressions.{sign, gap}

-- what holds of a text of ASCII holds of its characters
pub as_text : (P : List ℕ → Type 0) (w rest : List ℕ) → plain_text w ≡ true → P (w ++ rest) → P (chars w ++ rest)
as_text P w rest p h = subst (λ x. P (x ++ rest)) (sym (chars-IsAscii w (plain_ascii w p))) h

-- what holds before any character that begins a name holds before a name
pub before_name : (P : List ℕ → Type 0) (bytes rest : List ℕ) → IsNameText bytes
    → ((c : ℕ) (cs : List ℕ) → begins_name c ≡ true → P (c ∷ cs)) → P (chars bytes ++ rest)
before_name P bytes rest n h = subst (λ x. P (x ++ rest)) (sym n.characters) (h n.first (n.others ++ rest) n.begins)

-- ---- symbols that fit before everything

pub left_paren_fits : (rest : List ℕ) → FitsBefore (codes "(") (plain SymParenLeft) rest
left_paren_fits rest = sign_fits 40 [] SymParenLeft rest refl refl refl tt (not_on (codes "(") (λ c. refl) rest)

pub right_paren_fits : (rest : List ℕ) → FitsBefore (codes ")") (plain SymParenRight) rest
right_paren_fits rest = sign_fits 41 [] SymParenRight rest refl refl refl tt (not_on (codes ")") (λ c. refl) rest)

pub left_bracket_fits : (rest : List ℕ) → FitsBefore (codes "[") (plain SymBracketLeft) rest
left_bracket_fits rest = sign_fits 91 [] SymBracketLeft rest refl refl refl tt (not_on (codes "[") (λ c. refl) rest)

pub right_bracket_fits : (rest : List ℕ) → FitsBefore (codes "]") (plain SymBracketRight) rest
right_bracket_fits rest = sign_fits 93 [] SymBracketRight rest refl refl refl tt (not_on (codes "]") (λ c. refl) rest)

pub comma_fits : (rest : List ℕ) → FitsBefore (codes ",") (plain SymComma) rest
comma_fits rest = sign_fits 44 [] SymComma rest refl refl refl tt (not_on (codes ",") (λ c. refl) rest)

-- ---- operators

-- between operands, before a space
pub binary_operator_fits : (o : BinaryOperator) (rest : List ℕ)
    → FitsBefore (binary_operator_text o) (plain (binary_operator_class o)) (32 ∷ rest)
binary_operator_fits short_circuit_or rest = sign_fits 124 (124 ∷ []) SymOrOr (32 ∷ rest) refl refl refl tt refl
binary_operator_fits short_circuit_and rest = sign_fits 38 (38 ∷ []) SymAndAnd (32 ∷ rest) refl refl refl tt refl
binary_operator_fits addition rest = sign_fits 43 [] SymPlus (32 ∷ rest) refl refl refl tt refl
binary_operator_fits subtraction rest = sign_fits 45 [] SymMinus (32 ∷ rest) refl refl refl tt refl
binary_operator_fits multiplication rest = sign_fits 42 [] SymStar (32 ∷ rest) refl refl refl tt refl
binary_operator_fits division rest = slash_fits rest
binary_operator_fits remainder rest = sign_fits 37 [] SymModulo (32 ∷ rest) refl refl refl tt refl
binary_operator_fits equality rest = sign_fits 61 (61 ∷ []) SymEqualEqual (32 ∷ rest) refl refl refl tt refl
binary_operator_fits inequality rest = sign_fits 33 (61 ∷ []) SymNotEqual (32 ∷ rest) refl refl refl tt refl
binary_operator_fits less_than rest = sign_fits 60 [] SymLessThan (32 ∷ rest) refl refl refl tt refl
binary_operator_fits less_than_equal rest = sign_fits 60 (61 ∷ []) SymLessThanEqual (32 ∷ rest) refl refl refl tt refl
binary_operator_fits greater_than rest = sign_fits 62 [] SymGreaterThan (32 ∷ rest) refl refl refl tt refl
binary_operator_fits greater_than_equal rest = sign_fits 62 (61 ∷ []) SymGreaterThanEqual
    (32 ∷ rest) refl refl refl tt refl
binary_operator_fits bitwise_or rest = sign_fits 124 [] SymOr (32 ∷ rest) refl refl refl tt refl
binary_operator_fits bitwise_and rest = sign_fits 38 [] SymAnd (32 ∷ rest) refl refl refl tt refl
binary_operator_fits bitwise_xor rest = sign_fits 94 [] SymXor (32 ∷ rest) refl refl refl tt refl
binary_operator_fits shift_left rest = sign_fits 60 (60 ∷ []) SymShiftLeft (32 ∷ rest) refl refl refl tt refl
binary_operator_fits shift_right rest = sign_fits 62 (62 ∷ []) SymShiftRight (32 ∷ rest) refl refl refl tt refl

-- before an operand, before what makes no other symbol
pub unary_operator_fits : (o : UnaryOperator) (rest : List ℕ) → NotOn (unary_operator_text o) rest
    → FitsBefore (unary_operator_text o) (plain (unary_operator_class o)) rest
unary_operator_fits logical_negation rest n = sign_fits 33 [] SymBang rest refl refl refl tt n
unary_operator_fits negation rest n = sign_fits 45 [] SymMinus rest refl refl refl tt n
unary_operator_fits bitwise_complement rest n = sign_fits 126 [] SymTilde rest refl refl refl tt n
unary_operator_fits address_of rest n = sign_fits 38 [] SymAnd rest refl refl refl tt n
unary_operator_fits indirection rest n = sign_fits 42 [] SymStar rest refl refl refl tt n

-- a text begins with no operator that a symbol goes on with
abbrev pub BeginsFree : List ℕ → Type 0
BeginsFree [] = ⊥
BeginsFree (c ∷ cs) = is_operator c ≡ false

pub free_not_on : (c : ℕ) (cs text : List ℕ) → BeginsFree text → NotOn (c ∷ cs) text
free_not_on c cs [] h = absurd h
free_not_on c cs (d ∷ ds) h = goes_on-no_operator c cs d h

pub operand_not_on : (o : UnaryOperator) (text : List ℕ) → BeginsFree text → NotOn (unary_operator_text o) text
operand_not_on logical_negation text h = free_not_on 33 [] text h
operand_not_on negation text h = free_not_on 45 [] text h
operand_not_on bitwise_complement text h = free_not_on 126 [] text h
operand_not_on address_of text h = free_not_on 38 [] text h
operand_not_on indirection text h = free_not_on 42 [] text h

-- an operator before another, with a space between two that would be one
pub operator_not_on : (o i : UnaryOperator) (rest : List Piece) → NotOn (unary_operator_text o)
    (render (gap (fuse o i) (sign (unary_operator_text i) (unary_operator_class i) rest)))
operator_not_on negation negation rest = refl
operator_not_on address_of address_of rest = refl
operator_not_on logical_negation logical_negation rest = as_text (NotOn (codes "!")) (codes "!") (render rest) refl refl
operator_not_on bitwise_complement logical_negation rest = as_text (NotOn (codes "~")) (codes "!")
    (render rest) refl refl
operator_not_on indirection logical_negation rest = as_text (NotOn (codes "*")) (codes "!") (render rest) refl refl
operator_not_on o i rest = as_text (NotOn (unary_operator_text o)) (unary_operator_text i) (render rest) refl refl
