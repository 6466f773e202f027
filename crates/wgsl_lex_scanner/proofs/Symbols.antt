-- Symbols: the longest one at the front of a text, and its class.
use Rattle.std.proofs.Common.{◌≡◌, ℕ, ◌<◌, true, false, ◌==◌, refl, sym, ap, List, [], ◌∷◌, ◌++◌, Some, ◌∙◌, lit<}
use Rattle.std.specs.Char.{is_ascii_digit, is_ascii_alphabetic}
use Rattle.unicode_ident.specs.Ident.{is_xid_start}
use Rattle.unicode_ident.proofs.IdentLemmas.{is_xid_start-ascii}
use Rattle.wgsl_model.specs.Tokens.ClassTable.{SymAnd, SymAndAnd, SymArrow, SymAttr, SymForwardSlash, SymBang, SymBracketLeft, SymBracketRight, SymBraceLeft, SymBraceRight, SymColon, SymComma, SymEqual, SymEqualEqual, SymNotEqual, SymGreaterThan, SymGreaterThanEqual, SymShiftRight, SymLessThan, SymLessThanEqual, SymShiftLeft, SymModulo, SymMinus, SymMinusMinus, SymPlus, SymPlusPlus, SymOr, SymOrOr, SymParenLeft, SymParenRight, SymSemicolon, SymStar, SymTilde, SymXor, SymPlusEqual, SymMinusEqual, SymTimesEqual, SymDivisionEqual, SymModuloEqual, SymAndEqual, SymOrEqual, SymXorEqual, SymShiftRightAssign, SymShiftLeftAssign, symbols}
use Rattle.wgsl_model.specs.Tokens.Pattern.{Pattern, empty, both, either, code, after_spelling}
use Rattle.wgsl_model.specs.Tokens.Raw.{raw_at, kind_of_spelling, token}
use Rattle.wgsl_model.specs.Tokens.Spelling.{spelling, syntactic_token}
use Rattle.wgsl_model.specs.Tokens.Words.{look_up}
use Rattle.wgsl_lex_token.specs.View.{view_of_class}
use Rattle.wgsl_lex_scanner.specs.Scanning.{with_equal, doubled, angle, symbol_at, symboled}
use Rattle.wgsl_lex_scanner.proofs.Derivative.{after}
use Rattle.wgsl_lex_scanner.proofs.Steps.{after_spelling-nil}
use Rattle.wgsl_lex_scanner.proofs.Walk.{after_spelling-stop, after_spelling-none, after_spelling-go, after_spelling-empty, at_code}
use Rattle.wgsl_lex_scanner.proofs.Cut.{found, missed}
use Rattle.wgsl_lex_scanner.proofs.PlainClasses.{symbol-plain}

-- a character that begins no word and no number
pub record IsSign (c : ℕ) : Type 0 where
  pub not_start : is_xid_start c ≡ false
  pub not_digit : is_ascii_digit c ≡ false
  pub not_underscore : (c == 95) ≡ false
  pub not_zero : (c == 48) ≡ false
  pub not_point : (c == 46) ≡ false

sign : (c : ℕ) → c < 128 → is_ascii_alphabetic c ≡ false → is_ascii_digit c ≡ false
    → (c == 95) ≡ false → (c == 48) ≡ false → (c == 46) ≡ false → IsSign c
sign c small letter digit underscore zero point = record {
  not_start = is_xid_start-ascii c small ∙ letter;
  not_digit = digit;
  not_underscore = underscore;
  not_zero = zero;
  not_point = point;
}

after-sign : (c : ℕ) → IsSign c → after c spelling ≡ after c syntactic_token
after-sign c s = rw (s.not_start, s.not_underscore, s.not_digit, s.not_zero, s.not_point) refl

value-sign : (c : ℕ) (cs : List ℕ) (class : ℕ) → IsSign c → look_up symbols (c ∷ cs) ≡ Some class
    → kind_of_spelling (c ∷ cs) ≡ Some (view_of_class class)
value-sign c cs class s e = rw (s.not_start, s.not_underscore, s.not_digit, s.not_point, e)
    (ap (λ k. Some k) (sym (symbol-plain (c ∷ cs) class e)))

-- the token of a symbol that is known
known : (c : ℕ) (cs rest : List ℕ) (class : ℕ) → IsSign c
    → after_spelling (after c syntactic_token) (cs ++ rest) ≡ Some rest
    → look_up symbols (c ∷ cs) ≡ Some class
    → raw_at (c ∷ (cs ++ rest)) ≡ token (view_of_class class) (c ∷ (cs ++ rest)) rest
known c cs rest class s e l = found c cs rest (Some (view_of_class class))
    (after_spelling-go spelling (after c syntactic_token) c (cs ++ rest) rest (after-sign c s) e)
    (value-sign c cs class s l)

-- the symbol at the front is the one that the scanner reads
abbrev pub IsRead : ℕ → List ℕ → Type 0
IsRead c cs = raw_at (c ∷ cs) ≡ symboled (c ∷ cs) cs (symbol_at c cs)

-- ---- no character goes on

alone : (c : ℕ) (class : ℕ) → IsSign c → after c syntactic_token ≡ empty
    → look_up symbols (c ∷ []) ≡ Some class → (cs : List ℕ)
    → raw_at (c ∷ cs) ≡ token (view_of_class class) (c ∷ cs) cs
alone c class s e l cs = known c [] cs class s (ap (λ r. after_spelling r cs) e ∙ after_spelling-empty cs) l

-- ---- `=` may follow

abbrev equal_left : Pattern
equal_left = either empty (code 61)

-- no character, or one that does not go on
stays : (r : Pattern) (c : ℕ) (cs : List ℕ) (class : ℕ) → IsSign c → after c syntactic_token ≡ r
    → after_spelling r cs ≡ Some cs → look_up symbols (c ∷ []) ≡ Some class
    → raw_at (c ∷ cs) ≡ token (view_of_class class) (c ∷ cs) cs
stays r c cs class s e stop l = known c [] cs class s (ap (λ q. after_spelling q cs) e ∙ stop) l

-- one more character, which goes on
goes : (r : Pattern) (c d : ℕ) (cs : List ℕ) (class : ℕ) → IsSign c → after c syntactic_token ≡ r
    → after_spelling r (d ∷ cs) ≡ Some cs → look_up symbols (c ∷ d ∷ []) ≡ Some class
    → raw_at (c ∷ d ∷ cs) ≡ token (view_of_class class) (c ∷ d ∷ cs) cs
goes r c d cs class s e go l = known c (d ∷ []) cs class s (ap (λ q. after_spelling q (d ∷ cs)) e ∙ go) l

equal-read : (c equal alone : ℕ) → IsSign c → after c syntactic_token ≡ equal_left
    → look_up symbols (c ∷ []) ≡ Some alone → look_up symbols (c ∷ 61 ∷ []) ≡ Some equal
    → (cs : List ℕ) → raw_at (c ∷ cs) ≡ symboled (c ∷ cs) cs (Some (with_equal equal alone cs))
equal-read c equal alone s e l m [] = stays equal_left c [] alone s e (after_spelling-nil equal_left) l
equal-read c equal alone s e l m (d ∷ ds) =
    let P : ℕ → Type 0 = λ d. raw_at (c ∷ d ∷ ds)
    ≡ symboled (c ∷ d ∷ ds) (d ∷ ds) (Some (with_equal equal alone (d ∷ ds))) in
    at_code 61 d P (goes equal_left c 61 ds equal s e
    (after_spelling-go equal_left empty 61 ds ds refl (after_spelling-empty ds)) m) (λ no_equal.
    stays equal_left c (d ∷ ds) alone s e
    (after_spelling-stop equal_left d ds (rw no_equal refl) refl) l ∙ rw no_equal refl)

-- ---- the same character or `=` may follow

abbrev doubled_left : ℕ → Pattern
doubled_left c = either empty (either (code c) (code 61))

doubled-read : (c twice equal alone : ℕ) → IsSign c → (c == c) ≡ true → (61 == c) ≡ false
    → (c == 61) ≡ false → after c syntactic_token ≡ doubled_left c → look_up symbols (c ∷ []) ≡ Some alone
    → look_up symbols (c ∷ c ∷ []) ≡ Some twice → look_up symbols (c ∷ 61 ∷ []) ≡ Some equal
    → (cs : List ℕ) → raw_at (c ∷ cs) ≡ symboled (c ∷ cs) cs (Some (doubled c twice equal alone cs))
doubled-read c twice equal alone s own other other' e l m n [] =
    stays (doubled_left c) c [] alone s e (after_spelling-nil (doubled_left c)) l
doubled-read c twice equal alone s own other other' e l m n (d ∷ ds) =
    let P : ℕ → Type 0 = λ d. raw_at (c ∷ d ∷ ds)
    ≡ symboled (c ∷ d ∷ ds) (d ∷ ds) (Some (doubled c twice equal alone (d ∷ ds))) in
    at_code c d P (goes (doubled_left c) c c ds twice s e (after_spelling-go (doubled_left c) empty
    c ds ds (rw (own, other') refl) (after_spelling-empty ds)) m ∙ rw own refl) (λ no_own.
    at_code 61 d P (goes (doubled_left c) c 61 ds equal s e (after_spelling-go (doubled_left c)
    empty 61 ds ds (rw other refl) (after_spelling-empty ds)) n ∙ rw other refl) (λ no_equal.
    stays (doubled_left c) c (d ∷ ds) alone s e (after_spelling-stop (doubled_left c) d ds
    (rw (no_own, no_equal) refl) refl) l ∙ rw (no_own, no_equal) refl))

-- ---- after `<` or `>`

abbrev angle_left : ℕ → Pattern
angle_left c = either empty (either (code 61) (either (code c) (both (code c) (code 61))))

-- two of them, and `=`
shift-longest : (shift_assign shift : ℕ) (s : List ℕ)
    → after_spelling equal_left s ≡ Some (with_equal shift_assign shift s).1
shift-longest shift_assign shift [] = after_spelling-nil equal_left
shift-longest shift_assign shift (d ∷ ds) =
    let P : ℕ → Type 0 = λ d. after_spelling equal_left (d ∷ ds) ≡ Some (with_equal shift_assign shift (d ∷ ds)).1 in
    at_code 61 d P (after_spelling-go equal_left empty 61 ds ds refl (after_spelling-empty ds)) (λ no_equal.
    after_spelling-stop equal_left d ds (rw no_equal refl) refl ∙ rw no_equal refl)

shift-read : (c shift_assign shift : ℕ) → IsSign c → after c (after c syntactic_token) ≡ equal_left
    → look_up symbols (c ∷ c ∷ []) ≡ Some shift
    → look_up symbols (c ∷ c ∷ 61 ∷ []) ≡ Some shift_assign → (cs : List ℕ)
    → raw_at (c ∷ c ∷ cs) ≡ symboled (c ∷ c ∷ cs) (c ∷ cs) (Some (with_equal shift_assign shift cs))
shift-read c shift_assign shift s e l m [] = known c (c ∷ []) [] shift s
    (after_spelling-go (after c syntactic_token) equal_left c [] [] e (after_spelling-nil equal_left)) l
shift-read c shift_assign shift s e l m (d ∷ ds) =
    let P : ℕ → Type 0 = λ d. raw_at (c ∷ c ∷ d ∷ ds)
    ≡ symboled (c ∷ c ∷ d ∷ ds) (c ∷ d ∷ ds) (Some (with_equal shift_assign shift (d ∷ ds))) in
    at_code 61 d P (known c (c ∷ 61 ∷ []) ds shift_assign s (after_spelling-go (after c
    syntactic_token) equal_left c (61 ∷ ds) ds e (shift-longest 0 0 (61 ∷ ds))) m) (λ no_equal.
    known c (c ∷ []) (d ∷ ds) shift s (after_spelling-go (after c syntactic_token) equal_left c
    (d ∷ ds) (d ∷ ds) e (shift-longest 0 0 (d ∷ ds) ∙ rw no_equal refl)) l ∙ rw no_equal refl)

angle-read : (c shift_assign shift equal alone : ℕ) → IsSign c → (c == c) ≡ true → (61 == c) ≡ false
    → after c syntactic_token ≡ angle_left c → after c (after c syntactic_token) ≡ equal_left
    → look_up symbols (c ∷ []) ≡ Some alone → look_up symbols (c ∷ 61 ∷ []) ≡ Some equal
    → look_up symbols (c ∷ c ∷ []) ≡ Some shift
    → look_up symbols (c ∷ c ∷ 61 ∷ []) ≡ Some shift_assign → (cs : List ℕ)
    → raw_at (c ∷ cs) ≡ symboled (c ∷ cs) cs (Some (angle c shift_assign shift equal alone cs))
angle-read c shift_assign shift equal alone s own other e f l m n o [] =
    stays (angle_left c) c [] alone s e (after_spelling-nil (angle_left c)) l
angle-read c shift_assign shift equal alone s own other e f l m n o (d ∷ ds) =
    let P : ℕ → Type 0 = λ d. raw_at (c ∷ d ∷ ds)
    ≡ symboled (c ∷ d ∷ ds) (d ∷ ds) (Some (angle c shift_assign shift equal alone (d ∷ ds))) in
    at_code c d P (shift-read c shift_assign shift s f n o ds ∙ rw own refl) (λ no_own.
    at_code 61 d P (goes (angle_left c) c 61 ds equal s e (after_spelling-go (angle_left c) empty 61
    ds ds (rw other refl) (after_spelling-empty ds)) m ∙ rw other refl) (λ no_equal.
    stays (angle_left c) c (d ∷ ds) alone s e (after_spelling-stop (angle_left c) d ds
    (rw (no_own, no_equal) refl) refl) l ∙ rw (no_own, no_equal) refl))

-- ---- after `-`

sign_45 : IsSign 45
sign_45 = sign 45 (lit< tt) refl refl refl refl refl

abbrev minus_left : Pattern
minus_left = after 45 syntactic_token

minus-read : (cs : List ℕ) → IsRead 45 cs
minus-read [] = stays minus_left 45 [] SymMinus sign_45 refl (after_spelling-nil minus_left) refl
minus-read (d ∷ ds) =
    let P : ℕ → Type 0 = λ d. IsRead 45 (d ∷ ds) in
    at_code 62 d P (goes minus_left 45 62 ds SymArrow sign_45 refl
    (after_spelling-go minus_left empty 62 ds ds refl (after_spelling-empty ds)) refl) (λ no_arrow.
    at_code 45 d P (goes minus_left 45 45 ds SymMinusMinus sign_45 refl
    (after_spelling-go minus_left empty 45 ds ds refl (after_spelling-empty ds)) refl) (λ no_minus.
    at_code 61 d P (goes minus_left 45 61 ds SymMinusEqual sign_45 refl
    (after_spelling-go minus_left empty 61 ds ds refl (after_spelling-empty ds)) refl) (λ no_equal.
    stays minus_left 45 (d ∷ ds) SymMinus sign_45 refl (after_spelling-stop minus_left d ds
    (rw (no_arrow, no_minus, no_equal) refl) refl) refl ∙ rw (no_arrow, no_minus, no_equal) refl)))

-- ---- all of them

-- What the scanner reads where no word and no number begins, and no `.` is, is what the
-- definition says.
pub symbol-read : (c : ℕ) (cs : List ℕ) → is_xid_start c ≡ false → is_ascii_digit c ≡ false
    → (c == 95) ≡ false → (c == 46) ≡ false → IsRead c cs
symbol-read c cs h d n95 n46 =
    let P : ℕ → Type 0 = λ c. is_xid_start c ≡ false → is_ascii_digit c ≡ false → (c == 95) ≡ false
    → (c == 46) ≡ false → IsRead c cs in
    at_code 38 c P (λ _ _ _ _. doubled-read 38 SymAndAnd SymAndEqual SymAnd
    (sign 38 (lit< tt) refl refl refl refl refl) refl refl refl refl refl refl refl cs) (λ n38.
    at_code 124 c P (λ _ _ _ _. doubled-read 124 SymOrOr SymOrEqual SymOr
    (sign 124 (lit< tt) refl refl refl refl refl) refl refl refl refl refl refl refl cs) (λ n124.
    at_code 43 c P (λ _ _ _ _. doubled-read 43 SymPlusPlus SymPlusEqual SymPlus
    (sign 43 (lit< tt) refl refl refl refl refl) refl refl refl refl refl refl refl cs) (λ n43.
    at_code 45 c P (λ _ _ _ _. minus-read cs) (λ n45.
    at_code 60 c P (λ _ _ _ _. angle-read 60 SymShiftLeftAssign SymShiftLeft SymLessThanEqual SymLessThan
    (sign 60 (lit< tt) refl refl refl refl refl) refl refl refl refl refl refl refl refl cs) (λ n60.
    at_code 62 c P (λ _ _ _ _. angle-read 62 SymShiftRightAssign SymShiftRight SymGreaterThanEqual SymGreaterThan
    (sign 62 (lit< tt) refl refl refl refl refl) refl refl refl refl refl refl refl refl cs) (λ n62.
    at_code 61 c P (λ _ _ _ _. equal-read 61 SymEqualEqual SymEqual
    (sign 61 (lit< tt) refl refl refl refl refl) refl refl refl cs) (λ n61.
    at_code 33 c P (λ _ _ _ _. equal-read 33 SymNotEqual SymBang
    (sign 33 (lit< tt) refl refl refl refl refl) refl refl refl cs) (λ n33.
    at_code 42 c P (λ _ _ _ _. equal-read 42 SymTimesEqual SymStar
    (sign 42 (lit< tt) refl refl refl refl refl) refl refl refl cs) (λ n42.
    at_code 47 c P (λ _ _ _ _. equal-read 47 SymDivisionEqual SymForwardSlash
    (sign 47 (lit< tt) refl refl refl refl refl) refl refl refl cs) (λ n47.
    at_code 37 c P (λ _ _ _ _. equal-read 37 SymModuloEqual SymModulo
    (sign 37 (lit< tt) refl refl refl refl refl) refl refl refl cs) (λ n37.
    at_code 94 c P (λ _ _ _ _. equal-read 94 SymXorEqual SymXor
    (sign 94 (lit< tt) refl refl refl refl refl) refl refl refl cs) (λ n94.
    at_code 64 c P (λ _ _ _ _. alone 64 SymAttr (sign 64 (lit< tt) refl refl refl refl refl) refl refl cs) (λ n64.
    at_code 91 c P (λ _ _ _ _. alone 91 SymBracketLeft
    (sign 91 (lit< tt) refl refl refl refl refl) refl refl cs) (λ n91.
    at_code 93 c P (λ _ _ _ _. alone 93 SymBracketRight
    (sign 93 (lit< tt) refl refl refl refl refl) refl refl cs) (λ n93.
    at_code 123 c P (λ _ _ _ _. alone 123 SymBraceLeft
    (sign 123 (lit< tt) refl refl refl refl refl) refl refl cs) (λ n123.
    at_code 125 c P (λ _ _ _ _. alone 125 SymBraceRight
    (sign 125 (lit< tt) refl refl refl refl refl) refl refl cs) (λ n125.
    at_code 40 c P (λ _ _ _ _. alone 40 SymParenLeft (sign 40 (lit< tt) refl refl refl refl refl) refl refl cs) (λ n40.
    at_code 41 c P (λ _ _ _ _. alone 41 SymParenRight (sign 41 (lit< tt) refl refl refl refl refl) refl refl cs) (λ n41.
    at_code 58 c P (λ _ _ _ _. alone 58 SymColon (sign 58 (lit< tt) refl refl refl refl refl) refl refl cs) (λ n58.
    at_code 44 c P (λ _ _ _ _. alone 44 SymComma (sign 44 (lit< tt) refl refl refl refl refl) refl refl cs) (λ n44.
    at_code 59 c P (λ _ _ _ _. alone 59 SymSemicolon (sign 59 (lit< tt) refl refl refl refl refl) refl refl cs) (λ n59.
    at_code 126 c P (λ _ _ _ _. alone 126 SymTilde (sign 126 (lit< tt) refl refl refl refl refl) refl refl cs) (λ n126.
    at_code 48 c P (λ h d n95 n46. absurd (cc)) (λ n48. λ h d n95 n46.
    missed c cs (after_spelling-none spelling c cs (rw (
      h,
      n95,
      d,
      n48,
      n38,
      n124,
      n43,
      n45,
      n60,
      n62,
      n61,
      n33,
      n42,
      n47,
      n37,
      n94,
      n64,
      n91,
      n93,
      n123,
      n125,
      n40,
      n41,
      n58,
      n44,
      n59,
      n46,
      n126,
    ) refl) refl) ∙ rw (
      n38,
      n124,
      n43,
      n45,
      n60,
      n62,
      n61,
      n33,
      n42,
      n47,
      n37,
      n94,
      n64,
      n91,
      n93,
      n123,
      n125,
      n40,
      n41,
      n58,
      n44,
      n59,
      n46,
      n126,
    ) refl)))))))))))))))))))))))) h d n95 n46
