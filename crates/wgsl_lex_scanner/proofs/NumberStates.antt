-- What may follow the characters of a number that were read: where the longest number ends, and of
-- which class it is.
use Rattle.std.proofs.Common.{◌≡◌, ℕ, Bool, true, false, ◌==◌, refl, sym, List, [], ◌∷◌, ◌++◌, Option, Some, None, ap, ◌∙◌}
use Rattle.std.specs.Prelude.{unwrap_or}
use Rattle.std.specs.Char.{is_ascii_digit, is_ascii_hexdigit, digit_value}
use Rattle.wgsl_model.specs.Tokens.ClassTable.{AbstractInt, I32, U32, AbstractFloat, F32, F16, SymPeriod}
use Rattle.wgsl_model.specs.Tokens.Numbers as pattern
use Rattle.wgsl_model.specs.Tokens.Numbers.{whole_number, i_suffix, u_suffix, abstract_float, f_suffix, h_suffix}
use Rattle.wgsl_model.specs.Tokens.Pattern.{Pattern, empty}
use Rattle.wgsl_model.proofs.Tokens.Characters.{other_than}
use Rattle.wgsl_lex_scanner.specs.Digits.{skip_while, skip_digits, read_digits}
use Rattle.wgsl_lex_scanner.specs.ScannedNumbers.{NumericLiteral, integer, float, as_optional_float, zero_alone, float_suffix, exponent_digits, scan_exponent, fraction_end, fraction, decimal_float, point, hexadecimal_fraction_end, hexadecimal_fraction, hexadecimal_point, suffixed, float_or, decimal, hexadecimal_end, scan_hexadecimal, after_zero}
use Rattle.wgsl_lex_scanner.proofs.Walk.{at_code, IsPast, past}
use Rattle.wgsl_lex_scanner.proofs.CharacterClasses.{is_digit-decimal, is_digit-hexadecimal, skip_digits-is}
use Rattle.wgsl_lex_scanner.proofs.Classed.{after_each, longest_of, longest-nil, longest-stop, longest-go, longest-try, longest-must, longest-alone, longest-run}

-- the patterns of numbers
abbrev pub numbers : List (Pattern × ℕ)
numbers = (whole_number empty, AbstractInt) ∷ (whole_number i_suffix, I32)
    ∷ (whole_number u_suffix, U32) ∷ (abstract_float, AbstractFloat) ∷ (pattern.float f_suffix, F32)
    ∷ (pattern.float h_suffix, F16) ∷ []

-- ---- what is left of them: after characters that represent all that lead there

-- after a digit that is not `0`
abbrev pub digits_left : List (Pattern × ℕ)
digits_left = after_each 49 numbers

-- after `.`
abbrev pub point_left : List (Pattern × ℕ)
point_left = after_each 46 numbers

-- after `0`
abbrev pub zero_left : List (Pattern × ℕ)
zero_left = after_each 48 numbers

-- after `0` and a digit
abbrev zero_digits_left : List (Pattern × ℕ)
zero_digits_left = after_each 49 zero_left

-- after a point with a digit before or after it
abbrev fraction_left : List (Pattern × ℕ)
fraction_left = after_each 46 digits_left

-- after the letter of an exponent
abbrev exponent_left : List (Pattern × ℕ)
exponent_left = after_each 101 fraction_left

-- after its sign
abbrev sign_left : List (Pattern × ℕ)
sign_left = after_each 43 exponent_left

-- after its first digit
abbrev exponent_digits_left : List (Pattern × ℕ)
exponent_digits_left = after_each 49 sign_left

-- after `0x`
abbrev hexadecimal_left : List (Pattern × ℕ)
hexadecimal_left = after_each 120 zero_left

-- after a hexadecimal digit
abbrev hexadecimal_digits_left : List (Pattern × ℕ)
hexadecimal_digits_left = after_each 49 hexadecimal_left

-- after `0x.`
abbrev hexadecimal_point_left : List (Pattern × ℕ)
hexadecimal_point_left = after_each 46 hexadecimal_left

-- after a point with a hexadecimal digit before or after it
abbrev hexadecimal_fraction_left : List (Pattern × ℕ)
hexadecimal_fraction_left = after_each 46 hexadecimal_digits_left

-- ---- exponents

exponent_digits-step : (c : ℕ) → is_ascii_digit c ≡ true → after_each c exponent_digits_left ≡ exponent_digits_left
exponent_digits-step c h = rw (h, other_than is_ascii_digit c h 102 refl, other_than is_ascii_digit c h 104 refl) refl

suffix-longest : (s : List ℕ) → IsPast is_ascii_digit s → longest_of exponent_digits_left s ≡ Some (float_suffix s)
suffix-longest [] e = longest-nil exponent_digits_left
suffix-longest (c ∷ cs) e =
    let P : ℕ → Type 0 = λ c. is_ascii_digit c ≡ false
    → longest_of exponent_digits_left (c ∷ cs) ≡ Some (float_suffix (c ∷ cs)) in
    at_code 102 c P
    (λ _. longest-go exponent_digits_left ((empty, F32) ∷ []) 102 cs (F32, cs) refl (longest-alone F32 cs))
    (λ no_f.
    at_code 104 c P (λ _. longest-go exponent_digits_left ((empty, F16) ∷ []) 104 cs (F16, cs) refl
    (longest-alone F16 cs)) (λ no_h. λ e.
    longest-stop exponent_digits_left c cs (rw (e, no_f, no_h) refl) ∙ rw (no_f, no_h) refl)) e

exponent_digits-longest : (s : List ℕ) → longest_of exponent_digits_left s ≡ Some (float_suffix (skip_digits 10 s))
exponent_digits-longest s =
    longest-run is_ascii_digit exponent_digits_left exponent_digits-step s
    ∙ suffix-longest (skip_while is_ascii_digit s) (past is_ascii_digit s)
    ∙ ap (λ t. Some (float_suffix t)) (sym (skip_digits-is is_ascii_digit 10 is_digit-decimal s))

sign-one : (b : Bool) (c : ℕ) (cs : List ℕ) → is_ascii_digit c ≡ b
    → longest_of sign_left (c ∷ cs) ≡ exponent_digits (c ∷ cs)
sign-one true c cs e =
    longest-go sign_left exponent_digits_left c cs _ (rw e refl) (exponent_digits-longest cs)
    ∙ rw (is_digit-decimal c ∙ e) refl
sign-one false c cs e = longest-stop sign_left c cs (rw e refl) ∙ rw (is_digit-decimal c ∙ e) refl

sign-longest : (s : List ℕ) → longest_of sign_left s ≡ exponent_digits s
sign-longest [] = longest-nil sign_left
sign-longest (c ∷ cs) = sign-one (is_ascii_digit c) c cs refl

exponent-longest : (s : List ℕ) → longest_of exponent_left s ≡ scan_exponent s
exponent-longest [] = longest-nil exponent_left
exponent-longest (c ∷ cs) =
    let P : ℕ → Type 0 = λ c. longest_of exponent_left (c ∷ cs) ≡ scan_exponent (c ∷ cs) in
    at_code 43 c P (longest-must exponent_left sign_left 43 cs refl refl ∙ sign-longest cs) (λ no_plus.
    at_code 45 c P (longest-must exponent_left sign_left 45 cs refl refl ∙ sign-longest cs) (λ no_minus.
    longest-must exponent_left (after_each c sign_left) c cs (rw (no_plus, no_minus) refl) refl
    ∙ sym (longest-must sign_left (after_each c sign_left) c cs refl refl) ∙ sign-longest (c ∷ cs)
    ∙ rw (no_plus, no_minus) refl))

-- ---- decimal floats

fraction-step : (c : ℕ) → is_ascii_digit c ≡ true → after_each c fraction_left ≡ fraction_left
fraction-step c h =
    let o = other_than is_ascii_digit c h in
    rw (h, o 101 refl, o 69 refl, o 102 refl, o 104 refl) refl

fraction_end-longest : (s : List ℕ) → IsPast is_ascii_digit s → longest_of fraction_left s ≡ Some (fraction_end s)
fraction_end-longest [] e = longest-nil fraction_left
fraction_end-longest (c ∷ cs) e =
    let P : ℕ → Type 0 =
    λ c. is_ascii_digit c ≡ false → longest_of fraction_left (c ∷ cs) ≡ Some (fraction_end (c ∷ cs)) in
    at_code 101 c P (λ _. longest-try fraction_left exponent_left AbstractFloat 101 cs
    (scan_exponent cs) refl refl (exponent-longest cs)) (λ no_e.
    at_code 69 c P (λ _. longest-try fraction_left exponent_left AbstractFloat 69 cs
    (scan_exponent cs) refl refl (exponent-longest cs)) (λ no_E.
    at_code 102 c P (λ _. longest-go fraction_left ((empty, F32) ∷ []) 102 cs (F32, cs) refl
    (longest-alone F32 cs)) (λ no_f.
    at_code 104 c P (λ _. longest-go fraction_left ((empty, F16) ∷ []) 104 cs (F16, cs) refl
    (longest-alone F16 cs)) (λ no_h. λ e.
    longest-stop fraction_left c cs (rw (e, no_e, no_E, no_f, no_h) refl) ∙ rw (no_e, no_E, no_f, no_h) refl)))) e

fraction-longest : (s : List ℕ) → longest_of fraction_left s ≡ Some (fraction s)
fraction-longest s =
    longest-run is_ascii_digit fraction_left fraction-step s
    ∙ fraction_end-longest (skip_while is_ascii_digit s) (past is_ascii_digit s)
    ∙ ap (λ t. Some (fraction_end t)) (sym (skip_digits-is is_ascii_digit 10 is_digit-decimal s))

point-one : (b : Bool) (c : ℕ) (cs : List ℕ) → is_ascii_digit c ≡ b → longest_of point_left (c ∷ cs) ≡ point (c ∷ cs)
point-one true c cs e = longest-go point_left fraction_left c cs _ (rw e refl) (fraction-longest cs)
    ∙ rw (is_digit-decimal c ∙ e) refl
point-one false c cs e = longest-stop point_left c cs (rw e refl) ∙ rw (is_digit-decimal c ∙ e) refl

pub point-longest : (s : List ℕ) → longest_of point_left s ≡ point s
point-longest [] = longest-nil point_left
point-longest (c ∷ cs) = point-one (is_ascii_digit c) c cs refl

-- after `.`, where it is a symbol
abbrev pub period_left : List (Pattern × ℕ)
period_left = (empty, SymPeriod) ∷ []

abbrev point_or_period_left : List (Pattern × ℕ)
point_or_period_left = point_left ++ period_left

point_or_period-one : (b : Bool) (c : ℕ) (cs : List ℕ) → is_ascii_digit c ≡ b
    → longest_of point_or_period_left (c ∷ cs) ≡ Some (unwrap_or (point (c ∷ cs)) (SymPeriod, c ∷ cs))
point_or_period-one true c cs e =
    longest-go point_or_period_left fraction_left c cs _ (rw e refl) (fraction-longest cs)
    ∙ rw (is_digit-decimal c ∙ e) refl
point_or_period-one false c cs e = longest-stop point_or_period_left c cs (rw e refl) ∙ rw (is_digit-decimal c ∙ e) refl

pub point_or_period-longest : (s : List ℕ)
    → longest_of (point_left ++ period_left) s ≡ Some (unwrap_or (point s) (SymPeriod, s))
point_or_period-longest [] = longest-nil point_or_period_left
point_or_period-longest (c ∷ cs) = point_or_period-one (is_ascii_digit c) c cs refl

-- after the digits that begin a float, or a whole number
zero_digits-step : (c : ℕ) → is_ascii_digit c ≡ true → after_each c zero_digits_left ≡ zero_digits_left
zero_digits-step c h =
    let o = other_than is_ascii_digit c h in
    rw (h, o 46 refl, o 101 refl, o 69 refl, o 102 refl, o 104 refl) refl

float-longest : (s : List ℕ) → IsPast is_ascii_digit s → longest_of zero_digits_left s ≡ decimal_float s
float-longest [] e = longest-nil zero_digits_left
float-longest (c ∷ cs) e =
    let P : ℕ → Type 0 =
    λ c. is_ascii_digit c ≡ false → longest_of zero_digits_left (c ∷ cs) ≡ decimal_float (c ∷ cs) in
    at_code 46 c P
    (λ _. longest-go zero_digits_left fraction_left 46 cs _ refl (fraction-longest cs)) (λ no_point.
    at_code 101 c P (λ _. longest-must zero_digits_left exponent_left 101 cs refl refl ∙ exponent-longest cs) (λ no_e.
    at_code 69 c P (λ _. longest-must zero_digits_left exponent_left 69 cs refl refl ∙ exponent-longest cs) (λ no_E.
    at_code 102 c P (λ _. longest-go zero_digits_left ((empty, F32) ∷ []) 102 cs (F32, cs) refl
    (longest-alone F32 cs)) (λ no_f.
    at_code 104 c P (λ _. longest-go zero_digits_left ((empty, F16) ∷ []) 104 cs (F16, cs) refl
    (longest-alone F16 cs)) (λ no_h. λ e.
    longest-stop zero_digits_left c cs (rw (e, no_point, no_e, no_E, no_f, no_h) refl)
    ∙ rw (no_point, no_e, no_E, no_f, no_h) refl))))) e

zero_digits-longest : (s : List ℕ) → longest_of zero_digits_left s ≡ decimal_float (skip_digits 10 s)
zero_digits-longest s =
    longest-run is_ascii_digit zero_digits_left zero_digits-step s
    ∙ float-longest (skip_while is_ascii_digit s) (past is_ascii_digit s)
    ∙ ap decimal_float (sym (skip_digits-is is_ascii_digit 10 is_digit-decimal s))

-- the class of a number and what follows it
abbrev pub class_and_rest : NumericLiteral × List ℕ → ℕ × List ℕ
class_and_rest ((integer class kind), rest) = (class, rest)
class_and_rest ((float class), rest) = (class, rest)

digits-step : (c : ℕ) → is_ascii_digit c ≡ true → after_each c digits_left ≡ digits_left
digits-step c h =
    let o = other_than is_ascii_digit c h in
    rw (h, o 46 refl, o 101 refl, o 69 refl, o 102 refl, o 104 refl, o 105 refl, o 117 refl) refl

float_or-try : (o : Option (ℕ × List ℕ)) (n : ℕ) (s : List ℕ)
    → class_and_rest (suffixed n s) ≡ (AbstractInt, s)
    → unwrap_or o (AbstractInt, s) ≡ class_and_rest (float_or o n s)
float_or-try None n s e = sym e
float_or-try (Some found) n s e = refl

digits_end-longest : (n : ℕ) (s : List ℕ) → IsPast is_ascii_digit s
    → longest_of digits_left s ≡ Some (class_and_rest (decimal s n s))
digits_end-longest n [] e = longest-nil digits_left
digits_end-longest n (c ∷ cs) e =
    let P : ℕ → Type 0 = λ c. is_ascii_digit c ≡ false
    → longest_of digits_left (c ∷ cs) ≡ Some (class_and_rest (decimal (c ∷ cs) n (c ∷ cs))) in
    at_code 46 c P (λ _. longest-go digits_left fraction_left 46 cs _ refl (fraction-longest cs))
    (λ no_point.
    at_code 101 c P (λ _. longest-try digits_left exponent_left AbstractInt 101 cs (scan_exponent cs) refl refl
    (exponent-longest cs) ∙ ap (λ x. Some x) (float_or-try (scan_exponent cs) n (101 ∷ cs) refl)) (λ no_e.
    at_code 69 c P (λ _. longest-try digits_left exponent_left AbstractInt 69 cs (scan_exponent cs) refl refl
    (exponent-longest cs) ∙ ap (λ x. Some x) (float_or-try (scan_exponent cs) n (69 ∷ cs) refl)) (λ no_E.
    at_code 102 c P (λ _. longest-go digits_left ((empty, F32) ∷ []) 102 cs (F32, cs) refl
    (longest-alone F32 cs)) (λ no_f.
    at_code 104 c P (λ _. longest-go digits_left ((empty, F16) ∷ []) 104 cs (F16, cs) refl
    (longest-alone F16 cs)) (λ no_h.
    at_code 105 c P (λ _. longest-go digits_left ((empty, I32) ∷ []) 105 cs (I32, cs) refl
    (longest-alone I32 cs)) (λ no_i.
    at_code 117 c P (λ _. longest-go digits_left ((empty, U32) ∷ []) 117 cs (U32, cs) refl
    (longest-alone U32 cs)) (λ no_u. λ e.
    longest-stop digits_left c cs (rw (e, no_point, no_e, no_E, no_f, no_h, no_i, no_u) refl)
    ∙ rw (no_point, no_e, no_E, no_f, no_h, no_i, no_u) refl))))))) e

pub digits-longest : (n : ℕ) (s : List ℕ)
    → longest_of digits_left s ≡ Some (class_and_rest (decimal (skip_digits 10 s) n (skip_digits 10 s)))
digits-longest n s =
    longest-run is_ascii_digit digits_left digits-step s
    ∙ digits_end-longest n (skip_while is_ascii_digit s) (past is_ascii_digit s)
    ∙ ap (λ t. Some (class_and_rest (decimal t n t))) (sym (skip_digits-is is_ascii_digit 10 is_digit-decimal s))

-- ---- hexadecimal numbers

hexadecimal_fraction-step : (c : ℕ) → is_ascii_hexdigit c ≡ true
    → after_each c hexadecimal_fraction_left ≡ hexadecimal_fraction_left
hexadecimal_fraction-step c h =
    rw (h, other_than is_ascii_hexdigit c h 112 refl, other_than is_ascii_hexdigit c h 80 refl) refl

hexadecimal_fraction_end-longest : (s : List ℕ) → IsPast is_ascii_hexdigit s
    → longest_of hexadecimal_fraction_left s ≡ Some (hexadecimal_fraction_end s)
hexadecimal_fraction_end-longest [] e = longest-nil hexadecimal_fraction_left
hexadecimal_fraction_end-longest (c ∷ cs) e =
    let P : ℕ → Type 0 = λ c. is_ascii_hexdigit c ≡ false
    → longest_of hexadecimal_fraction_left (c ∷ cs) ≡ Some (hexadecimal_fraction_end (c ∷ cs)) in
    at_code 112 c P (λ _. longest-try hexadecimal_fraction_left exponent_left AbstractFloat 112 cs
    (scan_exponent cs) refl refl (exponent-longest cs)) (λ no_p.
    at_code 80 c P (λ _. longest-try hexadecimal_fraction_left exponent_left AbstractFloat 80 cs
    (scan_exponent cs) refl refl (exponent-longest cs)) (λ no_P. λ e.
    longest-stop hexadecimal_fraction_left c cs (rw (e, no_p, no_P) refl) ∙ rw (no_p, no_P) refl)) e

hexadecimal_fraction-longest : (s : List ℕ) → longest_of hexadecimal_fraction_left s ≡ Some (hexadecimal_fraction s)
hexadecimal_fraction-longest s =
    longest-run is_ascii_hexdigit hexadecimal_fraction_left hexadecimal_fraction-step s
    ∙ hexadecimal_fraction_end-longest (skip_while is_ascii_hexdigit s) (past is_ascii_hexdigit s)
    ∙ ap (λ t. Some (hexadecimal_fraction_end t)) (sym (skip_digits-is is_ascii_hexdigit 16 is_digit-hexadecimal s))

hexadecimal_point-one : (b : Bool) (c : ℕ) (cs : List ℕ) → is_ascii_hexdigit c ≡ b
    → longest_of hexadecimal_point_left (c ∷ cs) ≡ hexadecimal_point (c ∷ cs)
hexadecimal_point-one true c cs e = longest-go hexadecimal_point_left hexadecimal_fraction_left c cs _
    (rw e refl) (hexadecimal_fraction-longest cs) ∙ rw (is_digit-hexadecimal c ∙ e) refl
hexadecimal_point-one false c cs e = longest-stop hexadecimal_point_left c cs (rw e refl)
    ∙ rw (is_digit-hexadecimal c ∙ e) refl

hexadecimal_point-longest : (s : List ℕ) → longest_of hexadecimal_point_left s ≡ hexadecimal_point s
hexadecimal_point-longest [] = longest-nil hexadecimal_point_left
hexadecimal_point-longest (c ∷ cs) = hexadecimal_point-one (is_ascii_hexdigit c) c cs refl

hexadecimal_digits-step : (c : ℕ) → is_ascii_hexdigit c ≡ true
    → after_each c hexadecimal_digits_left ≡ hexadecimal_digits_left
hexadecimal_digits-step c h =
    let o = other_than is_ascii_hexdigit c h in
    rw (h, o 46 refl, o 112 refl, o 80 refl, o 105 refl, o 117 refl) refl

hexadecimal_end-longest : (n : ℕ) (s : List ℕ) → IsPast is_ascii_hexdigit s
    → longest_of hexadecimal_digits_left s ≡ Some (class_and_rest (hexadecimal_end n s))
hexadecimal_end-longest n [] e = longest-nil hexadecimal_digits_left
hexadecimal_end-longest n (c ∷ cs) e =
    let P : ℕ → Type 0 = λ c. is_ascii_hexdigit c ≡ false
    → longest_of hexadecimal_digits_left (c ∷ cs) ≡ Some (class_and_rest (hexadecimal_end n (c ∷ cs))) in
    at_code 46 c P (λ _. longest-go hexadecimal_digits_left hexadecimal_fraction_left 46 cs _ refl
    (hexadecimal_fraction-longest cs)) (λ no_point.
    at_code 112 c P (λ _. longest-try hexadecimal_digits_left exponent_left AbstractInt 112 cs (scan_exponent cs) refl
    refl (exponent-longest cs) ∙ ap (λ x. Some x) (float_or-try (scan_exponent cs) n (112 ∷ cs) refl)) (λ no_p.
    at_code 80 c P (λ _. longest-try hexadecimal_digits_left exponent_left AbstractInt 80 cs (scan_exponent cs) refl
    refl (exponent-longest cs) ∙ ap (λ x. Some x) (float_or-try (scan_exponent cs) n (80 ∷ cs) refl)) (λ no_P.
    at_code 105 c P (λ _. longest-go hexadecimal_digits_left ((empty, I32) ∷ []) 105 cs
    (I32, cs) refl (longest-alone I32 cs)) (λ no_i.
    at_code 117 c P (λ _. longest-go hexadecimal_digits_left ((empty, U32) ∷ []) 117 cs
    (U32, cs) refl (longest-alone U32 cs)) (λ no_u. λ e.
    longest-stop hexadecimal_digits_left c cs (rw (e, no_point, no_p, no_P, no_i, no_u) refl)
    ∙ rw (no_point, no_p, no_P, no_i, no_u) refl))))) e

hexadecimal_digits-longest : (n : ℕ) (s : List ℕ)
    → longest_of hexadecimal_digits_left s ≡ Some (class_and_rest (hexadecimal_end n (skip_digits 16 s)))
hexadecimal_digits-longest n s =
    longest-run is_ascii_hexdigit hexadecimal_digits_left hexadecimal_digits-step s
    ∙ hexadecimal_end-longest n (skip_while is_ascii_hexdigit s) (past is_ascii_hexdigit s)
    ∙ ap (λ t. Some (class_and_rest (hexadecimal_end n t)))
    (sym (skip_digits-is is_ascii_hexdigit 16 is_digit-hexadecimal s))

-- the class and the rest of a number that may be none
abbrev optional_class_and_rest : Option (NumericLiteral × List ℕ) → Option (ℕ × List ℕ)
optional_class_and_rest None = None
optional_class_and_rest (Some found) = Some (class_and_rest found)

as_float-class : (o : Option (ℕ × List ℕ)) → o ≡ optional_class_and_rest (as_optional_float o)
as_float-class None = refl
as_float-class (Some found) = refl

hexadecimal-one : (b : Bool) (c : ℕ) (cs : List ℕ) → is_ascii_hexdigit c ≡ b → (c == 46) ≡ false
    → longest_of hexadecimal_left (c ∷ cs) ≡ optional_class_and_rest (scan_hexadecimal (c ∷ cs))
hexadecimal-one true c cs e no_point =
    longest-go hexadecimal_left hexadecimal_digits_left c cs _ (rw (e, no_point) refl)
    (hexadecimal_digits-longest (read_digits 16 (digit_value c) cs) cs)
    ∙ rw (no_point, is_digit-hexadecimal c ∙ e) refl
hexadecimal-one false c cs e no_point = longest-stop hexadecimal_left c cs (rw (e, no_point) refl)
    ∙ rw (no_point, is_digit-hexadecimal c ∙ e) refl

hexadecimal-longest : (s : List ℕ) → longest_of hexadecimal_left s ≡ optional_class_and_rest (scan_hexadecimal s)
hexadecimal-longest [] = longest-nil hexadecimal_left
hexadecimal-longest (c ∷ cs) =
    let P : ℕ → Type 0 =
    λ c. longest_of hexadecimal_left (c ∷ cs) ≡ optional_class_and_rest (scan_hexadecimal (c ∷ cs)) in
    at_code 46 c P (longest-must hexadecimal_left hexadecimal_point_left 46 cs refl refl
    ∙ hexadecimal_point-longest cs ∙ as_float-class (hexadecimal_point cs))
    (λ no_point. hexadecimal-one (is_ascii_hexdigit c) c cs refl no_point)

-- ---- numbers that begin with `0`

hexadecimal_or-try : (o : Option (NumericLiteral × List ℕ)) (s : List ℕ)
    → unwrap_or (optional_class_and_rest o) (AbstractInt, s) ≡ class_and_rest (unwrap_or o (zero_alone s))
hexadecimal_or-try None s = refl
hexadecimal_or-try (Some found) s = refl

zero_digits-or : (o : Option (ℕ × List ℕ)) (c : ℕ) (cs : List ℕ) → is_ascii_digit c ≡ true
    → unwrap_or o (AbstractInt, c ∷ cs) ≡ class_and_rest (float_or o 0 (c ∷ cs))
zero_digits-or o c cs d = float_or-try o 0 (c ∷ cs)
    (rw (other_than is_ascii_digit c d 105 refl, other_than is_ascii_digit c d 117 refl) refl)

zero-one : (b : Bool) (c : ℕ) (cs : List ℕ) → is_ascii_digit c ≡ b
    → longest_of zero_left (c ∷ cs) ≡ Some (class_and_rest (after_zero (c ∷ cs)))
unfolding skip_while
zero-one true c cs d =
    let o = other_than is_ascii_digit c d in
    longest-try zero_left zero_digits_left AbstractInt c cs (decimal_float (skip_digits 10 cs))
    (rw (d, o 46 refl, o 101 refl, o 69 refl, o 102 refl, o 104 refl, o 105 refl, o 117 refl, o 120 refl, o 88 refl)
    refl) refl (zero_digits-longest cs)
    ∙ ap (λ x. Some x) (zero_digits-or (decimal_float (skip_digits 10 cs)) c cs d)
    ∙ rw (o 120 refl, o 88 refl, is_digit-decimal c ∙ d) refl
zero-one false c cs d =
    let P : ℕ → Type 0 = λ c. is_ascii_digit c ≡ false
    → longest_of zero_left (c ∷ cs) ≡ Some (class_and_rest (after_zero (c ∷ cs))) in
    at_code 120 c P
    (λ _. longest-try zero_left hexadecimal_left AbstractInt 120 cs _ refl refl (hexadecimal-longest cs)
    ∙ ap (λ x. Some x) (hexadecimal_or-try (scan_hexadecimal cs) (120 ∷ cs))) (λ no_x.
    at_code 88 c P (λ _. longest-try zero_left hexadecimal_left AbstractInt 88 cs _ refl refl
    (hexadecimal-longest cs) ∙ ap (λ x. Some x) (hexadecimal_or-try (scan_hexadecimal cs) (88 ∷ cs))) (λ no_X.
    at_code 46 c P (λ _. longest-go zero_left fraction_left 46 cs _ refl (fraction-longest cs)) (λ no_point.
    at_code 101 c P (λ _. longest-try zero_left exponent_left AbstractInt 101 cs (scan_exponent cs) refl refl
    (exponent-longest cs) ∙ ap (λ x. Some x) (float_or-try (scan_exponent cs) 0 (101 ∷ cs) refl)) (λ no_e.
    at_code 69 c P (λ _. longest-try zero_left exponent_left AbstractInt 69 cs (scan_exponent cs) refl refl
    (exponent-longest cs) ∙ ap (λ x. Some x) (float_or-try (scan_exponent cs) 0 (69 ∷ cs) refl)) (λ no_E.
    at_code 102 c P (λ _. longest-go zero_left ((empty, F32) ∷ []) 102 cs (F32, cs) refl
    (longest-alone F32 cs)) (λ no_f.
    at_code 104 c P (λ _. longest-go zero_left ((empty, F16) ∷ []) 104 cs (F16, cs) refl
    (longest-alone F16 cs)) (λ no_h.
    at_code 105 c P (λ _. longest-go zero_left ((empty, I32) ∷ []) 105 cs (I32, cs) refl
    (longest-alone I32 cs)) (λ no_i.
    at_code 117 c P (λ _. longest-go zero_left ((empty, U32) ∷ []) 117 cs (U32, cs) refl
    (longest-alone U32 cs)) (λ no_u. λ d.
    longest-stop zero_left c cs (rw (d, no_x, no_X, no_point, no_e, no_E, no_f, no_h, no_i, no_u) refl)
    ∙ rw (no_x, no_X, is_digit-decimal c ∙ d, no_point, no_e, no_E, no_f, no_h, no_i, no_u) refl))))))))) d

pub zero-longest : (s : List ℕ) → longest_of zero_left s ≡ Some (class_and_rest (after_zero s))
unfolding skip_while
zero-longest [] = longest-nil zero_left
zero-longest (c ∷ cs) = zero-one (is_ascii_digit c) c cs refl
