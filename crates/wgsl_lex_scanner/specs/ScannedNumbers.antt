-- How the scanner goes over a number, a character at a time: what its own functions promise one
-- another.
use Rattle.std.specs.Prelude.{ℕ, ◌^◌, ◌==◌, if◌then◌else◌, List, [], ◌∷◌, Option, Some, None, unwrap_or}
use Rattle.std.specs.Char.{digit_value, is_digit}
use Rattle.wgsl_model.specs.Tokens.ClassTable.{AbstractInt, I32, U32, AbstractFloat, F32, F16}
use Rattle.wgsl_model.specs.Tokens.Kind.{Kind}
use Rattle.wgsl_model.specs.Tokens.Numbers.{is_x, is_e, is_p, is_sign, number_value, number_below, float_of, without_last}
use Rattle.wgsl_lex_scanner.specs.Digits.{skip_digits, read_digits}

-- a number of a class: a whole one, none where it does not fit its type, or a float
pub data NumericLiteral : Type 0 where
  integer : ℕ → Option Kind → NumericLiteral
  float : ℕ → NumericLiteral

-- the value of the spelling of a number of a class
abbrev pub number_by_class : ℕ → List ℕ → Option Kind
number_by_class class word =
    if class == AbstractInt then number_below AbstractInt (2 ^ 63) (number_value word)
    else if class == I32 then number_below I32 (2 ^ 31) (number_value (without_last word))
    else if class == U32 then number_below U32 (2 ^ 32) (number_value (without_last word))
    else if class == AbstractFloat then float_of AbstractFloat word
    else float_of class (without_last word)

-- the value of a number of this spelling
abbrev pub number_kind : NumericLiteral → List ℕ → Option Kind
number_kind (integer class kind) word = kind
number_kind (float class) word = number_by_class class word

-- a float and what follows it
abbrev pub as_float : ℕ × List ℕ → NumericLiteral × List ℕ
as_float found = (float found.0, found.1)

abbrev pub as_optional_float : Option (ℕ × List ℕ) → Option (NumericLiteral × List ℕ)
as_optional_float None = None
as_optional_float (Some found) = Some (as_float found)

-- ---- parts of floats: their class, and what follows them

-- the suffix
abbrev pub float_suffix : List ℕ → ℕ × List ℕ
float_suffix [] = (AbstractFloat, [])
float_suffix (c ∷ cs) = if c == 102 then (F32, cs) else if c == 104 then (F16, cs) else (AbstractFloat, c ∷ cs)

-- after the sign of an exponent
abbrev pub exponent_digits : List ℕ → Option (ℕ × List ℕ)
exponent_digits [] = None
exponent_digits (c ∷ cs) = if is_digit c 10 then Some (float_suffix (skip_digits 10 cs)) else None

-- after the letter of an exponent
abbrev pub scan_exponent : List ℕ → Option (ℕ × List ℕ)
scan_exponent [] = None
scan_exponent (c ∷ cs) = if is_sign c then exponent_digits cs else exponent_digits (c ∷ cs)

-- after the digits after a point
abbrev pub fraction_end : List ℕ → ℕ × List ℕ
fraction_end [] = (AbstractFloat, [])
fraction_end (c ∷ cs) = if is_e c then unwrap_or (scan_exponent cs) (AbstractFloat, c ∷ cs) else float_suffix (c ∷ cs)

-- after a point
abbrev pub fraction : List ℕ → ℕ × List ℕ
fraction text = fraction_end (skip_digits 10 text)

-- after the digits that begin a float
abbrev pub decimal_float : List ℕ → Option (ℕ × List ℕ)
decimal_float [] = None
decimal_float (c ∷ cs) =
    if c == 46 then Some (fraction cs)
    else if is_e c then scan_exponent cs
    else if c == 102 then Some (F32, cs)
    else if c == 104 then Some (F16, cs)
    else None

-- after a point with no digit before it
abbrev pub point : List ℕ → Option (ℕ × List ℕ)
point [] = None
point (c ∷ cs) = if is_digit c 10 then Some (fraction cs) else None

-- after the hexadecimal digits after a point
abbrev pub hexadecimal_fraction_end : List ℕ → ℕ × List ℕ
hexadecimal_fraction_end [] = (AbstractFloat, [])
hexadecimal_fraction_end (c ∷ cs) = if is_p c
    then unwrap_or (scan_exponent cs) (AbstractFloat, c ∷ cs) else (AbstractFloat, c ∷ cs)

-- after a point among hexadecimal digits
abbrev pub hexadecimal_fraction : List ℕ → ℕ × List ℕ
hexadecimal_fraction text = hexadecimal_fraction_end (skip_digits 16 text)

-- after the hexadecimal digits that begin a float
abbrev pub hexadecimal_float : List ℕ → Option (ℕ × List ℕ)
hexadecimal_float [] = None
hexadecimal_float (c ∷ cs) = if c == 46 then Some (hexadecimal_fraction cs) else if is_p c
    then scan_exponent cs else None

-- after a point with no hexadecimal digit before it
abbrev pub hexadecimal_point : List ℕ → Option (ℕ × List ℕ)
hexadecimal_point [] = None
hexadecimal_point (c ∷ cs) = if is_digit c 16 then Some (hexadecimal_fraction cs) else None

-- ---- numbers, and what follows them

-- a whole number of a value, by its suffix
abbrev pub suffixed : ℕ → List ℕ → NumericLiteral × List ℕ
suffixed n [] = (integer AbstractInt (number_below AbstractInt (2 ^ 63) n), [])
suffixed n (c ∷ cs) =
    if c == 105 then (integer I32 (number_below I32 (2 ^ 31) n), cs)
    else if c == 117 then (integer U32 (number_below U32 (2 ^ 32) n), cs)
    else (integer AbstractInt (number_below AbstractInt (2 ^ 63) n), c ∷ cs)

-- a float, or a whole number of a value
abbrev pub float_or : Option (ℕ × List ℕ) → ℕ → List ℕ → NumericLiteral × List ℕ
float_or None n text = suffixed n text
float_or (Some found) n text = as_float found

-- after the digits of a float, or after those of a whole number of a value
abbrev pub decimal : List ℕ → ℕ → List ℕ → NumericLiteral × List ℕ
decimal digits_rest n whole_rest = float_or (decimal_float digits_rest) n whole_rest

-- after hexadecimal digits of a value
abbrev pub hexadecimal_end : ℕ → List ℕ → NumericLiteral × List ℕ
hexadecimal_end n text = float_or (hexadecimal_float text) n text

-- after `0x`
abbrev pub scan_hexadecimal : List ℕ → Option (NumericLiteral × List ℕ)
scan_hexadecimal [] = None
scan_hexadecimal (c ∷ cs) =
    if c == 46 then as_optional_float (hexadecimal_point cs)
    else if is_digit c 16 then Some (hexadecimal_end (read_digits 16 (digit_value c) cs) (skip_digits 16 cs))
    else None

-- `0` alone
abbrev pub zero_alone : List ℕ → NumericLiteral × List ℕ
zero_alone text = (integer AbstractInt (number_below AbstractInt (2 ^ 63) 0), text)

-- after a first digit `0`
abbrev pub after_zero : List ℕ → NumericLiteral × List ℕ
after_zero [] = decimal (skip_digits 10 []) 0 []
after_zero (c ∷ cs) =
    if is_x c then unwrap_or (scan_hexadecimal cs) (zero_alone (c ∷ cs))
    else decimal (skip_digits 10 (c ∷ cs)) 0 (c ∷ cs)

-- after a first character
abbrev pub number : ℕ → List ℕ → Option (NumericLiteral × List ℕ)
number c cs =
    if c == 46 then as_optional_float (point cs)
    else if c == 48 then Some (after_zero cs)
    else if is_digit c 10
    then Some (decimal (skip_digits 10 cs) (read_digits 10 (digit_value c) cs) (skip_digits 10 cs))
    else None
