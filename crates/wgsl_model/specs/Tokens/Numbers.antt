-- The spellings of numbers and their values (WGSL, "Numeric Literals"). More than in the
-- draft, the digits before the suffix `f` or `h` may begin with 0, as in `01f`.
use Rattle.std.specs.Prelude.{ℕ, ◌+◌, ◌*◌, ◌^◌, Bool, not, ◌&&◌, ◌||◌, ◌==◌, nat_lt, if◌then◌else◌, List, [], ◌∷◌, Option, Some, None, pos}
use Rattle.std.specs.Char.{is_ascii_digit, is_ascii_hexdigit, digit_value}
use Rattle.std.specs.Str.{encode_utf8_all}
use Rattle.grammar.specs.Tokens.{Payload.number}
use Rattle.wgsl_model.specs.Tokens.ClassTable.{AbstractInt, I32, U32, AbstractFloat, F32, F16}
use Rattle.wgsl_model.specs.Tokens.Pattern.{Pattern, empty, one, any, ◌then◌, ◌or◌, code, spells}
use Rattle.wgsl_model.specs.Tokens.Kind.{Kind, named}

-- a decimal digit that is not `0`
abbrev pub is_nonzero_digit : ℕ → Bool
is_nonzero_digit c = is_ascii_digit c && not (c == 48)

-- `x` or `X`
abbrev pub is_x : ℕ → Bool
is_x c = c == 120 || c == 88

-- `e` or `E`
abbrev pub is_e : ℕ → Bool
is_e c = c == 101 || c == 69

-- `p` or `P`
abbrev pub is_p : ℕ → Bool
is_p c = c == 112 || c == 80

-- `+` or `-`
abbrev pub is_sign : ℕ → Bool
is_sign c = c == 43 || c == 45

-- a spelling of the pattern, or nothing
abbrev pub at_most_one : Pattern → Pattern
at_most_one pattern = pattern or empty

-- at least one digit
abbrev pub digits : (ℕ → Bool) → Pattern
digits is_digit = one is_digit then any is_digit

-- `0x` or `0X` and what follows it
abbrev pub hexadecimal : Pattern → Pattern
hexadecimal pattern = code 48 then (one is_x then pattern)

-- ---- whole numbers

-- a decimal whole number: `0`, or digits that do not begin with `0`
abbrev pub decimal_number : Pattern → Pattern
decimal_number suffix = (code 48 then suffix) or (one is_nonzero_digit then (any is_ascii_digit then suffix))

-- a hexadecimal whole number
abbrev pub hexadecimal_number : Pattern → Pattern
hexadecimal_number suffix = hexadecimal (digits is_ascii_hexdigit then suffix)

-- a whole number with what follows it
abbrev pub whole_number : Pattern → Pattern
whole_number suffix = decimal_number suffix or hexadecimal_number suffix

-- the suffix of a signed number
abbrev pub i_suffix : Pattern
i_suffix = code 105

-- the suffix of an unsigned number
abbrev pub u_suffix : Pattern
u_suffix = code 117

-- ---- floats

-- digits with a `.` after, among or before them
abbrev pub digits_with_point : (ℕ → Bool) → Pattern
digits_with_point is_digit = (digits is_digit then (code 46 then any is_digit)) or (code 46 then digits is_digit)

-- an exponent: its letter, a sign or none, and decimal digits
abbrev pub exponent : (ℕ → Bool) → Pattern
exponent is_letter = one is_letter then (at_most_one (one is_sign) then digits is_ascii_digit)

-- a float without suffix: it has a `.` or an exponent
abbrev pub abstract_float : Pattern
abstract_float =
    (digits_with_point is_ascii_digit then at_most_one (exponent is_e))
    or (digits is_ascii_digit then exponent is_e)
    or hexadecimal ((digits_with_point is_ascii_hexdigit then at_most_one (exponent is_p))
    or (digits is_ascii_hexdigit then exponent is_p))

-- a float with a suffix: a hexadecimal one has an exponent before it
abbrev pub float : Pattern → Pattern
float suffix =
    ((digits_with_point is_ascii_digit or digits is_ascii_digit) then (at_most_one (exponent is_e) then suffix))
    or hexadecimal ((digits_with_point is_ascii_hexdigit or digits is_ascii_hexdigit) then (exponent is_p then suffix))

-- the suffix of a float of 32 bits
abbrev pub f_suffix : Pattern
f_suffix = code 102

-- the suffix of a float of 16 bits
abbrev pub h_suffix : Pattern
h_suffix = code 104

-- ---- all of them

-- every number
abbrev pub number_spelling : Pattern
number_spelling =
    whole_number empty or whole_number i_suffix or whole_number u_suffix
    or abstract_float or float f_suffix or float h_suffix

-- the value of digits, read on from the value of those before
abbrev pub digits_value : ℕ → ℕ → List ℕ → ℕ
digits_value radix n [] = n
digits_value radix n (c ∷ cs) = digits_value radix (n * radix + digit_value c) cs

-- digits after `0x` or `0X` are hexadecimal
abbrev pub number_value : List ℕ → ℕ
number_value (z ∷ (x ∷ digits)) = if is_x x then digits_value 16 0 digits else digits_value 10 0 (z ∷ (x ∷ digits))
number_value digits = digits_value 10 0 digits

-- all but the last character
abbrev pub without_last : List ℕ → List ℕ
without_last [] = []
without_last (c ∷ []) = []
without_last (c ∷ (d ∷ cs)) = c ∷ without_last (d ∷ cs)

-- a whole number of a class that ends below a limit
abbrev pub number_below : ℕ → ℕ → ℕ → Option Kind
number_below class limit n = if nat_lt n limit then Some (record { class = class; payload = number (pos n) }) else None

-- a float, by the bytes of its spelling without suffix
abbrev pub float_of : ℕ → List ℕ → Option Kind
float_of class word = Some (named class (encode_utf8_all word))

-- the value of the spelling of a number; none where a whole number does not fit its type
abbrev pub number_of : List ℕ → Option Kind
number_of word =
    if spells (whole_number empty) word then number_below AbstractInt (2 ^ 63) (number_value word)
    else if spells (whole_number i_suffix) word then number_below I32 (2 ^ 31) (number_value (without_last word))
    else if spells (whole_number u_suffix) word then number_below U32 (2 ^ 32) (number_value (without_last word))
    else if spells abstract_float word then float_of AbstractFloat word
    else if spells (float f_suffix) word then float_of F32 (without_last word)
    else if spells (float h_suffix) word then float_of F16 (without_last word)
    else None
