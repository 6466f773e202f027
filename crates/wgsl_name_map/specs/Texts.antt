-- What is written of the characters of a text.
use Rattle.std.specs.Prelude.{ℕ, ◌^◌, ◌-◌, ◌==◌, ◌&&◌, nat_le, not, Bool, List, [], ◌++◌, false, codes}
use Rattle.std.specs.Fmt.{digits, format_spec, padded_integral}
use Rattle.wgsl_model_packed.specs.Json.{escaped}

-- what is written of a control character: its number in two hexadecimal digits
abbrev pub control : ℕ → List ℕ
control n =
    codes "\\u00" ++ padded_integral (format_spec 32 0 4 2 (2 ^ 64 - 1)) false [] (digits 16 false n)

-- a byte that is written as it is: no control character, quotation mark or `\`
abbrev pub is_plain : ℕ → Bool
is_plain b = nat_le 32 b && not (b == 34) && not (b == 92)

-- a text between quotation marks
abbrev pub quoted : List ℕ → List ℕ
quoted bytes = codes "\"" ++ escaped bytes ++ codes "\""
