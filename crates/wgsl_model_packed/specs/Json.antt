-- Texts, numbers and spans as JSON.
use Rattle.std.specs.Prelude.{ℕ, List, [], ◌∷◌, ◌++◌, ◌/◌, ◌%◌, ◌^◌, ◌==◌, nat_lt, false, if◌then◌else◌, codes, flat_map}
use Rattle.std.specs.Fmt.{decimal, digit_glyph}
use Rattle.grammar.specs.Tokens.{Span}

-- a byte of a text: with a `\` before a quotation mark and a `\`, and a control character by its
-- number
abbrev pub escaped_byte : ℕ → List ℕ
escaped_byte b =
    if b == 34 then codes "\\\""
    else if b == 92 then codes "\\\\"
    else if nat_lt b 32 then codes "\\u00" ++ (digit_glyph false (b / 16) ∷ digit_glyph false (b % 16) ∷ [])
    else b ∷ []

-- what is between the quotation marks of a text
abbrev pub escaped : List ℕ → List ℕ
escaped bytes = flat_map escaped_byte bytes

-- where a span starts and ends, by the numbers of 64 bits that forms have
abbrev pub span_json : Span → List ℕ
span_json span = codes "[" ++ (decimal (span.start % 2 ^ 64)
    ++ (codes "," ++ (decimal (span.end % 2 ^ 64) ++ codes "]")))
