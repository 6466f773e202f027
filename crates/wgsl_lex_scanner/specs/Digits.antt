-- The characters at the front of a text that pass a test, and the value of digits.
use Rattle.std.specs.Prelude.{◌≡◌, ℕ, ◌+◌, ◌*◌, ◌^◌, ◌≤◌, Bool, if◌then◌else◌, List, [], ◌∷◌, Option, Some, None}
use Rattle.std.specs.Char.{digit_value, is_digit}

-- what follows the characters at the front that pass
unfoldable pub skip_while : (ℕ → Bool) → List ℕ → List ℕ
skip_while p [] = []
skip_while p (c ∷ cs) = if p c then skip_while p cs else c ∷ cs

-- what follows the digits at the front
abbrev pub skip_digits : ℕ → List ℕ → List ℕ
skip_digits radix text = skip_while (λ c. is_digit c radix) text

-- the value of the digits at the front, read on from a value
unfoldable pub read_digits : ℕ → ℕ → List ℕ → ℕ
read_digits radix n [] = n
read_digits radix n (c ∷ cs) = if is_digit c radix then read_digits radix (n * radix + digit_value c) cs else n

-- the number, or none where it passes 64 bits
abbrev pub Fits : Option ℕ → ℕ → Type 0
Fits None n = 2 ^ 64 ≤ n
Fits (Some m) n = m ≡ n
