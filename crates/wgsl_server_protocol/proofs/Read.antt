-- What `parse` reads is the number that a text is.
use Rattle.std.proofs.Common.{◌≡◌, ◌≢◌, refl, subst, ℕ, ◌<◌, ◌^◌, ◌&&◌, ◌==◌, not, nat_lt, Bool, true, false, List, length, get_or, Some, None, Result, Ok, Err, arith}
use Rattle.std.specs.Result.{OkIff}
use Rattle.std.specs.Str.{all_ascii_digits}
use Rattle.std.specs.Str.Parse.{ParsesUnsigned, digits_value}
use Rattle.std.proofs.lemmas.Bool.Decides.{nat_tests}
use Rattle.std.proofs.lemmas.Str.Parse.{IsNumeralModel, numerals_by_value, tells_all_ascii_digits, parse_plain}
use Rattle.wgsl_server_protocol.specs.Heads.{number_of}

-- the texts of digits, and the number that each writes
own : IsNumeralModel (λ ds. all_ascii_digits ds ≡ true) (digits_value 10)
own = numerals_by_value _ tells_all_ascii_digits

-- a text is a number that is read
abbrev IsRead : List ℕ → Type 0
IsRead text = (all_ascii_digits text ≡ true) × (0 < length text) × (digits_value 10 text < 2 ^ 32)

-- what a text without a sign was read as
plain : {E : Type 0} (text : List ℕ) (r : Result ℕ E) → ParsesUnsigned 32 10 text r → get_or text 0 0 ≢ 43
    → OkIff r (IsRead text) (digits_value 10 text)
plain text r h apart = parse_plain own 32 text r h apart

abbrev is_read : List ℕ → Bool
is_read text = (all_ascii_digits text && not (length text == 0)) && nat_lt (digits_value 10 text) (2 ^ 32)

some_number : (text : List ℕ) (n : ℕ) → all_ascii_digits text ≡ true → 0 < length text → digits_value 10 text < 2 ^ 32
    → n ≡ digits_value 10 text → Some n ≡ number_of text
some_number text n digits some small is = grind (arith, nat_tests, digits, some, small, is)

no_number : (text : List ℕ) → ¬ (IsRead text) → None ≡ number_of text
no_number text not_read = go (is_read text) refl
  where
    go : (b : Bool) → is_read text ≡ b → None ≡ number_of text
    go true is = absurd (not_read (grind (arith, nat_tests, is), grind (arith, nat_tests, is), grind (arith, nat_tests, is)))
    go false is = grind (arith, nat_tests, is)

-- a number was read
pub read_some : {E : Type 0} (n : ℕ) (text : List ℕ) (r : Result ℕ E) → ParsesUnsigned 32 10 text r
    → get_or text 0 0 ≢ 43 → r ≡ Ok n → Some n ≡ number_of text
read_some n text r h apart is =
    let read = subst (λ x. OkIff x (IsRead text) (digits_value 10 text)) is (plain text r h apart) in
    some_number text n read.0.0 read.0.1 read.0.2 read.1

-- no number was read
pub read_none : {E : Type 0} (e : E) (text : List ℕ) (r : Result ℕ E) → ParsesUnsigned 32 10 text r
    → get_or text 0 0 ≢ 43 → r ≡ Err e → None ≡ number_of text
read_none e text r h apart is =
    no_number text (subst (λ x. OkIff x (IsRead text) (digits_value 10 text)) is (plain text r h apart))
