-- What `parse` reads is the number that a text is.
use Rattle.std.proofs.Common.{◌≡◌, ◌≢◌, refl, subst, ℕ, ◌<◌, ◌≤◌, ◌^◌, ◌&&◌, Bool, true, false, List, length, get_or, Some, None, Result, Ok, Err, arith}
use Rattle.std.specs.Int.{is_in_range}
use Rattle.std.specs.Result.{OkIff}
use Rattle.std.specs.Str.{all_ascii_digits}
use Rattle.std.specs.Str.Parse.{ParsesUnsigned, digits_value}
use Rattle.std.proofs.lemmas.Str.Parse.{IsNumeralModel, numerals_by_value, tells_all_ascii_digits, parse_plain}
use Rattle.wgsl_choices.specs.Numbers.{is_number, number_in}

-- the texts of digits, and the number that each writes
pub own : IsNumeralModel (λ ds. all_ascii_digits ds ≡ true) (digits_value 10)
own = numerals_by_value _ tells_all_ascii_digits

-- a text is a number that is read
abbrev IsRead : List ℕ → Type 0
IsRead text = (all_ascii_digits text ≡ true) × (0 < length text) × (digits_value 10 text < 2 ^ 16)

-- what a text without a sign was read as
plain : {E : Type 0} (text : List ℕ) (r : Result ℕ E) → ParsesUnsigned 16 10 text r → get_or text 0 0 ≢ 43
    → OkIff r (IsRead text) (digits_value 10 text)
plain text r h apart = parse_plain own 16 text r h apart

-- a number in the range
pub some_number : (least most : ℕ) (text : List ℕ) (n : ℕ) → all_ascii_digits text ≡ true
    → 0 < length text → n ≡ digits_value 10 text
    → least ≤ n → n ≤ most → Some n ≡ number_in least most text
some_number least most text n digits some is low high = grind (arith, digits, some, is, low, high)

no_number : (least most : ℕ) (text : List ℕ) → most < 2 ^ 16
    → ¬ (IsRead text) → None ≡ number_in least most text
no_number least most text small not_read =
    go (is_number text && is_in_range least most (digits_value 10 text)) refl
  where
    go : (b : Bool) → (is_number text && is_in_range least most (digits_value 10 text)) ≡ b
        → None ≡ number_in least most text
    go true is = absurd (not_read (grind (arith, is), grind (arith, is), grind (arith, is, small)))
    go false is = grind (arith, is)

-- a number in the range was read
pub read_some : {E : Type 0} (least most n : ℕ) (text : List ℕ) (r : Result ℕ E)
    → ParsesUnsigned 16 10 text r → get_or text 0 0 ≢ 43
    → r ≡ Ok n → least ≤ n → n ≤ most → Some n ≡ number_in least most text
read_some least most n text r h apart is low high =
    let read = subst (λ x. OkIff x (IsRead text) (digits_value 10 text)) is (plain text r h apart) in
    some_number least most text n read.0.0 read.0.1 read.1 low high

-- no number was read
pub read_none : {E : Type 0} (least most : ℕ) (e : E) (text : List ℕ) (r : Result ℕ E)
    → ParsesUnsigned 16 10 text r → get_or text 0 0 ≢ 43
    → r ≡ Err e → most < 2 ^ 16 → None ≡ number_in least most text
read_none least most e text r h apart is small =
    no_number least most text small
    (subst (λ x. OkIff x (IsRead text) (digits_value 10 text)) is (plain text r h apart))
