-- The decimal digits of a number: what `decimal` writes reads as that number, and begins with `0`
-- only if it is `0`.
use Rattle.std.proofs.Common.{◌≡◌, ℕ, zero, suc, ◌+◌, ◌*◌, ◌/◌, ◌%◌, ◌^◌, ◌<◌, ◌≤◌, Bool, true, refl, subst, List, [], ◌∷◌, ◌++◌, ◌∙◌, inl, inr, ◌⊎◌, arith}
use Rattle.std.specs.Char.{is_ascii_digit, digit_value}
use Rattle.std.specs.Fmt.{decimal}
use Rattle.std.proofs.lemmas.Bool.Decides.{nat_tests}
use Rattle.std.proofs.lemmas.Fmt.{decimal_by_steps}
use Rattle.wgsl_model.specs.Tokens.Numbers.{is_nonzero_digit, digits_value}
use Rattle.wgsl_theory_printed.proofs.Spelling.Split.{Each}

-- `0`, or digits that do not begin with `0`
abbrev pub IsDecimal : ℕ → List ℕ → Type 0
IsDecimal c cs = ((c ≡ 48) × (cs ≡ [])) ⊎ ((is_nonzero_digit c ≡ true) × Each is_ascii_digit cs)

-- digits whose value is a number
abbrev pub Numeral : ℕ → List ℕ → Type 0
Numeral n [] = ⊥
Numeral n (c ∷ cs) = IsDecimal c cs × (digits_value 10 0 (c ∷ cs) ≡ n)

digit_value_of : (d : ℕ) → d < 10 → digit_value (48 + d) ≡ d
digit_value_of d h = grind (arith, nat_tests)

is_digit : (d : ℕ) → d < 10 → is_ascii_digit (48 + d) ≡ true
is_digit d h = grind (arith, nat_tests)

is_nonzero : (d : ℕ) → d < 10 → 0 < d → is_nonzero_digit (48 + d) ≡ true
is_nonzero d h k = grind (arith, nat_tests)

digits_value-append : (n : ℕ) (cs : List ℕ) (d : ℕ)
    → digits_value 10 n (cs ++ (d ∷ [])) ≡ digits_value 10 n cs * 10 + digit_value d
digits_value-append n [] d = refl
digits_value-append n (c ∷ cs) d = digits_value-append (n * 10 + digit_value c) cs d

Each-append : (p : ℕ → Bool) (cs : List ℕ) (d : ℕ) → Each p cs → p d ≡ true → Each p (cs ++ (d ∷ []))
Each-append p [] d e h = (h, tt)
Each-append p (c ∷ cs) d e h = (e.0, Each-append p cs d e.1 h)

one_digit : (n : ℕ) → n < 10 → Numeral n ((48 + n) ∷ [])
one_digit zero h = (inl (refl, refl), refl)
one_digit (suc n) h = (inr (is_nonzero (suc n) h (omega arith), tt), omega (arith, digit_value_of (suc n) h))

more_shape : (n c : ℕ) (cs : List ℕ) → 10 ≤ n → IsDecimal c cs → digits_value 10 0 (c ∷ cs) ≡ n / 10
    → IsDecimal c (cs ++ ((48 + n % 10) ∷ []))
more_shape n c cs h (inl e) v =
    let nothing_left : digits_value 10 0 (48 ∷ []) ≡ n / 10 = subst (λ ds. digits_value 10 0 (48 ∷ ds)
    ≡ n / 10) e.1 (subst (λ d. digits_value 10 0 (d ∷ cs) ≡ n / 10) e.0 v) in
    absurd (omega (arith, nothing_left, h))
more_shape n c cs h (inr e) v =
    inr (e.0, Each-append is_ascii_digit cs (48 + n % 10) e.1 (is_digit (n % 10) (omega arith)))

more_digits : (n : ℕ) (ds : List ℕ) → 10 ≤ n → Numeral (n / 10) ds → Numeral n (ds ++ ((48 + n % 10) ∷ []))
more_digits n [] h e = absurd e
more_digits n (c ∷ cs) h e = (
  more_shape n c cs h e.0 e.1,
  digits_value-append (0 * 10 + digit_value c) cs (48 + n % 10)
      ∙ omega (arith, e.1, digit_value_of (n % 10) (omega arith)),
)

-- what `decimal` writes
pub decimal-Numeral : (n : ℕ) → n < 2 ^ 64 → Numeral n (decimal n)
decimal-Numeral n h = decimal_by_steps Numeral one_digit more_digits n h
