-- Names of letters: no two have one number, and a longer one has a larger number.
use Rattle.std.proofs.Common.{◌≡◌, ℕ, ◌<◌, ◌≤◌, true, List, [], ◌∷◌, length, refl, arith}
use Rattle.std.proofs.lemmas.Bool.Decides.{nat_tests}
use Rattle.wgsl_model_minify.specs.Chosen.{is_letter, AreLetters}
use Rattle.wgsl_model_names.specs.RenamedTokens.{IsIdentifier}
use Rattle.wgsl_minify_names.specs.Short.{digit_of, number_of}
use Rattle.wgsl_minify_names.proofs.Identifiers.{identifier_whole, whole_not_empty}

-- ---- numbers
digit_small : (c : ℕ) → is_letter c ≡ true → digit_of c < 52
digit_small c h = grind (arith, nat_tests)

-- names that rise are no shorter
pub no_shorter : (x y : List ℕ) → AreLetters x → AreLetters y → number_of x ≤ number_of y → length x ≤ length y
no_shorter [] y lx ly h = omega arith
no_shorter (c ∷ x) [] lx ly h = absurd (omega arith)
no_shorter (c ∷ x) (d ∷ y) lx ly h =
    let low = digit_small c lx.0 in
    let high = digit_small d ly.0 in
    let rest : number_of x ≤ number_of y = omega arith in
    let shorter : length x ≤ length y = no_shorter x y lx.1 ly.1 rest in
    omega arith

-- a shorter name has a smaller number
pub shorter_below : (x y : List ℕ) → AreLetters x → AreLetters y → length x < length y → number_of x < number_of y
shorter_below [] [] lx ly h = absurd (omega arith)
shorter_below [] (d ∷ y) lx ly h = omega arith
shorter_below (c ∷ x) [] lx ly h = absurd (omega arith)
shorter_below (c ∷ x) (d ∷ y) lx ly h =
    let low = digit_small c lx.0 in
    let rest : number_of x < number_of y = shorter_below x y lx.1 ly.1 (omega arith) in
    omega arith

same_digit : (c d : ℕ) → is_letter c ≡ true → is_letter d ≡ true → digit_of c ≡ digit_of d → c ≡ d
same_digit c d hc hd e = grind (arith, nat_tests)

-- no two names have one number
pub same_letters : (x y : List ℕ) → AreLetters x → AreLetters y → number_of x ≡ number_of y → x ≡ y
same_letters [] [] lx ly e = refl
same_letters [] (d ∷ y) lx ly e = absurd (omega arith)
same_letters (c ∷ x) [] lx ly e = absurd (omega arith)
same_letters (c ∷ x) (d ∷ y) lx ly e =
    let low = digit_small c lx.0 in
    let high = digit_small d ly.0 in
    let digits : digit_of c ≡ digit_of d = omega arith in
    let rest : number_of x ≡ number_of y = omega arith in
    let first = same_digit c d lx.0 ly.0 digits in
    let others = same_letters x y lx.1 ly.1 rest in
    (λ i. first i ∷ others i)

-- an identifier has a letter, so a number above 0
pub identifier_numbered : (x : List ℕ) → IsIdentifier x → 0 < number_of x
identifier_numbered [] h = absurd (whole_not_empty [] (identifier_whole [] h) refl)
identifier_numbered (c ∷ x) h = omega arith
