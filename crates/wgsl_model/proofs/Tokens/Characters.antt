-- Tests of characters: what passes a test is no character that fails it, and a digit begins no
-- word.
use Rattle.std.proofs.Common.{◌≡◌, ℕ, ◌<◌, Bool, true, false, ◌==◌, ap, ◌∙◌, arith}
use Rattle.std.specs.Char.{is_ascii_digit, is_ascii_alphabetic}
use Rattle.std.proofs.lemmas.Bool.{eqb-true, false_from_ne_true}
use Rattle.std.proofs.lemmas.Bool.Decides.{nat_tests}
use Rattle.unicode_ident.specs.Ident.{is_xid_start}
use Rattle.unicode_ident.proofs.IdentLemmas.{is_xid_start-ascii}

-- a character that passes a test is none that fails it
pub other_than : (f : ℕ → Bool) (c : ℕ) → f c ≡ true → (k : ℕ) → f k ≡ false → (c == k) ≡ false
other_than f c h k e = false_from_ne_true (c == k) (λ t. let same : c ≡ k = eqb-true c k t in cc (ap f same))

-- ---- digits

digit_bound : (c : ℕ) → is_ascii_digit c ≡ true → c < 128
digit_bound c d = grind (arith, nat_tests)

digit_not_letter : (c : ℕ) → is_ascii_digit c ≡ true → is_ascii_alphabetic c ≡ false
digit_not_letter c d = grind (arith, nat_tests)

-- a digit begins no word
pub digit_not_start : (c : ℕ) → is_ascii_digit c ≡ true → is_xid_start c ≡ false
digit_not_start c d = is_xid_start-ascii c (digit_bound c d) ∙ digit_not_letter c d
