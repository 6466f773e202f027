-- Classes of characters: digits by their value, and what may begin a word.
use Rattle.std.proofs.Common.{◌≡◌, ℕ, ◌+◌, ◌*◌, ◌<◌, ◌≤◌, Bool, true, false, ◌==◌, ◌||◌, refl, sym, ◌∙◌, ap, arith, List, [], ◌∷◌, None}
use mathlib.Core.Path.{fun_ext}
use Rattle.std.specs.Char.{is_ascii_digit, is_ascii_hexdigit, is_ascii_alphabetic, is_ascii_alphanumeric, is_digit, digit_value}
use Rattle.std.proofs.lemmas.Bool.{false_from_ne_true}
use Rattle.std.proofs.lemmas.Grind.{common_steps}
use Rattle.unicode_ident.specs.Ident.{is_xid_start, is_xid_continue}
use Rattle.unicode_ident.proofs.IdentLemmas.{is_xid_start-ascii, is_xid_continue-ascii}
use Rattle.wgsl_model.proofs.Tokens.Characters.{digit_not_start}
use Rattle.wgsl_lex_scanner.specs.Digits.{skip_while, read_digits, skip_digits}
use Rattle.wgsl_lex_scanner.specs.ScannedNumbers.{number}
use Rattle.wgsl_lex_scanner.specs.Scanning.{after_word}

pub is_digit-decimal : (c : ℕ) → is_digit c 10 ≡ is_ascii_digit c
is_digit-decimal c = grind (arith, common_steps)

pub is_digit-hexadecimal : (c : ℕ) → is_digit c 16 ≡ is_ascii_hexdigit c
is_digit-hexadecimal c = grind (arith, common_steps)

true_not_false : true ≡ false → ⊥
true_not_false e = cc

pub start_not_digit : (c : ℕ) → is_xid_start c ≡ true → is_ascii_digit c ≡ false
start_not_digit c h = false_from_ne_true (is_ascii_digit c) (λ d. true_not_false (sym h ∙ digit_not_start c d))

-- ---- ASCII first

pub ascii_start : (c : ℕ) → c < 128 → (is_xid_start c || c == 95) ≡ (is_ascii_alphabetic c || c == 95)
ascii_start c h = ap (λ b. b || c == 95) (is_xid_start-ascii c h)

pub other_start : (c : ℕ) → 128 ≤ c → (is_xid_start c || c == 95) ≡ is_xid_start c
other_start c h = grind (arith, common_steps)

pub ascii_continue : (c : ℕ) → c < 128 → is_xid_continue c ≡ (is_ascii_alphanumeric c || c == 95)
ascii_continue c h = is_xid_continue-ascii c h

pub word_byte_bound : (c : ℕ) → (is_ascii_alphanumeric c || c == 95) ≡ true → c < 128
word_byte_bound c h = grind (arith, common_steps)

-- ---- the bytes of a word

pub word_goes_on : (c : ℕ) (cs : List ℕ) → (is_ascii_alphanumeric c || c == 95) ≡ true
    → after_word (c ∷ cs) ≡ after_word cs
unfolding skip_while
word_goes_on c cs h = rw (ascii_continue c (word_byte_bound c h), h) refl

pub word_ends_at : (c : ℕ) (cs : List ℕ) → c < 128 → (is_ascii_alphanumeric c || c == 95) ≡ false
    → after_word (c ∷ cs) ≡ c ∷ cs
unfolding skip_while
word_ends_at c cs low h = rw (ascii_continue c low, h) refl

pub word_of_nothing : after_word [] ≡ []
unfolding skip_while
word_of_nothing = refl

-- ---- digits

pub skip_digits-is : (p : ℕ → Bool) (radix : ℕ) → ((c : ℕ) → is_digit c radix ≡ p c) → (s : List ℕ)
    → skip_digits radix s ≡ skip_while p s
skip_digits-is p radix same s = ap (λ (q : ℕ → Bool). skip_while q s) (fun_ext same)

-- ---- one digit more

digit_below : (c radix : ℕ) → digit_value c < radix → is_digit c radix ≡ true
digit_below c radix h = grind (arith, common_steps)

pub read_digits-step : (radix n c : ℕ) (cs : List ℕ) → digit_value c < radix
    → read_digits radix n (c ∷ cs) ≡ read_digits radix (n * radix + digit_value c) cs
unfolding read_digits
read_digits-step radix n c cs h = rw (digit_below c radix h) refl

pub skip_digits-step : (radix c : ℕ) (cs : List ℕ) → digit_value c < radix
    → skip_digits radix (c ∷ cs) ≡ skip_digits radix cs
unfolding skip_while
skip_digits-step radix c cs h = rw (digit_below c radix h) refl

-- ---- what begins no number

no_point : (c : ℕ) → (is_ascii_digit c || c == 46) ≡ false → (c == 46) ≡ false
no_point c h = grind (arith, common_steps)

no_zero : (c : ℕ) → (is_ascii_digit c || c == 46) ≡ false → (c == 48) ≡ false
no_zero c h = grind (arith, common_steps)

no_digit : (c : ℕ) → (is_ascii_digit c || c == 46) ≡ false → is_ascii_digit c ≡ false
no_digit c h = grind (arith, common_steps)

pub no_number : (c : ℕ) (cs : List ℕ) → (is_ascii_digit c || c == 46) ≡ false → number c cs ≡ None
no_number c cs h = rw (no_point c h, no_zero c h, is_digit-decimal c ∙ no_digit c h) refl

-- the first character of a word
pub ruleset starts = (ascii_start, other_start)
