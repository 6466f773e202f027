-- The units of characters.
use Rattle.std.proofs.Common.{◌≡◌, refl, ◌∙◌, ℕ, ◌+◌, ◌/◌, ◌%◌, ◌<◌, ◌≤◌, nat_lt, Bool, true, false, cond, List, [], ◌∷◌, length, arith}
use Rattle.std.proofs.lemmas.Bool.{cond-true, cond-false}
use Rattle.std.proofs.lemmas.Bool.Decides.{nat_tests}
use Rattle.std.specs.Char.{encode_utf8}
use Rattle.wgsl_server_text.specs.Positions.{is_first, units, width}
use Rattle.wgsl_server_text.specs.declared.encoding.PositionEncoding.TheVariants as encoding

-- in UTF-8 they are the bytes
pub width_bytes : (text : List ℕ) → width encoding.Utf8 text ≡ length text
width_bytes [] = refl
width_bytes (b ∷ bs) = let rest = width_bytes bs in omega (arith, rest)

first : (b : ℕ) → is_first b ≡ true → units encoding.Utf16 b ≡ cond (nat_lt b 240) 1 2
first b is = cond-true (is_first b) (cond (nat_lt b 240) 1 2) 0 is

-- the first byte of a character of up to three bytes, that of one of four, and a later byte
one_unit : (b : ℕ) → is_first b ≡ true → b < 240 → units encoding.Utf16 b ≡ 1
one_unit b is small =
    let less : nat_lt b 240 ≡ true = grind (arith, nat_tests) in
    first b is ∙ cond-true (nat_lt b 240) 1 2 less

two_units : (b : ℕ) → is_first b ≡ true → 240 ≤ b → units encoding.Utf16 b ≡ 2
two_units b is large =
    let more : nat_lt b 240 ≡ false = grind (arith, nat_tests) in
    first b is ∙ cond-false (nat_lt b 240) 1 2 more

no_unit : (bits : ℕ) → units encoding.Utf16 (128 + bits % 64) ≡ 0
no_unit bits =
    let b = 128 + bits % 64 in
    let low : bits % 64 < 64 = omega arith in
    let later : is_first (128 + bits % 64) ≡ false = grind (arith, nat_tests) in
    cond-false (is_first b) (cond (nat_lt b 240) 1 2) 0 later

lead_first : (b : ℕ) → 192 ≤ b → is_first b ≡ true
lead_first b large = grind (arith, nat_tests)

ascii_first : (b : ℕ) → b < 128 → is_first b ≡ true
ascii_first b small = grind (arith, nat_tests)

-- the bytes of a character, by how many they are
by_size : (c : ℕ) (one two three : Bool) → nat_lt c 128 ≡ one → nat_lt c 2048 ≡ two → nat_lt c 65536 ≡ three
    → width encoding.Utf16 (cond one (c ∷ []) (cond two ((192 + c / 64) ∷ (128 + c % 64) ∷ [])
    (cond three ((224 + c / 4096) ∷ (128 + c / 64 % 64) ∷ (128 + c % 64) ∷ [])
    ((240 + c / 262144) ∷ (128 + c / 4096 % 64) ∷ (128 + c / 64 % 64) ∷ (128 + c % 64) ∷ []))))
    ≡ cond three 1 2
by_size c true two true is same small =
    let low : c < 128 = grind (arith, nat_tests) in
    let lead = one_unit c (ascii_first c low) (omega arith) in
    omega (arith, lead)
by_size c true two false is same large =
    let low : c < 128 = grind (arith, nat_tests) in
    let high : 65536 ≤ c = grind (arith, nat_tests) in
    absurd (omega arith)
by_size c false true true is same small =
    let low : c < 2048 = grind (arith, nat_tests) in
    let lead = one_unit (192 + c / 64) (lead_first (192 + c / 64) (omega arith)) (omega arith) in
    let last = no_unit c in
    omega (arith, lead, last)
by_size c false true false is same large =
    let low : c < 2048 = grind (arith, nat_tests) in
    let high : 65536 ≤ c = grind (arith, nat_tests) in
    absurd (omega arith)
by_size c false false true is same small =
    let low : c < 65536 = grind (arith, nat_tests) in
    let lead = one_unit (224 + c / 4096) (lead_first (224 + c / 4096) (omega arith)) (omega arith) in
    let third = no_unit (c / 64) in
    let last = no_unit c in
    omega (arith, lead, third, last)
by_size c false false false is same large =
    let lead = two_units (240 + c / 262144) (lead_first (240 + c / 262144) (omega arith)) (omega arith) in
    let second = no_unit (c / 4096) in
    let third = no_unit (c / 64) in
    let last = no_unit c in
    omega (arith, lead, second, third, last)

-- in UTF-16 they are one, or two from U+10000 on
pub width_character : (c : ℕ) → width encoding.Utf16 (encode_utf8 c) ≡ cond (nat_lt c 65536) 1 2
unfolding encode_utf8
width_character c = by_size c (nat_lt c 128) (nat_lt c 2048) (nat_lt c 65536) refl refl refl
