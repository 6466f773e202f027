-- The words of whole numbers in decimal, with and without a suffix.
use Rattle.std.proofs.Common.{◌≡◌, ℕ, zero, suc, ◌^◌, ◌<◌, ◌==◌, Bool, true, false, refl, sym, ap, subst, List, [], ◌∷◌, ◌++◌, Some, ◌∙◌, inl, inr, arith, append-nil}
use Rattle.std.specs.Prelude.{pos, codes, not, ◌&&◌}
use Rattle.std.specs.Char.{is_ascii_digit}
use Rattle.std.specs.Str.{IsAscii}
use Rattle.std.specs.Fmt.{decimal}
use Rattle.std.proofs.lemmas.Bool.{lt-ltb, eq-eqb, and_parts, false_from_ne_true, true≢false, or_right}
use Rattle.std.proofs.lemmas.Bool.Decides.{nat_tests}
use Rattle.std.proofs.lemmas.Fmt.{IsAscii-decimal}
use Rattle.std.proofs.lemmas.Str.{IsAscii-append, IsUtf8-from_ascii, chars-IsAscii}
use Rattle.grammar.specs.Tokens.{Payload.number}
use Rattle.grammar.specs.Tables.{is_empty}
use Rattle.wgsl_model.specs.Tokens.Characters.{is_blank}
use Rattle.wgsl_model.specs.Tokens.ClassTable.{AbstractInt, I32, U32}
use Rattle.wgsl_model.specs.Tokens.Kind.{Kind}
use Rattle.wgsl_model.specs.Tokens.Pattern.{Pattern, empty, begins, begins_any, spells}
use Rattle.wgsl_model.specs.Tokens.Numbers.{is_nonzero_digit, whole_number, i_suffix, u_suffix, digits_value, number_value, number_of, number_spelling, without_last, number_below}
use Rattle.wgsl_model.specs.Tokens.Spelling.{identifier, spelling}
use Rattle.wgsl_model.proofs.Tokens.Characters.{other_than, digit_not_start}
use Rattle.wgsl_theory_printed.proofs.Spelling.Split.{Each, Each-last, spelled_each, takes, differs, lets_differs}
use Rattle.wgsl_theory_printed.proofs.Spelling.Decimal.{IsDecimal, Numeral, decimal-Numeral}
use Rattle.wgsl_theory_printed.proofs.Spelling.Spellings.{IsSpelling, IsSpelled}

-- ---- their spelling

-- digits before what passes
digits_before : (k : List ℕ → Bool) (cs more : List ℕ) → Each is_ascii_digit cs → k more ≡ true
    → begins_any is_ascii_digit k (cs ++ more) ≡ true
unfolding begins_any
digits_before k [] [] each h = h
digits_before k [] (d ∷ ds) each h = rw h refl
digits_before k (c ∷ cs) more each h = or_right (k (c ∷ (cs ++ more))) _ (rw each.0 (digits_before k cs more each.1 h))

-- a whole number in decimal, and its suffix
number_spells : (suffix : Pattern) (c : ℕ) (cs more : List ℕ) → IsDecimal c cs
    → spells suffix more ≡ true → spells (whole_number suffix) ((c ∷ cs) ++ more) ≡ true
unfolding begins
number_spells suffix c cs more (inl e) h =
    subst (λ (ds : List ℕ). spells (whole_number suffix) ((c ∷ ds) ++ more) ≡ true) (sym e.1)
    (rw (e.0, h) refl)
number_spells suffix c cs more (inr e) h =
    rw (or_right (c == 48 && begins suffix is_empty (cs ++ more))
    (is_nonzero_digit c && begins_any is_ascii_digit (begins suffix is_empty) (cs ++ more))
    (rw e.0 (digits_before (begins suffix is_empty) cs more e.1 h))) refl

-- ---- their value

-- digits are read in decimal
value_of_digits : (c : ℕ) (cs : List ℕ) → IsDecimal c cs → number_value (c ∷ cs) ≡ digits_value 10 0 (c ∷ cs)
value_of_digits c [] h = refl
value_of_digits c (d ∷ ds) (inl e) = absurd (let f = e.1 in cc)
value_of_digits c (d ∷ ds) (inr e) =
    rw (other_than is_ascii_digit d e.1.0 120 refl, other_than is_ascii_digit d e.1.0 88 refl) refl

pub without_last-append : (cs : List ℕ) (d : ℕ) → without_last (cs ++ (d ∷ [])) ≡ cs
without_last-append [] d = refl
without_last-append (c ∷ []) d = refl
without_last-append (c ∷ (e ∷ es)) d = ap (λ ds. c ∷ ds) (without_last-append (e ∷ es) d)

below-is : (class limit n m : ℕ) → m ≡ n → n < limit
    → number_below class limit m ≡ Some (record { class = class; payload = number (pos n) })
below-is class limit n m e h = rw (e, lt-ltb n limit h) refl

-- a character that no test lets through ends no spelling
unspelled : (p : Pattern) (d : ℕ) (before : List ℕ) → takes d p ≡ false → spells p (before ++ (d ∷ [])) ≡ false
unspelled p d before n =
    false_from_ne_true (spells p (before ++ (d ∷ [])))
    (λ h. true≢false (sym (Each-last (differs d) before (d ∷ []) (spelled_each (differs d) p
    (lets_differs d p n) (before ++ (d ∷ [])) h)).0 ∙ ap not (eq-eqb d d refl)))

of_plain : (word : List ℕ) → spells (whole_number empty) word ≡ true
    → number_of word ≡ number_below AbstractInt (2 ^ 63) (number_value word)
of_plain word h = rw h refl

of_signed : (word : List ℕ) → spells (whole_number empty) word ≡ false
    → spells (whole_number i_suffix) word ≡ true
    → number_of word ≡ number_below I32 (2 ^ 31) (number_value (without_last word))
of_signed word h k = rw (h, k) refl

of_unsigned : (word : List ℕ) → spells (whole_number empty) word ≡ false
    → spells (whole_number i_suffix) word ≡ false → spells (whole_number u_suffix) word ≡ true
    → number_of word ≡ number_below U32 (2 ^ 32) (number_value (without_last word))
of_unsigned word h k l = rw (h, k, l) refl

-- ---- their tokens

digit_begins : (c : ℕ) → is_ascii_digit c ≡ true → (is_blank c ≡ false) × ((c == 47) ≡ false)
digit_begins c d = (grind (arith, nat_tests), other_than is_ascii_digit c d 47 refl)

decimal_digit : (c : ℕ) (cs : List ℕ) → IsDecimal c cs → is_ascii_digit c ≡ true
decimal_digit c cs (inl e) = rw e.0 refl
decimal_digit c cs (inr e) = (and_parts (is_ascii_digit c) _ e.0).0

spelled_number : (word : List ℕ) → spells number_spelling word ≡ true → spells spelling word ≡ true
unfolding begins
spelled_number word h = or_right (spells identifier word) _ (rw h refl)

number_word : (c : ℕ) (cs : List ℕ) (k : Kind) → is_ascii_digit c ≡ true
    → spells number_spelling (c ∷ cs) ≡ true → number_of (c ∷ cs) ≡ Some k → IsSpelling k (c ∷ cs)
number_word c cs k d s n = record {
  spelled = spelled_number (c ∷ cs) s;
  valued = rw (digit_not_start c d, other_than is_ascii_digit c d 95 refl, d) n;
  begins = digit_begins c d;
}

plain_word : (n : ℕ) (word : List ℕ) → Numeral n word → n < 2 ^ 63
    → IsSpelling (record { class = AbstractInt; payload = number (pos n) }) word
unfolding begins
plain_word n [] e h = absurd e
plain_word n (c ∷ cs) e h =
    let whole : spells (whole_number empty) (c ∷ cs) ≡ true = subst (λ (w : List ℕ).
    spells (whole_number empty) w ≡ true) (append-nil (c ∷ cs)) (number_spells empty c cs [] e.0 refl) in
    number_word c cs _ (decimal_digit c cs e.0) (rw whole refl) (of_plain (c ∷ cs) whole
    ∙ below-is AbstractInt (2 ^ 63) n (number_value (c ∷ cs)) (value_of_digits c cs e.0 ∙ e.1) h)

value_before : (n c : ℕ) (cs : List ℕ) (d : ℕ) → Numeral n (c ∷ cs)
    → number_value (without_last ((c ∷ cs) ++ (d ∷ []))) ≡ n
value_before n c cs d e = ap number_value (without_last-append (c ∷ cs) d) ∙ value_of_digits c cs e.0 ∙ e.1

signed_word : (n : ℕ) (word : List ℕ) → Numeral n word → n < 2 ^ 31
    → IsSpelling (record { class = I32; payload = number (pos n) }) (word ++ codes "i")
unfolding begins
signed_word n [] e h = absurd e
signed_word n (c ∷ cs) e h =
    let word : List ℕ = (c ∷ cs) ++ codes "i" in
    let whole : spells (whole_number i_suffix) word ≡ true = number_spells i_suffix c cs (codes "i") e.0 refl in
    number_word c (cs ++ codes "i") _ (decimal_digit c cs e.0)
    (or_right (spells (whole_number empty) word) _ (rw whole refl))
    (of_signed word (unspelled (whole_number empty) 105 (c ∷ cs) refl) whole
    ∙ below-is I32 (2 ^ 31) n (number_value (without_last word)) (value_before n c cs 105 e) h)

unsigned_word : (n : ℕ) (word : List ℕ) → Numeral n word → n < 2 ^ 32
    → IsSpelling (record { class = U32; payload = number (pos n) }) (word ++ codes "u")
unfolding begins
unsigned_word n [] e h = absurd e
unsigned_word n (c ∷ cs) e h =
    let word : List ℕ = (c ∷ cs) ++ codes "u" in
    let whole : spells (whole_number u_suffix) word ≡ true = number_spells u_suffix c cs (codes "u") e.0 refl in
    number_word c (cs ++ codes "u") _ (decimal_digit c cs e.0)
    (or_right (spells (whole_number empty) word) _ (or_right (spells (whole_number i_suffix) word) _ (rw whole refl)))
    (of_unsigned word (unspelled (whole_number empty) 117 (c ∷ cs) refl)
    (unspelled (whole_number i_suffix) 117 (c ∷ cs) refl) whole
    ∙ below-is U32 (2 ^ 32) n (number_value (without_last word)) (value_before n c cs 117 e) h)

-- ---- their texts

ascii_spelled : (k : Kind) (text : List ℕ) → IsAscii text → IsSpelling k text → IsSpelled k text
ascii_spelled k text a h =
    record { utf8 = IsUtf8-from_ascii text a; word = subst (IsSpelling k) (sym (chars-IsAscii text a)) h }

pub integer_spelled : (n : ℕ) → n < 2 ^ 63
    → IsSpelled (record { class = AbstractInt; payload = number (pos n) }) (decimal n)
integer_spelled n h = ascii_spelled _ (decimal n) (IsAscii-decimal n (omega (arith, h)))
    (plain_word n (decimal n) (decimal-Numeral n (omega (arith, h))) h)

one_ascii : (c : ℕ) → c < 128 → IsAscii (c ∷ [])
one_ascii c h zero = h
one_ascii c h (suc i) = omega arith

pub signed_spelled : (n : ℕ) → n < 2 ^ 31
    → IsSpelled (record { class = I32; payload = number (pos n) }) (decimal n ++ codes "i")
signed_spelled n h =
    ascii_spelled _ (decimal n ++ codes "i") (IsAscii-append (decimal n) (codes "i")
    (IsAscii-decimal n (omega (arith, h))) (one_ascii 105 (omega arith)))
    (signed_word n (decimal n) (decimal-Numeral n (omega (arith, h))) h)

pub unsigned_spelled : (n : ℕ) → n < 2 ^ 32
    → IsSpelled (record { class = U32; payload = number (pos n) }) (decimal n ++ codes "u")
unsigned_spelled n h =
    ascii_spelled _ (decimal n ++ codes "u") (IsAscii-append (decimal n) (codes "u")
    (IsAscii-decimal n (omega (arith, h))) (one_ascii 117 (omega arith)))
    (unsigned_word n (decimal n) (decimal-Numeral n (omega (arith, h))) h)
