-- A number in hexadecimal is spelled as the whole number that it is.
use Rattle.std.proofs.Common.{◌≡◌, ℕ, ◌^◌, ◌<◌, true, false, refl, ap, ◌∙◌, ◌*◌, ◌+◌, List, [], ◌∷◌, length, Some, arith}
use Rattle.std.specs.Prelude.{pos}
use Rattle.std.specs.Char.{is_ascii_hexdigit, digit_value}
use Rattle.std.specs.Fmt.{digits}
use Rattle.std.specs.Str.Parse.{AllDigits, digits_value_after}
use Rattle.std.proofs.lemmas.Bool.{or_right, lt-ltb}
use Rattle.std.proofs.lemmas.Bool.Decides.{nat_tests}
use Rattle.std.proofs.lemmas.Fmt.{digits_is_IsNumeral}
use Rattle.grammar.specs.Tokens.{Payload.number}
use Rattle.grammar.specs.Tables.{is_empty}
use Rattle.wgsl_model.specs.Tokens.ClassTable.{AbstractInt}
use Rattle.wgsl_model.specs.Tokens.Kind.{Kind}
use Rattle.wgsl_model.specs.Tokens.Numbers.{digits_value, number_of, number_value, whole_number}
use Rattle.wgsl_model.specs.Tokens.Pattern.{empty, begins, begins_any, spells}
use Rattle.wgsl_model.specs.Tokens.Raw.{kind_of_spelling, raw_at}
use Rattle.wgsl_model.specs.Tokens.Spelling.{identifier, spelling}
use Rattle.wgsl_model.specs.Tokens.Trivia.{outside, after_trivia}
use Rattle.wgsl_model.proofs.Tokens.Characters.{digit_not_start}
use Rattle.wgsl_theory_printed.proofs.Spelling.Split.{Each}
use Rattle.wgsl_theory_printed.proofs.Spelling.Spellings.{spelling_at}
use Rattle.wgsl_theory_tidy.proofs.Kept.Readings.{IsToken, is_word}
use Rattle.wgsl_model_short.specs.Respelled.{hexadecimal}

-- ---- its digits

hexdigit : (c : ℕ) → digit_value c < 16 → is_ascii_hexdigit c ≡ true
hexdigit c h = grind (arith, nat_tests)

each_hexdigit : (ds : List ℕ) → AllDigits 16 ds → Each is_ascii_hexdigit ds
each_hexdigit [] h = tt
each_hexdigit (d ∷ ds) h = (hexdigit d h.0, each_hexdigit ds h.1)

same_value : (n : ℕ) (ds : List ℕ) → digits_value 16 n ds ≡ digits_value_after 16 n ds
same_value n [] = refl
same_value n (d ∷ ds) = same_value (n * 16 + digit_value d) ds

-- ---- its spelling

hexdigits_after : (ds : List ℕ) → Each is_ascii_hexdigit ds → begins_any is_ascii_hexdigit (begins empty is_empty) ds ≡ true
unfolding begins_any begins
hexdigits_after [] h = refl
hexdigits_after (d ∷ ds) h = or_right (is_empty (d ∷ ds)) _ (rw h.0 (hexdigits_after ds h.1))

whole : (d : ℕ) (ds : List ℕ) → Each is_ascii_hexdigit (d ∷ ds)
    → spells (whole_number empty) (48 ∷ (120 ∷ (d ∷ ds))) ≡ true
unfolding begins
whole d ds h = rw (h.0, hexdigits_after ds h.1) refl

abbrev number_kind : ℕ → Kind
number_kind n = record { class = AbstractInt; payload = number (pos n) }

valued : (n : ℕ) (word : List ℕ) → spells (whole_number empty) word ≡ true → number_value word ≡ n → n < 2 ^ 63
    → number_of word ≡ Some (number_kind n)
valued n word s v h = rw (s, v, lt-ltb n (2 ^ 63) h) refl

number_spelled : (word : List ℕ) → spells (whole_number empty) word ≡ true → spells spelling word ≡ true
unfolding begins
number_spelled word h = or_right (spells identifier word) _ (rw h refl)

not_blank : (cs : List ℕ) → after_trivia outside (48 ∷ cs) ≡ 48 ∷ cs
unfolding after_trivia
not_blank cs = refl

of_digits : (n : ℕ) (ds : List ℕ) → Each is_ascii_hexdigit ds → digits_value 16 0 ds ≡ n → n < 2 ^ 63
    → (ds ≡ [] → ⊥) → IsToken (number_kind n) (48 ∷ (120 ∷ ds)) []
of_digits n [] h v l e = absurd (e refl)
of_digits n (d ∷ ds) h v l e =
    let word : List ℕ = 48 ∷ (120 ∷ (d ∷ ds)) in
    let spelled = number_spelled word (whole d ds h) in
    let value : kind_of_spelling word ≡ Some (number_kind n) =
    rw (digit_not_start 48 refl) (valued n word (whole d ds h) v l) in
    is_word (number_kind n) word [] refl (record { spelled = spelled; valued = value; begins = (refl, refl) })
    (ap raw_at (not_blank _) ∙ spelling_at 48 (120 ∷ (d ∷ ds)) [] (number_kind n) spelled value tt)

some_digit : (ds : List ℕ) → 0 < length ds → ds ≡ [] → ⊥
some_digit ds h e = omega (arith, h, ap length e)

-- ---- the number

pub hexadecimal_token : (n : ℕ) → n < 2 ^ 63 → IsToken (number_kind n) (hexadecimal n) []
hexadecimal_token n h =
    let numeral = digits_is_IsNumeral 16 false (omega arith) (omega arith) n (omega (arith, h)) in
    of_digits n (digits 16 false n) (each_hexdigit (digits 16 false n) numeral.0.1)
    (same_value 0 (digits 16 false n) ∙ numeral.1) h (some_digit (digits 16 false n) numeral.0.0)
