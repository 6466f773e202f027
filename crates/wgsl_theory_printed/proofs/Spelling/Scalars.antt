-- Which tests the characters of spellings pass; they are scalar values.
use Rattle.std.proofs.Common.{◌≡◌, ℕ, ◌==◌, Bool, true, refl, ap, List, [], ◌∷◌, ◌∙◌, map, arith}
use Rattle.std.specs.Prelude.{◌&&◌, ◌||◌}
use Rattle.std.specs.Char.{is_ascii_digit, is_ascii_hexdigit, is_ascii_alphanumeric}
use Rattle.std.specs.Str.{all_scalars}
use lib.Utf8.{scalar}
use Rattle.std.proofs.lemmas.Bool.{and_parts, and_from, eqb-true}
use Rattle.std.proofs.lemmas.Bool.Decides.{nat_tests}
use Rattle.unicode_ident.specs.Ident.{is_xid_start, is_xid_continue}
use Rattle.unicode_ident.proofs.IdentLemmas.{is_xid_start-is_xid_continue}
use Rattle.wgsl_model.specs.Tokens.Pattern.{Pattern, empty, literal, any_of, spells}
use Rattle.wgsl_model.specs.Tokens.Numbers as numbers
use Rattle.wgsl_model.specs.Tokens.Numbers.{is_nonzero_digit, is_x, is_e, is_p, is_sign, whole_number, i_suffix, u_suffix, f_suffix, h_suffix, abstract_float, float, number_spelling}
use Rattle.wgsl_model.specs.Tokens.Spelling.{identifier, syntactic_token, spelling}
use Rattle.wgsl_model.specs.Tokens.ClassTable.{symbols}
use Rattle.wgsl_theory_grammar.proofs.Tokens.Classes.{all_pass}
use Rattle.wgsl_theory_printed.proofs.Spelling.Characters.{xid_continue-scalar}
use Rattle.wgsl_theory_printed.proofs.Spelling.Split.{Each, Lets, Stricter, wider, spelled_each}

this_one : (q : ℕ → Bool) (n c : ℕ) → q n ≡ true → (c == n) ≡ true → q c ≡ true
this_one q n c h e = ap q (eqb-true c n e) ∙ h

-- ---- numbers

-- a letter, a digit, `+`, `-` or `.`
abbrev pub is_numeral : ℕ → Bool
is_numeral c = is_ascii_alphanumeric c || ((c == 43 || c == 45) || c == 46)

digit : Stricter is_ascii_digit is_numeral
digit c h = grind (arith, nat_tests)

hexdigit : Stricter is_ascii_hexdigit is_numeral
hexdigit c h = grind (arith, nat_tests)

nonzero_digit : Stricter is_nonzero_digit is_numeral
nonzero_digit c h = digit c (and_parts (is_ascii_digit c) _ h).0

x_letter : Stricter is_x is_numeral
x_letter c h = grind (arith, nat_tests)

e_letter : Stricter is_e is_numeral
e_letter c h = grind (arith, nat_tests)

p_letter : Stricter is_p is_numeral
p_letter c h = grind (arith, nat_tests)

a_sign : Stricter is_sign is_numeral
a_sign c h = grind (arith, nat_tests)

point : Stricter (λ c. c == 46) is_numeral
point c h = this_one is_numeral 46 c refl h

zero_digit : Stricter (λ c. c == 48) is_numeral
zero_digit c h = this_one is_numeral 48 c refl h

whole_lets : (suffix : Pattern) → Lets is_numeral suffix → Lets is_numeral (whole_number suffix)
whole_lets suffix h =
    (((zero_digit, h), (nonzero_digit, (digit, h))), (zero_digit, (x_letter, ((hexdigit, hexdigit), h))))

exponent_lets : (letter : ℕ → Bool) → Stricter letter is_numeral → Lets is_numeral (numbers.exponent letter)
exponent_lets letter h = (h, ((a_sign, tt), (digit, digit)))

point_lets : (p : ℕ → Bool) → Stricter p is_numeral → Lets is_numeral (numbers.digits_with_point p)
point_lets p h = (((h, h), (point, h)), (point, (h, h)))

abstract_lets : Lets is_numeral abstract_float
abstract_lets =
    let e = exponent_lets is_e e_letter in
    let p = exponent_lets is_p p_letter in (
      (point_lets is_ascii_digit digit, (e, tt)),
      (
        ((digit, digit), e),
        (zero_digit, (x_letter, ((point_lets is_ascii_hexdigit hexdigit, (p, tt)), ((hexdigit, hexdigit), p)))),
      ),
    )

float_lets : (suffix : Pattern) → Lets is_numeral suffix → Lets is_numeral (float suffix)
float_lets suffix h = (
  ((point_lets is_ascii_digit digit, (digit, digit)), ((exponent_lets is_e e_letter, tt), h)),
  (
    zero_digit,
    (x_letter, ((point_lets is_ascii_hexdigit hexdigit, (hexdigit, hexdigit)), (exponent_lets is_p p_letter, h))),
  ),
)

pub number_lets : Lets is_numeral number_spelling
number_lets = (
  whole_lets empty tt,
  (
    whole_lets i_suffix (λ c h. this_one is_numeral 105 c refl h),
    (
      whole_lets u_suffix (λ c h. this_one is_numeral 117 c refl h),
      (
        abstract_lets,
        (
          float_lets f_suffix (λ c h. this_one is_numeral 102 c refl h),
          float_lets h_suffix (λ c h. this_one is_numeral 104 c refl h),
        ),
      ),
    ),
  ),
)

-- ---- identifiers and symbols

-- where the characters that continue one pass
pub identifier_lets : (q : ℕ → Bool) → Stricter is_xid_continue q → q 95 ≡ true → Lets q identifier
identifier_lets q h u =
    let started : Stricter is_xid_start q = λ c k. h c (is_xid_start-is_xid_continue c k) in
    ((started, h), ((λ c k. this_one q 95 c u k), (h, h)))

-- each character of each word passes
abbrev all_words : (ℕ → Bool) → List (List ℕ) → Bool
all_words q [] = true
all_words q (w ∷ ws) = all_pass q w && all_words q ws

pub literal_lets : (q : ℕ → Bool) (word : List ℕ) → all_pass q word ≡ true → Lets q (literal word)
literal_lets q [] h = tt
literal_lets q (c ∷ []) h = λ x e. this_one q c x (and_parts (q c) _ h).0 e
literal_lets q (c ∷ (d ∷ ds)) h =
    let parts = and_parts (q c) (all_pass q (d ∷ ds)) h in
    ((λ x e. this_one q c x parts.0 e), literal_lets q (d ∷ ds) parts.1)

words_let : (q : ℕ → Bool) (words : List (List ℕ)) → all_words q words ≡ true → Lets q (any_of words)
words_let q [] h = tt
words_let q (w ∷ ws) h =
    let parts = and_parts (all_pass q w) (all_words q ws) h in
    (literal_lets q w parts.0, words_let q ws parts.1)

-- ---- scalar values

numeral_scalar : Stricter is_numeral scalar
numeral_scalar c h = grind (arith, nat_tests)

symbol_lets : Lets scalar syntactic_token
symbol_lets = words_let scalar (map (λ (entry : List ℕ × ℕ). entry.0) symbols) refl

scalars_of : (word : List ℕ) → Each scalar word → all_scalars word ≡ true
scalars_of [] h = refl
scalars_of (c ∷ cs) h = and_from _ _ h.0 (scalars_of cs h.1)

pub spelled_scalars : (word : List ℕ) → spells spelling word ≡ true → all_scalars word ≡ true
spelled_scalars word h =
    scalars_of word (spelled_each scalar spelling (
      identifier_lets scalar xid_continue-scalar refl,
      (wider is_numeral scalar numeral_scalar number_spelling number_lets, symbol_lets),
    ) word h)
