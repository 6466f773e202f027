-- The forms of numbers, and that none goes on with `+` or `-`.
use Rattle.std.proofs.Common.{◌≡◌, inl, inr, ℕ, ◌==◌, ◌||◌, Bool, true, false, refl, sym, ap, subst, ◌∙◌, List, [], ◌∷◌, ◌++◌, arith}
use Rattle.std.specs.Char.{is_ascii_digit, is_ascii_hexdigit}
use Rattle.std.proofs.lemmas.Bool.{and_parts, true≢false, eqb-true}
use Rattle.std.proofs.lemmas.Bool.Decides.{nat_tests}
use Rattle.grammar.specs.Tables.{is_empty}
use Rattle.wgsl_model.specs.Tokens.Numbers as numbers
use Rattle.wgsl_model.specs.Tokens.Numbers.{is_nonzero_digit, is_x, is_e, is_p, is_sign, whole_number, decimal_number, i_suffix, u_suffix, f_suffix, h_suffix, abstract_float, float, number_spelling}
use Rattle.wgsl_model.specs.Tokens.Pattern.{Pattern, empty, one, both, either, begins, spells}
use Rattle.wgsl_theory_printed.proofs.Spelling.Split.{Each, Each-last, Lets, Stricter, by_either, spelled_each}
use Rattle.wgsl_theory_short.proofs.NumberSigns.{is_suffix, IsShort, Apart, Tail, Ended, each_wider, no_sign_in, before_sign, no_ended}

-- ---- the characters of numbers

-- the characters before an exponent
abbrev is_decimal : ℕ → Bool
is_decimal c = is_ascii_digit c || c == 46

abbrev is_hexadecimal : ℕ → Bool
is_hexadecimal c = is_ascii_hexdigit c || c == 46

-- those of whole numbers
abbrev is_whole : ℕ → Bool
is_whole c = is_ascii_digit c || (c == 105 || c == 117)

abbrev is_whole_hexadecimal : ℕ → Bool
is_whole_hexadecimal c = is_ascii_hexdigit c || (c == 105 || c == 117)

-- those of decimal floats
abbrev is_float : ℕ → Bool
is_float c = is_decimal c || (is_e c || (is_sign c || is_suffix c))

decimal_apart : Apart is_decimal is_e
decimal_apart = record {
  letters = λ c h. grind (arith, nat_tests);
  signs = λ c h. grind (arith, nat_tests);
  no_sign = λ c h. grind (arith, nat_tests);
  no_suffix = λ c h. grind (arith, nat_tests);
}

hexadecimal_apart : Apart is_hexadecimal is_p
hexadecimal_apart = record {
  letters = λ c h. grind (arith, nat_tests);
  signs = λ c h. grind (arith, nat_tests);
  no_sign = λ c h. grind (arith, nat_tests);
  no_suffix = λ c h. grind (arith, nat_tests);
}

-- ---- what follows the digits of a float

short_empty : (s : List ℕ) → is_empty s ≡ true → IsShort s
short_empty [] h = tt
short_empty (c ∷ s) h = absurd (true≢false (sym h))

short_suffix : (n : ℕ) → is_suffix n ≡ true → (s : List ℕ) → begins (one (λ c. c == n)) is_empty s ≡ true → IsShort s
unfolding begins
short_suffix n a [] h = tt
short_suffix n a (c ∷ []) h = ap is_suffix (eqb-true c n (and_parts (c == n) true h).0) ∙ a
short_suffix n a (c ∷ (d ∷ s)) h = absurd (true≢false (sym (and_parts (c == n) false h).1))

must : (letter : ℕ → Bool) → Tail letter (numbers.exponent letter)
must letter = record { last = is_empty; short = short_empty; parts = λ s h. inl h }

may : (letter : ℕ → Bool) → Tail letter (numbers.at_most_one (numbers.exponent letter))
unfolding begins
may letter = record {
  last = is_empty;
  short = short_empty;
  parts = λ s h. by_either (begins (numbers.exponent letter) is_empty s) (is_empty s) h (λ e. inl e) (λ e. inr e);
}

must_suffix : (letter : ℕ → Bool) (n : ℕ) → is_suffix n ≡ true
    → Tail letter (both (numbers.exponent letter) (one (λ c. c == n)))
unfolding begins
must_suffix letter n a = record {
  last = begins (one (λ c. c == n)) is_empty;
  short = short_suffix n a;
  parts = λ s h. inl h;
}

may_suffix : (letter : ℕ → Bool) (n : ℕ) → is_suffix n ≡ true
    → Tail letter (both (numbers.at_most_one (numbers.exponent letter)) (one (λ c. c == n)))
unfolding begins
may_suffix letter n a = record {
  last = begins (one (λ c. c == n)) is_empty;
  short = short_suffix n a;
  parts = λ s h. by_either (begins (numbers.exponent letter) (begins (one (λ c. c == n)) is_empty) s)
      (begins (one (λ c. c == n)) is_empty s) h (λ e. inl e) (λ e. inr e);
}

-- ---- the forms of numbers

data Form (w : List ℕ) : Type 0 where
  whole : Each is_whole w → Form w
  whole_hexadecimal : (m : ℕ) (v : List ℕ) → w ≡ 48 ∷ (m ∷ v) → is_x m ≡ true → Each is_whole_hexadecimal v → Form w
  decimal : (p t : Pattern) → Lets is_decimal p → Tail is_e t → Lets is_float (both p t)
      → spells (both p t) w ≡ true → Form w
  hexadecimal : (m : ℕ) (v : List ℕ) (p t : Pattern) → w ≡ 48 ∷ (m ∷ v) → is_x m ≡ true
      → Lets is_hexadecimal p → Tail is_p t → spells (both p t) v ≡ true → Form w

-- `0x` and what follows it
record Marked (p : Pattern) (w : List ℕ) : Type 0 where
  mark : ℕ
  digits : List ℕ
  whole : w ≡ 48 ∷ (mark ∷ digits)
  marked : is_x mark ≡ true
  spelled : spells p digits ≡ true

marked_of : (p : Pattern) (w : List ℕ) → spells (numbers.hexadecimal p) w ≡ true → Marked p w
unfolding begins
marked_of p [] h = absurd (true≢false (sym h))
marked_of p (c ∷ []) h = absurd (true≢false (sym (and_parts (c == 48) false h).1))
marked_of p (c ∷ (x ∷ v)) h =
    let zero = and_parts (c == 48) _ h in
    let next = and_parts (is_x x) _ zero.1 in
    record {
      mark = x;
      digits = v;
      whole = ap (λ d. d ∷ (x ∷ v)) (eqb-true c 48 zero.0);
      marked = next.0;
      spelled = next.1;
    }

this_one : (q : ℕ → Bool) (n c : ℕ) → q n ≡ true → (c == n) ≡ true → q c ≡ true
this_one q n c h e = ap q (eqb-true c n e) ∙ h

one_of_two : {X : Type 0} (a b : Pattern) (w : List ℕ) → spells (either a b) w ≡ true
    → (spells a w ≡ true → X) → (spells b w ≡ true → X) → X
unfolding begins
one_of_two a b w h f g = by_either (spells a w) (spells b w) h f g

digit_whole : Stricter is_ascii_digit is_whole
digit_whole c h = grind (arith, nat_tests)

nonzero_whole : Stricter is_nonzero_digit is_whole
nonzero_whole c h = digit_whole c (and_parts (is_ascii_digit c) _ h).0

hexdigit_whole : Stricter is_ascii_hexdigit is_whole_hexadecimal
hexdigit_whole c h = grind (arith, nat_tests)

digit_decimal : Stricter is_ascii_digit is_decimal
digit_decimal c h = grind (arith, nat_tests)

hexdigit_hexadecimal : Stricter is_ascii_hexdigit is_hexadecimal
hexdigit_hexadecimal c h = grind (arith, nat_tests)

digit_float : Stricter is_ascii_digit is_float
digit_float c h = grind (arith, nat_tests)

e_float : Stricter is_e is_float
e_float c h = grind (arith, nat_tests)

sign_float : Stricter is_sign is_float
sign_float c h = grind (arith, nat_tests)

point_float : Stricter (λ c. c == 46) is_float
point_float c h = this_one is_float 46 c refl h

point_decimal : Lets is_decimal (numbers.digits_with_point is_ascii_digit)
point_decimal = (
  ((digit_decimal, digit_decimal), ((λ c h. this_one is_decimal 46 c refl h), digit_decimal)),
  ((λ c h. this_one is_decimal 46 c refl h), (digit_decimal, digit_decimal)),
)

point_hexadecimal : Lets is_hexadecimal (numbers.digits_with_point is_ascii_hexdigit)
point_hexadecimal = (
  ((hexdigit_hexadecimal, hexdigit_hexadecimal), ((λ c h. this_one is_hexadecimal 46 c refl h), hexdigit_hexadecimal)),
  ((λ c h. this_one is_hexadecimal 46 c refl h), (hexdigit_hexadecimal, hexdigit_hexadecimal)),
)

points_float : Lets is_float (numbers.digits_with_point is_ascii_digit)
points_float = (((digit_float, digit_float), (point_float, digit_float)), (point_float, (digit_float, digit_float)))

exponent_float : Lets is_float (numbers.exponent is_e)
exponent_float = (e_float, ((sign_float, tt), (digit_float, digit_float)))

whole_form : (suffix : Pattern) → Lets is_whole suffix → Lets is_whole_hexadecimal suffix → (w : List ℕ)
    → spells (whole_number suffix) w ≡ true → Form w
whole_form suffix a b w h =
    one_of_two _ _ w h
    (λ e. whole (spelled_each is_whole (decimal_number suffix)
    (((λ c k. this_one is_whole 48 c refl k), a), (nonzero_whole, (digit_whole, a))) w e))
    (λ e. (let m = marked_of (both (numbers.digits is_ascii_hexdigit) suffix) w e in
    whole_hexadecimal m.mark m.digits m.whole m.marked (spelled_each is_whole_hexadecimal
    (both (numbers.digits is_ascii_hexdigit) suffix) ((hexdigit_whole, hexdigit_whole), b) m.digits m.spelled)))

abstract_form : (w : List ℕ) → spells abstract_float w ≡ true → Form w
abstract_form w h =
    one_of_two _ _ w h
    (λ e. decimal (numbers.digits_with_point is_ascii_digit) (numbers.at_most_one (numbers.exponent is_e))
    point_decimal (may is_e) (points_float, (exponent_float, tt)) e)
    (λ f. one_of_two _ _ w f
    (λ e. decimal (numbers.digits is_ascii_digit) (numbers.exponent is_e)
    (digit_decimal, digit_decimal) (must is_e) ((digit_float, digit_float), exponent_float) e)
    (λ e. (let m = marked_of (either (both (numbers.digits_with_point is_ascii_hexdigit)
    (numbers.at_most_one (numbers.exponent is_p)))
    (both (numbers.digits is_ascii_hexdigit) (numbers.exponent is_p))) w e in
    one_of_two _ _ m.digits m.spelled
    (λ g. hexadecimal m.mark m.digits (numbers.digits_with_point is_ascii_hexdigit)
    (numbers.at_most_one (numbers.exponent is_p)) m.whole m.marked point_hexadecimal (may is_p) g)
    (λ g. hexadecimal m.mark m.digits (numbers.digits is_ascii_hexdigit) (numbers.exponent is_p) m.whole m.marked
    (hexdigit_hexadecimal, hexdigit_hexadecimal) (must is_p) g))))

float_form : (n : ℕ) → is_suffix n ≡ true → is_float n ≡ true → (w : List ℕ)
    → spells (float (one (λ c. c == n))) w ≡ true → Form w
float_form n a b w h =
    one_of_two _ _ w h
    (λ e. decimal (either (numbers.digits_with_point is_ascii_digit) (numbers.digits is_ascii_digit))
    (both (numbers.at_most_one (numbers.exponent is_e)) (one (λ c. c == n)))
    (point_decimal, (digit_decimal, digit_decimal)) (may_suffix is_e n a)
    ((points_float, (digit_float, digit_float)), ((exponent_float, tt), (λ c k. this_one is_float n c b k))) e)
    (λ e. (let m = marked_of (both (either (numbers.digits_with_point is_ascii_hexdigit)
    (numbers.digits is_ascii_hexdigit))
    (both (numbers.exponent is_p) (one (λ c. c == n)))) w e in
    hexadecimal m.mark m.digits
    (either (numbers.digits_with_point is_ascii_hexdigit) (numbers.digits is_ascii_hexdigit))
    (both (numbers.exponent is_p) (one (λ c. c == n))) m.whole m.marked
    (point_hexadecimal, (hexdigit_hexadecimal, hexdigit_hexadecimal)) (must_suffix is_p n a) m.spelled))

form : (w : List ℕ) → spells number_spelling w ≡ true → Form w
form w h =
    one_of_two _ _ w h (λ e. whole_form empty tt tt w e)
    (λ h1. one_of_two _ _ w h1
    (λ e. whole_form i_suffix (λ c k. this_one is_whole 105 c refl k)
    (λ c k. this_one is_whole_hexadecimal 105 c refl k) w e)
    (λ h2. one_of_two _ _ w h2
    (λ e. whole_form u_suffix (λ c k. this_one is_whole 117 c refl k)
    (λ c k. this_one is_whole_hexadecimal 117 c refl k) w e)
    (λ h3. one_of_two _ _ w h3 (λ e. abstract_form w e)
    (λ h4. one_of_two _ _ w h4 (λ e. float_form 102 refl refl w e) (λ e. float_form 104 refl refl w e)))))

-- ---- before a sign

-- a text that a number with an exponent begins with
data Begun (w : List ℕ) : Type 0 where
  begun_decimal : Ended is_decimal is_e w → Begun w
  begun_hexadecimal : (m : ℕ) (v : List ℕ) → w ≡ 48 ∷ (m ∷ v) → is_x m ≡ true → Ended is_hexadecimal is_p v → Begun w

whole_sign : (c : ℕ) → is_sign c ≡ true → is_whole c ≡ false
whole_sign c h = grind (arith, nat_tests)

-- the characters of hexadecimal whole numbers
abbrev is_marked : ℕ → Bool
is_marked c = is_whole_hexadecimal c || is_x c

marked_sign : (c : ℕ) → is_sign c ≡ true → is_marked c ≡ false
marked_sign c h = grind (arith, nat_tests)

marked_each : (m : ℕ) (v : List ℕ) → is_x m ≡ true → Each is_whole_hexadecimal v → Each is_marked (48 ∷ (m ∷ v))
marked_each m v x e = (refl, (marked_mark m x, each_wider is_whole_hexadecimal is_marked wider v e))
  where
    marked_mark : Stricter is_x is_marked
    marked_mark c h = grind (arith, nat_tests)

    wider : Stricter is_whole_hexadecimal is_marked
    wider c h = grind (arith, nat_tests)

begun : (w z : List ℕ) (s : ℕ) → is_sign s ≡ true → Form (w ++ (s ∷ z)) → (w ≡ [] → ⊥) → Begun w
begun w z s g (whole e) n = absurd (no_sign_in is_whole whole_sign w z s g e)
begun w z s g (whole_hexadecimal m v q x e) n = absurd (no_sign_in is_marked marked_sign w z s g
    (subst (Each is_marked) (sym q) (marked_each m v x e)))
begun w z s g (decimal p t l tail f h) n =
    begun_decimal (before_sign is_decimal is_e decimal_apart p t l tail w z s g h)
begun [] z s g (hexadecimal m v p t q x l tail h) n = absurd (n refl)
begun (a ∷ []) z s g (hexadecimal m v p t q x l tail h) n =
    let same : s ≡ m = cc in
    let none : is_x m ≡ false = x_no_sign m (subst (λ c. is_sign c ≡ true) same g) in
    absurd (true≢false (sym x ∙ none))
  where
    x_no_sign : (c : ℕ) → is_sign c ≡ true → is_x c ≡ false
    x_no_sign c h = grind (arith, nat_tests)
begun (a ∷ (b ∷ w)) z s g (hexadecimal m v p t q x l tail h) n =
    let mark : b ≡ m = cc in
    let zero : a ≡ 48 = cc in
    let rest : v ≡ w ++ (s ∷ z) = cc in
    begun_hexadecimal m w (ap (λ c. c ∷ (b ∷ w)) zero ∙ ap (λ c. 48 ∷ (c ∷ w)) mark) x
    (before_sign is_hexadecimal is_p hexadecimal_apart p t l tail w z s g
    (subst (λ y. spells (both p t) y ≡ true) rest h))

-- ---- no number is such a text

last_passes : (q : ℕ → Bool) (f : List ℕ) (c : ℕ) → Each q (f ++ (c ∷ [])) → q c ≡ true
last_passes q f c h = (Each-last q f (c ∷ []) h).0

decimal_no_mark : (w : List ℕ) → Ended is_decimal is_e w → (m : ℕ) (v : List ℕ) → w ≡ 48 ∷ (m ∷ v) → is_x m ≡ true → ⊥
decimal_no_mark w n m v q x = go n.front n.each (sym n.whole ∙ q)
  where
    decimal_no_x : (c : ℕ) → is_x c ≡ true → is_decimal c ≡ false
    decimal_no_x c h = grind (arith, nat_tests)

    e_no_x : (c : ℕ) → is_e c ≡ true → is_x c ≡ false
    e_no_x c h = grind (arith, nat_tests)

    go : (f : List ℕ) → Each is_decimal f → f ++ (n.last ∷ []) ≡ 48 ∷ (m ∷ v) → ⊥
    go [] e h = absurd cc
    go (a ∷ []) e h =
        let same : n.last ≡ m = cc in
        true≢false (sym x ∙ e_no_x m (subst (λ c. is_e c ≡ true) same n.lettered))
    go (a ∷ (b ∷ f)) e h =
        let same : b ≡ m = cc in
        true≢false (sym e.1.0 ∙ ap is_decimal same ∙ decimal_no_x m x)

none_decimal : (w : List ℕ) → Ended is_decimal is_e w → Form w → ⊥
none_decimal w n (whole e) = true≢false
    (sym (last_passes is_whole n.front n.last (subst (Each is_whole) n.whole e)) ∙ e_no_whole n.last n.lettered)
  where
    e_no_whole : (c : ℕ) → is_e c ≡ true → is_whole c ≡ false
    e_no_whole c h = grind (arith, nat_tests)
none_decimal w n (whole_hexadecimal m v q x e) = decimal_no_mark w n m v q x
none_decimal w n (decimal p t l tail f h) = no_ended is_decimal is_e decimal_apart p t l tail w n h
none_decimal w n (hexadecimal m v p t q x l tail h) = decimal_no_mark w n m v q x

second_passes : (q : ℕ → Bool) (w : List ℕ) (m : ℕ) (v : List ℕ) → w ≡ 48 ∷ (m ∷ v) → Each q w → q m ≡ true
second_passes q w m v e h = let each : Each q (48 ∷ (m ∷ v)) = subst (Each q) e h in each.1.0

none_hexadecimal : (w : List ℕ) (m : ℕ) (v : List ℕ) → w ≡ 48 ∷ (m ∷ v) → is_x m ≡ true
    → Ended is_hexadecimal is_p v → Form w → ⊥
none_hexadecimal w m v q x n (whole e) =
    true≢false (sym (second_passes is_whole w m v q e) ∙ x_no_whole m x)
  where
    x_no_whole : (c : ℕ) → is_x c ≡ true → is_whole c ≡ false
    x_no_whole c h = grind (arith, nat_tests)
none_hexadecimal w m v q x n (whole_hexadecimal k u r y e) =
    let same : u ≡ v = cc in
    true≢false (sym (last_passes is_whole_hexadecimal n.front n.last
    (subst (Each is_whole_hexadecimal) (same ∙ n.whole) e)) ∙ p_no_whole n.last n.lettered)
  where
    p_no_whole : (c : ℕ) → is_p c ≡ true → is_whole_hexadecimal c ≡ false
    p_no_whole c h = grind (arith, nat_tests)
none_hexadecimal w m v q x n (decimal p t l tail f h) =
    true≢false (sym (second_passes is_float w m v q (spelled_each is_float (both p t) f w h)) ∙ x_no_float m x)
  where
    x_no_float : (c : ℕ) → is_x c ≡ true → is_float c ≡ false
    x_no_float c h = grind (arith, nat_tests)
none_hexadecimal w m v q x n (hexadecimal k u p t r y l tail h) =
    let same : u ≡ v = cc in
    no_ended is_hexadecimal is_p hexadecimal_apart p t l tail v n (subst (λ s. spells (both p t) s ≡ true) same h)

-- a number does not go on with a sign
pub no_sign_after : (w z : List ℕ) (s : ℕ) → (w ≡ [] → ⊥) → spells number_spelling w ≡ true → is_sign s ≡ true
    → spells number_spelling (w ++ (s ∷ z)) ≡ true → ⊥
no_sign_after w z s n h g k = go (begun w z s g (form (w ++ (s ∷ z)) k) n)
  where
    go : Begun w → ⊥
    go (begun_decimal e) = none_decimal w e (form w h)
    go (begun_hexadecimal m v q x e) = none_hexadecimal w m v q x e (form w h)
