-- Numbers: the longest one at the front of a text, and its value.
use Rattle.std.proofs.Common.{◌≡◌, ℕ, ◌+◌, ◌*◌, ◌^◌, Bool, true, false, cond, ◌==◌, refl, sym, ap, subst, List, [], ◌∷◌, ◌++◌, Option, Some, None, ◌∙◌, append_assoc, zero-add, lit<}
use Rattle.std.specs.Prelude.{unwrap_or}
use Rattle.std.specs.Char.{is_ascii_digit, is_ascii_hexdigit, is_digit, digit_value}
use Rattle.unicode_ident.specs.Ident.{is_xid_start}
use Rattle.unicode_ident.proofs.IdentLemmas.{is_xid_start-ascii}
use Rattle.wgsl_model.specs.Tokens.ClassTable.{AbstractInt, I32, U32, AbstractFloat, F32, F16, SymPeriod}
use Rattle.wgsl_model.specs.Tokens.Kind.{Kind}
use Rattle.wgsl_model.specs.Tokens.Numbers as model
use Rattle.wgsl_model.specs.Tokens.Numbers.{whole_number, number_of, number_value, digits_value, without_last, number_below, i_suffix, u_suffix, abstract_float, f_suffix, h_suffix}
use Rattle.wgsl_model.specs.Tokens.Pattern.{Pattern, empty, either, spells, after_spelling}
use Rattle.wgsl_model.specs.Tokens.Raw.{raw_at, kind_of_spelling, valued, front}
use Rattle.wgsl_model.specs.Tokens.Spelling.{spelling}
use Rattle.wgsl_lex_scanner.specs.Digits.{skip_digits, read_digits}
use Rattle.wgsl_lex_scanner.specs.ScannedNumbers.{NumericLiteral, integer, float, number_by_class, number_kind, as_optional_float, suffixed, float_or, decimal_float, point, decimal, hexadecimal_float, hexadecimal_point, scan_hexadecimal, zero_alone, after_zero, number}
use Rattle.wgsl_lex_scanner.specs.Scanning.{numbered}
use Rattle.wgsl_lex_scanner.proofs.Bytes.{without_last-append}
use Rattle.wgsl_lex_scanner.proofs.Derivative.{after}
use Rattle.wgsl_lex_scanner.proofs.Walk.{after_spelling-go, at_code, run_of, run_is}
use Rattle.wgsl_lex_scanner.proofs.Classed.{first_spelled, first_spelled-nil, first_spelled-cons, after_each, longest_of, union_of, rest_of, IsCut, after_spelling-union, after_spelling-either, longest-cut}
use Rattle.wgsl_lex_scanner.proofs.NumberStates.{numbers, digits_left, zero_left, point_left, period_left, class_and_rest, digits-longest, zero-longest, point-longest, point_or_period-longest}
use Rattle.wgsl_model.proofs.Tokens.Fronts.{front-append}
use Rattle.wgsl_model.proofs.Tokens.Characters.{other_than, digit_not_start}
use Rattle.wgsl_lex_scanner.proofs.Cut.{found, front-whole}
use Rattle.wgsl_lex_scanner.proofs.CharacterClasses.{is_digit-decimal, is_digit-hexadecimal, skip_digits-is}

-- ---- the class of a number says what its value is

this_class : (word : List ℕ) (x : Option Kind) (class k : ℕ) → x ≡ number_by_class class word
    → Some class ≡ Some k → x ≡ number_by_class k word
this_class word x class k h e = let same : class ≡ k = cc in subst (λ k. x ≡ number_by_class k word) same h

choose : (word : List ℕ) (b : Bool) (class k : ℕ) (others : Option ℕ) (x y : Option Kind)
    → x ≡ number_by_class class word → (others ≡ Some k → y ≡ number_by_class k word)
    → cond b (Some class) others ≡ Some k → cond b x y ≡ number_by_class k word
choose word true class k others x y this further e = this_class word x class k this e
choose word false class k others x y this further e = further e

number_of-class : (word : List ℕ) (k : ℕ) → first_spelled numbers word ≡ Some k
    → number_of word ≡ number_by_class k word
number_of-class word k =
    choose word (spells (whole_number empty) word) AbstractInt k _ _ _ refl
    (choose word (spells (whole_number i_suffix) word) I32 k _ _ _ refl
    (choose word (spells (whole_number u_suffix) word) U32 k _ _ _ refl
    (choose word (spells abstract_float word) AbstractFloat k _ _ _ refl
    (choose word (spells (model.float f_suffix) word) F32 k _ _ _ refl
    (choose word (spells (model.float h_suffix) word) F16 k _ _ None refl (λ e. absurd (cc)))))))

-- ---- the number that a walk over its patterns finds

-- what the scanner read is the token at the front, and a rest of the text
abbrev pub IsReadNumber : ℕ → List ℕ → NumericLiteral × List ℕ → Type 0
IsReadNumber c cs found = (raw_at (c ∷ cs) ≡ numbered (c ∷ cs) found) × (c ∷ cs ≡ front (c ∷ cs) found.1 ++ found.1)

-- the value of a number is what its class makes of its spelling
abbrev IsValued : List ℕ → NumericLiteral × List ℕ → Type 0
IsValued text found = number_by_class (class_and_rest found).0 (front text found.1)
    ≡ number_kind found.0 (front text found.1)

at_cut : (c : ℕ) (w rest : List ℕ) (k : ℕ) → after_spelling spelling (c ∷ (w ++ rest)) ≡ Some rest
    → kind_of_spelling (c ∷ w) ≡ number_by_class k (c ∷ w) → raw_at (c ∷ (w ++ rest))
    ≡ valued (c ∷ (w ++ rest)) rest (number_by_class k (front (c ∷ (w ++ rest)) rest))
at_cut c w rest k e v = found c w rest _ e v
    ∙ ap (λ x. valued (c ∷ (w ++ rest)) rest (number_by_class k x)) (sym (front-append (c ∷ w) rest))

-- the number of a class that was found
of_class : (c : ℕ) (cs : List ℕ) (left : List (Pattern × ℕ)) (k : ℕ) (rest : List ℕ)
    → ((w : List ℕ) → first_spelled left w ≡ Some k → kind_of_spelling (c ∷ w) ≡ number_by_class k (c ∷ w))
    → after_spelling spelling (c ∷ cs) ≡ Some rest → IsCut left cs (k, rest)
    → (raw_at (c ∷ cs) ≡ valued (c ∷ cs) rest (number_by_class k (front (c ∷ cs) rest)))
    × (c ∷ cs ≡ front (c ∷ cs) rest ++ rest)
of_class c cs left k rest known e (w, cut, spelled) =
    let P : List ℕ → Type 0 = λ text. after_spelling spelling (c ∷ text) ≡ Some rest
    → raw_at (c ∷ text) ≡ valued (c ∷ text) rest (number_by_class k (front (c ∷ text) rest)) in (
      subst P (sym cut) (λ e. at_cut c w rest k e (known w spelled)) e,
      front-whole (c ∷ w) (c ∷ cs) rest (ap (λ xs. c ∷ xs) cut),
    )

abbrev HasClass : ℕ → List (Pattern × ℕ) → NumericLiteral × List ℕ → Type 0
HasClass c left found = (w : List ℕ) → first_spelled left w ≡ Some (class_and_rest found).0
    → kind_of_spelling (c ∷ w) ≡ number_by_class (class_and_rest found).0 (c ∷ w)

read_number : (c : ℕ) (cs : List ℕ) (left : List (Pattern × ℕ)) (found : NumericLiteral × List ℕ)
    → HasClass c left found → after_spelling spelling (c ∷ cs) ≡ Some found.1
    → longest_of left cs ≡ Some (class_and_rest found) → IsValued (c ∷ cs) found → IsReadNumber c cs found
read_number c cs left ((integer class kind), rest) known e h v =
    let (is, cut) = of_class c cs left class rest known e (longest-cut left cs (class, rest) h) in
    (is ∙ ap (valued (c ∷ cs) rest) v, cut)
read_number c cs left ((float class), rest) known e h v = of_class c cs left class rest known e
    (longest-cut left cs (class, rest) h)

-- the rest of the longest spelling, by what may follow its first character
after_first : (c : ℕ) (cs : List ℕ) (left : List (Pattern × ℕ)) (found : ℕ × List ℕ)
    → after c spelling ≡ union_of left → longest_of left cs ≡ Some found
    → after_spelling spelling (c ∷ cs) ≡ Some found.1
after_first c cs left found e h = after_spelling-go spelling (union_of left) c cs found.1 e
    (after_spelling-union left cs ∙ ap rest_of h)

rest_same : (found : NumericLiteral × List ℕ) → (class_and_rest found).1 ≡ found.1
rest_same ((integer class kind), rest) = refl
rest_same ((float class), rest) = refl

value-number : (c : ℕ) (cs : List ℕ) → is_ascii_digit c ≡ true → kind_of_spelling (c ∷ cs) ≡ number_of (c ∷ cs)
value-number c cs d = rw (digit_not_start c d, other_than is_ascii_digit c d 95 refl, d) refl

read_digit : (c : ℕ) (cs : List ℕ) (left : List (Pattern × ℕ)) (found : NumericLiteral × List ℕ)
    → is_ascii_digit c ≡ true → after c spelling ≡ union_of left → after_each c numbers ≡ left
    → longest_of left cs ≡ Some (class_and_rest found) → IsValued (c ∷ cs) found → IsReadNumber c cs found
read_digit c cs left found d e each h v =
    read_number c cs left found
    (λ w k. value-number c w d ∙ number_of-class (c ∷ w) _
    (first_spelled-cons numbers c w ∙ ap (λ ps. first_spelled ps w) each ∙ k))
    (after_first c cs left (class_and_rest found) e h ∙ ap (λ t. Some t) (rest_same found)) h v

-- ---- the value of digits

suffixed-valued : (w t : List ℕ) (n : ℕ) → number_value w ≡ n → IsValued (w ++ t) (suffixed n t)
suffixed-valued w [] n e = ap (λ x. number_below AbstractInt (2 ^ 63) (number_value x)) (front-append w [])
    ∙ ap (number_below AbstractInt (2 ^ 63)) e
suffixed-valued w (x ∷ xs) n e =
    let P : ℕ → Type 0 = λ x. IsValued (w ++ x ∷ xs) (suffixed n (x ∷ xs)) in
    let cut : (c : ℕ) → without_last (front (w ++ c ∷ xs) xs) ≡ w =
    λ c. ap (λ text. without_last (front text xs)) (sym (append_assoc w (c ∷ []) xs))
    ∙ ap without_last (front-append (w ++ c ∷ []) xs) ∙ without_last-append w c in
    at_code 105 x P
    (ap (λ x. number_below I32 (2 ^ 31) (number_value x)) (cut 105) ∙ ap (number_below I32 (2 ^ 31)) e)
    (λ no_i.
    at_code 117 x P (ap (λ x. number_below U32 (2 ^ 32) (number_value x)) (cut 117)
    ∙ ap (number_below U32 (2 ^ 32)) e) (λ no_u.
    rw (no_i, no_u) (ap (λ y. number_below AbstractInt (2 ^ 63) (number_value y))
    (front-append w (x ∷ xs)) ∙ ap (number_below AbstractInt (2 ^ 63)) e)))

-- of a float nothing more is asked
float_or-valued : (o : Option (ℕ × List ℕ)) (text t : List ℕ) (n : ℕ) → IsValued text (suffixed n t)
    → IsValued text (float_or o n t)
float_or-valued None text t n v = v
float_or-valued (Some found) text t n v = refl

read_digits_one : (p : ℕ → Bool) (radix : ℕ) (b : Bool) (n c : ℕ) (cs : List ℕ) → p c ≡ b
    → is_digit c radix ≡ p c → digits_value radix (n * radix + digit_value c) (run_of p cs)
    ≡ read_digits radix (n * radix + digit_value c) cs
    → digits_value radix n (run_of p (c ∷ cs)) ≡ read_digits radix n (c ∷ cs)
unfolding run_of read_digits
read_digits_one p radix true n c cs e same rest = rw (same, e) rest
read_digits_one p radix false n c cs e same rest = rw (same, e) refl

-- the value of the digits at the front
digits_value-run : (p : ℕ → Bool) (radix : ℕ) → ((c : ℕ) → is_digit c radix ≡ p c)
    → (n : ℕ) (s : List ℕ) → digits_value radix n (run_of p s) ≡ read_digits radix n s
unfolding run_of read_digits
digits_value-run p radix same n [] = refl
digits_value-run p radix same n (c ∷ cs) = read_digits_one p radix (p c) n c cs refl (same c)
    (digits_value-run p radix same (n * radix + digit_value c) cs)

-- digits after a front, as the scanner skips them
run_and_rest : (p : ℕ → Bool) (radix : ℕ) (front s : List ℕ) → ((c : ℕ) → is_digit c radix ≡ p c)
    → (front ++ run_of p s) ++ skip_digits radix s ≡ front ++ s
run_and_rest p radix front s same =
    append_assoc front (run_of p s) (skip_digits radix s)
    ∙ ap (λ t. front ++ (run_of p s ++ t)) (skip_digits-is p radix same s)
    ∙ ap (λ x. front ++ x) (sym (run_is p s))

-- a whole number after a front whose digits have a value, or a float
digits-valued : (p : ℕ → Bool) (radix : ℕ) (front s : List ℕ) (n : ℕ) (o : Option (ℕ × List ℕ))
    → ((c : ℕ) → is_digit c radix ≡ p c) → number_value (front ++ run_of p s) ≡ n
    → IsValued (front ++ s) (float_or o n (skip_digits radix s))
digits-valued p radix front s n o same v =
    float_or-valued o (front ++ s) (skip_digits radix s) n
    (subst (λ text. IsValued text (suffixed n (skip_digits radix s))) (run_and_rest p radix front s same)
    (suffixed-valued (front ++ run_of p s) (skip_digits radix s) n v))

-- ---- decimal numbers that do not begin with `0`

decimal_value_one : (b : Bool) (c x : ℕ) (xs : List ℕ) → is_ascii_digit x ≡ b
    → number_value (c ∷ run_of is_ascii_digit (x ∷ xs))
    ≡ digits_value 10 (digit_value c) (run_of is_ascii_digit (x ∷ xs))
unfolding run_of
decimal_value_one true c x xs e =
    rw (e, other_than is_ascii_digit x e 120 refl, other_than is_ascii_digit x e 88 refl, zero-add (digit_value c)) refl
decimal_value_one false c x xs e = rw e (zero-add (digit_value c))

decimal_value : (c : ℕ) (s : List ℕ)
    → number_value (c ∷ run_of is_ascii_digit s) ≡ digits_value 10 (digit_value c) (run_of is_ascii_digit s)
unfolding run_of
decimal_value c [] = zero-add (digit_value c)
decimal_value c (x ∷ xs) = decimal_value_one (is_ascii_digit x) c x xs refl

-- a digit other than `0` begins a number alone
after-digit : (c : ℕ) → is_ascii_digit c ≡ true → (c == 48) ≡ false → after c spelling ≡ union_of digits_left
after-digit c d z =
    let o = other_than is_ascii_digit c d in
    rw (
      d,
      z,
      digit_not_start c d,
      o 33 refl,
      o 37 refl,
      o 38 refl,
      o 40 refl,
      o 41 refl,
      o 42 refl,
      o 43 refl,
      o 44 refl,
      o 45 refl,
      o 46 refl,
      o 47 refl,
      o 58 refl,
      o 59 refl,
      o 60 refl,
      o 61 refl,
      o 62 refl,
      o 64 refl,
      o 91 refl,
      o 93 refl,
      o 94 refl,
      o 95 refl,
      o 123 refl,
      o 124 refl,
      o 125 refl,
      o 126 refl,
    ) refl

numbers-digit : (c : ℕ) → is_ascii_digit c ≡ true → (c == 48) ≡ false → after_each c numbers ≡ digits_left
numbers-digit c d z = rw (d, z, other_than is_ascii_digit c d 46 refl) refl

digit-read : (c : ℕ) (cs : List ℕ) → is_ascii_digit c ≡ true → (c == 48) ≡ false
    → IsReadNumber c cs (decimal (skip_digits 10 cs) (read_digits 10 (digit_value c) cs) (skip_digits 10 cs))
digit-read c cs d z =
    let n = read_digits 10 (digit_value c) cs in
    read_digit c cs digits_left (decimal (skip_digits 10 cs) n (skip_digits 10 cs)) d
    (after-digit c d z) (numbers-digit c d z) (digits-longest n cs)
    (digits-valued is_ascii_digit 10 (c ∷ []) cs n (decimal_float (skip_digits 10 cs)) is_digit-decimal
    (decimal_value c cs ∙ digits_value-run is_ascii_digit 10 is_digit-decimal (digit_value c) cs))

-- ---- numbers that begin with `0`

not_start_48 : is_xid_start 48 ≡ false
not_start_48 = is_xid_start-ascii 48 (lit< tt)

after-zero : after 48 spelling ≡ union_of zero_left
after-zero = rw not_start_48 refl

-- `0` alone
zero-valued : (t : List ℕ) → IsValued (48 ∷ t) (zero_alone t)
zero-valued t = ap (λ x. number_below AbstractInt (2 ^ 63) (number_value x)) (front-append (48 ∷ []) t)

hexadecimal_point-valued : (o : Option (ℕ × List ℕ)) (x : ℕ) (cs : List ℕ)
    → IsValued (48 ∷ x ∷ cs) (unwrap_or (as_optional_float o) (zero_alone (x ∷ cs)))
hexadecimal_point-valued None x cs = zero-valued (x ∷ cs)
hexadecimal_point-valued (Some found) x cs = refl

hexadecimal_one : (b : Bool) (x h : ℕ) (hs : List ℕ) → model.is_x x ≡ true → is_ascii_hexdigit h ≡ b
    → (h == 46) ≡ false
    → IsValued (48 ∷ x ∷ h ∷ hs) (unwrap_or (scan_hexadecimal (h ∷ hs)) (zero_alone (x ∷ h ∷ hs)))
hexadecimal_one true x h hs mark e no_point =
    rw (no_point, is_digit-hexadecimal h ∙ e)
    (digits-valued is_ascii_hexdigit 16 (48 ∷ x ∷ h ∷ []) hs (read_digits 16 (digit_value h) hs)
    (hexadecimal_float (skip_digits 16 hs)) is_digit-hexadecimal
    (rw mark (digits_value-run is_ascii_hexdigit 16 is_digit-hexadecimal (0 * 16 + digit_value h) hs
    ∙ ap (λ n. read_digits 16 n hs) (zero-add (digit_value h)))))
hexadecimal_one false x h hs mark e no_point = rw (no_point, is_digit-hexadecimal h ∙ e) (zero-valued (x ∷ h ∷ hs))

hexadecimal-valued : (x : ℕ) (cs : List ℕ) → model.is_x x ≡ true
    → IsValued (48 ∷ x ∷ cs) (unwrap_or (scan_hexadecimal cs) (zero_alone (x ∷ cs)))
hexadecimal-valued x [] mark = zero-valued (x ∷ [])
hexadecimal-valued x (h ∷ hs) mark =
    let P : ℕ → Type 0 =
    λ h. IsValued (48 ∷ x ∷ h ∷ hs) (unwrap_or (scan_hexadecimal (h ∷ hs)) (zero_alone (x ∷ h ∷ hs))) in
    at_code 46 h P (hexadecimal_point-valued (hexadecimal_point hs) x (46 ∷ hs))
    (λ no_point. hexadecimal_one (is_ascii_hexdigit h) x h hs mark refl no_point)

after_zero-one : (b : Bool) (c : ℕ) (cs : List ℕ) → model.is_x c ≡ b → IsValued (48 ∷ c ∷ cs) (after_zero (c ∷ cs))
after_zero-one true c cs mark = rw mark (hexadecimal-valued c cs mark)
after_zero-one false c cs mark = rw mark (float_or-valued (decimal_float (skip_digits 10 (c ∷ cs)))
    (48 ∷ c ∷ cs) (c ∷ cs) 0 (suffixed-valued (48 ∷ []) (c ∷ cs) 0 refl))

after_zero-valued : (cs : List ℕ) → IsValued (48 ∷ cs) (after_zero cs)
after_zero-valued [] = float_or-valued (decimal_float (skip_digits 10 [])) (48 ∷ []) [] 0
    (suffixed-valued (48 ∷ []) [] 0 refl)
after_zero-valued (c ∷ cs) = after_zero-one (model.is_x c) c cs refl

zero-read : (cs : List ℕ) → IsReadNumber 48 cs (after_zero cs)
zero-read cs = read_digit 48 cs zero_left (after_zero cs) refl after-zero refl (zero-longest cs) (after_zero-valued cs)

-- ---- numbers that begin with `.`

pub not_start_46 : is_xid_start 46 ≡ false
not_start_46 = is_xid_start-ascii 46 (lit< tt)

after-point : after 46 spelling ≡ either (union_of point_left) (union_of period_left)
after-point = rw not_start_46 refl

-- a number or the symbol that begins with `.`
after_point : (cs : List ℕ) (o : Option (ℕ × List ℕ)) → point cs ≡ o
    → after_spelling spelling (46 ∷ cs) ≡ Some (unwrap_or o (SymPeriod, cs)).1
after_point cs o e =
    after_spelling-go spelling (either (union_of point_left) (union_of period_left)) 46 cs _ after-point
    (after_spelling-either point_left period_left cs
    ∙ ap rest_of (point_or_period-longest cs ∙ ap (λ o. Some (unwrap_or o (SymPeriod, cs))) e))

value-point : (w : List ℕ) (k : ℕ) → first_spelled point_left w ≡ Some k
    → kind_of_spelling (46 ∷ w) ≡ number_by_class k (46 ∷ w)
value-point [] k e = let none : None ≡ Some k = sym (first_spelled-nil point_left) ∙ e in absurd (cc)
value-point (x ∷ xs) k e = rw not_start_46
    (number_of-class (46 ∷ x ∷ xs) k (first_spelled-cons numbers 46 (x ∷ xs) ∙ e))

point_found : (o : Option (ℕ × List ℕ)) (cs : List ℕ) (found : NumericLiteral × List ℕ)
    → point cs ≡ o → as_optional_float o ≡ Some found → IsReadNumber 46 cs found
point_found None cs found e h = absurd (cc)
point_found (Some (class, rest)) cs found e h =
    let same : ((float class), rest) ≡ found = cc in
    subst (IsReadNumber 46 cs) same
    (read_number 46 cs point_left ((float class), rest) (λ w k. value-point w class k)
    (after_point cs (Some (class, rest)) e) (point-longest cs ∙ e) refl)

-- `.` with no digit after it is a symbol
pub point_alone : (cs : List ℕ) → point cs ≡ None → after_spelling spelling (46 ∷ cs) ≡ Some cs
point_alone cs e = after_point cs None e

-- ---- all of them

digit_or_none : (b : Bool) (c : ℕ) (cs : List ℕ) (found : NumericLiteral × List ℕ) → is_ascii_digit c ≡ b
    → (c == 46) ≡ false → (c == 48) ≡ false → number c cs ≡ Some found → IsReadNumber c cs found
digit_or_none true c cs found d no_point no_zero h =
    let known = rw (no_point, no_zero, is_digit-decimal c ∙ d) at h in
    let same : decimal (skip_digits 10 cs) (read_digits 10 (digit_value c) cs) (skip_digits 10 cs) ≡ found = cc in
    subst (IsReadNumber c cs) same (digit-read c cs d no_zero)
digit_or_none false c cs found d no_point no_zero h =
    let known = rw (no_point, no_zero, is_digit-decimal c ∙ d) at h in absurd (cc)

zero_found : (cs : List ℕ) (found : NumericLiteral × List ℕ) → Some (after_zero cs) ≡ Some found
    → IsReadNumber 48 cs found
zero_found cs found h = let same : after_zero cs ≡ found = cc in subst (IsReadNumber 48 cs) same (zero-read cs)

-- the number that the scanner reads is the one at the front
pub number-read : (c : ℕ) (cs : List ℕ) (found : NumericLiteral × List ℕ) → number c cs ≡ Some found
    → IsReadNumber c cs found
number-read c cs found =
    let P : ℕ → Type 0 = λ c. number c cs ≡ Some found → IsReadNumber c cs found in
    at_code 46 c P (λ h. point_found (point cs) cs found refl h) (λ no_point.
    at_code 48 c P (λ h. zero_found cs found h) (λ no_zero. λ h.
    digit_or_none (is_ascii_digit c) c cs found refl no_point no_zero h))
