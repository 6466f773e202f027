-- The symbols: which characters may follow one without making a longer token.
use Rattle.std.proofs.Common.{◌≡◌, ℕ, ◌==◌, ◌&&◌, ◌||◌, Bool, true, false, cond, not, refl, sym, ap, subst, List, [], ◌∷◌, ◌++◌, Some, ◌∙◌, map, arith, append_assoc}
use Rattle.std.specs.Prelude.{drop, nat_lt, bytes_eq, option_map}
use Rattle.std.specs.Char.{is_ascii_digit, is_ascii_alphabetic, is_ascii_alphanumeric}
use Rattle.std.proofs.lemmas.Bool.{and_parts, ltb-true, eq-eqb, eqb-true, false_from_ne_true, true≢false, not-true, or_left, or_right}
use Rattle.std.proofs.lemmas.Bool.Decides.{nat_tests}
use Rattle.std.proofs.lemmas.Slice.Eq.{bytes_eq-Decides}
use Rattle.unicode_ident.specs.Ident.{is_xid_start}
use Rattle.unicode_ident.proofs.IdentLemmas.{is_xid_start-ascii}
use Rattle.wgsl_model.specs.Tokens.Characters.{is_blank}
use Rattle.wgsl_model.specs.Tokens.Kind.{plain}
use Rattle.wgsl_model.specs.Tokens.Pattern.{Pattern, empty, begins, literal, any_of, spells}
use Rattle.wgsl_model.specs.Tokens.Numbers.{number_spelling, is_nonzero_digit, whole_number, i_suffix, u_suffix, f_suffix, h_suffix, float}
use Rattle.wgsl_model.specs.Tokens.Spelling.{identifier, syntactic_token, spelling}
use Rattle.wgsl_model.specs.Tokens.Words.{look_up}
use Rattle.wgsl_model.specs.Tokens.ClassTable.{symbols}
use Rattle.wgsl_theory_printed.proofs.Spelling.Split.{Stricter, by_either}
use Rattle.wgsl_theory_printed.proofs.Spelling.Fronts.{BeginsWith, spelled_first, words_begin}
use Rattle.wgsl_theory_printed.proofs.Spelling.Pieces.{Stands}
use Rattle.wgsl_theory_printed.proofs.Spelling.Spellings.{IsSpelling, EndsAt, EndsBefore, spelling_stands}

-- ---- how spellings begin

-- a character that is no letter and no digit, among the first 128
abbrev pub is_sign : ℕ → Bool
is_sign c = nat_lt c 128 && not (is_ascii_alphanumeric c)

abbrev pub begins_name : ℕ → Bool
begins_name c = is_xid_start c || c == 95

abbrev pub begins_number : ℕ → Bool
begins_number c = is_ascii_digit c || c == 46

pub identifier_begins : BeginsWith begins_name identifier
identifier_begins = ((λ c h. or_left (is_xid_start c) (c == 95) h), (λ c h. or_right (is_xid_start c) (c == 95) h))

zero_begins : Stricter (λ c. c == 48) begins_number
zero_begins c h = let same : c ≡ 48 = eqb-true c 48 h in rw same refl

nonzero_begins : Stricter is_nonzero_digit begins_number
nonzero_begins c h = or_left (is_ascii_digit c) (c == 46) (and_parts (is_ascii_digit c) _ h).0

digit_begins : Stricter is_ascii_digit begins_number
digit_begins c h = or_left (is_ascii_digit c) (c == 46) h

point_begins : Stricter (λ c. c == 46) begins_number
point_begins c h = or_right (is_ascii_digit c) (c == 46) h

whole_begins : (suffix : Pattern) → BeginsWith begins_number (whole_number suffix)
whole_begins suffix = ((zero_begins, nonzero_begins), zero_begins)

float_begins : (suffix : Pattern) → BeginsWith begins_number (float suffix)
float_begins suffix = (((digit_begins, point_begins), digit_begins), zero_begins)

pub number_begins : BeginsWith begins_number number_spelling
number_begins = (
  whole_begins empty,
  (
    whole_begins i_suffix,
    (
      whole_begins u_suffix,
      (((digit_begins, point_begins), (digit_begins, zero_begins)), (float_begins f_suffix, float_begins h_suffix)),
    ),
  ),
)

pub symbol_begins : BeginsWith is_sign syntactic_token
symbol_begins = words_begin is_sign (map (λ (entry : List ℕ × ℕ). entry.0) symbols) refl

-- a sign begins no name, but for `_`, and no number, but for `.`
sign_no_name : (c : ℕ) → is_sign c ≡ true → (c == 95) ≡ false → begins_name c ≡ false
sign_no_name c h n =
    let parts = and_parts (nat_lt c 128) (not (is_ascii_alphanumeric c)) h in
    let letter : is_ascii_alphabetic c ≡ false = grind (arith, nat_tests) in
    rw (is_xid_start-ascii c (ltb-true c 128 parts.0), letter, n) refl

sign_no_number : (c : ℕ) → is_sign c ≡ true → (c == 46) ≡ false → begins_number c ≡ false
sign_no_number c h n = let digit : is_ascii_digit c ≡ false = grind (arith, nat_tests) in rw (digit, n) refl

-- ---- with which characters a symbol goes on

abbrev is_front : List ℕ → List ℕ → Bool
is_front [] ys = true
is_front (x ∷ xs) [] = false
is_front (x ∷ xs) (y ∷ ys) = (x == y) && is_front xs ys

is_front-append : (xs zs : List ℕ) → is_front xs (xs ++ zs) ≡ true
is_front-append [] zs = refl
is_front-append (x ∷ xs) zs = rw (eq-eqb x x refl) (is_front-append xs zs)

abbrev is_some_front : List ℕ → List (List ℕ × ℕ) → Bool
is_some_front w [] = false
is_some_front w (e ∷ es) = is_front w e.0 || is_some_front w es

-- some symbol begins with these characters and this one
abbrev pub goes_on : List ℕ → ℕ → Bool
goes_on w c = is_some_front (w ++ (c ∷ [])) symbols

-- a spelling of a word is the word
literal_is : (w v : List ℕ) → spells (literal w) v ≡ true → v ≡ w
unfolding begins
literal_is [] [] h = refl
literal_is [] (x ∷ v) h = absurd (true≢false (sym h))
literal_is (c ∷ []) [] h = absurd (true≢false (sym h))
literal_is (c ∷ []) (x ∷ []) h = ap (λ y. y ∷ []) (eqb-true x c (and_parts (x == c) true h).0)
literal_is (c ∷ []) (x ∷ (y ∷ v)) h = absurd (true≢false (sym (and_parts (x == c) false h).1))
literal_is (c ∷ (d ∷ ds)) [] h = absurd (true≢false (sym h))
literal_is (c ∷ (d ∷ ds)) (x ∷ v) h =
    let parts = and_parts (x == c) _ h in
    let head : x ≡ c = eqb-true x c parts.0 in
    let tail : v ≡ d ∷ ds = literal_is (d ∷ ds) v parts.1 in
    cc

some_front : (w z : List ℕ) (es : List (List ℕ × ℕ))
    → spells (any_of (map (λ (entry : List ℕ × ℕ). entry.0) es)) (w ++ z) ≡ true → is_some_front w es ≡ true
unfolding begins
some_front w z [] h = absurd (true≢false (sym h))
some_front w z (e ∷ es) h = by_either (spells (literal e.0) (w ++ z)) _ h
    (λ a. (let same : w ++ z ≡ e.0 = literal_is e.0 (w ++ z) a in or_left (is_front w e.0) _
    (subst (λ x. is_front w x ≡ true) same (is_front-append w z))))
    (λ b. or_right (is_front w e.0) (is_some_front w es) (some_front w z es b))

-- where no symbol goes on, none is longer
pub no_longer_symbol : (w : List ℕ) (c : ℕ) → goes_on w c ≡ false → (z : List ℕ)
    → spells syntactic_token (w ++ (c ∷ z)) ≡ true → ⊥
no_longer_symbol w c n z h =
    true≢false (sym (some_front (w ++ (c ∷ [])) z symbols
    (subst (λ x. spells syntactic_token x ≡ true) (sym (append_assoc w (c ∷ []) z)) h)) ∙ n)

-- ---- the symbols that begin no name, no number and no comment

abbrev pub begins_sign : ℕ → Bool
begins_sign c = is_sign c && (not (c == 95) && (not (c == 46) && (not (c == 47) && not (is_blank c))))

record BeginsSign (c : ℕ) : Type 0 where
  no_name : begins_name c ≡ false
  no_digit : is_ascii_digit c ≡ false
  no_number : begins_number c ≡ false
  no_point : (c == 46) ≡ false
  no_comment : (c == 47) ≡ false
  no_blank : is_blank c ≡ false

sign_parts : (c : ℕ) → begins_sign c ≡ true → BeginsSign c
sign_parts c h =
    let a = and_parts (is_sign c) _ h in
    let b = and_parts (not (c == 95)) _ a.1 in
    let d = and_parts (not (c == 46)) _ b.1 in
    let e = and_parts (not (c == 47)) _ d.1 in
    let point : (c == 46) ≡ false = not-true (c == 46) d.0 in
    let sign : is_sign c ≡ true = a.0 in
    record {
      no_name = sign_no_name c sign (not-true (c == 95) b.0);
      no_digit = grind (arith, nat_tests);
      no_number = sign_no_number c sign point;
      no_point = point;
      no_comment = not-true (c == 47) e.0;
      no_blank = not-true (is_blank c) e.1;
    }

spelled_literal : (w : List ℕ) → spells (literal w) w ≡ true
unfolding begins
spelled_literal [] = refl
spelled_literal (c ∷ []) = rw (eq-eqb c c refl) refl
spelled_literal (c ∷ (d ∷ ds)) = rw (eq-eqb c c refl) (spelled_literal (d ∷ ds))

-- a word that a table has is one of its words
pub looked_up : (es : List (List ℕ × ℕ)) (w : List ℕ) (class : ℕ) → look_up es w ≡ Some class
    → spells (any_of (map (λ (entry : List ℕ × ℕ). entry.0) es)) w ≡ true
unfolding begins
looked_up [] w class h = absurd (cc)
looked_up (e ∷ es) w class h = go (looked_up es w class) (bytes_eq e.0 w) refl h
  where
    go : (look_up es w ≡ Some class → spells (any_of (map (λ (entry : List ℕ × ℕ). entry.0) es)) w ≡ true)
        → (b : Bool) → bytes_eq e.0 w ≡ b → cond b (Some e.1) (look_up es w) ≡ Some class
        → (spells (literal e.0) w || spells (any_of (map (λ (entry : List ℕ × ℕ). entry.0) es)) w) ≡ true
    go more true s k =
        let same : e.0 ≡ w = (bytes_eq-Decides e.0 w).0 s in or_left _ _
        (subst (λ x. spells (literal x) w ≡ true) (sym same) (spelled_literal w))
    go more false s k = or_right _ _ (more k)

pub spelled_symbol : (w : List ℕ) → spells syntactic_token w ≡ true → spells spelling w ≡ true
unfolding begins
spelled_symbol w h = or_right (spells identifier w) _ (or_right (spells number_spelling w) _ h)

-- the spelling of a symbol
sign_spelling : (c : ℕ) (cs : List ℕ) (class : ℕ) → begins_sign c ≡ true
    → look_up symbols (c ∷ cs) ≡ Some class → IsSpelling (plain class) (c ∷ cs)
sign_spelling c cs class b l =
    let parts = sign_parts c b in
    record {
      spelled = spelled_symbol (c ∷ cs) (looked_up symbols (c ∷ cs) class l);
      valued = rw (parts.no_name, parts.no_digit, parts.no_point) (ap (option_map plain) l);
      begins = (parts.no_blank, parts.no_comment);
    }

-- which spelling a word is
pub one_of_three : {X : Type 0} (w : List ℕ) → spells spelling w ≡ true → (spells identifier w ≡ true → X)
    → (spells number_spelling w ≡ true → X) → (spells syntactic_token w ≡ true → X) → X
unfolding begins
one_of_three w h f g k = by_either (spells identifier w) _ h f (λ e. by_either (spells number_spelling w) _ e g k)

sign_ends : (c : ℕ) (cs : List ℕ) (d : ℕ) → begins_name c ≡ false → begins_number c ≡ false
    → goes_on (c ∷ cs) d ≡ false → EndsAt (c ∷ cs) d
sign_ends c cs d b m n z h =
    one_of_three ((c ∷ cs) ++ (d ∷ z)) h
    (λ e. true≢false (sym (spelled_first begins_name identifier identifier_begins c (cs ++ (d ∷ z)) e) ∙ b))
    (λ e. true≢false (sym (spelled_first begins_number number_spelling number_begins c (cs ++ (d ∷ z)) e) ∙ m))
    (λ e. no_longer_symbol (c ∷ cs) d n z e)

-- no symbol goes on with the first character of a rest
abbrev pub NotOn : List ℕ → List ℕ → Type 0
NotOn w [] = Unit {0}
NotOn w (d ∷ ds) = goes_on w d ≡ false

pub sign_ends_before : (c : ℕ) (cs rest : List ℕ) → begins_name c ≡ false → begins_number c ≡ false
    → NotOn (c ∷ cs) rest → EndsBefore (c ∷ cs) rest
sign_ends_before c cs [] b m n = tt
sign_ends_before c cs (d ∷ ds) b m n = sign_ends c cs d b m n

-- a symbol is the token at the front
pub sign_stands : (c : ℕ) (cs : List ℕ) (class : ℕ) (rest : List ℕ) → begins_sign c ≡ true
    → look_up symbols (c ∷ cs) ≡ Some class → NotOn (c ∷ cs) rest → Stands (c ∷ cs) (plain class) rest
sign_stands c cs class rest b l n =
    let parts = sign_parts c b in spelling_stands (plain class) (c ∷ cs) rest
    (sign_spelling c cs class b l) (sign_ends_before c cs rest parts.no_name parts.no_number n)

-- ---- characters with which no symbol goes on

-- `&`, `=`, `>`, `<`, `-`, `|` or `+`
abbrev pub is_operator : ℕ → Bool
is_operator c = (((((c == 38 || c == 61) || c == 62) || c == 60) || c == 45) || c == 124) || c == 43

abbrev all_operators : List ℕ → Bool
all_operators [] = true
all_operators (c ∷ cs) = is_operator c && all_operators cs

-- each symbol is one character, or goes on with these
abbrev go_on_with_operators : List (List ℕ × ℕ) → Bool
go_on_with_operators [] = true
go_on_with_operators (e ∷ es) = all_operators (drop 1 e.0) && go_on_with_operators es

no_front : (xs ys : List ℕ) (c : ℕ) → is_operator c ≡ false → all_operators ys ≡ true
    → is_front (xs ++ (c ∷ [])) ys ≡ false
no_front [] [] c n h = refl
no_front [] (y ∷ ys) c n h =
    let here : is_operator y ≡ true = (and_parts (is_operator y) (all_operators ys) h).0 in
    rw (false_from_ne_true (c == y)
    (λ e. (let same : c ≡ y = eqb-true c y e in true≢false (sym here ∙ sym (ap is_operator same) ∙ n)))) refl
no_front (x ∷ xs) [] c n h = refl
no_front (x ∷ xs) (y ∷ ys) c n h =
    rw (no_front xs ys c n (and_parts (is_operator y) (all_operators ys) h).1) (and_false (x == y))
  where
    and_false : (b : Bool) → (b && false) ≡ false
    and_false true = refl
    and_false false = refl

no_front_after : (x : ℕ) (xs : List ℕ) (w : List ℕ) (c : ℕ) → is_operator c ≡ false
    → all_operators (drop 1 w) ≡ true → is_front ((x ∷ xs) ++ (c ∷ [])) w ≡ false
no_front_after x xs [] c n h = refl
no_front_after x xs (y ∷ ys) c n h = rw (no_front xs ys c n h) (and_false (x == y))
  where
    and_false : (b : Bool) → (b && false) ≡ false
    and_false true = refl
    and_false false = refl

none_goes_on : (x : ℕ) (xs : List ℕ) (c : ℕ) (es : List (List ℕ × ℕ)) → is_operator c ≡ false
    → go_on_with_operators es ≡ true → is_some_front ((x ∷ xs) ++ (c ∷ [])) es ≡ false
none_goes_on x xs c [] n h = refl
none_goes_on x xs c (e ∷ es) n h =
    let parts = and_parts (all_operators (drop 1 e.0)) (go_on_with_operators es) h in
    rw (no_front_after x xs e.0 c n parts.0) (none_goes_on x xs c es n parts.1)

pub goes_on-no_operator : (x : ℕ) (xs : List ℕ) (c : ℕ) → is_operator c ≡ false → goes_on (x ∷ xs) c ≡ false
goes_on-no_operator x xs c n = none_goes_on x xs c symbols n refl

-- what begins a name or a number is no operator
pub name_no_operator : (c : ℕ) → begins_name c ≡ true → is_operator c ≡ false
name_no_operator c h = false_from_ne_true (is_operator c) (λ o.
    (let sign : is_sign c ≡ true = grind (arith, nat_tests) in
    let none : (c == 95) ≡ false = grind (arith, nat_tests) in
    true≢false (sym h ∙ sign_no_name c sign none)))

pub number_no_operator : (c : ℕ) → begins_number c ≡ true → is_operator c ≡ false
number_no_operator c h = false_from_ne_true (is_operator c) (λ o.
    (let sign : is_sign c ≡ true = grind (arith, nat_tests) in
    let none : (c == 46) ≡ false = grind (arith, nat_tests) in
    true≢false (sym h ∙ sign_no_number c sign none)))
