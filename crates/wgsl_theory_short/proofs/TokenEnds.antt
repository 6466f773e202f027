-- A token of a text ends before each character that its class does not go on with.
use Rattle.std.proofs.Common.{◌≡◌, ◌⊎◌, inl, inr, ℕ, ◌==◌, ◌&&◌, ◌||◌, not, Bool, true, false, refl, sym, ap, subst, ◌∙◌, List, [], ◌∷◌, ◌++◌, Some, lit<, arith}
use Rattle.std.specs.Prelude.{nat_lt}
use Rattle.std.specs.Char.{is_ascii_digit, is_ascii_alphanumeric}
use Rattle.std.specs.Str.{encode_utf8_all}
use Rattle.std.proofs.lemmas.Bool.{true≢false, and_parts, eqb-true, false_from_ne_true}
use Rattle.std.proofs.lemmas.Bool.Decides.{nat_tests}
use Rattle.unicode_ident.specs.Ident.{is_xid_start, is_xid_continue}
use Rattle.unicode_ident.proofs.IdentLemmas.{is_xid_start-ascii, is_xid_continue-ascii, is_xid_start-is_xid_continue}
use Rattle.grammar.specs.Grammar.{is_among}
use Rattle.grammar.specs.Tables.{is_empty}
use Rattle.wgsl_model.specs.Tokens.ClassTable.{SymForwardSlash, SymDivisionEqual, SymLessThan, SymPeriod, AbstractInt, TemplateArgsEnd, symbols}
use Rattle.wgsl_model.specs.Tokens.Kind.{Kind, plain}
use Rattle.wgsl_model.specs.Tokens.Numbers as numbers
use Rattle.wgsl_model.specs.Tokens.Numbers.{number_of, number_below, float_of, number_value, without_last, whole_number, i_suffix, u_suffix, f_suffix, h_suffix, abstract_float, float, number_spelling}
use Rattle.wgsl_model.specs.Tokens.Pattern.{spells}
use Rattle.wgsl_model.specs.Tokens.Spelling.{identifier}
use Rattle.wgsl_model.specs.Tokens.Words.{look_up}
use Rattle.wgsl_theory_printed.proofs.Spelling.Split.{Each-last, by_either, or_none, spelled_each, takes, differs, lets_differs}
use Rattle.wgsl_theory_printed.proofs.Spelling.Fronts.{spelled_first}
use Rattle.wgsl_theory_printed.proofs.Spelling.Scalars.{is_numeral, number_lets}
use Rattle.wgsl_theory_printed.proofs.Spelling.Spellings.{IsSpelling, EndsAt}
use Rattle.wgsl_theory_printed.proofs.Spelling.Signs.{begins_name, begins_number, identifier_begins, number_begins, one_of_three}
use Rattle.wgsl_theory_printed.proofs.Spelling.Ends.{no_such, name_no_number, name_no_symbol, number_no_name, number_no_symbol}
use Rattle.wgsl_theory_printed.proofs.Fits.FittingWords.{point_number}
use Rattle.wgsl_theory_printed.proofs.Fits.PointAfter.{no_point_after}
use Rattle.wgsl_theory_tidy.proofs.Kept.Neighbours.{NoComment, PartsAt}
use Rattle.wgsl_theory_tidy.proofs.Kept.Readings.{IsToken, is_word, is_slash as slash_token, is_slash_equal, is_start, is_end}
use Rattle.wgsl_model_short.specs.Spaces.{is_word_or_number, continued_by, goes_on}
use Rattle.wgsl_theory_short.proofs.Numbers.{no_sign_after}
use Rattle.wgsl_theory_short.proofs.TokenShapes.{Shape, a_name, a_number, a_sign, shape, name_class, number_class}
use Rattle.wgsl_theory_short.proofs.SymbolEnds.{symbol_ends}

-- ---- names

-- a character that continues no name is in none
not_taken : (c : ℕ) → is_xid_continue c ≡ false → takes c identifier ≡ false
not_taken c n =
    let start : is_xid_start c ≡ false = false_from_ne_true (is_xid_start c)
    (λ s. true≢false (sym (is_xid_start-is_xid_continue c s) ∙ n)) in
    let other : (c == 95) ≡ false = false_from_ne_true (c == 95)
    (λ e. true≢false (sym (is_xid_continue-ascii 95 (lit< tt)) ∙ ap is_xid_continue (sym (eqb-true c 95 e)) ∙ n)) in
    rw (start, n, other) refl

name_ends : (x : ℕ) (xs : List ℕ) (c : ℕ) → begins_name x ≡ true → is_xid_continue c ≡ false → EndsAt (x ∷ xs) c
name_ends x xs c b n z h =
    one_of_three ((x ∷ xs) ++ (c ∷ z)) h
    (λ k. no_such c (x ∷ xs) z
    (spelled_each (differs c) identifier (lets_differs c identifier (not_taken c n)) ((x ∷ xs) ++ (c ∷ z)) k))
    (λ k. name_no_number x b (spelled_first begins_number number_spelling number_begins x (xs ++ (c ∷ z)) k))
    (λ k. name_no_symbol x xs c z b k)

-- ---- numbers

-- a character of a number is one of words, `.` or a sign
numeral_is : (c : ℕ) → is_numeral c ≡ true → is_xid_continue c ≡ false
    → (numbers.is_sign c || c == 46) ≡ true
numeral_is c h n = go (is_ascii_alphanumeric c) refl
  where
    go : (b : Bool) → is_ascii_alphanumeric c ≡ b → (numbers.is_sign c || c == 46) ≡ true
    go true e =
        let low : nat_lt c 128 ≡ true = grind (arith, nat_tests) in
        absurd (true≢false (sym (is_xid_continue-ascii c (grind (arith, nat_tests)) ∙ rw e refl) ∙ n))
    go false e = grind (arith, nat_tests)

number_ends : (x : ℕ) (xs : List ℕ) (k : Kind) (c : ℕ) → number_of (x ∷ xs) ≡ Some k
    → spells number_spelling (x ∷ xs) ≡ true → begins_number x ≡ true → is_xid_continue c ≡ false
    → is_among c (continued_by k.class) ≡ false → EndsAt (x ∷ xs) c
number_ends x xs k c v w b n m z h =
    one_of_three ((x ∷ xs) ++ (c ∷ z)) h
    (λ s. number_no_name x (xs ++ (c ∷ z)) b s)
    (λ s. by_either (numbers.is_sign c) (c == 46)
    (numeral_is c (Each-last is_numeral (x ∷ xs) (c ∷ z)
    (spelled_each is_numeral number_spelling number_lets ((x ∷ xs) ++ (c ∷ z)) s)).0 n)
    (λ g. no_sign_after (x ∷ xs) z c (λ e. absurd cc) w g s)
    (λ p. at_point (eqb-true c 46 p) s))
    (λ s. number_no_symbol x xs c z b s)
  where
    at_point : c ≡ 46 → spells number_spelling ((x ∷ xs) ++ (c ∷ z)) ≡ true → ⊥
    at_point e s = go (k.class == AbstractInt) refl
      where
        go : (a : Bool) → (k.class == AbstractInt) ≡ a → ⊥
        go true f = true≢false (sym (ap (λ d. is_among d (continued_by AbstractInt)) e)
            ∙ ap (λ class. is_among c (continued_by class)) (sym (eqb-true k.class AbstractInt f)) ∙ m)
        go false f = no_point_after (x ∷ xs) k v f z
            (subst (λ d. spells number_spelling ((x ∷ xs) ++ (d ∷ z)) ≡ true) e s)

-- ---- symbols

-- a symbol that begins no name and is no number
sign_ends : (x : ℕ) (xs : List ℕ) (class c : ℕ) → begins_name x ≡ false
    → (is_ascii_digit x || (x == 46 && not (is_empty xs))) ≡ false → look_up symbols (x ∷ xs) ≡ Some class
    → is_among c (continued_by class) ≡ false → EndsAt (x ∷ xs) c
sign_ends x xs class c b d l n z h =
    one_of_three ((x ∷ xs) ++ (c ∷ z)) h
    (λ s. true≢false (sym (spelled_first begins_name identifier identifier_begins x (xs ++ (c ∷ z)) s) ∙ b))
    (λ s. by_either (is_ascii_digit x) (x == 46)
    (spelled_first begins_number number_spelling number_begins x (xs ++ (c ∷ z)) s)
    (λ e. true≢false (sym e ∙ none.0)) (λ e. at_point xs (eqb-true x 46 e) none.1 l s))
    (λ s. symbol_ends (x ∷ xs) class c z l n s)
  where
    none : (is_ascii_digit x ≡ false) × ((x == 46 && not (is_empty xs)) ≡ false)
    none = or_none (is_ascii_digit x) (x == 46 && not (is_empty xs)) d

    digit_among : (e : ℕ) → is_among e (continued_by SymPeriod) ≡ false → is_ascii_digit e ≡ false
    digit_among e m = grind (arith, nat_tests)

    at_point : (ys : List ℕ) → x ≡ 46 → (x == 46 && not (is_empty ys)) ≡ false
        → look_up symbols (x ∷ ys) ≡ Some class → spells number_spelling ((x ∷ ys) ++ (c ∷ z)) ≡ true → ⊥
    at_point [] e m f s =
        let found : look_up symbols (46 ∷ []) ≡ Some class =
        subst (λ y. look_up symbols (y ∷ []) ≡ Some class) e f in
        let same : SymPeriod ≡ class = cc in
        let digit = digit_among c (ap (λ k. is_among c (continued_by k)) same ∙ n) in
        true≢false (sym (subst (λ y. spells number_spelling (y ∷ (c ∷ z)) ≡ true) e s) ∙ point_number c z digit)
    at_point (y ∷ ys) e m f s = true≢false (sym (rw e refl) ∙ m)

-- ---- all of them

valued_ends : (k : Kind) (x : ℕ) (xs : List ℕ) (c : ℕ) → IsSpelling k (x ∷ xs) → goes_on k.class c ≡ false
    → EndsAt (x ∷ xs) c
valued_ends k x xs c s n = go (shape k x xs s)
  where
    none : ((is_word_or_number k.class && is_xid_continue c) ≡ false) × (is_among c (continued_by k.class) ≡ false)
    none = or_none (is_word_or_number k.class && is_xid_continue c) (is_among c (continued_by k.class)) n

    no_letter : is_word_or_number k.class ≡ true → is_xid_continue c ≡ false
    no_letter w = ap (λ b. b && is_xid_continue c) (sym w) ∙ none.0

    go : Shape k x xs → EndsAt (x ∷ xs) c
    go (a_name b e) = name_ends x xs c b (no_letter
        (name_class is_word_or_number refl refl refl refl (encode_utf8_all (x ∷ xs)) k e))
    go (a_number b w v) = number_ends x xs k c v w b
        (no_letter (number_class is_word_or_number (x ∷ xs) (λ _. refl) refl refl refl refl refl k v)) none.1
    go (a_sign class b d l e) = sign_ends x xs class c b d l
        (subst (λ (kind : Kind). is_among c (continued_by kind.class) ≡ false) (sym e) none.1)

-- `<`, `/` and `/=`
slash_no_name : begins_name 47 ≡ false
slash_no_name = rw (is_xid_start-ascii 47 (lit< tt)) refl

less_no_name : begins_name 60 ≡ false
less_no_name = rw (is_xid_start-ascii 60 (lit< tt)) refl

no_comment : (c : ℕ) → is_among c (continued_by SymForwardSlash) ≡ false → NoComment c
no_comment c n = (other 47 refl, other 42 refl)
  where
    other : (d : ℕ) → is_among d (continued_by SymForwardSlash) ≡ true → (c == d) ≡ false
    other d h = false_from_ne_true (c == d)
        (λ e. true≢false (sym h ∙ ap (λ x. is_among x (continued_by SymForwardSlash)) (sym (eqb-true c d e)) ∙ n))

-- a token that ends a template list ends before everything; every other one so
pub token_ends : (k : Kind) (w rest : List ℕ) (c : ℕ) → IsToken k w rest → goes_on k.class c ≡ false
    → (k ≡ plain TemplateArgsEnd) ⊎ PartsAt w c
token_ends k [] rest c (is_word kind v more m s r) n = absurd s.begins
token_ends k (x ∷ xs) rest c (is_word kind v more m s r) n =
    inr (valued_ends k x xs c s n, λ e. absurd (true≢false (sym (and_parts (x == 47) (is_empty xs) e).0 ∙ s.begins.1)))
token_ends k w rest c (slash_token more r) n =
    let among = (or_none false _ n).1 in
    inr (sign_ends 47 [] SymForwardSlash c slash_no_name refl refl among, λ e. no_comment c among)
token_ends k w rest c (is_slash_equal more r) n =
    inr (
      sign_ends 47 (61 ∷ []) SymDivisionEqual c slash_no_name refl refl (or_none false _ n).1,
      λ e. absurd (true≢false (sym e)),
    )
token_ends k w rest c (is_start more) n =
    inr (sign_ends 60 [] SymLessThan c less_no_name refl refl (or_none false _ n).1, λ e. absurd (true≢false (sym e)))
token_ends k w rest c (is_end more) n = inl refl
