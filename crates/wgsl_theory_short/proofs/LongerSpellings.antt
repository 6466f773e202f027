-- A name is longer with a character of names, a whole number without suffix with `.`, and a symbol
-- with each character that it goes on with.
use Rattle.std.proofs.Common.{◌≡◌, ℕ, ◌<◌, ◌==◌, ◌&&◌, ◌||◌, not, Bool, true, false, cond, refl, sym, ap, subst, ◌∙◌, List, [], ◌∷◌, ◌++◌, Some, arith}
use Rattle.std.specs.Char.{is_ascii_digit, is_ascii_hexdigit, is_ascii_alphabetic}
use Rattle.std.proofs.lemmas.Bool.{true≢false, and_parts, and_from, or_left, or_right, eqb-true}
use Rattle.std.proofs.lemmas.Bool.Decides.{nat_tests}
use Rattle.unicode_ident.specs.Ident.{is_xid_start, is_xid_continue}
use Rattle.unicode_ident.proofs.IdentLemmas.{is_xid_start-ascii}
use Rattle.grammar.specs.Grammar.{is_among}
use Rattle.grammar.specs.Tables.{is_empty}
use Rattle.wgsl_model.specs.Tokens.ClassTable.{SymForwardSlash, SymPeriod, symbols}
use Rattle.wgsl_model.specs.Tokens.Numbers as numbers
use Rattle.wgsl_model.specs.Tokens.Numbers.{is_nonzero_digit, is_x, is_e, is_p, decimal_number, whole_number, i_suffix, u_suffix, abstract_float, number_spelling}
use Rattle.wgsl_model.specs.Tokens.Pattern.{Pattern, empty, one, any, both, begins, begins_any, spells}
use Rattle.wgsl_model.specs.Tokens.Spelling.{identifier, syntactic_token, spelling}
use Rattle.wgsl_model.specs.Tokens.Words.{look_up}
use Rattle.wgsl_theory_grammar.proofs.Tokens.Symbols.{each_passes, found_passes}
use Rattle.wgsl_theory_printed.proofs.Spelling.Split.{Each, by_either, spelled_each}
use Rattle.wgsl_theory_printed.proofs.Spelling.Fronts.{spelled_first}
use Rattle.wgsl_theory_printed.proofs.Spelling.Signs.{is_sign, begins_name, begins_number, number_begins, symbol_begins, one_of_three, spelled_symbol}
use Rattle.wgsl_theory_printed.proofs.Spelling.Ends.{name_no_number, name_no_symbol}
use Rattle.wgsl_model_short.specs.Spaces.{continued_by}

-- ---- names

any_more : (p : ℕ → Bool) (ws : List ℕ) (x : ℕ) → begins_any p is_empty ws ≡ true → p x ≡ true
    → begins_any p is_empty (ws ++ (x ∷ [])) ≡ true
unfolding begins_any
any_more p [] x h g = rw g refl
any_more p (c ∷ cs) x h g =
    let parts = and_parts (p c) (begins_any p is_empty cs) h in rw parts.0 (any_more p cs x parts.1 g)

identifier_more : (x : ℕ) (xs : List ℕ) (c : ℕ) → spells identifier (x ∷ xs) ≡ true → is_xid_continue c ≡ true
    → spells identifier ((x ∷ xs) ++ (c ∷ [])) ≡ true
unfolding begins
identifier_more x [] c h g =
    by_either (is_xid_start x && begins_any is_xid_continue is_empty []) _ h
    (λ e. (let parts = and_parts (is_xid_start x) _ e in
    or_left _ _ (and_from (is_xid_start x) _ parts.0 (any_more is_xid_continue [] c parts.1 g))))
    (λ e. absurd (true≢false (sym (and_parts (x == 95) false e).1)))
identifier_more x (y ∷ ys) c h g =
    by_either (is_xid_start x && begins_any is_xid_continue is_empty (y ∷ ys)) _ h
    (λ e. (let parts = and_parts (is_xid_start x) _ e in
    or_left _ _ (and_from (is_xid_start x) _ parts.0 (any_more is_xid_continue (y ∷ ys) c parts.1 g))))
    (λ e. (let parts = and_parts (x == 95) _ e in
    let more = and_parts (is_xid_continue y) _ parts.1 in
    or_right (is_xid_start x && begins_any is_xid_continue is_empty ((y ∷ ys) ++ (c ∷ []))) _
    (and_from (x == 95) _ parts.0 (and_from (is_xid_continue y) _ more.0 (any_more is_xid_continue ys c more.1 g)))))

-- the symbol `_`
underscore_more : (x c : ℕ) → begins_name x ≡ true → is_sign x ≡ true → is_xid_continue c ≡ true
    → spells identifier (x ∷ (c ∷ [])) ≡ true
unfolding begins begins_any
underscore_more x c b s g =
    let low : x < 128 = grind (arith, nat_tests) in
    let letter : is_ascii_alphabetic x ≡ false = grind (arith, nat_tests) in
    let start : is_xid_start x ≡ false = is_xid_start-ascii x low ∙ letter in
    let under : (x == 95) ≡ true = ap (λ t. t || x == 95) (sym start) ∙ b in
    or_right (is_xid_start x && begins_any is_xid_continue is_empty (c ∷ [])) _
    (and_from (x == 95) _ under (rw g refl))

identified : (w : List ℕ) → spells identifier w ≡ true → spells spelling w ≡ true
unfolding begins
identified w h = or_left (spells identifier w) _ h

numbered : (w : List ℕ) → spells number_spelling w ≡ true → spells spelling w ≡ true
unfolding begins
numbered w h = or_right (spells identifier w) _ (or_left (spells number_spelling w) _ h)

pub name_more : (x : ℕ) (xs : List ℕ) (c : ℕ) → begins_name x ≡ true → spells spelling (x ∷ xs) ≡ true
    → is_xid_continue c ≡ true → spells spelling ((x ∷ xs) ++ (c ∷ [])) ≡ true
name_more x xs c b h g =
    one_of_three (x ∷ xs) h (λ e. identified ((x ∷ xs) ++ (c ∷ [])) (identifier_more x xs c e g))
    (λ e. absurd (name_no_number x b (spelled_first begins_number number_spelling number_begins x xs e)))
    (λ e. of_symbol xs e)
  where
    of_symbol : (ys : List ℕ) → spells syntactic_token (x ∷ ys) ≡ true → spells spelling ((x ∷ ys) ++ (c ∷ [])) ≡ true
    of_symbol [] e = identified (x ∷ (c ∷ []))
        (underscore_more x c b (spelled_first is_sign syntactic_token symbol_begins x [] e) g)
    of_symbol (y ∷ ys) e = absurd (name_no_symbol x [] y ys b e)

-- ---- numbers

any_each : (p : ℕ → Bool) (k : List ℕ → Bool) (cs rest : List ℕ) → Each p cs → k rest ≡ true
    → begins_any p k (cs ++ rest) ≡ true
unfolding begins_any
any_each p k [] [] e h = h
any_each p k [] (c ∷ cs) e h = or_left (k (c ∷ cs)) _ h
any_each p k (c ∷ cs) rest e h = or_right (k (c ∷ (cs ++ rest))) _ (rw e.0 (any_each p k cs rest e.1 h))

-- digits and a point
point_after : (p : ℕ → Bool) (t : Pattern) (x : ℕ) (xs : List ℕ) → Each p (x ∷ xs) → begins t is_empty [] ≡ true
    → spells (both (numbers.digits_with_point p) t) ((x ∷ xs) ++ (46 ∷ [])) ≡ true
unfolding begins begins_any
point_after p t x xs e h =
    or_left (p x && begins_any p (begins (both (one (λ c. c == 46)) (any p)) (begins t is_empty)) (xs ++ (46 ∷ []))) _
    (and_from (p x) _ e.0
    (any_each p (begins (both (one (λ c. c == 46)) (any p)) (begins t is_empty)) xs (46 ∷ []) e.1 h))

none_needed : (letter : ℕ → Bool) → begins (numbers.at_most_one (numbers.exponent letter)) is_empty [] ≡ true
unfolding begins
none_needed letter = refl

abstract_number : (w : List ℕ) → spells abstract_float w ≡ true → spells number_spelling w ≡ true
unfolding begins
abstract_number w h = or_right (spells (whole_number empty) w) _ (or_right (spells (whole_number i_suffix) w) _
    (or_right (spells (whole_number u_suffix) w) _ (or_left (spells abstract_float w) _ h)))

decimal_digits : (w : List ℕ) → spells (decimal_number empty) w ≡ true → Each is_ascii_digit w
decimal_digits w h = spelled_each is_ascii_digit (decimal_number empty) (
  ((λ c e. ap is_ascii_digit (eqb-true c 48 e)), tt),
  ((λ c e. (and_parts (is_ascii_digit c) (not (c == 48)) e).0), ((λ c e. e), tt)),
) w h

decimal_point : (x : ℕ) (xs : List ℕ) → Each is_ascii_digit (x ∷ xs)
    → spells abstract_float ((x ∷ xs) ++ (46 ∷ [])) ≡ true
unfolding begins
decimal_point x xs e = or_left _ _
    (point_after is_ascii_digit (numbers.at_most_one (numbers.exponent is_e)) x xs e (none_needed is_e))

hexadecimal_point : (x : ℕ) (xs : List ℕ)
    → spells (numbers.hexadecimal (both (numbers.digits is_ascii_hexdigit) empty)) (x ∷ xs) ≡ true
    → spells abstract_float ((x ∷ xs) ++ (46 ∷ [])) ≡ true
unfolding begins
hexadecimal_point x [] h = absurd (true≢false (sym (and_parts (x == 48) false h).1))
hexadecimal_point x (m ∷ []) h =
    absurd (true≢false (sym (and_parts (is_x m) false (and_parts (x == 48) _ h).1).1))
hexadecimal_point x (m ∷ (d ∷ ds)) h =
    let zero = and_parts (x == 48) _ h in
    let mark = and_parts (is_x m) _ zero.1 in
    let each : Each is_ascii_hexdigit (d ∷ ds) = spelled_each is_ascii_hexdigit
    (both (numbers.digits is_ascii_hexdigit) empty) (((λ c e. e), (λ c e. e)), tt) (d ∷ ds) mark.1 in
    or_right _ _ (or_right _ _
    (and_from (x == 48) _ zero.0 (and_from (is_x m) _ mark.0 (or_left _ _
    (point_after is_ascii_hexdigit (numbers.at_most_one (numbers.exponent is_p)) d ds each (none_needed is_p))))))

whole_point : (x : ℕ) (xs : List ℕ) → spells (whole_number empty) (x ∷ xs) ≡ true
    → spells abstract_float ((x ∷ xs) ++ (46 ∷ [])) ≡ true
unfolding begins
whole_point x xs h =
    by_either (spells (decimal_number empty) (x ∷ xs)) _ h
    (λ e. decimal_point x xs (decimal_digits (x ∷ xs) e)) (λ e. hexadecimal_point x xs e)

pub whole_more : (x : ℕ) (xs : List ℕ) → spells (whole_number empty) (x ∷ xs) ≡ true
    → spells spelling ((x ∷ xs) ++ (46 ∷ [])) ≡ true
whole_more x xs h = numbered ((x ∷ xs) ++ (46 ∷ [])) (abstract_number ((x ∷ xs) ++ (46 ∷ [])) (whole_point x xs h))

-- a point and a digit
point_float : (c : ℕ) → is_ascii_digit c ≡ true → spells abstract_float (46 ∷ (c ∷ [])) ≡ true
unfolding begins begins_any
point_float c d = rw d refl

pub period_more : (c : ℕ) → is_ascii_digit c ≡ true → spells spelling (46 ∷ (c ∷ [])) ≡ true
period_more c d = numbered (46 ∷ (c ∷ [])) (abstract_number (46 ∷ (c ∷ [])) (point_float c d))

-- ---- symbols

-- `.` goes on to a number, and `/` to comments
abbrev pub is_aside : ℕ → Bool
is_aside class = class == SymPeriod || class == SymForwardSlash

abbrev all_longer : List ℕ → ℕ → List ℕ → Bool
all_longer w class [] = true
all_longer w class (c ∷ cs) = (is_aside class || spells syntactic_token (w ++ (c ∷ []))) && all_longer w class cs

all_symbols : each_passes (λ w class. all_longer w class (continued_by class)) symbols ≡ true
unfolding begins
all_symbols = refl

one_longer : (w : List ℕ) (class c : ℕ) (set : List ℕ) → all_longer w class set ≡ true → is_among c set ≡ true
    → (is_aside class || spells syntactic_token (w ++ (c ∷ []))) ≡ true
one_longer w class c [] a h = absurd (true≢false (sym h))
one_longer w class c (d ∷ set) a h = go (c == d) refl h (λ m. one_longer w class c set parts.1 m)
  where
    parts : ((is_aside class || spells syntactic_token (w ++ (d ∷ []))) ≡ true) × (all_longer w class set ≡ true)
    parts = and_parts (is_aside class || spells syntactic_token (w ++ (d ∷ []))) (all_longer w class set) a

    go : (b : Bool) → (c == d) ≡ b → cond b true (is_among c set) ≡ true
        → (is_among c set ≡ true → (is_aside class || spells syntactic_token (w ++ (c ∷ []))) ≡ true)
        → (is_aside class || spells syntactic_token (w ++ (c ∷ []))) ≡ true
    go true e m f = subst (λ y. (is_aside class || spells syntactic_token (w ++ (y ∷ []))) ≡ true)
        (sym (eqb-true c d e)) parts.0
    go false e m f = f m

pub symbol_more : (w : List ℕ) (class c : ℕ) → look_up symbols w ≡ Some class → is_aside class ≡ false
    → is_among c (continued_by class) ≡ true → spells spelling (w ++ (c ∷ [])) ≡ true
symbol_more w class c l n h =
    by_either (is_aside class) (spells syntactic_token (w ++ (c ∷ [])))
    (one_longer w class c (continued_by class)
    (found_passes (λ v k. all_longer v k (continued_by k)) symbols w class all_symbols l) h)
    (λ e. absurd (true≢false (sym e ∙ n))) (λ e. spelled_symbol (w ++ (c ∷ [])) e)
