-- A token is not read before a character that its class goes on with, but for a number before a
-- letter or a digit and the `<` of a template list.
use Rattle.std.proofs.Common.{◌≡◌, ℕ, ◌+◌, ◌<◌, ◌≤◌, ◌==◌, ◌&&◌, ◌||◌, not, Bool, true, false, cond, refl, sym, ap, subst, ◌∙◌, List, [], ◌∷◌, ◌++◌, length, length-append, append_assoc, Option, Some, None, lit<, arith}
use Rattle.std.specs.Prelude.{bytes_eq, codes}
use Rattle.std.specs.Char.{is_ascii_digit, is_ascii_alphanumeric}
use Rattle.std.specs.Str.{encode_utf8_all}
use Rattle.std.proofs.lemmas.Bool.{true≢false, and_parts, or_right, eqb-true, false_from_ne_true}
use Rattle.std.proofs.lemmas.Bool.Decides.{nat_tests}
use Rattle.std.proofs.lemmas.Slice.Eq.{bytes_eq-Decides}
use Rattle.unicode_ident.specs.Ident.{is_xid_start, is_xid_continue}
use Rattle.unicode_ident.proofs.IdentLemmas.{is_xid_start-ascii, is_xid_continue-ascii}
use Rattle.grammar.specs.Grammar.{is_among}
use Rattle.grammar.specs.Tables.{is_empty}
use Rattle.wgsl_model.specs.Tokens.ClassTable.{SymForwardSlash, SymDivisionEqual, SymPeriod, AbstractInt, TemplateArgsStart, symbols}
use Rattle.wgsl_model.specs.Tokens.Kind.{Kind, plain}
use Rattle.wgsl_model.specs.Tokens.Numbers.{number_of, whole_number}
use Rattle.wgsl_model.specs.Tokens.Pattern.{empty, spells, after_spelling}
use Rattle.wgsl_model.specs.Tokens.Raw.{Raw.token, front, kind_of_spelling, spelled, raw, raw_at}
use Rattle.wgsl_model.specs.Tokens.Spelling.{spelling, syntactic_token}
use Rattle.wgsl_model.specs.Tokens.Trivia.{outside, in_line, in_block, after_trivia, first_or_zero}
use Rattle.wgsl_model.specs.Tokens.Words.{look_up}
use Rattle.wgsl_theory_grammar.proofs.Tokens.Cuts.{EndsWith, trivia-ends, ends_length}
use Rattle.wgsl_theory_grammar.proofs.Tokens.Symbols.{each_passes, found_passes}
use Rattle.wgsl_theory_printed.proofs.Spelling.Cut.{longest_spelling}
use Rattle.wgsl_theory_printed.proofs.Spelling.Split.{by_either}
use Rattle.wgsl_theory_printed.proofs.Spelling.Fronts.{spelled_first}
use Rattle.wgsl_theory_printed.proofs.Spelling.Signs.{is_sign, symbol_begins, begins_name, begins_number, looked_up, spelled_symbol}
use Rattle.wgsl_theory_printed.proofs.Spelling.Spellings.{IsSpelling}
use Rattle.wgsl_theory_tidy.proofs.Kept.LaidTokens.{token_here}
use Rattle.wgsl_theory_tidy.proofs.Kept.Readings.{IsToken, is_word, is_start, is_end, is_slash, is_slash_equal}
use Rattle.wgsl_theory_tidy.proofs.Kept.TokenRoles.{token_starts}
use Rattle.wgsl_theory_tidy.proofs.Kept.TokenTexts.{valued_from}
use Rattle.wgsl_model_short.specs.Spaces.{is_word_or_number, continued_by, goes_on}
use Rattle.wgsl_theory_short.proofs.LongerSpellings.{name_more, whole_more, period_more, symbol_more}
use Rattle.wgsl_theory_short.proofs.TokenShapes.{Shape, a_name, a_number, a_sign, shape, name_class, number_class}
use Rattle.wgsl_theory_short.proofs.WrittenBeside.{numbers, words_and_numbers, less_and_equal}

-- ---- the longest spelling is the token

longer_read : (c : ℕ) (cs u other tail : List ℕ) (k : Kind) → c ∷ cs ≡ other ++ tail
    → spells spelling other ≡ true → length (c ∷ cs) < length other + length u
    → raw_at (c ∷ cs) ≡ token k (c ∷ cs) u → ⊥
longer_read c cs u other tail k q h l e = go (after_spelling spelling (c ∷ cs)) refl e
  where
    go : (o : Option (List ℕ)) → after_spelling spelling (c ∷ cs) ≡ o
        → spelled (c ∷ cs) cs o ≡ token k (c ∷ cs) u → ⊥
    go None f e = absurd (cc)
    go (Some v) f e =
        let same = (valued_from (kind_of_spelling (front (c ∷ cs) v)) (c ∷ cs) v (c ∷ cs) u k e).1 in
        let found = longest_spelling spelling (c ∷ cs) v f in
        let size : length (c ∷ cs) ≡ length found.0 + length v = ap length found.1.whole ∙ length-append found.0 v in
        let most : length other ≤ length found.0 = found.1.longest other tail q h in
        absurd (omega (arith, size, most, l, ap length same))

not_read : (k : Kind) (w : List ℕ) (x : ℕ) (more : List ℕ) → IsToken k w (x ∷ more)
    → raw (w ++ (x ∷ more)) ≡ token k (w ++ (x ∷ more)) (x ∷ more) → spells spelling (w ++ (x ∷ [])) ≡ true → ⊥
not_read k [] x more i e h = absurd (token_starts false k [] (x ∷ more) i)
not_read k (c ∷ cs) x more i e h =
    longer_read c (cs ++ (x ∷ more)) (x ∷ more) ((c ∷ cs) ++ (x ∷ [])) more k
    (sym (append_assoc (c ∷ cs) (x ∷ []) more)) h
    (omega (arith, length-append cs (x ∷ more), length-append cs (x ∷ [])))
    (ap raw_at (sym (token_here k (c ∷ cs) (x ∷ more) i)) ∙ e)

-- ---- words, numbers and symbols

either_way : (k : ℕ) (x : ℕ) → goes_on k x ≡ true → {X : Type 0} → (is_xid_continue x ≡ true → X)
    → (is_among x (continued_by k) ≡ true → X) → X
either_way k x h f g = by_either (is_word_or_number k && is_xid_continue x) (is_among x (continued_by k)) h
    (λ e. f (and_parts (is_word_or_number k) (is_xid_continue x) e).1) g

nothing_among : (x : ℕ) (set : List ℕ) → is_empty set ≡ true → is_among x set ≡ true → ⊥
nothing_among x [] e h = true≢false (sym h)
nothing_among x (c ∷ set) e h = true≢false (sym e)

-- one character
only_among : (x c : ℕ) → is_among x (c ∷ []) ≡ true → x ≡ c
only_among x c h = go (x == c) refl h
  where
    go : (b : Bool) → (x == c) ≡ b → cond b true false ≡ true → x ≡ c
    go true e f = eqb-true x c e
    go false e f = absurd (true≢false (sym f))

-- the text of `.`, and of the only symbol that is a name
abbrev known_texts : List ℕ → ℕ → Bool
known_texts w class = (not (class == SymPeriod) || bytes_eq w (46 ∷ []))
    && ((not (is_word_or_number class) || bytes_eq w (95 ∷ []))
    && (not (class == SymForwardSlash) || bytes_eq w (47 ∷ [])))

all_known : each_passes known_texts symbols ≡ true
all_known = refl

implied : (a b : Bool) → (not a || b) ≡ true → a ≡ true → b ≡ true
implied true b h e = h
implied false b h e = absurd (true≢false (sym e))

period_digit : (c : ℕ) → is_among c (continued_by SymPeriod) ≡ true → is_ascii_digit c ≡ true
period_digit c m = grind (arith, nat_tests)

pub whole_is : (w : List ℕ) (k : Kind) → number_of w ≡ Some k → (k.class == AbstractInt) ≡ true
    → spells (whole_number empty) w ≡ true
whole_is w k v e = go (spells (whole_number empty) w) refl
  where
    go : (b : Bool) → spells (whole_number empty) w ≡ b → spells (whole_number empty) w ≡ true
    go true f = f
    go false f = absurd (true≢false (sym (number_class (λ c. not (c == AbstractInt)) w
        (λ t. absurd (true≢false (sym t ∙ f))) refl refl refl refl refl k v) ∙ ap not e))

-- what goes on with a spelling is a longer one
longer_spelling : (k : Kind) (y : ℕ) (ys : List ℕ) (x : ℕ) → IsSpelling k (y ∷ ys) → goes_on k.class x ≡ true
    → (is_among k.class numbers ≡ true → is_xid_continue x ≡ true → ⊥)
    → spells spelling ((y ∷ ys) ++ (x ∷ [])) ≡ true
longer_spelling k y ys x s h n = go (shape k y ys s)
  where
    of_symbol : (class : ℕ) → begins_name y ≡ false → look_up symbols (y ∷ ys) ≡ Some class
        → goes_on class x ≡ true → spells spelling ((y ∷ ys) ++ (x ∷ [])) ≡ true
    of_symbol class b l g =
        let known = found_passes known_texts symbols (y ∷ ys) class all_known l in
        let first = and_parts (not (class == SymPeriod) || bytes_eq (y ∷ ys) (46 ∷ [])) _ known in
        let second = and_parts (not (is_word_or_number class) || bytes_eq (y ∷ ys) (95 ∷ [])) _ first.1 in
        let no_word : is_word_or_number class ≡ true → ⊥ = λ e.
        (let same : y ∷ ys ≡ 95 ∷ [] =
        (bytes_eq-Decides (y ∷ ys) (95 ∷ [])).0 (implied (is_word_or_number class) _ second.0 e) in
        let head : y ≡ 95 = cc in
        true≢false (sym (or_right (is_xid_start 95) (95 == 95) refl) ∙ ap begins_name (sym head) ∙ b)) in
        let no_slash : (class == SymForwardSlash) ≡ false = false_from_ne_true (class == SymForwardSlash) (λ e.
        (let same : y ∷ ys ≡ 47 ∷ [] =
        (bytes_eq-Decides (y ∷ ys) (47 ∷ [])).0 (implied (class == SymForwardSlash) _ second.1 e) in
        let head : y ≡ 47 = cc in
        true≢false (sym (ap (λ c. c == 47) head) ∙ s.begins.1))) in
        by_either (is_word_or_number class && is_xid_continue x) (is_among x (continued_by class)) g
        (λ e. absurd (no_word (and_parts (is_word_or_number class) (is_xid_continue x) e).0))
        (λ m. by_period (class == SymPeriod) refl first.0 no_slash m)
      where
        by_period : (b : Bool) → (class == SymPeriod) ≡ b
            → (not (class == SymPeriod) || bytes_eq (y ∷ ys) (46 ∷ [])) ≡ true
            → (class == SymForwardSlash) ≡ false → is_among x (continued_by class) ≡ true
            → spells spelling ((y ∷ ys) ++ (x ∷ [])) ≡ true
        by_period true e f g m =
            let same = (bytes_eq-Decides (y ∷ ys) (46 ∷ [])).0 (implied (class == SymPeriod) _ f e) in
            subst (λ w. spells spelling (w ++ (x ∷ [])) ≡ true) (sym same) (period_more x (period_digit x
            (subst (λ c. is_among x (continued_by c) ≡ true) (eqb-true class SymPeriod e) m)))
        by_period false e f g m = symbol_more (y ∷ ys) class x l (rw (e, g) refl) m

    go : Shape k y ys → spells spelling ((y ∷ ys) ++ (x ∷ [])) ≡ true
    go (a_name b e) = either_way k.class x h (λ g. name_more y ys x b s.spelled g)
        (λ m. absurd (nothing_among x (continued_by k.class)
        (name_class (λ c. is_empty (continued_by c)) refl refl refl refl (encode_utf8_all (y ∷ ys)) k e) m))
    go (a_number b w v) = either_way k.class x h
        (λ g. absurd (n (number_class (λ c. is_among c numbers) (y ∷ ys) (λ _. refl) refl refl refl refl refl k v) g))
        (λ m. by_either (k.class == AbstractInt) (is_empty (continued_by k.class))
        (number_class (λ c. c == AbstractInt || is_empty (continued_by c)) (y ∷ ys) (λ _. refl)
        refl refl refl refl refl k v)
        (λ e. subst (λ c. spells spelling ((y ∷ ys) ++ (c ∷ [])) ≡ true)
        (sym (only_among x 46 (subst (λ c. is_among x (continued_by c) ≡ true) (eqb-true k.class AbstractInt e) m)))
        (whole_more y ys (whole_is (y ∷ ys) k v e)))
        (λ e. absurd (nothing_among x (continued_by k.class) e m)))
    go (a_sign class b d l e) = of_symbol class b l
        (subst (λ (kind : Kind). goes_on kind.class x ≡ true) (sym e) h)

-- ---- `/` and comments

line_gone : (more : List ℕ) → after_trivia outside (47 ∷ (47 ∷ more)) ≡ after_trivia in_line more
unfolding after_trivia
line_gone more = refl

block_gone : (more : List ℕ) → after_trivia outside (47 ∷ (42 ∷ more)) ≡ after_trivia (in_block 0) more
unfolding after_trivia
block_gone more = refl

too_long : (a b : ℕ) (more text : List ℕ) → text ≡ a ∷ (b ∷ more) → EndsWith more text → ⊥
too_long a b more text e h = absurd (omega (arith, ap length e, ends_length more text h))

slash_before : (x : ℕ) (more : List ℕ) → IsToken (plain SymForwardSlash) (47 ∷ []) (x ∷ more)
    → raw (47 ∷ (x ∷ more)) ≡ token (plain SymForwardSlash) (47 ∷ (x ∷ more)) (x ∷ more)
    → is_among x (continued_by SymForwardSlash) ≡ true → ⊥
slash_before x more i e m = go (x == 47) (x == 42) refl refl m
  where
    here : after_trivia outside (47 ∷ (x ∷ more)) ≡ 47 ∷ (x ∷ more)
    here = token_here (plain SymForwardSlash) (47 ∷ []) (x ∷ more) i

    go : (a b : Bool) → (x == 47) ≡ a → (x == 42) ≡ b
        → cond a true (cond b true (is_among x (61 ∷ []))) ≡ true → ⊥
    go true b f g m =
        let same : after_trivia outside (47 ∷ (47 ∷ more)) ≡ 47 ∷ (47 ∷ more) =
        subst (λ c. after_trivia outside (47 ∷ (c ∷ more)) ≡ 47 ∷ (c ∷ more)) (eqb-true x 47 f) here in
        too_long 47 47 more (after_trivia in_line more) (sym (line_gone more) ∙ same) (trivia-ends in_line more)
    go false true f g m =
        let same : after_trivia outside (47 ∷ (42 ∷ more)) ≡ 47 ∷ (42 ∷ more) =
        subst (λ c. after_trivia outside (47 ∷ (c ∷ more)) ≡ 47 ∷ (c ∷ more)) (eqb-true x 42 g) here in
        too_long 47 42 more (after_trivia (in_block 0) more) (sym (block_gone more) ∙ same)
        (trivia-ends (in_block 0) more)
    go false false f g m = not_read (plain SymForwardSlash) (47 ∷ []) x more i e
        (subst (λ c. spells spelling (47 ∷ (c ∷ [])) ≡ true) (sym (only_among x 61 m))
        (spelled_symbol (47 ∷ (61 ∷ [])) (looked_up symbols (47 ∷ (61 ∷ [])) SymDivisionEqual refl)))

-- ---- all of them

pub joins : (k : Kind) (w : List ℕ) (x : ℕ) (more : List ℕ) → IsToken k w (x ∷ more) → goes_on k.class x ≡ true
    → (is_among k.class numbers ≡ true → is_xid_continue x ≡ true → ⊥)
    → (k.class ≡ TemplateArgsStart → is_among x (continued_by TemplateArgsStart) ≡ true → ⊥) → ⊥
joins k [] x more i h n t = token_starts false k [] (x ∷ more) i
joins k (y ∷ ys) x more (is_word kind v rest m s e) h n t =
    not_read k (y ∷ ys) x more (is_word k (y ∷ ys) (x ∷ more) m s e) e (longer_spelling k y ys x s h n)
joins k w x more (is_slash rest e) h n t = slash_before x more (is_slash (x ∷ more) e) e h
joins k w x more (is_slash_equal rest e) h n t = true≢false (sym h)
joins k w x more (is_start rest) h n t = t refl h
joins k w x more (is_end rest) h n t = true≢false (sym h)

-- ---- what a token begins with

pub next_word : (k : Kind) (x : ℕ) (xs more : List ℕ) → IsToken k (x ∷ xs) more → is_xid_continue x ≡ true
    → is_among k.class words_and_numbers ≡ true
next_word k x xs more (is_word kind v rest m s e) h = go (shape k x xs s)
  where
    no_symbol : begins_name x ≡ false → is_sign x ≡ true → ⊥
    no_symbol b g =
        let low : x < 128 = grind (arith, nat_tests) in
        let letter : is_ascii_alphanumeric x ≡ false = grind (arith, nat_tests) in
        let under : (x == 95) ≡ true =
        ap (λ t. t || x == 95) (sym letter) ∙ sym (is_xid_continue-ascii x low) ∙ h in
        true≢false (sym (or_right (is_xid_start x) (x == 95) under) ∙ b)

    go : Shape k x xs → is_among k.class words_and_numbers ≡ true
    go (a_name b e) =
        name_class (λ c. is_among c words_and_numbers) refl refl refl refl (encode_utf8_all (x ∷ xs)) k e
    go (a_number b w v) =
        number_class (λ c. is_among c words_and_numbers) (x ∷ xs) (λ _. refl) refl refl refl refl refl k v
    go (a_sign class b d l e) = absurd (no_symbol b
        (spelled_first is_sign syntactic_token symbol_begins x xs (looked_up symbols (x ∷ xs) class l)))
next_word k x xs more (is_slash rest e) h = absurd (true≢false (sym h ∙ is_xid_continue-ascii 47 (lit< tt)))
next_word k x xs more (is_slash_equal rest e) h = absurd (true≢false (sym h ∙ is_xid_continue-ascii 47 (lit< tt)))
next_word k x xs more (is_start rest) h = absurd (true≢false (sym h ∙ is_xid_continue-ascii 60 (lit< tt)))
next_word k x xs more (is_end rest) h = absurd (true≢false (sym h ∙ is_xid_continue-ascii 62 (lit< tt)))

abbrev is_less_or_equal : List ℕ → ℕ → Bool
is_less_or_equal w class = not (is_among (first_or_zero w) (codes "<=")) || is_among class less_and_equal

all_less : each_passes is_less_or_equal symbols ≡ true
all_less = refl

pub next_less : (k : Kind) (x : ℕ) (xs more : List ℕ) → IsToken k (x ∷ xs) more
    → is_among x (continued_by TemplateArgsStart) ≡ true → is_among k.class less_and_equal ≡ true
next_less k x xs more (is_word kind v rest m s e) h = go (shape k x xs s)
  where
    not_so : (f : ℕ → Bool) → f 60 ≡ false → f 61 ≡ false → f x ≡ true → ⊥
    not_so f a b g = by (x == 60) refl h
      where
        by : (t : Bool) → (x == 60) ≡ t → cond t true (is_among x (61 ∷ [])) ≡ true → ⊥
        by true e m = true≢false (sym g ∙ ap f (eqb-true x 60 e) ∙ a)
        by false e m = true≢false (sym g ∙ ap f (only_among x 61 m) ∙ b)

    go : Shape k x xs → is_among k.class less_and_equal ≡ true
    go (a_name b e) = absurd (not_so begins_name (rw (is_xid_start-ascii 60 (lit< tt)) refl)
        (rw (is_xid_start-ascii 61 (lit< tt)) refl) b)
    go (a_number b w v) = absurd (not_so begins_number refl refl b)
    go (a_sign class b d l e) = subst (λ (kind : Kind). is_among kind.class less_and_equal ≡ true) e
        (implied (is_among x (codes "<=")) _ (found_passes is_less_or_equal symbols (x ∷ xs) class all_less l) h)
next_less k x xs more (is_slash rest e) h = absurd (true≢false (sym h))
next_less k x xs more (is_slash_equal rest e) h = absurd (true≢false (sym h))
next_less k x xs more (is_start rest) h = refl
next_less k x xs more (is_end rest) h = absurd (true≢false (sym h))
