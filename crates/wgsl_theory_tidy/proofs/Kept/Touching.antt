-- Which tokens may be after one another with nothing between: those that the rules close up.
use Rattle.std.proofs.Common.{◌≡◌, ℕ, ◌==◌, ◌||◌, Bool, true, false, refl, sym, subst, ◌∙◌, List, [], ◌∷◌, ◌++◌, lit<}
use Rattle.std.proofs.lemmas.Bool.{true≢false, eqb-true}
use Rattle.unicode_ident.proofs.IdentLemmas.{is_xid_start-ascii, is_xid_continue-ascii}
use Rattle.wgsl_model.specs.Tokens.Numbers.{number_spelling}
use Rattle.wgsl_model.specs.Tokens.Spelling.{identifier}
use Rattle.wgsl_model.proofs.Tokens.Characters.{other_than}
use Rattle.wgsl_theory_printed.proofs.Spelling.Split.{differs, takes, lets_differs, spelled_each, by_either}
use Rattle.wgsl_theory_printed.proofs.Spelling.Fronts.{spelled_first}
use Rattle.wgsl_theory_printed.proofs.Spelling.Spellings.{EndsAt}
use Rattle.wgsl_theory_printed.proofs.Spelling.Signs.{begins_name, begins_number, identifier_begins, number_begins, no_longer_symbol, one_of_three, sign_ends_before}
use Rattle.wgsl_theory_printed.proofs.Spelling.Ends.{no_such, name_no_number, name_no_symbol, number_ends_before}
use Rattle.wgsl_theory_printed.proofs.Fits.FittingWords.{point_number, no_digit}
use Rattle.wgsl_theory_printed.proofs.Spelling.NoPeriods.{identifier_takes_none}
use Rattle.wgsl_model_tidy.specs.Roles.{Role, begins_operand, wants_operand, name, unsuffixed, number, word, else_word, opening, closing, template_start, template_end, block_start, block_end, comma, semicolon, colon, period, at, minus, ampersand, prefix, binary, assign, step, item_end, attribute}
use Rattle.wgsl_model_tidy.specs.Joints.{closed_up}
use Rattle.wgsl_theory_tidy.proofs.Kept.Alone.{IsAlone, alone_ends, alone_before, paren_left_alone, paren_right_alone, comma_alone, colon_alone, semicolon_alone, at_alone, bracket_left_alone, bracket_right_alone, tilde_alone}

-- ---- with which character a token begins, by what it does

abbrev pub starts : Role → ℕ → Bool
starts name d = begins_name d
starts unsuffixed d = begins_number d
starts number d = begins_number d
starts word d = begins_name d || d == 45
starts else_word d = begins_name d
starts opening d = d == 40 || d == 91
starts closing d = d == 41 || d == 93
starts template_start d = d == 60
starts template_end d = d == 62
starts block_start d = d == 123
starts block_end d = d == 125
starts comma d = d == 44
starts semicolon d = d == 59
starts colon d = d == 58
starts period d = d == 46
starts at d = d == 64
starts minus d = d == 45
starts ampersand d = d == 38
starts prefix d = d == 33 || (d == 126 || d == 42)
starts step d = d == 43 || d == 45
starts role d = true

-- what holds of a character holds of one that is the same
pub at_one : (P : ℕ → Type 0) (d c : ℕ) → (d == c) ≡ true → P c → P d
at_one P d c e h = subst P (sym (eqb-true d c e)) h

at_two : (P : ℕ → Type 0) (d a b : ℕ) → (d == a || d == b) ≡ true → P a → P b → P d
at_two P d a b e h k = by_either (d == a) (d == b) e (λ f. at_one P d a f h) (λ f. at_one P d b f k)

-- ---- after a token of any kind: `,` `;` `:` `)` `]` `(` `[`

tight_ends : (x : ℕ) (xs : List ℕ) (right : Role) (d : ℕ) → closed_up attribute right ≡ true
    → starts right d ≡ true → EndsAt (x ∷ xs) d
tight_ends x xs comma d h s = at_one (EndsAt (x ∷ xs)) d 44 s (alone_ends 44 x xs comma_alone)
tight_ends x xs semicolon d h s = at_one (EndsAt (x ∷ xs)) d 59 s (alone_ends 59 x xs semicolon_alone)
tight_ends x xs colon d h s = at_one (EndsAt (x ∷ xs)) d 58 s (alone_ends 58 x xs colon_alone)
tight_ends x xs closing d h s = at_two (EndsAt (x ∷ xs)) d 41 93 s
    (alone_ends 41 x xs paren_right_alone) (alone_ends 93 x xs bracket_right_alone)
tight_ends x xs opening d h s = at_two (EndsAt (x ∷ xs)) d 40 91 s
    (alone_ends 40 x xs paren_left_alone) (alone_ends 91 x xs bracket_left_alone)
tight_ends x xs right d h s = absurd (true≢false (sym h))

-- ---- after a name, a keyword or `_`

name_ends : (x : ℕ) (xs : List ℕ) (d : ℕ) → begins_name x ≡ true → takes d identifier ≡ false → EndsAt (x ∷ xs) d
name_ends x xs d b e z h =
    one_of_three ((x ∷ xs) ++ (d ∷ z)) h
    (λ k. no_such d (x ∷ xs) z
    (spelled_each (differs d) identifier (lets_differs d identifier e) ((x ∷ xs) ++ (d ∷ z)) k))
    (λ k. name_no_number x b (spelled_first begins_number number_spelling number_begins x (xs ++ (d ∷ z)) k))
    (λ k. name_no_symbol x xs d z b k)

less_ends : takes 60 identifier ≡ false
less_ends = rw (is_xid_start-ascii 60 (lit< tt), is_xid_continue-ascii 60 (lit< tt)) refl

greater_ends : takes 62 identifier ≡ false
greater_ends = rw (is_xid_start-ascii 62 (lit< tt), is_xid_continue-ascii 62 (lit< tt)) refl

plus_ends : takes 43 identifier ≡ false
plus_ends = rw (is_xid_start-ascii 43 (lit< tt), is_xid_continue-ascii 43 (lit< tt)) refl

minus_ends : takes 45 identifier ≡ false
minus_ends = rw (is_xid_start-ascii 45 (lit< tt), is_xid_continue-ascii 45 (lit< tt)) refl

after_name : (x : ℕ) (xs : List ℕ) → begins_name x ≡ true → (right : Role) (d : ℕ)
    → closed_up name right ≡ true → starts right d ≡ true → EndsAt (x ∷ xs) d
after_name x xs b comma d h s = tight_ends x xs comma d refl s
after_name x xs b semicolon d h s = tight_ends x xs semicolon d refl s
after_name x xs b colon d h s = tight_ends x xs colon d refl s
after_name x xs b closing d h s = tight_ends x xs closing d refl s
after_name x xs b opening d h s = tight_ends x xs opening d refl s
after_name x xs b template_start d h s = at_one (EndsAt (x ∷ xs)) d 60 s (name_ends x xs 60 b less_ends)
after_name x xs b template_end d h s = at_one (EndsAt (x ∷ xs)) d 62 s (name_ends x xs 62 b greater_ends)
after_name x xs b period d h s = at_one (EndsAt (x ∷ xs)) d 46 s (name_ends x xs 46 b identifier_takes_none)
after_name x xs b step d h s = at_two (EndsAt (x ∷ xs)) d 43 45 s (name_ends x xs 43 b plus_ends)
    (name_ends x xs 45 b minus_ends)
after_name x xs b right d h s = absurd (true≢false (sym h))

-- another word: what is closed up after it is closed up after a name
word_is_closed_up : (right : Role) → closed_up word right ≡ true → closed_up name right ≡ true
word_is_closed_up comma h = refl
word_is_closed_up semicolon h = refl
word_is_closed_up colon h = refl
word_is_closed_up closing h = refl
word_is_closed_up template_start h = refl
word_is_closed_up right h = absurd (true≢false (sym h))

else_is_closed_up : (right : Role) → closed_up else_word right ≡ true → closed_up name right ≡ true
else_is_closed_up comma h = refl
else_is_closed_up semicolon h = refl
else_is_closed_up colon h = refl
else_is_closed_up closing h = refl
else_is_closed_up right h = absurd (true≢false (sym h))

-- ---- after a number

after_unsuffixed : (x : ℕ) (xs : List ℕ) → begins_number x ≡ true → (right : Role) (d : ℕ)
    → closed_up unsuffixed right ≡ true → starts right d ≡ true → EndsAt (x ∷ xs) d
after_unsuffixed x xs b comma d h s = tight_ends x xs comma d refl s
after_unsuffixed x xs b semicolon d h s = tight_ends x xs semicolon d refl s
after_unsuffixed x xs b colon d h s = tight_ends x xs colon d refl s
after_unsuffixed x xs b closing d h s = tight_ends x xs closing d refl s
after_unsuffixed x xs b opening d h s = tight_ends x xs opening d refl s
after_unsuffixed x xs b template_end d h s = at_one (EndsAt (x ∷ xs)) d 62 s (number_ends_before x xs (62 ∷ []) b refl)
after_unsuffixed x xs b right d h s = absurd (true≢false (sym h))

-- one that no `.` goes on with
after_number : (x : ℕ) (xs : List ℕ) → begins_number x ≡ true → EndsAt (x ∷ xs) 46
    → (right : Role) (d : ℕ) → closed_up number right ≡ true → starts right d ≡ true → EndsAt (x ∷ xs) d
after_number x xs b p period d h s = at_one (EndsAt (x ∷ xs)) d 46 s p
after_number x xs b p comma d h s = tight_ends x xs comma d refl s
after_number x xs b p semicolon d h s = tight_ends x xs semicolon d refl s
after_number x xs b p colon d h s = tight_ends x xs colon d refl s
after_number x xs b p closing d h s = tight_ends x xs closing d refl s
after_number x xs b p opening d h s = tight_ends x xs opening d refl s
after_number x xs b p template_end d h s = at_one (EndsAt (x ∷ xs)) d 62 s (number_ends_before x xs (62 ∷ []) b refl)
after_number x xs b p right d h s = absurd (true≢false (sym h))

-- ---- after a sign before an operand

-- a character with which no name and no number begins is not the first of one
not_first : (f : ℕ → Bool) (d k : ℕ) → f d ≡ true → f k ≡ false → (d == k) ≡ false
not_first f d k h e = other_than f d h k e

equal_no_name : begins_name 61 ≡ false
equal_no_name = rw (is_xid_start-ascii 61 (lit< tt)) refl

greater_no_name : begins_name 62 ≡ false
greater_no_name = rw (is_xid_start-ascii 62 (lit< tt)) refl

pub less_no_name : begins_name 60 ≡ false
less_no_name = rw (is_xid_start-ascii 60 (lit< tt)) refl

minus_no_name : begins_name 45 ≡ false
minus_no_name = rw (is_xid_start-ascii 45 (lit< tt)) refl

pub slash_no_name : begins_name 47 ≡ false
slash_no_name = rw (is_xid_start-ascii 47 (lit< tt)) refl

and_no_name : begins_name 38 ≡ false
and_no_name = rw (is_xid_start-ascii 38 (lit< tt)) refl

bang_no_name : begins_name 33 ≡ false
bang_no_name = rw (is_xid_start-ascii 33 (lit< tt)) refl

star_no_name : begins_name 42 ≡ false
star_no_name = rw (is_xid_start-ascii 42 (lit< tt)) refl

plus_no_name : begins_name 43 ≡ false
plus_no_name = rw (is_xid_start-ascii 43 (lit< tt)) refl

-- the first character of an operand joins no sign but `-` and `&`
record JoinsNothing (d : ℕ) : Type 0 where
  pub equal : (d == 61) ≡ false
  pub greater : (d == 62) ≡ false
  pub less : (d == 60) ≡ false

name_joins : (d : ℕ) → begins_name d ≡ true → JoinsNothing d
name_joins d h = record {
  equal = not_first begins_name d 61 h equal_no_name;
  greater = not_first begins_name d 62 h greater_no_name;
  less = not_first begins_name d 60 h less_no_name;
}

test_joins : (f : ℕ → Bool) (d : ℕ) → f d ≡ true → f 61 ≡ false → f 62 ≡ false → f 60 ≡ false → JoinsNothing d
test_joins f d h e g l =
    record { equal = not_first f d 61 h e; greater = not_first f d 62 h g; less = not_first f d 60 h l }

less_touches : (d : ℕ) → JoinsNothing d → EndsAt (60 ∷ []) d
less_touches d j = sign_ends_before 60 [] (d ∷ []) less_no_name refl (rw (j.equal, j.less) refl)

minus_touches : (d : ℕ) → JoinsNothing d → (d == 45) ≡ false → EndsAt (45 ∷ []) d
minus_touches d j m = sign_ends_before 45 [] (d ∷ []) minus_no_name refl (rw (j.equal, j.greater, m) refl)

and_touches : (d : ℕ) → JoinsNothing d → (d == 38) ≡ false → EndsAt (38 ∷ []) d
and_touches d j m = sign_ends_before 38 [] (d ∷ []) and_no_name refl (rw (j.equal, m) refl)

bang_touches : (d : ℕ) → JoinsNothing d → EndsAt (33 ∷ []) d
bang_touches d j = sign_ends_before 33 [] (d ∷ []) bang_no_name refl (rw j.equal refl)

star_touches : (d : ℕ) → JoinsNothing d → EndsAt (42 ∷ []) d
star_touches d j = sign_ends_before 42 [] (d ∷ []) star_no_name refl (rw j.equal refl)

plus_plus_touches : (d : ℕ) → EndsAt (43 ∷ (43 ∷ [])) d
plus_plus_touches d = sign_ends_before 43 (43 ∷ []) (d ∷ []) plus_no_name refl refl

minus_minus_touches : (d : ℕ) → EndsAt (45 ∷ (45 ∷ [])) d
minus_minus_touches d = sign_ends_before 45 (45 ∷ []) (d ∷ []) minus_no_name refl refl

-- ---- after each role

-- the first character of an operand
joins : (right : Role) (d : ℕ) → begins_operand right ≡ true → starts right d ≡ true → JoinsNothing d
joins name d h s = name_joins d s
joins unsuffixed d h s = test_joins begins_number d s refl refl refl
joins number d h s = test_joins begins_number d s refl refl refl
joins opening d h s = test_joins (λ x. x == 40 || x == 91) d s refl refl refl
joins minus d h s = test_joins (λ x. x == 45) d s refl refl refl
joins ampersand d h s = test_joins (λ x. x == 38) d s refl refl refl
joins prefix d h s = test_joins (λ x. x == 33 || (x == 126 || x == 42)) d s refl refl refl
joins right d h s = absurd (true≢false (sym h))

-- what is close after `-` does not begin with it, and so with `&`
no_minus : (right : Role) → closed_up minus right ≡ true → starts right 45 ≡ false
no_minus name h = minus_no_name
no_minus right h = cc

no_and : (right : Role) → closed_up ampersand right ≡ true → starts right 38 ≡ false
no_and name h = and_no_name
no_and right h = cc

-- an operand, or what nothing is before
data Follows (right : Role) : Type 0 where
  operand : begins_operand right ≡ true → Follows right
  tight : closed_up attribute right ≡ true → Follows right

after_sign : (left right : Role) → wants_operand left ≡ true → closed_up left right ≡ true → Follows right
after_sign left comma w h = tight refl
after_sign left semicolon w h = tight refl
after_sign left colon w h = tight refl
after_sign left closing w h = tight refl
after_sign left name w h = operand refl
after_sign left unsuffixed w h = operand refl
after_sign left number w h = operand refl
after_sign left opening w h = operand refl
after_sign left minus w h = operand refl
after_sign left ampersand w h = operand refl
after_sign left prefix w h = operand refl
after_sign template_start right w h = absurd (true≢false (sym h))
after_sign minus right w h = absurd (true≢false (sym h))
after_sign ampersand right w h = absurd (true≢false (sym h))
after_sign prefix right w h = absurd (true≢false (sym h))
after_sign left right w h = absurd (true≢false (sym w))

by_follows : (x : ℕ) (xs : List ℕ) (right : Role) (d : ℕ) → starts right d ≡ true → Follows right
    → (JoinsNothing d → EndsAt (x ∷ xs) d) → EndsAt (x ∷ xs) d
by_follows x xs right d s (operand o) f = f (joins right d o s)
by_follows x xs right d s (tight t) f = tight_ends x xs right d t s

after_less : (right : Role) (d : ℕ) → closed_up template_start right ≡ true → starts right d ≡ true
    → EndsAt (60 ∷ []) d
after_less right d h s = by_follows 60 [] right d s (after_sign template_start right refl h) (less_touches d)

after_minus : (right : Role) (d : ℕ) → closed_up minus right ≡ true → starts right d ≡ true → EndsAt (45 ∷ []) d
after_minus right d h s = by_follows 45 [] right d s (after_sign minus right refl h)
    (λ j. minus_touches d j (not_first (starts right) d 45 s (no_minus right h)))

after_and : (right : Role) (d : ℕ) → closed_up ampersand right ≡ true → starts right d ≡ true → EndsAt (38 ∷ []) d
after_and right d h s = by_follows 38 [] right d s (after_sign ampersand right refl h)
    (λ j. and_touches d j (not_first (starts right) d 38 s (no_and right h)))

after_bang : (right : Role) (d : ℕ) → closed_up prefix right ≡ true → starts right d ≡ true → EndsAt (33 ∷ []) d
after_bang right d h s = by_follows 33 [] right d s (after_sign prefix right refl h) (bang_touches d)

after_star : (right : Role) (d : ℕ) → closed_up prefix right ≡ true → starts right d ≡ true → EndsAt (42 ∷ []) d
after_star right d h s = by_follows 42 [] right d s (after_sign prefix right refl h) (star_touches d)

point_ends : (c : ℕ) → begins_name c ≡ true → EndsAt (46 ∷ []) c
point_ends c b z h =
    one_of_three (46 ∷ (c ∷ z)) h
    (λ k. true≢false (sym (spelled_first begins_name identifier identifier_begins 46 (c ∷ z) k)
    ∙ rw (is_xid_start-ascii 46 (lit< tt)) refl))
    (λ k. true≢false (sym k ∙ point_number c z (no_digit c b)))
    (λ k. no_longer_symbol (46 ∷ []) c refl z k)

after_period : (right : Role) (d : ℕ) → closed_up period right ≡ true → starts right d ≡ true → EndsAt (46 ∷ []) d
after_period name d h s = point_ends d s
after_period comma d h s = tight_ends 46 [] comma d refl s
after_period semicolon d h s = tight_ends 46 [] semicolon d refl s
after_period colon d h s = tight_ends 46 [] colon d refl s
after_period closing d h s = tight_ends 46 [] closing d refl s
after_period right d h s = absurd (true≢false (sym h))

arrow_touches : (d : ℕ) → EndsAt (45 ∷ (62 ∷ [])) d
arrow_touches d = sign_ends_before 45 (62 ∷ []) (d ∷ []) minus_no_name refl refl

-- ---- all of it

-- binary operators, the brackets of blocks, `;` and `:`, the ends of statements, members and
-- attributes
abbrev pub is_tight_only : Role → Bool
is_tight_only binary = true
is_tight_only assign = true
is_tight_only block_start = true
is_tight_only block_end = true
is_tight_only semicolon = true
is_tight_only colon = true
is_tight_only item_end = true
is_tight_only attribute = true
is_tight_only role = false

-- after one of these is closed up only what is closed up after a token of any kind
pub tight_only : (left right : Role) → is_tight_only left ≡ true → closed_up left right ≡ true
    → closed_up attribute right ≡ true
tight_only attribute right t h = h
tight_only left comma t h = refl
tight_only left semicolon t h = refl
tight_only left colon t h = refl
tight_only left closing t h = refl
tight_only binary right t h = absurd (true≢false (sym h))
tight_only assign right t h = absurd (true≢false (sym h))
tight_only block_start right t h = absurd (true≢false (sym h))
tight_only block_end right t h = absurd (true≢false (sym h))
tight_only semicolon right t h = absurd (true≢false (sym h))
tight_only colon right t h = absurd (true≢false (sym h))
tight_only item_end right t h = absurd (true≢false (sym h))
tight_only left right t h = absurd (true≢false (sym t))

-- the characters of a token of a role; the `>` of a template list is none, since whatever token
-- it begins, it ends the list
pub data Shaped : Role → List ℕ → Type 0 where
  is_name : (x : ℕ) (xs : List ℕ) → begins_name x ≡ true → Shaped name (x ∷ xs)
  is_word : (x : ℕ) (xs : List ℕ) → begins_name x ≡ true → Shaped word (x ∷ xs)
  is_arrow : Shaped word (45 ∷ (62 ∷ []))
  is_else : (x : ℕ) (xs : List ℕ) → begins_name x ≡ true → Shaped else_word (x ∷ xs)
  is_unsuffixed : (x : ℕ) (xs : List ℕ) → begins_number x ≡ true → Shaped unsuffixed (x ∷ xs)
  is_number : (x : ℕ) (xs : List ℕ) → begins_number x ≡ true → EndsAt (x ∷ xs) 46 → Shaped number (x ∷ xs)
  is_opening : (c : ℕ) → IsAlone c → Shaped opening (c ∷ [])
  is_closing : (c : ℕ) → IsAlone c → Shaped closing (c ∷ [])
  is_comma : Shaped comma (44 ∷ [])
  is_at : Shaped at (64 ∷ [])
  is_less : Shaped template_start (60 ∷ [])
  is_minus : Shaped minus (45 ∷ [])
  is_and : Shaped ampersand (38 ∷ [])
  is_bang : Shaped prefix (33 ∷ [])
  is_star : Shaped prefix (42 ∷ [])
  is_tilde : Shaped prefix (126 ∷ [])
  is_plus_plus : Shaped step (43 ∷ (43 ∷ []))
  is_minus_minus : Shaped step (45 ∷ (45 ∷ []))
  is_period : Shaped period (46 ∷ [])
  is_other : (left : Role) (x : ℕ) (xs : List ℕ) → is_tight_only left ≡ true → Shaped left (x ∷ xs)

-- No token begins with a token and the first character of another that is closed up after it.
pub touches : (left right : Role) (w : List ℕ) (d : ℕ) → Shaped left w → closed_up left right ≡ true
    → starts right d ≡ true → EndsAt w d
touches left right w d (is_name x xs b) h s = after_name x xs b right d h s
touches left right w d (is_word x xs b) h s = after_name x xs b right d (word_is_closed_up right h) s
touches left right w d (is_arrow) h s = arrow_touches d
touches left right w d (is_else x xs b) h s = after_name x xs b right d (else_is_closed_up right h) s
touches left right w d (is_unsuffixed x xs b) h s = after_unsuffixed x xs b right d h s
touches left right w d (is_number x xs b p) h s = after_number x xs b p right d h s
touches left right w d (is_opening c a) h s = alone_before c d a
touches left right w d (is_closing c a) h s = alone_before c d a
touches left right w d (is_comma) h s = alone_before 44 d comma_alone
touches left right w d (is_at) h s = alone_before 64 d at_alone
touches left right w d (is_less) h s = after_less right d h s
touches left right w d (is_minus) h s = after_minus right d h s
touches left right w d (is_and) h s = after_and right d h s
touches left right w d (is_bang) h s = after_bang right d h s
touches left right w d (is_star) h s = after_star right d h s
touches left right w d (is_tilde) h s = alone_before 126 d tilde_alone
touches left right w d (is_plus_plus) h s = plus_plus_touches d
touches left right w d (is_minus_minus) h s = minus_minus_touches d
touches left right w d (is_period) h s = after_period right d h s
touches left right w d (is_other role x xs t) h s = tight_ends x xs right d (tight_only left right t h) s
