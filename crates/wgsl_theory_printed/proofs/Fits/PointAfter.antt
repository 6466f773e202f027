-- No number but a whole one without suffix goes on with a point.
use Rattle.std.proofs.Common.{◌≡◌, ℕ, ◌^◌, ◌==◌, ◌&&◌, Bool, true, false, cond, not, refl, sym, ap, subst, List, [], ◌∷◌, ◌++◌, Some, None, ◌∙◌, ◌⊎◌, inl, inr, arith, append_assoc}
use Rattle.std.specs.Prelude.{nat_lt, pos}
use Rattle.std.specs.Char.{is_ascii_digit, is_ascii_hexdigit}
use Rattle.std.proofs.lemmas.Bool.{and_parts, and_from, eq-eqb, eqb-true, true≢false, or_left, or_right}
use Rattle.std.proofs.lemmas.Bool.Decides.{nat_tests}
use Rattle.grammar.specs.Tokens.{Payload.number}
use Rattle.grammar.specs.Tables.{is_empty}
use Rattle.wgsl_model.specs.Tokens.ClassTable.{AbstractInt, I32, U32, AbstractFloat, F32, F16}
use Rattle.wgsl_model.specs.Tokens.Kind.{Kind}
use Rattle.wgsl_model.specs.Tokens.Numbers as numbers
use Rattle.wgsl_model.specs.Tokens.Numbers.{is_nonzero_digit, is_x, is_e, is_p, is_sign, whole_number, i_suffix, u_suffix, f_suffix, h_suffix, abstract_float, float, number_spelling, number_of, number_value, without_last, number_below, float_of}
use Rattle.wgsl_model.specs.Tokens.Pattern.{Pattern, nothing, empty, one, any, both, either, begins, begins_any, spells}
use Rattle.wgsl_theory_printed.proofs.Spelling.Split.{Each, Each-append, Lets, Stricter, by_either, spelled_each, takes, differs, lets_differs}
use Rattle.wgsl_theory_printed.proofs.Spelling.Ends.{no_such}

-- ---- spellings taken apart

-- what passes at the end of a spelling passes before more
any_on : (p : ℕ → Bool) (k l : List ℕ → Bool) (more : List ℕ)
    → ((s : List ℕ) → k s ≡ true → l (s ++ more) ≡ true) → (text : List ℕ)
    → begins_any p k text ≡ true → begins_any p l (text ++ more) ≡ true
unfolding begins_any
any_on p k l more h [] e = here (l more) more refl (h [] e)
  where
    here : (b : Bool) (rest : List ℕ) → l rest ≡ b → b ≡ true → begins_any p l rest ≡ true
    here b [] q f = q ∙ f
    here b (c ∷ cs) q f = or_left (l (c ∷ cs)) _ (q ∙ f)
any_on p k l more h (c ∷ cs) e =
    by_either (k (c ∷ cs)) (p c && begins_any p k cs) e
    (λ f. or_left (l (c ∷ (cs ++ more))) _ (h (c ∷ cs) f))
    (λ f. (let parts = and_parts (p c) (begins_any p k cs) f in or_right (l (c ∷ (cs ++ more))) _
    (rw parts.0 (any_on p k l more h cs parts.1))))

begins_on : (p : Pattern) (k l : List ℕ → Bool) (more : List ℕ)
    → ((s : List ℕ) → k s ≡ true → l (s ++ more) ≡ true) → (text : List ℕ) → begins p k text ≡ true
    → begins p l (text ++ more) ≡ true
unfolding begins
begins_on nothing k l more h text e = absurd (true≢false (sym e))
begins_on empty k l more h text e = h text e
begins_on (one p) k l more h [] e = absurd (true≢false (sym e))
begins_on (one p) k l more h (c ∷ cs) e = let parts = and_parts (p c) (k cs) e in rw parts.0 (h cs parts.1)
begins_on (any p) k l more h text e = any_on p k l more h text e
begins_on (both a b) k l more h text e = begins_on a (begins b k) (begins b l) more
    (λ s f. begins_on b k l more h s f) text e
begins_on (either a b) k l more h text e =
    by_either (begins a k text) (begins b k text) e
    (λ f. or_left (begins a l (text ++ more)) _ (begins_on a k l more h text f))
    (λ f. or_right (begins a l (text ++ more)) _ (begins_on b k l more h text f))

-- a spelling at the front, and what passes after it
record Front (p : Pattern) (k : List ℕ → Bool) (text : List ℕ) : Type 0 where
  front : List ℕ
  rest : List ℕ
  whole : text ≡ front ++ rest
  spelled : spells p front ≡ true
  passes : k rest ≡ true

front_any : (p : ℕ → Bool) (k : List ℕ → Bool) (text : List ℕ) → begins_any p k text ≡ true → Front (any p) k text
unfolding begins begins_any
front_any p k [] e = record { front = []; rest = []; whole = refl; spelled = refl; passes = e }
front_any p k (c ∷ cs) e =
    by_either (k (c ∷ cs)) (p c && begins_any p k cs) e
    (λ f. record { front = []; rest = c ∷ cs; whole = refl; spelled = refl; passes = f })
    (λ f. (let parts = and_parts (p c) (begins_any p k cs) f in let more = front_any p k cs parts.1 in
    record {
      front = c ∷ more.front;
      rest = more.rest;
      whole = ap (λ x. c ∷ x) more.whole;
      spelled = and_from (p c) _ parts.0 more.spelled;
      passes = more.passes;
    }))

nil_only : (b : Pattern) (text : List ℕ) → spells b text ≡ true → (s : List ℕ) → is_empty s ≡ true
    → begins b is_empty (s ++ text) ≡ true
nil_only b text h [] e = h
nil_only b text h (c ∷ cs) e = absurd (true≢false (sym e))

begins_front : (p : Pattern) (k : List ℕ → Bool) (text : List ℕ) → begins p k text ≡ true → Front p k text
unfolding begins
begins_front nothing k text e = absurd (true≢false (sym e))
begins_front empty k text e = record { front = []; rest = text; whole = refl; spelled = refl; passes = e }
begins_front (one p) k [] e = absurd (true≢false (sym e))
begins_front (one p) k (c ∷ cs) e =
    let parts = and_parts (p c) (k cs) e in
    record { front = c ∷ []; rest = cs; whole = refl; spelled = rw parts.0 refl; passes = parts.1 }
begins_front (any p) k text e = front_any p k text e
begins_front (both a b) k text e =
    let f = begins_front a (begins b k) text e in
    let g = begins_front b k f.rest f.passes in
    record {
      front = f.front ++ g.front;
      rest = g.rest;
      whole = f.whole ∙ ap (λ x. f.front ++ x) g.whole ∙ sym (append_assoc f.front g.front g.rest);
      spelled = begins_on a is_empty (begins b is_empty) g.front (nil_only b g.front g.spelled) f.front f.spelled;
      passes = g.passes;
    }
begins_front (either a b) k text e = by_either (begins a k text) (begins b k text) e
    (λ h. (let f = begins_front a k text h in record {
      front = f.front;
      rest = f.rest;
      whole = f.whole;
      spelled = or_left (spells a f.front) _ f.spelled;
      passes = f.passes;
    }))
    (λ h. (let f = begins_front b k text h in record {
      front = f.front;
      rest = f.rest;
      whole = f.whole;
      spelled = or_right (spells a f.front) _ f.spelled;
      passes = f.passes;
    }))

one_of_two : {X : Type 0} (a b : Pattern) (text : List ℕ) → spells (either a b) text ≡ true
    → (spells a text ≡ true → X) → (spells b text ≡ true → X) → X
unfolding begins
one_of_two a b text h f g = by_either (spells a text) (spells b text) h f g

-- ---- what is before a character

-- in each spelling with a character, what is before it passes
abbrev Before : (ℕ → Bool) → ℕ → Pattern → Type 0
Before q d nothing = Unit {0}
Before q d empty = Unit {0}
Before q d (one p) = Unit {0}
Before q d (any p) = p d ≡ false
Before q d (both a b) = Before q d a × ((takes d b ≡ false) ⊎ (Lets q a × Before q d b))
Before q d (either a b) = Before q d a × Before q d b

never : (d : ℕ) (p : Pattern) (u z : List ℕ) → takes d p ≡ false → spells p (u ++ (d ∷ z)) ≡ true → ⊥
never d p u z n h = no_such d u z (spelled_each (differs d) p (lets_differs d p n) (u ++ (d ∷ z)) h)

-- two cuts of one text: the character is in the first part or in the second
data Cuts (x y u z : List ℕ) (d : ℕ) : Type 0 where
  in_first : (w : List ℕ) → x ≡ u ++ (d ∷ w) → Cuts x y u z d
  in_second : (v : List ℕ) → u ≡ x ++ v → y ≡ v ++ (d ∷ z) → Cuts x y u z d

cuts : (x y u z : List ℕ) (d : ℕ) → u ++ (d ∷ z) ≡ x ++ y → Cuts x y u z d
cuts [] y u z d e = in_second u refl (sym e)
cuts (c ∷ x) y [] z d e = let head : d ≡ c = cc in in_first x (ap (λ k. k ∷ x) (sym head))
cuts (c ∷ x) y (b ∷ u) z d e = go (cuts x y u z d (cc))
  where
    head : b ≡ c
    head = cc

    go : Cuts x y u z d → Cuts (c ∷ x) y (b ∷ u) z d
    go (in_first w f) = in_first w (ap (λ s. c ∷ s) f ∙ ap (λ k. k ∷ (u ++ (d ∷ w))) (sym head))
    go (in_second v f g) = in_second v (ap (λ s. b ∷ s) f ∙ ap (λ k. k ∷ (x ++ v)) head) g

before_it : (q : ℕ → Bool) (d : ℕ) (p : Pattern) → Before q d p → (u z : List ℕ)
    → spells p (u ++ (d ∷ z)) ≡ true → Each q u
unfolding begins
before_it q d nothing b u z h = absurd (true≢false (sym h))
before_it q d empty b [] z h = tt
before_it q d empty b (c ∷ u) z h = absurd (true≢false (sym h))
before_it q d (one p) b [] z h = tt
before_it q d (one p) b (c ∷ []) z h = absurd (true≢false (sym (and_parts (p c) false h).1))
before_it q d (one p) b (c ∷ (e ∷ u)) z h = absurd (true≢false (sym (and_parts (p c) false h).1))
before_it q d (any p) b u z h = absurd (never d (any p) u z b h)
before_it q d (either a c) b u z h = by_either (spells a (u ++ (d ∷ z))) _ h
    (λ e. before_it q d a b.0 u z e) (λ e. before_it q d c b.1 u z e)
before_it q d (both a c) b u z h = go (before_it q d a b.0 u) (λ v e w. before_it q d c e v w) f
    (cuts f.front f.rest u z d f.whole) b.1
  where
    f : Front a (spells c) (u ++ (d ∷ z))
    f = begins_front a (begins c is_empty) (u ++ (d ∷ z)) h

    go : ((w : List ℕ) → spells a (u ++ (d ∷ w)) ≡ true → Each q u)
        → ((v : List ℕ) → Before q d c → (w : List ℕ) → spells c (v ++ (d ∷ w)) ≡ true → Each q v)
        → (f : Front a (spells c) (u ++ (d ∷ z))) → Cuts f.front f.rest u z d
        → ((takes d c ≡ false) ⊎ (Lets q a × Before q d c)) → Each q u
    go first next f (in_first w e) k = first w (subst (λ x. spells a x ≡ true) e f.spelled)
    go first next f (in_second v e g) (inl n) = absurd (never d c v z n (subst (λ x. spells c x ≡ true) g f.passes))
    go first next f (in_second v e g) (inr k) = subst (Each q) (sym e) (Each-append q f.front v
        (spelled_each q a k.0 f.front f.spelled) (next v k.1 z (subst (λ x. spells c x ≡ true) g f.passes)))

-- ---- a character that passes no test

-- each spelling has a character that does not pass
abbrev Lacks : (ℕ → Bool) → Pattern → Type 0
Lacks q nothing = Unit {0}
Lacks q empty = ⊥
Lacks q (one p) = Stricter p (λ c. not (q c))
Lacks q (any p) = ⊥
Lacks q (both a b) = Lacks q a ⊎ Lacks q b
Lacks q (either a b) = Lacks q a × Lacks q b

each_parts : (q : ℕ → Bool) (u v : List ℕ) → Each q (u ++ v) → Each q u × Each q v
each_parts q [] v h = (tt, h)
each_parts q (c ∷ u) v h = let parts = each_parts q u v h.1 in ((h.0, parts.0), parts.1)

lacking : (q : ℕ → Bool) (p : Pattern) → Lacks q p → (text : List ℕ) → spells p text ≡ true → Each q text → ⊥
unfolding begins
lacking q nothing l text h e = true≢false (sym h)
lacking q empty l text h e = l
lacking q (any p) l text h e = l
lacking q (one p) l [] h e = true≢false (sym h)
lacking q (one p) l (c ∷ cs) h e = true≢false (sym (l c (and_parts (p c) (is_empty cs) h).0) ∙ ap not e.0)
lacking q (either a b) l text h e = by_either (spells a text) (spells b text) h
    (λ k. lacking q a l.0 text k e) (λ k. lacking q b l.1 text k e)
lacking q (both a b) l text h e = go (λ m k. lacking q a m f.front k) (λ m k. lacking q b m f.rest k) l
  where
    f : Front a (spells b) text
    f = begins_front a (begins b is_empty) text h

    parts : Each q f.front × Each q f.rest
    parts = each_parts q f.front f.rest (subst (Each q) f.whole e)

    go : (Lacks q a → spells a f.front ≡ true → Each q f.front → ⊥)
        → (Lacks q b → spells b f.rest ≡ true → Each q f.rest → ⊥) → Lacks q a ⊎ Lacks q b → ⊥
    go first next (inl m) = first m f.spelled parts.0
    go first next (inr m) = next m f.passes parts.1

-- ---- numbers

this_one : (q : ℕ → Bool) (n c : ℕ) → q n ≡ true → (c == n) ≡ true → q c ≡ true
this_one q n c h e = ap q (eqb-true c n e) ∙ h

-- what is before a point in digits with one
point_before : (p : ℕ → Bool) → p 46 ≡ false → Before p 46 (numbers.digits_with_point p)
point_before p n = (((tt, inl n), inr (((λ c h. h), (λ c h. h)), (tt, inl n))), (tt, inl (rw n refl)))

-- digits with a point, or without one, before what has none
fraction_before : (p : ℕ → Bool) (more : Pattern) → p 46 ≡ false → takes 46 more ≡ false
    → Before p 46 (both (numbers.digits_with_point p) more)
fraction_before p more n t = (point_before p n, inl t)

-- a decimal number before a point
decimal_before : (suffix : Pattern) → takes 46 suffix ≡ false
    → Before is_ascii_digit 46 (both (either (numbers.digits_with_point is_ascii_digit)
    (numbers.digits is_ascii_digit)) (both (numbers.at_most_one (numbers.exponent is_e)) suffix))
decimal_before suffix t = ((point_before is_ascii_digit refl, (tt, inl refl)), inl (rw t refl))

-- `0x` and digits
record IsHexadecimal (text : List ℕ) : Type 0 where
  mark : ℕ
  digits : List ℕ
  whole : text ≡ 48 ∷ (mark ∷ digits)
  marked : is_x mark ≡ true
  each : Each is_ascii_hexdigit digits

hexadecimal_before : (p : Pattern) → Before is_ascii_hexdigit 46 p → (u z : List ℕ)
    → spells (numbers.hexadecimal p) (u ++ (46 ∷ z)) ≡ true → IsHexadecimal u
unfolding begins
hexadecimal_before p b [] z h = absurd (true≢false (sym h))
hexadecimal_before p b (c ∷ []) z h = absurd (true≢false (sym (and_parts (c == 48) false h).1))
hexadecimal_before p b (c ∷ (x ∷ v)) z h =
    let zero_first = and_parts (c == 48) _ h in
    let mark_next = and_parts (is_x x) _ zero_first.1 in
    record {
      mark = x;
      digits = v;
      whole = ap (λ d. d ∷ (x ∷ v)) (eqb-true c 48 zero_first.0);
      marked = mark_next.0;
      each = before_it is_ascii_hexdigit 46 p b v z mark_next.1;
    }

whole_never : (suffix : Pattern) → takes 46 suffix ≡ false → (u z : List ℕ)
    → spells (whole_number suffix) (u ++ (46 ∷ z)) ≡ true → ⊥
whole_never suffix t u z h = never 46 (whole_number suffix) u z (rw t refl) h

abbrev IsDigitsOrHexadecimal : List ℕ → Type 0
IsDigitsOrHexadecimal u = Each is_ascii_digit u ⊎ IsHexadecimal u

abstract_before : (u z : List ℕ) → spells abstract_float (u ++ (46 ∷ z)) ≡ true → IsDigitsOrHexadecimal u
abstract_before u z h =
    one_of_two _ _ (u ++ (46 ∷ z)) h
    (λ e. inl (before_it is_ascii_digit 46
    (both (numbers.digits_with_point is_ascii_digit) (numbers.at_most_one (numbers.exponent is_e)))
    (fraction_before is_ascii_digit (numbers.at_most_one (numbers.exponent is_e)) refl refl) u z e))
    (λ e. one_of_two _ _ (u ++ (46 ∷ z)) e
    (λ f. absurd (never 46 (both (numbers.digits is_ascii_digit) (numbers.exponent is_e)) u z refl f))
    (λ f. inr (hexadecimal_before _ (
      fraction_before is_ascii_hexdigit (numbers.at_most_one (numbers.exponent is_p)) refl refl,
      ((tt, inl refl), inl refl),
    ) u z f)))

float_before : (suffix : Pattern) → takes 46 suffix ≡ false → (u z : List ℕ)
    → spells (float suffix) (u ++ (46 ∷ z)) ≡ true → IsDigitsOrHexadecimal u
float_before suffix t u z h =
    one_of_two _ _ (u ++ (46 ∷ z)) h
    (λ e. inl (before_it is_ascii_digit 46 _ (decimal_before suffix t) u z e))
    (λ e. inr (hexadecimal_before _ ((point_before is_ascii_hexdigit refl, (tt, inl refl)), inl (rw t refl)) u z e))

-- what is before a point in a number
number_before : (u z : List ℕ) → spells number_spelling (u ++ (46 ∷ z)) ≡ true → IsDigitsOrHexadecimal u
number_before u z h =
    one_of_two _ _ (u ++ (46 ∷ z)) h (λ e. absurd (whole_never empty refl u z e))
    (λ h1. one_of_two _ _ (u ++ (46 ∷ z)) h1 (λ e. absurd (whole_never i_suffix refl u z e))
    (λ h2. one_of_two _ _ (u ++ (46 ∷ z)) h2 (λ e. absurd (whole_never u_suffix refl u z e))
    (λ h3. one_of_two _ _ (u ++ (46 ∷ z)) h3 (λ e. abstract_before u z e)
    (λ h4. one_of_two _ _ (u ++ (46 ∷ z)) h4 (λ e. float_before f_suffix refl u z e)
    (λ e. float_before h_suffix refl u z e)))))

-- ---- numbers that are no digits alone

-- no spelling is decimal digits alone, or `0x` and digits alone
record HasMore (p : Pattern) : Type 0 where
  digits : (text : List ℕ) → spells p text ≡ true → Each is_ascii_digit text → ⊥
  hexadecimals : (text : List ℕ) → spells p text ≡ true → IsHexadecimal text → ⊥

no_mark : (p : Pattern) → Lets (λ c. not (is_x c)) p → (text : List ℕ) → spells p text ≡ true → IsHexadecimal text → ⊥
no_mark p l text h x =
    let each : Each (λ c. not (is_x c)) (48 ∷ (x.mark ∷ x.digits)) =
    subst (Each (λ c. not (is_x c))) x.whole (spelled_each (λ c. not (is_x c)) p l text h) in
    true≢false (sym each.1.0 ∙ ap not x.marked)

after_mark : (p : Pattern) → Lacks is_ascii_hexdigit p → (text : List ℕ)
    → spells (numbers.hexadecimal p) text ≡ true → IsHexadecimal text → ⊥
unfolding begins
after_mark p l text h x =
    let k : spells (numbers.hexadecimal p) (48 ∷ (x.mark ∷ x.digits)) ≡ true =
    subst (λ t. spells (numbers.hexadecimal p) t ≡ true) x.whole h in
    lacking is_ascii_hexdigit p l x.digits (and_parts (is_x x.mark) _ k).1 x.each

digit_no_mark : Stricter is_ascii_digit (λ c. not (is_x c))
digit_no_mark c h = let none : is_x c ≡ false = grind (arith, nat_tests) in rw none refl

nonzero_no_mark : Stricter is_nonzero_digit (λ c. not (is_x c))
nonzero_no_mark c h = digit_no_mark c (and_parts (is_ascii_digit c) _ h).0

e_no_mark : Stricter is_e (λ c. not (is_x c))
e_no_mark c h = let none : is_x c ≡ false = grind (arith, nat_tests) in rw none refl

sign_no_mark : Stricter is_sign (λ c. not (is_x c))
sign_no_mark c h = let none : is_x c ≡ false = grind (arith, nat_tests) in rw none refl

one_no_mark : (n : ℕ) → is_x n ≡ false → Stricter (λ c. c == n) (λ c. not (is_x c))
one_no_mark n f c h = this_one (λ d. not (is_x d)) n c (ap not f) h

x_no_digit : Stricter is_x (λ c. not (is_ascii_digit c))
x_no_digit c h = let none : is_ascii_digit c ≡ false = grind (arith, nat_tests) in rw none refl

e_no_digit : Stricter is_e (λ c. not (is_ascii_digit c))
e_no_digit c h = let none : is_ascii_digit c ≡ false = grind (arith, nat_tests) in rw none refl

p_no_hexdigit : Stricter is_p (λ c. not (is_ascii_hexdigit c))
p_no_hexdigit c h = let none : is_ascii_hexdigit c ≡ false = grind (arith, nat_tests) in rw none refl

-- whole numbers with a suffix that is no digit
suffixed_more : (n : ℕ) → is_ascii_digit n ≡ false → is_ascii_hexdigit n ≡ false → is_x n ≡ false
    → HasMore (whole_number (one (λ c. c == n)))
suffixed_more n a b d = record {
  digits = lacking is_ascii_digit (whole_number (one (λ c. c == n))) (
    (
      inr (λ c h. this_one (λ e. not (is_ascii_digit e)) n c (ap not a) h),
      inr (inr (λ c h. this_one (λ e. not (is_ascii_digit e)) n c (ap not a) h)),
    ),
    inr (inl x_no_digit),
  );
  hexadecimals = λ text h x. one_of_two _ _ text h
      (λ e. no_mark (numbers.decimal_number (one (λ c. c == n)))
      ((one_no_mark 48 refl, one_no_mark n d), (nonzero_no_mark, (digit_no_mark, one_no_mark n d))) text e x)
      (λ e. after_mark (both (numbers.digits is_ascii_hexdigit) (one (λ c. c == n)))
      (inr (λ c h. this_one (λ e. not (is_ascii_hexdigit e)) n c (ap not b) h)) text e x);
}

point_no_digit : Stricter (λ c. c == 46) (λ c. not (is_ascii_digit c))
point_no_digit c h = this_one (λ e. not (is_ascii_digit e)) 46 c refl h

point_no_hexdigit : Stricter (λ c. c == 46) (λ c. not (is_ascii_hexdigit c))
point_no_hexdigit c h = this_one (λ e. not (is_ascii_hexdigit e)) 46 c refl h

exponent_no_mark : Lets (λ c. not (is_x c)) (numbers.exponent is_e)
exponent_no_mark = (e_no_mark, ((sign_no_mark, tt), (digit_no_mark, digit_no_mark)))

point_no_mark : Lets (λ c. not (is_x c)) (numbers.digits_with_point is_ascii_digit)
point_no_mark = (
  ((digit_no_mark, digit_no_mark), (one_no_mark 46 refl, digit_no_mark)),
  (one_no_mark 46 refl, (digit_no_mark, digit_no_mark)),
)

-- floats
abstract_more : HasMore abstract_float
abstract_more = record {
  digits = lacking is_ascii_digit abstract_float
      (inl (inr (inl point_no_digit), inl point_no_digit), (inr (inl e_no_digit), inr (inl x_no_digit)));
  hexadecimals = λ text h x. one_of_two _ _ text h
      (λ e. no_mark (both (numbers.digits_with_point is_ascii_digit)
      (numbers.at_most_one (numbers.exponent is_e))) (point_no_mark, (exponent_no_mark, tt)) text e x)
      (λ e. one_of_two _ _ text e
      (λ f. no_mark (both (numbers.digits is_ascii_digit) (numbers.exponent is_e))
      ((digit_no_mark, digit_no_mark), exponent_no_mark) text f x)
      (λ f. after_mark (either (both (numbers.digits_with_point is_ascii_hexdigit) (numbers.at_most_one
      (numbers.exponent is_p))) (both (numbers.digits is_ascii_hexdigit) (numbers.exponent is_p)))
      (inl (inr (inl point_no_hexdigit), inl point_no_hexdigit), inr (inl p_no_hexdigit)) text f x));
}

float_more : (n : ℕ) → is_ascii_digit n ≡ false → is_x n ≡ false → HasMore (float (one (λ c. c == n)))
float_more n a d = record {
  digits = lacking is_ascii_digit (float (one (λ c. c == n)))
      (inr (inr (λ c h. this_one (λ e. not (is_ascii_digit e)) n c (ap not a) h)), inr (inl x_no_digit));
  hexadecimals = λ text h x. one_of_two _ _ text h
      (λ e. no_mark (both (either (numbers.digits_with_point is_ascii_digit) (numbers.digits is_ascii_digit))
      (both (numbers.at_most_one (numbers.exponent is_e)) (one (λ c. c == n))))
      ((point_no_mark, (digit_no_mark, digit_no_mark)), ((exponent_no_mark, tt), one_no_mark n d)) text e x)
      (λ e. after_mark (both (either (numbers.digits_with_point is_ascii_hexdigit) (numbers.digits is_ascii_hexdigit))
      (both (numbers.exponent is_p) (one (λ c. c == n)))) (inr (inl (inl p_no_hexdigit))) text e x);
}

has_more : {p : Pattern} {text : List ℕ} → HasMore p → spells p text ≡ true → IsDigitsOrHexadecimal text → ⊥
has_more {p} {text} m h (inl e) = m.digits text h e
has_more {p} {text} m h (inr e) = m.hexadecimals text h e

abstract_class : (limit n : ℕ) (k : Kind) → number_below AbstractInt limit n ≡ Some k → k.class ≡ AbstractInt
abstract_class limit n k h = go (nat_lt n limit) h
  where
    go : (b : Bool) → cond b (Some (record { class = AbstractInt; payload = number (pos n) })) None ≡ Some k
        → k.class ≡ AbstractInt
    go true e =
        let same : record { class = AbstractInt; payload = number (pos n) } ≡ k = cc in
        sym (ap (λ (z : Kind). z.class) same)
    go false e = absurd (cc)

-- a number of another class does not go on with a point
pub no_point_after : (text : List ℕ) (k : Kind) → number_of text ≡ Some k
    → (k.class == AbstractInt) ≡ false → (z : List ℕ) → spells number_spelling (text ++ (46 ∷ z)) ≡ true → ⊥
no_point_after text k v n z h =
    go (number_before text z h) (spells (whole_number empty) text)
    (spells (whole_number i_suffix) text) (spells (whole_number u_suffix) text)
    (spells abstract_float text) (spells (float f_suffix) text) (spells (float h_suffix) text)
    refl refl refl refl refl v
  where
    go : IsDigitsOrHexadecimal text → (a b c d e f : Bool) → spells (whole_number i_suffix) text ≡ b
        → spells (whole_number u_suffix) text ≡ c → spells abstract_float text ≡ d
        → spells (float f_suffix) text ≡ e → spells (float h_suffix) text ≡ f
        → cond a (number_below AbstractInt (2 ^ 63) (number_value text)) (cond b (number_below I32 (2 ^ 31)
        (number_value (without_last text))) (cond c (number_below U32 (2 ^ 32) (number_value (without_last text)))
        (cond d (float_of AbstractFloat text) (cond e (float_of F32 (without_last text))
        (cond f (float_of F16 (without_last text)) None))))) ≡ Some k → ⊥
    go t true b c d e f w x y i j l = true≢false
        (sym (eq-eqb k.class AbstractInt (abstract_class (2 ^ 63) (number_value text) k l)) ∙ n)
    go t false true c d e f w x y i j l = has_more (suffixed_more 105 refl refl refl) w t
    go t false false true d e f w x y i j l = has_more (suffixed_more 117 refl refl refl) x t
    go t false false false true e f w x y i j l = has_more abstract_more y t
    go t false false false false true f w x y i j l = has_more (float_more 102 refl refl) i t
    go t false false false false false true w x y i j l = has_more (float_more 104 refl refl) j t
    go t false false false false false false w x y i j l = cc
