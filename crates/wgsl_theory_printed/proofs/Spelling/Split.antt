-- The spellings of a pattern, taken apart: which characters its tests let through, and with which
-- one they end.
use Rattle.std.proofs.Common.{◌≡◌, ℕ, Bool, true, false, ◌&&◌, ◌||◌, ◌==◌, not, refl, sym, ap, List, [], ◌∷◌, ◌++◌, ◌∙◌, append_assoc}
use Rattle.std.proofs.lemmas.Bool.{and_parts, eqb-true, false_from_ne_true, true≢false, not-true}
use Rattle.std.specs.Str.{NonePass}
use Rattle.grammar.specs.Tables.{is_empty}
use Rattle.wgsl_model.specs.Tokens.Pattern.{Pattern, nothing, empty, one, any, both, either, begins, begins_any, spells}

-- each character passes
abbrev pub Each : (ℕ → Bool) → List ℕ → Type 0
Each q [] = Unit {0}
Each q (c ∷ cs) = (q c ≡ true) × Each q cs

pub Each-append : (q : ℕ → Bool) (cs ds : List ℕ) → Each q cs → Each q ds → Each q (cs ++ ds)
Each-append q [] ds h k = k
Each-append q (c ∷ cs) ds h k = (h.0, Each-append q cs ds h.1 k)

pub Each-last : (q : ℕ → Bool) (cs ds : List ℕ) → Each q (cs ++ ds) → Each q ds
Each-last q [] ds h = h
Each-last q (c ∷ cs) ds h = Each-last q cs ds h.1

-- a test lets through only what passes another
abbrev pub Stricter : (ℕ → Bool) → (ℕ → Bool) → Type 0
Stricter p q = (c : ℕ) → p c ≡ true → q c ≡ true

-- the tests of a pattern let through only what passes another
abbrev pub Lets : (ℕ → Bool) → Pattern → Type 0
Lets q nothing = Unit {0}
Lets q empty = Unit {0}
Lets q (one p) = Stricter p q
Lets q (any p) = Stricter p q
Lets q (both a b) = Lets q a × Lets q b
Lets q (either a b) = Lets q a × Lets q b

-- the same of a test that is not as strict
pub wider : (p q : ℕ → Bool) → Stricter p q → (pattern : Pattern) → Lets p pattern → Lets q pattern
wider p q s nothing h = tt
wider p q s empty h = tt
wider p q s (one r) h = λ c k. s c (h c k)
wider p q s (any r) h = λ c k. s c (h c k)
wider p q s (both a b) h = (wider p q s a h.0, wider p q s b h.1)
wider p q s (either a b) h = (wider p q s a h.0, wider p q s b h.1)

-- a front of characters that pass, and a rest that a test lets through
pub record Cut (q : ℕ → Bool) (k : List ℕ → Bool) (text : List ℕ) : Type 0 where
  pub front : List ℕ
  pub rest : List ℕ
  pub whole : text ≡ front ++ rest
  pub each : Each q front
  pub passes : k rest ≡ true

-- one of two tests is passed
pub by_either : {X : Type 0} (x y : Bool) → (x || y) ≡ true → (x ≡ true → X) → (y ≡ true → X) → X
by_either true y e f g = f refl
by_either false y e f g = g e

cut_any : (q p : ℕ → Bool) → Stricter p q → (k : List ℕ → Bool) (text : List ℕ)
    → begins_any p k text ≡ true → Cut q k text
unfolding begins_any
cut_any q p s k [] h = record { front = []; rest = []; whole = refl; each = tt; passes = h }
cut_any q p s k (c ∷ cs) h =
    by_either (k (c ∷ cs)) (p c && begins_any p k cs) h
    (λ e. record { front = []; rest = c ∷ cs; whole = refl; each = tt; passes = e })
    (λ e. (let parts = and_parts (p c) (begins_any p k cs) e in
    let more = cut_any q p s k cs parts.1 in
    record {
      front = c ∷ more.front;
      rest = more.rest;
      whole = ap (λ x. c ∷ x) more.whole;
      each = (s c parts.0, more.each);
      passes = more.passes;
    }))

-- a front that a pattern spells
pub cut : (q : ℕ → Bool) (p : Pattern) → Lets q p → (k : List ℕ → Bool) (text : List ℕ)
    → begins p k text ≡ true → Cut q k text
unfolding begins
cut q nothing s k text h = absurd (true≢false (sym h))
cut q empty s k text h = record { front = []; rest = text; whole = refl; each = tt; passes = h }
cut q (one p) s k [] h = absurd (true≢false (sym h))
cut q (one p) s k (c ∷ cs) h =
    let parts = and_parts (p c) (k cs) h in
    record { front = c ∷ []; rest = cs; whole = refl; each = (s c parts.0, tt); passes = parts.1 }
cut q (any p) s k text h = cut_any q p s k text h
cut q (both a b) s k text h =
    let first = cut q a s.0 (begins b k) text h in
    let second = cut q b s.1 k first.rest first.passes in
    record {
      front = first.front ++ second.front;
      rest = second.rest;
      whole = first.whole ∙ ap (λ x. first.front ++ x) second.whole
          ∙ sym (append_assoc first.front second.front second.rest);
      each = Each-append q first.front second.front first.each second.each;
      passes = second.passes;
    }
cut q (either a b) s k text h = by_either (begins a k text) (begins b k text) h
    (λ e. cut q a s.0 k text e) (λ e. cut q b s.1 k text e)

nil_is : (q : ℕ → Bool) (front rest : List ℕ) → is_empty rest ≡ true → Each q front → Each q (front ++ rest)
nil_is q front [] e h = Each-append q front [] h tt
nil_is q front (c ∷ cs) e h = absurd (true≢false (sym e))

-- each character of a spelling passes
pub spelled_each : (q : ℕ → Bool) (p : Pattern) → Lets q p → (word : List ℕ) → spells p word ≡ true → Each q word
spelled_each q p s word h =
    let parts = cut q p s is_empty word h in
    rw parts.whole (nil_is q parts.front parts.rest parts.passes parts.each)

-- ---- the last character

-- a pattern ends with a character
abbrev pub EndsWith : ℕ → Pattern → Type 0
EndsWith d (one p) = Stricter p (λ c. c == d)
EndsWith d (both a b) = EndsWith d b
EndsWith d (either a b) = EndsWith d a × EndsWith d b
EndsWith d p = ⊥

-- every test lets through what passes the test of everything
anything : (p : Pattern) → Lets (λ c. true) p
anything nothing = tt
anything empty = tt
anything (one p) = λ c h. refl
anything (any p) = λ c h. refl
anything (both a b) = (anything a, anything b)
anything (either a b) = (anything a, anything b)

-- a word and its last character
abbrev pub HasLast : ℕ → List ℕ → Type 0
HasLast d word = (before : List ℕ) × (word ≡ before ++ (d ∷ []))

last_of_one : (p : ℕ → Bool) (d c : ℕ) (cs : List ℕ) → Stricter p (λ c. c == d)
    → (p c && is_empty cs) ≡ true → HasLast d (c ∷ cs)
last_of_one p d c [] s h = ([], ap (λ x. x ∷ []) (eqb-true c d (s c (and_parts (p c) true h).0)))
last_of_one p d c (e ∷ es) s h = absurd (true≢false (sym (and_parts (p c) false h).1))

pub spelled_last : (d : ℕ) (p : Pattern) → EndsWith d p → (word : List ℕ) → spells p word ≡ true → HasLast d word
unfolding begins
spelled_last d nothing s word h = absurd s
spelled_last d empty s word h = absurd s
spelled_last d (any p) s word h = absurd s
spelled_last d (one p) s [] h = absurd (true≢false (sym h))
spelled_last d (one p) s (c ∷ cs) h = last_of_one p d c cs s h
spelled_last d (both a b) s word h =
    let parts = cut (λ c. true) a (anything a) (begins b is_empty) word h in
    let last = spelled_last d b s parts.rest parts.passes in (
      parts.front ++ last.0,
      parts.whole ∙ ap (λ x. parts.front ++ x) last.1 ∙ sym (append_assoc parts.front last.0 (d ∷ [])),
    )
spelled_last d (either a b) s word h = by_either (begins a is_empty word) (begins b is_empty word) h
    (λ e. spelled_last d a s.0 word e) (λ e. spelled_last d b s.1 word e)

-- ---- a character that no spelling goes on with

-- some test of a pattern lets a character through
abbrev pub takes : ℕ → Pattern → Bool
takes c nothing = false
takes c empty = false
takes c (one p) = p c
takes c (any p) = p c
takes c (both a b) = takes c a || takes c b
takes c (either a b) = takes c a || takes c b

-- some spelling of more than one character may have it
abbrev pub goes_on_with : ℕ → Pattern → Bool
goes_on_with c (one p) = false
goes_on_with c (either a b) = goes_on_with c a || goes_on_with c b
goes_on_with c p = takes c p

pub or_none : (x y : Bool) → (x || y) ≡ false → (x ≡ false) × (y ≡ false)
or_none true y e = absurd (true≢false e)
or_none false y e = (refl, e)

-- a character that is not this one
abbrev pub differs : ℕ → ℕ → Bool
differs c x = not (x == c)

stricter_differs : (p : ℕ → Bool) (c : ℕ) → p c ≡ false → Stricter p (differs c)
stricter_differs p c n x h = ap not (false_from_ne_true (x == c)
    (λ e. let same : x ≡ c = eqb-true x c e in true≢false (sym h ∙ ap p same ∙ n)))

pub lets_differs : (c : ℕ) (p : Pattern) → takes c p ≡ false → Lets (differs c) p
lets_differs c nothing n = tt
lets_differs c empty n = tt
lets_differs c (one p) n = stricter_differs p c n
lets_differs c (any p) n = stricter_differs p c n
lets_differs c (both a b) n =
    let parts = or_none (takes c a) (takes c b) n in (lets_differs c a parts.0, lets_differs c b parts.1)
lets_differs c (either a b) n =
    let parts = or_none (takes c a) (takes c b) n in (lets_differs c a parts.0, lets_differs c b parts.1)

-- where no character is one, none passes the test for it
pub none_pass : (c : ℕ) (cs : List ℕ) → Each (differs c) cs → NonePass (λ x. x == c) cs
none_pass c [] h = tt
none_pass c (x ∷ xs) h = (not-true (x == c) h.0, none_pass c xs h.1)
