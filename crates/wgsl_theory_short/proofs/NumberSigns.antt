-- A number ends before `+` and `-`.
use Rattle.std.proofs.Common.{◌≡◌, ◌⊎◌, inl, inr, ℕ, ◌==◌, ◌&&◌, ◌||◌, not, Bool, true, false, refl, sym, ap, ap₂, subst, ◌∙◌, List, [], ◌∷◌, ◌++◌, arith}
use Rattle.std.specs.Char.{is_ascii_digit}
use Rattle.std.proofs.lemmas.Bool.{and_parts, true≢false}
use Rattle.std.proofs.lemmas.Bool.Decides.{nat_tests}
use Rattle.grammar.specs.Tables.{is_empty}
use Rattle.wgsl_model.specs.Tokens.Numbers as numbers
use Rattle.wgsl_model.specs.Tokens.Numbers.{is_nonzero_digit, is_x, is_e, is_p, is_sign, whole_number, i_suffix, u_suffix, f_suffix, h_suffix, abstract_float, float, number_spelling}
use Rattle.wgsl_model.specs.Tokens.Pattern.{Pattern, both, begins, spells}
use Rattle.wgsl_theory_printed.proofs.Spelling.Split.{Each, Each-append, Each-last, Lets, Stricter, by_either, cut}

-- ---- what is before and after a sign

-- the suffix of a float
abbrev pub is_suffix : ℕ → Bool
is_suffix c = c == 102 || c == 104

-- nothing, or such a suffix
abbrev pub IsShort : List ℕ → Type 0
IsShort [] = Unit {0}
IsShort (c ∷ []) = is_suffix c ≡ true
IsShort (c ∷ (d ∷ cs)) = ⊥

-- the letter of an exponent is not among the characters before it, and neither is a sign
pub record Apart (q letter : ℕ → Bool) : Type 0 where
  pub letters : (c : ℕ) → letter c ≡ true → q c ≡ false
  pub signs : (c : ℕ) → is_sign c ≡ true → q c ≡ false
  pub no_sign : (c : ℕ) → letter c ≡ true → is_sign c ≡ false
  pub no_suffix : (c : ℕ) → letter c ≡ true → is_suffix c ≡ false

-- a pattern of an exponent, which may be left out, and a suffix
pub record Tail (letter : ℕ → Bool) (t : Pattern) : Type 0 where
  pub last : List ℕ → Bool
  pub short : (s : List ℕ) → last s ≡ true → IsShort s
  pub parts : (s : List ℕ) → begins t is_empty s ≡ true
      → (begins (numbers.exponent letter) last s ≡ true) ⊎ (last s ≡ true)

pub each_wider : (p q : ℕ → Bool) → Stricter p q → (cs : List ℕ) → Each p cs → Each q cs
each_wider p q s [] h = tt
each_wider p q s (c ∷ cs) h = (s c h.0, each_wider p q s cs h.1)

abbrev pub signless : ℕ → Bool
signless c = not (is_sign c)

-- a test that a sign does not pass
pub no_sign_in : (q : ℕ → Bool) → ((c : ℕ) → is_sign c ≡ true → q c ≡ false) → (w z : List ℕ) (s : ℕ)
    → is_sign s ≡ true → Each q (w ++ (s ∷ z)) → ⊥
no_sign_in q n w z s g h = true≢false (sym (Each-last q w (s ∷ z) h).0 ∙ n s g)

signless_no : (c : ℕ) → is_sign c ≡ true → signless c ≡ false
signless_no c g = ap not g

digit_signless : Stricter is_ascii_digit signless
digit_signless c h = let none : is_sign c ≡ false = grind (arith, nat_tests) in rw none refl

suffix_signless : (c : ℕ) → is_suffix c ≡ true → signless c ≡ true
suffix_signless c h = let none : is_sign c ≡ false = grind (arith, nat_tests) in rw none refl

short_signless : (s : List ℕ) → IsShort s → Each signless s
short_signless [] h = tt
short_signless (c ∷ []) h = (suffix_signless c h, tt)
short_signless (c ∷ (d ∷ cs)) h = absurd h

-- no sign is in the digits of an exponent and what follows them
digits_signless : (k : List ℕ → Bool) → ((s : List ℕ) → k s ≡ true → IsShort s) → (u z : List ℕ) (s : ℕ)
    → is_sign s ≡ true → begins (numbers.digits is_ascii_digit) k (u ++ (s ∷ z)) ≡ true → ⊥
digits_signless k short u z s g h =
    let c = cut is_ascii_digit (numbers.digits is_ascii_digit) ((λ c e. e), (λ c e. e)) k (u ++ (s ∷ z)) h in
    let each : Each signless (c.front ++ c.rest) = Each-append signless c.front c.rest
    (each_wider is_ascii_digit signless digit_signless c.front c.each)
    (short_signless c.rest (short c.rest c.passes)) in
    no_sign_in signless signless_no u z s g (subst (Each signless) (sym c.whole) each)

-- one letter is before the sign of an exponent
exponent_sign : (q letter : ℕ → Bool) → Apart q letter → (k : List ℕ → Bool)
    → ((s : List ℕ) → k s ≡ true → IsShort s) → (v z : List ℕ) (s : ℕ) → is_sign s ≡ true
    → begins (numbers.exponent letter) k (v ++ (s ∷ z)) ≡ true → (c : ℕ) × (v ≡ c ∷ []) × (letter c ≡ true)
unfolding begins
exponent_sign q letter a k short [] z s g h =
    absurd (true≢false (sym g ∙ a.no_sign s (and_parts (letter s) _ h).0))
exponent_sign q letter a k short (c ∷ []) z s g h = (c, refl, (and_parts (letter c) _ h).0)
exponent_sign q letter a k short (c ∷ (d ∷ v)) z s g h = absurd (by_either
    (is_sign d && begins (numbers.digits is_ascii_digit) k (v ++ (s ∷ z)))
    (begins (numbers.digits is_ascii_digit) k (d ∷ (v ++ (s ∷ z)))) (and_parts (letter c) _ h).1
    (λ e. digits_signless k short v z s g (and_parts (is_sign d) _ e).1)
    (λ e. digits_signless k short (d ∷ v) z s g e))

-- what does not pass is after all that does
record After (f r w z : List ℕ) (s : ℕ) : Type 0 where
  more : List ℕ
  before : w ≡ f ++ more
  rest : r ≡ more ++ (s ∷ z)

located : (q : ℕ → Bool) (f r w z : List ℕ) (s : ℕ) → Each q f → q s ≡ false
    → w ++ (s ∷ z) ≡ f ++ r → After f r w z s
located q [] r w z s e n h = record { more = w; before = refl; rest = sym h }
located q (c ∷ f) r [] z s e n h =
    let head : s ≡ c = cc in absurd (true≢false (sym e.0 ∙ ap q (sym head) ∙ n))
located q (c ∷ f) r (b ∷ w) z s e n h =
    let tail : w ++ (s ∷ z) ≡ f ++ r = cc in
    let head : b ≡ c = cc in
    let m = located q f r w z s e.1 n tail in
    record { more = m.more; before = ap₂ (λ (x : ℕ) (xs : List ℕ). x ∷ xs) head m.before; rest = m.rest }

-- a text of characters that pass, and a letter
pub record Ended (q letter : ℕ → Bool) (w : List ℕ) : Type 0 where
  pub front : List ℕ
  pub last : ℕ
  pub whole : w ≡ front ++ (last ∷ [])
  pub each : Each q front
  pub lettered : letter last ≡ true

tail_sign : (q letter : ℕ → Bool) → Apart q letter → (t : Pattern) → (tail : Tail letter t) → (v z : List ℕ) (s : ℕ)
    → is_sign s ≡ true
    → (begins (numbers.exponent letter) tail.last (v ++ (s ∷ z)) ≡ true) ⊎ (tail.last (v ++ (s ∷ z)) ≡ true)
    → (c : ℕ) × (v ≡ c ∷ []) × (letter c ≡ true)
tail_sign q letter a t tail v z s g (inl e) = exponent_sign q letter a tail.last tail.short v z s g e
tail_sign q letter a t tail v z s g (inr e) = absurd (no_sign_in signless signless_no v z s g
    (short_signless (v ++ (s ∷ z)) (tail.short (v ++ (s ∷ z)) e)))

-- the characters and what ends with the letter
with_letter : (q letter : ℕ → Bool) (w f m : List ℕ) → w ≡ f ++ m → Each q f
    → (c : ℕ) × (m ≡ c ∷ []) × (letter c ≡ true) → Ended q letter w
with_letter q letter w f m e h found = record {
  front = f;
  last = found.0;
  whole = e ∙ ap (λ v. f ++ v) found.1;
  each = h;
  lettered = found.2;
}

pub before_sign : (q letter : ℕ → Bool) → Apart q letter → (p t : Pattern) → Lets q p → Tail letter t
    → (w z : List ℕ) (s : ℕ) → is_sign s ≡ true → spells (both p t) (w ++ (s ∷ z)) ≡ true → Ended q letter w
unfolding begins
before_sign q letter a p t l tail w z s g h =
    let c = cut q p l (begins t is_empty) (w ++ (s ∷ z)) h in
    let m = located q c.front c.rest w z s c.each (a.signs s g) c.whole in
    let passes : begins t is_empty (m.more ++ (s ∷ z)) ≡ true =
    subst (λ r. begins t is_empty r ≡ true) m.rest c.passes in
    with_letter q letter w c.front m.more m.before c.each
    (tail_sign q letter a t tail m.more z s g (tail.parts (m.more ++ (s ∷ z)) passes))

-- ---- no number is such a text

short_letter : (q letter : ℕ → Bool) → Apart q letter → (v : List ℕ) (c : ℕ) → letter c ≡ true
    → IsShort (v ++ (c ∷ [])) → ⊥
short_letter q letter a [] c g h = true≢false (sym h ∙ a.no_suffix c g)
short_letter q letter a (d ∷ []) c g h = h
short_letter q letter a (d ∷ (e ∷ v)) c g h = h

exponent_letter : (q letter : ℕ → Bool) → Apart q letter → (k : List ℕ → Bool) (v : List ℕ) (c : ℕ)
    → Each q v → begins (numbers.exponent letter) k (v ++ (c ∷ [])) ≡ true → ⊥
unfolding begins
exponent_letter q letter a k [] c e h = true≢false (sym (and_parts (letter c) false h).1)
exponent_letter q letter a k (d ∷ v) c e h =
    true≢false (sym e.0 ∙ a.letters d (and_parts (letter d) _ h).0)

tail_letter : (q letter : ℕ → Bool) → Apart q letter → (t : Pattern) → (tail : Tail letter t)
    → (v : List ℕ) (c : ℕ) → letter c ≡ true → Each q v
    → (begins (numbers.exponent letter) tail.last (v ++ (c ∷ [])) ≡ true) ⊎ (tail.last (v ++ (c ∷ [])) ≡ true) → ⊥
tail_letter q letter a t tail v c g e (inl h) = exponent_letter q letter a tail.last v c e h
tail_letter q letter a t tail v c g e (inr h) = short_letter q letter a v c g (tail.short (v ++ (c ∷ [])) h)

pub no_ended : (q letter : ℕ → Bool) → Apart q letter → (p t : Pattern) → Lets q p → Tail letter t
    → (w : List ℕ) → Ended q letter w → spells (both p t) w ≡ true → ⊥
unfolding begins
no_ended q letter a p t l tail w n h =
    let here : spells (both p t) (n.front ++ (n.last ∷ [])) ≡ true =
    subst (λ x. spells (both p t) x ≡ true) n.whole h in
    let c = cut q p l (begins t is_empty) (n.front ++ (n.last ∷ [])) here in
    let m = located q c.front c.rest n.front [] n.last c.each (a.letters n.last n.lettered) c.whole in
    tail_letter q letter a t tail m.more n.last n.lettered
    (Each-last q c.front m.more (subst (Each q) m.before n.each))
    (tail.parts (m.more ++ (n.last ∷ [])) (subst (λ r. begins t is_empty r ≡ true) m.rest c.passes))
