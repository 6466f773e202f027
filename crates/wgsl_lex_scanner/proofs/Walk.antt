-- Walking over a text by a pattern: where its longest spelling ends.
use Rattle.std.proofs.Common.{◌≡◌, ℕ, Bool, true, false, cond, ◌==◌, refl, sym, subst, List, [], ◌∷◌, ◌++◌, Option, Some, None, ap, ◌∙◌}
use Rattle.std.proofs.lemmas.Bool.{eqb-true}
use Rattle.wgsl_model.specs.Tokens.Pattern.{Pattern, nothing, empty, or_else, after_spelling}
use Rattle.wgsl_lex_scanner.specs.Digits.{skip_while}
use Rattle.wgsl_lex_scanner.proofs.Derivative.{after, nullable}
use Rattle.wgsl_lex_scanner.proofs.Steps.{after_spelling-nil, after_spelling-cons}

-- ---- one character

pub after_spelling-nothing : (s : List ℕ) → after_spelling nothing s ≡ None
after_spelling-nothing [] = after_spelling-nil nothing
after_spelling-nothing (c ∷ cs) = after_spelling-cons nothing c cs
    ∙ ap (λ o. or_else o None) (after_spelling-nothing cs)

-- no character goes on, and the empty word is a spelling: the whole text is left
pub after_spelling-stop : (r : Pattern) (c : ℕ) (cs : List ℕ) → after c r ≡ nothing
    → nullable r ≡ true → after_spelling r (c ∷ cs) ≡ Some (c ∷ cs)
after_spelling-stop r c cs e n = after_spelling-cons r c cs
    ∙ rw (e, n) (ap (λ o. or_else o (Some (c ∷ cs))) (after_spelling-nothing cs))

-- no character goes on, and there is no spelling
pub after_spelling-none : (r : Pattern) (c : ℕ) (cs : List ℕ) → after c r ≡ nothing
    → nullable r ≡ false → after_spelling r (c ∷ cs) ≡ None
after_spelling-none r c cs e n = after_spelling-cons r c cs
    ∙ rw (e, n) (ap (λ o. or_else o None) (after_spelling-nothing cs))

-- the character goes on, to a spelling
pub after_spelling-go : (r q : Pattern) (c : ℕ) (cs : List ℕ) (t : List ℕ) → after c r ≡ q
    → after_spelling q cs ≡ Some t → after_spelling r (c ∷ cs) ≡ Some t
after_spelling-go r q c cs t e h = after_spelling-cons r c cs ∙ rw (e, h) refl

pub after_spelling-empty : (s : List ℕ) → after_spelling empty s ≡ Some s
after_spelling-empty [] = after_spelling-nil empty
after_spelling-empty (c ∷ cs) = after_spelling-stop empty c cs refl refl

-- ---- by the code of a character

by_code : (b : Bool) (k c : ℕ) (P : ℕ → Type 0) → (c == k) ≡ b → P k → ((c == k) ≡ false → P c) → P c
by_code true k c P e here other = subst P (sym (eqb-true c k e)) here
by_code false k c P e here other = other e

-- the character of a code, and the others
pub at_code : (k c : ℕ) (P : ℕ → Type 0) → P k → ((c == k) ≡ false → P c) → P c
at_code k c P here other = by_code (c == k) k c P refl here other

-- ---- a run of characters that pass

-- those at the front
unfoldable pub run_of : (ℕ → Bool) → List ℕ → List ℕ
run_of p [] = []
run_of p (c ∷ cs) = cond (p c) (c ∷ run_of p cs) []

run_one : (p : ℕ → Bool) (b : Bool) (c : ℕ) (cs : List ℕ) → p c ≡ b
    → cs ≡ run_of p cs ++ skip_while p cs → (c ∷ cs) ≡ run_of p (c ∷ cs) ++ skip_while p (c ∷ cs)
unfolding run_of skip_while
run_one p true c cs e rest = rw e (ap (λ xs. c ∷ xs) rest)
run_one p false c cs e rest = rw e refl

-- a text is the run at its front and the rest
pub run_is : (p : ℕ → Bool) (s : List ℕ) → s ≡ run_of p s ++ skip_while p s
unfolding run_of skip_while
run_is p [] = refl
run_is p (c ∷ cs) = run_one p (p c) c cs refl (run_is p cs)

some_of : (o : Option (List ℕ)) (s : List ℕ) (r : Option (List ℕ)) → r ≡ or_else o (Some s)
    → (t : List ℕ) × (r ≡ Some t)
some_of None s r e = (s, e)
some_of (Some t) s r e = (t, e)

-- where the empty word is a spelling there is a longest one at the front of every text
after_spelling-nullable : (s : List ℕ) (r : Pattern) → nullable r ≡ true → (t : List ℕ) × (after_spelling r s ≡ Some t)
after_spelling-nullable [] r h = ([], after_spelling-nil r ∙ rw h refl)
after_spelling-nullable (c ∷ cs) r h = some_of (after_spelling (after c r) cs) (c ∷ cs)
    (after_spelling r (c ∷ cs)) (after_spelling-cons r c cs ∙ rw h refl)

first_or : (a b : Option (List ℕ)) (x : List ℕ) → a ≡ Some x → or_else a b ≡ a
first_or a b x e = rw e refl

after_spelling-run_one : (p : ℕ → Bool) (b : Bool) (r : Pattern) (c : ℕ) (cs : List ℕ) → p c ≡ b
    → ((d : ℕ) → p d ≡ true → after d r ≡ r) → nullable r ≡ true
    → after_spelling r cs ≡ after_spelling r (skip_while p cs)
    → after_spelling r (c ∷ cs) ≡ after_spelling r (skip_while p (c ∷ cs))
unfolding skip_while
after_spelling-run_one p true r c cs e step n rest =
    let found = after_spelling-nullable cs r n in
    after_spelling-cons r c cs
    ∙ rw (step c e, n) (first_or (after_spelling r cs) (Some (c ∷ cs)) found.0 found.1) ∙ rest ∙ rw e refl
after_spelling-run_one p false r c cs e step n rest = rw e refl

-- a pattern that stays as it is over the characters of a run goes on after the run
pub after_spelling-run : (p : ℕ → Bool) (r : Pattern) → ((c : ℕ) → p c ≡ true → after c r ≡ r)
    → nullable r ≡ true → (s : List ℕ) → after_spelling r s ≡ after_spelling r (skip_while p s)
unfolding skip_while
after_spelling-run p r step n [] = refl
after_spelling-run p r step n (c ∷ cs) = after_spelling-run_one p (p c) r c cs refl step n
    (after_spelling-run p r step n cs)

-- a text does not begin with a character that passes
abbrev pub IsPast : (ℕ → Bool) → List ℕ → Type 0
IsPast p [] = Unit {0}
IsPast p (c ∷ cs) = p c ≡ false

past_one : (p : ℕ → Bool) (b : Bool) (c : ℕ) (cs : List ℕ) → p c ≡ b → IsPast p (skip_while p cs)
    → IsPast p (skip_while p (c ∷ cs))
unfolding skip_while
past_one p true c cs e rest = rw e rest
past_one p false c cs e rest = rw e e

pub past : (p : ℕ → Bool) (s : List ℕ) → IsPast p (skip_while p s)
unfolding skip_while
past p [] = tt
past p (c ∷ cs) = past_one p (p c) c cs refl (past p cs)
