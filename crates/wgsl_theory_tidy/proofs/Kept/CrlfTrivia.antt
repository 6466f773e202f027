-- A text with CR LF in place of each LF: blank space and comments are passed over as before.
use Rattle.std.proofs.Common.{◌≡◌, ℕ, suc, ◌==◌, ◌&&◌, Bool, true, false, if◌then◌else◌, zero, refl, sym, ap, subst, ◌∙◌, List, [], ◌∷◌, ◌++◌}
use Rattle.std.proofs.lemmas.Bool.{and_parts, eqb-true}
use Rattle.wgsl_model.specs.Tokens.Characters.{is_blank, is_line_break}
use Rattle.wgsl_model.specs.Tokens.Trivia.{Place, outside, in_line, in_block, second, out_of_block, first_or_zero, after_trivia}
use Rattle.wgsl_model_tidy.specs.Formatted.{with_crlf}
use Rattle.wgsl_theory_tidy.proofs.Kept.TextFronts.{by_test}

-- ---- character by character

pub crlf_other : (c : ℕ) (cs : List ℕ) → (c == 10) ≡ false → with_crlf (c ∷ cs) ≡ c ∷ with_crlf cs
crlf_other c cs e = rw e refl

pub crlf_append : (xs ys : List ℕ) → with_crlf (xs ++ ys) ≡ with_crlf xs ++ with_crlf ys
crlf_append [] ys = refl
crlf_append (x ∷ xs) ys = go (x == 10) (crlf_append xs ys)
  where
    -- before a text that is the same
    go : (b : Bool) → with_crlf (xs ++ ys) ≡ with_crlf xs ++ with_crlf ys
        → (if b then 13 ∷ (10 ∷ with_crlf (xs ++ ys)) else x ∷ with_crlf (xs ++ ys))
        ≡ (if b then 13 ∷ (10 ∷ with_crlf xs) else x ∷ with_crlf xs) ++ with_crlf ys
    go true h = ap (λ zs. 13 ∷ (10 ∷ zs)) h
    go false h = ap (λ zs. x ∷ zs) h

-- the first character, whether it is one that is neither CR nor LF
pub first_same : (d : ℕ) (cs : List ℕ) → (10 == d) ≡ false → (13 == d) ≡ false
    → (first_or_zero (with_crlf cs) == d) ≡ (first_or_zero cs == d)
first_same d [] l r = refl
first_same d (c ∷ cs) l r =
    by_test (c == 10)
    (λ e. subst (λ x. (first_or_zero (with_crlf (x ∷ cs)) == d) ≡ (x == d)) (sym (eqb-true c 10 e)) (r ∙ sym l))
    (λ e. ap (λ xs. first_or_zero xs == d) (crlf_other c cs e))

-- ---- blank space and comments

-- the second character of a sign is no LF
abbrev pub IsFirst : Place → Type 0
IsFirst (second p) = ⊥
IsFirst p = Unit {0}

abbrev pub IsSign : Place → List ℕ → Type 0
IsSign (second p) t = IsFirst p × ((first_or_zero t == 10) ≡ false)
IsSign p t = Unit {0}

pub no_sign : (p : Place) (t : List ℕ) → IsFirst p → IsSign p t
no_sign outside t h = tt
no_sign in_line t h = tt
no_sign (in_block n) t h = tt
no_sign (second p) t h = absurd h

pub out_first : (n : ℕ) → IsFirst (out_of_block n)
out_first zero = tt
out_first (suc n) = tt

-- where the first character is this one, it is no LF
pub first_no_lf : (d : ℕ) (cs : List ℕ) → (d == 10) ≡ false → (first_or_zero cs == d) ≡ true
    → (first_or_zero cs == 10) ≡ false
first_no_lf d cs n e = ap (λ x. x == 10) (eqb-true (first_or_zero cs) d e) ∙ n

pub sign_at : (a b c : ℕ) (cs : List ℕ) → (b == 10) ≡ false
    → (c == a && first_or_zero cs == b) ≡ true → (first_or_zero cs == 10) ≡ false
sign_at a b c cs n e = first_no_lf b cs n (and_parts (c == a) (first_or_zero cs == b) e).1

-- the same is left of both texts
abbrev Over : Place → List ℕ → Type 0
Over p t = after_trivia p (with_crlf t) ≡ with_crlf (after_trivia p t)

over_at_lf : (p : Place) (c : ℕ) (cs : List ℕ) → (c == 10) ≡ true → Over p (10 ∷ cs) → Over p (c ∷ cs)
over_at_lf p c cs e h = subst (λ d. Over p (d ∷ cs)) (sym (eqb-true c 10 e)) h

outside_lf : (cs : List ℕ) → Over outside cs → Over outside (10 ∷ cs)
unfolding after_trivia
outside_lf cs h = h

line_lf : (cs : List ℕ) → Over outside cs → Over in_line (10 ∷ cs)
unfolding after_trivia
line_lf cs h = h

block_lf : (n : ℕ) (cs : List ℕ) → Over (in_block n) cs → Over (in_block n) (10 ∷ cs)
unfolding after_trivia
block_lf n cs h = h

outside_other : (c : ℕ) (cs : List ℕ) → (c == 10) ≡ false → (is_blank c ≡ true → Over outside cs)
    → ((c == 47 && first_or_zero cs == 47) ≡ true → Over (second in_line) cs)
    → ((c == 47 && first_or_zero cs == 42) ≡ true → Over (second (in_block 0)) cs) → Over outside (c ∷ cs)
unfolding after_trivia
outside_other c cs e f g h =
    by_test (is_blank c) (λ b. rw (e, b) (f b))
    (λ b. by_test (c == 47 && first_or_zero cs == 47) (λ s. rw (e, b, first_same 47 cs refl refl, s) (g s))
    (λ s. by_test (c == 47 && first_or_zero cs == 42)
    (λ t. rw (e, b, first_same 47 cs refl refl, s, first_same 42 cs refl refl, t) (h t))
    (λ t. rw (e, b, first_same 47 cs refl refl, s, first_same 42 cs refl refl, t, e) refl)))

line_other : (c : ℕ) (cs : List ℕ) → (c == 10) ≡ false → Over outside cs → Over in_line cs → Over in_line (c ∷ cs)
unfolding after_trivia
line_other c cs e f g = ap (after_trivia in_line) (crlf_other c cs e)
    ∙ by_test (is_line_break c) (λ b. rw b f) (λ b. rw b g)

block_other : (n c : ℕ) (cs : List ℕ) → (c == 10) ≡ false
    → ((c == 47 && first_or_zero cs == 42) ≡ true → Over (second (in_block (suc n))) cs)
    → ((c == 42 && first_or_zero cs == 47) ≡ true → Over (second (out_of_block n)) cs)
    → Over (in_block n) cs → Over (in_block n) (c ∷ cs)
unfolding after_trivia
block_other n c cs e f g h =
    by_test (c == 47 && first_or_zero cs == 42) (λ s. rw (e, first_same 42 cs refl refl, s) (f s))
    (λ s. by_test (c == 42 && first_or_zero cs == 47)
    (λ t. rw (e, first_same 42 cs refl refl, s, first_same 47 cs refl refl, t) (g t))
    (λ t. rw (e, first_same 42 cs refl refl, s, first_same 47 cs refl refl, t) h))

second_other : (p : Place) (c : ℕ) (cs : List ℕ) → (c == 10) ≡ false → Over p cs → Over (second p) (c ∷ cs)
unfolding after_trivia
second_other p c cs e h = rw e h

nothing_over : (p : Place) → Over p []
unfolding after_trivia
nothing_over p = refl

-- what follows the blank space and the comments at the front
pub over_crlf : (p : Place) (t : List ℕ) → IsSign p t → Over p t
over_crlf p [] s = nothing_over p
over_crlf outside (c ∷ cs) s =
    by_test (c == 10) (λ e. over_at_lf outside c cs e (outside_lf cs (over_crlf outside cs tt)))
    (λ e. outside_other c cs e (λ b. over_crlf outside cs tt) (λ g. over_crlf (second in_line) cs
    (tt, sign_at 47 47 c cs refl g)) (λ g. over_crlf (second (in_block 0)) cs (tt, sign_at 47 42 c cs refl g)))
over_crlf in_line (c ∷ cs) s =
    by_test (c == 10) (λ e. over_at_lf in_line c cs e (line_lf cs (over_crlf outside cs tt)))
    (λ e. line_other c cs e (over_crlf outside cs tt) (over_crlf in_line cs tt))
over_crlf (in_block n) (c ∷ cs) s =
    by_test (c == 10) (λ e. over_at_lf (in_block n) c cs e (block_lf n cs (over_crlf (in_block n) cs tt)))
    (λ e. block_other n c cs e (λ g. over_crlf (second (in_block (suc n))) cs (tt, sign_at 47 42 c cs refl g))
    (λ g. over_crlf (second (out_of_block n)) cs (out_first n, sign_at 42 47 c cs refl g))
    (over_crlf (in_block n) cs tt))
over_crlf (second p) (c ∷ cs) s = second_other p c cs s.1 (over_crlf p cs (no_sign p cs s.0))
