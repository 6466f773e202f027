-- Fronts of texts: what is before a rest, and the longest front that passes.
use Rattle.std.proofs.Common.{◌≡◌, ℕ, ◌≤◌, Bool, true, false, cond, List, [], ◌∷◌, ◌++◌, length, length-append, ◌-◌, take, Option, Some, None, refl, sym, ◌∙◌, ap, arith}
use Rattle.std.proofs.lemmas.Bool.{true≢false}
use Rattle.std.proofs.Math.Seq.{take-append_seam}
use Rattle.wgsl_model.specs.Tokens.Pattern.{after_longest, or_else, IsLongest, FollowsLongest}
use Rattle.wgsl_model.specs.Tokens.Raw.{front}

pub take-append_front : (xs ys : List ℕ) (n : ℕ) → n ≡ length xs → take n (xs ++ ys) ≡ xs
take-append_front xs ys n e = ap (λ m. take m (xs ++ ys)) e ∙ take-append_seam xs ys

-- what is before a rest
pub front-append : (xs ys : List ℕ) → front (xs ++ ys) ys ≡ xs
front-append xs ys = take-append_front xs ys (length (xs ++ ys) - length ys) (omega (arith, length-append xs ys))

-- ---- what `after_longest` finds follows the longest front that passes
nil_only : (v u : List ℕ) → [] ≡ v ++ u → v ≡ []
nil_only [] u w = refl
nil_only (x ∷ v) u w = absurd (cc)

nil_front : (v u : List ℕ) → [] ≡ v ++ u → length v ≤ 0
nil_front [] u w = omega arith
nil_front (x ∷ v) u w = absurd (cc)

in_nil : (b : Bool) (p : List ℕ → Bool) → p [] ≡ b → FollowsLongest p [] (cond b (Some []) None)
in_nil true p e = ([], record { whole = refl; passes = e; longest = λ v u w h. nil_front v u w })
in_nil false p e = λ v u w h. true≢false (sym h ∙ ap p (nil_only v u w) ∙ e)

longer : (p : List ℕ → Bool) (c : ℕ) (cs word rest : List ℕ) → IsLongest (λ f. p (c ∷ f)) cs word rest
    → (v u : List ℕ) → c ∷ cs ≡ v ++ u → p v ≡ true → length v ≤ length (c ∷ word)
longer p c cs word rest i [] u w h = omega arith
longer p c cs word rest i (x ∷ v) u w h =
    let head : x ≡ c = cc in
    let tail : cs ≡ v ++ u = cc in
    let short : length v ≤ length word = i.longest v u tail (ap (λ y. p (y ∷ v)) (sym head) ∙ h) in
    omega (arith, short)

none_longer : (p : List ℕ → Bool) (c : ℕ) (cs : List ℕ)
    → ((v u : List ℕ) → cs ≡ v ++ u → p (c ∷ v) ≡ true → ⊥) → (v u : List ℕ) → c ∷ cs ≡ v ++ u
    → p v ≡ true → v ≡ []
none_longer p c cs h [] u w e = refl
none_longer p c cs h (x ∷ v) u w e =
    let head : x ≡ c = cc in
    let tail : cs ≡ v ++ u = cc in
    absurd (h v u tail (ap (λ y. p (y ∷ v)) (sym head) ∙ e))

in_cons : (b : Bool) (p : List ℕ → Bool) (c : ℕ) (cs : List ℕ) (o : Option (List ℕ)) → p [] ≡ b
    → FollowsLongest (λ f. p (c ∷ f)) cs o
    → FollowsLongest p (c ∷ cs) (or_else o (cond b (Some (c ∷ cs)) None))
in_cons b p c cs (Some rest) e (word, i) =
    (c ∷ word, record { whole = ap (λ z. c ∷ z) i.whole; passes = i.passes; longest = longer p c cs word rest i })
in_cons true p c cs None e h = (
  [],
  record {
    whole = refl;
    passes = e;
    longest = λ v u w k. (let n : v ≡ [] = none_longer p c cs h v u w k in rw n (omega arith));
  },
)
in_cons false p c cs None e h = λ v u w k. true≢false (sym k ∙ ap p (none_longer p c cs h v u w k) ∙ e)

pub after_longest_is : (p : List ℕ → Bool) (text : List ℕ) → FollowsLongest p text (after_longest p text)
unfolding after_longest
after_longest_is p [] = in_nil (p []) p refl
after_longest_is p (c ∷ cs) = in_cons (p []) p c cs (after_longest (λ f. p (c ∷ f)) cs) refl
    (after_longest_is (λ f. p (c ∷ f)) cs)
