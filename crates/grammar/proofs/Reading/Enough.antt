-- The fuel is enough.
use Rattle.std.proofs.Common.{◌≡◌, ℕ, zero, suc, ◌+◌, ◌<◌, ◌≤◌, Bool, true, false, cond, List, [], ◌∷◌, length, inl, inr, refl, subst, arith, mul-le-mul_left, max, ◌*◌, le_refl}
use Rattle.std.specs.Prelude.{Option, Some, None}
use Rattle.grammar.specs.Tokens.{Token, Span, Fault, span_between}
use Rattle.grammar.specs.Grammar.{is_among, Grammar, Grammar.empty, Grammar.token, Grammar.sequence, Grammar.choice, Grammar.mapped, Grammar.node, Grammar.checked, Grammar.symbol, Grammar.left_chain, Mode, found, Means, Within}
use Rattle.grammar.specs.Tables.{Tables, nullable, first, decides, left_rank, all_ranks}
use Rattle.grammar.specs.Reading.{Outcome, Outcome.ok, Outcome.stuck, Outcome.bad, Outcome.out, bind, judge, chooses, loop, run, read}
use Rattle.grammar.proofs.Reading.Sets.{and_true, not_true}
use Rattle.grammar.proofs.Reading.Beginnings.{pick, Begins, Sane, begins, begins_within}
use Rattle.grammar.proofs.Reading.Sound.{OfOk, IsSound, sound, sound_within}

-- the fuel was not out
abbrev pub IsIn : {A : Type 0} → Outcome A → Type 0
IsIn (ok a us) = Unit {0}
IsIn (stuck us) = Unit {0}
IsIn (bad x us) = Unit {0}
IsIn out = ⊥

pub in_bind : {A B : Type 0} (P : A → List Token → Type 0) (m : Outcome A) (f : A → List Token → Outcome B)
    → IsIn m → OfOk P m → ((a : A) (us : List Token) → P a us → IsIn (f a us)) → IsIn (bind m f)
in_bind P (ok a us) f i p h = h a us p
in_bind P (stuck us) f i p h = tt
in_bind P (bad x us) f i p h = tt
in_bind P out f i p h = i

in_pick : {A : Type 0} (b : Bool) (x y : Outcome A) → (b ≡ true → IsIn x) → (b ≡ false → IsIn y) → IsIn (pick b x y)
in_pick true x y p q = p refl
in_pick false x y p q = q refl

in_judge : {A : Type 0} (x : Option Fault) (a : A) (us : List Token) → IsIn (judge x a us)
in_judge None a us = tt
in_judge (Some x) a us = tt

pub not_out : {A : Type 0} (m : Outcome A) → IsIn m → m ≡ out → ⊥
not_out m i e = subst IsIn e i

step_down : (R a b : ℕ) → a < b → R * a + R ≤ R * b
step_down R a b h = omega (arith, mul-le-mul_left R h)

max_cond : (a b c d : ℕ) (n : Bool) → a ≤ c → b ≤ d → max a (cond n b 0) ≤ max c d
max_cond a b c d true p q = omega arith
max_cond a b c d false p q = omega arith

lr_le : {N : Type 0} {Value : N → Type 0} (T : Tables N) {A : Type 0} (g : Grammar N Value A)
    → left_rank T g ≤ all_ranks T g
lr_le T (empty a) = le_refl 0
lr_le T (token s) = le_refl 0
lr_le T (sequence g h) = max_cond (left_rank T g) (left_rank T h) (all_ranks T g) (all_ranks T h)
    (nullable T g) (lr_le T g) (lr_le T h)
lr_le T (choice g h) = let p = lr_le T g in let q = lr_le T h in omega (arith, p, q)
lr_le T (mapped f g) = lr_le T g
lr_le T (node f g) = lr_le T g
lr_le T (checked f g) = lr_le T g
lr_le T (symbol n) = le_refl _
lr_le T (left_chain f g h) = max_cond (left_rank T g) (left_rank T h) (all_ranks T g)
    (all_ranks T h) (nullable T g) (lr_le T g) (lr_le T h)

-- With fuel enough for a number of tokens and so high a rank, the reader is not out of fuel.
abbrev pub IsEnough : {A : Type 0} → ℕ → ℕ → (List Token → Outcome A) → ℕ → Type 0
IsEnough R k r rank = (ts : List Token) → R * length ts + rank ≤ k → IsIn (r ts)

-- what is taken makes the list shorter
abbrev pub Eats : {A : Type 0} → (List Token → Outcome A) → Type 0
Eats r = (ts : List Token) → OfOk (λ v rest. length rest < length ts) (r ts)

-- after a part that may be empty
after : (R k a b : ℕ) (n : Bool) (s : List ℕ) (xs us : List Token) → Begins n s xs us → b ≤ R
    → R * length xs + max a (cond n b 0) ≤ k → R * length us + b ≤ k
after R k a b n s xs us (inl h) w l =
    let l' : R * length xs + max a b ≤ k = subst (λ (x : Bool). R * length xs + max a (cond x b 0) ≤ k) h.0 l in
    let l'' : R * length us + max a b ≤ k = subst (λ (x : List Token). R * length x + max a b ≤ k) h.1 l' in
    omega (arith, l'')
after R k a b n s xs us (inr h) w l = omega (arith, step_down R (length us) (length xs) h.1, l, w)

enough_loop : {A B : Type 0} (f : A → B → Span → A) (s : List ℕ) (r : List Token → Outcome B) (R k rank : ℕ)
    → rank ≤ R → Eats r → IsEnough R k r rank
    → (start : List Token) (j : ℕ) (a : A) (us : List Token) → length us ≤ j
    → R * length us + rank ≤ k → IsIn (loop f s r start j a us)
enough_loop f s r R k rank w E H start zero a [] l m = tt
enough_loop f s r R k rank w E H start zero a (t ∷ us) l m = absurd (omega (arith, l))
enough_loop f s r R k rank w E H start (suc j) a us l m =
    in_pick (chooses s us) _ (ok a us)
    (λ e. in_bind (λ b vs. length vs < length us) (r us) _ (H us m) (E us)
    (λ b vs lt. enough_loop f s r R k rank w E H start j (f a b (span_between start vs)) vs
    (omega (arith, lt, l)) (omega (arith, step_down R (length vs) (length us) lt, m, w))))
    (λ e. tt)

pub eats : {A : Type 0} (P : A → List Token → List Token → Type 0) (r : List Token → Outcome A) (s : List ℕ)
    → IsSound P r → ((v : A) (xs ys : List Token) → P v xs ys → Begins false s xs ys) → Eats r
eats P r s S b ts = go (r ts) (S ts)
  where
    go : (m : Outcome _) → OfOk (λ v us. P v ts us) m → OfOk (λ v rest. length rest < length ts) m
    go (ok v us) h = elim (b v ts us h) [ inl x ↦ absurd (let e = x.0 in cc) | inr x ↦ x.1 ]
    go (stuck us) h = tt
    go (bad x us) h = tt
    go out h = tt

-- an item of a chain
pub item_eats : {N : Type 0} {Value : N → Type 0} (T : Tables N) (M : Mode) (D : (n : N) → Value n
    → List Token → List Token → Type 0) (rec : (n : N) → List Token → Outcome (Value n))
    → ((n : N) (v : Value n) (xs ys : List Token) → D n v xs ys → Begins (T.empty n) (T.first n) xs ys)
    → ((n : N) → IsSound (D n) (rec n))
    → {A B : Type 0} (f : A → B → Span → A) (g : Grammar N Value A) (h : Grammar N Value B)
    → decides T (left_chain f g h) ≡ true → Eats (run T M rec h)
item_eats T M D rec B S f g h l =
    let ll0 = and_true _ _ l in let l' = and_true _ _ ll0.0 in
    let no : nullable T h ≡ false = not_true _ (and_true _ _ ll0.1).0 in
    eats (Means M D h) (run T M rec h) (first T h) (sound T M D rec S h)
    (λ b xs ys d. subst (λ (x : Bool). Begins x (first T h) xs ys) no (begins T M D B h l'.1 b xs ys d))

pub enough : {N : Type 0} {Value : N → Type 0} (T : Tables N) (M : Mode) (D : (n : N) → Value n
    → List Token → List Token → Type 0) (rec : (n : N) → List Token → Outcome (Value n)) (R k : ℕ)
    → ((n : N) (v : Value n) (xs ys : List Token) → D n v xs ys → Begins (T.empty n) (T.first n) xs ys)
    → ((n : N) → IsSound (D n) (rec n)) → ((n : N) → IsEnough R k (rec n) (suc (T.rank n)))
    → {A : Type 0} (g : Grammar N Value A) → decides T g ≡ true → all_ranks T g ≤ R
    → IsEnough R k (run T M rec g) (left_rank T g)
enough T M D rec R k B S H (empty a) l w ts m = tt
enough T M D rec R k B S H (token s) l w [] m = tt
enough T M D rec R k B S H (token s) l w (t ∷ ts) m = in_pick (is_among t.class s) (ok t ts)
    (stuck (t ∷ ts)) (λ e. tt) (λ e. tt)
enough T M D rec R k B S H (sequence {A} {B = C} g h) l w ts m =
    let l' = and_true _ _ (and_true _ _ l).0 in
    in_bind (λ a us. Means M D g a ts us) (run T M rec g ts) _
    (enough T M D rec R k B S H g l'.0 (omega (arith, w)) ts (omega (arith, m))) (sound T M D rec S g ts)
    (λ a us d. in_bind (λ b vs. Unit {0}) (run T M rec h us) (λ b vs. ok (a, b) vs)
    (enough T M D rec R k B S H h l'.1 (omega (arith, w)) us
    (after R k (left_rank T g) (left_rank T h) (nullable T g) (first T g) ts us
    (begins T M D B g l'.0 a ts us d) (omega (arith, lr_le T h, w)) m))
    (any (run T M rec h us)) (λ b vs u. tt))
  where
    any : {A : Type 0} (m : Outcome A) → OfOk (λ b vs. Unit {0}) m
    any (ok a us) = tt
    any (stuck us) = tt
    any (bad x us) = tt
    any out = tt
enough T M D rec R k B S H (choice g h) l w ts m =
    let l' = and_true _ _ (and_true _ _ l).0 in
    in_pick (chooses (first T g) ts) (run T M rec g ts) (run T M rec h ts)
    (λ e. enough T M D rec R k B S H g l'.0 (omega (arith, w)) ts (omega (arith, m)))
    (λ e. enough T M D rec R k B S H h l'.1 (omega (arith, w)) ts (omega (arith, m)))
enough T M D rec R k B S H (mapped {A} {B = C} f g) l w ts m =
    in_bind (λ a us. Means M D g a ts us) (run T M rec g ts) _
    (enough T M D rec R k B S H g l w ts m) (sound T M D rec S g ts) (λ a us d. tt)
enough T M D rec R k B S H (node {A} {B = C} f g) l w ts m =
    in_bind (λ a us. Means M D g a ts us) (run T M rec g ts) _
    (enough T M D rec R k B S H g l w ts m) (sound T M D rec S g ts) (λ a us d. tt)
enough T M D rec R k B S H (checked f g) l w ts m =
    in_bind (λ a us. Means M D g a ts us) (run T M rec g ts) _ (enough T M D rec R k B S H g l w ts m)
    (sound T M D rec S g ts) (λ a us d. in_judge (found M (f a (span_between ts us))) a us)
enough T M D rec R k B S H (symbol n) l w ts m = H n ts m
enough T M D rec R k B S H (left_chain {A} {B = C} f g h) l w ts m =
    let l' = and_true _ _ (and_true _ _ l).0 in
    in_bind (λ a us. Means M D g a ts us) (run T M rec g ts) _
    (enough T M D rec R k B S H g l'.0 (omega (arith, w)) ts (omega (arith, m))) (sound T M D rec S g ts)
    (λ a us d. enough_loop f (first T h) (run T M rec h) R k (left_rank T h)
    (omega (arith, lr_le T h, w)) (item_eats T M D rec B S f g h l)
    (enough T M D rec R k B S H h l'.1 (omega (arith, w))) ts (length us) a us (le_refl _)
    (after R k (left_rank T g) (left_rank T h) (nullable T g) (first T g) ts us
    (begins T M D B g l'.0 a ts us d) (omega (arith, lr_le T h, w)) m))

pub enough_read : {N : Type 0} {Value : N → Type 0} (T : Tables N) (M : Mode)
    (body : (n : N) → Grammar N Value (Value n)) → Sane T body → (R : ℕ)
    → ((n : N) → left_rank T (body n) ≤ T.rank n) → ((n : N) → all_ranks T (body n) ≤ R)
    → (k : ℕ) (n : N) → IsEnough R k (read T M body k n) (suc (T.rank n))
enough_read T M body s R u w zero n ts m = absurd (omega (arith, m))
enough_read T M body s R u w (suc k) n ts m =
    enough T M (Within M body k) (read T M body k) R k (begins_within T M body s k)
    (sound_within T M body k) (enough_read T M body s R u w k) (body n) (s.one n) (w n) ts
    (omega (arith, u n, m))
