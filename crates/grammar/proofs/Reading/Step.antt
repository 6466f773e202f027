-- The reader's equation, with no fuel.
use Rattle.std.proofs.Common.{◌≡◌, ℕ, zero, suc, ◌+◌, ◌≤◌, Bool, true, false, List, length, ◌⊎◌, inl, inr, refl, sym, ap, subst, ◌∙◌, arith, ◌*◌, le_refl}
use Rattle.grammar.specs.Tokens.{Token, Span, span_between}
use Rattle.grammar.specs.Grammar.{Grammar, Grammar.empty, Grammar.token, Grammar.sequence, Grammar.choice, Grammar.mapped, Grammar.node, Grammar.checked, Grammar.symbol, Grammar.left_chain, Mode}
use Rattle.grammar.specs.Tables.{Tables, first, Passes}
use Rattle.grammar.specs.Reading.{Outcome, Outcome.ok, Outcome.stuck, Outcome.bad, Outcome.out, bind, chooses, loop, run, read, read_all}
use Rattle.grammar.proofs.Reading.Beginnings.{pick, Sane}
use Rattle.grammar.proofs.Reading.Depth.{deeper}
use Rattle.grammar.proofs.Reading.Enough.{not_out, enough_read}

pub sane : {N : Type 0} {Value : N → Type 0} (T : Tables N) (body : (n : N) → Grammar N Value (Value n)) (R : ℕ)
    → Passes T body R → Sane T body
sane T body R s = record { begins = s.begins; empty = s.empty; more = s.more; one = s.one }

pub has_fuel : {N : Type 0} {Value : N → Type 0} (T : Tables N) (M : Mode)
    (body : (n : N) → Grammar N Value (Value n)) (R : ℕ) → Passes T body R
    → (k : ℕ) (n : N) (ts : List Token) → R * length ts + suc (T.rank n) ≤ k
    → read T M body k n ts ≡ out → ⊥
has_fuel T M body R s k n ts l e = not_out (read T M body k n ts)
    (enough_read T M body (sane T body R s) R s.rank s.ranks k n ts l) e

-- the same outcome, or the fuel is out
abbrev pub Below : {A : Type 0} → Outcome A → Outcome A → Type 0
Below m m' = (m ≡ out) ⊎ (m ≡ m')

below_bind : {A B : Type 0} (m m' : Outcome A) (f f' : A → List Token → Outcome B) → Below m m'
    → ((a : A) (us : List Token) → Below (f a us) (f' a us)) → Below (bind m f) (bind m' f')
below_bind m m' f f' (inl e) h = inl (ap (λ (x : Outcome _). bind x f) e)
below_bind (ok a us) m' f f' (inr e) h = subst (λ (x : Outcome _). Below (f a us) (bind x f')) e (h a us)
below_bind (stuck us) m' f f' (inr e) h = inr (ap (λ (x : Outcome _). bind x f') e)
below_bind (bad x us) m' f f' (inr e) h = inr (ap (λ (x : Outcome _). bind x f') e)
below_bind out m' f f' (inr e) h = inl refl

below_pick : {A : Type 0} (b : Bool) (x y x' y' : Outcome A) → Below x x' → Below y y'
    → Below (pick b x y) (pick b x' y')
below_pick true x y x' y' h k = h
below_pick false x y x' y' h k = k

below_loop : {A B : Type 0} (f : A → B → Span → A) (s : List ℕ) (r r' : List Token → Outcome B)
    (start : List Token) → ((ts : List Token) → Below (r ts) (r' ts))
    → (k : ℕ) (a : A) (us : List Token) → Below (loop f s r start k a us) (loop f s r' start k a us)
below_loop f s r r' start H zero a us = inr refl
below_loop f s r r' start H (suc k) a us =
    below_pick (chooses s us) _ _ _ _ (below_bind (r us) (r' us) _ _ (H us)
    (λ b vs. below_loop f s r r' start H k (f a b (span_between start vs)) vs)) (inr refl)

below : {N : Type 0} {Value : N → Type 0} (T : Tables N) (M : Mode) (rec rec' : (n : N) → List Token
    → Outcome (Value n)) → ((n : N) (ts : List Token) → Below (rec n ts) (rec' n ts))
    → {A : Type 0} (g : Grammar N Value A) (ts : List Token) → Below (run T M rec g ts) (run T M rec' g ts)
below T M rec rec' H (empty a) ts = inr refl
below T M rec rec' H (token s) ts = inr refl
below T M rec rec' H (sequence g h) ts = below_bind _ _ _ _ (below T M rec rec' H g ts)
    (λ a us. below_bind _ _ _ _ (below T M rec rec' H h us) (λ b vs. inr refl))
below T M rec rec' H (choice g h) ts = below_pick (chooses (first T g) ts) _ _ _ _
    (below T M rec rec' H g ts) (below T M rec rec' H h ts)
below T M rec rec' H (mapped f g) ts = below_bind _ _ _ _ (below T M rec rec' H g ts) (λ a us. inr refl)
below T M rec rec' H (node f g) ts = below_bind _ _ _ _ (below T M rec rec' H g ts) (λ a us. inr refl)
below T M rec rec' H (checked f g) ts = below_bind _ _ _ _ (below T M rec rec' H g ts) (λ a us. inr refl)
below T M rec rec' H (symbol n) ts = H n ts
below T M rec rec' H (left_chain f g h) ts = below_bind _ _ _ _ (below T M rec rec' H g ts)
    (λ a us. below_loop f (first T h) (run T M rec h) (run T M rec' h) ts (below T M rec rec' H h) (length us) a us)

below_suc : {N : Type 0} {Value : N → Type 0} (T : Tables N) (M : Mode)
    (body : (n : N) → Grammar N Value (Value n)) (k : ℕ) (n : N) (ts : List Token)
    → Below (read T M body k n ts) (read T M body (suc k) n ts)
below_suc T M body zero n ts = inl refl
below_suc T M body (suc k) n ts = below T M (read T M body k) (read T M body (suc k)) (below_suc T M body k) (body n) ts

below_trans : {A : Type 0} (a b c : Outcome A) → Below a b → Below b c → Below a c
below_trans a b c (inl e) h = inl e
below_trans a b c (inr e) h = subst (λ (x : Outcome _). Below x c) (sym e) h

below_deeper : {N : Type 0} {Value : N → Type 0} (T : Tables N) (M : Mode)
    (body : (n : N) → Grammar N Value (Value n)) (j k : ℕ) (n : N) (ts : List Token)
    → Below (read T M body k n ts) (read T M body (deeper j k) n ts)
below_deeper T M body zero k n ts = inr refl
below_deeper T M body (suc j) k n ts = below_trans _ _ _ (below_deeper T M body j k n ts)
    (below_suc T M body (deeper j k) n ts)

deeper_is : (j k : ℕ) → deeper j k ≡ j + k
deeper_is zero k = omega arith
deeper_is (suc j) k = let ih = deeper_is j k in omega (arith, ih)

-- with any fuel, the outcome is that of enough fuel, or the fuel is out
pub below_all : {N : Type 0} {Value : N → Type 0} (T : Tables N) (M : Mode)
    (body : (n : N) → Grammar N Value (Value n)) (R : ℕ) → Passes T body R
    → (k : ℕ) (n : N) (ts : List Token) → Below (read T M body k n ts) (read_all T M body R n ts)
below_all T M body R s k n ts =
    let b : ℕ = R * length ts + suc (T.rank n) in
    let up = below_deeper T M body k b n ts in
    let up' = below_deeper T M body b k n ts in
    let same : deeper b k ≡ deeper k b = deeper_is b k ∙ (omega arith) ∙ sym (deeper_is k b) in
    elim up [
      | inl e ↦ absurd (has_fuel T M body R s b n ts (le_refl _) e)
      | inr e ↦ elim up' [ inl x ↦ inl x | inr x ↦ inr (x ∙ ap (λ (z : ℕ). read T M body z n ts) same ∙ sym e) ]
    ]

-- The reader's equation, with no fuel.
pub step : {N : Type 0} {Value : N → Type 0} (T : Tables N) (M : Mode)
    (body : (n : N) → Grammar N Value (Value n)) (R : ℕ) → Passes T body R
    → (n : N) (ts : List Token) → read_all T M body R n ts ≡ run T M (read_all T M body R) (body n) ts
step T M body R s n ts =
    let b : ℕ = R * length ts + suc (T.rank n) in
    elim (below T M (read T M body b) (read_all T M body R) (below_all T M body R s b) (body n) ts) [
      | inl e ↦ absurd (has_fuel T M body R s (suc b) n ts (omega arith) e)
      | inr e ↦ elim (below_suc T M body b n ts) [
        | inl x ↦ absurd (has_fuel T M body R s b n ts (le_refl _) x)
        | inr x ↦ x ∙ e
      ]
    ]
