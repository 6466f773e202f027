-- The reader takes exactly what is derived, and at most one value is derived.
use Rattle.std.proofs.Common.{◌≡◌, ℕ, suc, ◌+◌, List, [], ◌∷◌, ◌++◌, length, inl, inr, refl, sym, ap, subst, ◌∙◌, append_assoc, append-nil, arith, length-append, ◌*◌, ap₂, le_refl}
use Rattle.grammar.specs.Tokens.{Token}
use Rattle.grammar.specs.Grammar.{Grammar, Mode, Mode.unchecked, Part, Derives, IsViable}
use Rattle.grammar.specs.Tables.{Tables, Passes}
use Rattle.grammar.specs.Reading.{Outcome, Outcome.ok, Outcome.stuck, Outcome.bad, Outcome.out, read, read_all}
use Rattle.grammar.proofs.Reading.Beginnings.{Sane}
use Rattle.grammar.proofs.Reading.Sound.{of_ok, sound_read}
use Rattle.grammar.proofs.Reading.Complete.{OrOut, complete_read}
use Rattle.grammar.proofs.Reading.Depth.{loosen}
use Rattle.grammar.proofs.Reading.Frame.{Word, part_is_front}
use Rattle.grammar.proofs.Reading.Step.{sane, has_fuel}
use Rattle.grammar.proofs.Reading.Near.{Near, near_read}

-- with any fuel, a derived list is read, or the fuel is out
pub derived_or : {N : Type 0} {Value : N → Type 0} (T : Tables N) (M : Mode)
    (body : (n : N) → Grammar N Value (Value n)) → Sane T body
    → (k : ℕ) (n : N) (v : Value n) (ts : List Token) → Derives M body n v ts
    → OrOut (read T M body k n ts) v []
derived_or T M body s k n v ts d = complete_read T M body s k n v ts [] d refl

-- what is derived is read
pub accepts : {N : Type 0} {Value : N → Type 0} (T : Tables N) (M : Mode)
    (body : (n : N) → Grammar N Value (Value n)) (R : ℕ) → Passes T body R
    → (n : N) (v : Value n) (ts : List Token) → Derives M body n v ts → read_all T M body R n ts ≡ ok v []
accepts T M body R s n v ts d = elim (derived_or T M body (sane T body R s) (R * length ts + suc (T.rank n)) n v ts d) [
  | inl e ↦ e
  | inr e ↦ absurd (has_fuel T M body R s (R * length ts + suc (T.rank n)) n ts (le_refl _) e)
]

-- what is read is derived
pub exact : {N : Type 0} {Value : N → Type 0} (T : Tables N) (M : Mode)
    (body : (n : N) → Grammar N Value (Value n)) (R : ℕ)
    → (n : N) (v : Value n) (ts : List Token) → read_all T M body R n ts ≡ ok v [] → Derives M body n v ts
exact T M body R n v ts e = of_ok (λ v us. Part M body n v ts us) (read_all T M body R n ts) v []
    (sound_read T M body (R * length ts + suc (T.rank n)) n ts) e

ok_is : {A : Type 0} (v w : A) (us vs : List Token) → ok v us ≡ ok w vs → v ≡ w
ok_is v w us vs e = cc

-- at most one tree
pub one_tree : {N : Type 0} {Value : N → Type 0} (T : Tables N) (M : Mode)
    (body : (n : N) → Grammar N Value (Value n)) (R : ℕ) → Passes T body R
    → (n : N) (v w : Value n) (ts : List Token) → Derives M body n v ts → Derives M body n w ts → v ≡ w
one_tree T M body R s n v w ts d e = ok_is v w [] []
    (sym (accepts T M body R s n v ts d) ∙ accepts T M body R s n w ts e)

not_nil : (q zs : List Token) (t : Token) → q ++ (t ∷ zs) ≡ [] → ⊥
not_nil [] zs t e = cc
not_nil (x ∷ q) zs t e = cc

pub same_front : (p q ts : List Token) → p ++ ts ≡ q ++ ts → p ≡ q
same_front [] [] ts e = refl
same_front [] (y ∷ q) ts e = absurd (omega (arith, ap length e, length-append q ts))
same_front (x ∷ p) [] ts e = absurd (omega (arith, ap length e, length-append p ts))
same_front (x ∷ p) (y ∷ q) ts e =
    let h : x ≡ y = cc in let i : p ++ ts ≡ q ++ ts = cc in
    ap₂ (λ (a : Token) (b : List Token). a ∷ b) h (same_front p q ts i)

-- no sentence goes on with the token at which the reader is stuck, or that it leaves
pub not_stuck : {N : Type 0} {Value : N → Type 0} (T : Tables N) (M : Mode)
    (body : (n : N) → Grammar N Value (Value n)) → Sane T body
    → (k : ℕ) (n : N) (p us : List Token) (t : Token)
    → read T M body k n (p ++ (t ∷ us)) ≡ stuck (t ∷ us) → IsViable body n (p ++ (t ∷ [])) → ⊥
not_stuck {Value} T M body s k n p us t e h =
    go (read T M body k n (p ++ (t ∷ us))) e (near_read T M body s k n t us h.0 p)
    (derived_or T unchecked body s k n h.1.0 (p ++ (t ∷ h.0))
    (subst (λ (x : List Token). Derives unchecked body n h.1.0 x) (append_assoc p (t ∷ []) h.0) h.1.1))
  where
    go : (m : Outcome (Value n)) → m ≡ stuck (t ∷ us)
        → Near t us h.0 m (read T unchecked body k n (p ++ (t ∷ h.0)))
        → OrOut (read T unchecked body k n (p ++ (t ∷ h.0))) h.1.0 [] → ⊥
    go (ok v r) e w o = cc
    go (bad x r) e w o = cc
    go out e w o = cc
    go (stuck r) e (inl l) o = let q : r ≡ t ∷ us = cc in absurd (omega (arith, l, ap length q))
    go (stuck r) e (inr w) (inl o) = let q = w.2 in absurd cc
    go (stuck r) e (inr w) (inr o) = let q = w.2 in absurd cc

pub not_left_over : {N : Type 0} {Value : N → Type 0} (T : Tables N) (M : Mode)
    (body : (n : N) → Grammar N Value (Value n)) → Sane T body
    → (k : ℕ) (n : N) (p us : List Token) (t : Token) (v : Value n)
    → read T M body k n (p ++ (t ∷ us)) ≡ ok v (t ∷ us) → IsViable body n (p ++ (t ∷ [])) → ⊥
not_left_over {Value} T M body s k n p us t v e h =
    go (read T M body k n (p ++ (t ∷ us))) e (near_read T M body s k n t us h.0 p)
    (derived_or T unchecked body s k n h.1.0 (p ++ (t ∷ h.0))
    (subst (λ (x : List Token). Derives unchecked body n h.1.0 x) (append_assoc p (t ∷ []) h.0) h.1.1))
  where
    go : (m : Outcome (Value n)) → m ≡ ok v (t ∷ us)
        → Near t us h.0 m (read T unchecked body k n (p ++ (t ∷ h.0)))
        → OrOut (read T unchecked body k n (p ++ (t ∷ h.0))) h.1.0 [] → ⊥
    go (stuck r) e w o = cc
    go (bad x r) e w o = cc
    go out e w o = cc
    go (ok v' r) e (inl l) o = let q : r ≡ t ∷ us = cc in absurd (omega (arith, l, ap length q))
    go (ok v' r) e (inr w) (inl o) = not_nil w.0 h.0 t (let q = w.3 in cc)
    go (ok v' r) e (inr w) (inr o) = let q = w.3 in absurd cc

-- what begins a word begins a sentence
pub viable_front : {N : Type 0} {Value : N → Type 0} (body : (n : N) → Grammar N Value (Value n)) (n : N)
    (v : Value n) (p z : List Token) → Word (Part unchecked body n) v (p ++ z) → IsViable body n p
viable_front body n v p z w =
    (z, (v, subst (λ (x : List Token). Derives unchecked body n v x) (append-nil (p ++ z)) (w [])))

-- a part in any mode is a front that is a sentence
pub part_front : {N : Type 0} {Value : N → Type 0} (M : Mode)
    (body : (n : N) → Grammar N Value (Value n)) (n : N) (v : Value n) (ts us : List Token)
    → Part M body n v ts us → (p : List Token) × (ts ≡ p ++ us) × IsViable body n p
part_front M body n v ts us d =
    let w = part_is_front unchecked body n v ts us (loosen M body n v ts us d) in
    (w.0, w.1, ([], (v, subst (λ (x : List Token). Derives unchecked body n v x) (sym (append-nil w.0)) w.2)))
