-- Each outcome of the reader is true.
use Rattle.std.proofs.Common.{◌≡◌, ℕ, suc, ◌+◌, ◌≤◌, true, false, List, [], ◌∷◌, length, inl, inr, refl, sym, ap, subst, ◌∙◌, append_assoc, append-nil, arith, ◌*◌, le_refl}
use Rattle.grammar.specs.Tokens.{Token, Fault}
use Rattle.grammar.specs.Grammar.{is_among, Grammar, Mode.checking, Mode.unchecked, Part, Derives, IsSentence, IsViable}
use Rattle.grammar.specs.Endings.{last_class}
use Rattle.grammar.specs.Faults.{FaultIn, IsUnexpected}
use Rattle.grammar.specs.Tables.{subset, Tables, Passes}
use Rattle.grammar.specs.Reading.{Says, Outcome, Outcome.ok, Outcome.stuck, Outcome.bad, Outcome.out, read, read_all}
use Rattle.grammar.proofs.Reading.Sets.{apart, not_subset}
use Rattle.grammar.proofs.Reading.Sound.{of_ok, sound_read}
use Rattle.grammar.proofs.Reading.Step.{sane, has_fuel}
use Rattle.grammar.proofs.Reading.Near.{Follows, follows_read}
use Rattle.grammar.proofs.Reading.Viable.{HasSentences, viable_read, of_stuck, of_bad}
use Rattle.grammar.proofs.Reading.Exact.{derived_or, not_stuck, not_left_over, viable_front, part_front, accepts}
use Rattle.grammar.proofs.Faults.Anchors.{Consumed}
use Rattle.grammar.proofs.Faults.NotAfter.{KeepsApart}
use Rattle.grammar.proofs.Faults.First.{OfBad, faults_read, IsGuarded, named}

-- what the tables and the checked symbols of a grammar are tested for
pub record IsTested {N : Type 0} {Value : N → Type 0} (T : Tables N)
    (body : (n : N) → Grammar N Value (Value n)) (R : ℕ) (apart : N → List ℕ) : Type 0 where
  pub passes : Passes T body R
  pub sentences : HasSentences body
  pub guarded : IsGuarded T body apart
  pub following : List ℕ
  pub within : (n : N) → subset (apart n) following ≡ true
  pub keeps : KeepsApart body following
  pub no_token : is_among 0 following ≡ false

bad_of : {A : Type 0} (P : Fault → List Token → Type 0) (m : Outcome A) (x : Fault) (us : List Token)
    → OfBad P m → m ≡ bad x us → P x us
bad_of P m x us p e = subst (OfBad P) e p

-- each outcome is true
ended : {N : Type 0} {Value : N → Type 0} (T : Tables N) (body : (n : N) → Grammar N Value (Value n))
    (R : ℕ) (apart : N → List ℕ) → IsTested T body R apart
    → (k : ℕ) (n : N) (ts : List Token) → R * length ts + suc (T.rank n) ≤ k
    → (o : Outcome (Value n)) → read T checking body k n ts ≡ o → Says body apart n ts o
ended T body R apart s k n ts l (ok v []) e = (
  of_ok (λ v us. Part checking body n v ts us) (read T checking body k n ts) v []
      (sound_read T checking body k n ts) e,
  λ x ys f z. let w = named T body R s.passes apart s.guarded k n ts x ys f
      (subst (Consumed ys) (sym e) (omega arith)) in let w' = w.2 in absurd cc,
)
ended T body R apart s k n ts l (ok v (t ∷ us)) e =
    let w = part_front checking body n v ts (t ∷ us) (of_ok (λ v us. Part checking body n v ts us)
    (read T checking body k n ts) v (t ∷ us) (sound_read T checking body k n ts) e) in (
      w.0,
      w.1,
      w.2,
      not_left_over T checking body (sane T body R s.passes) k n w.0 us t v
          (ap (read T checking body k n) (sym w.1) ∙ e),
      λ x ys f z. let w = named T body R s.passes apart s.guarded k n ts x ys f
          (subst (Consumed ys) (sym e) z) in let w' = w.2 in absurd cc,
    )
ended T body R apart s k n ts l (stuck []) e =
    let w = of_stuck _ (read T checking body k n ts) []
    (viable_read T checking body (sane T body R s.passes) s.sentences k n ts) e in (
      subst (IsViable body n) (sym (w.3 ∙ append-nil w.0)) (viable_front body n w.2 w.0 w.1 w.4),
      (λ d. let a = derived_or T unchecked body (sane T body R s.passes) k n d.0 ts d.1 in let h =
          subst (λ (m : Outcome _). Follows m (read T unchecked body k n ts)) e (follows_read T checking body k n ts) in
          elim a [ inl q ↦ absurd cc | inr q ↦ absurd cc ]),
      λ x ys f z. let w = named T body R s.passes apart s.guarded k n ts x ys f
          (subst (Consumed ys) (sym e) (omega arith)) in let w' = w.2 in absurd cc,
    )
ended T body R apart s k n ts l (stuck (t ∷ us)) e =
    let w = of_stuck _ (read T checking body k n ts) (t ∷ us)
    (viable_read T checking body (sane T body R s.passes) s.sentences k n ts) e in (
      w.0,
      w.3,
      viable_front body n w.2 w.0 w.1 w.4,
      not_stuck T checking body (sane T body R s.passes) k n w.0 us t
          (ap (read T checking body k n) (sym w.3) ∙ e),
      λ x ys f z. let w = named T body R s.passes apart s.guarded k n ts x ys f
          (subst (Consumed ys) (sym e) z) in let w' = w.2 in absurd cc,
    )
ended T body R apart s k n ts l (bad x us) e =
    let w = of_bad _ (read T checking body k n ts) x us
    (viable_read T checking body (sane T body R s.passes) s.sentences k n ts) e in
    let f = bad_of _ (read T checking body k n ts) x us
    (faults_read T body (sane T body R s.passes) s.following s.keeps k n 0 ts s.no_token) e in (
      w.0,
      w.3,
      viable_front body n w.2 w.0 w.1 w.4,
      record {
        symbol_of = f.0;
        before = f.1;
        from = f.2;
        whole = f.3;
        not_after = not_subset (last_class 0 f.1) (apart f.0) s.following (s.within f.0) f.4;
        ended = f.5;
        faulty = f.6;
      },
      λ y ys g z.
          let w = named T body R s.passes apart s.guarded k n ts y ys g
          (subst (Consumed ys) (sym e) (omega (arith, z))) in
          let h : bad x us ≡ bad w.0 w.1 = sym e ∙ w.2 in let q : us ≡ w.1 = cc in
          absurd (let i = w.3 in let j = ap length q in omega (arith, z, i, j)),
    )
ended T body R apart s k n ts l out e = has_fuel T checking body R s.passes k n ts l e

pub outcomes : {N : Type 0} {Value : N → Type 0} (T : Tables N)
    (body : (n : N) → Grammar N Value (Value n)) (R : ℕ) (apart : N → List ℕ) → IsTested T body R apart
    → (n : N) (ts : List Token) → Says body apart n ts (read_all T checking body R n ts)
outcomes T body R apart s n ts = ended T body R apart s (R * length ts + suc (T.rank n)) n ts
    (le_refl _) (read_all T checking body R n ts) refl

-- a sentence with no fault has a tree
pub faultless : {N : Type 0} {Value : N → Type 0} (T : Tables N)
    (body : (n : N) → Grammar N Value (Value n)) (R : ℕ) (apart : N → List ℕ) → IsTested T body R apart
    → (n : N) (ts : List Token) → IsSentence body n ts
    → ((x : Fault) (ys : List Token) → FaultIn body apart ts x ys → ⊥)
    → (v : Value n) × Derives checking body n v ts
faultless {N} {Value} T body R apart s n ts d none = go (read_all T checking body R n ts)
    (outcomes T body R apart s n ts)
  where
    cut : (t : Token) (us : List Token) → IsUnexpected body apart n ts t us → ⊥
    cut t us (p, e, v, refuse, f) = refuse (
      us,
      (d.0, subst (λ (z : List Token). Derives unchecked body n d.0 z) (e ∙ sym (append_assoc p (t ∷ []) us)) d.1),
    )

    go : (o : Outcome (Value n)) → Says body apart n ts o → (v : Value n) × Derives checking body n v ts
    go (ok v []) h = (v, h.0)
    go (ok v (t ∷ us)) h = absurd (cut t us h)
    go (stuck []) h = absurd (h.1 d)
    go (stuck (t ∷ us)) h = absurd (cut t us h)
    go (bad x us) h = absurd (none x us h.3)
    go out h = absurd h

-- a list that derives a tree has no fault
pub no_fault : {N : Type 0} {Value : N → Type 0} (T : Tables N)
    (body : (n : N) → Grammar N Value (Value n)) (R : ℕ) (apart : N → List ℕ) → IsTested T body R apart
    → (n : N) (v : Value n) (ts : List Token) → Derives checking body n v ts
    → (x : Fault) (ys : List Token) → FaultIn body apart ts x ys → ⊥
no_fault T body R apart s n v ts d x ys f =
    (subst (Says body apart n ts) (accepts T checking body R s.passes n v ts d)
    (outcomes T body R apart s n ts)).1 x ys f (omega arith)
