-- Tests of the next token for classes that exclude one another.
use Rattle.std.proofs.Common.{◌≡◌, ◌∙◌, ℕ, Bool, true, false, eqb, inl, inr, refl, sym, ap, List, [], ◌∷◌, cond}
use Rattle.std.proofs.lemmas.Bool.{eqb-true}
use Rattle.grammar.specs.Tokens.{Token, Payload.nothing}
use Rattle.grammar.specs.Grammar.{is_among}
use Rattle.grammar.specs.Tables.{subset}
use Rattle.grammar.specs.States.{State, is_at, is_any}
use Rattle.grammar.proofs.Reading.Sets.{cond_and, cases}
use Rattle.grammar.proofs.Reading.Beginnings.{cond_no}

-- a token of a class, alone
abbrev pub alone : ℕ → State
alone c = record { end = 0; rest = record { class = c; payload = nothing; start = 0; end = 0 } ∷ [] }

-- a token of another class is none of these
other_class_in : (cs : List ℕ) (c e : ℕ) (ts : List Token) → is_any cs (alone c) ≡ false
    → is_at c (record { end = e; rest = ts }) ≡ true → is_any cs (record { end = e; rest = ts }) ≡ false
unfolding is_at
other_class_in cs c e [] apart h = absurd cc
other_class_in cs c e (u ∷ ts) apart h = first_alike cs e u ts
    ∙ ap (λ d. is_any cs (alone d)) (eqb-true u.class c h) ∙ apart
  where
    first_alike : (cs : List ℕ) (e : ℕ) (u : Token) (ts : List Token)
        → is_any cs (record { end = e; rest = u ∷ ts }) ≡ is_any cs (alone u.class)
    first_alike [] e u ts = refl
    first_alike (c ∷ []) e u ts = refl
    first_alike (c ∷ (d ∷ cs)) e u ts = ap (cond (eqb u.class c) true) (first_alike (d ∷ cs) e u ts)

pub other_class : (cs : List ℕ) (c : ℕ) (s : State) → is_any cs (alone c) ≡ false → is_at c s ≡ true
    → is_any cs s ≡ false
other_class cs c s apart h = other_class_in cs c s.end s.rest apart h

neither : (b x : Bool) → cond b true x ≡ false → (b ≡ false) × (x ≡ false)
neither true x h = absurd cc
neither false x h = (refl, h)

-- a token of no class among some is not of one of them
none_alike : (c d : ℕ) (s : State) → eqb c d ≡ true → is_at d s ≡ false → is_at c s ≡ false
none_alike c d s h k = ap (λ x. is_at x s) (eqb-true c d h) ∙ k

pub not_one : (c : ℕ) (ds : List ℕ) (s : State) → is_among c ds ≡ true → is_any ds s ≡ false → is_at c s ≡ false
not_one c [] s h k = absurd cc
not_one c (d ∷ []) s h k = elim (cases (eqb c d)) [
  | inl y ↦ none_alike c d s y k
  | inr n ↦ absurd (let q = sym (cond_no {A = Bool} (eqb c d) true false n) ∙ h in cc)
]
not_one c (d ∷ (e ∷ ds)) s h k =
    let none = neither (is_at d s) (is_any (e ∷ ds) s) k in
    elim (cases (eqb c d)) [
      | inl y ↦ none_alike c d s y none.0
      | inr n ↦ not_one c (e ∷ ds) s (sym (cond_no {A = Bool} (eqb c d) true (is_among c (e ∷ ds)) n) ∙ h) none.1
    ]

pub none_among : (cs ds : List ℕ) (s : State) → subset cs ds ≡ true → is_any ds s ≡ false → is_any cs s ≡ false
none_among [] ds s h k = refl
none_among (c ∷ []) ds s h k = not_one c ds s (cond_and (is_among c ds) true h).0 k
none_among (c ∷ (d ∷ cs)) ds s h k =
    let both = cond_and (is_among c ds) (subset (d ∷ cs) ds) h in
    cond_no {A = Bool} (is_at c s) true (is_any (d ∷ cs) s) (not_one c ds s both.0 k)
    ∙ none_among (d ∷ cs) ds s both.1 k
