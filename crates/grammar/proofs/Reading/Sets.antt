-- Lists of classes.
use Rattle.std.proofs.Common.{◌≡◌, ℕ, Bool, true, false, cond, not, ◌&&◌, ◌||◌, eqb, List, [], ◌∷◌, ◌++◌, ◌⊎◌, inl, inr, refl, eqb-true}
use Rattle.grammar.specs.Grammar.{is_among}
use Rattle.grammar.specs.Tables.{disjoint, subset}

pub and_true : (a b : Bool) → (a && b) ≡ true → (a ≡ true) × (b ≡ true)
and_true true b e = (refl, e)
and_true false b e = absurd cc

pub either : (a b : Bool) → (a || b) ≡ true → (a ≡ true) ⊎ (b ≡ true)
either true b e = inl refl
either false b e = inr e

pub implied : (a b : Bool) → (not a || b) ≡ true → a ≡ true → b ≡ true
implied true b e h = e
implied false b e h = absurd cc

pub not_true : (a : Bool) → not a ≡ true → a ≡ false
not_true true e = absurd cc
not_true false e = refl

pub clash : {A : Type 0} (a : Bool) → a ≡ true → a ≡ false → A
clash a e f = absurd cc

pub cases : (a : Bool) → (a ≡ true) ⊎ (a ≡ false)
cases true = inl refl
cases false = inr refl

pub cond_or : (b x y : Bool) → (x ≡ true → y ≡ true) → cond b true x ≡ true → cond b true y ≡ true
cond_or true x y f e = refl
cond_or false x y f e = f e

pub mem_left : (c : ℕ) (r s : List ℕ) → is_among c r ≡ true → is_among c (r ++ s) ≡ true
mem_left c [] s e = absurd cc
mem_left c (d ∷ r) s e = cond_or (eqb c d) (is_among c r) (is_among c (r ++ s)) (mem_left c r s) e

cond_same : (b : Bool) → cond b true true ≡ true
cond_same true = refl
cond_same false = refl

pub mem_right : (c : ℕ) (r s : List ℕ) → is_among c s ≡ true → is_among c (r ++ s) ≡ true
mem_right c [] s e = e
mem_right c (d ∷ r) s e = rw (mem_right c r s e) (cond_same (eqb c d))

pub not_left : (c : ℕ) (r s : List ℕ) → is_among c (r ++ s) ≡ false → is_among c r ≡ false
not_left c r s e = elim (cases (is_among c r)) [ inl y ↦ clash _ (mem_left c r s y) e | inr n ↦ n ]

pub not_right : (c : ℕ) (r s : List ℕ) → is_among c (r ++ s) ≡ false → is_among c s ≡ false
not_right c r s e = elim (cases (is_among c s)) [ inl y ↦ clash _ (mem_right c r s y) e | inr n ↦ n ]

pub cond_false : (b x : Bool) → cond b false x ≡ true → (b ≡ false) × (x ≡ true)
cond_false true x e = absurd cc
cond_false false x e = (refl, e)

pub cond_and : (b x : Bool) → cond b x false ≡ true → (b ≡ true) × (x ≡ true)
cond_and true x e = (refl, e)
cond_and false x e = absurd cc

pub cond_either : (b x : Bool) → cond b true x ≡ true → (b ≡ true) ⊎ (x ≡ true)
cond_either true x e = inl refl
cond_either false x e = inr e

pub in_subset : (c : ℕ) (r s : List ℕ) → subset r s ≡ true → is_among c r ≡ true → is_among c s ≡ true
in_subset c [] s e m = absurd cc
in_subset c (d ∷ r) s e m = let w = cond_and (is_among d s) (subset r s) e in
    elim (cond_either (eqb c d) (is_among c r) m) [
      | inl q ↦ let same : c ≡ d = eqb-true c d q in rw same w.0
      | inr q ↦ in_subset c r s w.1 q
    ]

pub apart : (c : ℕ) (r s : List ℕ) → disjoint r s ≡ true → is_among c r ≡ true → is_among c s ≡ false
apart c [] s e m = absurd cc
apart c (d ∷ r) s e m = let w = cond_false (is_among d s) (disjoint r s) e in
    elim (cond_either (eqb c d) (is_among c r) m) [
      | inl q ↦ let same : c ≡ d = eqb-true c d q in rw same w.0
      | inr q ↦ apart c r s w.1 q
    ]

pub apart' : (c : ℕ) (r s : List ℕ) → disjoint r s ≡ true → is_among c s ≡ true → is_among c r ≡ false
apart' c r s e m = elim (cases (is_among c r)) [ inl y ↦ clash _ m (apart c r s e y) | inr n ↦ n ]

pub not_subset : (c : ℕ) (r s : List ℕ) → subset r s ≡ true → is_among c s ≡ false → is_among c r ≡ false
not_subset c r s e m = elim (cases (is_among c r)) [ inl y ↦ clash _ (in_subset c r s e y) m | inr n ↦ n ]
