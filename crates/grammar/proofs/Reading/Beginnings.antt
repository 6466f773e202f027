-- What a part begins with, by the tables.
use Rattle.std.proofs.Common.{◌≡◌, ℕ, zero, suc, ◌<◌, Bool, true, false, cond, ◌&&◌, ◌||◌, List, [], ◌∷◌, ◌++◌, length, ◌⊎◌, inl, inr, refl, sym, ap, subst, ◌∙◌, arith}
use Rattle.grammar.specs.Tokens.{Token, Span}
use Rattle.grammar.specs.Grammar.{Grammar, Grammar.empty, Grammar.token, Grammar.sequence, Grammar.choice, Grammar.mapped, Grammar.node, Grammar.checked, Grammar.symbol, Grammar.left_chain, Mode, Chain, Chain.base, Chain.more, Means, Within}
use Rattle.grammar.specs.Tables.{subset, Tables, nullable, first, continuations, decides}
use Rattle.grammar.specs.Reading.{chooses}
use Rattle.grammar.proofs.Reading.Sets.{and_true, not_true, mem_left, mem_right, in_subset}

pub cond_yes : {A : Type 0} (b : Bool) (x y : A) → b ≡ true → cond b x y ≡ x
cond_yes true x y e = refl
cond_yes false x y e = absurd cc

pub cond_no : {A : Type 0} (b : Bool) (x y : A) → b ≡ false → cond b x y ≡ y
cond_no true x y e = absurd cc
cond_no false x y e = refl

-- one of two, of which only the one that is picked is computed
abbrev pub pick : {A : Type 0} → Bool → A → A → A
pick {A} b x y = elim b as (λ c. A) [ true ↦ x | false ↦ y ]

pub pick_yes : {A : Type 0} (b : Bool) (x y : A) → b ≡ true → pick b x y ≡ x
pick_yes true x y e = refl
pick_yes false x y e = absurd cc

pub pick_no : {A : Type 0} (b : Bool) (x y : A) → b ≡ false → pick b x y ≡ y
pick_no true x y e = absurd cc
pick_no false x y e = refl

-- either nothing was taken, which may be, or a token that may be first
abbrev pub Begins : Bool → List ℕ → List Token → List Token → Type 0
Begins n s xs ys = ((n ≡ true) × (xs ≡ ys)) ⊎ ((chooses s xs ≡ true) × (length ys < length xs))

-- the tables say at least what the right sides say
pub record Sane {N : Type 0} {Value : N → Type 0} (T : Tables N)
    (body : (n : N) → Grammar N Value (Value n)) : Type 0 where
  pub begins : (n : N) → subset (first T (body n)) (T.first n) ≡ true
  pub empty : (n : N) → nullable T (body n) ≡ T.empty n
  pub more : (n : N) → subset (continuations T (body n)) (T.more n) ≡ true
  pub one : (n : N) → decides T (body n) ≡ true

pub chooses_left : (r s : List ℕ) (xs : List Token) → chooses r xs ≡ true → chooses (r ++ s) xs ≡ true
chooses_left r s [] e = absurd cc
chooses_left r s (t ∷ xs) e = mem_left t.class r s e

pub chooses_right : (r s : List ℕ) (xs : List Token) → chooses s xs ≡ true → chooses (r ++ s) xs ≡ true
chooses_right r s [] e = absurd cc
chooses_right r s (t ∷ xs) e = mem_right t.class r s e

begins_sequence : (a b : Bool) (r s : List ℕ) (xs ms ys : List Token) → Begins a r xs ms
    → Begins b s ms ys → Begins (a && b) (r ++ cond a s []) xs ys
begins_sequence a b r s xs ms ys (inl p) (inl q) = inl (rw (p.0, q.0) refl, p.1 ∙ q.1)
begins_sequence a b r s xs ms ys (inl p) (inr q) =
    inr (
      subst (λ (z : List Token). chooses (r ++ cond a s []) z ≡ true) (sym p.1)
          (chooses_right r (cond a s []) ms (ap (λ (z : Bool). chooses (cond z s []) ms) p.0 ∙ q.0)),
      subst (λ (z : List Token). length ys < length z) (sym p.1) q.1,
    )
begins_sequence a b r s xs ms ys (inr p) (inl q) =
    inr (chooses_left r (cond a s []) xs p.0, subst (λ (z : List Token). length z < length xs) q.1 p.1)
begins_sequence a b r s xs ms ys (inr p) (inr q) =
    inr (chooses_left r (cond a s []) xs p.0, (let u = p.1 in let w = q.1 in omega (arith, u, w)))

or_true : (a : Bool) → (a || true) ≡ true
or_true true = refl
or_true false = refl

begins_left : (a b : Bool) (r s : List ℕ) (xs ys : List Token) → Begins a r xs ys → Begins (a || b) (r ++ s) xs ys
begins_left a b r s xs ys (inl p) = inl (rw p.0 refl, p.1)
begins_left a b r s xs ys (inr p) = inr (chooses_left r s xs p.0, p.1)

begins_right : (a b : Bool) (r s : List ℕ) (xs ys : List Token) → Begins b s xs ys → Begins (a || b) (r ++ s) xs ys
begins_right a b r s xs ys (inl p) = inl (rw p.0 (or_true a), p.1)
begins_right a b r s xs ys (inr p) = inr (chooses_right r s xs p.0, p.1)

begins_more : (a : Bool) (r s : List ℕ) (xs ms ys : List Token) → Begins a (r ++ cond a s []) xs ms
    → Begins false s ms ys → Begins a (r ++ cond a s []) xs ys
begins_more a r s xs ms ys p (inl q) = absurd (let e = q.0 in cc)
begins_more a r s xs ms ys (inl p) (inr q) =
    inr (
      subst (λ (z : List Token). chooses (r ++ cond a s []) z ≡ true) (sym p.1)
          (chooses_right r (cond a s []) ms (ap (λ (z : Bool). chooses (cond z s []) ms) p.0 ∙ q.0)),
      subst (λ (z : List Token). length ys < length z) (sym p.1) q.1,
    )
begins_more a r s xs ms ys (inr p) (inr q) = inr (p.0, (let u = p.1 in let w = q.1 in omega (arith, u, w)))

begins_base : (a : Bool) (r s : List ℕ) (xs ys : List Token) → Begins a r xs ys → Begins a (r ++ cond a s []) xs ys
begins_base a r s xs ys (inl p) = inl p
begins_base a r s xs ys (inr p) = inr (chooses_left r (cond a s []) xs p.0, p.1)

begins_chain : {A B : Type 0} (f : A → B → Span → A) (P : A → List Token → List Token → Type 0)
    (Q : B → List Token → List Token → Type 0) (a : Bool) (r s : List ℕ) (xs : List Token)
    → ((v : A) (ys : List Token) → P v xs ys → Begins a r xs ys)
    → ((v : B) (ys zs : List Token) → Q v ys zs → Begins false s ys zs)
    → (v : A) (ys : List Token) → Chain f P Q xs v ys → Begins a (r ++ cond a s []) xs ys
begins_chain f P Q a r s xs p q _ _ (base v ys h) = begins_base a r s xs ys (p v ys h)
begins_chain f P Q a r s xs p q _ _ (more x b ys zs c h) = begins_more a r s xs ys zs
    (begins_chain f P Q a r s xs p q x ys c) (q b ys zs h)

pub begins : {N : Type 0} {Value : N → Type 0} (T : Tables N) (M : Mode)
    (D : (n : N) → Value n → List Token → List Token → Type 0)
    → ((n : N) (v : Value n) (xs ys : List Token) → D n v xs ys → Begins (T.empty n) (T.first n) xs ys)
    → {A : Type 0} (g : Grammar N Value A) → decides T g ≡ true → (v : A) (xs ys : List Token)
    → Means M D g v xs ys → Begins (nullable T g) (first T g) xs ys
begins T M D H (empty a) e v xs ys d = inl (refl, d.1)
begins T M D H (token s) e v xs ys d = inr (rw d.1 d.0, rw d.1 (omega arith))
begins T M D H (sequence g h) e v xs ys d =
    let w = and_true _ _ e in let w' = and_true _ _ w.0 in
    begins_sequence (nullable T g) (nullable T h) (first T g) (first T h) xs d.0 ys
    (begins T M D H g w'.0 v.0 xs d.0 d.1) (begins T M D H h w'.1 v.1 d.0 ys d.2)
begins T M D H (choice g h) e v xs ys (inl d) =
    let w = and_true _ _ (and_true _ _ e).0 in begins_left (nullable T g) (nullable T h) (first T g)
    (first T h) xs ys (begins T M D H g w.0 v xs ys d)
begins T M D H (choice g h) e v xs ys (inr d) =
    let w = and_true _ _ (and_true _ _ e).0 in begins_right (nullable T g) (nullable T h)
    (first T g) (first T h) xs ys (begins T M D H h w.1 v xs ys d)
begins T M D H (mapped f g) e v xs ys d = begins T M D H g e d.0 xs ys d.2
begins T M D H (node f g) e v xs ys d = begins T M D H g e d.0 xs ys d.2
begins T M D H (checked f g) e v xs ys d = begins T M D H g e v xs ys d.1
begins T M D H (symbol n) e v xs ys d = H n v xs ys d
begins T M D H (left_chain f g h) e v xs ys d =
    let w = and_true _ _ e in let w' = and_true _ _ w.0 in
    let no : nullable T h ≡ false = not_true _ (and_true _ _ w.1).0 in
    begins_chain f (Means M D g) (Means M D h) (nullable T g) (first T g) (first T h) xs
    (λ a us q. begins T M D H g w'.0 a xs us q)
    (λ b us vs q. subst (λ (x : Bool). Begins x (first T h) us vs) no (begins T M D H h w'.1 b us vs q)) v ys d

begins_sub : (a b : Bool) (r s : List ℕ) (xs ys : List Token) → a ≡ b → subset r s ≡ true
    → Begins a r xs ys → Begins b s xs ys
begins_sub a b r s xs ys e q (inl p) = inl (sym e ∙ p.0, p.1)
begins_sub a b r s [] ys e q (inr p) = absurd (let z = p.0 in cc)
begins_sub a b r s (t ∷ xs) ys e q (inr p) = inr (in_subset t.class r s q p.0, p.1)

pub begins_within : {N : Type 0} {Value : N → Type 0} (T : Tables N) (M : Mode)
    (body : (n : N) → Grammar N Value (Value n)) → Sane T body
    → (k : ℕ) (n : N) (v : Value n) (xs ys : List Token) → Within M body k n v xs ys
    → Begins (T.empty n) (T.first n) xs ys
begins_within T M body s zero n v xs ys d = absurd d
begins_within T M body s (suc k) n v xs ys d =
    begins_sub _ _ _ _ xs ys (s.empty n) (s.begins n)
    (begins T M (Within M body k) (begins_within T M body s k) (body n) (s.one n) v xs ys d)
