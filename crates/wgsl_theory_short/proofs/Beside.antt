-- Which classes of tokens are next to one another in what a grammar derives: none of some before
-- one
-- of others, where the rules have none so.
use Rattle.std.proofs.Common.{◌≡◌, ℕ, zero, suc, Bool, true, false, cond, not, ◌&&◌, ◌||◌, ◌⊎◌, inl, inr, refl, sym, ap, subst, ◌∙◌, List, [], ◌∷◌, ◌++◌, append_assoc, append-nil, ◌==◌}
use Rattle.std.proofs.lemmas.Bool.{and_parts, and_from, true≢false, or_left, or_right, eqb-true}
use Rattle.grammar.specs.Tokens.{Token, Span}
use Rattle.grammar.specs.Grammar.{Grammar, Grammar.empty, Grammar.token, Grammar.sequence, Grammar.choice, Grammar.mapped, Grammar.node, Grammar.checked, Grammar.symbol, Grammar.left_chain, Mode, Chain, Chain.base, Chain.more, Means, Within, is_among}
use Rattle.wgsl_theory_printed.proofs.Spelling.Split.{by_either}

-- ---- rules

-- some class of the first is one of the second
abbrev pub meets : List ℕ → List ℕ → Bool
meets [] s = false
meets (c ∷ r) s = is_among c s || meets r s

-- whether each symbol may be empty, begin with one of the classes q and end with one of p
pub record Sides (N : Type 0) : Type 0 where
  pub empty : N → Bool
  pub begins : N → Bool
  pub ends : N → Bool

abbrev pub may_empty : {N : Type 0} {Value : N → Type 0} (T : Sides N) {A : Type 0} → Grammar N Value A → Bool
may_empty T (empty a) = true
may_empty T (token s) = false
may_empty T (sequence g h) = may_empty T g && may_empty T h
may_empty T (choice g h) = may_empty T g || may_empty T h
may_empty T (mapped f g) = may_empty T g
may_empty T (node f g) = may_empty T g
may_empty T (checked f g) = may_empty T g
may_empty T (symbol n) = T.empty n
may_empty T (left_chain f g h) = may_empty T g

abbrev pub may_begin : {N : Type 0} {Value : N → Type 0} (T : Sides N) (q : List ℕ) {A : Type 0}
    → Grammar N Value A → Bool
may_begin T q (empty a) = false
may_begin T q (token s) = meets s q
may_begin T q (sequence g h) = may_begin T q g || (may_empty T g && may_begin T q h)
may_begin T q (choice g h) = may_begin T q g || may_begin T q h
may_begin T q (mapped f g) = may_begin T q g
may_begin T q (node f g) = may_begin T q g
may_begin T q (checked f g) = may_begin T q g
may_begin T q (symbol n) = T.begins n
may_begin T q (left_chain f g h) = may_begin T q g || (may_empty T g && may_begin T q h)

abbrev pub may_end : {N : Type 0} {Value : N → Type 0} (T : Sides N) (p : List ℕ) {A : Type 0}
    → Grammar N Value A → Bool
may_end T p (empty a) = false
may_end T p (token s) = meets s p
may_end T p (sequence g h) = may_end T p h || (may_empty T h && may_end T p g)
may_end T p (choice g h) = may_end T p g || may_end T p h
may_end T p (mapped f g) = may_end T p g
may_end T p (node f g) = may_end T p g
may_end T p (checked f g) = may_end T p g
may_end T p (symbol n) = T.ends n
may_end T p (left_chain f g h) = may_end T p g || may_end T p h

-- no part that may end with p is before one that may begin with q
abbrev pub keeps_apart : {N : Type 0} {Value : N → Type 0} (T : Sides N) (p q : List ℕ) {A : Type 0}
    → Grammar N Value A → Bool
keeps_apart T p q (empty a) = true
keeps_apart T p q (token s) = true
keeps_apart T p q (sequence g h) =
    not (may_end T p g && may_begin T q h) && (keeps_apart T p q g && keeps_apart T p q h)
keeps_apart T p q (choice g h) = keeps_apart T p q g && keeps_apart T p q h
keeps_apart T p q (mapped f g) = keeps_apart T p q g
keeps_apart T p q (node f g) = keeps_apart T p q g
keeps_apart T p q (checked f g) = keeps_apart T p q g
keeps_apart T p q (symbol n) = true
keeps_apart T p q (left_chain f g h) =
    not ((may_end T p g || may_end T p h) && may_begin T q h) && (keeps_apart T p q g && keeps_apart T p q h)

-- ---- tokens

abbrev pub first_among : List ℕ → List Token → Bool
first_among q [] = false
first_among q (t ∷ ts) = is_among t.class q

abbrev pub last_among : List ℕ → List Token → Bool
last_among p [] = false
last_among p (t ∷ []) = is_among t.class p
last_among p (t ∷ (u ∷ ts)) = last_among p (u ∷ ts)

-- no token of a class p is before one of a class q
abbrev pub are_apart : List ℕ → List ℕ → List Token → Bool
are_apart p q [] = true
are_apart p q (t ∷ ts) = not (is_among t.class p && first_among q ts) && are_apart p q ts

-- the tokens of a part, which may be empty, begin with q and end with p
record Taken (p q : List ℕ) (empty begins ends : Bool) (xs ys : List Token) : Type 0 where
  tokens : List Token
  whole : xs ≡ tokens ++ ys
  no_token : tokens ≡ [] → empty ≡ true
  first : first_among q tokens ≡ true → begins ≡ true
  last : last_among p tokens ≡ true → ends ≡ true
  inside : are_apart p q tokens ≡ true

first_of : (q : List ℕ) (us vs : List Token) → first_among q (us ++ vs) ≡ true
    → (first_among q us ≡ true) ⊎ ((us ≡ []) × (first_among q vs ≡ true))
first_of q [] vs h = inr (refl, h)
first_of q (t ∷ us) vs h = inl h

last_of : (p : List ℕ) (us vs : List Token) → last_among p (us ++ vs) ≡ true
    → (last_among p vs ≡ true) ⊎ ((vs ≡ []) × (last_among p us ≡ true))
last_of p [] vs h = inl h
last_of p (t ∷ []) [] h = inr (refl, h)
last_of p (t ∷ []) (v ∷ vs) h = inl h
last_of p (t ∷ (u ∷ us)) vs h = last_of p (u ∷ us) vs h

none_of : (us vs : List Token) → us ++ vs ≡ [] → (us ≡ []) × (vs ≡ [])
none_of [] vs e = (refl, e)
none_of (u ∷ us) vs e = absurd cc

both_apart : (p q : List ℕ) (us vs : List Token) → are_apart p q us ≡ true → are_apart p q vs ≡ true
    → (last_among p us ≡ true → first_among q vs ≡ true → ⊥) → are_apart p q (us ++ vs) ≡ true
both_apart p q [] vs a b n = b
both_apart p q (t ∷ []) vs a b n = and_from _ (are_apart p q vs) (no (is_among t.class p) (first_among q vs) n) b
  where
    no : (x y : Bool) → (x ≡ true → y ≡ true → ⊥) → not (x && y) ≡ true
    no true true f = absurd (f refl refl)
    no true false f = refl
    no false y f = refl
both_apart p q (t ∷ (u ∷ us)) vs a b n =
    let parts = and_parts (not (is_among t.class p && is_among u.class q)) (are_apart p q (u ∷ us)) a in
    and_from _ (are_apart p q ((u ∷ us) ++ vs)) parts.0 (both_apart p q (u ∷ us) vs parts.1 b n)

pub clash : (x y : Bool) → not (x && y) ≡ true → x ≡ true → y ≡ true → ⊥
clash true true h a b = true≢false (sym h)
clash true false h a b = true≢false (sym b)
clash false y h a b = true≢false (sym a)

-- one part after another
taken_both : {p q : List ℕ} {e b d f c g : Bool} {xs ms ys : List Token} → Taken p q e b d xs ms
    → Taken p q f c g ms ys → not (d && c) ≡ true → Taken p q (e && f) (b || (e && c)) (g || (f && d)) xs ys
taken_both {p} {q} {e} {b} {d} {f} {c} {g} {xs} {ms} {ys} s t n = record {
  tokens = s.tokens ++ t.tokens;
  whole = s.whole ∙ ap (λ zs. s.tokens ++ zs) t.whole ∙ sym (append_assoc s.tokens t.tokens ys);
  no_token = λ h. (let none = none_of s.tokens t.tokens h in and_from e f (s.no_token none.0) (t.no_token none.1));
  first = λ h. begin (first_of q s.tokens t.tokens h);
  last = λ h. end (last_of p s.tokens t.tokens h);
  inside = both_apart p q s.tokens t.tokens s.inside t.inside (λ h k. clash d c n (s.last h) (t.first k));
}
  where
    begin : (first_among q s.tokens ≡ true) ⊎ ((s.tokens ≡ []) × (first_among q t.tokens ≡ true))
        → (b || (e && c)) ≡ true
    begin (inl h) = or_left b (e && c) (s.first h)
    begin (inr h) = or_right b (e && c) (and_from e c (s.no_token h.0) (t.first h.1))

    end : (last_among p t.tokens ≡ true) ⊎ ((t.tokens ≡ []) × (last_among p s.tokens ≡ true)) → (g || (f && d)) ≡ true
    end (inl h) = or_left g (f && d) (t.last h)
    end (inr h) = or_right g (f && d) (and_from f d (t.no_token h.0) (s.last h.1))

taken_wider : {p q : List ℕ} {e b d f c g : Bool} {xs ys : List Token} → (e ≡ true → f ≡ true)
    → (b ≡ true → c ≡ true) → (d ≡ true → g ≡ true) → Taken p q e b d xs ys → Taken p q f c g xs ys
taken_wider i j k t = record {
  tokens = t.tokens;
  whole = t.whole;
  no_token = λ h. i (t.no_token h);
  first = λ h. j (t.first h);
  last = λ h. k (t.last h);
  inside = t.inside;
}

taken_none : {p q : List ℕ} (xs ys : List Token) → xs ≡ ys → Taken p q true false false xs ys
taken_none xs ys e = record {
  tokens = [];
  whole = e;
  no_token = λ h. refl;
  first = λ h. absurd (true≢false (sym h));
  last = λ h. absurd (true≢false (sym h));
  inside = refl;
}

among_meets : (c : ℕ) (s q : List ℕ) → is_among c s ≡ true → is_among c q ≡ true → meets s q ≡ true
among_meets c [] q h k = absurd (true≢false (sym h))
among_meets c (d ∷ s) q h k = go (c == d) refl h (λ m. among_meets c s q m k)
  where
    go : (b : Bool) → (c == d) ≡ b → cond b true (is_among c s) ≡ true
        → (is_among c s ≡ true → meets s q ≡ true) → (is_among d q || meets s q) ≡ true
    go true e m f = or_left (is_among d q) (meets s q) (ap (λ x. is_among x q) (sym (eqb-true c d e)) ∙ k)
    go false e m f = or_right (is_among d q) (meets s q) (f m)

taken_one : {p q : List ℕ} (t : Token) (s : List ℕ) (xs ys : List Token) → is_among t.class s ≡ true → xs ≡ t ∷ ys
    → Taken p q false (meets s q) (meets s p) xs ys
taken_one {p} {q} t s xs ys h e = record {
  tokens = t ∷ [];
  whole = e;
  no_token = λ n. absurd cc;
  first = λ k. among_meets t.class s q h k;
  last = λ k. among_meets t.class s p h k;
  inside = and_from _ true (no (is_among t.class p)) refl;
}
  where
    no : (x : Bool) → not (x && false) ≡ true
    no true = refl
    no false = refl

-- ---- the left-recursive rule

chain_taken : {p q : List ℕ} {e b d f c g : Bool} {A B : Type 0} (m : A → B → Span → A)
    (P : A → List Token → List Token → Type 0) (Q : B → List Token → List Token → Type 0) (xs : List Token)
    → ((v : A) (ys : List Token) → P v xs ys → Taken p q e b d xs ys)
    → ((v : B) (ys zs : List Token) → Q v ys zs → Taken p q f c g ys zs)
    → not ((d || g) && c) ≡ true → (v : A) (ys : List Token) → Chain m P Q xs v ys
    → Taken p q e (b || (e && c)) (d || g) xs ys
chain_taken {e = e} {b = b} {d = d} {f = f} {c = c} {g = g} m P Q xs i j n _ _ (base v ys h) =
    taken_wider (λ x. x) (λ x. or_left b (e && c) x) (λ x. or_left d g x) (i v ys h)
chain_taken {e = e} {b = b} {d = d} {f = f} {c = c} {g = g} m P Q xs i j n _ _ (more x y ys zs h k) =
    taken_wider (λ t. (and_parts e f t).0)
    (λ t. by_either (b || (e && c)) (e && c) t (λ s. s) (λ s. or_right b (e && c) s))
    (λ t. by_either g (f && (d || g)) t (λ s. or_right d g s) (λ s. (and_parts f (d || g) s).1))
    (taken_both (chain_taken m P Q xs i j n x ys h) (j y ys zs k) n)

-- ---- what a part derives

taken : {N : Type 0} {Value : N → Type 0} (T : Sides N) (p q : List ℕ) (M : Mode)
    (D : (n : N) → Value n → List Token → List Token → Type 0)
    → ((n : N) (v : Value n) (xs ys : List Token) → D n v xs ys
    → Taken p q (T.empty n) (T.begins n) (T.ends n) xs ys)
    → {A : Type 0} (g : Grammar N Value A) → keeps_apart T p q g ≡ true → (v : A) (xs ys : List Token)
    → Means M D g v xs ys → Taken p q (may_empty T g) (may_begin T q g) (may_end T p g) xs ys
taken T p q M D H (empty a) k v xs ys d = taken_none xs ys d.1
taken T p q M D H (token s) k v xs ys d = taken_one v s xs ys d.0 d.1
taken T p q M D H (sequence g h) k v xs ys d =
    let parts = and_parts _ (keeps_apart T p q g && keeps_apart T p q h) k in
    let inner = and_parts (keeps_apart T p q g) (keeps_apart T p q h) parts.1 in
    taken_both (taken T p q M D H g inner.0 v.0 xs d.0 d.1) (taken T p q M D H h inner.1 v.1 d.0 ys d.2) parts.0
taken T p q M D H (choice g h) k v xs ys (inl d) =
    let inner = and_parts (keeps_apart T p q g) (keeps_apart T p q h) k in
    taken_wider (λ x. or_left (may_empty T g) (may_empty T h) x) (λ x. or_left (may_begin T q g) (may_begin T q h) x)
    (λ x. or_left (may_end T p g) (may_end T p h) x) (taken T p q M D H g inner.0 v xs ys d)
taken T p q M D H (choice g h) k v xs ys (inr d) =
    let inner = and_parts (keeps_apart T p q g) (keeps_apart T p q h) k in
    taken_wider (λ x. or_right (may_empty T g) (may_empty T h) x) (λ x. or_right (may_begin T q g) (may_begin T q h) x)
    (λ x. or_right (may_end T p g) (may_end T p h) x) (taken T p q M D H h inner.1 v xs ys d)
taken T p q M D H (mapped f g) k v xs ys d = taken T p q M D H g k d.0 xs ys d.2
taken T p q M D H (node f g) k v xs ys d = taken T p q M D H g k d.0 xs ys d.2
taken T p q M D H (checked f g) k v xs ys d = taken T p q M D H g k v xs ys d.1
taken T p q M D H (symbol n) k v xs ys d = H n v xs ys d
taken T p q M D H (left_chain f g h) k v xs ys d =
    let parts = and_parts _ (keeps_apart T p q g && keeps_apart T p q h) k in
    let inner = and_parts (keeps_apart T p q g) (keeps_apart T p q h) parts.1 in
    chain_taken f (Means M D g) (Means M D h) xs (λ a us c. taken T p q M D H g inner.0 a xs us c)
    (λ b us vs c. taken T p q M D H h inner.1 b us vs c) parts.0 v ys d

-- the sides are those of the right sides, which keep the classes apart
pub record AreSides {N : Type 0} {Value : N → Type 0} (T : Sides N) (p q : List ℕ)
    (body : (n : N) → Grammar N Value (Value n)) : Type 0 where
  pub empty : (n : N) → (not (may_empty T (body n)) || T.empty n) ≡ true
  pub begins : (n : N) → (not (may_begin T q (body n)) || T.begins n) ≡ true
  pub ends : (n : N) → (not (may_end T p (body n)) || T.ends n) ≡ true
  pub apart : (n : N) → keeps_apart T p q (body n) ≡ true

implied : (a b : Bool) → (not a || b) ≡ true → a ≡ true → b ≡ true
implied true b h e = h
implied false b h e = absurd (true≢false (sym e))

taken_within : {N : Type 0} {Value : N → Type 0} (T : Sides N) (p q : List ℕ) (M : Mode)
    (body : (n : N) → Grammar N Value (Value n)) → AreSides T p q body
    → (k : ℕ) (n : N) (v : Value n) (xs ys : List Token) → Within M body k n v xs ys
    → Taken p q (T.empty n) (T.begins n) (T.ends n) xs ys
taken_within T p q M body s zero n v xs ys d = absurd d
taken_within T p q M body s (suc k) n v xs ys d =
    taken_wider (implied _ _ (s.empty n)) (implied _ _ (s.begins n)) (implied _ _ (s.ends n))
    (taken T p q M (Within M body k) (taken_within T p q M body s k) (body n) (s.apart n) v xs ys d)

-- so no sentence has one before another
pub sentence_apart : {N : Type 0} {Value : N → Type 0} (T : Sides N) (p q : List ℕ) (M : Mode)
    (body : (n : N) → Grammar N Value (Value n)) → AreSides T p q body
    → (k : ℕ) (n : N) (v : Value n) (ts : List Token) → Within M body k n v ts [] → are_apart p q ts ≡ true
sentence_apart T p q M body s k n v ts d =
    let t = taken_within T p q M body s k n v ts [] d in
    subst (λ us. are_apart p q us ≡ true) (sym (t.whole ∙ append-nil t.tokens)) t.inside
