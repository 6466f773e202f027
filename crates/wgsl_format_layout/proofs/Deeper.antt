-- The tokens in what a token opens are passed over by tests that ask for how much is open before
-- it.
use Rattle.std.proofs.Common.{◌≡◌, ℕ, suc, ◌+◌, ◌-◌, ◌<◌, ◌≤◌, ◌==◌, ◌&&◌, ◌||◌, not, Bool, true, false, cond, nat_lt, refl, sym, ap, ap₂, ◌∙◌, subst, ◌⊎◌, inl, inr, List, [], ◌∷◌, ◌++◌, take, length, arith}
use Rattle.std.specs.List.{list_any, before_first, position_or_len}
use Rattle.std.proofs.lemmas.Bool.{false≢true}
use Rattle.std.proofs.lemmas.Bool.Decides.{nat_tests}
use Rattle.wgsl_model_tidy.specs.Roles.{Role, opening, template_start, block_start, opens, closes}
use Rattle.wgsl_model_tidy.specs.Ahead.{Ahead, content}
use Rattle.wgsl_format_layout.specs.Marks.{AreInOrder, level_after}
use Rattle.wgsl_format_layout.specs.Walks.{are_deeper}

-- ---- tests

pub both : (a b : Bool) → (a && b) ≡ true → (a ≡ true) × (b ≡ true)
both true b h = (refl, h)
both false b h = absurd (false≢true h)

pub neither : (a b : Bool) → (a || b) ≡ false → (a ≡ false) × (b ≡ false)
neither true b h = absurd (false≢true (sym h))
neither false b h = (refl, h)

pub position_at : (test : Ahead → Bool) (t : Ahead) (ts : List Ahead) → test t ≡ true
    → position_or_len test (t ∷ ts) ≡ 0
position_at test t ts h = ap (λ (b : Bool). cond (not b) (1 + position_or_len test ts) 0) h

pub position_past : (test : Ahead → Bool) (t : Ahead) (ts : List Ahead) → test t ≡ false
    → position_or_len test (t ∷ ts) ≡ suc (position_or_len test ts)
position_past test t ts h = ap (λ (b : Bool). cond (not b) (1 + position_or_len test ts) 0) h ∙ omega arith

pub before_at : (test : Ahead → Bool) (t : Ahead) (ts : List Ahead) → test t ≡ true
    → before_first test (t ∷ ts) ≡ []
before_at test t ts h = ap (λ k. take k (t ∷ ts)) (position_at test t ts h)

pub before_past : (test : Ahead → Bool) (t : Ahead) (ts : List Ahead) → test t ≡ false
    → before_first test (t ∷ ts) ≡ t ∷ before_first test ts
before_past test t ts h = ap (λ k. take k (t ∷ ts)) (position_past test t ts h)

-- ---- deeper tokens

-- no token with more than n brackets and blocks open before it passes a test
abbrev pub AsksFor : ℕ → (Ahead → Bool) → Type 0
AsksFor n test = (t : Ahead) → nat_lt n t.level ≡ true → test t ≡ false

pub position_deeper : (n : ℕ) (test : Ahead → Bool) → AsksFor n test → (xs ys : List Ahead)
    → are_deeper n xs ≡ true → position_or_len test (xs ++ ys) ≡ length xs + position_or_len test ys
position_deeper n test asks [] ys h = omega arith
position_deeper n test asks (x ∷ xs) ys h =
    let d = both (nat_lt n x.level) (are_deeper n xs) h in
    let ih = position_deeper n test asks xs ys d.1 in
    position_past test x (xs ++ ys) (asks x d.0) ∙ omega arith

pub before_deeper : (n : ℕ) (test : Ahead → Bool) → AsksFor n test → (xs ys : List Ahead)
    → are_deeper n xs ≡ true → before_first test (xs ++ ys) ≡ xs ++ before_first test ys
before_deeper n test asks [] ys h = refl
before_deeper n test asks (x ∷ xs) ys h =
    let d = both (nat_lt n x.level) (are_deeper n xs) h in
    before_past test x (xs ++ ys) (asks x d.0) ∙ ap (λ zs. x ∷ zs) (before_deeper n test asks xs ys d.1)

pub any_deeper : (n : ℕ) (test : Ahead → Bool) → AsksFor n test → (xs ys : List Ahead)
    → are_deeper n xs ≡ true → list_any test (xs ++ ys) ≡ list_any test ys
any_deeper n test asks [] ys h = refl
any_deeper n test asks (x ∷ xs) ys h =
    let d = both (nat_lt n x.level) (are_deeper n xs) h in
    ap (λ (b : Bool). b || list_any test (xs ++ ys)) (asks x d.0) ∙ any_deeper n test asks xs ys d.1

-- ---- one of them passes a test before the first that passes another

abbrev pub any_before : (Ahead → Bool) → (Ahead → Bool) → List Ahead → Bool
any_before ends test ts = list_any test (before_first ends ts)

pub any_before_end : (ends test : Ahead → Bool) (t : Ahead) (ts : List Ahead) → ends t ≡ true
    → any_before ends test (t ∷ ts) ≡ false
any_before_end ends test t ts h = ap (list_any test) (before_at ends t ts h)

pub any_before_more : (ends test : Ahead → Bool) (t : Ahead) (ts : List Ahead) → ends t ≡ false
    → any_before ends test (t ∷ ts) ≡ (test t || any_before ends test ts)
any_before_more ends test t ts h = ap (list_any test) (before_past ends t ts h)

pub any_before_deeper : (n : ℕ) (ends test : Ahead → Bool) → AsksFor n ends → AsksFor n test → (xs ys : List Ahead)
    → are_deeper n xs ≡ true → any_before ends test (xs ++ ys) ≡ any_before ends test ys
any_before_deeper n ends test asks asks_too xs ys h = ap (list_any test) (before_deeper n ends asks xs ys h)
    ∙ any_deeper n test asks_too xs (before_first ends ys) h

-- ---- what a token opens, with n open in it

pub closes_opens : (r : Role) → closes r ≡ true → opens r ≡ false
closes_opens opening h = absurd (false≢true h)
closes_opens template_start h = absurd (false≢true h)
closes_opens block_start h = absurd (false≢true h)
closes_opens r h = refl

-- these tokens up to the one that closes it, and those after it
abbrev pub ends_opened : ℕ → Ahead → Bool
ends_opened n t = t.level == n && closes t.role

abbrev pub opened : ℕ → List Ahead → List Ahead
opened n [] = []
opened n (t ∷ ts) = t ∷ cond (ends_opened n t) [] (opened n ts)

abbrev pub outside : ℕ → List Ahead → List Ahead
outside n [] = []
outside n (t ∷ ts) = cond (ends_opened n t) ts (outside n ts)

pub opened_outside : (n : ℕ) (ts : List Ahead) → ts ≡ opened n ts ++ outside n ts
opened_outside n [] = refl
opened_outside n (t ∷ ts) = go (ends_opened n t) (opened_outside n ts)
  where
    go : (b : Bool) → ts ≡ opened n ts ++ outside n ts
        → t ∷ ts ≡ t ∷ (cond b [] (opened n ts) ++ cond b ts (outside n ts))
    go true ih = refl
    go false ih = ap (λ us. t ∷ us) ih

pub level_stays : (n k : ℕ) (r : Role) → n < k → (k == suc n && closes r) ≡ false → n < level_after k r
level_stays n k r h e = go (opens r) (closes r) refl
  where
    go : (o c : Bool) → closes r ≡ c → n < cond o (suc k) (cond c (k - 1) k)
    go true c is = omega arith
    go false false is = h
    go false true is =
        let not_here : (k == suc n) ≡ false = grind (arith, nat_tests) in
        let apart : k ≡ suc n → ⊥ = λ same. grind (arith, nat_tests) in
        omega arith

pub opened_deeper : (n k : ℕ) (ts : List Ahead) → n < k → AreInOrder k ts → are_deeper n (opened (suc n) ts) ≡ true
opened_deeper n k [] h order = refl
opened_deeper n k (t ∷ ts) h order =
    let here : nat_lt n t.level ≡ true = grind (arith, nat_tests) in
    ap (λ (b : Bool). b && are_deeper n (cond (ends_opened (suc n) t) [] (opened (suc n) ts))) here
    ∙ go (ends_opened (suc n) t) refl (λ later. opened_deeper n (level_after k t.role) ts later order.2)
  where
    go : (b : Bool) → ends_opened (suc n) t ≡ b
        → (n < level_after k t.role → are_deeper n (opened (suc n) ts) ≡ true)
        → are_deeper n (cond b [] (opened (suc n) ts)) ≡ true
    go true e ih = refl
    go false e ih = ih (level_stays n k t.role h
        (subst (λ (m : ℕ). (m == suc n && closes t.role) ≡ false) order.0 e))

pub outside_in_order : (n k : ℕ) (ts : List Ahead) → n < k → AreInOrder k ts → AreInOrder n (outside (suc n) ts)
outside_in_order n k [] h order = tt
outside_in_order n k (t ∷ ts) h order =
    go (ends_opened (suc n) t) refl (λ later. outside_in_order n (level_after k t.role) ts later order.2)
  where
    level_is : ends_opened (suc n) t ≡ true → level_after k t.role ≡ n
    level_is e =
        let is = both (t.level == suc n) (closes t.role) e in
        let k_is : k ≡ suc n = grind (arith, nat_tests) in
        ap₂ (λ (a b : Bool). cond a (suc k) (cond b (k - 1) k)) (closes_opens t.role is.1) is.1 ∙ omega arith

    go : (b : Bool) → ends_opened (suc n) t ≡ b
        → (n < level_after k t.role → AreInOrder n (outside (suc n) ts))
        → AreInOrder n (cond b ts (outside (suc n) ts))
    go true e ih = subst (λ (m : ℕ). AreInOrder m ts) (level_is e) order.2
    go false e ih = ih (level_stays n k t.role h
        (subst (λ (m : ℕ). (m == suc n && closes t.role) ≡ false) order.0 e))

-- how many they are: those in it, and the one that closes it if there is one
pub length_opened : (n : ℕ) (ts : List Ahead)
    → ((length (opened n ts) ≡ suc (length (content n ts))) × (length (opened n ts) ≤ length ts))
    ⊎ ((length (opened n ts) ≡ length ts) × (length (content n ts) ≡ length ts))
length_opened n [] = inr (refl, refl)
length_opened n (t ∷ ts) = go (ends_opened n t) refl (length_opened n ts)
  where
    go : (b : Bool) → ends_opened n t ≡ b
        → ((length (opened n ts) ≡ suc (length (content n ts))) × (length (opened n ts) ≤ length ts))
        ⊎ ((length (opened n ts) ≡ length ts) × (length (content n ts) ≡ length ts))
        → ((suc (length (cond b [] (opened n ts))) ≡ suc (length (content n (t ∷ ts))))
        × (suc (length (cond b [] (opened n ts))) ≤ suc (length ts)))
        ⊎ ((suc (length (cond b [] (opened n ts))) ≡ suc (length ts)) × (length (content n (t ∷ ts)) ≡ suc (length ts)))
    go true e ih = inl (ap (λ us. suc (length us)) (sym (before_at (ends_opened n) t ts e)), omega arith)
    go false e ih =
        let c = ap length (before_past (ends_opened n) t ts e) in
        elim ih [ inl h ↦ inl (omega arith, omega arith) | inr h ↦ inr (omega arith, omega arith) ]
