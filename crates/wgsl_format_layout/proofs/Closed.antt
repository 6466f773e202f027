-- What is decided by tokens that end with the end of an item does not depend on those after them.
use Rattle.std.proofs.Common.{◌≡◌, ℕ, suc, ◌+◌, ◌-◌, ◌<◌, ◌≤◌, ◌==◌, ◌&&◌, ◌||◌, not, Bool, true, false, cond, nat_le, refl, sym, ap, ap₂, ◌∙◌, subst, List, [], ◌∷◌, ◌++◌, arith}
use Rattle.std.specs.List.{list_any, before_first, position_or_len}
use Rattle.std.proofs.lemmas.Bool.{false≢true}
use Rattle.std.proofs.lemmas.Bool.Decides.{nat_tests}
use Rattle.wgsl_model_tidy.specs.Roles.{Role, colon, word, else_word, at, closing, template_end, block_end, opens, closes, ends_item, ends_operands}
use Rattle.wgsl_model_tidy.specs.Layout.{Layout}
use Rattle.wgsl_model_tidy.specs.Ahead.{Ahead, is_within, end_width, fits, binds_within, ends_chain, ends_part, has_operator}
use Rattle.wgsl_format_layout.specs.Marks.{AreInOrder, level_after}
use Rattle.wgsl_format_layout.specs.Windows.{ends_at}
use Rattle.wgsl_format_layout.proofs.Deeper.{both, position_at, position_past, before_at, before_past, ends_opened, level_stays}

-- ---- a token among them at which an item ends, or a bracket

any_here : (test : Ahead → Bool) (t : Ahead) (ts : List Ahead) → test t ≡ true → list_any test (t ∷ ts) ≡ true
any_here test t ts h = ap (λ (b : Bool). b || list_any test ts) h

any_there : (test : Ahead → Bool) (t : Ahead) (ts : List Ahead) → test t ≡ false
    → list_any test (t ∷ ts) ≡ list_any test ts
any_there test t ts h = ap (λ (b : Bool). b || list_any test ts) h

-- with the first, or else with another
any_by : (test : Ahead → Bool) (t : Ahead) (ts : List Ahead) → (test t ≡ false → list_any test ts ≡ true)
    → list_any test (t ∷ ts) ≡ true
any_by test t ts h = go (test t) refl
  where
    go : (b : Bool) → test t ≡ b → (b || list_any test ts) ≡ true
    go true e = refl
    go false e = h e

pub any_implied : (test other : Ahead → Bool) → ((t : Ahead) → test t ≡ true → other t ≡ true) → (ts : List Ahead)
    → list_any test ts ≡ true → list_any other ts ≡ true
any_implied test other h [] any = absurd (false≢true any)
any_implied test other h (t ∷ ts) any =
    any_by other t ts (λ fails. any_implied test other h ts (sym (any_there test t ts (go (test t) refl fails)) ∙ any))
  where
    go : (b : Bool) → test t ≡ b → other t ≡ false → test t ≡ false
    go true e fails = absurd (false≢true (sym fails ∙ h t e))
    go false e fails = e

closes_item : (r : Role) → closes r ≡ true → ends_item r ≡ true
closes_item closing h = refl
closes_item template_end h = refl
closes_item block_end h = refl
closes_item r h = absurd (false≢true h)

pub item_operands : (r : Role) → ends_item r ≡ true → ends_operands r ≡ true
item_operands colon h = refl
item_operands word h = refl
item_operands else_word h = refl
item_operands at h = refl
item_operands r h = h

abbrev pub ends_item_at : ℕ → Ahead → Bool
ends_item_at n t = t.level == n && ends_item t.role

item_level : (n k : ℕ) (r : Role) → n ≤ k → (k == n && ends_item r) ≡ false → n ≤ level_after k r
item_level n k r h e = go (opens r) (closes r) refl
  where
    go : (o c : Bool) → closes r ≡ c → n ≤ cond o (suc k) (cond c (k - 1) k)
    go true c is = omega arith
    go false false is = h
    go false true is =
        let item = closes_item r is in
        let not_here : (k == n) ≡ false = grind (arith, nat_tests) in
        let apart : k ≡ n → ⊥ = λ same. grind (arith, nat_tests) in
        omega arith

pub closes_among : (m n k : ℕ) (ts : List Ahead) → AreInOrder k ts → ends_at m ts ≡ true → m ≤ n → n < k
    → list_any (ends_opened (suc n)) ts ≡ true
closes_among m n k [] order ends low high = absurd (false≢true ends)
closes_among m n k (t ∷ []) order ends low high =
    let last = both (t.level == m) (ends_item t.role) ends in
    let level = order.0 in
    let same : t.level ≡ m = grind (arith, nat_tests) in
    absurd (omega arith)
closes_among m n k (t ∷ u ∷ ts) order ends low high =
    let more = both (nat_le m t.level) (ends_at m (u ∷ ts)) ends in
    any_by (ends_opened (suc n)) t (u ∷ ts) (λ fails.
    closes_among m n (level_after k t.role) (u ∷ ts) order.2 more.1 low
    (level_stays n k t.role high (subst (λ (l : ℕ). (l == suc n && closes t.role) ≡ false) order.0 fails)))

pub item_among : (m n k : ℕ) (ts : List Ahead) → AreInOrder k ts → ends_at m ts ≡ true → m ≤ n → n ≤ k
    → list_any (ends_item_at n) ts ≡ true
item_among m n k [] order ends low high = absurd (false≢true ends)
item_among m n k (t ∷ []) order ends low high =
    let last = both (t.level == m) (ends_item t.role) ends in
    let level = order.0 in
    let same : t.level ≡ m = grind (arith, nat_tests) in
    let here : (t.level == n) ≡ true = grind (arith, nat_tests) in
    any_here (ends_item_at n) t [] (ap₂ (λ (a b : Bool). a && b) here last.1)
item_among m n k (t ∷ u ∷ ts) order ends low high =
    let more = both (nat_le m t.level) (ends_at m (u ∷ ts)) ends in
    any_by (ends_item_at n) t (u ∷ ts) (λ fails.
    item_among m n (level_after k t.role) (u ∷ ts) order.2 more.1 low
    (item_level n k t.role high (subst (λ (l : ℕ). (l == n && ends_item t.role) ≡ false) order.0 fails)))

item_chain : (n limit : ℕ) (t : Ahead) → ends_item_at n t ≡ true → ends_chain n limit t ≡ true
item_chain n limit t h =
    let e = both (t.level == n) (ends_item t.role) h in
    ap₂ (λ (a b : Bool). a && (b || binds_within limit t)) e.0 (item_operands t.role e.1)

item_part : (n limit : ℕ) (t : Ahead) → ends_item_at n t ≡ true → ends_part n limit t ≡ true
item_part n limit t h =
    let e = both (t.level == n) (ends_item t.role) h in
    ap₂ (λ (a b : Bool). a && (b || (t.several || binds_within limit t))) e.0 e.1

pub chain_among : (limit m n k : ℕ) (ts : List Ahead) → AreInOrder k ts → ends_at m ts ≡ true → m ≤ n → n ≤ k
    → list_any (ends_chain n limit) ts ≡ true
chain_among limit m n k ts order ends low high =
    any_implied (ends_item_at n) (ends_chain n limit) (item_chain n limit) ts (item_among m n k ts order ends low high)

pub part_among : (limit m n k : ℕ) (ts : List Ahead) → AreInOrder k ts → ends_at m ts ≡ true → m ≤ n → n ≤ k
    → list_any (ends_part n limit) ts ≡ true
part_among limit m n k ts order ends low high =
    any_implied (ends_item_at n) (ends_part n limit) (item_part n limit) ts (item_among m n k ts order ends low high)

-- ---- what is decided up to such a token

pub position_closed : (test : Ahead → Bool) (ts far : List Ahead) → list_any test ts ≡ true
    → position_or_len test (ts ++ far) ≡ position_or_len test ts
position_closed test [] far any = absurd (false≢true any)
position_closed test (t ∷ ts) far any = go (test t) refl (λ h. position_closed test ts far h)
  where
    go : (b : Bool) → test t ≡ b
        → (list_any test ts ≡ true → position_or_len test (ts ++ far) ≡ position_or_len test ts)
        → position_or_len test (t ∷ (ts ++ far)) ≡ position_or_len test (t ∷ ts)
    go true e ih = position_at test t (ts ++ far) e ∙ sym (position_at test t ts e)
    go false e ih = position_past test t (ts ++ far) e
        ∙ (ap suc (ih (sym (any_there test t ts e) ∙ any)) ∙ sym (position_past test t ts e))

pub before_closed : (test : Ahead → Bool) (ts far : List Ahead) → list_any test ts ≡ true
    → before_first test (ts ++ far) ≡ before_first test ts
before_closed test [] far any = absurd (false≢true any)
before_closed test (t ∷ ts) far any = go (test t) refl (λ h. before_closed test ts far h)
  where
    go : (b : Bool) → test t ≡ b → (list_any test ts ≡ true → before_first test (ts ++ far) ≡ before_first test ts)
        → before_first test (t ∷ (ts ++ far)) ≡ before_first test (t ∷ ts)
    go true e ih = before_at test t (ts ++ far) e ∙ sym (before_at test t ts e)
    go false e ih = before_past test t (ts ++ far) e
        ∙ (ap (λ us. t ∷ us) (ih (sym (any_there test t ts e) ∙ any)) ∙ sym (before_past test t ts e))

pub fits_closed : (layout : Layout) (test : Ahead → Bool) (column : ℕ) (ts far : List Ahead) → list_any test ts ≡ true
    → fits layout test column (ts ++ far) ≡ fits layout test column ts
fits_closed layout test column [] far any = absurd (false≢true any)
fits_closed layout test column (t ∷ ts) far any =
    go (test t) refl (λ h. fits_closed layout test (column + (t.space + t.width)) ts far h)
  where
    go : (b : Bool) → test t ≡ b
        → (list_any test ts ≡ true → fits layout test (column + (t.space + t.width)) (ts ++ far)
        ≡ fits layout test (column + (t.space + t.width)) ts)
        → cond (test t) (is_within layout (column + end_width t))
        (not t.ends && fits layout test (column + (t.space + t.width)) (ts ++ far))
        ≡ cond (test t) (is_within layout (column + end_width t))
        (not t.ends && fits layout test (column + (t.space + t.width)) ts)
    go true e ih =
        ap (λ (b : Bool). cond b (is_within layout (column + end_width t))
        (not t.ends && fits layout test (column + (t.space + t.width)) (ts ++ far))) e
        ∙ sym (ap (λ (b : Bool). cond b (is_within layout (column + end_width t))
        (not t.ends && fits layout test (column + (t.space + t.width)) ts)) e)
    go false e ih =
        ap (λ (b : Bool). cond (test t) (is_within layout (column + end_width t)) (not t.ends && b))
        (ih (sym (any_there test t ts e) ∙ any))

pub operator_closed : (n limit m : ℕ) (ts far : List Ahead) → list_any (ends_chain n limit) ts ≡ true
    → has_operator n limit m (ts ++ far) ≡ has_operator n limit m ts
operator_closed n limit m ts far any =
    ap (list_any (λ t. t.level == n && t.binds == m)) (before_closed (ends_chain n limit) ts far any)
