-- Operands, by one walk over their tokens.
use Rattle.std.proofs.Common.{◌≡◌, ℕ, suc, ◌+◌, ◌-◌, ◌<◌, ◌≤◌, ◌==◌, ◌&&◌, ◌||◌, not, Bool, true, false, cond, nat_lt, nat_le, refl, sym, ap, ap₂, ◌∙◌, subst, ◌⊎◌, inl, inr, List, [], ◌∷◌, ◌++◌, get_or, take, drop, length, arith}
use Rattle.std.specs.List.{list_any, before_first, position_or_len}
use Rattle.std.proofs.lemmas.Bool.{false≢true}
use Rattle.std.proofs.lemmas.Bool.Decides.{nat_tests}
use Rattle.wgsl_model_tidy.specs.Roles.{closes, ends_operands}
use Rattle.wgsl_model_tidy.specs.Ahead.{Ahead, ends_chain, has_operator, last_operand, up_to_last}
use Rattle.wgsl_format_layout.specs.declared.ahead.Chain.{Chain}
use Rattle.wgsl_format_layout.specs.declared.marks.Mark.{Mark}
use Rattle.wgsl_format_layout.specs.declared.marks.MarkedToken.{MarkedToken}
use Rattle.wgsl_format_layout.specs.View.{role_view}
use Rattle.wgsl_format_layout.specs.Walks.{are_deeper, Follow, GoesPast, is_weaker, passed, IsChain}
use Rattle.wgsl_format_layout.proofs.Deeper.{both, neither, position_at, position_past, before_at, before_past, any_before_end, any_before_more}
use Rattle.wgsl_format_layout.proofs.Reaching.{Reaches, Skips, chain_asks, chain_closes, chain_tells}
use Rattle.wgsl_format_layout.proofs.Following.{stands}

-- ---- the walk

-- past one of them, with n brackets and blocks open before the first
abbrev pub next_chain : ℕ → Chain → Ahead → Chain
next_chain n chain t = cond (t.level == n) (passed chain t.binds (suc chain.end)) (record chain { end = suc chain.end })

abbrev pub chain_from : ℕ → ℕ → Chain → List Ahead → Chain
chain_from n limit chain [] = chain
chain_from n limit chain (t ∷ ts) = cond (ends_chain n limit t) chain (chain_from n limit (next_chain n chain t) ts)

-- ---- what it finds

-- it is an operator of a precedence, outside of brackets
abbrev binds_at : ℕ → ℕ → Ahead → Bool
binds_at n m t = t.level == n && t.binds == m

record Operator (n limit : ℕ) (chain : Chain) (ts : List Ahead) (r : Chain) : Type 0 where
  has : has_operator n limit r.weakest ts ≡ true
  from : chain.end ≤ r.operator
  within : r.operator < r.end
  is : last_operand n limit r.weakest ts ≡ drop (r.operator - chain.end) ts

record Last (n limit : ℕ) (chain : Chain) (ts : List Ahead) (r : Chain) : Type 0 where
  any : list_any (λ t. t.level == n) (before_first (ends_chain n limit) ts) ≡ true
  from : chain.end ≤ r.last
  within : r.last < r.end
  is : up_to_last n (before_first (ends_chain n limit) ts) ≡ take (suc r.last - chain.end) ts

record Tells (n limit : ℕ) (chain : Chain) (ts : List Ahead) (r : Chain) : Type 0 where
  end : r.end ≡ chain.end + position_or_len (ends_chain n limit) ts
  bound : 0 < chain.weakest → (0 < r.weakest) × (r.weakest ≤ chain.weakest)
  lower : (m : ℕ) → 0 < m → (r.weakest ≡ 0) ⊎ (m < r.weakest) → has_operator n limit m ts ≡ false
  operator : 0 < r.weakest → Operator n limit chain ts r
      ⊎ ((has_operator n limit r.weakest ts ≡ false) × (r.weakest ≡ chain.weakest) × (r.operator ≡ chain.operator))
  last : Last n limit chain ts r
      ⊎ ((list_any (λ t. t.level == n) (before_first (ends_chain n limit) ts) ≡ false) × (r.last ≡ chain.last))
  order : chain.operator ≤ chain.last → chain.last ≤ chain.end → r.operator ≤ r.last

tells_none : (n limit : ℕ) (chain : Chain) → Tells n limit chain [] chain
tells_none n limit chain = record {
  end = omega arith;
  bound = λ h. (h, omega arith);
  lower = λ m h c. refl;
  operator = λ h. inr (refl, refl, refl);
  last = inr (refl, refl);
  order = λ h k. h;
}

tells_end : (n limit : ℕ) (chain : Chain) (t : Ahead) (ts : List Ahead) → ends_chain n limit t ≡ true
    → Tells n limit chain (t ∷ ts) chain
tells_end n limit chain t ts e =
    let at = position_at (ends_chain n limit) t ts e in
    record {
      end = omega arith;
      bound = λ h. (h, omega arith);
      lower = λ m h c. any_before_end (ends_chain n limit) (binds_at n m) t ts e;
      operator = λ h. inr (any_before_end (ends_chain n limit) (binds_at n chain.weakest) t ts e, refl, refl);
      last = inr (ap (list_any (λ u. u.level == n)) (before_at (ends_chain n limit) t ts e), refl);
      order = λ h k. h;
    }

-- what is known after a token before which the walk is at a place
record Passes (n : ℕ) (chain later : Chain) (t : Ahead) : Type 0 where
  end : later.end ≡ suc chain.end
  bound : 0 < chain.weakest → (0 < later.weakest) × (later.weakest ≤ chain.weakest)
  lower : (m : ℕ) → 0 < m → binds_at n m t ≡ true → (0 < later.weakest) × (later.weakest ≤ m)
  operator : ((binds_at n later.weakest t ≡ true) × (later.operator ≡ chain.end))
      ⊎ ((0 < later.weakest → binds_at n later.weakest t ≡ false) × (later.weakest ≡ chain.weakest)
      × (later.operator ≡ chain.operator))
  last : (((t.level == n) ≡ true) × (later.last ≡ chain.end)) ⊎ (((t.level == n) ≡ false) × (later.last ≡ chain.last))
  order : chain.operator ≤ chain.last → chain.last ≤ chain.end
      → (later.operator ≤ later.last) × (later.last ≤ later.end)

or_true : (a b : Bool) → b ≡ true → (a || b) ≡ true
or_true true b h = refl
or_true false b h = h

none_up_to : (n : ℕ) (ts : List Ahead) → list_any (λ t. t.level == n) ts ≡ false → up_to_last n ts ≡ []
none_up_to n [] h = refl
none_up_to n (t ∷ ts) h = ap (λ (b : Bool). cond b (t ∷ up_to_last n ts) []) h

tells_more : (n limit : ℕ) (chain later : Chain) (t : Ahead) (ts : List Ahead) (r : Chain)
    → ends_chain n limit t ≡ false
    → Passes n chain later t → Tells n limit later ts r → Tells n limit chain (t ∷ ts) r
tells_more n limit chain later t ts r e p i = record {
  end = let past = position_past (ends_chain n limit) t ts e in let a = i.end in let b = p.end in omega arith;
  bound = λ h. let a = p.bound h in let b = i.bound a.0 in (b.0, omega arith);
  lower = λ m h c. more m ∙ lower m h c (binds_at n m t) refl (i.lower m h c);
  operator = λ h. operator h (i.operator h) p.operator;
  last = last i.last p.last;
  order = λ h k. let a = p.order h k in i.order a.0 a.1;
}
  where
    more : (m : ℕ) → has_operator n limit m (t ∷ ts) ≡ (binds_at n m t || has_operator n limit m ts)
    more m = any_before_more (ends_chain n limit) (binds_at n m) t ts e

    lower : (m : ℕ) → 0 < m → (r.weakest ≡ 0) ⊎ (m < r.weakest) → (b : Bool) → binds_at n m t ≡ b
        → has_operator n limit m ts ≡ false → (b || has_operator n limit m ts) ≡ false
    lower m h c true is none =
        let a = p.lower m h is in let b = i.bound a.0 in absurd (omega arith)
    lower m h c false is none = none

    operator : 0 < r.weakest → Operator n limit later ts r
        ⊎ ((has_operator n limit r.weakest ts ≡ false) × (r.weakest ≡ later.weakest) × (r.operator ≡ later.operator))
        → ((binds_at n later.weakest t ≡ true) × (later.operator ≡ chain.end))
        ⊎ ((0 < later.weakest → binds_at n later.weakest t ≡ false)
        × (later.weakest ≡ chain.weakest) × (later.operator ≡ chain.operator))
        → Operator n limit chain (t ∷ ts) r
        ⊎ ((has_operator n limit r.weakest (t ∷ ts) ≡ false) × (r.weakest ≡ chain.weakest)
        × (r.operator ≡ chain.operator))
    operator h (inl f) at =
        let a = f.from in let b = p.end in
        let far : suc (r.operator - later.end) ≡ r.operator - chain.end = omega arith in
        inl (record {
          has = more r.weakest ∙ or_true (binds_at n r.weakest t) (has_operator n limit r.weakest ts) f.has;
          from = omega arith;
          within = f.within;
          is = ap (λ (b : Bool). cond b (last_operand n limit r.weakest ts) (t ∷ ts)) f.has
              ∙ (f.is ∙ ap (λ (k : ℕ). drop k (t ∷ ts)) far);
        })
    operator h (inr k) (inl at) =
        let a = k.2 in let b = at.1 in let c = i.end in let d = p.end in
        let here : 0 ≡ r.operator - chain.end = omega arith in
        inl (record {
          has = more r.weakest ∙ ap (λ (m : Bool). m || has_operator n limit r.weakest ts)
              (ap (λ (m : ℕ). binds_at n m t) k.1 ∙ at.0);
          from = omega arith;
          within = omega arith;
          is = ap (λ (b : Bool). cond b (last_operand n limit r.weakest ts) (t ∷ ts)) k.0
              ∙ ap (λ (j : ℕ). drop j (t ∷ ts)) here;
        })
    operator h (inr k) (inr at) =
        inr (
          more r.weakest ∙ (ap (λ (m : Bool). m || has_operator n limit r.weakest ts)
              (ap (λ (m : ℕ). binds_at n m t) k.1 ∙ at.0 (let s = k.1 in omega arith)) ∙ k.0),
          k.1 ∙ at.1,
          k.2 ∙ at.2,
        )

    grows : before_first (ends_chain n limit) (t ∷ ts) ≡ t ∷ before_first (ends_chain n limit) ts
    grows = before_past (ends_chain n limit) t ts e

    last : Last n limit later ts r
        ⊎ ((list_any (λ u. u.level == n) (before_first (ends_chain n limit) ts) ≡ false) × (r.last ≡ later.last))
        → (((t.level == n) ≡ true) × (later.last ≡ chain.end)) ⊎ (((t.level == n) ≡ false) × (later.last ≡ chain.last))
        → Last n limit chain (t ∷ ts) r
        ⊎ ((list_any (λ u. u.level == n) (before_first (ends_chain n limit) (t ∷ ts)) ≡ false) × (r.last ≡ chain.last))
    last (inl f) at =
        let some = or_true (t.level == n) (list_any (λ u. u.level == n) (before_first (ends_chain n limit) ts)) f.any in
        let a = f.from in let b = p.end in
        let far : suc (suc r.last - later.end) ≡ suc r.last - chain.end = omega arith in
        inl (record {
          any = ap (list_any (λ u. u.level == n)) grows ∙ some;
          from = omega arith;
          within = f.within;
          is = ap (up_to_last n) grows
              ∙ (ap (λ (b : Bool). cond b (t ∷ up_to_last n (before_first (ends_chain n limit) ts)) []) some
              ∙ (ap (λ us. t ∷ us) f.is ∙ ap (λ (k : ℕ). take k (t ∷ ts)) far));
        })
    last (inr k) (inl at) =
        let a = k.1 in let b = at.1 in let c = i.end in let d = p.end in
        let one : 1 ≡ suc r.last - chain.end = omega arith in
        let some = ap (λ (b : Bool). b || list_any (λ u. u.level == n) (before_first (ends_chain n limit) ts)) at.0 in
        inl (record {
          any = ap (list_any (λ u. u.level == n)) grows ∙ some;
          from = omega arith;
          within = omega arith;
          is = ap (up_to_last n) grows
              ∙ (ap (λ (b : Bool). cond b (t ∷ up_to_last n (before_first (ends_chain n limit) ts)) []) some
              ∙ (ap (λ us. t ∷ us) (none_up_to n (before_first (ends_chain n limit) ts) k.0)
              ∙ ap (λ (j : ℕ). take j (t ∷ ts)) one));
        })
    last (inr k) (inr at) =
        inr (
          ap (list_any (λ u. u.level == n)) grows
              ∙ (ap (λ (b : Bool). b
              || list_any (λ u. u.level == n) (before_first (ends_chain n limit) ts)) at.0 ∙ k.0),
          k.1 ∙ at.1,
        )

-- ---- past a token

weaker_true : (a b : ℕ) → (not (a == 0) && (b == 0 || nat_le a b)) ≡ true → (0 < a) × (0 < b → a ≤ b)
weaker_true a b h =
    let e = both (not (a == 0)) (b == 0 || nat_le a b) h in
    (some (a == 0) refl e.0, λ k. most (b == 0) refl k e.1)
  where
    some : (c : Bool) → (a == 0) ≡ c → not c ≡ true → 0 < a
    some true is k = absurd (false≢true k)
    some false is k = let apart : a ≡ 0 → ⊥ = λ same. grind (arith, nat_tests) in omega arith

    most : (c : Bool) → (b == 0) ≡ c → 0 < b → (c || nat_le a b) ≡ true → a ≤ b
    most true is k l = let zero : b ≡ 0 = grind (arith, nat_tests) in absurd (omega arith)
    most false is k l = grind (arith, nat_tests)

weaker_false : (a b : ℕ) → (not (a == 0) && (b == 0 || nat_le a b)) ≡ false → 0 < a → (0 < b) × (b < a)
weaker_false a b h some =
    let no : (a == 0) ≡ false = grind (arith, nat_tests) in
    let e = neither (b == 0) (nat_le a b) (sym (ap (λ c. not c && (b == 0 || nat_le a b)) no) ∙ h) in
    let less = e.1 in let zero = e.0 in
    let apart : b ≡ 0 → ⊥ = λ same. grind (arith, nat_tests) in
    let over : b < a = grind (arith, nat_tests) in
    (omega arith, over)

passes : (n : ℕ) (chain : Chain) (t : Ahead) → Passes n chain (next_chain n chain t) t
passes n chain t = level (t.level == n) refl
  where
    binds_is : (m : ℕ) → binds_at n m t ≡ true → t.binds ≡ m
    binds_is m h = let e = both (t.level == n) (t.binds == m) h in let f = e.1 in grind (arith, nat_tests)

    weaker : (w : Bool) → is_weaker chain t.binds ≡ w → (t.level == n) ≡ true → Passes n chain (record {
      end = suc chain.end;
      weakest = cond w t.binds chain.weakest;
      operator = cond w chain.end chain.operator;
      last = chain.end;
    }) t
    weaker true is here =
        let w = weaker_true t.binds chain.weakest is in
        let same : (t.binds == t.binds) ≡ true = (let e : t.binds ≡ t.binds = refl in grind (arith, nat_tests)) in
        record {
          end = refl;
          bound = λ h. (w.0, w.1 h);
          lower = λ m h at. let e = binds_is m at in (w.0, omega arith);
          operator = inl (ap₂ (λ (a b : Bool). a && b) here same, refl);
          last = inl (here, refl);
          order = λ h k. (omega arith, omega arith);
        }
    weaker false is here = record {
      end = refl;
      bound = λ h. (h, omega arith);
      lower = λ m h at. let e = binds_is m at in
          let w = weaker_false t.binds chain.weakest is (omega arith) in (w.0, omega arith);
      operator = inr (λ h. absent h (binds_at n chain.weakest t) refl, refl, refl);
      last = inl (here, refl);
      order = λ h k. (omega arith, omega arith);
    }
      where
        absent : 0 < chain.weakest → (b : Bool) → binds_at n chain.weakest t ≡ b → binds_at n chain.weakest t ≡ false
        absent h true at = let e = binds_is chain.weakest at in
            let w = weaker_false t.binds chain.weakest is (omega arith) in absurd (omega arith)
        absent h false at = at

    level : (b : Bool) → (t.level == n) ≡ b
        → Passes n chain (cond b (passed chain t.binds (suc chain.end)) (record chain { end = suc chain.end })) t
    level true here = weaker (is_weaker chain t.binds) refl here
    level false there =
        let none = λ (m : ℕ). ap (λ b. b && (t.binds == m)) there in
        record {
          end = refl;
          bound = λ h. (h, omega arith);
          lower = λ m h at. absurd (false≢true (sym (none m) ∙ at));
          operator = inr (λ h. none chain.weakest, refl, refl);
          last = inr (there, refl);
          order = λ h k. (h, omega arith);
        }

-- ---- the whole walk

tells : (n limit : ℕ) (chain : Chain) (ts : List Ahead) → Tells n limit chain ts (chain_from n limit chain ts)
tells n limit chain [] = tells_none n limit chain
tells n limit chain (t ∷ ts) = go (ends_chain n limit t) refl (tells n limit (next_chain n chain t) ts)
  where
    go : (b : Bool) → ends_chain n limit t ≡ b
        → Tells n limit (next_chain n chain t) ts (chain_from n limit (next_chain n chain t) ts)
        → Tells n limit chain (t ∷ ts) (cond b chain (chain_from n limit (next_chain n chain t) ts))
    go true e i = tells_end n limit chain t ts e
    go false e i = tells_more n limit chain (next_chain n chain t) t ts
        (chain_from n limit (next_chain n chain t) ts) e (passes n chain t) i

abbrev pub first_chain : ℕ → ℕ → Chain
first_chain first end = record { end = end; weakest = 0; operator = first; last = first }

pub chain_is : (n limit first : ℕ) (ts : List Ahead)
    → IsChain n limit first ts (chain_from n limit (first_chain first (suc first)) ts)
chain_is n limit first ts = by (tells n limit (first_chain first (suc first)) ts)
  where
    r : Chain
    r = chain_from n limit (first_chain first (suc first)) ts

    operator_of : Operator n limit (first_chain first (suc first)) ts r
        ⊎ ((has_operator n limit r.weakest ts ≡ false) × (r.weakest ≡ 0) × (r.operator ≡ first))
        → 0 < r.weakest → Operator n limit (first_chain first (suc first)) ts r
    operator_of (inl f) h = f
    operator_of (inr k) h = let a = k.1 in absurd (omega arith)

    last_of : Last n limit (first_chain first (suc first)) ts r
        ⊎ ((list_any (λ t. t.level == n) (before_first (ends_chain n limit) ts) ≡ false) × (r.last ≡ first))
        → first < r.last → Last n limit (first_chain first (suc first)) ts r
    last_of (inl f) h = f
    last_of (inr k) h = let a = k.1 in absurd (omega arith)

    by : Tells n limit (first_chain first (suc first)) ts r → IsChain n limit first ts r
    by w = record {
      end = w.end;
      none = λ z m h. w.lower m h (inl z);
      lower = λ m h l. w.lower m h (inr l);
      found = λ h. (operator_of (w.operator h) h).has;
      operator = λ h. (operator_of (w.operator h) h).is;
      last = λ h.
          let o = operator_of (w.operator h) h in let from = o.from in
          let order = w.order (omega arith) (omega arith) in
          let l = last_of w.last (omega arith) in let far : suc r.last - suc first ≡ r.last - first = omega arith in
          l.is ∙ ap (λ (k : ℕ). take k ts) far;
      places = λ h.
          let o = operator_of (w.operator h) h in let from = o.from in
          let order = w.order (omega arith) (omega arith) in
          let l = last_of w.last (omega arith) in let within = l.within in (omega arith, omega arith, omega arith);
    }

-- ---- the walk of the code

pub chain_deeper : (n limit : ℕ) (chain : Chain) (xs ys : List Ahead) → are_deeper n xs ≡ true
    → chain_from n limit chain (xs ++ ys) ≡ chain_from n limit (record chain { end = chain.end + length xs }) ys
chain_deeper n limit chain [] ys h =
    let e : chain.end ≡ chain.end + 0 = omega arith in
    ap (λ (k : ℕ). chain_from n limit (record chain { end = k }) ys) e
chain_deeper n limit chain (x ∷ xs) ys h =
    let d = both (nat_lt n x.level) (are_deeper n xs) h in
    let out : (x.level == n) ≡ false = (let f = d.0 in grind (arith, nat_tests)) in
    let e : suc chain.end + length xs ≡ chain.end + suc (length xs) = omega arith in
    ap (λ (b : Bool). cond b chain (chain_from n limit (next_chain n chain x) (xs ++ ys))) (chain_asks n limit x d.0)
    ∙ (ap (λ (b : Bool). chain_from n limit (cond b (passed chain x.binds (suc chain.end))
    (record chain { end = suc chain.end })) (xs ++ ys)) out
    ∙ (chain_deeper n limit (record chain { end = suc chain.end }) xs ys d.1
    ∙ ap (λ (k : ℕ). chain_from n limit (record chain { end = k }) ys) e))

-- from a place on
abbrev pub chain_at : ℕ → ℕ → Chain → ℕ → List Ahead → Chain
chain_at n limit chain place ts = chain_from n limit (record chain { end = place }) ts

pub chain_later : (n limit : ℕ) (chain : Chain) (next : ℕ) (t : Ahead) → t.level ≡ n → closes t.role ≡ false
    → ends_chain n limit t ≡ false
    → Skips (chain_at n limit chain) (chain_at n limit (passed chain t.binds next)) chain.end n t
chain_later n limit chain next t level plain fails =
    let here : (t.level == n) ≡ true = grind (arith, nat_tests) in
    record {
      closes = plain;
      skips = λ xs ys deeper.
          ap (λ (b : Bool). cond b chain (chain_from n limit (next_chain n chain t) (xs ++ ys))) fails
          ∙ (ap (λ (b : Bool). chain_from n limit (cond b (passed chain t.binds (suc chain.end))
          (record chain { end = suc chain.end })) (xs ++ ys)) here
          ∙ chain_deeper n limit (passed chain t.binds (suc chain.end)) xs ys deeper);
    }

pub chain_begins : (n limit first : ℕ) (tokens : List MarkedToken) (ts : List Ahead) (to : ℕ)
    → GoesPast first tokens n ts to
    → Reaches (chain_at n limit (first_chain first to))
    (chain_from n limit (first_chain first (suc first)) ts) to tokens n
chain_begins n limit first tokens ts to g = record {
  before = g.before;
  next = g.next;
  follow = g.follow;
  same = ap (λ (k : ℕ). chain_from n limit (first_chain first k) g.next) g.stands
      ∙ (sym (chain_deeper n limit (first_chain first (suc first)) g.opened g.next g.deeper)
      ∙ ap (chain_from n limit (first_chain first (suc first))) (sym g.is));
}

pub chain_end_here : (n limit : ℕ) (chain : Chain) (t : Ahead) (ts : List Ahead) → ends_chain n limit t ≡ true
    → chain_at n limit chain chain.end (t ∷ ts) ≡ chain
chain_end_here n limit chain t ts h = ap (λ (b : Bool). cond b chain (chain_from n limit (next_chain n chain t) ts)) h

pub chain_past : (d : MarkedToken) (n limit : ℕ) (chain : Chain) (next : ℕ) (tokens : List MarkedToken)
    → chain.end < length tokens
    → (ends_operands (role_view (get_or tokens chain.end d).role) || (nat_lt 0
    (get_or tokens chain.end d).binds && nat_le (get_or tokens chain.end d).binds limit)) ≡ false
    → (before : Mark) (t : Ahead) (us : List Ahead) → Follow before chain.end tokens n (t ∷ us)
    → Skips (chain_at n limit chain)
    (chain_at n limit (passed chain (get_or tokens chain.end d).binds next)) chain.end n t
chain_past d n limit chain next tokens h e before t us f =
    let s = stands d before chain.end tokens n t us h f in
    let fails = chain_tells d false limit chain.end tokens n h e before t us f in
    subst (λ (k : ℕ). Skips (chain_at n limit chain) (chain_at n limit (passed chain k next)) chain.end n t)
    (sym s.token.binds)
    (chain_later n limit chain next t s.level (chain_closes n limit t s.level fails) fails)

pub passed_within : (chain : Chain) (binds next k : ℕ) → chain.end < k → chain.operator < k
    → (passed chain binds next).operator < k
passed_within chain binds next k h l = go (is_weaker chain binds)
  where
    go : (w : Bool) → cond w chain.end chain.operator < k
    go true = h
    go false = l
