-- The tokens that are read from a place on.
use Rattle.std.proofs.Common.{◌≡◌, ℕ, zero, suc, ◌+◌, ◌-◌, ◌<◌, ◌≤◌, ◌==◌, ◌&&◌, ◌||◌, not, Bool, true, false, cond, refl, sym, ap, ap₂, ◌∙◌, subst, ◌⊎◌, List, [], ◌∷◌, ◌++◌, get_or, drop, length, length-drop, drop-cons, drop-drop, arith}
use Rattle.std.proofs.lemmas.Bool.Decides.{nat_tests}
use Rattle.std.proofs.Math.ListN.{drop_of_length-le}
use Rattle.wgsl_model_tidy.specs.Roles.{Role, opens, closes}
use Rattle.wgsl_model_tidy.specs.Ahead.{Ahead, content, has_several}
use Rattle.wgsl_format_layout.specs.declared.marks.Mark.{Mark}
use Rattle.wgsl_format_layout.specs.declared.marks.MarkedToken.{MarkedToken}
use Rattle.wgsl_format_layout.specs.View.{role_view}
use Rattle.wgsl_format_layout.specs.Marks.{AreInOrder, level_after, inside, IsAhead, AreAhead}
use Rattle.wgsl_format_layout.specs.Walks.{AreMatched, begins_several, Follow, GoesPast, are_deeper}
use Rattle.wgsl_format_layout.proofs.Deeper.{opened, outside, opened_outside, opened_deeper, outside_in_order, length_opened}

-- ---- the marks of tokens that are read

-- the end of the last of so many tokens after the end of another
abbrev pub mark_after : Mark → List MarkedToken → ℕ → Mark
mark_after before ms zero = before
mark_after before [] (suc k) = before
mark_after before (m ∷ ms) (suc k) = mark_after m.end ms k

pub length_ahead : (before : Mark) (place : ℕ) (ms : List MarkedToken) (ts : List Ahead)
    → AreAhead before place ms ts → length ms ≡ length ts
length_ahead before place [] [] h = refl
length_ahead before place [] (t ∷ ts) h = absurd h
length_ahead before place (m ∷ ms) [] h = absurd h
length_ahead before place (m ∷ ms) (t ∷ ts) h = ap suc (length_ahead m.end (suc place) ms ts h.1)

-- those that are left after some of them
pub ahead_after : (before : Mark) (place : ℕ) (ms : List MarkedToken) (xs ys : List Ahead)
    → AreAhead before place ms (xs ++ ys)
    → AreAhead (mark_after before ms (length xs)) (place + length xs) (drop (length xs) ms) ys
ahead_after before place ms [] ys h =
    let e : place ≡ place + 0 = omega arith in
    subst (λ (k : ℕ). AreAhead before k ms ys) e h
ahead_after before place [] (x ∷ xs) ys h = absurd h
ahead_after before place (m ∷ ms) (x ∷ xs) ys h =
    let e : suc place + length xs ≡ place + suc (length xs) = omega arith in
    subst (λ (k : ℕ). AreAhead (mark_after m.end ms (length xs)) k (drop (length xs) ms) ys) e
    (ahead_after m.end (suc place) ms xs ys h.1)

-- how many they are
pub count_follow : (before : Mark) (place : ℕ) (tokens : List MarkedToken) (n : ℕ) (ts : List Ahead)
    → place ≤ length tokens → Follow before place tokens n ts → length tokens ≡ place + length ts
count_follow before place tokens n ts h f =
    let count = sym (length-drop place tokens) ∙ length_ahead before place (drop place tokens) ts f.are in omega arith

-- ---- one of them, at a place

pub record Stands (before : Mark) (place : ℕ) (tokens : List MarkedToken) (n : ℕ) (m : MarkedToken)
    (t : Ahead) (ts : List Ahead) : Type 0 where
  pub token : IsAhead before place m t ts
  pub level : t.level ≡ n
  pub after : Follow m.end (suc place) tokens (level_after n t.role) ts
  pub count : length tokens ≡ place + suc (length ts)

pub stands : (d : MarkedToken) (before : Mark) (place : ℕ) (tokens : List MarkedToken) (n : ℕ)
    (t : Ahead) (ts : List Ahead)
    → place < length tokens → Follow before place tokens n (t ∷ ts)
    → Stands before place tokens n (get_or tokens place d) t ts
stands d before place tokens n t ts h f =
    let is = subst (λ ms. AreAhead before place ms (t ∷ ts)) (drop-cons tokens place d h) f.are in
    record {
      token = is.0;
      level = f.order.0;
      after = record { are = is.1; order = f.order.2 };
      count = count_follow before place tokens n (t ∷ ts) (omega arith) f;
    }

-- there is one where a token is, and none after the last token
pub none_follow : (before : Mark) (place : ℕ) (tokens : List MarkedToken) (n : ℕ) (ts : List Ahead)
    → length tokens ≤ place → Follow before place tokens n ts → ts ≡ []
none_follow before place tokens n [] h f = refl
none_follow before place tokens n (t ∷ ts) h f =
    absurd (subst (λ ms. AreAhead before place ms (t ∷ ts)) (drop_of_length-le tokens h) f.are)

pub some_follow : (before : Mark) (place : ℕ) (tokens : List MarkedToken) (n : ℕ)
    → place < length tokens → Follow before place tokens n [] → ⊥
some_follow before place tokens n h f =
    let count = count_follow before place tokens n [] (omega arith) f in omega arith

-- ---- past what it opens

-- the place after what a token opens
abbrev pub IsAfter : MarkedToken → List MarkedToken → ℕ → Type 0
IsAfter m tokens to = ((m.close < length tokens) × (to ≡ m.close + 1)) ⊎ ((length tokens ≤ m.close) × (to ≡ m.close))

past_by : (m : MarkedToken) (before : Mark) (place : ℕ) (tokens : List MarkedToken) (n : ℕ)
    (t : Ahead) (ts xs ys : List Ahead) (to : ℕ)
    → Stands before place tokens n m t ts → ts ≡ xs ++ ys → are_deeper n xs ≡ true → AreInOrder n ys
    → to ≡ suc place + length xs → GoesPast place tokens n ts to
past_by m before place tokens n t ts xs ys to s is deeper order stands =
    let left = drop (suc place) tokens in
    let end = mark_after m.end left (length xs) in
    let are = ahead_after m.end (suc place) left xs ys
    (subst (λ us. AreAhead m.end (suc place) left us) is s.after.are) in
    let there = subst (λ ms. AreAhead end (suc place + length xs) ms ys)
    (drop-drop (length xs) (suc place) tokens) are in
    record {
      opened = xs;
      next = ys;
      before = end;
      is = is;
      deeper = deeper;
      stands = stands;
      follow = record {
        are = subst (λ (k : ℕ). AreAhead end k (drop k tokens) ys) (sym stands) there;
        order = order;
      };
    }

pub goes_past : (d : MarkedToken) (before : Mark) (place : ℕ) (tokens : List MarkedToken) (n : ℕ)
    (t : Ahead) (ts : List Ahead) (to : ℕ)
    → place < length tokens → Follow before place tokens n (t ∷ ts) → closes t.role ≡ false
    → IsAfter (get_or tokens place d) tokens to → GoesPast place tokens n ts to
goes_past d before place tokens n t ts to h f plain is_after =
    go (opens t.role) refl (stands d before place tokens n t ts h f)
  where
    go : (o : Bool) → opens t.role ≡ o → Stands before place tokens n (get_or tokens place d) t ts
        → GoesPast place tokens n ts to
    go true o s =
        let order = subst (λ (b : Bool). AreInOrder (cond b (suc n) (cond (closes t.role) (n - 1) n)) ts)
        o s.after.order in
        let xs = opened (suc n) ts in let ys = outside (suc n) ts in
        let close = s.token.close
        ∙ ap₂ (λ (b : Bool) (k : ℕ). place + cond b (suc (length (content (suc k) ts))) 0) o s.level in
        let many = length_opened (suc n) ts in
        let stands : to ≡ suc place + length xs = omega arith in
        past_by (get_or tokens place d) before place tokens n t ts xs ys to s (opened_outside (suc n) ts)
        (opened_deeper n (suc n) ts (omega arith) order)
        (outside_in_order n (suc n) ts (omega arith) order) stands
    go false o s =
        let order = subst (λ (k : ℕ). AreInOrder k ts)
        (ap₂ (λ (a b : Bool). cond a (suc n) (cond b (n - 1) n)) o plain) s.after.order in
        let close = s.token.close ∙ ap (λ (b : Bool). place + cond b (suc (length (content (suc t.level) ts))) 0) o in
        let stands : to ≡ suc place + 0 = omega arith in
        past_by (get_or tokens place d) before place tokens n t ts [] ts to s refl refl order stands

-- ---- what a bracket begins with

-- the second of two tokens closes what the first does not open, if as much is open before both
same_level : (n k l : ℕ) (r : Role) (c : Bool) → closes r ≡ false → k ≡ n → l ≡ level_after n r
    → not (c && (l == k)) ≡ (opens r || not c)
same_level n k l r c plain k_is l_is = go (opens r) refl
  where
    level : (o : Bool) → opens r ≡ o → l ≡ cond o (suc n) n
    level o is = l_is ∙ ap₂ (λ (a b : Bool). cond a (suc n) (cond b (n - 1) n)) is plain

    ends : (b : Bool) → not (b && true) ≡ not b
    ends true = refl
    ends false = refl

    never : (b : Bool) → not (b && false) ≡ true
    never true = refl
    never false = refl

    go : (o : Bool) → opens r ≡ o → not (c && (l == k)) ≡ (o || not c)
    go true is =
        let l_at = level true is in let e : (l == k) ≡ false = grind (arith, nat_tests) in
        ap (λ (b : Bool). not (c && b)) e ∙ never c
    go false is =
        let l_at = level false is in let e : (l == k) ≡ true = grind (arith, nat_tests) in
        ap (λ (b : Bool). not (c && b)) e ∙ ends c

inner_step : (a c b x y : Bool) → (c ≡ false → x ≡ y)
    → (a || (not c && (b || x))) ≡ (a || (not c && (b || y)))
inner_step a true b x y h = refl
inner_step a false b x y h = ap (λ (z : Bool). a || (b || z)) (h refl)

pub several_at : (d : MarkedToken) (before : Mark) (place : ℕ) (tokens : List MarkedToken) (n : ℕ)
    (t : Ahead) (ts : List Ahead)
    → place + 2 < length tokens → Follow before place tokens n (t ∷ ts)
    → begins_several (get_or tokens (place + 1) d) (get_or tokens (place + 2) d) ≡ has_several ts
several_at d before place tokens n t ts far f = go ts (stands d before place tokens n t ts (omega arith) f)
  where
    go : (us : List Ahead) → Stands before place tokens n (get_or tokens place d) t us
        → begins_several (get_or tokens (place + 1) d) (get_or tokens (place + 2) d) ≡ has_several us
    go [] s = let c = s.count in absurd (omega arith)
    go (u ∷ []) s = let c = s.count in absurd (omega arith)
    go (u ∷ v ∷ us) s =
        let k = level_after n t.role in
        let m = get_or tokens (suc place) d in let next = get_or tokens (suc (suc place)) d in
        let one : place + 1 ≡ suc place = omega arith in
        let two : place + 2 ≡ suc (suc place) = omega arith in
        let first = stands d (get_or tokens place d).end (suc place) tokens k u (v ∷ us) (omega arith) s.after in
        let second = stands d m.end (suc (suc place)) tokens (level_after k u.role) v us (omega arith) first.after in
        ap₂ (λ (i j : ℕ). begins_several (get_or tokens i d) (get_or tokens j d)) one two
        ∙ ap₂ (λ (a : Bool) (r : Role). a
        || (not (closes r) && (next.before.ends || (opens r || not (closes (role_view next.role))))))
        first.token.ends first.token.role
        ∙ ap₂ (λ (b : Bool) (r : Role). u.ends || (not (closes u.role) && (b || (opens u.role || not (closes r)))))
        second.token.ends second.token.role
        ∙ inner_step u.ends (closes u.role) v.ends (opens u.role || not (closes v.role))
        (not (closes v.role && v.level == u.level))
        (λ plain. sym (same_level k u.level v.level u.role (closes v.role) plain first.level second.level))

pub none_several : (before : Mark) (place : ℕ) (tokens : List MarkedToken) (n : ℕ) (t : Ahead) (ts : List Ahead)
    → place < length tokens → length tokens ≤ place + 2 → Follow before place tokens n (t ∷ ts) → has_several ts ≡ false
none_several before place tokens n t [] h near f = refl
none_several before place tokens n t (u ∷ []) h near f = refl
none_several before place tokens n t (u ∷ v ∷ ts) h near f =
    let c = count_follow before place tokens n (t ∷ u ∷ v ∷ ts) (omega arith) f in absurd (omega arith)

-- ---- what is known of all of them

matched_from : (before : Mark) (place : ℕ) (ms : List MarkedToken) (ts : List Ahead)
    → AreAhead before place ms ts
    → (k : ℕ) (m : MarkedToken) → k < length ms → get_or ms k m ≡ m
    → (place + k ≤ m.close) × (m.close ≤ place + length ms)
matched_from before place [] ts are k m h at = absurd (omega arith)
matched_from before place (m' ∷ ms) [] are k m h at = absurd are
matched_from before place (m' ∷ ms) (t ∷ ts) are zero m h at =
    let many = length_ahead m'.end (suc place) ms ts are.1 in
    let close = sym (ap (λ x. x.close) at) ∙ are.0.close in
    let content = length_opened (suc t.level) ts in
    let few : inside t ts ≤ suc (length ts) = go (opens t.role) in
    (omega arith, omega arith)
  where
    go : (o : Bool) → cond o (suc (length (content (suc t.level) ts))) 0 ≤ suc (length ts)
    go true = let c = length_opened (suc t.level) ts in omega arith
    go false = omega arith
matched_from before place (m' ∷ ms) (t ∷ ts) are (suc k) m h at =
    let ih = matched_from m'.end (suc place) ms ts are.1 k m (omega arith) at in
    (omega arith, omega arith)

pub matched : (before : Mark) (tokens : List MarkedToken) (ts : List Ahead)
    → AreAhead before 0 tokens ts → AreMatched tokens
matched before tokens ts are k m h at =
    let r = matched_from before 0 tokens ts are k m h at in (omega arith, omega arith)

-- ---- where what it opens ends

same_token : (d e : MarkedToken) (tokens : List MarkedToken) (k : ℕ) → k < length tokens
    → get_or tokens k d ≡ get_or tokens k e
same_token d e [] k h = absurd (omega arith)
same_token d e (m ∷ ms) zero h = refl
same_token d e (m ∷ ms) (suc k) h = same_token d e ms k (omega arith)

pub close_within : (d : MarkedToken) (tokens : List MarkedToken) (place : ℕ) → AreMatched tokens → place < length tokens
    → (get_or tokens place d).close ≤ length tokens
close_within d tokens place closed h =
    (closed place (get_or tokens place d) h (same_token (get_or tokens place d) d tokens place h)).1

pub below_close : (a b c : ℕ) → a < b → b ≤ c → a < c
below_close a b c h k = omega arith
