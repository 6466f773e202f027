-- A walk over the tokens of a level reaches the first at which it ends.
use Rattle.std.proofs.Common.{◌≡◌, ℕ, suc, ◌+◌, ◌<◌, ◌≤◌, ◌==◌, ◌&&◌, ◌||◌, not, nat_lt, nat_le, Bool, true, false, refl, sym, ap, ap₂, ◌∙◌, List, [], ◌∷◌, ◌++◌, get_or, length, arith}
use Rattle.std.specs.List.{position_or_len}
use Rattle.std.proofs.lemmas.Bool.{false≢true}
use Rattle.std.proofs.lemmas.Bool.Decides.{nat_tests}
use Rattle.wgsl_model_tidy.specs.Roles.{Role, closing, template_end, block_end, closes, ends_item, ends_operands}
use Rattle.wgsl_model_tidy.specs.Ahead.{Ahead, binds_within, ends_chain, ends_part}
use Rattle.wgsl_format_layout.specs.View.{role_view}
use Rattle.wgsl_format_layout.specs.declared.marks.Mark.{Mark}
use Rattle.wgsl_format_layout.specs.declared.marks.MarkedToken.{MarkedToken}
use Rattle.wgsl_format_layout.specs.Marks.{IsAhead}
use Rattle.wgsl_format_layout.specs.Walks.{Follow, GoesPast, are_deeper}
use Rattle.wgsl_format_layout.proofs.Deeper.{neither, AsksFor, position_at, position_past, position_deeper, any_before, any_before_more, any_before_deeper}
use Rattle.wgsl_format_layout.proofs.Following.{stands, none_follow, some_follow}

-- ---- tests that ask for a level

pub chain_asks : (n limit : ℕ) → AsksFor n (ends_chain n limit)
chain_asks n limit t h =
    let e : (t.level == n) ≡ false = grind (arith, nat_tests) in
    ap (λ (b : Bool). b && (ends_operands t.role || binds_within limit t)) e

pub part_asks : (n limit : ℕ) → AsksFor n (ends_part n limit)
part_asks n limit t h =
    let e : (t.level == n) ≡ false = grind (arith, nat_tests) in
    ap (λ (b : Bool). b && (ends_item t.role || (t.several || binds_within limit t))) e

pub level_asks : (n : ℕ) (test : Ahead → Bool) → AsksFor n (λ t. t.level == n && test t)
level_asks n test t h =
    let e : (t.level == n) ≡ false = grind (arith, nat_tests) in
    ap (λ (b : Bool). b && test t) e

-- what they say of a token that is read

pub level_here : (n k : ℕ) (b : Bool) → k ≡ n → (k == n && b) ≡ b
level_here n k b h = let e : (k == n) ≡ true = grind (arith, nat_tests) in ap (λ (c : Bool). c && b) e

pub chain_here : (n limit : ℕ) (before : Mark) (place : ℕ) (m : MarkedToken) (t : Ahead) (ts : List Ahead)
    → t.level ≡ n → IsAhead before place m t ts
    → ends_chain n limit t ≡ (ends_operands (role_view m.role) || (nat_lt 0 m.binds && nat_le m.binds limit))
chain_here n limit before place m t ts level is =
    level_here n t.level (ends_operands t.role || binds_within limit t) level
    ∙ ap₂ (λ (r : Role) (k : ℕ). ends_operands r || (nat_lt 0 k && nat_le k limit)) (sym is.role) (sym is.binds)

pub item_closes : (r : Role) → ends_item r ≡ false → closes r ≡ false
item_closes closing h = absurd (false≢true (sym h))
item_closes template_end h = absurd (false≢true (sym h))
item_closes block_end h = absurd (false≢true (sym h))
item_closes r h = refl

pub operand_closes : (r : Role) → ends_operands r ≡ false → closes r ≡ false
operand_closes closing h = absurd (false≢true (sym h))
operand_closes template_end h = absurd (false≢true (sym h))
operand_closes block_end h = absurd (false≢true (sym h))
operand_closes r h = refl

-- ---- walks

-- a walk is at a place: what it finds from there on is what it finds of all
pub record Reaches {X : Type 0} (value : ℕ → List Ahead → X) (whole : X) (place : ℕ)
    (tokens : List MarkedToken) (n : ℕ) : Type 0 where
  pub before : Mark
  pub next : List Ahead
  pub follow : Follow before place tokens n next
  pub same : value place next ≡ whole

pub reaches_end : {X : Type 0} (value : ℕ → List Ahead → X) (whole : X) (place : ℕ) (tokens : List MarkedToken) (n : ℕ)
    → length tokens ≤ place → Reaches value whole place tokens n → value place [] ≡ whole
reaches_end value whole place tokens n h r =
    ap (value place) (sym (none_follow r.before place tokens n r.next h r.follow)) ∙ r.same

-- it ends at a token, or goes past it
pub reaches_here : {X : Type 0} (value : ℕ → List Ahead → X) (result whole : X) (place : ℕ)
    (tokens : List MarkedToken) (n : ℕ)
    → place < length tokens
    → ((before : Mark) (t : Ahead) (us : List Ahead) → Follow before place tokens n (t ∷ us)
    → value place (t ∷ us) ≡ result)
    → Reaches value whole place tokens n → result ≡ whole
reaches_here value result whole place tokens n h is r = go r.next r.follow r.same
  where
    go : (next : List Ahead) → Follow r.before place tokens n next → value place next ≡ whole → result ≡ whole
    go [] f same = absurd (some_follow r.before place tokens n h f)
    go (t ∷ us) f same = sym (is r.before t us f) ∙ same

-- what is found from a token on is what is found from the next one on, past what it opens
pub record Skips {X : Type 0} (value later : ℕ → List Ahead → X) (place n : ℕ) (t : Ahead) : Type 0 where
  pub closes : closes t.role ≡ false
  pub skips : (xs ys : List Ahead) → are_deeper n xs ≡ true
      → value place (t ∷ (xs ++ ys)) ≡ later (suc place + length xs) ys

pub reaches_past : {X : Type 0} (value later : ℕ → List Ahead → X) (whole : X) (place to : ℕ)
    (tokens : List MarkedToken) (n : ℕ)
    → place < length tokens
    → ((before : Mark) (t : Ahead) (us : List Ahead) → Follow before place tokens n (t ∷ us)
    → Skips value later place n t)
    → ((before : Mark) (k : ℕ) (t : Ahead) (us : List Ahead) → Follow before place tokens k (t ∷ us)
    → closes t.role ≡ false → GoesPast place tokens k us to)
    → Reaches value whole place tokens n → Reaches later whole to tokens n
reaches_past value later whole place to tokens n h is after r = go r.next r.follow r.same
  where
    go : (next : List Ahead) → Follow r.before place tokens n next → value place next ≡ whole
        → Reaches later whole to tokens n
    go [] f same = absurd (some_follow r.before place tokens n h f)
    go (t ∷ us) f same =
        let s = is r.before t us f in
        let g = after r.before n t us f s.closes in
        record {
          before = g.before;
          next = g.next;
          follow = g.follow;
          same = ap (λ (k : ℕ). later k g.next) g.stands
              ∙ (sym (s.skips g.opened g.next g.deeper) ∙ (ap (λ vs. value place (t ∷ vs)) (sym g.is) ∙ same));
        }

-- ---- the first token that passes a test

-- where it is
abbrev pub found_at : (Ahead → Bool) → ℕ → List Ahead → ℕ
found_at test place ts = place + position_or_len test ts

pub found_here : (test : Ahead → Bool) (place : ℕ) (t : Ahead) (ts : List Ahead) → test t ≡ true
    → found_at test place (t ∷ ts) ≡ place
found_here test place t ts h = let e = position_at test t ts h in omega arith

pub found_later : (test : Ahead → Bool) (place n : ℕ) (t : Ahead) → AsksFor n test → closes t.role ≡ false
    → test t ≡ false → Skips (found_at test) (found_at test) place n t
found_later test place n t asks plain fails = record {
  closes = plain;
  skips = λ xs ys deeper.
      let e = position_past test t (xs ++ ys) fails in
      let skips = position_deeper n test asks xs ys deeper in
      omega arith;
}

-- ---- one passes a test before that

abbrev pub found_before : (Ahead → Bool) → (Ahead → Bool) → ℕ → List Ahead → Bool
found_before ends test place ts = any_before ends test ts

pub before_later : (ends test : Ahead → Bool) (place n : ℕ) (t : Ahead) → AsksFor n ends → AsksFor n test
    → closes t.role ≡ false → ends t ≡ false → test t ≡ false
    → Skips (found_before ends test) (found_before ends test) place n t
before_later ends test place n t asks asks_too plain goes fails = record {
  closes = plain;
  skips = λ xs ys deeper. any_before_more ends test t (xs ++ ys) goes
      ∙ (ap (λ (b : Bool). b || any_before ends test (xs ++ ys)) fails
      ∙ any_before_deeper n ends test asks asks_too xs ys deeper);
}

-- ---- the tests of the code

pub chain_closes : (n limit : ℕ) (t : Ahead) → t.level ≡ n → ends_chain n limit t ≡ false → closes t.role ≡ false
chain_closes n limit t level fails =
    let rest = ends_operands t.role || binds_within limit t in
    operand_closes t.role
    (neither (ends_operands t.role) (binds_within limit t) (sym (level_here n t.level rest level) ∙ fails)).0

pub part_closes : (n limit : ℕ) (t : Ahead) → t.level ≡ n → ends_part n limit t ≡ false → closes t.role ≡ false
part_closes n limit t level fails =
    let rest = ends_item t.role || (t.several || binds_within limit t) in
    item_closes t.role (neither (ends_item t.role) (t.several || binds_within limit t)
    (sym (level_here n t.level rest level) ∙ fails)).0

pub chain_tells : (d : MarkedToken) (b : Bool) (limit place : ℕ) (tokens : List MarkedToken) (n : ℕ)
    → place < length tokens
    → (ends_operands (role_view (get_or tokens place d).role)
    || (nat_lt 0 (get_or tokens place d).binds && nat_le (get_or tokens place d).binds limit)) ≡ b
    → (before : Mark) (t : Ahead) (us : List Ahead) → Follow before place tokens n (t ∷ us)
    → ends_chain n limit t ≡ b
chain_tells d b limit place tokens n h e before t us f =
    let s = stands d before place tokens n t us h f in
    chain_here n limit before place (get_or tokens place d) t us s.level s.token ∙ e

-- it is an operator between operands, outside of brackets
abbrev pub is_operator : ℕ → Ahead → Bool
is_operator n t = t.level == n && not (t.binds == 0)

pub operator_asks : (n : ℕ) → AsksFor n (is_operator n)
operator_asks n = level_asks n (λ t. not (t.binds == 0))

pub operator_yes : (d : MarkedToken) (place : ℕ) (tokens : List MarkedToken) (n : ℕ) → place < length tokens
    → ((get_or tokens place d).binds ≡ 0 → ⊥)
    → (before : Mark) (t : Ahead) (us : List Ahead) → Follow before place tokens n (t ∷ us) → is_operator n t ≡ true
operator_yes d place tokens n h binds before t us f =
    let s = stands d before place tokens n t us h f in
    let same = s.token.binds in
    let some : (t.binds == 0) ≡ false = grind (arith, nat_tests) in
    level_here n t.level (not (t.binds == 0)) s.level ∙ ap not some

pub operator_no : (d : MarkedToken) (place : ℕ) (tokens : List MarkedToken) (n : ℕ) → place < length tokens
    → (get_or tokens place d).binds ≡ 0
    → (before : Mark) (t : Ahead) (us : List Ahead) → Follow before place tokens n (t ∷ us) → is_operator n t ≡ false
operator_no d place tokens n h binds before t us f =
    let s = stands d before place tokens n t us h f in
    let same = s.token.binds in
    let none : (t.binds == 0) ≡ true = grind (arith, nat_tests) in
    level_here n t.level (not (t.binds == 0)) s.level ∙ ap not none
