-- Operands that are parted before the operators that bind weakest, one after the other.
use Rattle.std.proofs.Common.{◌≡◌, ℕ, zero, suc, ◌+◌, ◌-◌, ◌<◌, ◌≤◌, ◌==◌, ◌&&◌, ◌||◌, not, Bool, true, false, cond, nat_lt, nat_le, refl, sym, ap, ◌∙◌, List, [], ◌∷◌, drop, arith}
use Rattle.std.specs.List.{list_any, list_all}
use Rattle.std.proofs.lemmas.Bool.{false≢true}
use Rattle.std.proofs.lemmas.Bool.Decides.{nat_tests}
use Rattle.wgsl_model_tidy.specs.Roles.{ends_operands, precedences}
use Rattle.wgsl_model_tidy.specs.Layout.{Layout}
use Rattle.wgsl_model_tidy.specs.Open.{Operands, parted, parted_at}
use Rattle.wgsl_model_tidy.specs.Ahead.{Ahead, fits, ends_chain, binds_within, has_operator}
use Rattle.wgsl_model_tidy.specs.LaidOut.{opens_last, parted_operands}
use Rattle.wgsl_format_layout.specs.Walks.{IsChain}
use Rattle.wgsl_format_layout.specs.Spots.{is_known}
use Rattle.wgsl_format_layout.specs.declared.ahead.Chain.{Chain}
use Rattle.wgsl_format_layout.proofs.Deeper.{both, before_at, before_past}

-- no operator binds so weakly, or weaker
abbrev pub NoneUpTo : ℕ → ℕ → ℕ → List Ahead → Type 0
NoneUpTo n limit k ts = (m : ℕ) → 0 < m → m ≤ k → has_operator n limit m ts ≡ false

-- ---- the precedences that are left

next_precedence : (k : ℕ) → k < 7 → drop k precedences ≡ suc k ∷ drop (suc k) precedences
next_precedence zero h = refl
next_precedence (suc zero) h = refl
next_precedence (suc (suc zero)) h = refl
next_precedence (suc (suc (suc zero))) h = refl
next_precedence (suc (suc (suc (suc zero)))) h = refl
next_precedence (suc (suc (suc (suc (suc zero))))) h = refl
next_precedence (suc (suc (suc (suc (suc (suc zero)))))) h = refl
next_precedence (suc (suc (suc (suc (suc (suc (suc k))))))) h = absurd (omega (arith, h))

no_precedence : (k : ℕ) → 7 ≤ k → drop k precedences ≡ []
no_precedence zero h = absurd (omega (arith, h))
no_precedence (suc zero) h = absurd (omega (arith, h))
no_precedence (suc (suc zero)) h = absurd (omega (arith, h))
no_precedence (suc (suc (suc zero))) h = absurd (omega (arith, h))
no_precedence (suc (suc (suc (suc zero)))) h = absurd (omega (arith, h))
no_precedence (suc (suc (suc (suc (suc zero))))) h = absurd (omega (arith, h))
no_precedence (suc (suc (suc (suc (suc (suc zero)))))) h = absurd (omega (arith, h))
no_precedence (suc (suc (suc (suc (suc (suc (suc zero))))))) h = refl
no_precedence (suc (suc (suc (suc (suc (suc (suc (suc k)))))))) h = refl

-- ---- operands with these precedences left

abbrev pub left_parted : Layout → ℕ → ℕ → ℕ → ℕ → List Ahead → ℕ → List Operands → List Operands
left_parted layout n inner more column ts k operands =
    parted_operands layout n inner more column ts (drop k precedences) operands

-- a precedence of which there is no operator
one_skipped : (layout : Layout) (n inner more column : ℕ) (ts : List Ahead) (k : ℕ) (operands : List Operands)
    → has_operator n (parted_at operands) (suc k) ts ≡ false
    → left_parted layout n inner more column ts k operands ≡ left_parted layout n inner more column ts (suc k) operands
one_skipped layout n inner more column ts k operands h = go (nat_lt k 7) refl
  where
    at : List ℕ → List Operands
    at ms = parted_operands layout n inner more column ts ms operands

    rest : List ℕ
    rest = drop (suc k) precedences

    together : Bool
    together = fits layout (ends_chain n (parted_at operands)) column ts
        || opens_last layout n (parted_at operands) (suc k) (more + inner) column ts

    deeper : List Operands
    deeper = parted_operands layout n inner (suc more) column ts rest (parted (suc k) more ∷ operands)

    go : (b : Bool) → nat_lt k 7 ≡ b → at (drop k precedences) ≡ at rest
    go true e =
        let below : k < 7 = grind (arith, nat_tests) in
        ap at (next_precedence k below)
        ∙ ap (λ (b : Bool). cond (not b) (at rest) (cond together operands deeper)) h
    go false e =
        let past : 7 ≤ k = grind (arith, nat_tests) in
        let later : 7 ≤ suc k = omega arith in
        ap at (no_precedence k past ∙ sym (no_precedence (suc k) later))

-- as many as have none
pub skipped : (layout : Layout) (n inner more column : ℕ) (ts : List Ahead) (k j : ℕ) (operands : List Operands)
    → NoneUpTo n (parted_at operands) (k + j) ts
    → left_parted layout n inner more column ts k operands ≡ left_parted layout n inner more column ts (k + j) operands
skipped layout n inner more column ts k zero operands none =
    let e : k ≡ k + 0 = omega arith in
    ap (λ i. left_parted layout n inner more column ts i operands) e
skipped layout n inner more column ts k (suc j) operands none =
    let e : suc k + j ≡ k + suc j = omega arith in
    let first : has_operator n (parted_at operands) (suc k) ts ≡ false = none (suc k) (omega arith) (omega arith) in
    one_skipped layout n inner more column ts k operands first
    ∙ skipped layout n inner more column ts (suc k) j operands
    (λ m p q. none m p (omega (arith, q)))
    ∙ ap (λ i. left_parted layout n inner more column ts i operands) e

-- no operator is left
pub all_skipped : (layout : Layout) (n inner more column : ℕ) (ts : List Ahead) (k : ℕ) (operands : List Operands)
    → ((m : ℕ) → 0 < m → has_operator n (parted_at operands) m ts ≡ false)
    → left_parted layout n inner more column ts k operands ≡ operands
all_skipped layout n inner more column ts k operands none =
    skipped layout n inner more column ts k 7 operands (λ m p q. none m p)
    ∙ ap (λ ms. parted_operands layout n inner more column ts ms operands) (no_precedence (k + 7) (omega arith))

pub none_left : (layout : Layout) (n inner more column : ℕ) (ts : List Ahead) (k : ℕ) (operands : List Operands)
    → 7 ≤ k → left_parted layout n inner more column ts k operands ≡ operands
none_left layout n inner more column ts k operands h =
    ap (λ ms. parted_operands layout n inner more column ts ms operands) (no_precedence k h)

-- ---- the weakest of those that are left

abbrev pub are_together : Layout → ℕ → ℕ → ℕ → ℕ → ℕ → List Ahead → Bool
are_together layout n limit m depth column ts =
    fits layout (ends_chain n limit) column ts || opens_last layout n limit m depth column ts

-- one that binds stronger than those with none, of which there is one
weakest_found : (layout : Layout) (n inner more column : ℕ) (ts : List Ahead) (k w : ℕ) (operands : List Operands)
    → NoneUpTo n (parted_at operands) k ts
    → ((m : ℕ) → 0 < m → m < w → has_operator n (parted_at operands) m ts ≡ false)
    → has_operator n (parted_at operands) w ts ≡ true → 0 < w → w ≤ 7
    → left_parted layout n inner more column ts k operands
    ≡ cond (are_together layout n (parted_at operands) w (more + inner) column ts) operands
    (left_parted layout n inner (suc more) column ts w (parted w more ∷ operands))
weakest_found layout n inner more column ts k zero operands none lower found some few = absurd (omega (arith, some))
weakest_found layout n inner more column ts k (suc v) operands none lower found some few =
    let past : k ≤ v = above (nat_le k v) refl in
    let j : ℕ = v - k in
    let e : k + j ≡ v = omega arith in
    let before : NoneUpTo n (parted_at operands) (k + j) ts = λ m p q. lower m p (omega (arith, q)) in
    skipped layout n inner more column ts k j operands before
    ∙ ap (λ i. left_parted layout n inner more column ts i operands) e
    ∙ ap at (next_precedence v (omega arith))
    ∙ ap (λ (b : Bool). cond (not b) (at (drop (suc v) precedences)) (cond together operands deeper)) found
  where
    at : List ℕ → List Operands
    at ms = parted_operands layout n inner more column ts ms operands

    together : Bool
    together = are_together layout n (parted_at operands) (suc v) (more + inner) column ts

    deeper : List Operands
    deeper = left_parted layout n inner (suc more) column ts (suc v) (parted (suc v) more ∷ operands)

    above : (b : Bool) → nat_le k v ≡ b → k ≤ v
    above true e = grind (arith, nat_tests)
    above false e =
        let below : suc v ≤ k = grind (arith, nat_tests) in
        absurd (false≢true (sym (none (suc v) (omega arith) below) ∙ found))

-- none is left of those that bind weaker than the operators before which operands are parted
pub none_within : (n w : ℕ) (ts : List Ahead) → NoneUpTo n w w ts
none_within n w [] m p q = refl
none_within n w (t ∷ ts) m p q = go (ends_chain n w t) refl (none_within n w ts m p q)
  where
    test : Ahead → Bool
    test u = u.level == n && u.binds == m

    other : (b : Bool) → (t.level == n) ≡ b → ends_chain n w t ≡ false → test t ≡ false
    other false e h = ap (λ (b : Bool). b && t.binds == m) e
    other true e h =
        let within : binds_within w t ≡ false = bound (ends_operands t.role) (sym (ap (λ (b : Bool). b
        && (ends_operands t.role || binds_within w t)) e) ∙ h) in
        let differs : (t.binds == m) ≡ false = unlike (t.binds == m) refl within in
        ap (λ (b : Bool). t.level == n && b) differs ∙ ap (λ (b : Bool). b && false) e
      where
        bound : (b : Bool) → (b || binds_within w t) ≡ false → binds_within w t ≡ false
        bound true k = absurd (false≢true (sym k))
        bound false k = k

        unlike : (b : Bool) → (t.binds == m) ≡ b → binds_within w t ≡ false → (t.binds == m) ≡ false
        unlike false e h = e
        unlike true e h =
            let same : t.binds ≡ m = grind (arith, nat_tests) in
            let low : nat_lt 0 t.binds ≡ true = grind (arith, nat_tests) in
            let high : nat_le t.binds w ≡ true = grind (arith, nat_tests) in
            absurd (false≢true (sym h ∙ ap (λ (b : Bool). b && nat_le t.binds w) low ∙ high))

    go : (b : Bool) → ends_chain n w t ≡ b → has_operator n w m ts ≡ false → has_operator n w m (t ∷ ts) ≡ false
    go true e h = ap (list_any test) (before_at (ends_chain n w) t ts e)
    go false e h = ap (list_any test) (before_past (ends_chain n w) t ts e)
        ∙ ap (λ (b : Bool). b || has_operator n w m ts) (other (t.level == n) refl e) ∙ h

-- an operator that is between them binds as one does
pub operator_known : (n limit m : ℕ) (ts : List Ahead) → list_all is_known ts ≡ true → has_operator n limit m ts ≡ true
    → m ≤ 7
operator_known n limit m [] known has = absurd (false≢true has)
operator_known n limit m (t ∷ ts) known has =
    let k = both (is_known t) (list_all is_known ts) known in
    go (ends_chain n limit t) refl k.0 (λ later. operator_known n limit m ts k.1 later)
  where
    test : Ahead → Bool
    test u = u.level == n && u.binds == m

    here : (b : Bool) → test t ≡ b → is_known t ≡ true → (has_operator n limit m ts ≡ true → m ≤ 7)
        → (test t || has_operator n limit m ts) ≡ true → m ≤ 7
    here true e k ih h =
        let same : (t.binds == m) ≡ true = (both (t.level == n) (t.binds == m) e).1 in
        let few : t.binds ≤ 7 = grind (arith, nat_tests) in
        let is : t.binds ≡ m = grind (arith, nat_tests) in
        omega arith
    here false e k ih h = ih (sym (ap (λ (b : Bool). b || has_operator n limit m ts) e) ∙ h)

    go : (b : Bool) → ends_chain n limit t ≡ b → is_known t ≡ true → (has_operator n limit m ts ≡ true → m ≤ 7) → m ≤ 7
    go true e k ih = absurd (false≢true (sym (ap (list_any test) (before_at (ends_chain n limit) t ts e)) ∙ has))
    go false e k ih = here (test t) refl k ih (sym (ap (list_any test) (before_past (ends_chain n limit) t ts e)) ∙ has)

-- ---- operands that are parted so far

pub record IsParting (layout : Layout) (n inner first column : ℕ) (ts : List Ahead) (operands : List Operands)
    (count more : ℕ) (now : List Operands) : Type 0 where
  pub passed : ℕ
  pub enough : count ≤ passed
  pub none : NoneUpTo n (parted_at now) passed ts
  pub same : left_parted layout n inner more column ts passed now
      ≡ parted_operands layout n inner first column ts precedences operands

pub parting_begins : (layout : Layout) (n inner first more column : ℕ) (ts : List Ahead) (operands : List Operands)
    → more ≡ first → IsParting layout n inner first column ts operands 0 more operands
parting_begins layout n inner first more column ts operands e = record {
  passed = 0;
  enough = omega arith;
  none = λ m p q. absurd (omega (arith, p, q));
  same = ap (λ i. parted_operands layout n inner i column ts precedences operands) e;
}

pub parting_more : (layout : Layout) (n inner first column place count i more next : ℕ) (ts : List Ahead)
    (operands now : List Operands) (chain : Chain) → IsParting layout n inner first column ts operands count more now
    → IsChain n (parted_at now) place ts chain → 0 < chain.weakest → list_all is_known ts ≡ true
    → are_together layout n (parted_at now) chain.weakest (more + inner) column ts ≡ false
    → i ≡ suc count → next ≡ suc more
    → IsParting layout n inner first column ts operands i next (parted chain.weakest more ∷ now)
parting_more layout n inner first column place count i more next ts operands now chain p c some known apart e f =
    let few : chain.weakest ≤ 7 = operator_known n (parted_at now) chain.weakest ts known (c.found some) in
    let past : p.passed < chain.weakest = above (nat_le chain.weakest p.passed) refl in
    record {
      passed = chain.weakest;
      enough = omega (arith, p.enough, past);
      none = none_within n chain.weakest ts;
      same = ap (λ j. left_parted layout n inner j column ts chain.weakest (parted chain.weakest more ∷ now)) f
          ∙ sym (weakest_found layout n inner more column ts p.passed chain.weakest now p.none c.lower (c.found some)
          some few ∙ ap (λ (b : Bool). cond b now
          (left_parted layout n inner (suc more) column ts chain.weakest (parted chain.weakest more ∷ now))) apart)
          ∙ p.same;
    }
  where
    above : (b : Bool) → nat_le chain.weakest p.passed ≡ b → p.passed < chain.weakest
    above true e =
        let within : chain.weakest ≤ p.passed = grind (arith, nat_tests) in
        absurd (false≢true (sym (p.none chain.weakest some within) ∙ c.found some))
    above false e = grind (arith, nat_tests)

-- no operator is left in the first of them
pub parting_none : (layout : Layout) (n inner first column place count more : ℕ) (ts : List Ahead)
    (operands now : List Operands) (chain : Chain) → IsParting layout n inner first column ts operands count more now
    → IsChain n (parted_at now) place ts chain → chain.weakest ≡ 0
    → now ≡ parted_operands layout n inner first column ts precedences operands
parting_none layout n inner first column place count more ts operands now chain p c none =
    sym (all_skipped layout n inner more column ts p.passed now (c.none none)) ∙ p.same

-- it is in the line
pub parting_together : (layout : Layout) (n inner first column place count more : ℕ) (ts : List Ahead)
    (operands now : List Operands) (chain : Chain) → IsParting layout n inner first column ts operands count more now
    → IsChain n (parted_at now) place ts chain → 0 < chain.weakest → list_all is_known ts ≡ true
    → are_together layout n (parted_at now) chain.weakest (more + inner) column ts ≡ true
    → now ≡ parted_operands layout n inner first column ts precedences operands
parting_together layout n inner first column place count more ts operands now chain p c some known is =
    sym (weakest_found layout n inner more column ts p.passed chain.weakest now p.none c.lower (c.found some) some
    (operator_known n (parted_at now) chain.weakest ts known (c.found some))
    ∙ ap (λ (b : Bool). cond b now
    (left_parted layout n inner (suc more) column ts chain.weakest (parted chain.weakest more ∷ now))) is)
    ∙ p.same

-- lines begin before operators of each precedence
pub parting_all : (layout : Layout) (n inner first column count more : ℕ) (ts : List Ahead)
    (operands now : List Operands) → IsParting layout n inner first column ts operands count more now → 7 ≤ count
    → now ≡ parted_operands layout n inner first column ts precedences operands
parting_all layout n inner first column count more ts operands now p h =
    sym (none_left layout n inner more column ts p.passed now (omega (arith, h, p.enough))) ∙ p.same
