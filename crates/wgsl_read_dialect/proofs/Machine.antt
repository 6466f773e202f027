-- Following steps one by one: an inner part, then the steps after it.
use Rattle.std.proofs.Common.{◌≡◌, ℕ, suc, ◌+◌, ◌*◌, ◌<◌, ◌≤◌, Bool, true, false, cond, not, ◌&&◌, ◌||◌, nat_le, List, length, refl, sym, ap, subst, ◌∙◌, arith, mul-le-mul_left}
use Rattle.std.proofs.lemmas.Bool.Decides.{nat_tests}
use Rattle.grammar.specs.States.{State, Read, Read.done, ◌>>=◌, is_any, take_any}
use Rattle.grammar.proofs.Reading.Sets.{and_true}
use Rattle.wgsl_model.specs.Grammar.Symbols.{Dialect}
use Rattle.wgsl_theory_grammar.specs.Factored.{FactoredSymbol}
use Rattle.wgsl_theory_grammar.specs.Tables.{empties}
use Rattle.wgsl_read_cursor.specs.declared.fault.Fault.{Fault}
use Rattle.wgsl_read_cursor.specs.declared.fault.Fault.TheVariants as fault
use Rattle.wgsl_read_cursor.specs.Reading.{Fails}
use Rattle.wgsl_read_dialect.specs.Steps.{Steps, Steps.no_step, Steps.a_token, Steps.a_symbol, Steps.a_choice, Steps.items, rule_steps}
use Rattle.wgsl_read_dialect.specs.Following.{forgotten, repeated, follow}
use Rattle.wgsl_read_dialect.specs.Weights.{can_be_empty, symbol_weight, weight, token_weight, is_settled}
use Rattle.wgsl_read_dialect.specs.Work.{work, IsWorkLeft}
use Rattle.wgsl_read_dialect.proofs.Following.{after_done, passes_is}
use Rattle.wgsl_read_dialect.proofs.Weights.{least, rule_settled, rule_weighs, rule_empty, follow_takes}

-- following w is following g and then k
pub record IsInside (L : Dialect) (g k w : Steps) (s : State) : Type 0 where
  pub same : follow L w s ≡ (follow L g s >>= λ u s'. follow L k s')
  pub inner : is_settled g ≡ true
  pub outer : is_settled k ≡ true
  pub after : cond (can_be_empty g) (suc (weight k)) 1 ≤ weight w
  pub most : weight k ≤ token_weight

at_most : (a b : ℕ) → nat_le a b ≡ true → a ≤ b
at_most a b h = grind (arith, nat_tests)

after_first : (a b : Bool) (x y z : ℕ) → cond a (suc z) 1 ≤ suc (x + (y + cond (a || b) z 0))
after_first true true x y z = omega arith
after_first true false x y z = omega arith
after_first false true x y z = omega arith
after_first false false x y z = omega arith

after_second : (a b : Bool) (x y z : ℕ) → cond b (suc z) 1 ≤ suc (x + (y + cond (a || b) z 0))
after_second true true x y z = omega arith
after_second true false x y z = omega arith
after_second false true x y z = omega arith
after_second false false x y z = omega arith

after_rule : (a b : Bool) (x z : ℕ) → a ≡ b → cond a (suc z) 1 ≤ suc (x + cond b z 0)
after_rule true true x z e = omega arith
after_rule false false x z e = omega arith
after_rule true false x z e = absurd cc
after_rule false true x z e = absurd cc

after_any : (a : Bool) (x z : ℕ) → cond a (suc z) 1 ≤ suc (suc (x + z))
after_any true x z = omega arith
after_any false x z = omega arith

pub in_token : (L : Dialect) (cs : List ℕ) (k : Steps) (s : State)
    → is_settled (a_token cs k) ≡ true → IsInside L (a_token cs no_step) k (a_token cs k) s
unfolding token_weight
in_token L cs k s e =
    let q = and_true _ _ e in
    record {
      same = ap (λ (x : Read (Unit {0})). x >>= λ u s'. follow L k s') (sym (after_done (forgotten (take_any cs s))));
      inner = refl;
      outer = q.1;
      after = omega arith;
      most = at_most _ _ q.0;
    }

pub in_rule : (L : Dialect) (n : FactoredSymbol) (k : Steps) (s : State)
    → is_settled (a_symbol n k) ≡ true → IsInside L (rule_steps L n) k (a_symbol n k) s
in_rule L n k s e =
    let q = and_true _ _ e in
    record {
      same = ap (λ (x : Read (Unit {0})). x >>= λ u s'. follow L k s') (passes_is L n s);
      inner = rule_settled L n;
      outer = q.1;
      after = after_rule (can_be_empty (rule_steps L n)) (empties n) (symbol_weight n) (weight k) (rule_empty L n);
      most = at_most _ _ q.0;
    }

in_first : (L : Dialect) (cs : List ℕ) (g h k : Steps) (s : State)
    → is_settled (a_choice cs g h k) ≡ true → is_any cs s ≡ true → IsInside L g k (a_choice cs g h k) s
in_first L cs g h k s e b =
    let q = and_true _ _ e in let inside = and_true _ _ q.0 in let after_it = and_true _ _ q.1 in
    record {
      same = ap (λ (x : Bool). cond x (follow L g s) (follow L h s) >>= λ u s'. follow L k s') b;
      inner = inside.0;
      outer = after_it.1;
      after = after_first (can_be_empty g) (can_be_empty h) (weight g) (weight h) (weight k);
      most = at_most _ _ after_it.0;
    }

in_second : (L : Dialect) (cs : List ℕ) (g h k : Steps) (s : State)
    → is_settled (a_choice cs g h k) ≡ true → is_any cs s ≡ false → IsInside L h k (a_choice cs g h k) s
in_second L cs g h k s e b =
    let q = and_true _ _ e in let inside = and_true _ _ q.0 in let after_it = and_true _ _ q.1 in
    record {
      same = ap (λ (x : Bool). cond x (follow L g s) (follow L h s) >>= λ u s'. follow L k s') b;
      inner = inside.1;
      outer = after_it.1;
      after = after_second (can_be_empty g) (can_be_empty h) (weight g) (weight h) (weight k);
      most = at_most _ _ after_it.0;
    }

pub in_choice : (L : Dialect) (cs : List ℕ) (c g h k : Steps) (s : State)
    → is_settled (a_choice cs g h k) ≡ true → c ≡ cond (is_any cs s) g h
    → IsInside L c k (a_choice cs g h k) s
in_choice L cs c g h k s e q = subst (λ (x : Steps). IsInside L x k (a_choice cs g h k) s) (sym q)
    (chosen (is_any cs s) refl)
  where
    chosen : (b : Bool) → is_any cs s ≡ b → IsInside L (cond b g h) k (a_choice cs g h k) s
    chosen true w = in_first L cs g h k s e w
    chosen false w = in_second L cs g h k s e w

pub in_items : (L : Dialect) (cs : List ℕ) (h k : Steps) (s : State)
    → is_settled (items cs h k) ≡ true → IsInside L (items cs h no_step) k (items cs h k) s
unfolding token_weight
in_items L cs h k s e =
    let q = and_true (not (can_be_empty h) && is_settled h)
    (nat_le (weight k) token_weight && is_settled k) e in let after_it = and_true _ _ q.1 in
    record {
      same = ap (λ (x : Read (Unit {0})). x >>= λ u s'. follow L k s')
          (sym (after_done (repeated cs (follow L h) s)));
      inner = ap (λ (x : Bool). x && true) q.0;
      outer = after_it.1;
      after = after_any true (weight h) (weight k);
      most = at_most _ _ after_it.0;
    }

-- ---- what is left then
-- the steps after, once the inner part is followed
pub goes_on : {L : Dialect} (g k w : Steps) (s : State) (u : Unit {0}) (s' : State) (whole : Read (Unit {0})) (n : ℕ)
    → IsInside L g k w s → IsWorkLeft L whole n w s → follow L g s ≡ done u s'
    → IsWorkLeft L whole n k s' × (work k s' < work w s)
unfolding work
goes_on {L} g k w s u s' whole n i l e =
    let less : token_weight * length s'.rest + weight k < token_weight * length s.rest + weight w =
    falls (can_be_empty g) (length s'.rest) (length s.rest) (weight k) (weight w)
    (follow_takes L g s u s' e) i.after i.most in
    let most : token_weight * length s.rest + weight w ≤ n = l.lighter in (
      record {
        follows = sym (i.same ∙ ap (λ (x : Read (Unit {0})). x >>= λ u s'. follow L k s') e) ∙ l.follows;
        settled = i.outer;
        lighter = omega (arith, less, most);
      },
      less,
    )
  where
    falls : (b : Bool) (x y v z : ℕ) → x + least b ≤ y → cond b (suc v) 1 ≤ z → v ≤ token_weight
        → token_weight * x + v < token_weight * y + z
    falls true x y v z p q r =
        let m : token_weight * x ≤ token_weight * y = mul-le-mul_left token_weight
        (let l : x ≤ y = omega arith in l) in omega arith
    falls false x y v z p q r =
        let m : token_weight * suc x ≤ token_weight * y = mul-le-mul_left token_weight
        (let l : suc x ≤ y = omega arith in l) in omega arith

-- the inner part, where no steps are after
pub goes_in : {L : Dialect} (g w : Steps) (s : State) (whole : Read (Unit {0})) (n : ℕ)
    → IsInside L g no_step w s → IsWorkLeft L whole n w s → weight g < weight w
    → IsWorkLeft L whole n g s × (work g s < work w s)
unfolding work
goes_in {L} g w s whole n i l h =
    let most : token_weight * length s.rest + weight w ≤ n = l.lighter in (
      record {
        follows = sym (i.same ∙ after_done (follow L g s)) ∙ l.follows;
        settled = i.inner;
        lighter = omega (arith, most, h);
      },
      omega (arith, h),
    )

-- ---- what a call is allowed
pub lighter_rule : (L : Dialect) (n : FactoredSymbol) (k : Steps) → weight (rule_steps L n) < weight (a_symbol n k)
lighter_rule L n k = let h = rule_weighs L n in omega (arith, h)

pub lighter_choice : (b : Bool) (cs : List ℕ) (c g h k : Steps) → c ≡ cond b g h → weight c < weight (a_choice cs g h k)
lighter_choice true cs c g h k e = let q = ap weight e in omega (arith, q)
lighter_choice false cs c g h k e = let q = ap weight e in omega (arith, q)

-- a part is less work than what it is a part of
pub less_work : (g w : Steps) (s : State) (n : ℕ) → weight g < weight w → work w s ≤ n → work g s < n
unfolding work
less_work g w s n h l = let q : token_weight * length s.rest + weight w ≤ n = l in omega (arith, q, h)

-- ---- what fails
pub stopped : (e : Fault) (m : Read (Unit {0})) (f : Unit {0} → State → Read (Unit {0})) → Fails e m → Fails e (m >>= f)
stopped (fault.Refused refusal) m f h = ap (λ (r : Read (Unit {0})). r >>= f) h
stopped fault.OutOfMemory m f h = tt

-- a failing inner part fails the whole
pub fails_in : {L : Dialect} (g k w : Steps) (s : State) (whole : Read (Unit {0})) (n : ℕ) (e : Fault)
    → IsInside L g k w s → IsWorkLeft L whole n w s → Fails e (follow L g s) → Fails e whole
fails_in {L} g k w s whole n e i l h = subst (Fails e) (sym i.same ∙ l.follows) (stopped e (follow L g s) _ h)
