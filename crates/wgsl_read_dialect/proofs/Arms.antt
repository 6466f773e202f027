-- What is left after each kind of step.
use Rattle.std.proofs.Common.{◌≡◌, ◌==◌, ℕ, suc, ◌*◌, ◌<◌, ◌≤◌, Bool, true, false, cond, not, ◌&&◌, nat_le, List, [], ◌∷◌, length, refl, sym, ap, subst, ◌∙◌, arith, mul-le-mul_left}
use Rattle.std.proofs.lemmas.Bool.Decides.{nat_tests}
use Rattle.std.specs.Borrow.{Bor}
use Rattle.grammar.specs.States.{State, Read, Read.done, ◌>>=◌, is_any, take_any}
use Rattle.grammar.proofs.Reading.Sets.{and_true, not_true}
use Rattle.wgsl_model.specs.Grammar.Symbols.{Dialect}
use Rattle.wgsl_lex_token.specs.declared.kind_table.TokenKind.{TokenKind}
use Rattle.wgsl_lex_token.specs.View.{classes}
use Rattle.wgsl_read_cursor.specs.declared.fault.Fault.{Fault}
use Rattle.wgsl_read_cursor.specs.Reading.{Fails}
use Rattle.wgsl_read_dialect.specs.declared.step.Step.{Step, Token, Rule, Choice, Repeat}
use Rattle.wgsl_read_dialect.specs.declared.rules.Symbol.{Symbol}
use Rattle.wgsl_read_dialect.specs.Steps.{Steps, Steps.no_step, Steps.a_token, Steps.a_symbol, Steps.a_choice, Steps.items, rule_steps}
use Rattle.wgsl_read_dialect.specs.Following.{forgotten, repeated, follow}
use Rattle.wgsl_read_dialect.specs.Weights.{can_be_empty, weight, token_weight, is_settled}
use Rattle.wgsl_read_dialect.specs.Work.{work, IsWorkLeft}
use Rattle.wgsl_read_dialect.specs.Symbols.{symbol_view}
use Rattle.wgsl_read_dialect.specs.View.{step_view, steps_view}
use Rattle.wgsl_read_dialect.proofs.Following.{after_done}
use Rattle.wgsl_read_dialect.proofs.Weights.{least, follow_takes, repeated_is}
use Rattle.wgsl_read_dialect.proofs.Views.{choice_is, repeat_is}
use Rattle.wgsl_read_dialect.proofs.Machine.{IsInside, in_token, in_rule, in_choice, in_items, goes_on, goes_in, lighter_rule, lighter_choice, less_work, stopped, fails_in}

-- ---- how the first step is seen
seen : (all rest : List Step) (step here : Step) → all ≡ step ∷ rest → step ≡ here
    → steps_view all ≡ step_view here (steps_view rest)
seen all rest step here e f = ap steps_view e ∙ ap (λ (x : Step). step_view x (steps_view rest)) f

pub is_zero : (n : ℕ) → true ≡ (n == 0) → n ≡ 0
is_zero n e = grind (arith, nat_tests)

none_left : (rest : List Step) → length rest ≡ 0 → steps_view rest ≡ no_step
none_left [] e = refl
none_left (s ∷ ss) e = absurd (omega (arith, e))

-- what is left, seen as it is
as_seen : {L : Dialect} (whole : Read (Unit {0})) (n : ℕ) (w w' : Steps) (s : State) → w ≡ w'
    → IsWorkLeft L whole n w s → IsWorkLeft L whole n w' s
as_seen {L} whole n w w' s e l = subst (λ (x : Steps). IsWorkLeft L whole n x s) e l

-- ---- an inner part, and the steps after it
pub inside_token : {L : Dialect} (all rest : List Step) (step : Step) (kinds : Bor (List TokenKind))
    (s : State) (whole : Read (Unit {0})) (n : ℕ)
    → all ≡ step ∷ rest → step ≡ Token kinds → IsWorkLeft L whole n (steps_view all) s
    → IsInside L (a_token (classes kinds.now) no_step) (steps_view rest) (steps_view all) s
inside_token {L} all rest step kinds s whole n e f l =
    let v = seen all rest step (Token kinds) e f in
    subst (λ (w : Steps). IsInside L (a_token (classes kinds.now) no_step) (steps_view rest) w s)
    (sym v) (in_token L (classes kinds.now) (steps_view rest) s ((as_seen whole n _ _ s v l).settled))

pub inside_items : {L : Dialect} (all rest : List Step) (step : Step) (kinds : Bor (List TokenKind))
    (each : Bor (List Step)) (s : State) (whole : Read (Unit {0})) (n : ℕ)
    → all ≡ step ∷ rest → step ≡ Repeat kinds each → IsWorkLeft L whole n (steps_view all) s
    → IsInside L (items (classes kinds.now) (steps_view each.now) no_step) (steps_view rest) (steps_view all) s
inside_items {L} all rest step kinds each s whole n e f l =
    let v : steps_view all ≡ items (classes kinds.now) (steps_view each.now) (steps_view rest) =
    seen all rest step (Repeat kinds each) e f ∙ repeat_is kinds each (steps_view rest) in
    subst (λ (w : Steps). IsInside L (items (classes kinds.now) (steps_view each.now) no_step)
    (steps_view rest) w s) (sym v) (in_items L (classes kinds.now) (steps_view each.now)
    (steps_view rest) s ((as_seen whole n _ _ s v l).settled))

pub inside_rule : {L : Dialect} (all rest : List Step) (step : Step) (symbol : Symbol)
    (inner : List Step) (s : State) (whole : Read (Unit {0})) (n : ℕ)
    → all ≡ step ∷ rest → step ≡ Rule symbol → steps_view inner ≡ rule_steps L (symbol_view symbol)
    → IsWorkLeft L whole n (steps_view all) s
    → IsInside L (steps_view inner) (steps_view rest) (steps_view all) s
    × (weight (steps_view inner) < weight (steps_view all))
inside_rule {L} all rest step symbol inner s whole n e f r l =
    let v : steps_view all ≡ a_symbol (symbol_view symbol) (steps_view rest) = seen all rest step (Rule symbol) e f in
    let i = in_rule L (symbol_view symbol) (steps_view rest) s ((as_seen whole n _ _ s v l).settled) in
    let h = lighter_rule L (symbol_view symbol) (steps_view rest) in (
      subst (λ (w : Steps). IsInside L (steps_view inner) (steps_view rest) w s) (sym v)
          (subst (λ (g : Steps). IsInside L g (steps_view rest)
          (a_symbol (symbol_view symbol) (steps_view rest)) s) (sym r) i),
      (let a = ap weight v in let b = ap weight r in omega (arith, a, b, h)),
    )

pub inside_choice : {L : Dialect} (all rest : List Step) (step : Step) (kinds : Bor (List TokenKind))
    (first second : Bor (List Step)) (inner : List Step) (s : State) (whole : Read (Unit {0})) (n : ℕ)
    → all ≡ step ∷ rest → step ≡ Choice kinds first second
    → steps_view inner ≡ cond (is_any (classes kinds.now) s) (steps_view first.now) (steps_view second.now)
    → IsWorkLeft L whole n (steps_view all) s
    → IsInside L (steps_view inner) (steps_view rest) (steps_view all) s
    × (weight (steps_view inner) < weight (steps_view all))
inside_choice {L} all rest step kinds first second inner s whole n e f r l =
    let v : steps_view all ≡ a_choice (classes kinds.now) (steps_view first.now)
    (steps_view second.now) (steps_view rest) = seen all rest step (Choice kinds first second) e f
    ∙ choice_is kinds first second (steps_view rest) in
    let i = in_choice L (classes kinds.now) (steps_view inner) (steps_view first.now)
    (steps_view second.now) (steps_view rest) s ((as_seen whole n _ _ s v l).settled) r in
    let h = lighter_choice (is_any (classes kinds.now) s) (classes kinds.now) (steps_view inner)
    (steps_view first.now) (steps_view second.now) (steps_view rest) r in (
      subst (λ (w : Steps). IsInside L (steps_view inner) (steps_view rest) w s) (sym v) i,
      (let a = ap weight v in omega (arith, a, h)),
    )

-- ---- what a step asks, and what it leaves
abbrev pub OnLeft : Dialect → Read (Unit {0}) → ℕ → List Step → State → List Step → State → Type 0
OnLeft L whole n rest s' all s = IsWorkLeft L whole n (steps_view rest) s'
    × (work (steps_view rest) s' < work (steps_view all) s)

pub on_token : {L : Dialect} (all rest : List Step) (step : Step) (kinds : Bor (List TokenKind))
    (s s' : State) (u : Unit {0}) (whole : Read (Unit {0})) (n : ℕ)
    → all ≡ step ∷ rest → step ≡ Token kinds → IsWorkLeft L whole n (steps_view all) s
    → forgotten (take_any (classes kinds.now) s) ≡ done u s' → OnLeft L whole n rest s' all s
on_token {L} all rest step kinds s s' u whole n e f l h =
    goes_on (a_token (classes kinds.now) no_step) (steps_view rest) (steps_view all) s u s' whole n
    (inside_token all rest step kinds s whole n e f l) l
    (after_done (forgotten (take_any (classes kinds.now) s)) ∙ h)

pub fails_token : {L : Dialect} (all rest : List Step) (step : Step) (kinds : Bor (List TokenKind))
    (s : State) (x : Fault) (whole : Read (Unit {0})) (n : ℕ)
    → all ≡ step ∷ rest → step ≡ Token kinds → IsWorkLeft L whole n (steps_view all) s
    → Fails x (forgotten (take_any (classes kinds.now) s)) → Fails x whole
fails_token {L} all rest step kinds s x whole n e f l h =
    fails_in (a_token (classes kinds.now) no_step) (steps_view rest) (steps_view all) s whole n x
    (inside_token all rest step kinds s whole n e f l) l
    (subst (Fails x) (sym (after_done (forgotten (take_any (classes kinds.now) s)))) h)

pub on_items : {L : Dialect} (all rest : List Step) (step : Step) (kinds : Bor (List TokenKind))
    (each : Bor (List Step)) (s s' : State) (u : Unit {0}) (whole : Read (Unit {0})) (n : ℕ)
    → all ≡ step ∷ rest → step ≡ Repeat kinds each → IsWorkLeft L whole n (steps_view all) s
    → repeated (classes kinds.now) (follow L (steps_view each.now)) s ≡ done u s'
    → OnLeft L whole n rest s' all s
on_items {L} all rest step kinds each s s' u whole n e f l h =
    goes_on (items (classes kinds.now) (steps_view each.now) no_step) (steps_view rest)
    (steps_view all) s u s' whole n (inside_items all rest step kinds each s whole n e f l) l
    (after_done (repeated (classes kinds.now) (follow L (steps_view each.now)) s) ∙ h)

pub fails_items : {L : Dialect} (all rest : List Step) (step : Step) (kinds : Bor (List TokenKind))
    (each : Bor (List Step)) (s : State) (x : Fault) (whole : Read (Unit {0})) (n : ℕ)
    → all ≡ step ∷ rest → step ≡ Repeat kinds each → IsWorkLeft L whole n (steps_view all) s
    → Fails x (repeated (classes kinds.now) (follow L (steps_view each.now)) s) → Fails x whole
fails_items {L} all rest step kinds each s x whole n e f l h =
    fails_in (items (classes kinds.now) (steps_view each.now) no_step) (steps_view rest)
    (steps_view all) s whole n x (inside_items all rest step kinds each s whole n e f l) l
    (subst (Fails x) (sym (after_done (repeated (classes kinds.now) (follow L (steps_view each.now)) s))) h)

-- what following items asks
pub asks_items : {L : Dialect} (all rest : List Step) (step : Step) (kinds : Bor (List TokenKind))
    (each : Bor (List Step)) (s : State) (whole : Read (Unit {0})) (n : ℕ)
    → all ≡ step ∷ rest → step ≡ Repeat kinds each → IsWorkLeft L whole n (steps_view all) s
    → (suc (work (steps_view each.now) s) < n) × (can_be_empty (steps_view each.now) ≡ false)
    × (is_settled (steps_view each.now) ≡ true)
unfolding work
asks_items {L} all rest step kinds each s whole n e f l =
    let h = steps_view each.now in let k = steps_view rest in
    let v : steps_view all ≡ items (classes kinds.now) h k =
    seen all rest step (Repeat kinds each) e f ∙ repeat_is kinds each k in
    let l' = as_seen whole n _ _ s v l in
    let q = and_true (not (can_be_empty h) && is_settled h)
    (nat_le (weight k) token_weight && is_settled k) l'.settled in
    let both = and_true (not (can_be_empty h)) (is_settled h) q.0 in
    ((let most = l'.lighter in omega (arith, most)), not_true _ both.0, both.1)

-- an inner part that is called, and one that is last
pub on_inner : {L : Dialect} (all rest inner : List Step) (s s' : State) (u : Unit {0})
    (whole : Read (Unit {0})) (n : ℕ)
    → IsInside L (steps_view inner) (steps_view rest) (steps_view all) s
    × (weight (steps_view inner) < weight (steps_view all))
    → IsWorkLeft L whole n (steps_view all) s → follow L (steps_view inner) s ≡ done u s'
    → OnLeft L whole n rest s' all s
on_inner {L} all rest inner s s' u whole n i l h = goes_on (steps_view inner) (steps_view rest)
    (steps_view all) s u s' whole n i.0 l h

pub fails_inner : {L : Dialect} (all rest inner : List Step) (s : State) (x : Fault) (whole : Read (Unit {0})) (n : ℕ)
    → IsInside L (steps_view inner) (steps_view rest) (steps_view all) s
    × (weight (steps_view inner) < weight (steps_view all)) → IsWorkLeft L whole n (steps_view all) s
    → Fails x (follow L (steps_view inner) s) → Fails x whole
fails_inner {L} all rest inner s x whole n i l h = fails_in (steps_view inner) (steps_view rest)
    (steps_view all) s whole n x i.0 l h

pub asks_inner : {L : Dialect} (all rest inner : List Step) (s : State) (whole : Read (Unit {0})) (n : ℕ)
    → IsInside L (steps_view inner) (steps_view rest) (steps_view all) s
    × (weight (steps_view inner) < weight (steps_view all)) → IsWorkLeft L whole n (steps_view all) s
    → (work (steps_view inner) s < n) × (is_settled (steps_view inner) ≡ true)
asks_inner {L} all rest inner s whole n i l =
    (less_work (steps_view inner) (steps_view all) s n i.1 l.lighter, i.0.inner)

pub on_last : {L : Dialect} (all rest inner : List Step) (s : State) (whole : Read (Unit {0})) (n : ℕ)
    → length rest ≡ 0
    → IsInside L (steps_view inner) (steps_view rest) (steps_view all) s
    × (weight (steps_view inner) < weight (steps_view all)) → IsWorkLeft L whole n (steps_view all) s
    → OnLeft L whole n inner s all s
on_last {L} all rest inner s whole n z i l =
    goes_in (steps_view inner) (steps_view all) s whole n
    (subst (λ (k : Steps). IsInside L (steps_view inner) k (steps_view all) s) (none_left rest z) i.0) l i.1

-- ---- one item more, or none
pub items_turn : (L : Dialect) (cs : List ℕ) (h : Steps) (s s' : State) (u : Unit {0}) (whole : Read (Unit {0}))
    → can_be_empty h ≡ false → is_any cs s ≡ true → follow L h s ≡ done u s'
    → repeated cs (follow L h) s ≡ whole
    → (repeated cs (follow L h) s' ≡ whole) × (length s'.rest < length s.rest)
items_turn L cs h s s' u whole w b e r = (
  sym (repeated_is L cs h s w ∙ ap (λ (x : Bool). cond x (follow L h s >>= λ v t. repeated cs (follow L h) t)
      (done (tt {0}) s)) b ∙ ap (λ (x : Read (Unit {0})). x >>= λ v t. repeated cs (follow L h) t) e) ∙ r,
  (let l = follow_takes L h s u s' e in let one : least (can_be_empty h) ≡ 1 = ap least w in omega (arith, l, one)),
)

pub items_stop : (L : Dialect) (cs : List ℕ) (h : Steps) (s : State) (whole : Read (Unit {0}))
    → can_be_empty h ≡ false → is_any cs s ≡ false → repeated cs (follow L h) s ≡ whole
    → whole ≡ done (tt {0}) s
items_stop L cs h s whole w b r = sym r ∙ repeated_is L cs h s w
    ∙ ap (λ (x : Bool). cond x (follow L h s >>= λ v t. repeated cs (follow L h) t) (done (tt {0}) s)) b

pub items_fail : (L : Dialect) (cs : List ℕ) (h : Steps) (s : State) (x : Fault) (whole : Read (Unit {0}))
    → can_be_empty h ≡ false → is_any cs s ≡ true → Fails x (follow L h s)
    → repeated cs (follow L h) s ≡ whole → Fails x whole
items_fail L cs h s x whole w b e r =
    subst (Fails x) (sym (repeated_is L cs h s w ∙ ap (λ (y : Bool). cond y
    (follow L h s >>= λ v t. repeated cs (follow L h) t) (done (tt {0}) s)) b) ∙ r)
    (stopped x (follow L h s) (λ v t. repeated cs (follow L h) t) e)

pub items_work : (h : Steps) (s s' : State) → length s.rest ≤ length s'.rest → work h s < suc (work h s')
unfolding work
items_work h s s' l =
    let m : token_weight * length s.rest ≤ token_weight * length s'.rest = mul-le-mul_left token_weight l in
    omega (arith, m)
