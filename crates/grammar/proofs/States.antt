-- The reader over states is the reader over lists.
use Rattle.std.proofs.Common.{◌≡◌, ℕ, zero, suc, ◌+◌, ◌*◌, ◌<◌, ◌≤◌, Bool, true, false, cond, eqb, List, [], ◌∷◌, ◌++◌, length, inl, inr, refl, sym, ap, ap₂, subst, ◌∙◌, arith, append_assoc, append-nil, length-append}
use Rattle.std.specs.Prelude.{Option, Some, None}
use Rattle.grammar.specs.Tokens.{Token, Span, span_of, last_end, tokens_between, span_between}
use Rattle.grammar.specs.Grammar.{Grammar, Grammar.empty, Grammar.token, Grammar.sequence, Grammar.choice, Grammar.mapped, Grammar.node, Grammar.checked, Grammar.symbol, Grammar.left_chain, Mode.checking, is_among, Means, Part}
use Rattle.grammar.specs.Tables.{Tables, nullable, first, decides, spans_tokens, Passes}
use Rattle.grammar.specs.Reading.{Outcome, Outcome.ok, Outcome.stuck, Outcome.bad, Outcome.out, bind, judge, chooses, take_token, loop, run, read_all}
use Rattle.grammar.specs.States.{State, Read, Read.done, ◌>>=◌, refused, is_at, is_any, first_start, next_start, first_of, after, take, take_any, judged, span_from, turns_in, turns, go, state_at, tag, reads}
use Rattle.grammar.proofs.Reading.Sets.{and_true, not_true}
use Rattle.grammar.proofs.Reading.Beginnings.{pick, pick_no, Begins, begins, begins_within}
use Rattle.grammar.proofs.Binding.{bind_alike}
use Rattle.grammar.proofs.Reading.Sound.{OfOk, of_ok, of_map, IsSound, sound, sound_read}
use Rattle.grammar.proofs.Reading.Frame.{tokens_append, framed, framed_part}
use Rattle.grammar.proofs.Reading.Step.{sane, step}

-- ---- places
tokens_are : (xs p us : List Token) → xs ≡ p ++ us → tokens_between xs us ≡ p
tokens_are xs p us e = ap (λ (x : List Token). tokens_between x us) e ∙ tokens_append p us

last_append : (e : ℕ) (p q : List Token) → last_end e (p ++ q) ≡ last_end (last_end e p) q
last_append e [] q = refl
last_append e (t ∷ p) q = last_append t.end p q

-- the tokens before us were taken
abbrev Advance : List Token → List Token → Type 0
Advance xs us = (p : List Token) × (xs ≡ p ++ us)

-- and one at least
abbrev Taking : List Token → List Token → Type 0
Taking xs us = (p : List Token) × (xs ≡ p ++ us) × (0 < length p)

placed_twice : (s : State) (us vs : List Token) → Advance s.rest us → Advance us vs
    → state_at (state_at s us) vs ≡ state_at s vs
placed_twice s us vs (p, g) (q, h) =
    let whole : s.rest ≡ (p ++ q) ++ vs = g ∙ ap (λ (x : List Token). p ++ x) h ∙ sym (append_assoc p q vs) in
    let a = ap (last_end s.end) (tokens_are s.rest p us g) in
    let b = ap₂ last_end a (tokens_are us q vs h) in
    ap (λ (x : ℕ). record { end = x; rest = vs })
    (b ∙ sym (last_append s.end p q) ∙ sym (ap (last_end s.end) (tokens_are s.rest (p ++ q) vs whole)))

span_is : (s : State) (us : List Token) → Taking s.rest us
    → span_between s.rest us ≡ span_from (next_start s) (state_at s us)
unfolding next_start
span_is s us ([], h, k) = absurd (omega arith)
span_is s us (t ∷ p, h, k) =
    ap span_of (tokens_are s.rest (t ∷ p) us h)
    ∙ sym (ap₂ (λ (x y : ℕ). record { start = x; end = y }) (ap first_start h)
    (ap (last_end s.end) (tokens_are s.rest (t ∷ p) us h)))

-- ---- an outcome as one over states
tag_bind : {A B : Type 0} (s : State) (P : A → List Token → Type 0) (m : Outcome A)
    (f : A → List Token → Outcome B) (f' : A → State → Read B)
    → OfOk P m → ((a : A) (us : List Token) → P a us → tag s (f a us) ≡ f' a (state_at s us))
    → tag s (bind m f) ≡ (tag s m >>= f')
tag_bind s P (ok a us) f f' p h = h a us p
tag_bind s P (stuck []) f f' p h = refl
tag_bind s P (stuck (t ∷ us)) f f' p h = refl
tag_bind s P (bad x us) f f' p h = refl
tag_bind s P out f f' p h = refl

retag : {A : Type 0} (s : State) (us : List Token) → Advance s.rest us → (m : Outcome A)
    → OfOk (λ a vs. Advance us vs) m → tag s m ≡ tag (state_at s us) m
retag s us g (ok a vs) h = ap (done a) (sym (placed_twice s us vs g h))
retag s us g (stuck []) h = ap refused (sym (placed_twice s us [] g (us, sym (append-nil us))))
retag s us g (stuck (t ∷ vs)) h = refl
retag s us g (bad x vs) h = refl
retag s us g out h = refl

tag_cond : {A : Type 0} (s : State) (b b' : Bool) (x y : Outcome A) (x' y' : Read A) → b ≡ b'
    → tag s x ≡ x' → tag s y ≡ y' → tag s (pick b x y) ≡ cond b' x' y'
tag_cond s true b' x y x' y' e g h = g ∙ ap (λ (z : Bool). cond z x' y') e
tag_cond s false b' x y x' y' e g h = h ∙ ap (λ (z : Bool). cond z x' y') e

tag_pick : {A : Type 0} (s : State) (b b' : Bool) (x y : Outcome A) (x' y' : Read A) → b ≡ b'
    → tag s x ≡ x' → tag s y ≡ y' → tag s (pick b x y) ≡ pick b' x' y'
tag_pick s true b' x y x' y' e g h = g ∙ ap (λ (z : Bool). pick z x' y') e
tag_pick s false b' x y x' y' e g h = h ∙ ap (λ (z : Bool). pick z x' y') e

tag_judge : {A : Type 0} (s : State) (x : Option _) (a : A) (us : List Token)
    → tag s (judge x a us) ≡ judged x a (state_at s us)
tag_judge s None a us = refl
tag_judge s (Some x) a us = refl

-- a choice between true and false is what is tested
pub cond_self : (b : Bool) → cond b true false ≡ b
cond_self true = refl
cond_self false = refl

any_is : (cs : List ℕ) (s : State) → chooses cs s.rest ≡ is_any cs s
unfolding is_at
any_is cs s = go_on cs s.end s.rest
  where
    go_on : (cs : List ℕ) (e : ℕ) (ts : List Token) → chooses cs ts ≡ is_any cs (record { end = e; rest = ts })
    go_on [] e [] = refl
    go_on [] e (t ∷ ts) = refl
    go_on (c ∷ []) e [] = refl
    go_on (c ∷ []) e (t ∷ ts) = cond_self (eqb t.class c)
    go_on (c ∷ (d ∷ cs)) e [] = go_on (d ∷ cs) e []
    go_on (c ∷ (d ∷ cs)) e (t ∷ ts) = ap (λ (x : Bool). cond (eqb t.class c) true x) (go_on (d ∷ cs) e (t ∷ ts))

taken_at : (cs : List ℕ) (e : ℕ) (ts : List Token) → let s : State = record { end = e; rest = ts } in
    tag s (take_token cs ts) ≡ cond (is_any cs s) (done (first_of s) (after s)) (refused s)
unfolding first_of after
taken_at cs e [] = ap (λ (z : Bool). cond z (done (first_of (record { end = e; rest = [] }))
    (after (record { end = e; rest = [] }))) (refused (record { end = e; rest = [] })))
    (any_is cs (record { end = e; rest = [] }))
taken_at cs e (t ∷ ts) =
    let s : State = record { end = e; rest = t ∷ ts } in
    tag_cond s (is_among t.class cs) (is_any cs s) (ok t ts) (stuck (t ∷ ts)) _ _ (any_is cs s)
    (ap (λ (x : ℕ). done t (record { end = x; rest = ts }))
    (ap (last_end e) (tokens_are (t ∷ ts) (t ∷ []) ts refl))) refl

take_is : (cs : List ℕ) (s : State) → cond (is_any cs s) (done (first_of s) (after s)) (refused s) ≡ take_any cs s
unfolding take
take_is [] s = refl
take_is (c ∷ []) s = refl
take_is (c ∷ (d ∷ cs)) s = refl

-- ---- the reader
-- each value that is read takes its tokens from the front
abbrev Advances : {A : Type 0} → (List Token → Outcome A) → Type 0
Advances r = (ts : List Token) → OfOk (λ a us. Advance ts us) (r ts)

-- and one at least
abbrev Takes : {A : Type 0} → (List Token → Outcome A) → Type 0
Takes r = (ts : List Token) → OfOk (λ a us. Taking ts us) (r ts)

loop_is : {A B : Type 0} (f : A → B → Span → A) (c : List ℕ) (r : List Token → Outcome B)
    (r' : State → Read B) (s : State)
    → Takes r → ((s : State) → tag s (r s.rest) ≡ r' s)
    → (k : ℕ) (a : A) (us : List Token) → Advance s.rest us
    → tag s (loop f c r s.rest k a us) ≡ turns_in k f c r' (next_start s) a (state_at s us)
loop_is f c r r' s H K zero a us g = tag_pick s (chooses c us) (is_any c (state_at s us)) _ _ _ _
    (any_is c (state_at s us)) refl refl
loop_is {A} {B} f c r r' s H K (suc k) a us g =
    let F : B → State → Read A = λ b s'. turns_in k f c r' (next_start s) (f a b (span_from (next_start s) s')) s' in
    let turn : (b : B) (vs : List Token) → Taking us vs
    → tag s (loop f c r s.rest k (f a b (span_between s.rest vs)) vs) ≡ F b (state_at s vs) = λ b vs q.
    let whole : s.rest ≡ (g.0 ++ q.0) ++ vs = g.1 ∙ ap (λ (x : List Token). g.0 ++ x) q.1
    ∙ sym (append_assoc g.0 q.0 vs) in
    let some : 0 < length q.0 = q.2 in
    ap (λ (x : Span). tag s (loop f c r s.rest k (f a b x) vs))
    (span_is s vs (g.0 ++ q.0, whole, omega (arith, some, length-append g.0 q.0)))
    ∙ loop_is f c r r' s H K k (f a b (span_from (next_start s) (state_at s vs))) vs (g.0 ++ q.0, whole) in
    tag_pick s (chooses c us) (is_any c (state_at s us)) _ _ _ _ (any_is c (state_at s us))
    (tag_bind s (λ b vs. Taking us vs) (r us) _ F (H us) turn
    ∙ ap (λ (x : Read B). x >>= F) (retag s us g (r us) (of_map (λ b vs. Taking us vs)
    (λ b vs. Advance us vs) (r us) (H us) (λ b vs q. (q.0, q.1))) ∙ K (state_at s us)))
    refl

all_sound : {N : Type 0} {Value : N → Type 0} (T : Tables N) (body : (n : N) → Grammar N Value (Value n))
    (R : ℕ) (n : N) → IsSound (Part checking body n) (read_all T checking body R n)
all_sound T body R n ts = sound_read T checking body (R * length ts + suc (T.rank n)) n ts

right_side_sound : {N : Type 0} {Value : N → Type 0} (T : Tables N)
    (body : (n : N) → Grammar N Value (Value n)) (R : ℕ) {A : Type 0} (g : Grammar N Value A)
    → IsSound (Means checking (Part checking body) g) (run T checking (read_all T checking body R) g)
right_side_sound T body R g = sound T checking (Part checking body) (read_all T checking body R) (all_sound T body R) g

advances : {N : Type 0} {Value : N → Type 0} (T : Tables N)
    (body : (n : N) → Grammar N Value (Value n)) (R : ℕ) {A : Type 0} (g : Grammar N Value A)
    → Advances (run T checking (read_all T checking body R) g)
advances T body R g ts =
    of_map (λ a us. Means checking (Part checking body) g a ts us) (λ a us. Advance ts us)
    (run T checking (read_all T checking body R) g ts) (right_side_sound T body R g ts)
    (λ a us d. let w = framed checking (Part checking body) (framed_part checking body) g a ts us d in (w.0, w.1))

taking : (s : List ℕ) (xs us : List Token) → Begins false s xs us → Advance xs us → Taking xs us
taking s xs us (inl b) (p, e) = absurd (let same = b.0 in cc)
taking s xs us (inr b) (p, e) =
    let shorter = b.1 in let same : length xs ≡ length (p ++ us) = ap (λ (x : List Token). length x) e in
    (p, e, omega (arith, shorter, same, length-append p us))

takes : {N : Type 0} {Value : N → Type 0} (T : Tables N) (body : (n : N) → Grammar N Value (Value n)) (R : ℕ)
    → Passes T body R
    → {A : Type 0} (g : Grammar N Value A) → decides T g ≡ true → nullable T g ≡ false
    → Takes (run T checking (read_all T checking body R) g)
takes T body R p g l taken ts =
    of_map (λ a us. Means checking (Part checking body) g a ts us) (λ a us. Taking ts us)
    (run T checking (read_all T checking body R) g ts) (right_side_sound T body R g ts)
    (λ a us d.
    let w = framed checking (Part checking body) (framed_part checking body) g a ts us d in
    let b = begins T checking (Part checking body)
    (λ n v xs ys e. begins_within T checking body (sane T body R p) e.0 n v xs ys e.1) g l a ts us d in
    taking (first T g) ts us (subst (λ (x : Bool). Begins x (first T g) ts us) taken b) (w.0, w.1))

run_is_go : {N : Type 0} {Value : N → Type 0} (T : Tables N)
    (body : (n : N) → Grammar N Value (Value n)) (R : ℕ) → Passes T body R
    → {A : Type 0} (g : Grammar N Value A) → decides T g ≡ true → spans_tokens T g ≡ true → (s : State)
    → tag s (run T checking (read_all T checking body R) g s.rest) ≡ go T (reads T body R) g s
unfolding reads
run_is_go T body R p (empty a) l w s = ap (λ (x : ℕ). done a (record { end = x; rest = s.rest }))
    (ap (last_end s.end) (tokens_are s.rest [] s.rest refl))
run_is_go T body R p (token cs) l w s = taken_at cs s.end s.rest ∙ take_is cs s
run_is_go T body R p (sequence {A} {B = C} g h) l w s =
    let read_g = run T checking (read_all T checking body R) g in
    let read_h = run T checking (read_all T checking body R) h in
    let l' = and_true _ _ (and_true _ _ l).0 in let w' = and_true _ _ w in
    let F : A → State → Read (A × C) = λ a s'. go T (reads T body R) h s' >>= λ b s''. done (a, b) s'' in
    tag_bind s (λ a us. Advance s.rest us) (read_g s.rest)
    (λ a us. bind (read_h us) (λ b vs. ok (a, b) vs)) F (advances T body R g s.rest) (λ a us q.
    let last : C → List Token → Outcome (A × C) = λ b vs. ok (a, b) vs in
    let last' : C → State → Read (A × C) = λ b s''. done (a, b) s'' in
    tag_bind s (λ b vs. Advance us vs) (read_h us) last last' (advances T body R h us) (λ b vs q'. refl)
    ∙ ap (λ (x : Read C). x >>= last') (retag s us q (read_h us) (advances T body R h us)
    ∙ run_is_go T body R p h l'.1 w'.1 (state_at s us)))
    ∙ ap (λ (x : Read A). x >>= F) (run_is_go T body R p g l'.0 w'.0 s)
run_is_go T body R p (choice g h) l w s =
    let l' = and_true _ _ (and_true _ _ l).0 in let w' = and_true _ _ w in
    tag_cond s (chooses (first T g) s.rest) (is_any (first T g) s) _ _ _ _ (any_is (first T g) s)
    (run_is_go T body R p g l'.0 w'.0 s) (run_is_go T body R p h l'.1 w'.1 s)
run_is_go T body R p (mapped {A} {B = C} f g) l w s =
    let F : A → State → Read C = λ a s'. done (f a) s' in
    tag_bind s (λ a us. Advance s.rest us) (run T checking (read_all T checking body R) g s.rest)
    (λ a us. ok (f a) us) F (advances T body R g s.rest) (λ a us q. refl)
    ∙ ap (λ (x : Read A). x >>= F) (run_is_go T body R p g l w s)
run_is_go T body R p (node {A} {B = C} f g) l w s =
    let w' = and_true _ _ w in
    let F : A → State → Read C = λ a s'. done (f a (span_from (next_start s) s')) s' in
    tag_bind s (λ a us. Taking s.rest us) (run T checking (read_all T checking body R) g s.rest)
    (λ a us. ok (f a (span_between s.rest us)) us) F (takes T body R p g l (not_true _ w'.1) s.rest)
    (λ a us q. ap (λ (x : Span). done (f a x) (state_at s us)) (span_is s us q))
    ∙ ap (λ (x : Read A). x >>= F) (run_is_go T body R p g l w'.0 s)
run_is_go T body R p (checked {A} f g) l w s =
    let w' = and_true _ _ w in
    let F : A → State → Read A = λ a s'. judged (f a (span_from (next_start s) s')) a s' in
    tag_bind s (λ a us. Taking s.rest us) (run T checking (read_all T checking body R) g s.rest)
    (λ a us. judge (f a (span_between s.rest us)) a us) F (takes T body R p g l (not_true _ w'.1) s.rest)
    (λ a us q. tag_judge s (f a (span_between s.rest us)) a us
    ∙ ap (λ (x : Span). judged (f a x) a (state_at s us)) (span_is s us q))
    ∙ ap (λ (x : Read A). x >>= F) (run_is_go T body R p g l w'.0 s)
run_is_go T body R p (symbol n) l w s = refl
run_is_go T body R p (left_chain {A} {B = C} f g h) l w s =
    let l0 = and_true _ _ l in let l' = and_true _ _ l0.0 in let w' = and_true _ _ w in
    let read_h = run T checking (read_all T checking body R) h in
    let F : A → State → Read A = λ a s'. turns f (first T h) (go T (reads T body R) h) (next_start s) a s' in
    tag_bind s (λ a us. Advance s.rest us) (run T checking (read_all T checking body R) g s.rest)
    (λ a us. loop f (first T h) read_h s.rest (length us) a us) F (advances T body R g s.rest) (λ a us q.
    loop_is f (first T h) read_h (go T (reads T body R) h) s (takes T body R p h l'.1
    (not_true _ (and_true _ _ l0.1).0)) (run_is_go T body R p h l'.1 w'.1) (length us) a us q)
    ∙ ap (λ (x : Read A). x >>= F) (run_is_go T body R p g l'.0 w'.0 s)

-- the reader's equation over states, with no fuel
pub reads_is : {N : Type 0} {Value : N → Type 0} (T : Tables N)
    (body : (n : N) → Grammar N Value (Value n)) (R : ℕ) → Passes T body R
    → (n : N) (s : State) → reads T body R n s ≡ go T (reads T body R) (body n) s
unfolding reads
reads_is T body R p n s = ap (tag s) (step T checking body R p n s.rest)
    ∙ run_is_go T body R p (body n) (p.one n) (p.spans n) s

-- ---- the further items of a left-recursive rule
-- each part takes a token
abbrev pub Shortens : {A : Type 0} → (State → Read A) → Type 0
Shortens {A} r = (s : State) (a : A) (s' : State) → r s ≡ done a s' → length s'.rest < length s.rest

none_any : (cs : List ℕ) (s : State) → length s.rest ≤ 0 → is_any cs s ≡ false
none_any cs s h = sym (any_is cs s) ∙ no_token s.rest h
  where
    no_token : (ts : List Token) → length ts ≤ 0 → chooses cs ts ≡ false
    no_token [] h = refl
    no_token (t ∷ ts) h = absurd (omega arith)

-- enough turns are enough
enough : {A B : Type 0} (j k : ℕ) (f : A → B → Span → A) (c : List ℕ) (r : State → Read B) → Shortens r
    → (start : ℕ) (a : A) (s : State) → length s.rest ≤ j → length s.rest ≤ k
    → turns_in j f c r start a s ≡ turns_in k f c r start a s
enough zero zero f c r H start a s hj hk = refl
enough zero (suc k) f c r H start a s hj hk =
    let none = none_any c s hj in pick_no (is_any c s) _ (done a s) none
    ∙ sym (pick_no (is_any c s) _ (done a s) none)
enough (suc j) zero f c r H start a s hj hk =
    let none = none_any c s hk in pick_no (is_any c s) _ (done a s) none
    ∙ sym (pick_no (is_any c s) _ (done a s) none)
enough (suc j) (suc k) f c r H start a s hj hk =
    ap (λ (x : Read _). pick (is_any c s) x (done a s))
    (bind_alike (r s) _ _ (λ b s' e. let lt = H s b s' e in enough j k f c r H start
    (f a b (span_from start s')) s' (omega (arith, lt, hj)) (omega (arith, lt, hk))))

pick_is : {A : Type 0} (b : Bool) (x y : A) → pick b x y ≡ cond b x y
pick_is true x y = refl
pick_is false x y = refl

-- one turn: a further item where the next token begins one
pub turns_are : {A B : Type 0} (f : A → B → Span → A) (c : List ℕ) (r : State → Read B) → Shortens r
    → (start : ℕ) (a : A) (s : State) → turns f c r start a s
    ≡ cond (is_any c s) (r s >>= λ b s'. turns f c r start (f a b (span_from start s')) s') (done a s)
turns_are f c r H start a s =
    enough (length s.rest) (suc (length s.rest)) f c r H start a s (omega arith) (omega arith)
    ∙ ap (λ (x : Read _). pick (is_any c s) x (done a s))
    (bind_alike (r s) _ _ (λ b s' e. let lt = H s b s' e in enough (length s.rest) (length s'.rest)
    f c r H start (f a b (span_from start s')) s' (omega (arith, lt)) (omega arith)))
    ∙ pick_is (is_any c s) _ (done a s)

-- ---- what was read
tag_done : {A : Type 0} (s : State) (m : Outcome A) (a : A) (s' : State) → tag s m ≡ done a s' → m ≡ ok a s'.rest
tag_done s (ok b us) a s' e =
    let p : b ≡ a = cc in let q : state_at s us ≡ s' = cc in
    ap₂ (λ (x : _) (y : List Token). ok x y) p (ap (λ (x : State). x.rest) q)
tag_done s (stuck []) a s' e = absurd cc
tag_done s (stuck (t ∷ us)) a s' e = absurd cc
tag_done s (bad x us) a s' e = absurd cc
tag_done s out a s' e = absurd cc

pub shortens : {N : Type 0} {Value : N → Type 0} (T : Tables N)
    (body : (n : N) → Grammar N Value (Value n)) (R : ℕ) → Passes T body R
    → {A : Type 0} (g : Grammar N Value A) → decides T g ≡ true → spans_tokens T g ≡ true
    → nullable T g ≡ false → Shortens (go T (reads T body R) g)
shortens T body R p g l w taken s a s' e =
    let q = of_ok (λ a us. Taking s.rest us) (run T checking (read_all T checking body R) g s.rest)
    a s'.rest (takes T body R p g l taken s.rest) (tag_done s
    (run T checking (read_all T checking body R) g s.rest) a s' (run_is_go T body R p g l w s ∙ e)) in
    let some : 0 < length q.0 = q.2 in
    let same : length s.rest ≡ length (q.0 ++ s'.rest) = ap (λ (x : List Token). length x) q.1 in
    omega (arith, some, same, length-append q.0 s'.rest)

-- what is read is derived from the tokens that are left to those that are left then
pub read_is_part : {N : Type 0} {Value : N → Type 0} (T : Tables N) (body : (n : N) → Grammar N Value (Value n)) (R : ℕ)
    → (n : N) (s : State) (v : Value n) (s' : State) → reads T body R n s ≡ done v s'
    → Part checking body n v s.rest s'.rest
unfolding reads
read_is_part T body R n s v s' e =
    of_ok (λ v us. Part checking body n v s.rest us) (read_all T checking body R n s.rest) v s'.rest
    (all_sound T body R n s.rest) (tag_done s (read_all T checking body R n s.rest) v s' e)
