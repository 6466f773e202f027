-- The first fault is named, and what is named is a fault.
use Rattle.std.proofs.Common.{◌≡◌, ℕ, zero, suc, ◌+◌, ◌<◌, ◌≤◌, Bool, true, false, not, ◌&&◌, List, [], ◌∷◌, ◌++◌, length, ◌⊎◌, inl, inr, refl, sym, ap, subst, ◌∙◌, arith, subst₂, ◌*◌, ap₂, le_refl}
use Rattle.std.specs.Prelude.{Option, Some, None}
use Rattle.grammar.specs.Tokens.{Token, Span, Fault, tokens_between, span_between}
use Rattle.grammar.specs.Grammar.{is_among, Grammar, Grammar.empty, Grammar.token, Grammar.sequence, Grammar.choice, Grammar.mapped, Grammar.node, Grammar.checked, Grammar.symbol, Grammar.left_chain, Mode, Mode.checking, Mode.unchecked, Means, Part, IsViable}
use Rattle.grammar.specs.Endings.{last_class}
use Rattle.grammar.specs.Faults.{head_check, IsFaulty, IsEnded, FaultIn}
use Rattle.grammar.specs.Tables.{Tables, first, Passes}
use Rattle.grammar.specs.Reading.{Outcome, Outcome.ok, Outcome.stuck, Outcome.bad, Outcome.out, bind, judge, chooses, loop, run, read, read_all}
use Rattle.grammar.specs.Anchors.{is_token_of, IsAnchored, keeps_apart, keeps_body_apart}
use Rattle.grammar.proofs.Reading.Sets.{and_true, not_true, cases, apart}
use Rattle.grammar.proofs.Reading.Beginnings.{cond_yes, cond_no, pick, Sane, begins_within}
use Rattle.grammar.proofs.Reading.Sound.{OfOk, of_ok, of_map, IsSound, sound, sound_read}
use Rattle.grammar.proofs.Reading.Complete.{OrOut, Stops, complete_read}
use Rattle.grammar.proofs.Reading.Depth.{loosen, roll, means_mono, no_checks}
use Rattle.grammar.proofs.Reading.Frame.{tokens_append, framed, framed_part, joined}
use Rattle.grammar.proofs.Reading.Step.{sane, has_fuel, below_all, step}
use Rattle.grammar.proofs.Reading.Near.{Follows, follows, follows_read, goes_read}
use Rattle.grammar.proofs.Reading.Exact.{not_left_over}
use Rattle.grammar.proofs.Faults.Anchors.{Consumed, Explains, met_read, last_append}
use Rattle.grammar.proofs.Faults.NotAfter.{Gone, gone, gone_part, KeepsApart}

-- ---- a reader that names a fault has read a faulty part
-- the faulty part of a list before which the class l is
abbrev pub Found : {N : Type 0} {Value : N → Type 0} (body : (n : N) → Grammar N Value (Value n)) (b : List ℕ)
    → ℕ → List Token → Fault → List Token → Type 0
Found {N} body b l ts x us = (n : N) × (a xs : List Token) × (ts ≡ a ++ xs)
    × (is_among (last_class l a) b ≡ false) × IsEnded body n xs us × IsFaulty body n x xs us

abbrev pub OfBad : {A : Type 0} → (Fault → List Token → Type 0) → Outcome A → Type 0
OfBad P (bad x us) = P x us
OfBad P (ok a us) = Unit {0}
OfBad P (stuck us) = Unit {0}
OfBad P out = Unit {0}

found_then : {N : Type 0} {Value : N → Type 0} (body : (n : N) → Grammar N Value (Value n))
    (b : List ℕ) (l : ℕ) (ts us p : List Token) → ts ≡ p ++ us → (x : Fault) (vs : List Token)
    → Found body b (last_class l p) us x vs → Found body b l ts x vs
found_then body b l ts us p e x vs (n, a, xs, w, c, i, f) =
    (n, p ++ a, xs, joined p a ts us xs e w, ap (λ (z : ℕ). is_among z b) (last_append l p a) ∙ c, i, f)

bad_map : {A : Type 0} (P Q : Fault → List Token → Type 0) (m : Outcome A) → OfBad P m
    → ((x : Fault) (us : List Token) → P x us → Q x us) → OfBad Q m
bad_map P Q (ok a us) p h = tt
bad_map P Q (stuck us) p h = tt
bad_map P Q (bad x us) p h = h x us p
bad_map P Q out p h = tt

bad_bind : {N : Type 0} {Value : N → Type 0} (body : (n : N) → Grammar N Value (Value n)) (b : List ℕ)
    (d : Bool) (l : ℕ) (ts : List Token) {A B : Type 0} (m : Outcome A) (f : A → List Token → Outcome B)
    → OfBad (Found body b l ts) m → OfOk (λ a us. Gone b d l ts us) m
    → ((a : A) (us : List Token) (l' : ℕ) → (d ≡ false → is_among l' b ≡ false)
    → OfBad (Found body b l' us) (f a us)) → OfBad (Found body b l ts) (bind m f)
bad_bind body b d l ts (ok a us) f p g h =
    bad_map (Found body b (last_class l g.0) us) (Found body b l ts) (f a us)
    (h a us (last_class l g.0) g.2) (found_then body b l ts us g.0 g.1)
bad_bind body b d l ts (stuck us) f p g h = tt
bad_bind body b d l ts (bad x us) f p g h = p
bad_bind body b d l ts out f p g h = tt

bad_pick : {A : Type 0} (P : Fault → List Token → Type 0) (d : Bool) (x y : Outcome A) → OfBad P x
    → OfBad P y → OfBad P (pick d x y)
bad_pick P true x y p q = p
bad_pick P false x y p q = q

bad_loop : {N : Type 0} {Value : N → Type 0} (body : (n : N) → Grammar N Value (Value n)) (b : List ℕ)
    {A B : Type 0} (f : A → B → Span → A) (s : List ℕ) (r : List Token → Outcome B) (start : List Token)
    → ((l : ℕ) (ts : List Token) → is_among l b ≡ false → OfOk (λ v us. Gone b false l ts us) (r ts))
    → ((l : ℕ) (ts : List Token) → is_among l b ≡ false → OfBad (Found body b l ts) (r ts))
    → (k : ℕ) (a : A) (us : List Token) (l : ℕ) → is_among l b ≡ false
    → OfBad (Found body b l us) (loop f s r start k a us)
bad_loop body b f s r start G H zero a us l c = bad_pick (Found body b l us) (chooses s us) out (ok a us) tt tt
bad_loop body b f s r start G H (suc k) a us l c =
    bad_pick (Found body b l us) (chooses s us) _ (ok a us)
    (bad_bind body b false l us (r us) _ (H l us c) (G l us c)
    (λ x vs l' c'. bad_loop body b f s r start G H k (f a x (span_between start vs)) vs l' (c' refl))) tt

bad_value : {A B : Type 0} (P : Fault → List Token → Type 0) (f : A → List Token → B) (m : Outcome A)
    → OfBad P m → OfBad P (bind m (λ v vs. ok (f v vs) vs))
bad_value P f (ok v vs) z = tt
bad_value P f (stuck vs) z = tt
bad_value P f (bad x vs) z = z
bad_value P f out z = tt

bad_token_of : {N : Type 0} {Value : N → Type 0} (T : Tables N) (M : Mode) (rec : (n : N) → List Token
    → Outcome (Value n)) (b : List ℕ) (P : Fault → List Token → Type 0) {A : Type 0} (g : Grammar N Value A)
    → is_token_of b g ≡ true → (ts : List Token) → OfBad P (run T M rec g ts)
bad_token_of T M rec b P (token s) y [] = tt
bad_token_of T M rec b P (token s) y (t ∷ us) = bad_pick P (is_among t.class s) (ok t us) (stuck (t ∷ us)) tt tt
bad_token_of T M rec b P (mapped f g) y ts = bad_value P (λ v vs. f v) (run T M rec g ts)
    (bad_token_of T M rec b P g y ts)
bad_token_of T M rec b P (node f g) y ts = bad_value P (λ v vs. f v (span_between ts vs))
    (run T M rec g ts) (bad_token_of T M rec b P g y ts)
bad_token_of T M rec b P (empty a) y ts = absurd cc
bad_token_of T M rec b P (sequence g h) y ts = absurd cc
bad_token_of T M rec b P (choice g h) y ts = absurd cc
bad_token_of T M rec b P (checked f g) y ts = absurd cc
bad_token_of T M rec b P (symbol n) y ts = absurd cc
bad_token_of T M rec b P (left_chain f g h) y ts = absurd cc

pub faults : {N : Type 0} {Value : N → Type 0} (T : Tables N) (M : Mode)
    (body : (n : N) → Grammar N Value (Value n)) (b : List ℕ) → KeepsApart body b
    → (rec : (n : N) → List Token → Outcome (Value n))
    → ((n : N) → IsSound (Part M body n) (rec n))
    → ((n : N) (l : ℕ) (ts : List Token) → is_among l b ≡ false → OfBad (Found body b l ts) (rec n ts))
    → {A : Type 0} (g : Grammar N Value A) (d : Bool) → keeps_apart b d g ≡ true → (l : ℕ) (ts : List Token)
    → (d ≡ false → is_among l b ≡ false) → OfBad (Found body b l ts) (run T M rec g ts)
faults T M body b K rec S H (empty a) d k l ts c = tt
faults T M body b K rec S H (token s) d k l [] c = tt
faults T M body b K rec S H (token s) d k l (t ∷ ts) c = bad_pick (Found body b l (t ∷ ts))
    (is_among t.class s) (ok t ts) (stuck (t ∷ ts)) tt tt
faults {N} {Value} T M body b K rec S H (sequence {A} {B = C} g h) d k l ts c = elim (cases (is_token_of b g)) [
  | inl y ↦
      let k' : (not d && keeps_apart b true h) ≡ true = sym (cond_yes (is_token_of b g)
      (not d && keeps_apart b true h) (keeps_apart b d g && keeps_apart b false h) y) ∙ k in
      bad_bind body b true l ts (run T M rec g ts) _ (bad_token_of T M rec b (Found body b l ts) g y ts)
      (of_map (λ a us. Means M (Part M body) g a ts us) (λ a us. Gone b true l ts us)
      (run T M rec g ts) (sound T M (Part M body) rec S g ts)
      (λ a us m. let w = framed M (Part M body) (framed_part M body) g a ts us m in (w.0, w.1, λ z. absurd cc)))
      (λ a us l' c'. bad_value {B = A × C} (Found body b l' us) (λ v vs. (a, v)) (run T M rec h us)
      (faults T M body b K rec S H h true (and_true _ _ k').1 l' us c'))
  | inr y ↦
      let k' = and_true _ _ (sym (cond_no (is_token_of b g) (not d && keeps_apart b true h)
      (keeps_apart b d g && keeps_apart b false h) y) ∙ k) in
      bad_bind body b false l ts (run T M rec g ts) _ (faults T M body b K rec S H g d k'.0 l ts c)
      (of_map (λ a us. Means M (Part M body) g a ts us) (λ a us. Gone b false l ts us)
      (run T M rec g ts) (sound T M (Part M body) rec S g ts)
      (λ a us m. gone M (Part M body) b (framed_part M body) (gone_part M body b K) g d k'.0 a ts us m l c))
      (λ a us l' c'. bad_value {B = A × C} (Found body b l' us) (λ v vs. (a, v)) (run T M rec h us)
      (faults T M body b K rec S H h false k'.1 l' us c'))
]
faults T M body b K rec S H (choice g h) d k l ts c =
    let k' = and_true _ _ k in
    bad_pick (Found body b l ts) (chooses (first T g) ts) _ _
    (faults T M body b K rec S H g d k'.0 l ts c) (faults T M body b K rec S H h d k'.1 l ts c)
faults T M body b K rec S H (mapped {A} f g) d k l ts c = bad_value (Found body b l ts)
    (λ v vs. f v) (run T M rec g ts) (faults T M body b K rec S H g d k l ts c)
faults T M body b K rec S H (node {A} f g) d k l ts c = bad_value (Found body b l ts)
    (λ v vs. f v (span_between ts vs)) (run T M rec g ts) (faults T M body b K rec S H g d k l ts c)
faults T M body b K rec S H (checked f g) d k l ts c = absurd cc
faults T M body b K rec S H (symbol n) d k l ts c = H n l ts (c (not_true d k))
faults T M body b K rec S H (left_chain f g h) d k l ts c =
    let k' = and_true _ _ k in
    bad_bind body b false l ts (run T M rec g ts) _ (faults T M body b K rec S H g d k'.0 l ts c)
    (of_map (λ a us. Means M (Part M body) g a ts us) (λ a us. Gone b false l ts us)
    (run T M rec g ts) (sound T M (Part M body) rec S g ts)
    (λ a us m. gone M (Part M body) b (framed_part M body) (gone_part M body b K) g d k'.0 a ts us m l c))
    (λ a us l' c'. bad_loop body b f (first T h) (run T M rec h) ts
    (λ l2 vs c2. of_map (λ v ws. Means M (Part M body) h v vs ws) (λ v ws. Gone b false l2 vs ws)
    (run T M rec h vs) (sound T M (Part M body) rec S h vs)
    (λ v ws m. gone M (Part M body) b (framed_part M body) (gone_part M body b K) h false k'.1 v vs ws m l2 (λ z. c2)))
    (λ l2 vs c2. faults T M body b K rec S H h false k'.1 l2 vs (λ z. c2)) (length us) a us l' (c' refl))

-- a fault at the head of a right side
pub ended_of : {N : Type 0} {Value : N → Type 0} (T : Tables N) (body : (n : N) → Grammar N Value (Value n))
    → Sane T body → (k : ℕ) (n : N) (ts us : List Token) (v : Value n)
    → read T unchecked body k n ts ≡ ok v us → IsEnded body n ts us
ended_of T body s k n ts us v e t zs i h =
    let d = of_ok (λ v us. Part unchecked body n v ts us) (read T unchecked body k n ts) v us
    (sound_read T unchecked body k n ts) e in
    let w = framed_part unchecked body n v ts us d in
    let between : tokens_between ts us ≡ w.0 = ap (λ (z : List Token). tokens_between z us) w.1
    ∙ tokens_append w.0 us in
    let whole : ts ≡ w.0 ++ (t ∷ zs) = w.1 ∙ ap (λ (z : List Token). w.0 ++ z) i in
    not_left_over T unchecked body s k n w.0 zs t v
    (subst₂ (λ (x y : List Token). read T unchecked body k n x ≡ ok v y) whole i e)
    (subst (λ (z : List Token). IsViable body n (z ++ (t ∷ []))) between h)

head_fault : {N : Type 0} {Value : N → Type 0} (T : Tables N) (body : (n : N) → Grammar N Value (Value n))
    (b : List ℕ) (rec rec' : (n : N) → List Token → Outcome (Value n)) (l : ℕ) (ts : List Token)
    → ((B : Type 0) (g : Grammar N Value B) → keeps_apart b false g ≡ true
    → OfBad (Found body b l ts) (run T checking rec g ts))
    → ((B : Type 0) (g : Grammar N Value B)
    → OfOk (λ v us. Means unchecked (Part unchecked body) g v ts us) (run T checking rec g ts))
    → ((B : Type 0) (g : Grammar N Value B) → Follows (run T checking rec g ts) (run T unchecked rec' g ts))
    → {A : Type 0} (g0 : Grammar N Value A) → keeps_body_apart b g0 ≡ true
    → ((x : Fault) (v : A) (us : List Token) → head_check g0 v (span_between ts us) ≡ Some x → Means unchecked
    (Part unchecked body) g0 v ts us → run T unchecked rec' g0 ts ≡ ok v us → Found body b l ts x us)
    → OfBad (Found body b l ts) (run T checking rec g0 ts)
head_fault T body b rec rec' l ts I S F (checked {A} f g) k W = go (run T checking rec g ts) (I A g k) (S A g) (F A g)
  where
    judged : (x : Option Fault) (v : A) (us : List Token) → f v (span_between ts us) ≡ x
        → Means unchecked (Part unchecked body) g v ts us
        → bind (run T unchecked rec' g ts) (λ v us. ok v us) ≡ ok v us
        → OfBad (Found body b l ts) (judge x v us)
    judged None v us e m i = tt
    judged (Some x) v us e m i = W x v us e (refl, m) i

    go : (m : Outcome A) → OfBad (Found body b l ts) m
        → OfOk (λ v us. Means unchecked (Part unchecked body) g v ts us) m
        → Follows m (run T unchecked rec' g ts)
        → OfBad (Found body b l ts) (bind m (λ v us. judge (f v (span_between ts us)) v us))
    go (ok v us) i m w = judged (f v (span_between ts us)) v us refl m
        (ap (λ (z : Outcome A). bind z (λ v us. ok v us)) w)
    go (stuck us) i m w = tt
    go (bad x us) i m w = i
    go out i m w = tt
head_fault T body b rec rec' l ts I S F (empty a) k W = I _ (empty a) k
head_fault T body b rec rec' l ts I S F (sequence g h) k W = I _ (sequence g h) k
head_fault T body b rec rec' l ts I S F (choice g h) k W = I _ (choice g h) k
head_fault T body b rec rec' l ts I S F (mapped f g) k W = I _ (mapped f g) k
head_fault T body b rec rec' l ts I S F (node f g) k W = I _ (node f g) k
head_fault T body b rec rec' l ts I S F (left_chain f g h) k W = I _ (left_chain f g h) k
head_fault T body b rec rec' l ts I S F (token s) k W = I _ (token s) k
head_fault T body b rec rec' l ts I S F (symbol m) k W = I _ (symbol m) k

-- what is named is a fault of the list
pub faults_read : {N : Type 0} {Value : N → Type 0} (T : Tables N) (body : (n : N) → Grammar N Value (Value n))
    → Sane T body → (b : List ℕ) → KeepsApart body b
    → (k : ℕ) (n : N) (l : ℕ) (ts : List Token) → is_among l b ≡ false
    → OfBad (Found body b l ts) (read T checking body k n ts)
faults_read T body s b K zero n l ts c = tt
faults_read {N} {Value} T body s b K (suc k) n l ts c =
    head_fault T body b (read T checking body k) (read T unchecked body k) l ts
    (λ B g q. faults T checking body b K (read T checking body k) (sound_read T checking body k)
    (faults_read T body s b K k) g false q l ts (λ z. c))
    (λ B g. of_map (λ v us. Means checking (Part checking body) g v ts us) (λ v us. Means unchecked
    (Part unchecked body) g v ts us) (run T checking (read T checking body k) g ts)
    (sound T checking (Part checking body) (read T checking body k) (sound_read T checking body k) g ts)
    (λ v us m. means_mono checking unchecked (no_checks checking) (Part checking body)
    (Part unchecked body) (loosen checking body) g v ts us m))
    (λ B g. follows T checking (read T checking body k) (read T unchecked body k)
    (goes_read T unchecked body k) (follows_read T checking body k) g ts)
    (body n) (K n)
    (λ x v us e m r.
    (n, [], ts, refl, c, ended_of T body s (suc k) n ts us v r, (v, roll unchecked body n v ts us m, e)))

-- ---- what is read has no fault before its end
-- how the faulty parts of a symbol are found: by the classes of their first tokens
pub record Guarded {N : Type 0} {Value : N → Type 0} (T : Tables N)
    (body : (n : N) → Grammar N Value (Value n)) (apart : N → List ℕ) (n : N) : Type 0 where
  pub anchor : List ℕ
  pub anchored : IsAnchored body anchor (apart n) n
  pub nonempty : T.empty n ≡ false
  pub starts : (x : Fault) (xs ys : List Token) → IsFaulty body n x xs ys → chooses anchor xs ≡ true
  pub reads : (v : Value n) (xs ys : List Token) → Part unchecked body n v xs ys
      → IsEnded body n xs ys → (k : ℕ) → OrOut (read T unchecked body k n xs) v ys

-- what the reader reads is ended
pub ended_read : {N : Type 0} {Value : N → Type 0} (T : Tables N) (body : (n : N) → Grammar N Value (Value n)) (R : ℕ)
    → Passes T body R → (n : N) (v : Value n) (xs ys : List Token)
    → ((k : ℕ) → OrOut (read T unchecked body k n xs) v ys) → IsEnded body n xs ys
ended_read T body R p n v xs ys h = elim (h (R * length xs + suc (T.rank n))) [
  | inl e ↦ ended_of T body (sane T body R p) (R * length xs + suc (T.rank n)) n xs ys v e
  | inr e ↦ absurd (has_fuel T unchecked body R p (R * length xs + suc (T.rank n)) n xs (le_refl _) e)
]

-- each symbol has no check, or is guarded
abbrev pub IsGuarded : {N : Type 0} {Value : N → Type 0} (T : Tables N)
    (body : (n : N) → Grammar N Value (Value n)) (apart : N → List ℕ) → Type 0
IsGuarded {N} {Value} T body apart = (n : N)
    → ((v : Value n) (s : Span) → head_check (body n) v s ≡ None) ⊎ Guarded T body apart n

stop_empty : (ys : List Token) → Stops [] ys
stop_empty [] = refl
stop_empty (t ∷ ys) = refl

-- a symbol with which nothing goes on
pub reads_alone : {N : Type 0} {Value : N → Type 0} (T : Tables N) (body : (n : N) → Grammar N Value (Value n))
    → Sane T body → (n : N) → T.more n ≡ []
    → (v : Value n) (xs ys : List Token) → Part unchecked body n v xs ys → (k : ℕ)
    → OrOut (read T unchecked body k n xs) v ys
reads_alone T body s n e v xs ys d k = complete_read T unchecked body s k n v xs ys d
    (subst (λ (z : List ℕ). Stops z ys) (sym e) (stop_empty ys))

-- a reader that goes as far as the end of a faulty part has named a fault by then
abbrev Named : {A : Type 0} → ℕ → Outcome A → Type 0
Named l m = (x : Fault) × (r : List Token) × (m ≡ bad x r) × (l ≤ length r)

head_named : {N : Type 0} {Value : N → Type 0} (T : Tables N)
    (rec rec' : (n : N) → List Token → Outcome (Value n)) (xs ys : List Token) (x : Fault)
    → {A : Type 0} (g0 : Grammar N Value A)
    → ((B : Type 0) (g : Grammar N Value B) → Follows (run T checking rec g xs) (run T unchecked rec' g xs))
    → (v : A) → head_check g0 v (span_between xs ys) ≡ Some x → run T unchecked rec' g0 xs ≡ ok v ys
    → (run T checking rec g0 xs ≡ out) ⊎ Named (length ys) (run T checking rec g0 xs)
head_named T rec rec' xs ys x (checked {A} f g) F v e u = go (run T checking rec g xs)
    (run T unchecked rec' g xs) (F A g) u
  where
    go : (m m' : Outcome A) → Follows m m' → bind m' (λ v us. ok v us) ≡ ok v ys
        → (bind m (λ v us. judge (f v (span_between xs us)) v us) ≡ out)
        ⊎ Named (length ys) (bind m (λ v us. judge (f v (span_between xs us)) v us))
    go (ok a us) m' w u =
        let h : ok a us ≡ ok v ys = sym (ap (λ (z : Outcome A). bind z (λ v us. ok v us)) w) ∙ u in
        let p : a ≡ v = cc in let q : us ≡ ys = cc in
        inr (
          x,
          ys,
          (subst₂ (λ (y : A) (z : List Token). judge (f y (span_between xs z)) y z ≡ bad x ys)
              (sym p) (sym q) (ap (λ (z : Option Fault). judge z v ys) e)),
          le_refl _,
        )
    go (stuck us) m' w u = let h = sym (ap (λ (z : Outcome A). bind z (λ v us. ok v us)) w) ∙ u in absurd cc
    go (bad y us) (ok a r) w u =
        let q : r ≡ ys = cc in inr (y, us, refl, subst (λ (z : List Token). length z ≤ length us) q w)
    go (bad y us) (stuck r) w u = absurd cc
    go (bad y us) (bad z r) w u = absurd cc
    go (bad y us) out w u = absurd cc
    go out m' w u = inl refl
head_named T rec rec' xs ys x (empty a) F v e u = absurd cc
head_named T rec rec' xs ys x (token s) F v e u = absurd cc
head_named T rec rec' xs ys x (sequence g h) F v e u = absurd cc
head_named T rec rec' xs ys x (choice g h) F v e u = absurd cc
head_named T rec rec' xs ys x (mapped f g) F v e u = absurd cc
head_named T rec rec' xs ys x (node f g) F v e u = absurd cc
head_named T rec rec' xs ys x (symbol m) F v e u = absurd cc
head_named T rec rec' xs ys x (left_chain f g h) F v e u = absurd cc

faulty_named : {N : Type 0} {Value : N → Type 0} (T : Tables N) (body : (n : N) → Grammar N Value (Value n)) (R : ℕ)
    → Passes T body R → (apart : N → List ℕ) (n : N) → Guarded T body apart n
    → (x : Fault) (xs ys : List Token) → IsFaulty body n x xs ys → IsEnded body n xs ys
    → Named (length ys) (read_all T checking body R n xs)
faulty_named T body R p apart n G x xs ys (v, d, e) i =
    let u : read_all T unchecked body R n xs ≡ ok v ys = elim (G.reads v xs ys d i (R * length xs + suc (T.rank n))) [
      | inl z ↦ z
      | inr z ↦ absurd (has_fuel T unchecked body R p (R * length xs + suc (T.rank n)) n xs (le_refl _) z)
    ] in
    let s = step T checking body R p n xs in
    elim (head_named T (read_all T checking body R) (read_all T unchecked body R) xs ys x (body n)
    (λ B g. follows T checking (read_all T checking body R) (read_all T unchecked body R)
    (λ m ts. goes_read T unchecked body (R * length ts + suc (T.rank m)) m ts)
    (λ m ts. follows_read T checking body (R * length ts + suc (T.rank m)) m ts) g xs)
    v e (sym (step T unchecked body R p n xs) ∙ u)) [
      | inl z ↦ absurd (has_fuel T checking body R p (R * length xs + suc (T.rank n)) n xs (le_refl _) (s ∙ z))
      | inr z ↦ (z.0, z.1, s ∙ z.2, z.3)
    ]

explained : {A B : Type 0} (o : Outcome A) (m : Outcome B) (x : Fault) (r : List Token)
    → o ≡ bad x r → Explains o m → m ≡ bad x r
explained (bad y us) m x r e h = h
    ∙ (let p : y ≡ x = cc in let q : us ≡ r = cc in ap₂ (λ (a : Fault) (b : List Token). bad a b) p q)
explained (ok a us) m x r e h = absurd cc
explained (stuck us) m x r e h = absurd cc
explained out m x r e h = absurd cc

not_explained : {A B : Type 0} (o : Outcome A) (m : Outcome B) → o ≡ out → Explains o m → ⊥
not_explained (ok a us) m e h = cc
not_explained (stuck us) m e h = cc
not_explained (bad x us) m e h = cc
not_explained out m e h = h

pub chosen_head : (s : List ℕ) (xs : List Token) → chooses s xs ≡ true
    → (t : Token) × (w : List Token) × (xs ≡ t ∷ w) × (is_among t.class s ≡ true)
chosen_head s [] e = absurd cc
chosen_head s (t ∷ w) e = (t, w, refl, e)

consumed_less : {A : Type 0} (ys w : List Token) (m : Outcome A) → length ys ≤ length w → Consumed ys m → Consumed w m
consumed_less ys w (ok a us) l h = omega (arith, l, h)
consumed_less ys w (stuck us) l h = omega (arith, l, h)
consumed_less ys w (bad x us) l h = omega (arith, l, h)
consumed_less ys w out l h = h

pub named : {N : Type 0} {Value : N → Type 0} (T : Tables N) (body : (n : N) → Grammar N Value (Value n)) (R : ℕ)
    → Passes T body R → (apart : N → List ℕ) → IsGuarded T body apart
    → (k : ℕ) (m : N) (ts : List Token) (x : Fault) (ys : List Token) → FaultIn body apart ts x ys
    → Consumed ys (read T checking body k m ts) → Named (length ys) (read T checking body k m ts)
named {N} {Value} T body R p apart Gs k m ts x ys f c = elim (Gs f.symbol_of) [
  | inl none ↦ absurd (let q = none f.faulty.0 (span_between f.from ys) in let q' = f.faulty.2 in cc)
  | inr G ↦ go G
]
  where
    go : Guarded T body apart f.symbol_of → Named (length ys) (read T checking body k m ts)
    go G =
        let s = sane T body R p in
        let h = chosen_head G.anchor f.from (G.starts x f.from ys f.faulty) in
        let l : length ys < length f.from =
        elim (begins_within T unchecked body s f.faulty.1.0 f.symbol_of f.faulty.0 f.from ys f.faulty.1.1) [
          | inl z ↦ absurd (let q = z.0 in let q' = G.nonempty in cc)
          | inr z ↦ z.1
        ] in
        let l' : length ys ≤ length h.1 = (let e = ap length h.2 in omega (arith, l, e)) in
        let w = met_read T checking body G.anchor (apart f.symbol_of) f.symbol_of G.anchored k m 0
        ts f.before h.0 h.1 (f.whole ∙ ap (λ (z : List Token). f.before ++ z) h.2)
        (λ q. absurd cc) h.3 f.not_after (consumed_less ys h.1 (read T checking body k m ts) l' c) in
        let e = subst (λ (z : List Token). Explains (read T checking body w.0 f.symbol_of z)
        (read T checking body k m ts)) (sym h.2) w.1 in
        let d = faulty_named T body R p apart f.symbol_of G x f.from ys f.faulty f.ended in
        elim (below_all T checking body R p w.0 f.symbol_of f.from) [
          | inl z ↦ absurd (not_explained (read T checking body w.0 f.symbol_of f.from)
              (read T checking body k m ts) z e)
          | inr z ↦ (
            d.0,
            d.1,
            explained (read T checking body w.0 f.symbol_of f.from)
                (read T checking body k m ts) d.0 d.1 (z ∙ d.2) e,
            d.3,
          )
        ]
