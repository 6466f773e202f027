-- Each token of an anchor's class is met by its symbol.
use Rattle.std.proofs.Common.{◌≡◌, ℕ, zero, suc, ◌<◌, ◌≤◌, Bool, true, false, ◌||◌, List, [], ◌∷◌, ◌++◌, length, ◌⊎◌, inl, inr, refl, sym, ap, subst, ◌∙◌, arith, length-append, ap₂}
use Rattle.std.specs.Prelude.{Option, Some, None}
use Rattle.grammar.specs.Tokens.{Token, Span, Fault, span_between}
use Rattle.grammar.specs.Grammar.{is_among, Grammar, Grammar.empty, Grammar.token, Grammar.sequence, Grammar.choice, Grammar.mapped, Grammar.node, Grammar.checked, Grammar.symbol, Grammar.left_chain, Mode, found, Means, Part}
use Rattle.grammar.specs.Endings.{last_class}
use Rattle.grammar.specs.Tables.{disjoint, Tables, first}
use Rattle.grammar.specs.Reading.{Outcome, Outcome.ok, Outcome.stuck, Outcome.bad, Outcome.out, bind, judge, chooses, take_token, loop, run, read}
use Rattle.grammar.specs.Anchors.{is_token_of, takes_none, IsAnchored}
use Rattle.grammar.proofs.Reading.Sets.{and_true, clash, cases, in_subset, apart, either}
use Rattle.grammar.proofs.Reading.Beginnings.{pick, pick_yes, pick_no}
use Rattle.grammar.proofs.Reading.Sound.{OfOk, of_map, IsSound, sound, sound_read}
use Rattle.grammar.proofs.Reading.Frame.{Framed, framed, framed_part}

-- ---- lists
pub tail_of : (t x : Token) (w u : List Token) → t ∷ w ≡ x ∷ u → w ≡ u
tail_of t x w u e = cc

-- an end that is shorter than another end is an end of it
pub inner : (p us a : List Token) (t : Token) (w : List Token) → p ++ us ≡ a ++ (t ∷ w)
    → length w < length us → (b : List Token) × (us ≡ b ++ (t ∷ w)) × (a ≡ p ++ b)
inner [] us a t w e l = (a, e, refl)
inner (x ∷ p) us [] t w e l = absurd (omega (arith, l, ap length (tail_of x t (p ++ us) w e), length-append p us))
inner (x ∷ p) us (y ∷ a) t w e l =
    let r = inner p us a t w (tail_of x y (p ++ us) (a ++ (t ∷ w)) e) l in
    let h : x ≡ y = cc in (r.0, r.1, ap₂ (λ (z : Token) (b : List Token). z ∷ b) (sym h) r.2)

pub last_append : (c : ℕ) (p q : List Token) → last_class c (p ++ q) ≡ last_class (last_class c p) q
last_append c [] q = refl
last_append c (t ∷ p) q = last_append t.class p q

-- ---- what a token of an anchor's class met
-- the token before w was taken
abbrev pub Consumed : {A : Type 0} → List Token → Outcome A → Type 0
Consumed w (ok a us) = length us ≤ length w
Consumed w (stuck us) = length us ≤ length w
Consumed w (bad x us) = length us ≤ length w
Consumed w out = ⊥

-- a fault inside is the fault of the whole
abbrev pub Explains : {A B : Type 0} → Outcome A → Outcome B → Type 0
Explains (ok a us) m = Unit {0}
Explains (stuck us) m = Unit {0}
Explains {A} {B} (bad x us) m = m ≡ bad x us
Explains out m = ⊥

-- n was read there
abbrev pub WasRead : {N : Type 0} {Value : N → Type 0} (T : Tables N) (M : Mode)
    (body : (n : N) → Grammar N Value (Value n)) (n : N) {A : Type 0} → List Token → Outcome A → Type 0
WasRead T M body n xs m = (k : ℕ) × Explains (read T M body k n xs) m

-- X is so of each token of the classes c that was taken, not directly after one of the classes b,
-- and is not the first if e
abbrev pub Met : {A : Type 0} (X : List Token → Outcome A → Type 0) (c b : List ℕ) (e : Bool) → ℕ
    → List Token → Outcome A → Type 0
Met X c b e l ts m = (a : List Token) (t : Token) (w : List Token) → ts ≡ a ++ (t ∷ w)
    → (e ≡ true → a ≡ [] → ⊥) → is_among t.class c ≡ true → is_among (last_class l a) b ≡ false
    → Consumed w m → X (t ∷ w) m

explains_ok : {A B C : Type 0} (o : Outcome C) (a : A) (us : List Token) (m : Outcome B)
    → Explains o (ok a us) → Explains o m
explains_ok (ok x vs) a us m e = tt
explains_ok (stuck vs) a us m e = tt
explains_ok (bad x vs) a us m e = absurd cc
explains_ok out a us m e = e

explains_stuck : (A B : Type 0) {C : Type 0} (o : Outcome C) (us : List Token)
    → Explains {B = A} o (stuck us) → Explains {B = B} o (stuck us)
explains_stuck A B (ok x vs) us e = tt
explains_stuck A B (stuck vs) us e = tt
explains_stuck A B (bad x vs) us e = absurd cc
explains_stuck A B out us e = e

explains_bad : (A B : Type 0) {C : Type 0} (o : Outcome C) (x : Fault) (us : List Token)
    → Explains {B = A} o (bad x us) → Explains {B = B} o (bad x us)
explains_bad A B (ok y vs) x us e = tt
explains_bad A B (stuck vs) x us e = tt
explains_bad A B (bad y vs) x us e =
    let p : x ≡ y = cc in let q : us ≡ vs = cc in ap₂ (λ (a : Fault) (b : List Token). bad a b) p q
explains_bad A B out x us e = e

explains_self : {A : Type 0} (m : Outcome A) (w : List Token) → Consumed w m → Explains m m
explains_self (ok a us) w h = tt
explains_self (stuck us) w h = tt
explains_self (bad x us) w h = refl
explains_self out w h = h

-- what was taken before us, and that what follows is directly after a token of the classes b,
-- if e
abbrev pub Taken : List ℕ → Bool → ℕ → List Token → List Token → Type 0
Taken b e l ts us = (p : List Token) × (ts ≡ p ++ us) × (e ≡ true → is_among (last_class l p) b ≡ true)

shorter : (m n : ℕ) → (m ≤ n) ⊎ (n < m)
shorter zero n = inl (omega arith)
shorter (suc m) zero = inr (omega arith)
shorter (suc m) (suc n) = elim (shorter m n) [ inl h ↦ inl (omega (arith, h)) | inr h ↦ inr (omega (arith, h)) ]

met_bind : {N : Type 0} {Value : N → Type 0} (T : Tables N) (M : Mode)
    (body : (n : N) → Grammar N Value (Value n)) (n : N) (c b : List ℕ) {A B : Type 0} (e e' : Bool)
    (l : ℕ) (ts : List Token) (m : Outcome A) (f : A → List Token → Outcome B)
    → Met (WasRead T M body n) c b e l ts m → OfOk (λ a us. Taken b e' l ts us) m
    → ((a : A) (us p : List Token) → ts ≡ p ++ us → Met (WasRead T M body n) c b e' (last_class l p) us (f a us))
    → Met (WasRead T M body n) c b e l ts (bind m f)
met_bind T M body n c b e e' l ts (ok x us) f first taken next a t w i g j h k =
    elim (shorter (length us) (length w)) [
      | inl s ↦ let v = first a t w i g j h s in
          (v.0, explains_ok (read T M body v.0 n (t ∷ w)) x us (f x us) v.1)
      | inr s ↦
          let r = inner taken.0 us a t w (sym taken.1 ∙ i) s in
          let h' : is_among (last_class (last_class l taken.0) r.0) b ≡ false = subst (λ (z : ℕ). is_among z b
          ≡ false) (ap (λ (z : List Token). last_class l z) r.2 ∙ last_append l taken.0 r.0) h in
          next x us taken.0 taken.1 r.0 t w r.1
          (λ q z. clash _ (taken.2 q)
          (subst (λ (y : List Token). is_among (last_class (last_class l taken.0) y) b ≡ false) z h')) j h' k
    ]
met_bind T M body n c b e e' l ts (stuck us) f first taken next a t w i g j h k =
    let v = first a t w i g j h k in (v.0, explains_stuck _ _ (read T M body v.0 n (t ∷ w)) us v.1)
met_bind T M body n c b e e' l ts (bad x us) f first taken next a t w i g j h k =
    let v = first a t w i g j h k in (v.0, explains_bad _ _ (read T M body v.0 n (t ∷ w)) x us v.1)
met_bind T M body n c b e e' l ts out f first taken next a t w i g j h k = absurd k

met_pick : {A : Type 0} (X : List Token → Outcome A → Type 0) (c b : List ℕ) (e : Bool) (l : ℕ)
    (ts : List Token) (d : Bool) (x y : Outcome A) → Met X c b e l ts x → Met X c b e l ts y
    → Met X c b e l ts (pick d x y)
met_pick X c b e l ts true x y p q = p
met_pick X c b e l ts false x y p q = q

-- nothing is taken
met_none : {A : Type 0} (X : List Token → Outcome A → Type 0) (c b : List ℕ) (e : Bool) (l : ℕ)
    (us : List Token) (v : A) → Met X c b e l us (ok v us)
met_none X c b e l us v a t w i g j h k = absurd (omega (arith, k, ap length i, length-append a (t ∷ w)))

met_stuck : {A : Type 0} (X : List Token → Outcome A → Type 0) (c b : List ℕ) (e : Bool) (l : ℕ)
    (us : List Token) → Met X c b e l us (stuck us)
met_stuck X c b e l us a t w i g j h k = absurd (omega (arith, k, ap length i, length-append a (t ∷ w)))

met_bad : {A : Type 0} (X : List Token → Outcome A → Type 0) (c b : List ℕ) (e : Bool) (l : ℕ)
    (us : List Token) (x : Fault) → Met X c b e l us (bad x us)
met_bad X c b e l us x a t w i g j h k = absurd (omega (arith, k, ap length i, length-append a (t ∷ w)))

met_judge : {A : Type 0} (X : List Token → Outcome A → Type 0) (c b : List ℕ) (e : Bool) (l : ℕ)
    (us : List Token) (x : Option Fault) (v : A) → Met X c b e l us (judge x v us)
met_judge X c b e l us None v = met_none X c b e l us v
met_judge X c b e l us (Some x) v = met_bad X c b e l us x

met_token : (X : List Token → Outcome Token → Type 0) (c b : List ℕ) (e : Bool) (l : ℕ) (s : List ℕ)
    (ts : List Token) → (e || disjoint s c) ≡ true → Met X c b e l ts (take_token s ts)
met_token X c b e l s [] q = met_stuck X c b e l []
met_token X c b e l s (x ∷ us) q = elim (cases (is_among x.class s)) [
  | inl y ↦ subst (Met X c b e l (x ∷ us))
      (sym (pick_yes (is_among x.class s) (ok x us) (stuck (x ∷ us)) y)) (taken y)
  | inr y ↦ subst (Met X c b e l (x ∷ us))
      (sym (pick_no (is_among x.class s) (ok x us) (stuck (x ∷ us)) y)) (met_stuck X c b e l (x ∷ us))
]
  where
    taken : is_among x.class s ≡ true → Met X c b e l (x ∷ us) (ok x us)
    taken y [] t w i g j h k = let z : x ≡ t = cc in elim (either e (disjoint s c) q) [
      | inl u ↦ absurd (g u refl)
      | inr u ↦ clash _ j (subst (λ (v : Token). is_among v.class c ≡ false) z (apart x.class s c u y))
    ]
    taken y (v ∷ a) t w i g j h k =
        absurd (omega (arith, k, ap length (tail_of x v us (a ++ (t ∷ w)) i), length-append a (t ∷ w)))

-- what a right side takes
pub taken : {N : Type 0} {Value : N → Type 0} (M : Mode)
    (D : (n : N) → Value n → List Token → List Token → Type 0) → ((n : N) → Framed (D n))
    → (b : List ℕ) (l : ℕ) {A : Type 0} (g : Grammar N Value A) (v : A) (ts us : List Token)
    → Means M D g v ts us → Taken b (is_token_of b g) l ts us
taken M D F b l (token s) v ts us d = (v ∷ [], d.1, λ q. in_subset v.class s b q d.0)
taken M D F b l (mapped f g) v ts us d = taken M D F b l g d.0 ts us d.2
taken M D F b l (node f g) v ts us d = taken M D F b l g d.0 ts us d.2
taken M D F b l (empty x) v ts us d = let w = framed M D F (empty x) v ts us d in (w.0, w.1, λ q. absurd cc)
taken M D F b l (sequence g h) v ts us d = let w = framed M D F (sequence g h) v ts us d in (w.0, w.1, λ q. absurd cc)
taken M D F b l (choice g h) v ts us d = let w = framed M D F (choice g h) v ts us d in (w.0, w.1, λ q. absurd cc)
taken M D F b l (checked f g) v ts us d = let w = framed M D F (checked f g) v ts us d in (w.0, w.1, λ q. absurd cc)
taken M D F b l (symbol n) v ts us d = let w = framed M D F (symbol n) v ts us d in (w.0, w.1, λ q. absurd cc)
taken M D F b l (left_chain f g h) v ts us d =
    let w = framed M D F (left_chain f g h) v ts us d in (w.0, w.1, λ q. absurd cc)

abbrev Front : List Token → List Token → Type 0
Front ts us = (p : List Token) × (ts ≡ p ++ us)

plain : (b : List ℕ) (l : ℕ) (ts us : List Token) → Front ts us → Taken b false l ts us
plain b l ts us w = (w.0, w.1, λ q. absurd cc)

met_loop : {N : Type 0} {Value : N → Type 0} (T : Tables N) (M : Mode)
    (body : (n : N) → Grammar N Value (Value n)) (n : N) (c b : List ℕ) {A B : Type 0}
    (f : A → B → Span → A) (s : List ℕ) (r : List Token → Outcome B) (start : List Token)
    → ((ts : List Token) → OfOk (λ v us. Front ts us) (r ts))
    → ((l : ℕ) (ts : List Token) → Met (WasRead T M body n) c b false l ts (r ts))
    → (k : ℕ) (l : ℕ) (a : A) (us : List Token)
    → Met (WasRead T M body n) c b false l us (loop f s r start k a us)
met_loop T M body n c b f s r start S H zero l a us = met_pick (WasRead T M body n) c b false l us
    (chooses s us) out (ok a us) (λ x t w i g j h k. absurd k)
    (met_none (WasRead T M body n) c b false l us a)
met_loop T M body n c b f s r start S H (suc k) l a us =
    met_pick (WasRead T M body n) c b false l us (chooses s us) _ (ok a us)
    (met_bind T M body n c b false false l us (r us) _ (H l us) (of_map (λ v vs. Front us vs)
    (λ v vs. Taken b false l us vs) (r us) (S us) (λ v vs w. plain b l us vs w))
    (λ x vs p e. met_loop T M body n c b f s r start S H k (last_class l p) (f a x (span_between start vs)) vs))
    (met_none (WasRead T M body n) c b false l us a)

weaker : {A : Type 0} (X : List Token → Outcome A → Type 0) (c b : List ℕ) (e : Bool) (l : ℕ)
    (ts : List Token) (m : Outcome A) → Met X c b false l ts m → Met X c b e l ts m
weaker X c b e l ts m H a t w i g j h k = H a t w i (λ q. absurd cc) j h k

pub met : {N : Type 0} {Value : N → Type 0} (T : Tables N) (M : Mode)
    (body : (n : N) → Grammar N Value (Value n)) (n : N) (c b : List ℕ) (D : (n : N) → Value n
    → List Token → List Token → Type 0) (rec : (n : N) → List Token → Outcome (Value n))
    → ((m : N) → Framed (D m)) → ((m : N) → IsSound (D m) (rec m))
    → ((m : N) (l : ℕ) (ts : List Token) → Met (WasRead T M body n) c b false l ts (rec m ts))
    → {A : Type 0} (g : Grammar N Value A) (e : Bool) → takes_none c b e g ≡ true
    → (l : ℕ) (ts : List Token) → Met (WasRead T M body n) c b e l ts (run T M rec g ts)
met T M body n c b D rec F S H (empty v) e q l ts = met_none (WasRead T M body n) c b e l ts v
met T M body n c b D rec F S H (token s) e q l ts = met_token (WasRead T M body n) c b e l s ts q
met T M body n c b D rec F S H (sequence {A} {B = C} g h) e q l ts =
    let q' = and_true _ _ q in
    met_bind T M body n c b e (is_token_of b g) l ts (run T M rec g ts) _
    (met T M body n c b D rec F S H g e q'.0 l ts)
    (of_map (λ v us. Means M D g v ts us) (λ v us. Taken b (is_token_of b g) l ts us)
    (run T M rec g ts) (sound T M D rec S g ts) (λ v us d. taken M D F b l g v ts us d))
    (λ a us p i. met_bind T M body n c b (is_token_of b g) false (last_class l p) us (run T M rec h us)
    (λ v vs. ok (a, v) vs) (met T M body n c b D rec F S H h (is_token_of b g) q'.1 (last_class l p) us)
    (of_map (λ v vs. Means M D h v us vs) (λ v vs. Taken b false (last_class l p) us vs) (run T M rec h us)
    (sound T M D rec S h us) (λ v vs d. let w = framed M D F h v us vs d in (w.0, w.1, λ z. absurd cc)))
    (λ v vs p' i'. met_none {A = A × C} (WasRead T M body n) c b false (last_class (last_class l p) p') vs (a, v)))
met T M body n c b D rec F S H (choice g h) e q l ts =
    let q' = and_true _ _ q in
    met_pick (WasRead T M body n) c b e l ts (chooses (first T g) ts) _ _
    (met T M body n c b D rec F S H g e q'.0 l ts) (met T M body n c b D rec F S H h e q'.1 l ts)
met T M body n c b D rec F S H (mapped f g) e q l ts =
    met_bind T M body n c b e false l ts (run T M rec g ts) _ (met T M body n c b D rec F S H g e q l ts)
    (of_map (λ v us. Means M D g v ts us) (λ v us. Taken b false l ts us) (run T M rec g ts)
    (sound T M D rec S g ts) (λ v us d. let w = framed M D F g v ts us d in (w.0, w.1, λ z. absurd cc)))
    (λ a us p i. met_none (WasRead T M body n) c b false (last_class l p) us (f a))
met T M body n c b D rec F S H (node f g) e q l ts =
    met_bind T M body n c b e false l ts (run T M rec g ts) _ (met T M body n c b D rec F S H g e q l ts)
    (of_map (λ v us. Means M D g v ts us) (λ v us. Taken b false l ts us) (run T M rec g ts)
    (sound T M D rec S g ts) (λ v us d. let w = framed M D F g v ts us d in (w.0, w.1, λ z. absurd cc)))
    (λ a us p i. met_none (WasRead T M body n) c b false (last_class l p) us (f a (span_between ts us)))
met T M body n c b D rec F S H (checked f g) e q l ts =
    met_bind T M body n c b e false l ts (run T M rec g ts) _ (met T M body n c b D rec F S H g e q l ts)
    (of_map (λ v us. Means M D g v ts us) (λ v us. Taken b false l ts us) (run T M rec g ts)
    (sound T M D rec S g ts) (λ v us d. let w = framed M D F g v ts us d in (w.0, w.1, λ z. absurd cc)))
    (λ a us p i. met_judge (WasRead T M body n) c b false (last_class l p) us (found M (f a (span_between ts us))) a)
met T M body n c b D rec F S H (symbol m) e q l ts = weaker (WasRead T M body n) c b e l ts (rec m ts) (H m l ts)
met T M body n c b D rec F S H (left_chain f g h) e q l ts =
    let q' = and_true _ _ q in
    met_bind T M body n c b e false l ts (run T M rec g ts) _ (met T M body n c b D rec F S H g e q'.0 l ts)
    (of_map (λ v us. Means M D g v ts us) (λ v us. Taken b false l ts us) (run T M rec g ts)
    (sound T M D rec S g ts) (λ v us d. let w = framed M D F g v ts us d in (w.0, w.1, λ z. absurd cc)))
    (λ a us p i. met_loop T M body n c b f (first T h) (run T M rec h) ts
    (λ vs. of_map (λ v ws. Means M D h v vs ws) (λ v ws. Front vs ws) (run T M rec h vs)
    (sound T M D rec S h vs) (λ v ws d. let w = framed M D F h v vs ws d in (w.0, w.1)))
    (λ l' vs. met T M body n c b D rec F S H h false q'.1 l' vs) (length us) (last_class l p) a us)

-- each token of an anchor's class that is taken is met by its symbol
pub met_read : {N : Type 0} {Value : N → Type 0} (T : Tables N) (M : Mode)
    (body : (n : N) → Grammar N Value (Value n)) (c b : List ℕ) (n : N) → IsAnchored body c b n
    → (k : ℕ) (m : N) (l : ℕ) (ts : List Token)
    → Met (WasRead T M body n) c b false l ts (read T M body k m ts)
met_read T M body c b n An zero m l ts = λ a t w i g j h k. absurd k
met_read {N} {Value} T M body c b n An (suc k) m l ts = elim (An m) [
  | inl q ↦ met T M body n c b (Part M body) (read T M body k) (framed_part M body)
      (sound_read T M body k) (met_read T M body c b n An k) (body m) false q l ts
  | inr q ↦ own ts (read T M body (suc k) m ts) refl
      (met T M body n c b (Part M body) (read T M body k) (framed_part M body)
      (sound_read T M body k) (met_read T M body c b n An k) (body m) true q.1 l ts) q.0
]
  where
    own : (us : List Token) (o : Outcome (Value m)) → o ≡ read T M body (suc k) m us
        → Met (WasRead T M body n) c b true l us o → n ≡ m → Met (WasRead T M body n) c b false l us o
    own us o e H s [] t w i g j h z = (
      suc k,
      subst (λ (y : N). Explains (read T M body (suc k) y (t ∷ w)) o) (sym s)
          (subst (λ (y : Outcome (Value m)). Explains y o) (e ∙ ap (read T M body (suc k) m) i) (explains_self o w z)),
    )
    own us o e H s (x ∷ a) t w i g j h z = H (x ∷ a) t w i (λ q y. absurd cc) j h z
