-- Two lists with one front are read alike.
use Rattle.std.proofs.Common.{◌≡◌, ℕ, zero, suc, ◌<◌, ◌≤◌, Bool, true, false, List, [], ◌∷◌, ◌++◌, length, ◌⊎◌, inl, inr, refl, sym, ap, subst, arith, length-append, subst₂, le_refl}
use Rattle.std.specs.Prelude.{Option, Some, None}
use Rattle.grammar.specs.Tokens.{Token, Span, Fault, span_between}
use Rattle.grammar.specs.Grammar.{is_among, Grammar, Grammar.empty, Grammar.token, Grammar.sequence, Grammar.choice, Grammar.mapped, Grammar.node, Grammar.checked, Grammar.symbol, Grammar.left_chain, Mode, Mode.unchecked, found, Within}
use Rattle.grammar.specs.Tables.{Tables, first, decides}
use Rattle.grammar.specs.Reading.{Outcome, Outcome.ok, Outcome.stuck, Outcome.bad, Outcome.out, bind, judge, chooses, take_token, loop, run, read}
use Rattle.grammar.proofs.Reading.Sets.{and_true}
use Rattle.grammar.proofs.Reading.Beginnings.{pick, Begins, Sane, begins_within}
use Rattle.grammar.proofs.Reading.Sound.{OfOk, IsSound, sound_within}
use Rattle.grammar.proofs.Reading.Enough.{Eats, item_eats}

-- what is left is no longer than n
abbrev pub AtMost : {A : Type 0} → ℕ → Outcome A → Type 0
AtMost n (ok a us) = length us ≤ n
AtMost n (stuck us) = length us ≤ n
AtMost n (bad x us) = length us ≤ n
AtMost n out = Unit {0}

pub at_most_less : {A : Type 0} (n k : ℕ) (m : Outcome A) → n ≤ k → AtMost n m → AtMost k m
at_most_less n k (ok a us) l h = omega (arith, l, h)
at_most_less n k (stuck us) l h = omega (arith, l, h)
at_most_less n k (bad x us) l h = omega (arith, l, h)
at_most_less n k out l h = tt

pub at_most_bind : {A B : Type 0} (n : ℕ) (m : Outcome A) (f : A → List Token → Outcome B)
    → AtMost n m → ((a : A) (us : List Token) → AtMost (length us) (f a us)) → AtMost n (bind m f)
at_most_bind n (ok a us) f l h = at_most_less (length us) n (f a us) l (h a us)
at_most_bind n (stuck us) f l h = l
at_most_bind n (bad x us) f l h = l
at_most_bind n out f l h = tt

at_most_pick : {A : Type 0} (n : ℕ) (b : Bool) (x y : Outcome A) → AtMost n x → AtMost n y → AtMost n (pick b x y)
at_most_pick n true x y p q = p
at_most_pick n false x y p q = q

pub at_most_judge : {A : Type 0} (x : Option Fault) (a : A) (us : List Token) → AtMost (length us) (judge x a us)
at_most_judge None a us = le_refl _
at_most_judge (Some x) a us = le_refl _

-- a reader never goes back
abbrev pub GoesOn : {A : Type 0} → (List Token → Outcome A) → Type 0
GoesOn r = (ts : List Token) → AtMost (length ts) (r ts)

pub goes_loop : {A B : Type 0} (f : A → B → Span → A) (s : List ℕ) (r : List Token → Outcome B)
    (start : List Token) → GoesOn r → (k : ℕ) (a : A) → GoesOn (loop f s r start k a)
goes_loop f s r start H zero a us = at_most_pick (length us) (chooses s us) out (ok a us) tt (le_refl _)
goes_loop f s r start H (suc k) a us = at_most_pick (length us) (chooses s us) _ (ok a us)
    (at_most_bind (length us) (r us) _ (H us)
    (λ b vs. goes_loop f s r start H k (f a b (span_between start vs)) vs)) (le_refl _)

pub goes : {N : Type 0} {Value : N → Type 0} (T : Tables N) (M : Mode) (rec : (n : N) → List Token → Outcome (Value n))
    → ((n : N) → GoesOn (rec n)) → {A : Type 0} (g : Grammar N Value A) → GoesOn (run T M rec g)
goes T M rec H (empty a) ts = le_refl _
goes T M rec H (token s) [] = le_refl _
goes T M rec H (token s) (t ∷ ts) = at_most_pick (suc (length ts)) (is_among t.class s) (ok t ts)
    (stuck (t ∷ ts)) (omega arith) (omega arith)
goes T M rec H (sequence g h) ts = at_most_bind (length ts) (run T M rec g ts) _ (goes T M rec H g ts)
    (λ a us. at_most_bind (length us) (run T M rec h us) _ (goes T M rec H h us) (λ b vs. le_refl _))
goes T M rec H (choice g h) ts = at_most_pick (length ts) (chooses (first T g) ts) _ _
    (goes T M rec H g ts) (goes T M rec H h ts)
goes T M rec H (mapped f g) ts = at_most_bind (length ts) (run T M rec g ts) _ (goes T M rec H g ts) (λ a us. le_refl _)
goes T M rec H (node f g) ts = at_most_bind (length ts) (run T M rec g ts) _ (goes T M rec H g ts) (λ a us. le_refl _)
goes T M rec H (checked f g) ts = at_most_bind (length ts) (run T M rec g ts) _
    (goes T M rec H g ts) (λ a us. at_most_judge (found M (f a (span_between ts us))) a us)
goes T M rec H (symbol n) ts = H n ts
goes T M rec H (left_chain f g h) ts = at_most_bind (length ts) (run T M rec g ts) _ (goes T M rec H g ts)
    (λ a us. goes_loop f (first T h) (run T M rec h) ts (goes T M rec H h) (length us) a us)

pub goes_read : {N : Type 0} {Value : N → Type 0} (T : Tables N) (M : Mode)
    (body : (n : N) → Grammar N Value (Value n)) (k : ℕ) (n : N) → GoesOn (read T M body k n)
goes_read T M body zero n ts = tt
goes_read T M body (suc k) n ts = goes T M (read T M body k) (goes_read T M body k) (body n) ts

-- ---- two lists with one front: up to the token after it both readers go the same way, checks
-- aside
abbrev pub Near : {A B : Type 0} → Token → List Token → List Token → Outcome A → Outcome B → Type 0
Near {A} {B} t us zs (ok a r) m = (length r ≤ length us)
    ⊎ ((q : List Token) × (b : B) × (r ≡ q ++ (t ∷ us)) × (m ≡ ok b (q ++ (t ∷ zs))))
Near t us zs (stuck r) m = (length r ≤ length us)
    ⊎ ((q : List Token) × (r ≡ q ++ (t ∷ us)) × (m ≡ stuck (q ++ (t ∷ zs))))
Near t us zs (bad x r) m = Unit {0}
Near t us zs out m = Unit {0}

-- after the token nothing is said
near_past : {A B : Type 0} (t : Token) (us zs r : List Token) (m : Outcome A) (m' : Outcome B)
    → AtMost (length r) m → length r ≤ length us → Near t us zs m m'
near_past t us zs r (ok a w) m' h l = inl (omega (arith, h, l))
near_past t us zs r (stuck w) m' h l = inl (omega (arith, h, l))
near_past t us zs r (bad x w) m' h l = tt
near_past t us zs r out m' h l = tt

near_bind : {A B C D : Type 0} (t : Token) (us zs : List Token) (P : A → List Token → Type 0)
    (m : Outcome A) (m' : Outcome B) (f : A → List Token → Outcome C) (f' : B → List Token → Outcome D)
    → Near t us zs m m' → OfOk P m → ((a : A) (r : List Token) → AtMost (length r) (f a r))
    → ((a : A) (b : B) (q : List Token) → P a (q ++ (t ∷ us))
    → Near t us zs (f a (q ++ (t ∷ us))) (f' b (q ++ (t ∷ zs)))) → Near t us zs (bind m f) (bind m' f')
near_bind t us zs P (ok a r) m' f f' (inl l) p g h = near_past t us zs r (f a r) (bind m' f') (g a r) l
near_bind t us zs P (ok a r) m' f f' (inr n) p g h =
    subst₂ (λ (x : List Token) (y : Outcome _). Near t us zs (f a x) (bind y f')) (sym n.2)
    (sym n.3) (h a n.1 n.0 (subst (P a) n.2 p))
near_bind t us zs P (stuck r) m' f f' (inl l) p g h = inl l
near_bind t us zs P (stuck r) m' f f' (inr n) p g h = inr (n.0, n.1, ap (λ (x : Outcome _). bind x f') n.2)
near_bind t us zs P (bad x r) m' f f' n p g h = tt
near_bind t us zs P out m' f f' n p g h = tt

near_pick : {A B : Type 0} (t : Token) (us zs : List Token) (b b' : Bool) (x y : Outcome A) (x' y' : Outcome B)
    → b ≡ b' → Near t us zs x x' → Near t us zs y y' → Near t us zs (pick b x y) (pick b' x' y')
near_pick t us zs true b' x y x' y' e p q = subst (λ (z : Bool). Near t us zs x (pick z x' y')) e p
near_pick t us zs false b' x y x' y' e p q = subst (λ (z : Bool). Near t us zs y (pick z x' y')) e q

-- the same, where the first test fails for a token
near_ok : {A B : Type 0} (t : Token) (us zs q : List Token) (a : A) (b : B)
    → Near t us zs (ok a (q ++ (t ∷ us))) (ok b (q ++ (t ∷ zs)))
near_ok t us zs q a b = inr (q, b, refl, refl)

pub same_choice : (s : List ℕ) (t : Token) (us zs p : List Token)
    → chooses s (p ++ (t ∷ us)) ≡ chooses s (p ++ (t ∷ zs))
same_choice s t us zs [] = refl
same_choice s t us zs (x ∷ p) = refl

any_ok : {A : Type 0} (m : Outcome A) → OfOk (λ a us. Unit {0}) m
any_ok (ok a us) = tt
any_ok (stuck us) = tt
any_ok (bad x us) = tt
any_ok out = tt

near_judge : {A B : Type 0} (t : Token) (us zs q : List Token) (x : Option Fault) (a : A) (b : B)
    → Near t us zs (judge x a (q ++ (t ∷ us))) (ok b (q ++ (t ∷ zs)))
near_judge t us zs q None a b = near_ok t us zs q a b
near_judge t us zs q (Some x) a b = tt

abbrev pub IsNear : {A B : Type 0} → (List Token → Outcome A) → (List Token → Outcome B) → Type 0
IsNear r r' = (t : Token) (us zs p : List Token) → Near t us zs (r (p ++ (t ∷ us))) (r' (p ++ (t ∷ zs)))

near_loop : {A B : Type 0} (f : A → B → Span → A) (s : List ℕ) (r r' : List Token → Outcome B)
    → GoesOn r → Eats r → IsNear r r'
    → (t : Token) (us zs start start' : List Token) (k j : ℕ) (a a' : A) (p : List Token)
    → length (p ++ (t ∷ zs)) ≤ j
    → Near t us zs (loop f s r start k a (p ++ (t ∷ us))) (loop f s r' start' j a' (p ++ (t ∷ zs)))
near_loop f s r r' G E H t us zs start start' k zero a a' p l = absurd (omega (arith, length-append p (t ∷ zs), l))
near_loop f s r r' G E H t us zs start start' zero (suc j) a a' p l = near_pick t us zs
    (chooses s (p ++ (t ∷ us))) (chooses s (p ++ (t ∷ zs))) _ _ _ _ (same_choice s t us zs p) tt
    (near_ok t us zs p a a')
near_loop f s r r' G E H t us zs start start' (suc k) (suc j) a a' p l =
    near_pick t us zs (chooses s (p ++ (t ∷ us))) (chooses s (p ++ (t ∷ zs))) _ _ _ _
    (same_choice s t us zs p)
    (near_bind t us zs (λ b w. length w < length (p ++ (t ∷ us))) (r (p ++ (t ∷ us)))
    (r' (p ++ (t ∷ zs))) _ _ (H t us zs p) (E (p ++ (t ∷ us)))
    (λ b w. goes_loop f s r start G k (f a b (span_between start w)) w)
    (λ b b' q lt. near_loop f s r r' G E H t us zs start start' k j
    (f a b (span_between start (q ++ (t ∷ us)))) (f a' b' (span_between start' (q ++ (t ∷ zs)))) q
    (omega (
      arith,
      lt,
      l,
      length-append q (t ∷ zs),
      length-append p (t ∷ zs),
      length-append q (t ∷ us),
      length-append p (t ∷ us),
    ))))
    (near_ok t us zs p a a')

pub near : {N : Type 0} {Value : N → Type 0} (T : Tables N) (M : Mode) (D : (n : N) → Value n
    → List Token → List Token → Type 0) (rec rec' : (n : N) → List Token → Outcome (Value n))
    → ((n : N) (v : Value n) (xs ys : List Token) → D n v xs ys → Begins (T.empty n) (T.first n) xs ys)
    → ((n : N) → IsSound (D n) (rec n)) → ((n : N) → GoesOn (rec n)) → ((n : N) → IsNear (rec n) (rec' n))
    → {A : Type 0} (g : Grammar N Value A) → decides T g ≡ true
    → IsNear (run T M rec g) (run T unchecked rec' g)
near T M D rec rec' B S G H (empty a) l t us zs p = near_ok t us zs p a a
near T M D rec rec' B S G H (token s) l t us zs [] = near_pick t us zs (is_among t.class s)
    (is_among t.class s) (ok t us) (stuck (t ∷ us)) (ok t zs) (stuck (t ∷ zs)) refl
    (inl (le_refl _)) (inr ([], refl, refl))
near T M D rec rec' B S G H (token s) l t us zs (x ∷ p) = near_pick t us zs (is_among x.class s)
    (is_among x.class s) _ _ _ _ refl (near_ok t us zs p x x) (inr (x ∷ p, refl, refl))
near T M D rec rec' B S G H (sequence {A} {B = C} g h) l t us zs p =
    let l' = and_true _ _ (and_true _ _ l).0 in
    near_bind t us zs (λ a w. Unit {0}) (run T M rec g (p ++ (t ∷ us)))
    (run T unchecked rec' g (p ++ (t ∷ zs))) _ _ (near T M D rec rec' B S G H g l'.0 t us zs p) (any_ok _)
    (λ a w. at_most_bind (length w) (run T M rec h w) _ (goes T M rec G h w) (λ b vs. le_refl _))
    (λ a a' q u. near_bind t us zs (λ b w. Unit {0}) (run T M rec h (q ++ (t ∷ us)))
    (run T unchecked rec' h (q ++ (t ∷ zs))) (λ b vs. ok (a, b) vs) (λ b vs. ok (a', b) vs)
    (near T M D rec rec' B S G H h l'.1 t us zs q) (any_ok _)
    (λ b w. le_refl _) (λ b b' q' u'. near_ok {A = A × C} {B = A × C} t us zs q' (a, b) (a', b')))
near T M D rec rec' B S G H (choice g h) l t us zs p =
    let l' = and_true _ _ (and_true _ _ l).0 in
    near_pick t us zs (chooses (first T g) (p ++ (t ∷ us)))
    (chooses (first T g) (p ++ (t ∷ zs))) _ _ _ _ (same_choice (first T g) t us zs p)
    (near T M D rec rec' B S G H g l'.0 t us zs p) (near T M D rec rec' B S G H h l'.1 t us zs p)
near T M D rec rec' B S G H (mapped f g) l t us zs p =
    near_bind t us zs (λ a w. Unit {0}) (run T M rec g (p ++ (t ∷ us)))
    (run T unchecked rec' g (p ++ (t ∷ zs))) _ _ (near T M D rec rec' B S G H g l t us zs p)
    (any_ok _) (λ a w. le_refl _)
    (λ a a' q u. near_ok t us zs q (f a) (f a'))
near T M D rec rec' B S G H (node f g) l t us zs p =
    near_bind t us zs (λ a w. Unit {0}) (run T M rec g (p ++ (t ∷ us)))
    (run T unchecked rec' g (p ++ (t ∷ zs))) _ _ (near T M D rec rec' B S G H g l t us zs p)
    (any_ok _) (λ a w. le_refl _)
    (λ a a' q u. near_ok t us zs q (f a (span_between (p ++ (t ∷ us)) (q ++ (t ∷ us))))
    (f a' (span_between (p ++ (t ∷ zs)) (q ++ (t ∷ zs)))))
near T M D rec rec' B S G H (checked f g) l t us zs p =
    near_bind t us zs (λ a w. Unit {0}) (run T M rec g (p ++ (t ∷ us)))
    (run T unchecked rec' g (p ++ (t ∷ zs))) _ _ (near T M D rec rec' B S G H g l t us zs p) (any_ok _)
    (λ a w. at_most_judge (found M (f a (span_between (p ++ (t ∷ us)) w))) a w)
    (λ a a' q u. near_judge t us zs q (found M (f a (span_between (p ++ (t ∷ us)) (q ++ (t ∷ us))))) a a')
near T M D rec rec' B S G H (symbol n) l t us zs p = H n t us zs p
near T M D rec rec' B S G H (left_chain {A} {B = C} f g h) l t us zs p =
    let l' = and_true _ _ (and_true _ _ l).0 in
    near_bind t us zs (λ a w. Unit {0}) (run T M rec g (p ++ (t ∷ us)))
    (run T unchecked rec' g (p ++ (t ∷ zs))) _ _ (near T M D rec rec' B S G H g l'.0 t us zs p) (any_ok _)
    (λ a w. goes_loop f (first T h) (run T M rec h) (p ++ (t ∷ us)) (goes T M rec G h) (length w) a w)
    (λ a a' q u. near_loop f (first T h) (run T M rec h) (run T unchecked rec' h) (goes T M rec G h)
    (item_eats T M D rec B S f g h l) (near T M D rec rec' B S G H h l'.1)
    t us zs (p ++ (t ∷ us)) (p ++ (t ∷ zs)) (length (q ++ (t ∷ us))) (length (q ++ (t ∷ zs))) a a' q (le_refl _))

pub near_read : {N : Type 0} {Value : N → Type 0} (T : Tables N) (M : Mode) (body : (n : N) → Grammar N Value (Value n))
    → Sane T body → (k : ℕ) (n : N) → IsNear (read T M body k n) (read T unchecked body k n)
near_read T M body s zero n t us zs p = tt
near_read T M body s (suc k) n t us zs p =
    near T M (Within M body k) (read T M body k) (read T unchecked body k)
    (begins_within T M body s k) (sound_within T M body k) (goes_read T M body k)
    (near_read T M body s k) (body n) (s.one n) t us zs p

-- ---- one list: without checks the reader goes the same way, and no less far
abbrev pub Follows : {A : Type 0} → Outcome A → Outcome A → Type 0
Follows (ok a r) m = m ≡ ok a r
Follows (stuck r) m = m ≡ stuck r
Follows (bad x r) m = AtMost (length r) m
Follows out m = m ≡ out

follows_bind : {A B : Type 0} (m m' : Outcome A) (f f' : A → List Token → Outcome B) → Follows m m'
    → ((a : A) (r : List Token) → AtMost (length r) (f' a r))
    → ((a : A) (r : List Token) → Follows (f a r) (f' a r)) → Follows (bind m f) (bind m' f')
follows_bind (ok a r) m' f f' e g h = subst (λ (x : Outcome _). Follows (f a r) (bind x f')) (sym e) (h a r)
follows_bind (stuck r) m' f f' e g h = ap (λ (x : Outcome _). bind x f') e
follows_bind (bad x r) m' f f' e g h = at_most_bind (length r) m' f' e g
follows_bind out m' f f' e g h = ap (λ (x : Outcome _). bind x f') e

follows_pick : {A : Type 0} (b : Bool) (x y x' y' : Outcome A) → Follows x x' → Follows y y'
    → Follows (pick b x y) (pick b x' y')
follows_pick true x y x' y' p q = p
follows_pick false x y x' y' p q = q

follows_token : (s : List ℕ) (ts : List Token) → Follows (take_token s ts) (take_token s ts)
follows_token s [] = refl
follows_token s (t ∷ ts) = follows_pick (is_among t.class s) (ok t ts) (stuck (t ∷ ts)) _ _ refl refl

follows_judge : {A : Type 0} (x : Option Fault) (a : A) (us : List Token) → Follows (judge x a us) (ok a us)
follows_judge None a us = refl
follows_judge (Some x) a us = le_refl _

follows_loop : {A B : Type 0} (f : A → B → Span → A) (s : List ℕ) (r r' : List Token → Outcome B)
    (start : List Token) → GoesOn r' → ((ts : List Token) → Follows (r ts) (r' ts))
    → (k : ℕ) (a : A) (us : List Token) → Follows (loop f s r start k a us) (loop f s r' start k a us)
follows_loop f s r r' start G H zero a us = follows_pick (chooses s us) _ _ _ _ refl refl
follows_loop f s r r' start G H (suc k) a us =
    follows_pick (chooses s us) _ _ _ _ (follows_bind (r us) (r' us) _ _ (H us)
    (λ b vs. goes_loop f s r' start G k (f a b (span_between start vs)) vs)
    (λ b vs. follows_loop f s r r' start G H k (f a b (span_between start vs)) vs)) refl

pub follows : {N : Type 0} {Value : N → Type 0} (T : Tables N) (M : Mode)
    (rec rec' : (n : N) → List Token → Outcome (Value n)) → ((n : N) → GoesOn (rec' n))
    → ((n : N) (ts : List Token) → Follows (rec n ts) (rec' n ts))
    → {A : Type 0} (g : Grammar N Value A) (ts : List Token)
    → Follows (run T M rec g ts) (run T unchecked rec' g ts)
follows T M rec rec' G H (empty a) ts = refl
follows T M rec rec' G H (token s) ts = follows_token s ts
follows T M rec rec' G H (sequence g h) ts = follows_bind (run T M rec g ts)
    (run T unchecked rec' g ts) _ _ (follows T M rec rec' G H g ts)
    (λ a us. at_most_bind (length us) (run T unchecked rec' h us) _ (goes T unchecked rec' G h us) (λ b vs. le_refl _))
    (λ a us. follows_bind (run T M rec h us) (run T unchecked rec' h us) (λ b vs. ok (a, b) vs)
    (λ b vs. ok (a, b) vs) (follows T M rec rec' G H h us) (λ b vs. le_refl _) (λ b vs. refl))
follows T M rec rec' G H (choice g h) ts = follows_pick (chooses (first T g) ts) _ _ _ _
    (follows T M rec rec' G H g ts) (follows T M rec rec' G H h ts)
follows T M rec rec' G H (mapped f g) ts = follows_bind (run T M rec g ts)
    (run T unchecked rec' g ts) _ _ (follows T M rec rec' G H g ts) (λ a us. le_refl _) (λ a us. refl)
follows T M rec rec' G H (node f g) ts = follows_bind (run T M rec g ts) (run T unchecked rec' g ts)
    _ _ (follows T M rec rec' G H g ts) (λ a us. le_refl _) (λ a us. refl)
follows T M rec rec' G H (checked f g) ts = follows_bind (run T M rec g ts)
    (run T unchecked rec' g ts) _ _ (follows T M rec rec' G H g ts) (λ a us. le_refl _)
    (λ a us. follows_judge (found M (f a (span_between ts us))) a us)
follows T M rec rec' G H (symbol n) ts = H n ts
follows T M rec rec' G H (left_chain f g h) ts = follows_bind (run T M rec g ts)
    (run T unchecked rec' g ts) _ _ (follows T M rec rec' G H g ts)
    (λ a us. goes_loop f (first T h) (run T unchecked rec' h) ts (goes T unchecked rec' G h) (length us) a us)
    (λ a us. follows_loop f (first T h) (run T M rec h) (run T unchecked rec' h) ts
    (goes T unchecked rec' G h) (follows T M rec rec' G H h) (length us) a us)

pub follows_read : {N : Type 0} {Value : N → Type 0} (T : Tables N) (M : Mode)
    (body : (n : N) → Grammar N Value (Value n)) (k : ℕ) (n : N) (ts : List Token)
    → Follows (read T M body k n ts) (read T unchecked body k n ts)
follows_read T M body zero n ts = refl
follows_read T M body (suc k) n ts = follows T M (read T M body k) (read T unchecked body k)
    (goes_read T unchecked body k) (follows_read T M body k) (body n) ts
