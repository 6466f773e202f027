-- What is read is derived.
use Rattle.std.proofs.Common.{◌≡◌, ℕ, zero, suc, Bool, true, false, List, [], ◌∷◌, length, inl, inr, refl, subst}
use Rattle.std.specs.Prelude.{Option, Some, None}
use Rattle.grammar.specs.Tokens.{Token, Span, Fault, span_between}
use Rattle.grammar.specs.Grammar.{is_among, Grammar, Grammar.empty, Grammar.token, Grammar.sequence, Grammar.choice, Grammar.mapped, Grammar.node, Grammar.checked, Grammar.symbol, Grammar.left_chain, Mode, found, Chain, Chain.base, Chain.more, Means, Within, Part}
use Rattle.grammar.specs.Tables.{Tables, first}
use Rattle.grammar.specs.Reading.{Outcome, Outcome.ok, Outcome.stuck, Outcome.bad, Outcome.out, bind, judge, chooses, loop, run, read}
use Rattle.grammar.proofs.Reading.Beginnings.{pick}

-- what is true where a reader takes a value
abbrev pub OfOk : {A : Type 0} → (A → List Token → Type 0) → Outcome A → Type 0
OfOk P (ok a us) = P a us
OfOk P (stuck us) = Unit {0}
OfOk P (bad x us) = Unit {0}
OfOk P out = Unit {0}

pub of_bind : {A B : Type 0} (P : A → List Token → Type 0) (Q : B → List Token → Type 0)
    (m : Outcome A) (f : A → List Token → Outcome B)
    → OfOk P m → ((a : A) (us : List Token) → P a us → OfOk Q (f a us)) → OfOk Q (bind m f)
of_bind P Q (ok a us) f p h = h a us p
of_bind P Q (stuck us) f p h = tt
of_bind P Q (bad x us) f p h = tt
of_bind P Q out f p h = tt

pub of_pick : {A : Type 0} (P : A → List Token → Type 0) (b : Bool) (x y : Outcome A)
    → (b ≡ true → OfOk P x) → (b ≡ false → OfOk P y) → OfOk P (pick b x y)
of_pick P true x y p q = p refl
of_pick P false x y p q = q refl

pub of_map : {A : Type 0} (P Q : A → List Token → Type 0) (m : Outcome A) → OfOk P m
    → ((a : A) (us : List Token) → P a us → Q a us) → OfOk Q m
of_map P Q (ok a us) p h = h a us p
of_map P Q (stuck us) p h = tt
of_map P Q (bad x us) p h = tt
of_map P Q out p h = tt

pub of_ok : {A : Type 0} (P : A → List Token → Type 0) (m : Outcome A) (v : A) (us : List Token)
    → OfOk P m → m ≡ ok v us → P v us
of_ok P m v us p e = subst (OfOk P) e p

of_judge : {A : Type 0} (Q : A → List Token → Type 0) (x : Option Fault) (a : A) (us : List Token)
    → (x ≡ None → Q a us) → OfOk Q (judge x a us)
of_judge Q None a us h = h refl
of_judge Q (Some x) a us h = tt

-- what is read is derived
abbrev pub IsSound : {A : Type 0} (P : A → List Token → List Token → Type 0) → (List Token → Outcome A) → Type 0
IsSound P r = (ts : List Token) → OfOk (λ v us. P v ts us) (r ts)

sound_loop : {A B : Type 0} (f : A → B → Span → A) (s : List ℕ) (r : List Token → Outcome B)
    (P : A → List Token → List Token → Type 0) (Q : B → List Token → List Token → Type 0)
    → IsSound Q r → (k : ℕ) (start : List Token) (a : A) (us : List Token) → Chain f P Q start a us
    → OfOk (λ v rest. Chain f P Q start v rest) (loop f s r start k a us)
sound_loop f s r P Q H zero start a us t = of_pick (λ v rest. Chain f P Q start v rest)
    (chooses s us) out (ok a us) (λ e. tt) (λ e. t)
sound_loop f s r P Q H (suc k) start a us t =
    of_pick (λ v rest. Chain f P Q start v rest) (chooses s us) _ (ok a us)
    (λ e. of_bind (λ b vs. Q b us vs) (λ v rest. Chain f P Q start v rest) (r us) _ (H us)
    (λ b vs q. sound_loop f s r P Q H k start (f a b (span_between start vs)) vs (more a b us vs t q)))
    (λ e. t)

pub sound : {N : Type 0} {Value : N → Type 0} (T : Tables N) (M : Mode) (D : (n : N) → Value n
    → List Token → List Token → Type 0) (rec : (n : N) → List Token → Outcome (Value n))
    → ((n : N) → IsSound (D n) (rec n))
    → {A : Type 0} (g : Grammar N Value A) → IsSound (Means M D g) (run T M rec g)
sound T M D rec H (empty a) ts = (refl, refl)
sound T M D rec H (token s) [] = tt
sound T M D rec H (token s) (t ∷ ts) = of_pick (λ v us. Means M D (token s) v (t ∷ ts) us)
    (is_among t.class s) (ok t ts) (stuck (t ∷ ts)) (λ e. (e, refl)) (λ e. tt)
sound T M D rec H (sequence {A} {B = C} g h) ts =
    of_bind (λ a us. Means M D g a ts us) (λ v us. Means M D (sequence g h) v ts us)
    (run T M rec g ts) _ (sound T M D rec H g ts)
    (λ a us p. of_bind (λ b vs. Means M D h b us vs) (λ v vs. Means M D (sequence g h) v ts vs)
    (run T M rec h us) (λ b vs. ok (a, b) vs) (sound T M D rec H h us) (λ b vs q. (us, p, q)))
sound T M D rec H (choice g h) ts =
    of_pick (λ v us. Means M D (choice g h) v ts us) (chooses (first T g) ts) (run T M rec g ts)
    (run T M rec h ts)
    (λ e. of_map (λ v us. Means M D g v ts us) (λ v us. Means M D (choice g h) v ts us)
    (run T M rec g ts) (sound T M D rec H g ts) (λ a us p. inl p))
    (λ e. of_map (λ v us. Means M D h v ts us) (λ v us. Means M D (choice g h) v ts us)
    (run T M rec h ts) (sound T M D rec H h ts) (λ a us p. inr p))
sound T M D rec H (mapped f g) ts =
    of_bind (λ a us. Means M D g a ts us) (λ v us. Means M D (mapped f g) v ts us)
    (run T M rec g ts) _ (sound T M D rec H g ts) (λ a us p. (a, refl, p))
sound T M D rec H (node f g) ts =
    of_bind (λ a us. Means M D g a ts us) (λ v us. Means M D (node f g) v ts us)
    (run T M rec g ts) _ (sound T M D rec H g ts) (λ a us p. (a, refl, p))
sound T M D rec H (checked f g) ts =
    of_bind (λ a us. Means M D g a ts us) (λ v us. Means M D (checked f g) v ts us)
    (run T M rec g ts) _ (sound T M D rec H g ts)
    (λ a us p. of_judge (λ v vs. Means M D (checked f g) v ts vs)
    (found M (f a (span_between ts us))) a us (λ e. (e, p)))
sound T M D rec H (symbol n) ts = H n ts
sound T M D rec H (left_chain f g h) ts =
    of_bind (λ a us. Means M D g a ts us) (λ v us. Chain f (Means M D g) (Means M D h) ts v us)
    (run T M rec g ts) _ (sound T M D rec H g ts)
    (λ a us p. sound_loop f (first T h) (run T M rec h) (Means M D g) (Means M D h)
    (sound T M D rec H h) (length us) ts a us (base a us p))

pub sound_within : {N : Type 0} {Value : N → Type 0} (T : Tables N) (M : Mode) (body : (n : N)
    → Grammar N Value (Value n)) (k : ℕ) (n : N) → IsSound (Within M body k n) (read T M body k n)
sound_within T M body zero n ts = tt
sound_within T M body (suc k) n ts = sound T M (Within M body k) (read T M body k) (sound_within T M body k) (body n) ts

pub sound_read : {N : Type 0} {Value : N → Type 0} (T : Tables N) (M : Mode) (body : (n : N)
    → Grammar N Value (Value n)) (k : ℕ) (n : N) → IsSound (Part M body n) (read T M body k n)
sound_read T M body k n ts = of_map (λ v us. Within M body k n v ts us) (λ v us. Part M body n v ts us)
    (read T M body k n ts) (sound_within T M body k n ts) (λ a us p. (k, p))
