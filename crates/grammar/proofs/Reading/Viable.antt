-- Where a reader stops, a sentence begins with what it has read.
use Rattle.std.proofs.Common.{◌≡◌, ℕ, zero, suc, Bool, true, false, eqb, List, [], ◌∷◌, ◌++◌, length, inl, inr, refl, sym, ap, subst, ◌∙◌, append_assoc, append-nil, eq-eqb}
use Rattle.std.specs.Prelude.{Option, Some, None}
use Rattle.grammar.specs.Tokens.{Token, Span, Fault, Payload.nothing, span_of, span_between}
use Rattle.grammar.specs.Grammar.{is_among, Grammar, Grammar.empty, Grammar.token, Grammar.sequence, Grammar.choice, Grammar.mapped, Grammar.node, Grammar.checked, Grammar.symbol, Grammar.left_chain, Mode, Mode.unchecked, found, Chain.base, Means, Part, IsSentence}
use Rattle.grammar.specs.Tables.{Tables, first, is_empty, decides}
use Rattle.grammar.specs.Reading.{Outcome, Outcome.ok, Outcome.stuck, Outcome.bad, Outcome.out, bind, judge, chooses, loop, run, read}
use Rattle.grammar.proofs.Reading.Sets.{and_true, not_true}
use Rattle.grammar.proofs.Reading.Beginnings.{cond_yes, pick, Sane}
use Rattle.grammar.proofs.Reading.Sound.{OfOk, of_map, IsSound, sound, sound_read}
use Rattle.grammar.proofs.Reading.Depth.{Kept, means_mono, no_checks, roll, loosen}
use Rattle.grammar.proofs.Reading.Frame.{span_append, Word, Framed, ChainOf, framed, framed_part, joined, word_more, word_sequence, word_mapped, word_node, derived_word}

-- what is true where a reader stops, at a token or at a check
abbrev pub OfStop : {A : Type 0} → (List Token → Type 0) → Outcome A → Type 0
OfStop P (ok a us) = Unit {0}
OfStop P (stuck us) = P us
OfStop P (bad x us) = P us
OfStop P out = Unit {0}

stop_bind : {A B : Type 0} (P : A → List Token → Type 0) (Q Q' : List Token → Type 0)
    (m : Outcome A) (f : A → List Token → Outcome B)
    → OfStop Q m → ((us : List Token) → Q us → Q' us) → OfOk P m
    → ((a : A) (us : List Token) → P a us → OfStop Q' (f a us)) → OfStop Q' (bind m f)
stop_bind P Q Q' (ok a us) f s w p h = h a us p
stop_bind P Q Q' (stuck us) f s w p h = w us s
stop_bind P Q Q' (bad x us) f s w p h = w us s
stop_bind P Q Q' out f s w p h = tt

stop_map : {A : Type 0} (Q Q' : List Token → Type 0) (m : Outcome A) → OfStop Q m
    → ((us : List Token) → Q us → Q' us) → OfStop Q' m
stop_map Q Q' (ok a us) s w = tt
stop_map Q Q' (stuck us) s w = w us s
stop_map Q Q' (bad x us) s w = w us s
stop_map Q Q' out s w = tt

stop_pick : {A : Type 0} (Q : List Token → Type 0) (b : Bool) (x y : Outcome A) → OfStop Q x
    → OfStop Q y → OfStop Q (pick b x y)
stop_pick Q true x y p q = p
stop_pick Q false x y p q = q

pub of_stuck : {A : Type 0} (P : List Token → Type 0) (m : Outcome A) (us : List Token) → OfStop P m
    → m ≡ stuck us → P us
of_stuck P m us p e = subst (OfStop P) e p

pub of_bad : {A : Type 0} (P : List Token → Type 0) (m : Outcome A) (x : Fault) (us : List Token)
    → OfStop P m → m ≡ bad x us → P us
of_bad P m x us p e = subst (OfStop P) e p

-- what lies before us begins a word
abbrev pub Began : {A : Type 0} → (A → List Token → List Token → Type 0) → List Token → List Token → Type 0
Began {A} P ts us = (p z : List Token) × (v : A) × (ts ≡ p ++ us) × Word P v (p ++ z)

abbrev pub HasWord : {A : Type 0} → (A → List Token → List Token → Type 0) → Type 0
HasWord {A} P = (v : A) × (p : List Token) × Word P v p

abbrev a_token : ℕ → Token
a_token c = record { class = c; payload = nothing; start = 0; end = 0 }

token_word : {N : Type 0} {Value : N → Type 0} (E : (n : N) → Value n → List Token → List Token
    → Type 0) (s : List ℕ) → is_empty s ≡ false → HasWord (Means unchecked E (token s))
token_word E [] l = absurd cc
token_word E (c ∷ s) l =
    (a_token c, a_token c ∷ [], λ ys. (cond_yes (eqb c c) true (is_among c s) (eq-eqb c c refl), refl))

pub some_word : {N : Type 0} {Value : N → Type 0} (T : Tables N)
    (E : (n : N) → Value n → List Token → List Token → Type 0) → ((n : N) → HasWord (E n))
    → {A : Type 0} (g : Grammar N Value A) → decides T g ≡ true → HasWord (Means unchecked E g)
some_word T E W (empty a) l = (a, [], λ ys. (refl, refl))
some_word T E W (token s) l = token_word E s (not_true (is_empty s) l)
some_word T E W (sequence g h) l =
    let l' = and_true _ _ (and_true _ _ l).0 in
    let x = some_word T E W g l'.0 in let y = some_word T E W h l'.1 in
    ((x.0, y.0), x.1 ++ y.1, word_sequence unchecked E g h x.0 y.0 x.1 y.1 x.2 y.2)
some_word T E W (choice g h) l =
    let x = some_word T E W g (and_true _ _ (and_true _ _ l).0).0 in (x.0, x.1, λ ys. inl (x.2 ys))
some_word T E W (mapped f g) l = let x = some_word T E W g l in (f x.0, x.1, word_mapped unchecked E f g x.0 x.1 x.2)
some_word T E W (node f g) l =
    let x = some_word T E W g l in (f x.0 (span_of x.1), x.1, word_node unchecked E f g x.0 x.1 x.2)
some_word T E W (checked f g) l = let x = some_word T E W g l in (x.0, x.1, λ ys. (refl, x.2 ys))
some_word T E W (symbol n) l = W n
some_word T E W (left_chain f g h) l =
    let x = some_word T E W g (and_true _ _ (and_true _ _ l).0).0 in (x.0, x.1, λ ys. base x.0 ys (x.2 ys))

-- before a further part
began_first : {N : Type 0} {Value : N → Type 0} (E : (n : N) → Value n → List Token → List Token → Type 0)
    {A B : Type 0} (g : Grammar N Value A) (h : Grammar N Value B) → HasWord (Means unchecked E h)
    → (ts us : List Token) → Began (Means unchecked E g) ts us
    → Began (Means unchecked E (sequence g h)) ts us
began_first E g h (b, q, wq) ts us (p, z, v, e, w) = (
  p,
  z ++ q,
  (v, b),
  e,
  subst (Word (Means unchecked E (sequence g h)) (v, b)) (append_assoc p z q)
      (word_sequence unchecked E g h v b (p ++ z) q w wq),
)

-- after a part
began_second : {N : Type 0} {Value : N → Type 0} (E : (n : N) → Value n → List Token → List Token → Type 0)
    {A B : Type 0} (g : Grammar N Value A) (h : Grammar N Value B) → ((n : N) → Framed (E n))
    → (a : A) (ts ms us : List Token) → Means unchecked E g a ts ms
    → Began (Means unchecked E h) ms us → Began (Means unchecked E (sequence g h)) ts us
began_second E g h F a ts ms us d (p, z, v, e, w) =
    let x = framed unchecked E F g a ts ms d in (
      x.0 ++ p,
      z,
      (a, v),
      joined x.0 p ts ms us x.1 e,
      subst (Word (Means unchecked E (sequence g h)) (a, v)) (sym (append_assoc x.0 p z))
          (word_sequence unchecked E g h a v x.0 (p ++ z) x.2 w),
    )

began_more : {A B : Type 0} (f : A → B → Span → A) (P : A → List Token → List Token → Type 0)
    (Q : B → List Token → List Token → Type 0) (a : A) (p0 ts ms us : List Token)
    → ts ≡ p0 ++ ms → Word (ChainOf f P Q) a p0 → Began Q ms us → Began (ChainOf f P Q) ts us
began_more f P Q a p0 ts ms us e0 w0 (p, z, v, e, w) = (
  p0 ++ p,
  z,
  f a v (span_of (p0 ++ (p ++ z))),
  joined p0 p ts ms us e0 e,
  subst (Word (ChainOf f P Q) (f a v (span_of (p0 ++ (p ++ z))))) (sym (append_assoc p0 p z))
      (word_more f P Q a v p0 (p ++ z) w0 w),
)

-- where a reader stops, what it has read begins a word
abbrev pub IsTrueStop : {A : Type 0} (P : A → List Token → List Token → Type 0) → (List Token → Outcome A) → Type 0
IsTrueStop P r = (ts : List Token) → OfStop (Began P ts) (r ts)

viable_loop : {A B : Type 0} (f : A → B → Span → A) (s : List ℕ) (r : List Token → Outcome B)
    (P : A → List Token → List Token → Type 0) (Q : B → List Token → List Token → Type 0)
    → IsSound Q r → Framed Q → IsTrueStop Q r
    → (k : ℕ) (start : List Token) (a : A) (us p : List Token) → start ≡ p ++ us
    → Word (ChainOf f P Q) a p → OfStop (Began (ChainOf f P Q) start) (loop f s r start k a us)
viable_loop f s r P Q S F H zero start a us p e w = stop_pick (Began (ChainOf f P Q) start)
    (chooses s us) out (ok a us) tt tt
viable_loop f s r P Q S F H (suc k) start a us p e w =
    stop_pick (Began (ChainOf f P Q) start) (chooses s us) _ (ok a us)
    (stop_bind (λ b vs. Q b us vs) (Began Q us) (Began (ChainOf f P Q) start) (r us) _ (H us)
    (λ vs b. began_more f P Q a p start us vs e w b) (S us)
    (λ b vs q. let x = F b us vs q in
    let whole = joined p x.0 start us vs e x.1 in
    viable_loop f s r P Q S F H k start (f a b (span_between start vs)) vs (p ++ x.0) whole
    (subst (λ (z : Span). Word (ChainOf f P Q) (f a b z) (p ++ x.0))
    (sym (span_whole start vs (p ++ x.0) whole)) (word_more f P Q a b p x.0 w x.2))))
    tt
  where
    span_whole : (xs ys q : List Token) → xs ≡ q ++ ys → span_between xs ys ≡ span_of q
    span_whole xs ys q e = ap (λ (z : List Token). span_between z ys) e ∙ span_append q ys

pub viable : {N : Type 0} {Value : N → Type 0} (T : Tables N) (M : Mode) (D E : (n : N) → Value n
    → List Token → List Token → Type 0) (rec : (n : N) → List Token → Outcome (Value n))
    → ((n : N) → Kept (D n) (E n)) → ((n : N) → Framed (E n)) → ((n : N) → HasWord (E n))
    → ((n : N) → IsSound (D n) (rec n)) → ((n : N) → IsTrueStop (E n) (rec n))
    → {A : Type 0} (g : Grammar N Value A) → decides T g ≡ true
    → IsTrueStop (Means unchecked E g) (run T M rec g)
viable T M D E rec K F W S H (empty a) l ts = tt
viable T M D E rec K F W S H (token s) l [] = let w = some_word T E W (token s) l in ([], w.1, w.0, refl, w.2)
viable T M D E rec K F W S H (token s) l (t ∷ ts) = stop_pick _ (is_among t.class s) (ok t ts)
    (stuck (t ∷ ts)) tt (let w = some_word T E W (token s) l in ([], w.1, w.0, refl, w.2))
viable T M D E rec K F W S H (sequence {A} {B = C} g h) l ts =
    let l' = and_true _ _ (and_true _ _ l).0 in
    stop_bind (λ a us. Means M D g a ts us) (Began (Means unchecked E g) ts)
    (Began (Means unchecked E (sequence g h)) ts) (run T M rec g ts) _
    (viable T M D E rec K F W S H g l'.0 ts)
    (λ us b. began_first E g h (some_word T E W h l'.1) ts us b) (sound T M D rec S g ts)
    (λ a us d. stop_bind (λ b vs. Means M D h b us vs) (Began (Means unchecked E h) us)
    (Began (Means unchecked E (sequence g h)) ts) (run T M rec h us) (λ b vs. ok (a, b) vs)
    (viable T M D E rec K F W S H h l'.1 us)
    (λ vs b. began_second E g h F a ts us vs (means_mono M unchecked (no_checks M) D E K g a ts us d) b)
    (sound T M D rec S h us) (λ b vs q. tt))
viable T M D E rec K F W S H (choice g h) l ts =
    let l' = and_true _ _ (and_true _ _ l).0 in
    stop_pick (Began (Means unchecked E (choice g h)) ts) (chooses (first T g) ts)
    (run T M rec g ts) (run T M rec h ts)
    (stop_map (Began (Means unchecked E g) ts) (Began (Means unchecked E (choice g h)) ts) (run T M rec g ts)
    (viable T M D E rec K F W S H g l'.0 ts) (λ us b. (b.0, b.1, b.2, b.3, λ ys. inl (b.4 ys))))
    (stop_map (Began (Means unchecked E h) ts) (Began (Means unchecked E (choice g h)) ts) (run T M rec h ts)
    (viable T M D E rec K F W S H h l'.1 ts) (λ us b. (b.0, b.1, b.2, b.3, λ ys. inr (b.4 ys))))
viable T M D E rec K F W S H (mapped f g) l ts =
    stop_bind (λ a us. Means M D g a ts us) (Began (Means unchecked E g) ts)
    (Began (Means unchecked E (mapped f g)) ts) (run T M rec g ts) _ (viable T M D E rec K F W S H g l ts)
    (λ us b. (b.0, b.1, f b.2, b.3, word_mapped unchecked E f g b.2 (b.0 ++ b.1) b.4))
    (sound T M D rec S g ts) (λ a us d. tt)
viable T M D E rec K F W S H (node f g) l ts =
    stop_bind (λ a us. Means M D g a ts us) (Began (Means unchecked E g) ts)
    (Began (Means unchecked E (node f g)) ts) (run T M rec g ts) _ (viable T M D E rec K F W S H g l ts)
    (λ us b. (b.0, b.1, f b.2 (span_of (b.0 ++ b.1)), b.3, word_node unchecked E f g b.2 (b.0 ++ b.1) b.4))
    (sound T M D rec S g ts) (λ a us d. tt)
viable T M D E rec K F W S H (checked f g) l ts =
    stop_bind (λ a us. Means M D g a ts us) (Began (Means unchecked E g) ts)
    (Began (Means unchecked E (checked f g)) ts) (run T M rec g ts) _ (viable T M D E rec K F W S H g l ts)
    (λ us b. (b.0, b.1, b.2, b.3, λ ys. (refl, b.4 ys))) (sound T M D rec S g ts)
    (λ a us d. judged (found M (f a (span_between ts us))) a us
    (framed unchecked E F g a ts us (means_mono M unchecked (no_checks M) D E K g a ts us d)))
  where
    judged : (x : Option Fault) (a : _) (us : List Token)
        → (p : List Token) × (ts ≡ p ++ us) × Word (Means unchecked E g) a p
        → OfStop (Began (Means unchecked E (checked f g)) ts) (judge x a us)
    judged None a us w = tt
    judged (Some x) a us w = (
      w.0,
      [],
      a,
      w.1,
      λ ys. (refl, subst (λ (z : List Token). Means unchecked E g a (z ++ ys) ys) (sym (append-nil w.0)) (w.2 ys)),
    )
viable T M D E rec K F W S H (symbol n) l ts = H n ts
viable T M D E rec K F W S H (left_chain f g h) l ts =
    let l' = and_true _ _ (and_true _ _ l).0 in
    stop_bind (λ a us. Means M D g a ts us) (Began (Means unchecked E g) ts)
    (Began (ChainOf f (Means unchecked E g) (Means unchecked E h)) ts) (run T M rec g ts) _
    (viable T M D E rec K F W S H g l'.0 ts)
    (λ us b. (b.0, b.1, b.2, b.3, λ ys. base b.2 ys (b.4 ys))) (sound T M D rec S g ts)
    (λ a us d. let x = framed unchecked E F g a ts us (means_mono M unchecked (no_checks M) D E K g a ts us d) in
    viable_loop f (first T h) (run T M rec h) (Means unchecked E g) (Means unchecked E h)
    (λ us. of_map (λ v vs. Means M D h v us vs) (λ v vs. Means unchecked E h v us vs) (run T M rec h us)
    (sound T M D rec S h us) (λ b vs q. means_mono M unchecked (no_checks M) D E K h b us vs q))
    (framed unchecked E F h) (viable T M D E rec K F W S H h l'.1) (length us) ts a us x.0 x.1
    (λ ys. base a ys (x.2 ys)))

-- each symbol has a sentence
abbrev pub HasSentences : {N : Type 0} {Value : N → Type 0} (body : (n : N) → Grammar N Value (Value n)) → Type 0
HasSentences {N} body = (n : N) → (ts : List Token) × IsSentence body n ts

pub words : {N : Type 0} {Value : N → Type 0} (body : (n : N) → Grammar N Value (Value n))
    → HasSentences body → (n : N) → HasWord (Part unchecked body n)
words body W n = let w = W n in (w.1.0, w.0, derived_word unchecked body n w.1.0 w.0 w.1.1)

pub viable_read : {N : Type 0} {Value : N → Type 0} (T : Tables N) (M : Mode)
    (body : (n : N) → Grammar N Value (Value n)) → Sane T body → HasSentences body → (k : ℕ) (n : N)
    → IsTrueStop (Part unchecked body n) (read T M body k n)
viable_read T M body s W zero n ts = tt
viable_read T M body s W (suc k) n ts =
    stop_map (Began (Means unchecked (Part unchecked body) (body n)) ts)
    (Began (Part unchecked body n) ts) (read T M body (suc k) n ts)
    (viable T M (Part M body) (Part unchecked body) (read T M body k) (loosen M body) (framed_part unchecked body)
    (words body W) (sound_read T M body k) (viable_read T M body s W k) (body n) (s.one n) ts)
    (λ us b. (b.0, b.1, b.2, b.3, λ ys. roll unchecked body n b.2 ((b.0 ++ b.1) ++ ys) ys (b.4 ys)))
