-- What takes tokens of some classes alone, and what ends with a token of some classes.
use Rattle.std.proofs.Common.{◌≡◌, ℕ, zero, suc, ◌+◌, ◌<◌, Bool, true, false, not, ◌&&◌, ◌||◌, List, [], ◌∷◌, ◌++◌, length, ◌⊎◌, inl, inr, refl, sym, ap, subst, ◌∙◌, append-nil, arith, length-append}
use Rattle.grammar.specs.Tokens.{Token, Span}
use Rattle.grammar.specs.Grammar.{Grammar, Grammar.empty, Grammar.token, Grammar.sequence, Grammar.choice, Grammar.mapped, Grammar.node, Grammar.checked, Grammar.symbol, Grammar.left_chain, Mode, is_among, Chain, Chain.base, Chain.more, Means, Within, Part}
use Rattle.grammar.specs.Tables.{disjoint, subset}
use Rattle.grammar.specs.Endings.{last_class}
use Rattle.grammar.proofs.Reading.Sets.{and_true, either, implied, in_subset, apart}
use Rattle.grammar.proofs.Reading.Depth.{Kept, least}
use Rattle.grammar.proofs.Reading.Frame.{Framed, joined, framed, framed_within}
use Rattle.grammar.proofs.Faults.Anchors.{last_append}
use Rattle.wgsl_theory_grammar.proofs.Forms.Taking.{surely_takes, Shorter, shorter, shorter_within}

-- ---- tokens of some classes
-- what holds of each token
abbrev pub AllOf : (Token → Type 0) → List Token → Type 0
AllOf Q [] = Unit {0}
AllOf Q (t ∷ ts) = Q t × AllOf Q ts

pub all_append : (Q : Token → Type 0) (p q : List Token) → AllOf Q p → AllOf Q q → AllOf Q (p ++ q)
all_append Q [] q n m = m
all_append Q (t ∷ p) q n m = (n.0, all_append Q p q n.1 m)

-- no token of some classes
abbrev pub NoneOf : List ℕ → List Token → Type 0
NoneOf cs = AllOf (λ (t : Token). is_among t.class cs ≡ false)

-- a test of lists of classes, and what holds of each class of those that pass it
pub record ClassTest (Q : ℕ → Type 0) : Type 0 where
  pub test : List ℕ → Bool
  pub passed : (c : ℕ) (s : List ℕ) → test s ≡ true → is_among c s ≡ true → Q c

abbrev pub none_of : (cs : List ℕ) → ClassTest (λ (c : ℕ). is_among c cs ≡ false)
none_of cs = record { test = λ s. disjoint s cs; passed = λ c s e m. apart c s cs e m }

-- a part takes tokens of classes that pass the test alone, where the symbols K do
abbrev pub takes_only : {N : Type 0} {Value : N → Type 0} (test : List ℕ → Bool) (K : N → Bool) {A : Type 0}
    → Grammar N Value A → Bool
takes_only test K (empty a) = true
takes_only test K (token s) = test s
takes_only test K (sequence g h) = takes_only test K g && takes_only test K h
takes_only test K (choice g h) = takes_only test K g && takes_only test K h
takes_only test K (mapped f g) = takes_only test K g
takes_only test K (node f g) = takes_only test K g
takes_only test K (checked f g) = takes_only test K g
takes_only test K (symbol n) = K n
takes_only test K (left_chain f g h) = takes_only test K g && takes_only test K h

abbrev pub TakingOnly : {A : Type 0} → (ℕ → Type 0) → (A → List Token → List Token → Type 0) → Type 0
TakingOnly {A} Q P = (v : A) (xs ys : List Token) → P v xs ys
    → (p : List Token) × (xs ≡ p ++ ys) × AllOf (λ (t : Token). Q t.class) p

only_chain : (Q : ℕ → Type 0) {A B : Type 0} (f : A → B → Span → A) (P : A → List Token → List Token
    → Type 0) (R : B → List Token → List Token → Type 0) → TakingOnly Q P → TakingOnly Q R
    → (xs : List Token) (v : A) (ys : List Token) → Chain f P R xs v ys
    → (p : List Token) × (xs ≡ p ++ ys) × AllOf (λ (t : Token). Q t.class) p
only_chain Q f P R H K xs _ _ (base v ys d) = H v xs ys d
only_chain Q f P R H K xs _ _ (more a b ys zs c d) =
    let w = only_chain Q f P R H K xs a ys c in let u = K b ys zs d in
    (w.0 ++ u.0, joined w.0 u.0 xs ys zs w.1 u.1, all_append (λ (t : Token). Q t.class) w.0 u.0 w.2 u.2)

pub taking_only : {N : Type 0} {Value : N → Type 0} (M : Mode) (D : (n : N) → Value n → List Token
    → List Token → Type 0) {Q : ℕ → Type 0} (T : ClassTest Q) (K : N → Bool)
    → ((n : N) → K n ≡ true → TakingOnly Q (D n))
    → {A : Type 0} (g : Grammar N Value A) → takes_only T.test K g ≡ true → TakingOnly Q (Means M D g)
taking_only M D T K H (empty a) e v xs ys d = ([], d.1, tt)
taking_only M D T K H (token s) e v xs ys d = (v ∷ [], d.1, (T.passed v.class s e d.0, tt))
taking_only M D {Q} T K H (sequence g h) e v xs ys (ms, d, i) =
    let t = and_true (takes_only T.test K g) (takes_only T.test K h) e in
    let w = taking_only M D T K H g t.0 v.0 xs ms d in let u = taking_only M D T K H h t.1 v.1 ms ys i in
    (w.0 ++ u.0, joined w.0 u.0 xs ms ys w.1 u.1, all_append (λ (t : Token). Q t.class) w.0 u.0 w.2 u.2)
taking_only M D T K H (choice g h) e v xs ys (inl d) = taking_only M D T K H g
    (and_true (takes_only T.test K g) (takes_only T.test K h) e).0 v xs ys d
taking_only M D T K H (choice g h) e v xs ys (inr d) = taking_only M D T K H h
    (and_true (takes_only T.test K g) (takes_only T.test K h) e).1 v xs ys d
taking_only M D T K H (mapped f g) e v xs ys d = taking_only M D T K H g e d.0 xs ys d.2
taking_only M D T K H (node f g) e v xs ys d = taking_only M D T K H g e d.0 xs ys d.2
taking_only M D T K H (checked f g) e v xs ys d = taking_only M D T K H g e v xs ys d.1
taking_only M D T K H (symbol n) e v xs ys d = H n e v xs ys d
taking_only M D {Q} T K H (left_chain f g h) e v xs ys d =
    let t = and_true (takes_only T.test K g) (takes_only T.test K h) e in
    only_chain Q f (Means M D g) (Means M D h) (λ a us vs q. taking_only M D T K H g t.0 a us vs q)
    (λ a us vs q. taking_only M D T K H h t.1 a us vs q) xs v ys d

-- what the symbols K derive, where their rules, or rules that derive no less, pass
pub only_part : {N : Type 0} {Value : N → Type 0} (M : Mode)
    (body rule : (n : N) → Grammar N Value (Value n)) {Q : ℕ → Type 0} (T : ClassTest Q) (K : N → Bool)
    → ((D : (n : N) → Value n → List Token → List Token → Type 0) (n : N)
    → Kept (Means M D (body n)) (Means M D (rule n)))
    → ((n : N) → (not (K n) || takes_only T.test K (rule n)) ≡ true) → (n : N) → K n ≡ true
    → TakingOnly Q (Part M body n)
only_part {N} {Value} M body rule {Q} T K R H n e v xs ys d =
    least M body Holds (λ m w us vs i k. taking_only M Holds T K (λ o f x ws zs j. j f) (rule m)
    (implied (K m) (takes_only T.test K (rule m)) (H m) k) w us vs (R Holds m w us vs i)) n v xs ys d e
  where
    Holds : (n : N) → Value n → List Token → List Token → Type 0
    Holds n v xs ys = K n ≡ true → (p : List Token) × (xs ≡ p ++ ys) × AllOf (λ (t : Token). Q t.class) p

-- ---- a last token of some classes
-- nothing, or a list that ends with a token of the classes
abbrev pub EndsWith : List ℕ → List Token → Type 0
EndsWith cs p = (p ≡ []) ⊎ (is_among (last_class 0 p) cs ≡ true)

-- a part ends so, where the symbols K do, and the symbols J surely take a token
abbrev pub ends : {N : Type 0} {Value : N → Type 0} (cs : List ℕ) (K J : N → Bool) {A : Type 0}
    → Grammar N Value A → Bool
ends cs K J (empty a) = true
ends cs K J (token s) = subset s cs
ends cs K J (sequence g h) = ends cs K J h && (surely_takes J h || ends cs K J g)
ends cs K J (choice g h) = ends cs K J g && ends cs K J h
ends cs K J (mapped f g) = ends cs K J g
ends cs K J (node f g) = ends cs K J g
ends cs K J (checked f g) = ends cs K J g
ends cs K J (symbol n) = K n
ends cs K J (left_chain f g h) = ends cs K J g && ends cs K J h

abbrev Ending : {A : Type 0} → List ℕ → (A → List Token → List Token → Type 0) → Type 0
Ending {A} cs P = (v : A) (xs ys : List Token) → P v xs ys → (p : List Token) × (xs ≡ p ++ ys) × EndsWith cs p

-- after a list of which nothing is asked, an end that takes a token
ends_after : (cs : List ℕ) (p q : List Token) → EndsWith cs q → (q ≡ [] → ⊥) → EndsWith cs (p ++ q)
ends_after cs p [] e n = absurd (n refl)
ends_after cs p (t ∷ q) (inl e) n = absurd (n e)
ends_after cs p (t ∷ q) (inr e) n = inr (ap (λ (z : ℕ). is_among z cs) (last_append 0 p (t ∷ q)) ∙ e)

ends_append : (cs : List ℕ) (p q : List Token) → EndsWith cs p → EndsWith cs q → EndsWith cs (p ++ q)
ends_append cs p [] d e = subst (EndsWith cs) (sym (append-nil p)) d
ends_append cs p (t ∷ q) d e = ends_after cs p (t ∷ q) e (λ z. cc)

not_empty : (q ms ys : List Token) → ms ≡ q ++ ys → length ys < length ms → q ≡ [] → ⊥
not_empty q ms ys w l e =
    let a : length ms ≡ length q + length ys = ap (λ (z : List Token). length z) w ∙ length-append q ys in
    let b : length q ≡ 0 = ap (λ (z : List Token). length z) e in
    absurd (omega (arith, a, b, l))

ending_chain : (cs : List ℕ) {A B : Type 0} (f : A → B → Span → A) (P : A → List Token → List Token
    → Type 0) (Q : B → List Token → List Token → Type 0) → Ending cs P → Ending cs Q
    → (xs : List Token) (v : A) (ys : List Token) → Chain f P Q xs v ys
    → (p : List Token) × (xs ≡ p ++ ys) × EndsWith cs p
ending_chain cs f P Q H K xs _ _ (base v ys d) = H v xs ys d
ending_chain cs f P Q H K xs _ _ (more a b ys zs c d) =
    let w = ending_chain cs f P Q H K xs a ys c in let u = K b ys zs d in
    (w.0 ++ u.0, joined w.0 u.0 xs ys zs w.1 u.1, ends_append cs w.0 u.0 w.2 u.2)

-- what is known of the symbols
record Known {N : Type 0} {Value : N → Type 0} (D : (n : N) → Value n → List Token → List Token → Type 0)
    (cs : List ℕ) (K J : N → Bool) : Type 0 where
  pub frames : (n : N) → Framed (D n)
  pub takes : (n : N) → J n ≡ true → Shorter (D n)
  pub end_so : (n : N) → K n ≡ true → Ending cs (D n)

ending : {N : Type 0} {Value : N → Type 0} (M : Mode) (D : (n : N) → Value n → List Token
    → List Token → Type 0) (cs : List ℕ) (K J : N → Bool) → Known D cs K J
    → {A : Type 0} (g : Grammar N Value A) → ends cs K J g ≡ true → Ending cs (Means M D g)
ending M D cs K J H (empty a) e v xs ys d = ([], d.1, inl refl)
ending M D cs K J H (token s) e v xs ys d = (v ∷ [], d.1, inr (in_subset v.class s cs e d.0))
ending M D cs K J H (sequence g h) e v xs ys (ms, d, i) =
    let t = and_true (ends cs K J h) (surely_takes J h || ends cs K J g) e in
    let u = ending M D cs K J H h t.0 v.1 ms ys i in
    elim (either (surely_takes J h) (ends cs K J g) t.1) [
      | inl k ↦
          let w = framed M D H.frames g v.0 xs ms d in (
            w.0 ++ u.0,
            joined w.0 u.0 xs ms ys w.1 u.1,
            ends_after cs w.0 u.0 u.2
                (not_empty u.0 ms ys u.1 (shorter M D H.frames J H.takes h k v.1 ms ys i)),
          )
      | inr k ↦
          let w = ending M D cs K J H g k v.0 xs ms d in
          (w.0 ++ u.0, joined w.0 u.0 xs ms ys w.1 u.1, ends_append cs w.0 u.0 w.2 u.2)
    ]
ending M D cs K J H (choice g h) e v xs ys (inl d) = ending M D cs K J H g
    (and_true (ends cs K J g) (ends cs K J h) e).0 v xs ys d
ending M D cs K J H (choice g h) e v xs ys (inr d) = ending M D cs K J H h
    (and_true (ends cs K J g) (ends cs K J h) e).1 v xs ys d
ending M D cs K J H (mapped f g) e v xs ys d = ending M D cs K J H g e d.0 xs ys d.2
ending M D cs K J H (node f g) e v xs ys d = ending M D cs K J H g e d.0 xs ys d.2
ending M D cs K J H (checked f g) e v xs ys d = ending M D cs K J H g e v xs ys d.1
ending M D cs K J H (symbol n) e v xs ys d = H.end_so n e v xs ys d
ending M D cs K J H (left_chain f g h) e v xs ys d =
    let t = and_true (ends cs K J g) (ends cs K J h) e in
    ending_chain cs f (Means M D g) (Means M D h) (λ a us vs q. ending M D cs K J H g t.0 a us vs q)
    (λ a us vs q. ending M D cs K J H h t.1 a us vs q) xs v ys d

ending_within : {N : Type 0} {Value : N → Type 0} (M : Mode)
    (body : (n : N) → Grammar N Value (Value n)) (cs : List ℕ) (K J : N → Bool)
    → ((n : N) → J n ≡ true → surely_takes J (body n) ≡ true)
    → ((n : N) → K n ≡ true → ends cs K J (body n) ≡ true)
    → (k : ℕ) (n : N) → K n ≡ true → Ending cs (Within M body k n)
ending_within M body cs K J T H zero n e v xs ys d = absurd d
ending_within M body cs K J T H (suc k) n e v xs ys d =
    ending M (Within M body k) cs K J (record {
      frames = framed_within M body k;
      takes = shorter_within M body J T k;
      end_so = ending_within M body cs K J T H k;
    }) (body n) (H n e) v xs ys d

pub ending_part : {N : Type 0} {Value : N → Type 0} (M : Mode)
    (body : (n : N) → Grammar N Value (Value n)) (cs : List ℕ) (K J : N → Bool)
    → ((n : N) → J n ≡ true → surely_takes J (body n) ≡ true)
    → ((n : N) → K n ≡ true → ends cs K J (body n) ≡ true)
    → (n : N) → K n ≡ true → (v : Value n) (xs ys : List Token) → Part M body n v xs ys
    → (p : List Token) × (xs ≡ p ++ ys) × EndsWith cs p
ending_part M body cs K J T H n e v xs ys (k, d) = ending_within M body cs K J T H k n e v xs ys d
