-- A part does not depend on what comes after it.
use Rattle.std.proofs.Common.{◌≡◌, ℕ, zero, suc, ◌-◌, List, [], ◌∷◌, ◌++◌, length, inl, inr, refl, sym, ap, subst, ◌∙◌, append_assoc, append-nil, arith, length-append}
use Rattle.grammar.specs.Tokens.{Token, Span, span_of, first_tokens, tokens_between, span_between}
use Rattle.grammar.specs.Grammar.{Grammar, Grammar.empty, Grammar.token, Grammar.sequence, Grammar.choice, Grammar.mapped, Grammar.node, Grammar.checked, Grammar.symbol, Grammar.left_chain, Mode, found, Chain, Chain.base, Chain.more, Means, Within, Part, Derives}

pub front_append : (xs rest : List Token) → first_tokens (length xs) (xs ++ rest) ≡ xs
front_append [] rest = refl
front_append (x ∷ xs) rest = ap (λ (t : List Token). x ∷ t) (front_append xs rest)

pub tokens_append : (xs rest : List Token) → tokens_between (xs ++ rest) rest ≡ xs
tokens_append xs rest =
    let e : length (xs ++ rest) - length rest ≡ length xs = omega (arith, length-append xs rest) in
    ap (λ (n : ℕ). first_tokens n (xs ++ rest)) e ∙ front_append xs rest

pub tokens_all : (ts : List Token) → tokens_between ts [] ≡ ts
tokens_all ts = ap (λ (xs : List Token). tokens_between xs []) (sym (append-nil ts)) ∙ tokens_append ts []

pub span_append : (xs rest : List Token) → span_between (xs ++ rest) rest ≡ span_of xs
span_append xs rest =
    let e : length (xs ++ rest) - length rest ≡ length xs = omega (arith, length-append xs rest) in
    ap span_of (ap (λ (n : ℕ). first_tokens n (xs ++ rest)) e ∙ front_append xs rest)

-- a list of tokens whose value is v, whatever comes after it
abbrev pub Word : {A : Type 0} → (A → List Token → List Token → Type 0) → A → List Token → Type 0
Word P v p = (ys : List Token) → P v (p ++ ys) ys

-- what is derived is a word, which does not depend on what comes after it
abbrev pub Framed : {A : Type 0} → (A → List Token → List Token → Type 0) → Type 0
Framed {A} P = (v : A) (xs ys : List Token) → P v xs ys → (p : List Token) × (xs ≡ p ++ ys) × Word P v p

abbrev pub ChainOf : {A B : Type 0} (f : A → B → Span → A) (P : A → List Token → List Token → Type 0)
    (Q : B → List Token → List Token → Type 0) → A → List Token → List Token → Type 0
ChainOf f P Q v xs ys = Chain f P Q xs v ys

pub joined : (p q xs ms ys : List Token) → xs ≡ p ++ ms → ms ≡ q ++ ys → xs ≡ (p ++ q) ++ ys
joined p q xs ms ys e h = e ∙ ap (λ (x : List Token). p ++ x) h ∙ sym (append_assoc p q ys)

pub word_more : {A B : Type 0} (f : A → B → Span → A) (P : A → List Token → List Token → Type 0)
    (Q : B → List Token → List Token → Type 0) (a : A) (b : B) (p q : List Token)
    → Word (ChainOf f P Q) a p → Word Q b q → Word (ChainOf f P Q) (f a b (span_of (p ++ q))) (p ++ q)
word_more f P Q a b p q c d ys =
    subst (λ (z : Span). Chain f P Q ((p ++ q) ++ ys) (f a b z) ys) (span_append (p ++ q) ys)
    (more a b (q ++ ys) ys (subst (λ (z : List Token). Chain f P Q z a (q ++ ys))
    (sym (append_assoc p q ys)) (c (q ++ ys))) (d ys))

framed_chain : {A B : Type 0} (f : A → B → Span → A) (P : A → List Token → List Token → Type 0)
    (Q : B → List Token → List Token → Type 0)
    → Framed P → Framed Q → (xs : List Token) (v : A) (ys : List Token) → Chain f P Q xs v ys
    → (p : List Token) × (xs ≡ p ++ ys) × Word (ChainOf f P Q) v p
framed_chain f P Q F G xs _ _ (base v ys h) = let w = F v xs ys h in (w.0, w.1, λ zs. base v zs (w.2 zs))
framed_chain f P Q F G xs _ _ (more a b ys zs c h) =
    let w = framed_chain f P Q F G xs a ys c in let x = G b ys zs h in
    let whole = joined w.0 x.0 xs ys zs w.1 x.1 in
    let s : span_of (w.0 ++ x.0) ≡ span_between xs zs =
    sym (ap (λ (z : List Token). span_between z zs) whole ∙ span_append (w.0 ++ x.0) zs) in (
      w.0 ++ x.0,
      whole,
      subst (λ (z : Span). Word (ChainOf f P Q) (f a b z) (w.0 ++ x.0)) s
          (word_more f P Q a b w.0 x.0 w.2 x.2),
    )

pub word_sequence : {N : Type 0} {Value : N → Type 0} (M : Mode)
    (D : (n : N) → Value n → List Token → List Token → Type 0) {A B : Type 0}
    (g : Grammar N Value A) (h : Grammar N Value B) (a : A) (b : B) (p q : List Token)
    → Word (Means M D g) a p → Word (Means M D h) b q → Word (Means M D (sequence g h)) (a, b) (p ++ q)
word_sequence M D g h a b p q c d ys =
    (q ++ ys, subst (λ (z : List Token). Means M D g a z (q ++ ys)) (sym (append_assoc p q ys)) (c (q ++ ys)), d ys)

pub word_mapped : {N : Type 0} {Value : N → Type 0} (M : Mode) (D : (n : N) → Value n → List Token
    → List Token → Type 0) {A B : Type 0} (f : A → B) (g : Grammar N Value A) (a : A) (p : List Token)
    → Word (Means M D g) a p → Word (Means M D (mapped f g)) (f a) p
word_mapped M D f g a p c ys = (a, refl, c ys)

pub word_node : {N : Type 0} {Value : N → Type 0} (M : Mode) (D : (n : N) → Value n → List Token → List Token
    → Type 0) {A B : Type 0} (f : A → Span → B) (g : Grammar N Value A) (a : A) (p : List Token)
    → Word (Means M D g) a p → Word (Means M D (node f g)) (f a (span_of p)) p
word_node M D f g a p c ys = (a, ap (λ (z : Span). f a z) (span_append p ys), c ys)

pub framed : {N : Type 0} {Value : N → Type 0} (M : Mode) (D : (n : N) → Value n → List Token → List Token → Type 0)
    → ((n : N) → Framed (D n)) → {A : Type 0} (g : Grammar N Value A) → Framed (Means M D g)
framed M D F (empty a) v xs ys d = ([], d.1, λ zs. (d.0, refl))
framed M D F (token s) v xs ys d = (v ∷ [], d.1, λ zs. (d.0, refl))
framed M D F (sequence g h) v xs ys d =
    let w = framed M D F g v.0 xs d.0 d.1 in let x = framed M D F h v.1 d.0 ys d.2 in
    (w.0 ++ x.0, joined w.0 x.0 xs d.0 ys w.1 x.1, word_sequence M D g h v.0 v.1 w.0 x.0 w.2 x.2)
framed M D F (choice g h) v xs ys (inl d) = let w = framed M D F g v xs ys d in (w.0, w.1, λ zs. inl (w.2 zs))
framed M D F (choice g h) v xs ys (inr d) = let w = framed M D F h v xs ys d in (w.0, w.1, λ zs. inr (w.2 zs))
framed M D F (mapped f g) v xs ys d = let w = framed M D F g d.0 xs ys d.2 in (w.0, w.1, λ zs. (d.0, d.1, w.2 zs))
framed M D F (node f g) v xs ys d =
    let w = framed M D F g d.0 xs ys d.2 in
    let s : span_between xs ys ≡ span_of w.0 = ap (λ (z : List Token). span_between z ys) w.1 ∙ span_append w.0 ys in
    (w.0, w.1, λ zs. (d.0, ap (λ (z : Span). f d.0 z) (span_append w.0 zs ∙ sym s) ∙ d.1, w.2 zs))
framed M D F (checked f g) v xs ys d =
    let w = framed M D F g v xs ys d.1 in
    let s : span_between xs ys ≡ span_of w.0 = ap (λ (z : List Token). span_between z ys) w.1 ∙ span_append w.0 ys in
    (w.0, w.1, λ zs. (ap (λ (z : Span). found M (f v z)) (span_append w.0 zs ∙ sym s) ∙ d.0, w.2 zs))
framed M D F (symbol n) v xs ys d = F n v xs ys d
framed M D F (left_chain f g h) v xs ys d = framed_chain f (Means M D g) (Means M D h)
    (framed M D F g) (framed M D F h) xs v ys d

pub framed_within : {N : Type 0} {Value : N → Type 0} (M : Mode)
    (body : (n : N) → Grammar N Value (Value n)) (k : ℕ) (n : N) → Framed (Within M body k n)
framed_within M body zero n v xs ys d = absurd d
framed_within M body (suc k) n v xs ys d = framed M (Within M body k) (framed_within M body k) (body n) v xs ys d

pub framed_part : {N : Type 0} {Value : N → Type 0} (M : Mode)
    (body : (n : N) → Grammar N Value (Value n)) (n : N) → Framed (Part M body n)
framed_part M body n v xs ys (k, d) = let w = framed_within M body k n v xs ys d in (w.0, w.1, λ zs. (k, w.2 zs))

-- a part is a front that derives alone, and back: the form with ++
pub part_is_front : {N : Type 0} {Value : N → Type 0} (M : Mode)
    (body : (n : N) → Grammar N Value (Value n)) (n : N) (v : Value n) (xs ys : List Token)
    → Part M body n v xs ys → (p : List Token) × (xs ≡ p ++ ys) × Derives M body n v p
part_is_front M body n v xs ys d =
    let w = framed_part M body n v xs ys d in
    (w.0, w.1, subst (λ (z : List Token). Part M body n v z []) (append-nil w.0) (w.2 []))

pub derived_word : {N : Type 0} {Value : N → Type 0} (M : Mode) (body : (n : N) → Grammar N Value (Value n))
    (n : N) (v : Value n) (p : List Token) → Derives M body n v p → Word (Part M body n) v p
derived_word M body n v p d =
    let w = framed_part M body n v p [] d in subst (Word (Part M body n) v) (sym (w.1 ∙ append-nil w.0)) w.2

pub front_is_part : {N : Type 0} {Value : N → Type 0} (M : Mode)
    (body : (n : N) → Grammar N Value (Value n)) (n : N) (v : Value n) (p ys : List Token)
    → Derives M body n v p → Part M body n v (p ++ ys) ys
front_is_part M body n v p ys d = derived_word M body n v p d ys
