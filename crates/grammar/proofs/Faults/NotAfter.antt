-- What is directly after no token of certain classes.
use Rattle.std.proofs.Common.{◌≡◌, ℕ, zero, suc, Bool, true, false, not, ◌&&◌, List, [], ◌∷◌, ◌++◌, inl, inr, refl, sym, ap, ◌∙◌}
use Rattle.grammar.specs.Tokens.{Token, Span}
use Rattle.grammar.specs.Grammar.{is_among, Grammar, Grammar.empty, Grammar.token, Grammar.sequence, Grammar.choice, Grammar.mapped, Grammar.node, Grammar.checked, Grammar.symbol, Grammar.left_chain, Mode, Chain, Chain.base, Chain.more, Means, Within, Part}
use Rattle.grammar.specs.Endings.{last_class}
use Rattle.grammar.specs.Anchors.{is_token_of, keeps_apart, keeps_body_apart}
use Rattle.grammar.proofs.Reading.Sets.{and_true, not_true, cases, apart}
use Rattle.grammar.proofs.Reading.Beginnings.{cond_yes, cond_no}
use Rattle.grammar.proofs.Reading.Frame.{Framed, framed, framed_within, joined}
use Rattle.grammar.proofs.Faults.Anchors.{last_append}

-- ---- what is directly after no token of the classes b
abbrev pub Gone : List ℕ → Bool → ℕ → List Token → List Token → Type 0
Gone b d l ts us = (p : List Token) × (ts ≡ p ++ us) × (d ≡ false → is_among (last_class l p) b ≡ false)

pub gone_then : (b : List ℕ) (d : Bool) (l : ℕ) (ts ms us p : List Token) → ts ≡ p ++ ms
    → Gone b d (last_class l p) ms us → Gone b d l ts us
gone_then b d l ts ms us p e (q, h, k) =
    (p ++ q, joined p q ts ms us e h, λ z. ap (λ (x : ℕ). is_among x b) (last_append l p q) ∙ k z)

abbrev GoneBy : {A : Type 0} → List ℕ → (A → List Token → List Token → Type 0) → Type 0
GoneBy {A} b P = (v : A) (ts us : List Token) → P v ts us → (l : ℕ) → is_among l b ≡ false → Gone b false l ts us

gone_chain : {A B : Type 0} (b : List ℕ) (d : Bool) (f : A → B → Span → A) (P : A → List Token
    → List Token → Type 0) (Q : B → List Token → List Token → Type 0) (ts : List Token) (l : ℕ)
    → ((v : A) (us : List Token) → P v ts us → Gone b false l ts us) → GoneBy b Q
    → (v : A) (us : List Token) → Chain f P Q ts v us → Gone b false l ts us
gone_chain b d f P Q ts l p q _ _ (base v us h) = p v us h
gone_chain b d f P Q ts l p q _ _ (more x y us vs c h) =
    let w = gone_chain b d f P Q ts l p q x us c in gone_then b false l ts us vs w.0 w.1
    (q y us vs h (last_class l w.0) (w.2 refl))

pub gone : {N : Type 0} {Value : N → Type 0} (M : Mode) (D : (n : N) → Value n → List Token
    → List Token → Type 0) (b : List ℕ) → ((n : N) → Framed (D n)) → ((n : N) → GoneBy b (D n))
    → {A : Type 0} (g : Grammar N Value A) (d : Bool) → keeps_apart b d g ≡ true
    → (v : A) (ts us : List Token) → Means M D g v ts us → (l : ℕ)
    → (d ≡ false → is_among l b ≡ false) → Gone b false l ts us
gone M D b F H (empty a) d k v ts us m l c = ([], m.1, λ z. c (not_true d k))
gone M D b F H (token s) d k v ts us m l c = (v ∷ [], m.1, λ z. apart v.class s b k m.0)
gone M D b F H (sequence g h) d k v ts us m l c = elim (cases (is_token_of b g)) [
  | inl y ↦
      let k' : (not d && keeps_apart b true h) ≡ true = sym (cond_yes (is_token_of b g)
      (not d && keeps_apart b true h) (keeps_apart b d g && keeps_apart b false h) y) ∙ k in
      let w = framed M D F g v.0 ts m.0 m.1 in
      gone_then b false l ts m.0 us w.0 w.1
      (gone M D b F H h true (and_true _ _ k').1 v.1 m.0 us m.2 (last_class l w.0) (λ z. absurd cc))
  | inr y ↦
      let k' = and_true _ _ (sym (cond_no (is_token_of b g) (not d && keeps_apart b true h)
      (keeps_apart b d g && keeps_apart b false h) y) ∙ k) in
      let w = gone M D b F H g d k'.0 v.0 ts m.0 m.1 l c in
      gone_then b false l ts m.0 us w.0 w.1
      (gone M D b F H h false k'.1 v.1 m.0 us m.2 (last_class l w.0) w.2)
]
gone M D b F H (choice g h) d k v ts us (inl m) l c = gone M D b F H g d (and_true _ _ k).0 v ts us m l c
gone M D b F H (choice g h) d k v ts us (inr m) l c = gone M D b F H h d (and_true _ _ k).1 v ts us m l c
gone M D b F H (mapped f g) d k v ts us m l c = gone M D b F H g d k m.0 ts us m.2 l c
gone M D b F H (node f g) d k v ts us m l c = gone M D b F H g d k m.0 ts us m.2 l c
gone M D b F H (checked f g) d k v ts us m l c = absurd cc
gone M D b F H (symbol n) d k v ts us m l c = H n v ts us m l (c (not_true d k))
gone M D b F H (left_chain f g h) d k v ts us m l c =
    gone_chain b d f (Means M D g) (Means M D h) ts l (λ x vs q. gone M D b F H g d (and_true _ _ k).0 x ts vs q l c)
    (λ y vs ws q l' c'. gone M D b F H h false (and_true _ _ k).1 y vs ws q l' (λ z. c')) v us m

gone_body : {N : Type 0} {Value : N → Type 0} (M : Mode) (D : (n : N) → Value n → List Token
    → List Token → Type 0) (b : List ℕ) → ((n : N) → Framed (D n)) → ((n : N) → GoneBy b (D n))
    → {A : Type 0} (g : Grammar N Value A) → keeps_body_apart b g ≡ true → GoneBy b (Means M D g)
gone_body M D b F H (checked f g) k v ts us m l c = gone M D b F H g false k v ts us m.1 l (λ z. c)
gone_body M D b F H (empty a) k v ts us m l c = gone M D b F H (empty a) false k v ts us m l (λ z. c)
gone_body M D b F H (token s) k v ts us m l c = gone M D b F H (token s) false k v ts us m l (λ z. c)
gone_body M D b F H (sequence g h) k v ts us m l c = gone M D b F H (sequence g h) false k v ts us m l (λ z. c)
gone_body M D b F H (choice g h) k v ts us m l c = gone M D b F H (choice g h) false k v ts us m l (λ z. c)
gone_body M D b F H (mapped f g) k v ts us m l c = gone M D b F H (mapped f g) false k v ts us m l (λ z. c)
gone_body M D b F H (node f g) k v ts us m l c = gone M D b F H (node f g) false k v ts us m l (λ z. c)
gone_body M D b F H (symbol n) k v ts us m l c = gone M D b F H (symbol n) false k v ts us m l (λ z. c)
gone_body M D b F H (left_chain f g h) k v ts us m l c = gone M D b F H (left_chain f g h) false k v ts us m l (λ z. c)

abbrev pub KeepsApart : {N : Type 0} {Value : N → Type 0} (body : (n : N) → Grammar N Value (Value n)) → List ℕ → Type 0
KeepsApart {N} body b = (n : N) → keeps_body_apart b (body n) ≡ true

gone_within : {N : Type 0} {Value : N → Type 0} (M : Mode) (body : (n : N) → Grammar N Value (Value n))
    (b : List ℕ) → KeepsApart body b → (k : ℕ) (n : N) → GoneBy b (Within M body k n)
gone_within M body b K zero n v ts us m l c = absurd m
gone_within M body b K (suc k) n v ts us m l c = gone_body M (Within M body k) b
    (framed_within M body k) (gone_within M body b K k) (body n) (K n) v ts us m l c

pub gone_part : {N : Type 0} {Value : N → Type 0} (M : Mode) (body : (n : N) → Grammar N Value (Value n))
    (b : List ℕ) → KeepsApart body b → (n : N) → GoneBy b (Part M body n)
gone_part M body b K n v ts us m l c = gone_within M body b K m.0 n v ts us m.1 l c
