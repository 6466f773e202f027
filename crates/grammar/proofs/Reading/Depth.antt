-- Derivations by depth: a symbol derives what its right side does.
use Rattle.std.proofs.Common.{◌≡◌, ℕ, zero, suc, List, inl, inr, refl}
use Rattle.std.specs.Prelude.{Option, None}
use Rattle.grammar.specs.Tokens.{Token, Span, Fault}
use Rattle.grammar.specs.Grammar.{Grammar, Grammar.empty, Grammar.token, Grammar.sequence, Grammar.choice, Grammar.mapped, Grammar.node, Grammar.checked, Grammar.symbol, Grammar.left_chain, Mode, Mode.unchecked, found, Chain, Chain.base, Chain.more, Means, Within, Part}

-- a greater relation derives no less, and with no checks no less is derived
abbrev pub Kept : {A : Type 0} → (A → List Token → List Token → Type 0)
    → (A → List Token → List Token → Type 0) → Type 0
Kept {A} P P' = (v : A) (xs ys : List Token) → P v xs ys → P' v xs ys

pub chain_mono : {A B : Type 0} (f : A → B → Span → A) (P P' : A → List Token → List Token → Type 0)
    (Q Q' : B → List Token → List Token → Type 0)
    → Kept P P' → Kept Q Q' → (xs : List Token) (v : A) (ys : List Token) → Chain f P Q xs v ys
    → Chain f P' Q' xs v ys
chain_mono f P P' Q Q' p q xs _ _ (base v ys h) = base v ys (p v xs ys h)
chain_mono f P P' Q Q' p q xs _ _ (more a b ys zs c h) = more a b ys zs
    (chain_mono f P P' Q Q' p q xs a ys c) (q b ys zs h)

-- the mode M' finds no more than M
abbrev pub Looser : Mode → Mode → Type 0
Looser M M' = (x : Option Fault) → found M x ≡ None → found M' x ≡ None

pub same_mode : (M : Mode) → Looser M M
same_mode M x e = e

pub no_checks : (M : Mode) → Looser M unchecked
no_checks M x e = refl

pub means_mono : {N : Type 0} {Value : N → Type 0} (M M' : Mode) → Looser M M'
    → (D D' : (n : N) → Value n → List Token → List Token → Type 0)
    → ((n : N) → Kept (D n) (D' n)) → {A : Type 0} (g : Grammar N Value A)
    → Kept (Means M D g) (Means M' D' g)
means_mono M M' L D D' H (empty a) v xs ys d = d
means_mono M M' L D D' H (token s) v xs ys d = d
means_mono M M' L D D' H (sequence g h) v xs ys d =
    (d.0, means_mono M M' L D D' H g v.0 xs d.0 d.1, means_mono M M' L D D' H h v.1 d.0 ys d.2)
means_mono M M' L D D' H (choice g h) v xs ys (inl d) = inl (means_mono M M' L D D' H g v xs ys d)
means_mono M M' L D D' H (choice g h) v xs ys (inr d) = inr (means_mono M M' L D D' H h v xs ys d)
means_mono M M' L D D' H (mapped f g) v xs ys d = (d.0, d.1, means_mono M M' L D D' H g d.0 xs ys d.2)
means_mono M M' L D D' H (node f g) v xs ys d = (d.0, d.1, means_mono M M' L D D' H g d.0 xs ys d.2)
means_mono M M' L D D' H (checked f g) v xs ys d = (L _ d.0, means_mono M M' L D D' H g v xs ys d.1)
means_mono M M' L D D' H (symbol n) v xs ys d = H n v xs ys d
means_mono M M' L D D' H (left_chain f g h) v xs ys d = chain_mono f (Means M D g) (Means M' D' g)
    (Means M D h) (Means M' D' h) (means_mono M M' L D D' H g) (means_mono M M' L D D' H h) xs v ys d

within_suc : {N : Type 0} {Value : N → Type 0} (M : Mode) (body : (n : N) → Grammar N Value (Value n))
    (k : ℕ) (n : N) → Kept (Within M body k n) (Within M body (suc k) n)
within_suc M body zero n v xs ys d = absurd d
within_suc M body (suc k) n v xs ys d = means_mono M M (same_mode M) (Within M body k)
    (Within M body (suc k)) (within_suc M body k) (body n) v xs ys d

abbrev pub deeper : ℕ → ℕ → ℕ
deeper zero k = k
deeper (suc j) k = suc (deeper j k)

within_right : {N : Type 0} {Value : N → Type 0} (M : Mode) (body : (n : N) → Grammar N Value (Value n))
    (j k : ℕ) (n : N) → Kept (Within M body k n) (Within M body (deeper j k) n)
within_right M body zero k n v xs ys d = d
within_right M body (suc j) k n v xs ys d = within_suc M body (deeper j k) n v xs ys
    (within_right M body j k n v xs ys d)

within_left : {N : Type 0} {Value : N → Type 0} (M : Mode) (body : (n : N) → Grammar N Value (Value n))
    (j k : ℕ) (n : N) → Kept (Within M body j n) (Within M body (deeper j k) n)
within_left M body zero k n v xs ys d = absurd d
within_left M body (suc j) k n v xs ys d = means_mono M M (same_mode M) (Within M body j)
    (Within M body (deeper j k)) (within_left M body j k) (body n) v xs ys d

-- a part at the depth that two parts need
up_left : {N : Type 0} {Value : N → Type 0} (M : Mode) (body : (n : N) → Grammar N Value (Value n))
    (j k : ℕ) {A : Type 0} (g : Grammar N Value A)
    → Kept (Means M (Within M body j) g) (Means M (Within M body (deeper j k)) g)
up_left M body j k g = means_mono M M (same_mode M) (Within M body j) (Within M body (deeper j k))
    (within_left M body j k) g

up_right : {N : Type 0} {Value : N → Type 0} (M : Mode) (body : (n : N) → Grammar N Value (Value n))
    (j k : ℕ) {A : Type 0} (g : Grammar N Value A)
    → Kept (Means M (Within M body k) g) (Means M (Within M body (deeper j k)) g)
up_right M body j k g = means_mono M M (same_mode M) (Within M body k) (Within M body (deeper j k))
    (within_right M body j k) g

abbrev Collects : {N : Type 0} {Value : N → Type 0} (M : Mode)
    (body : (n : N) → Grammar N Value (Value n)) {A : Type 0} (g : Grammar N Value A) → Type 0
Collects M body {A} g = (v : A) (xs ys : List Token) → Means M (Part M body) g v xs ys
    → (k : ℕ) × Means M (Within M body k) g v xs ys

chain_collect : {N : Type 0} {Value : N → Type 0} (M : Mode) (body : (n : N) → Grammar N Value (Value n))
    {A B : Type 0} (f : A → B → Span → A) (g : Grammar N Value A) (h : Grammar N Value B)
    → Collects M body g → Collects M body h
    → (xs : List Token) (v : A) (ys : List Token)
    → Chain f (Means M (Part M body) g) (Means M (Part M body) h) xs v ys
    → (k : ℕ) × Chain f (Means M (Within M body k) g) (Means M (Within M body k) h) xs v ys
chain_collect M body f g h p q xs _ _ (base v ys d) = let w = p v xs ys d in (w.0, base v ys w.1)
chain_collect M body f g h p q xs _ _ (more a b ys zs c d) =
    let w = chain_collect M body f g h p q xs a ys c in let x = q b ys zs d in (
      deeper w.0 x.0,
      more a b ys zs
          (chain_mono f _ _ _ _ (up_left M body w.0 x.0 g) (up_left M body w.0 x.0 h) xs a ys w.1)
          (up_right M body w.0 x.0 h b ys zs x.1),
    )

pub collect : {N : Type 0} {Value : N → Type 0} (M : Mode) (body : (n : N) → Grammar N Value (Value n))
    {A : Type 0} (g : Grammar N Value A) → Collects M body g
collect M body (empty a) v xs ys d = (0, d)
collect M body (token s) v xs ys d = (0, d)
collect M body (sequence g h) v xs ys d =
    let w = collect M body g v.0 xs d.0 d.1 in let x = collect M body h v.1 d.0 ys d.2 in
    (deeper w.0 x.0, (d.0, up_left M body w.0 x.0 g v.0 xs d.0 w.1, up_right M body w.0 x.0 h v.1 d.0 ys x.1))
collect M body (choice g h) v xs ys (inl d) = let w = collect M body g v xs ys d in (w.0, inl w.1)
collect M body (choice g h) v xs ys (inr d) = let w = collect M body h v xs ys d in (w.0, inr w.1)
collect M body (mapped f g) v xs ys d = let w = collect M body g d.0 xs ys d.2 in (w.0, (d.0, d.1, w.1))
collect M body (node f g) v xs ys d = let w = collect M body g d.0 xs ys d.2 in (w.0, (d.0, d.1, w.1))
collect M body (checked f g) v xs ys d = let w = collect M body g v xs ys d.1 in (w.0, (d.0, w.1))
collect M body (symbol n) v xs ys d = d
collect M body (left_chain f g h) v xs ys d = chain_collect M body f g h (collect M body g) (collect M body h) xs v ys d

-- what a right side derives, its symbol derives
pub roll : {N : Type 0} {Value : N → Type 0} (M : Mode) (body : (n : N) → Grammar N Value (Value n)) (n : N)
    → Kept (Means M (Part M body) (body n)) (Part M body n)
roll M body n v xs ys d = let w = collect M body (body n) v xs ys d in (suc w.0, w.1)

-- and nothing else
pub unroll : {N : Type 0} {Value : N → Type 0} (M : Mode) (body : (n : N) → Grammar N Value (Value n)) (n : N)
    → Kept (Part M body n) (Means M (Part M body) (body n))
unroll M body n v xs ys (zero, d) = absurd d
unroll M body n v xs ys (suc k, d) = means_mono M M (same_mode M) (Within M body k) (Part M body)
    (λ m w us vs x. (k, x)) (body n) v xs ys d

loosen_within : {N : Type 0} {Value : N → Type 0} (M : Mode) (body : (n : N) → Grammar N Value (Value n))
    (k : ℕ) (n : N) → Kept (Within M body k n) (Within unchecked body k n)
loosen_within M body zero n v xs ys d = absurd d
loosen_within M body (suc k) n v xs ys d = means_mono M unchecked (no_checks M) (Within M body k)
    (Within unchecked body k) (loosen_within M body k) (body n) v xs ys d

-- what passes its checks is derived without them
pub loosen : {N : Type 0} {Value : N → Type 0} (M : Mode) (body : (n : N) → Grammar N Value (Value n)) (n : N)
    → Kept (Part M body n) (Part unchecked body n)
loosen M body n v xs ys (k, d) = (k, loosen_within M body k n v xs ys d)

-- the least relation that the rules allow
pub least : {N : Type 0} {Value : N → Type 0} (M : Mode) (body : (n : N) → Grammar N Value (Value n))
    (D : (n : N) → Value n → List Token → List Token → Type 0)
    → ((n : N) → Kept (Means M D (body n)) (D n)) → (n : N) → Kept (Part M body n) (D n)
least {N} {Value} M body D H n v xs ys (k, d) = go k n v xs ys d
  where
    go : (k : ℕ) (n : N) → Kept (Within M body k n) (D n)
    go zero n v xs ys d = absurd d
    go (suc k) n v xs ys d = H n v xs ys (means_mono M M (same_mode M) (Within M body k) D (go k) (body n) v xs ys d)
