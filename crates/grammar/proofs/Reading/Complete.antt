-- What is derived is read.
use Rattle.std.proofs.Common.{◌≡◌, ℕ, zero, suc, ◌<◌, ◌≤◌, Bool, true, false, cond, List, [], ◌∷◌, ◌++◌, length, ◌⊎◌, inl, inr, refl, sym, ap, subst, ◌∙◌, arith, ap₂, le_refl}
use Rattle.std.specs.Prelude.{Option}
use Rattle.grammar.specs.Tokens.{Token, Span, Fault, span_between}
use Rattle.grammar.specs.Grammar.{is_among, Grammar, Grammar.empty, Grammar.token, Grammar.sequence, Grammar.choice, Grammar.mapped, Grammar.node, Grammar.checked, Grammar.symbol, Grammar.left_chain, Mode, found, Chain, Chain.base, Chain.more, Means, Within, Part}
use Rattle.grammar.specs.Tables.{disjoint, subset, Tables, nullable, first, continuations, decides}
use Rattle.grammar.specs.Reading.{Outcome, Outcome.ok, Outcome.out, bind, judge, chooses, take_token, loop, run, read}
use Rattle.grammar.proofs.Reading.Sets.{and_true, not_true, not_left, not_right, apart', not_subset}
use Rattle.grammar.proofs.Reading.Beginnings.{pick_yes, pick_no, Begins, Sane, begins, begins_within}

-- no token of these classes comes next
abbrev pub Stops : List ℕ → List Token → Type 0
Stops s ts = chooses s ts ≡ false

-- this value, or no fuel
abbrev pub OrOut : {A : Type 0} → Outcome A → A → List Token → Type 0
OrOut m v rest = (m ≡ ok v rest) ⊎ (m ≡ out)

pub or_same : {A : Type 0} (m m' : Outcome A) (v : A) (rest : List Token) → m ≡ m' → OrOut m' v rest → OrOut m v rest
or_same m m' v rest e (inl h) = inl (e ∙ h)
or_same m m' v rest e (inr h) = inr (e ∙ h)

pub or_bind : {A B : Type 0} (m : Outcome A) (f : A → List Token → Outcome B) (a : A) (us : List Token)
    (b : B) (vs : List Token) → OrOut m a us → OrOut (f a us) b vs → OrOut (bind m f) b vs
or_bind m f a us b vs (inl e) h = or_same (bind m f) (f a us) b vs (ap (λ (x : Outcome _). bind x f) e) h
or_bind m f a us b vs (inr e) h = inr (ap (λ (x : Outcome _). bind x f) e)

pub stops_left : (r s : List ℕ) (ts : List Token) → Stops (r ++ s) ts → Stops r ts
stops_left r s [] h = refl
stops_left r s (t ∷ ts) h = not_left t.class r s h

pub stops_right : (r s : List ℕ) (ts : List Token) → Stops (r ++ s) ts → Stops s ts
stops_right r s [] h = refl
stops_right r s (t ∷ ts) h = not_right t.class r s h

pub stops_sub : (r s : List ℕ) (ts : List Token) → subset r s ≡ true → Stops s ts → Stops r ts
stops_sub r s [] e h = refl
stops_sub r s (t ∷ ts) e h = not_subset t.class r s e h

pub stops_apart : (r f : List ℕ) (ts : List Token) → disjoint r f ≡ true → chooses f ts ≡ true → Stops r ts
stops_apart r f [] d e = refl
stops_apart r f (t ∷ ts) d e = apart' t.class r f d e

-- before a part that begins with none of r is none of r, if none is after an empty part
stops_before : (n : Bool) (r f : List ℕ) (xs ys : List Token) → Begins n f xs ys
    → disjoint r f ≡ true → Stops (cond n r []) ys → Stops r xs
stops_before n r f xs ys (inl b) e h = subst (Stops r) (sym b.1) (subst (λ (x : Bool). Stops (cond x r []) ys) b.0 h)
stops_before n r f xs ys (inr b) e h = stops_apart r f xs e b.0

abbrev pub IsComplete : {A : Type 0} (P : A → List Token → List Token → Type 0) → List ℕ
    → (List Token → Outcome A) → Type 0
IsComplete {A} P s r = (v : A) (xs ys : List Token) → P v xs ys → Stops s ys → OrOut (r xs) v ys

abbrev Looping : {A B : Type 0} (f : A → B → Span → A) (s : List ℕ) (rg : List Token → Outcome A)
    (rh : List Token → Outcome B) (xs : List Token) → A → List Token → Type 0
Looping f s rg rh xs v ys =
    ((j : ℕ) × (length ys ≤ j) × (bind (rg xs) (λ a us. loop f s rh xs (length us) a us) ≡ loop f s rh xs j v ys))
    ⊎ (bind (rg xs) (λ a us. loop f s rh xs (length us) a us) ≡ out)

-- what begins with an item is such an item
begun : (s : List ℕ) (ys zs : List Token) → Begins false s ys zs → (chooses s ys ≡ true) × (length zs < length ys)
begun s ys zs (inl b) = absurd (let e = b.0 in cc)
begun s ys zs (inr b) = b

-- one turn of the loop, where its item is there
turn : {A B : Type 0} (f : A → B → Span → A) (s : List ℕ) (rh : List Token → Outcome B)
    (start : List Token) (a : A) (b : B) (ys zs : List Token) (k : ℕ)
    → (chooses s ys ≡ true) × (length zs < length ys) → length ys ≤ k → OrOut (rh ys) b zs
    → ((j : ℕ) × (length zs ≤ j) × (loop f s rh start k a ys
    ≡ loop f s rh start j (f a b (span_between start zs)) zs)) ⊎ (loop f s rh start k a ys ≡ out)
turn f s rh start a b ys zs zero n l h = absurd (let u = n.1 in omega (arith, u, l))
turn f s rh start a b ys zs (suc k) n l (inl e) =
    inl (
      k,
      (let u = n.1 in omega (arith, u, l)),
      pick_yes (chooses s ys) _ _ n.0
          ∙ ap (λ (x : Outcome _). bind x (λ b vs. loop f s rh start k (f a b (span_between start vs)) vs)) e,
    )
turn f s rh start a b ys zs (suc k) n l (inr e) =
    inr (pick_yes (chooses s ys) _ _ n.0
    ∙ ap (λ (x : Outcome _). bind x (λ b vs. loop f s rh start k (f a b (span_between start vs)) vs)) e)

reach : {A B : Type 0} (f : A → B → Span → A) (s sg sh : List ℕ) (rg : List Token → Outcome A) (rh : List Token
    → Outcome B) (P : A → List Token → List Token → Type 0) (Q : B → List Token → List Token → Type 0)
    → IsComplete P sg rg → IsComplete Q sh rh
    → ((b : B) (ys zs : List Token) → Q b ys zs → Begins false s ys zs) → disjoint sg s ≡ true
    → disjoint sh s ≡ true
    → (xs : List Token) (v : A) (ys : List Token) → Chain f P Q xs v ys → Stops sg ys → Stops sh ys
    → Looping f s rg rh xs v ys
reach f s sg sh rg rh P Q G H bs dg dh xs _ _ (base v ys p) u w = elim (G v xs ys p u) [
  | inl e ↦
      inl (length ys, le_refl (length ys), ap (λ (x : Outcome _). bind x (λ a us. loop f s rh xs (length us) a us)) e)
  | inr e ↦ inr (ap (λ (x : Outcome _). bind x (λ a us. loop f s rh xs (length us) a us)) e)
]
reach f s sg sh rg rh P Q G H bs dg dh xs _ _ (more a b ys zs c q) u w =
    let n = begun s ys zs (bs b ys zs q) in
    elim (reach f s sg sh rg rh P Q G H bs dg dh xs a ys c (stops_apart sg s ys dg n.0) (stops_apart sh s ys dh n.0)) [
      | inl r ↦ elim (turn f s rh xs a b ys zs r.0 n r.1 (H b ys zs q w)) [
        | inl x ↦ inl (x.0, x.1, r.2 ∙ x.2)
        | inr x ↦ inr (r.2 ∙ x)
      ]
      | inr r ↦ inr r
    ]

loop_ends : {A B : Type 0} (f : A → B → Span → A) (s : List ℕ) (rh : List Token → Outcome B)
    (start : List Token) (k : ℕ) (v : A) (rest : List Token) → Stops s rest
    → loop f s rh start k v rest ≡ ok v rest
loop_ends f s rh start zero v rest h = pick_no (chooses s rest) _ _ h
loop_ends f s rh start (suc k) v rest h = pick_no (chooses s rest) _ _ h

looping_or : {A B : Type 0} (f : A → B → Span → A) (s : List ℕ) (rg : List Token → Outcome A)
    (rh : List Token → Outcome B) (start : List Token) (v : A) (rest : List Token)
    → Stops s rest → Looping f s rg rh start v rest
    → OrOut (bind (rg start) (λ a us. loop f s rh start (length us) a us)) v rest
looping_or f s rg rh start v rest h (inl x) = inl (x.2 ∙ loop_ends f s rh start x.0 v rest h)
looping_or f s rg rh start v rest h (inr x) = inr x

token_complete : (s : List ℕ) (v : Token) (ys : List Token) → is_among v.class s ≡ true
    → take_token s (v ∷ ys) ≡ ok v ys
token_complete s v ys e = pick_yes (is_among v.class s) _ _ e

pub complete : {N : Type 0} {Value : N → Type 0} (T : Tables N) (M : Mode) (D : (n : N) → Value n
    → List Token → List Token → Type 0) (rec : (n : N) → List Token → Outcome (Value n))
    → ((n : N) (v : Value n) (xs ys : List Token) → D n v xs ys → Begins (T.empty n) (T.first n) xs ys)
    → ((n : N) → IsComplete (D n) (T.more n) (rec n))
    → {A : Type 0} (g : Grammar N Value A) → decides T g ≡ true
    → IsComplete (Means M D g) (continuations T g) (run T M rec g)
complete T M D rec B H (empty a) e v xs ys d w = inl (ap₂ (λ x y. ok x y) d.0 d.1)
complete T M D rec B H (token s) e v xs ys d w =
    inl (ap (λ (x : List Token). take_token s x) d.1 ∙ token_complete s v ys d.0)
complete T M D rec B H (sequence {A} {B = C} g h) e v xs ys d w =
    let l = and_true _ _ e in let l' = and_true _ _ l.0 in
    let wg : Stops (continuations T g) d.0 = stops_before (nullable T h) (continuations T g) (first T h)
    d.0 ys (begins T M D B h l'.1 v.1 d.0 ys d.2) l.1 (stops_right (continuations T h) _ ys w) in
    or_bind (run T M rec g xs) (λ a us. bind (run T M rec h us) (λ b vs. ok (a, b) vs)) v.0 d.0 v ys
    (complete T M D rec B H g l'.0 v.0 xs d.0 d.1 wg)
    (or_bind (run T M rec h d.0) (λ b vs. ok (v.0, b) vs) v.1 ys v ys
    (complete T M D rec B H h l'.1 v.1 d.0 ys d.2 (stops_left (continuations T h) _ ys w)) (inl refl))
complete T M D rec B H (choice g h) e v xs ys (inl d) w =
    let l = and_true _ _ e in let l' = and_true _ _ l.0 in let m = and_true _ _ l.1 in
    let no : nullable T g ≡ false = not_true _ m.0 in
    let b = begun (first T g) xs ys
    (subst (λ (x : Bool). Begins x (first T g) xs ys) no (begins T M D B g l'.0 v xs ys d)) in
    or_same _ _ v ys (pick_yes (chooses (first T g) xs) (run T M rec g xs) (run T M rec h xs) b.0)
    (complete T M D rec B H g l'.0 v xs ys d (stops_left (continuations T g) _ ys w))
complete T M D rec B H (choice g h) e v xs ys (inr d) w =
    let l = and_true _ _ e in let l' = and_true _ _ l.0 in let m = and_true _ _ l.1 in
    let wr = stops_right (continuations T g) _ ys w in
    or_same _ _ v ys (pick_no (chooses (first T g) xs) (run T M rec g xs) (run T M rec h xs)
    (stops_before (nullable T h) (first T g) (first T h) xs ys (begins T M D B h l'.1 v xs ys d) m.1
    (stops_right (continuations T h) _ ys wr)))
    (complete T M D rec B H h l'.1 v xs ys d (stops_left (continuations T h) _ ys wr))
complete T M D rec B H (mapped f g) e v xs ys d w =
    or_bind (run T M rec g xs) (λ a us. ok (f a) us) d.0 ys v ys (complete T M D rec B H g e d.0 xs ys d.2 w)
    (inl (ap (λ (x : _). ok x ys) d.1))
complete T M D rec B H (node f g) e v xs ys d w =
    or_bind (run T M rec g xs) (λ a us. ok (f a (span_between xs us)) us) d.0 ys v ys
    (complete T M D rec B H g e d.0 xs ys d.2 w)
    (inl (ap (λ (x : _). ok x ys) d.1))
complete T M D rec B H (checked f g) e v xs ys d w =
    or_bind (run T M rec g xs) (λ a us. judge (found M (f a (span_between xs us))) a us) v ys v ys
    (complete T M D rec B H g e v xs ys d.1 w)
    (inl (ap (λ (x : Option Fault). judge x v ys) d.0))
complete T M D rec B H (symbol n) e v xs ys d w = H n v xs ys d w
complete T M D rec B H (left_chain f g h) e v xs ys d w =
    let l = and_true _ _ e in let l' = and_true _ _ l.0 in let m = and_true _ _ l.1 in
    let m' = and_true _ _ m.1 in
    let takes : nullable T h ≡ false = not_true (nullable T h) m.0 in
    let wr = stops_right (first T h) (continuations T h ++ continuations T g) ys w in
    looping_or f (first T h) (run T M rec g) (run T M rec h) xs v ys
    (stops_left (first T h) (continuations T h ++ continuations T g) ys w)
    (reach f (first T h) (continuations T g) (continuations T h) (run T M rec g) (run T M rec h)
    (Means M D g) (Means M D h)
    (complete T M D rec B H g l'.0) (complete T M D rec B H h l'.1)
    (λ b us vs q. subst (λ (x : Bool). Begins x (first T h) us vs) takes
    (begins T M D B h l'.1 b us vs q)) m'.0 m'.1 xs v ys d
    (stops_right (continuations T h) (continuations T g) ys wr)
    (stops_left (continuations T h) (continuations T g) ys wr))

-- derived within some depth, read with any fuel
pub complete_within : {N : Type 0} {Value : N → Type 0} (T : Tables N) (M : Mode)
    (body : (n : N) → Grammar N Value (Value n)) → Sane T body
    → (j k : ℕ) (n : N) → IsComplete (Within M body j n) (T.more n) (read T M body k n)
complete_within T M body s zero k n v xs ys d w = absurd d
complete_within T M body s (suc j) zero n v xs ys d w = inr refl
complete_within T M body s (suc j) (suc k) n v xs ys d w =
    complete T M (Within M body j) (read T M body k) (begins_within T M body s j)
    (complete_within T M body s j k) (body n) (s.one n) v xs ys d (stops_sub _ _ ys (s.more n) w)

pub complete_read : {N : Type 0} {Value : N → Type 0} (T : Tables N) (M : Mode)
    (body : (n : N) → Grammar N Value (Value n)) → Sane T body
    → (k : ℕ) (n : N) → IsComplete (Part M body n) (T.more n) (read T M body k n)
complete_read T M body s k n v xs ys d w = complete_within T M body s d.0 k n v xs ys d.1 w

-- ---- one by one, where a client knows more of what comes after
pub reads_token : (s : List ℕ) (v : Token) (xs ys : List Token) → is_among v.class s ≡ true
    → xs ≡ v ∷ ys → OrOut (take_token s xs) v ys
reads_token s v xs ys e h = inl (ap (λ (x : List Token). take_token s x) h ∙ token_complete s v ys e)

pub reads_sequence : {N : Type 0} {Value : N → Type 0} (T : Tables N) (M : Mode)
    (rec : (n : N) → List Token → Outcome (Value n)) {A B : Type 0} (g : Grammar N Value A)
    (h : Grammar N Value B) (v : A × B) (xs ms ys : List Token)
    → OrOut (run T M rec g xs) v.0 ms → OrOut (run T M rec h ms) v.1 ys
    → OrOut (run T M rec (sequence g h) xs) v ys
reads_sequence T M rec g h v xs ms ys p q =
    or_bind (run T M rec g xs) (λ a us. bind (run T M rec h us) (λ b vs. ok (a, b) vs)) v.0 ms v ys p
    (or_bind (run T M rec h ms) (λ b vs. ok (v.0, b) vs) v.1 ys v ys q (inl refl))
