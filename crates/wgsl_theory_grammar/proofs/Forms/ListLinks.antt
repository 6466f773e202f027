-- Lists as they are written, and item by item with the token that closes them.
use Rattle.std.proofs.Common.{◌≡◌, ℕ, true, List, [], ◌∷◌, ◌++◌, inl, inr, refl, sym, ap, subst, ◌∙◌, append_assoc, append-nil}
use Rattle.std.specs.Prelude.{Option, Some, None}
use Rattle.grammar.specs.Tokens.{Token}
use Rattle.grammar.specs.Grammar.{Grammar, Grammar.empty, Mode, is_among, Chain.base, Chain.more, Means}
use Rattle.grammar.specs.Notation.{◌then◌, ◌or◌, ◌gives◌, ◌▹◌, ◌◃◌, ◌means◌, optional, many, several, separated, list, list_or_none}
use Rattle.wgsl_model.specs.Tokens.ClassTable.{SymComma}
use Rattle.wgsl_theory_grammar.specs.Factored.{items_of, items_or_close, more_of, listed, closed_optional}

abbrev pub Relation : {N : Type 0} → (N → Type 0) → Type 1
Relation {N} Value = (n : N) → Value n → List Token → List Token → Type 0

-- what one right side means, another does
abbrev pub Turns : {N : Type 0} {Value : N → Type 0} (M : Mode) (D : Relation Value) {A : Type 0}
    → Grammar N Value A → Grammar N Value A → Type 0
Turns M D {A} g h = (v : A) (xs ys : List Token) → Means M D g v xs ys → Means M D h v xs ys

-- one token of a class
abbrev pub IsToken : ℕ → Token → List Token → List Token → Type 0
IsToken c t xs ys = (is_among t.class (c ∷ []) ≡ true) × (xs ≡ t ∷ ys)

-- ---- closed lists, from the written form on
pub record Closing {N : Type 0} {Value : N → Type 0} (M : Mode) (D : Relation Value) {A : Type 0}
    (close : ℕ) (x : Grammar N Value A) (rest more_items : Grammar N Value (List A)) : Type 0 where
  pub to_rest : Turns M D (items_or_close close x more_items) rest
  pub to_more : Turns M D (more_of close rest) more_items

list_build : {N : Type 0} {Value : N → Type 0} (M : Mode) (D : Relation Value) {A : Type 0}
    (close : ℕ) (x : Grammar N Value A) (rest more_items : Grammar N Value (List A))
    → Closing M D close x rest more_items
    → (xs : List Token) (v : List A) (us : List Token) → Means M D (separated SymComma x) v xs us
    → (tl : List A) (ys : List Token) → Means M D more_items tl us ys
    → Means M D (items_of x more_items) (v ++ tl) xs ys
list_build M D {A} close x rest more_items H xs _ _ (base v us (e, q, d)) tl ys t =
    let p : A × List A = (e, tl) in
    subst (λ (z : List A). Means M D (items_of x more_items) (z ++ tl) xs ys) q (p, refl, (us, d, t))
list_build M D {A} close x rest more_items H xs _ _ (more a b us vs c (p, q, (ms, k, d))) tl ys t =
    let i : A × List A = (p.1, tl) in
    let r : Means M D rest (b ∷ tl) ms ys = H.to_rest (b ∷ tl) ms ys (inr (i, ap (λ (y : A). y ∷ tl) q, (vs, d, t))) in
    let j : Token × List A = (p.0, b ∷ tl) in
    let m : Means M D more_items (b ∷ tl) us ys = H.to_more (b ∷ tl) us ys (inl (j, refl, (ms, k, r))) in
    subst (λ (z : List A). Means M D (items_of x more_items) z xs ys) (sym (append_assoc a (b ∷ []) tl))
    (list_build M D close x rest more_items H xs a us c (b ∷ tl) ys m)

none_more : {N : Type 0} {Value : N → Type 0} (M : Mode) (D : Relation Value) {A : Type 0}
    (close : ℕ) (x : Grammar N Value A) (rest more_items : Grammar N Value (List A))
    → Closing M D close x rest more_items
    → (t : Token) (xs ys : List Token) → IsToken close t xs ys → Means M D more_items [] xs ys
none_more M D close x rest more_items H t xs ys k = H.to_more [] xs ys (inr (t, refl, k))

pub items_in : {N : Type 0} {Value : N → Type 0} (M : Mode) (D : Relation Value) {A : Type 0}
    (close : ℕ) (x : Grammar N Value A) (rest more_items : Grammar N Value (List A))
    → Closing M D close x rest more_items
    → Turns M D (list SymComma x ◃ close) (items_of x more_items)
items_in M D {A} close x rest more_items H v xs ys (p, e, (ms, inl d, k)) =
    subst (λ (z : List A). Means M D (items_of x more_items) z xs ys) (append-nil p.0 ∙ e)
    (list_build M D close x rest more_items H xs p.0 ms d [] ys (none_more M D close x rest more_items H p.1 ms ys k))
items_in M D {A} close x rest more_items H v xs ys (p, e, (ms, inr (q, f, (us, d, c)), k)) =
    let j : Token × List A = (q.1, []) in
    let r : Means M D rest [] ms ys = H.to_rest [] ms ys (inl (p.1, refl, k)) in
    subst (λ (z : List A). Means M D (items_of x more_items) z xs ys) (append-nil q.0 ∙ (f ∙ e))
    (list_build M D close x rest more_items H xs q.0 us d [] ys (H.to_more [] us ys (inl (j, refl, (ms, c, r)))))

pub rest_in : {N : Type 0} {Value : N → Type 0} (M : Mode) (D : Relation Value) {A : Type 0}
    (close : ℕ) (x : Grammar N Value A) (rest more_items : Grammar N Value (List A))
    → Closing M D close x rest more_items
    → Turns M D (list_or_none SymComma x ◃ close) rest
rest_in M D {A} close x rest more_items H v xs ys (p, e, (ms, inl d, k)) = H.to_rest v xs ys
    (inr (items_in M D close x rest more_items H v xs ys (p, e, (ms, d, k))))
rest_in M D {A} close x rest more_items H v xs ys (p, e, (ms, inr d, k)) =
    H.to_rest v xs ys (inl (p.1, d.0 ∙ e, subst (λ (z : List Token). IsToken close p.1 z ys) (sym d.1) k))

pub more_in : {N : Type 0} {Value : N → Type 0} (M : Mode) (D : Relation Value) {A : Type 0}
    (close : ℕ) (x : Grammar N Value A) (rest more_items : Grammar N Value (List A))
    → Closing M D close x rest more_items
    → Turns M D ((SymComma ▹ list_or_none SymComma x or empty []) ◃ close) more_items
more_in M D {A} close x rest more_items H v xs ys (p, e, (ms, inl (q, f, (us, c, d)), k)) =
    let i : List A × Token = (q.1, p.1) in
    let r : Means M D rest q.1 us ys = rest_in M D close x rest more_items H q.1 us ys (i, refl, (ms, d, k)) in
    H.to_more v xs ys (inl (q, f ∙ e, (us, c, r)))
more_in M D {A} close x rest more_items H v xs ys (p, e, (ms, inr d, k)) =
    H.to_more v xs ys (inr (p.1, d.0 ∙ e, subst (λ (z : List Token). IsToken close p.1 z ys) (sym d.1) k))

-- ---- and back
prepend : {N : Type 0} {Value : N → Type 0} (M : Mode) (D : Relation Value) {A : Type 0}
    (x : Grammar N Value A) (e : A) (xs ms us : List Token) (c : Token) → Means M D x e xs ms
    → IsToken SymComma c ms us
    → (v : List A) (ys : List Token) → Means M D (separated SymComma x) v us ys
    → Means M D (separated SymComma x) (e ∷ v) xs ys
prepend M D {A} x e xs ms us c h k _ _ (base v ys (y, q, d)) =
    let i : Token × A = (c, y) in
    subst (λ (z : List A). Means M D (separated SymComma x) (e ∷ z) xs ys) q
    (more (e ∷ []) y ms ys (base (e ∷ []) ms (e, refl, h)) (i, refl, (us, k, d)))
prepend M D {A} x e xs ms us c h k _ _ (more a b vs ys d i) = more (e ∷ a) b vs ys
    (prepend M D x e xs ms us c h k a vs d) i

prepend_list : {N : Type 0} {Value : N → Type 0} (M : Mode) (D : Relation Value) {A : Type 0}
    (x : Grammar N Value A) (e : A) (xs ms us : List Token) (c : Token) → Means M D x e xs ms
    → IsToken SymComma c ms us
    → (v : List A) (ys : List Token) → Means M D (list SymComma x) v us ys
    → Means M D (list SymComma x) (e ∷ v) xs ys
prepend_list M D x e xs ms us c h k v ys (inl d) = inl (prepend M D x e xs ms us c h k v ys d)
prepend_list M D {A} x e xs ms us c h k v ys (inr (p, f, (vs, d, t))) =
    let i : List A × Token = (e ∷ p.0, p.1) in
    inr (i, ap (λ (z : List A). e ∷ z) f, (vs, prepend M D x e xs ms us c h k p.0 vs d, t))

one_item : {N : Type 0} {Value : N → Type 0} (M : Mode) (D : Relation Value) {A : Type 0}
    (x : Grammar N Value A) (e : A) (xs ys : List Token) → Means M D x e xs ys
    → Means M D (separated SymComma x) (e ∷ []) xs ys
one_item M D x e xs ys d = base (e ∷ []) ys (e, refl, d)

-- an item, then a comma and a list or nothing
add_more : {N : Type 0} {Value : N → Type 0} (M : Mode) (D : Relation Value) {A : Type 0}
    (x : Grammar N Value A) (e : A) (xs ms : List Token) → Means M D x e xs ms
    → (v : List A) (ys : List Token) → Means M D (SymComma ▹ list_or_none SymComma x or empty []) v ms ys
    → Means M D (list SymComma x) (e ∷ v) xs ys
add_more M D {A} x e xs ms h v ys (inl (p, f, (us, c, inl d))) =
    subst (λ (z : List A). Means M D (list SymComma x) (e ∷ z) xs ys) f (prepend_list M D x e xs ms us p.0 h c p.1 ys d)
add_more M D {A} x e xs ms h v ys (inl (p, f, (us, c, inr d))) =
    let i : List A × Token = (e ∷ [], p.0) in
    inr (
      i,
      ap (λ (z : List A). e ∷ z) (d.0 ∙ f),
      (ms, one_item M D x e xs ms h, subst (λ (z : List Token). IsToken SymComma p.0 ms z) d.1 c),
    )
add_more M D {A} x e xs ms h v ys (inr d) =
    inl (subst (λ (z : List A). Means M D (separated SymComma x) (e ∷ z) xs ys) d.0
    (subst (λ (z : List Token). Means M D (separated SymComma x) (e ∷ []) xs z) d.1 (one_item M D x e xs ms h)))

pub items_out : {N : Type 0} {Value : N → Type 0} (M : Mode) (D : Relation Value) {A : Type 0}
    (close : ℕ) (x : Grammar N Value A) (more_items : Grammar N Value (List A))
    → Turns M D more_items ((SymComma ▹ list_or_none SymComma x or empty []) ◃ close)
    → Turns M D (items_of x more_items) (list SymComma x ◃ close)
items_out M D {A} close x more_items H v xs ys (p, e, (ms, d, m)) = closed (H p.1 ms ys m)
  where
    closed : Means M D ((SymComma ▹ list_or_none SymComma x or empty []) ◃ close) p.1 ms ys
        → Means M D (list SymComma x ◃ close) v xs ys
    closed (q, f, (us, l, k)) =
        let i : List A × Token = (p.0 ∷ q.0, q.1) in
        (i, ap (λ (z : List A). p.0 ∷ z) f ∙ e, (us, add_more M D x p.0 xs ms d q.0 us l, k))

pub rest_out : {N : Type 0} {Value : N → Type 0} (M : Mode) (D : Relation Value) {A : Type 0}
    (close : ℕ) (x : Grammar N Value A) (more_items : Grammar N Value (List A))
    → Turns M D more_items ((SymComma ▹ list_or_none SymComma x or empty []) ◃ close)
    → Turns M D (items_or_close close x more_items) (list_or_none SymComma x ◃ close)
rest_out M D {A} close x more_items H v xs ys (inl (t, e, k)) =
    let i : List A × Token = ([], t) in (i, e, (xs, inr (refl, refl), k))
rest_out M D close x more_items H v xs ys (inr d) =
    let w = items_out M D close x more_items H v xs ys d in (w.0, w.1, (w.2.0, inl w.2.1, w.2.2))

pub more_out : {N : Type 0} {Value : N → Type 0} (M : Mode) (D : Relation Value) {A : Type 0}
    (close : ℕ) (x : Grammar N Value A) (rest : Grammar N Value (List A))
    → Turns M D rest (list_or_none SymComma x ◃ close)
    → Turns M D (more_of close rest) ((SymComma ▹ list_or_none SymComma x or empty []) ◃ close)
more_out M D {A} close x rest H v xs ys (inl (p, e, (ms, c, r))) = closed (H p.1 ms ys r)
  where
    closed : Means M D (list_or_none SymComma x ◃ close) p.1 ms ys
        → Means M D ((SymComma ▹ list_or_none SymComma x or empty []) ◃ close) v xs ys
    closed (q, f, (us, l, k)) = let i : Token × List A = (p.0, q.0) in (q, f ∙ e, (us, inl (i, refl, (ms, c, l)), k))
more_out M D {A} close x rest H v xs ys (inr (t, e, k)) =
    let i : List A × Token = ([], t) in (i, e, (xs, inr (refl, refl), k))

-- ---- list(X) that no token closes
listed_build : {N : Type 0} {Value : N → Type 0} (M : Mode) (D : Relation Value) {A : Type 0}
    (x : Grammar N Value A) (l : Grammar N Value (List A)) → Turns M D (listed x l) l
    → (xs : List Token) (v : List A) (us : List Token) → Means M D (separated SymComma x) v xs us
    → (tl : List A) (ys : List Token) → Means M D (SymComma ▹ (l or empty []) or empty []) tl us ys
    → Means M D l (v ++ tl) xs ys
listed_build M D {A} x l H xs _ _ (base v us (e, q, d)) tl ys t =
    let p : A × List A = (e, tl) in
    subst (λ (z : List A). Means M D l (z ++ tl) xs ys) q (H (e ∷ tl) xs ys (p, refl, (us, d, t)))
listed_build M D {A} x l H xs _ _ (more a b us vs c (p, q, (ms, k, d))) tl ys t =
    let i : A × List A = (p.1, tl) in
    let r : Means M D l (b ∷ tl) ms ys = H (b ∷ tl) ms ys (i, ap (λ (y : A). y ∷ tl) q, (vs, d, t)) in
    let j : Token × List A = (p.0, b ∷ tl) in
    subst (λ (z : List A). Means M D l z xs ys) (sym (append_assoc a (b ∷ []) tl))
    (listed_build M D x l H xs a us c (b ∷ tl) ys (inl (j, refl, (ms, k, inl r))))

pub listed_in : {N : Type 0} {Value : N → Type 0} (M : Mode) (D : Relation Value) {A : Type 0}
    (x : Grammar N Value A) (l : Grammar N Value (List A)) → Turns M D (listed x l) l
    → Turns M D (list SymComma x) l
listed_in M D {A} x l H v xs ys (inl d) = subst (λ (z : List A). Means M D l z xs ys) (append-nil v)
    (listed_build M D x l H xs v ys d [] ys (inr (refl, refl)))
listed_in M D {A} x l H v xs ys (inr (p, e, (ms, d, c))) =
    let j : Token × List A = (p.1, []) in
    subst (λ (z : List A). Means M D l z xs ys) (append-nil p.0 ∙ e)
    (listed_build M D x l H xs p.0 ms d [] ys (inl (j, refl, (ys, c, inr (refl, refl)))))

pub listed_out : {N : Type 0} {Value : N → Type 0} (M : Mode) (D : Relation Value) {A : Type 0}
    (x : Grammar N Value A) (l : Grammar N Value (List A)) → Turns M D l (list SymComma x)
    → Turns M D (listed x l) (list SymComma x)
listed_out M D {A} x l H v xs ys (p, e, (ms, d, inl (q, f, (us, c, inl r)))) =
    subst (λ (z : List A). Means M D (list SymComma x) z xs ys) (ap (λ (z : List A). p.0 ∷ z) f ∙ e)
    (prepend_list M D x p.0 xs ms us q.0 d c q.1 ys (H q.1 us ys r))
listed_out M D {A} x l H v xs ys (p, e, (ms, d, inl (q, f, (us, c, inr r)))) =
    subst (λ (z : List A). Means M D (list SymComma x) z xs ys) (ap (λ (z : List A). p.0 ∷ z) f ∙ e)
    (add_more M D x p.0 xs ms d q.1 ys (inl (q, refl, (us, c, inr r))))
listed_out M D {A} x l H v xs ys (p, e, (ms, d, inr r)) =
    subst (λ (z : List A). Means M D (list SymComma x) z xs ys) e (add_more M D x p.0 xs ms d p.1 ys (inr r))

-- ---- a part that may be left out, with the token that closes it
pub optional_in : {N : Type 0} {Value : N → Type 0} (M : Mode) (D : Relation Value) {A : Type 0}
    (close : ℕ) (x : Grammar N Value A) → Turns M D (optional x ◃ close) (closed_optional close x)
optional_in M D {A} close x v xs ys (p, e, (ms, inl (a, f, d), k)) =
    let i : A × Token = (a, p.1) in inr (a, f ∙ e, (i, refl, (ms, d, k)))
optional_in M D close x v xs ys (p, e, (ms, inr d, k)) =
    inl (p.1, d.0 ∙ e, subst (λ (z : List Token). IsToken close p.1 z ys) (sym d.1) k)

pub optional_out : {N : Type 0} {Value : N → Type 0} (M : Mode) (D : Relation Value) {A : Type 0}
    (close : ℕ) (x : Grammar N Value A) → Turns M D (closed_optional close x) (optional x ◃ close)
optional_out M D {A} close x v xs ys (inl (t, e, k)) =
    let i : Option A × Token = (None, t) in (i, e, (xs, inr (refl, refl), k))
optional_out M D {A} close x v xs ys (inr (a, e, (p, f, (ms, d, k)))) =
    let i : Option A × Token = (Some p.0, p.1) in
    (i, ap (λ (z : A). Some z) f ∙ e, (ms, inl (p.0, refl, d), k))

-- ---- one part after another, from the front
pub many_back : {N : Type 0} {Value : N → Type 0} (M : Mode) (D : Relation Value) {A : Type 0}
    (g : Grammar N Value A) (Q : List A → List Token → Type 0)
    → ((x : A) (us ms : List Token) → Means M D g x us ms → (tl : List A) → Q tl ms → Q (x ∷ tl) us)
    → (xs : List Token) (v : List A) (us : List Token) → Means M D (many g) v xs us → (tl : List A)
    → Q tl us → Q (v ++ tl) xs
many_back M D {A} g Q S xs _ _ (base v us (e, w)) tl q = subst (λ (z : List A). Q (z ++ tl) xs) e
    (subst (λ (z : List Token). Q tl z) (sym w) q)
many_back M D {A} g Q S xs _ _ (more a b us vs c h) tl q =
    subst (λ (z : List A). Q z xs) (sym (append_assoc a (b ∷ []) tl))
    (many_back M D g Q S xs a us c (b ∷ tl) (S b us vs h tl q))

pub many_front : {N : Type 0} {Value : N → Type 0} (M : Mode) (D : Relation Value) {A : Type 0}
    (g : Grammar N Value A) (x : A) (xs us : List Token) → Means M D g x xs us
    → (v : List A) (ys : List Token) → Means M D (many g) v us ys → Means M D (many g) (x ∷ v) xs ys
many_front M D {A} g x xs us d _ _ (base v ys (e, w)) =
    subst (λ (z : List A). Means M D (many g) (x ∷ z) xs ys) e
    (subst (λ (z : List Token). Means M D (many g) (x ∷ []) xs z) w (more [] x xs us (base [] xs (refl, refl)) d))
many_front M D g x xs us d _ _ (more a b vs ys c h) = more (x ∷ a) b vs ys (many_front M D g x xs us d a vs c) h

pub many_none : {N : Type 0} {Value : N → Type 0} (M : Mode) (D : Relation Value) {A : Type 0}
    (g : Grammar N Value A) (xs : List Token) → Means M D (many g) [] xs xs
many_none M D g xs = base [] xs (refl, refl)

-- up to the token that closes
pub until_in : {N : Type 0} {Value : N → Type 0} (M : Mode) (D : Relation Value) {A : Type 0}
    (close : ℕ) (x : Grammar N Value A) (rest : Grammar N Value (List A))
    → Turns M D (close means [] or x then rest gives λ p. p.0 ∷ p.1) rest → Turns M D (many x ◃ close) rest
until_in M D {A} close x rest H v xs ys (p, e, (ms, d, k)) =
    subst (λ (z : List A). Means M D rest z xs ys) (append-nil p.0 ∙ e)
    (many_back M D x (λ tl us. Means M D rest tl us ys) (λ y us vs g tl q. let i : A × List A = (y, tl) in
    H (y ∷ tl) us ys (inr (i, refl, (vs, g, q)))) xs p.0 ms d [] (H [] ms ys (inl (p.1, refl, k))))

pub until_out : {N : Type 0} {Value : N → Type 0} (M : Mode) (D : Relation Value) {A : Type 0}
    (close : ℕ) (x : Grammar N Value A) (rest : Grammar N Value (List A))
    → Turns M D rest (many x ◃ close)
    → Turns M D (close means [] or x then rest gives λ p. p.0 ∷ p.1) (many x ◃ close)
until_out M D {A} close x rest H v xs ys (inl (t, e, k)) =
    let i : List A × Token = ([], t) in (i, e, (xs, many_none M D x xs, k))
until_out M D {A} close x rest H v xs ys (inr (p, e, (ms, d, r))) = closed (H p.1 ms ys r)
  where
    closed : Means M D (many x ◃ close) p.1 ms ys → Means M D (many x ◃ close) v xs ys
    closed (q, f, (us, l, k)) =
        let i : List A × Token = (p.0 ∷ q.0, q.1) in
        (i, ap (λ (z : List A). p.0 ∷ z) f ∙ e, (us, many_front M D x p.0 xs ms d q.0 us l, k))

-- one part at least, and the others up to the token that closes
pub several_in : {N : Type 0} {Value : N → Type 0} (M : Mode) (D : Relation Value) {A : Type 0}
    (close : ℕ) (x : Grammar N Value A) (rest : Grammar N Value (List A))
    → Turns M D (close means [] or x then rest gives λ p. p.0 ∷ p.1) rest
    → Turns M D (several x ◃ close) (x then rest gives λ p. p.0 ∷ p.1)
several_in M D {A} close x rest H v xs ys (p, e, (ms, d, k)) =
    subst (λ (z : List A). Means M D (x then rest gives λ p. p.0 ∷ p.1) z xs ys)
    (append-nil p.0 ∙ e) (go xs p.0 ms d [] (H [] ms ys (inl (p.1, refl, k))))
  where
    go : (xs : List Token) (v : List A) (us : List Token) → Means M D (several x) v xs us → (tl : List A)
        → Means M D rest tl us ys → Means M D (x then rest gives λ p. p.0 ∷ p.1) (v ++ tl) xs ys
    go xs _ _ (base v us (y, q, c)) tl r =
        let i : A × List A = (y, tl) in
        subst (λ (z : List A). Means M D (x then rest gives λ p. p.0 ∷ p.1) (z ++ tl) xs ys) q
        (i, refl, (us, c, r))
    go xs _ _ (more a b us vs c h) tl r =
        let i : A × List A = (b, tl) in
        subst (λ (z : List A). Means M D (x then rest gives λ p. p.0 ∷ p.1) z xs ys)
        (sym (append_assoc a (b ∷ []) tl))
        (go xs a us c (b ∷ tl) (H (b ∷ tl) us ys (inr (i, refl, (vs, h, r)))))

pub several_out : {N : Type 0} {Value : N → Type 0} (M : Mode) (D : Relation Value) {A : Type 0}
    (close : ℕ) (x : Grammar N Value A) (rest : Grammar N Value (List A))
    → Turns M D rest (many x ◃ close) → Turns M D (x then rest gives λ p. p.0 ∷ p.1) (several x ◃ close)
several_out M D {A} close x rest H v xs ys (p, e, (ms, d, r)) = closed (H p.1 ms ys r)
  where
    front : (v : List A) (us : List Token) → Means M D (many x) v ms us → Means M D (several x) (p.0 ∷ v) xs us
    front _ _ (base v us (q, w)) =
        subst (λ (z : List A). Means M D (several x) (p.0 ∷ z) xs us) q
        (subst (λ (z : List Token). Means M D (several x) (p.0 ∷ []) xs z) w (base (p.0 ∷ []) ms (p.0, refl, d)))
    front _ _ (more a b us vs c h) = more (p.0 ∷ a) b us vs (front a us c) h

    closed : Means M D (many x ◃ close) p.1 ms ys → Means M D (several x ◃ close) v xs ys
    closed (q, f, (us, l, k)) =
        let i : List A × Token = (p.0 ∷ q.0, q.1) in
        (i, ap (λ (z : List A). p.0 ∷ z) f ∙ e, (us, front q.0 us l, k))
