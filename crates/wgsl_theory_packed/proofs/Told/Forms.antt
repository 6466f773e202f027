-- Forms that are told apart, whatever follows them.
use Rattle.std.proofs.Common.{ℕ, ◌≡◌, ◌==◌, ◌<◌, ◌^◌, refl, sym, ap, subst, ◌∙◌, Bool, true, false, if◌then◌else◌, List, [], ◌∷◌, ◌++◌, append_assoc, append-nil, length, take, drop, get_or, Option, Some, None, arith, length-append}
use Rattle.std.proofs.Math.Seq.{take-append_seam, drop-append_seam}
use Rattle.std.proofs.lemmas.List.{append_cancel_left}
use Rattle.std.proofs.lemmas.Bool.{eqb-false}
use Rattle.std.proofs.lemmas.Nat.{from_le_bytes-to_le_bytes_8}
use Rattle.std.specs.Int.{w64, from_le_bytes}
use Rattle.std.specs.Option.{IfSome}
use Rattle.grammar.specs.Tokens.{Span}
use Rattle.wgsl_model_packed.specs.Rules.{nothing_rule, void_item_rule}
use Rattle.wgsl_model_packed.specs.Printing.{packed_number, packed_text, packed_span}
use Rattle.wgsl_model_packed.specs.Expressions.{packed_optional, rule_before, packed_items, packed_list}
use Rattle.wgsl_theory_packed.specs.Fits.{Every, SpanFits, HaveOwnForms}

-- where two forms of fewer than 2^64 bytes are equal, whatever follows each, E holds, and what
-- follows
-- is equal
pub record Tells (f g : List ℕ) (E : Type 0) : Type 0 where
  pub told : (r s : List ℕ) → length (f ++ r) < 2 ^ 64 → f ++ r ≡ g ++ s → E × (r ≡ s)

-- the form of a tree is told from those of others
abbrev pub IsTold : {X : Type 0} → (X → Type 0) → (X → List ℕ) → X → Type 0
IsTold {X} Fit packed x = (y : X) → Fit y → Tells (packed x) (packed y) (x ≡ y)

-- the forms of trees that fit are told apart
abbrev pub AreTold : {X : Type 0} → (X → Type 0) → (X → List ℕ) → Type 0
AreTold {X} Fit packed = (x : X) → Fit x → IsTold Fit packed x

-- so a tree that fits is the only one with its form
pub own_forms : {X : Type 0} (Fit : X → Type 0) (packed : X → List ℕ) → AreTold Fit packed → HaveOwnForms Fit packed
own_forms Fit packed told a b h k small e = ((told a h b k).told [] [] (rw append-nil small)
    (append-nil (packed a) ∙ e ∙ sym (append-nil (packed b)))).0

-- the same forms, written otherwise
pub tells_of : {f g h k : List ℕ} {E : Type 0} → f ≡ h → g ≡ k → Tells f g E → Tells h k E
tells_of {g = g} {h = h} {E = E} p q one =
    subst (λ (k : List ℕ). Tells h k E) q (subst (λ (h : List ℕ). Tells h g E) p one)

-- what follows from what is told
pub so : {f g : List ℕ} {D E : Type 0} → (D → E) → Tells f g D → Tells f g E
so c one = record { told = λ r s small e. (let d = one.told r s small e in (c d.0, d.1)) }

-- ---- parts
-- the end of a form has fewer bytes
ends_small : (f r : List ℕ) → length (f ++ r) < 2 ^ 64 → length r < 2 ^ 64
ends_small f r small = omega (arith, length-append f r)

-- forms of two parts
infixr 10 ◌▸◌
pub ◌▸◌ : {f g h k : List ℕ} {D E : Type 0} → Tells f g D → Tells h k E → Tells (f ++ h) (g ++ k) (D × E)
◌▸◌ {f} {g} {h} {k} one two = record {
  told = λ r s small e. (
      let all : length (f ++ (h ++ r)) < 2 ^ 64 = rw append_assoc at small in
      let first = one.told (h ++ r) (k ++ s) all (sym (append_assoc f h r) ∙ e ∙ append_assoc g k s) in
      let second = two.told r s (ends_small f (h ++ r) all) first.1 in
      ((first.0, second.0), second.1));
}

-- the same form of one thing
pub same : {X : Type 0} {f : List ℕ} {x : X} → Tells f f (x ≡ x)
same {f = f} = record { told = λ r s small e. (refl, append_cancel_left f r s e) }

-- rules before forms that are told apart without them
pub after_rule : {m n : ℕ} {f g : List ℕ} {E : Type 0} → Tells f g E → Tells (m ∷ f) (n ∷ g) E
after_rule one = record { told = λ r s small e. one.told r s (omega (arith, small)) (ap (drop 1) e) }

-- two rules
pub told_rule : (m n : ℕ) → Tells (m ∷ []) (n ∷ []) (m ≡ n)
told_rule m n = record { told = λ r s small e. (ap (λ l. get_or l 0 0) e, ap (drop 1) e) }

-- other rules before forms
pub apart : {m n : ℕ} {f g : List ℕ} {E : Type 0} → (m == n) ≡ false → Tells (m ∷ f) (n ∷ g) E
apart {m} {n} h = record { told = λ r s small e. absurd (eqb-false m n h (ap (λ l. get_or l 0 0) e)) }

-- told the other way round
pub turned : {X : Type 0} {f g : List ℕ} {x y : X} → Tells f g (x ≡ y) → Tells g f (y ≡ x)
turned one = record {
  told = λ r s small e. (let d = one.told s r (rw e at small) (sym e) in (sym d.0, sym d.1));
}

-- nodes that are made of one part, and of more
pub of_one : {A X : Type 0} {f g : List ℕ} {a b : A} (node : A → X) → Tells f g (a ≡ b) → Tells f g (node a ≡ node b)
of_one node = so (λ d i. node (d i))

pub of_two : {A B X : Type 0} {f g : List ℕ} {a c : A} {b d : B} (node : A → B → X)
    → Tells f g ((a ≡ c) × (b ≡ d)) → Tells f g (node a b ≡ node c d)
of_two node = so (λ d i. node (d.0 i) (d.1 i))

pub of_three : {A B C X : Type 0} {f g : List ℕ} {a c : A} {b d : B} {p q : C} (node : A → B → C → X)
    → Tells f g ((a ≡ c) × ((b ≡ d) × (p ≡ q))) → Tells f g (node a b p ≡ node c d q)
of_three node = so (λ d i. node (d.0 i) (d.1.0 i) (d.1.1 i))

pub of_four : {A B C D X : Type 0} {f g : List ℕ} {a c : A} {b d : B} {p q : C} {v w : D} (node : A → B → C → D → X)
    → Tells f g ((a ≡ c) × ((b ≡ d) × ((p ≡ q) × (v ≡ w)))) → Tells f g (node a b p v ≡ node c d q w)
of_four node = so (λ d i. node (d.0 i) (d.1.0 i) (d.1.1.0 i) (d.1.1.1 i))

-- ---- numbers, texts and spans
pub told_number : AreTold (λ n. n < 2 ^ 64) packed_number
told_number m h n k = record {
  told = λ r s small e. (
    sym (from_le_bytes-to_le_bytes_8 m h) ∙ ap (λ l. from_le_bytes w64 (take 8 l)) e
        ∙ from_le_bytes-to_le_bytes_8 n k,
    ap (drop 8) e,
  );
}

-- texts of one length
told_bytes : (a b r s : List ℕ) → length a ≡ length b → a ++ r ≡ b ++ s → (a ≡ b) × (r ≡ s)
told_bytes a b r s l e = (
  sym (take-append_seam a r) ∙ (λ i. take (l i) (e i)) ∙ take-append_seam b s,
  sym (drop-append_seam a r) ∙ (λ i. drop (l i) (e i)) ∙ drop-append_seam b s,
)

pub told_text : (a b : List ℕ) → Tells (packed_text a) (packed_text b) (a ≡ b)
told_text a b = record {
  told = λ r s small e. (
      let size = (told_number (length a) (omega (arith, small, length-append a r)) (length b)
      (omega (arith, small, ap length e, length-append b s))).told (a ++ r) (b ++ s) small e in
      told_bytes a b r s size.0 size.1);
}

pub told_span : AreTold SpanFits packed_span
told_span x h y k = of_two (λ (start end : ℕ). record { start = start; end = end })
    (told_number x.start h.0 y.start k.0 ▸ told_number x.end h.1 y.end k.1)

-- ---- what may be left out, and lists
pub told_optional : {X : Type 0} {Fit : X → Type 0} {packed : X → List ℕ} (rule : ℕ) → (rule == nothing_rule) ≡ false
    → AreTold Fit packed → AreTold (λ o. IfSome o Fit) (packed_optional rule packed)
told_optional rule differs item None h None k = same
told_optional rule differs item None h (Some y) k = turned (apart differs)
told_optional rule differs item (Some x) h None k = apart differs
told_optional rule differs item (Some x) h (Some y) k = of_one (λ x. Some x) (after_rule (item x h y k))

-- nothing is asked of what may be left out
any : {X : Type 0} (o : Option X) → IfSome o (λ x. Unit {0})
any None = tt
any (Some x) = tt

-- a word that may be left out
pub told_further_word : {X : Type 0} {packed : X → List ℕ} (rule : ℕ) → (rule == nothing_rule) ≡ false
    → ((x y : X) → Tells (packed x) (packed y) (x ≡ y))
    → (a b : Option X) → Tells (packed_optional rule packed a) (packed_optional rule packed b) (a ≡ b)
told_further_word {packed = packed} rule differs item a b =
    told_optional {Fit = λ x. Unit {0}} rule differs (λ x h y k. item x y) a (any a) b (any b)

-- items, one before others
told_items : {X : Type 0} {Fit : X → Type 0} {packed : X → List ℕ} (before last : ℕ) → (before == last) ≡ false
    → AreTold Fit packed → (x : X) (xs : List X) → Fit x → Every Fit xs → (y : X) (ys : List X) → Fit y → Every Fit ys
    → Tells (packed_items before last packed (x ∷ xs)) (packed_items before last packed (y ∷ ys)) (x ∷ xs ≡ y ∷ ys)
told_items before last differs item x [] h hs y [] k ks = of_two ◌∷◌ (after_rule (item x h y k ▸ same))
told_items before last differs item x [] h hs y (w ∷ ys) k ks = turned (apart differs)
told_items before last differs item x (v ∷ xs) h hs y [] k ks = apart differs
told_items before last differs item x (v ∷ xs) h hs y (w ∷ ys) k ks = of_two ◌∷◌ (after_rule
    (item x h y k ▸ told_items before last differs item v xs hs.0 hs.1 w ys ks.0 ks.1))

-- the rule of an item is not that of no items
item_rule : {X : Type 0} (none before last : ℕ) (xs : List X) → (none == before) ≡ false
    → (none == last) ≡ false → (none == rule_before before last xs) ≡ false
item_rule none before last [] b l = l
item_rule none before last (x ∷ xs) b l = b

pub told_list : {X : Type 0} {Fit : X → Type 0} {packed : X → List ℕ} (none before last : ℕ) → (none == before) ≡ false
    → (none == last) ≡ false → (before == last) ≡ false
    → AreTold Fit packed → AreTold (Every Fit) (packed_list none before last packed)
told_list none before last b l differs item [] h [] k = same
told_list none before last b l differs item [] h (y ∷ ys) k = apart (item_rule none before last ys b l)
told_list none before last b l differs item (x ∷ xs) h [] k = turned (apart (item_rule none before last xs b l))
told_list none before last b l differs item (x ∷ xs) h (y ∷ ys) k =
    told_items before last differs item x xs h.0 h.1 y ys k.0 k.1

-- ---- items that may be empty
-- an item before others, by whether it is empty: its span, and what follows it
abbrev pub item_form : ℕ → Bool → Span → List ℕ → List ℕ → List ℕ
item_form rule empty span more rest = if empty then void_item_rule ∷ (packed_span span ++ more)
    else rule ∷ (packed_span span ++ rest)

-- items are told apart, if there is only one that is empty
pub told_item : {X Y : Type 0} {f g p q : List ℕ} {xs ys : Y} (rule : ℕ) → (void_item_rule == rule) ≡ false
    → (empty : X) (before : X → Span → Y → Y) (b c : Bool) (x y : X) → (b ≡ true → x ≡ empty) → (c ≡ true → y ≡ empty)
    → (s t : Span) → SpanFits s → SpanFits t → Tells f g (xs ≡ ys) → Tells p q ((x ≡ y) × (xs ≡ ys))
    → Tells (item_form rule b s f p) (item_form rule c t g q) (before x s xs ≡ before y t ys)
told_item rule differs empty before true true x y h k s t u v more rest =
    so (λ d i. before ((h refl ∙ sym (k refl)) i) (d.0 i) (d.1 i)) (after_rule (told_span s u t v ▸ more))
told_item rule differs empty before false false x y h k s t u v more rest =
    so (λ d i. before (d.1.0 i) (d.0 i) (d.1.1 i)) (after_rule (told_span s u t v ▸ rest))
told_item rule differs empty before true false x y h k s t u v more rest = apart differs
told_item rule differs empty before false true x y h k s t u v more rest = turned (apart differs)
