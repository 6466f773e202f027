-- Attributes, and what is after them: both forms derive the same, and a place begins with the
-- first attribute.
use Rattle.std.proofs.Common.{◌≡◌, ℕ, List, [], ◌∷◌, ◌++◌, ◌⊎◌, inl, inr, refl, sym, ap, subst, ◌∙◌}
use Rattle.grammar.specs.Tokens.{Token, Span, last_end, span_between}
use Rattle.grammar.specs.Grammar.{Mode, Chain.base, Chain.more, Means, Part}
use Rattle.grammar.specs.Notation.{◌◃◌}
use Rattle.grammar.proofs.Reading.Depth.{Kept, roll, unroll}
use Rattle.wgsl_model.specs.Trees.Spanned.{Spanned}
use Rattle.wgsl_model.specs.Trees.Attributes.{Attribute, Attributes}
use Rattle.wgsl_model.specs.Grammar.Checks.{AttributeParts}
use Rattle.wgsl_model.specs.Grammar.StatementParts.{attributes, leading, led}
use Rattle.wgsl_model.specs.Grammar.Symbols.{Dialect, Dialect.parsed, Dialect.recognized, Symbol.attribute, Rule}
use Rattle.wgsl_model.specs.Grammar.Written.{rules}
use Rattle.wgsl_theory_grammar.specs.Factored.{Further.attribute_list, FactoredSymbol.of, FactoredSymbol.further, FactoredRule, attributes_before, leading_list, leading_before, either_after, items_after, begun_by, factored}
use Rattle.wgsl_theory_grammar.proofs.Forms.ListLinks.{IsToken}
use Rattle.wgsl_theory_grammar.proofs.Forms.Taking.{takes_one}
use Rattle.wgsl_theory_grammar.proofs.Forms.Levels.{Runs, runs_join, span_runs}
use Rattle.wgsl_theory_grammar.proofs.Forms.Lifted.{WrittenRelation, FactoredRelation, lifted_out}
use Rattle.wgsl_theory_grammar.proofs.Forms.Shifts.{Meant}
use Rattle.wgsl_theory_grammar.proofs.Forms.LevelLinks.{WrittenPart, ReadPart, taking, written_takes, never_empty, body_takes}

-- ---- A* as it is written, and as a symbol
pub record Listed (M : Mode) (D : WrittenRelation) (E : FactoredRelation) : Type 0 where
  pub to_list : Kept (Means M D attributes) (E (further attribute_list))
  pub from_list : Kept (E (further attribute_list)) (Means M D attributes)

pub read_list : (L : Dialect) (M : Mode) → Listed M (ReadPart L M) (Part M (factored L))
read_list L M = record {
  to_list = roll M (factored L) (further attribute_list);
  from_list = unroll M (factored L) (further attribute_list);
}

pub meant_list : (L : Dialect) (M : Mode) → Listed M (WrittenPart L M) (Meant L M (WrittenPart L M))
meant_list L M = record { to_list = λ v xs ys d. d; from_list = λ v xs ys d. d }

pub leading_to : (L : Dialect) (M : Mode) (D : WrittenRelation) (E : FactoredRelation)
    → Listed M D E → Kept (Means M D (leading L)) (Means M E (leading_list L))
leading_to parsed M D E K v xs ys d = K.to_list v xs ys d
leading_to recognized M D E K v xs ys d = d

pub leading_from : (L : Dialect) (M : Mode) (D : WrittenRelation) (E : FactoredRelation)
    → Listed M D E → Kept (Means M E (leading_list L)) (Means M D (leading L))
leading_from parsed M D E K v xs ys d = K.from_list v xs ys d
leading_from recognized M D E K v xs ys d = d

pub led_to : (L : Dialect) (M : Mode) (D : WrittenRelation) (E : FactoredRelation) → Listed M D E
    → {A B : Type 0} (make : Attributes → A → B) (g : Rule A) (h : FactoredRule A)
    → Kept (Means M D g) (Means M E h)
    → Kept (Means M D (led L make g)) (Means M E (leading_before L make h))
led_to L M D E K make g h H v xs ys (p, e, (ms, d, x)) = (p, e, (ms, leading_to L M D E K p.0 xs ms d, H p.1 ms ys x))

pub led_from : (L : Dialect) (M : Mode) (D : WrittenRelation) (E : FactoredRelation) → Listed M D E
    → {A B : Type 0} (make : Attributes → A → B) (g : Rule A) (h : FactoredRule A)
    → Kept (Means M E h) (Means M D g)
    → Kept (Means M E (leading_before L make h)) (Means M D (led L make g))
led_from L M D E K make g h H v xs ys (p, e, (ms, d, x)) =
    (p, e, (ms, leading_from L M D E K p.0 xs ms d, H p.1 ms ys x))

-- ---- another part after the same attributes
pub leading_kept : (L : Dialect) (M : Mode) (E : FactoredRelation) {A B : Type 0}
    (make : Attributes → A → B) (g h : FactoredRule A) → Kept (Means M E g) (Means M E h)
    → Kept (Means M E (leading_before L make g)) (Means M E (leading_before L make h))
leading_kept L M E make g h H v xs ys (p, e, (ms, d, x)) = (p, e, (ms, d, H p.1 ms ys x))

pub attributes_kept : (M : Mode) (E : FactoredRelation) {A B : Type 0} (make : Attributes → A → B)
    (g h : FactoredRule A) → Kept (Means M E g) (Means M E h)
    → Kept (Means M E (attributes_before make g)) (Means M E (attributes_before make h))
attributes_kept M E make g h H v xs ys (p, e, (ms, d, x)) = (p, e, (ms, d, H p.1 ms ys x))

-- the part, and a token after it
pub leading_closed : (L : Dialect) (M : Mode) (E : FactoredRelation) {A B : Type 0}
    (make : Attributes → A → B) (g : FactoredRule A) (c : ℕ) (t : Token) (v : B) (xs ms ys : List Token)
    → Means M E (leading_before L make g) v xs ms → IsToken c t ms ys
    → Means M E (leading_before L make (g ◃ c)) v xs ys
leading_closed L M E {A} make g c t v xs ms ys (p, e, (us, d, x)) k =
    let i : A × Token = (p.1, t) in (p, e, (us, d, (i, refl, (ms, x, k))))

-- ---- one of two after attributes
pub either_first : (L : Dialect) (M : Mode) (E : FactoredRelation) {A B : Type 0}
    (make : Attributes → A → B) (g h : FactoredRule A)
    → Kept (Means M E (attributes_before make g)) (Means M E (either_after L make g h))
either_first parsed M E make g h v xs ys (p, e, (ms, d, x)) = (p, e, (ms, d, inl x))
either_first recognized M E make g h v xs ys d = inl d

pub either_second : (L : Dialect) (M : Mode) (E : FactoredRelation) {A B : Type 0}
    (make : Attributes → A → B) (g h : FactoredRule A)
    → Kept (Means M E (leading_before L make h)) (Means M E (either_after L make g h))
either_second parsed M E make g h v xs ys (p, e, (ms, d, x)) = (p, e, (ms, d, inr x))
either_second recognized M E make g h v xs ys d = inr d

pub either_of : (L : Dialect) (M : Mode) (E : FactoredRelation) {A B : Type 0} (make : Attributes → A → B)
    (g h : FactoredRule A) (v : B) (xs ys : List Token) → Means M E (either_after L make g h) v xs ys
    → Means M E (attributes_before make g) v xs ys ⊎ Means M E (leading_before L make h) v xs ys
either_of parsed M E make g h v xs ys (p, e, (ms, d, inl x)) = inl (p, e, (ms, d, x))
either_of parsed M E make g h v xs ys (p, e, (ms, d, inr x)) = inr (p, e, (ms, d, x))
either_of recognized M E make g h v xs ys d = d

-- ---- an item of two kinds after attributes and the rest, or what is no item
module _ (L : Dialect) (M : Mode) (E : FactoredRelation) {A R B : Type 0}
    (put : (A × Span) × R → Attributes → B) (g h : FactoredRule A) (rest : FactoredRule R)
    (other : FactoredRule (Attributes → B)) where
  abbrev pub Items : B → List Token → List Token → Type 0
  Items v xs ys = Means M E (items_after L put g h rest other) v xs ys

  pub data ItemsOf : B → List Token → List Token → Type 0 where
    first_item : (a : Attributes) (u : A) (r : R) (xs ks ms ys : List Token)
        → E (further attribute_list) a xs ks → Means M E g u ks ms → Means M E rest r ms ys
        → ItemsOf (put ((u, span_between ks ms), r) a) xs ys
    second_item : (a : Attributes) (u : A) (r : R) (xs ks ms ys : List Token)
        → Means M E (leading_list L) a xs ks → Means M E h u ks ms → Means M E rest r ms ys
        → ItemsOf (put ((u, span_between ks ms), r) a) xs ys
    no_item : (a : Attributes) (f : Attributes → B) (xs ks ys : List Token)
        → Means M E (leading_list L) a xs ks → Means M E other f ks ys → ItemsOf (f a) xs ys

pub items_in : (L : Dialect) (M : Mode) (E : FactoredRelation) {A R B : Type 0}
    (put : (A × Span) × R → Attributes → B) (g h : FactoredRule A) (rest : FactoredRule R)
    (other : FactoredRule (Attributes → B)) (v : B) (xs ys : List Token)
    → ItemsOf L M E put g h rest other v xs ys → Items L M E put g h rest other v xs ys
items_in parsed M E {A} {R} {B} put g h rest other _ _ _ (first_item a u r xs ks ms ys d x y) =
    let p : (A × Span) × R = ((u, span_between ks ms), r) in
    let i : Attributes × (Attributes → B) = (a, put p) in
    (i, refl, (ks, d, inr (p, refl, (ms, (u, refl, inl x), y))))
items_in parsed M E {A} {R} {B} put g h rest other _ _ _ (second_item a u r xs ks ms ys d x y) =
    let p : (A × Span) × R = ((u, span_between ks ms), r) in
    let i : Attributes × (Attributes → B) = (a, put p) in
    (i, refl, (ks, d, inr (p, refl, (ms, (u, refl, inr x), y))))
items_in parsed M E {A} {R} {B} put g h rest other _ _ _ (no_item a f xs ks ys d x) =
    let i : Attributes × (Attributes → B) = (a, f) in (i, refl, (ks, d, inl x))
items_in recognized M E {A} {R} {B} put g h rest other _ _ _ (first_item a u r xs ks ms ys d x y) =
    let p : (A × Span) × R = ((u, span_between ks ms), r) in
    let i : Attributes × (Attributes → B) = (a, put p) in
    inl (i, refl, (ks, d, (p, refl, (ms, (u, refl, x), y))))
items_in recognized M E {A} {R} {B} put g h rest other _ _ _ (second_item a u r xs ks ms ys d x y) =
    let p : (A × Span) × R = ((u, span_between ks ms), r) in
    let i : Attributes × (Attributes → B) = (a, put p) in
    inr (i, refl, (ks, d, inr (p, refl, (ms, (u, refl, x), y))))
items_in recognized M E {A} {R} {B} put g h rest other _ _ _ (no_item a f xs ks ys d x) =
    let i : Attributes × (Attributes → B) = (a, f) in inr (i, refl, (ks, d, inl x))

pub items_out : (L : Dialect) (M : Mode) (E : FactoredRelation) {A R B : Type 0}
    (put : (A × Span) × R → Attributes → B) (g h : FactoredRule A) (rest : FactoredRule R)
    (other : FactoredRule (Attributes → B)) (v : B) (xs ys : List Token)
    → Items L M E put g h rest other v xs ys → ItemsOf L M E put g h rest other v xs ys
items_out L M E {A} {R} {B} put g h rest other v xs ys d = go L d
  where
    taken : (L : Dialect) (i : Attributes × (Attributes → B)) (p : (A × Span) × R) (u : A) (ks ms : List Token)
        → i.1 i.0 ≡ v → put p ≡ i.1 → (u, span_between ks ms) ≡ p.0
        → ItemsOf L M E put g h rest other (put ((u, span_between ks ms), p.1) i.0) xs ys
        → ItemsOf L M E put g h rest other v xs ys
    taken L i p u ks ms e f q w =
        subst (λ (z : B). ItemsOf L M E put g h rest other z xs ys)
        (ap (λ (z : A × Span). put (z, p.1) i.0) q ∙ (ap (λ (z : Attributes → B). z i.0) f ∙ e)) w

    go : (L : Dialect) → Items L M E put g h rest other v xs ys → ItemsOf L M E put g h rest other v xs ys
    go parsed (i, e, (ks, d, inl x)) = subst (λ (z : B). ItemsOf parsed M E put g h rest other z xs ys) e
        (no_item i.0 i.1 xs ks ys d x)
    go parsed (i, e, (ks, d, inr (p, f, (ms, (u, q, inl x), y)))) = taken parsed i p u ks ms e f q
        (first_item i.0 u p.1 xs ks ms ys d x y)
    go parsed (i, e, (ks, d, inr (p, f, (ms, (u, q, inr x), y)))) = taken parsed i p u ks ms e f q
        (second_item i.0 u p.1 xs ks ms ys d x y)
    go recognized (inl (i, e, (ks, d, (p, f, (ms, (u, q, x), y))))) =
        taken recognized i p u ks ms e f q (first_item i.0 u p.1 xs ks ms ys d x y)
    go recognized (inr (i, e, (ks, d, inl x))) =
        subst (λ (z : B). ItemsOf recognized M E put g h rest other z xs ys) e
        (no_item i.0 i.1 xs ks ys d x)
    go recognized (inr (i, e, (ks, d, inr (p, f, (ms, (u, q, x), y))))) =
        taken recognized i p u ks ms e f q (second_item i.0 u p.1 xs ks ms ys d x y)

-- ---- where attributes begin
-- there are none, or the first of them begins where the tokens do
abbrev Begins : Attributes → List Token → List Token → Type 0
Begins a xs ys = ((a ≡ []) × (xs ≡ ys))
    ⊎ ((b : Spanned Attribute) × (bs : Attributes) × (e : ℕ) × (a ≡ b ∷ bs) × Runs b.span.start e xs ys)

-- an attribute has the place of its tokens
abbrev AllAt : WrittenRelation → Type 0
AllAt D = (a : Spanned AttributeParts) (xs ys : List Token) → D attribute a xs ys → (e : ℕ) × Runs a.span.start e xs ys

one_more : (a : Attributes) (b : Spanned Attribute) (e : ℕ) (xs us ys : List Token) → Begins a xs us
    → Runs b.span.start e us ys → Begins (a ++ (b ∷ [])) xs ys
one_more a b e xs us ys (inl (n, w)) r =
    inr
    (b, [], e, ap (λ (z : Attributes). z ++ (b ∷ [])) n, subst (λ (z : List Token). Runs b.span.start e z ys) (sym w) r)
one_more a b e xs us ys (inr (c, bs, f, q, s)) r =
    inr (c, bs ++ (b ∷ []), e, ap (λ (z : Attributes). z ++ (b ∷ [])) q, runs_join _ _ _ _ xs us ys s r)

begins : (M : Mode) (D : WrittenRelation) → AllAt D → (xs : List Token) (a : Attributes) (ys : List Token)
    → Means M D attributes a xs ys → Begins a xs ys
begins M D H xs _ _ (base a ys (e, w)) = inl (sym e, w)
begins M D H xs _ _ (more a b ys zs c (x, e, d)) =
    let r = H x ys zs d in
    one_more a b r.0 xs ys zs (begins M D H xs a ys c)
    (subst (λ (z : Spanned Attribute). Runs z.span.start r.0 ys zs) e r.1)

-- the place of attributes and what is after them
begun : (a : Attributes) (xs ks ms : List Token) (s e : ℕ) → Begins a xs ks → Runs s e ks ms
    → begun_by a (span_between ks ms) ≡ span_between xs ms
begun a xs ks ms s e (inl (n, w)) r = ap (λ (z : Attributes). begun_by z (span_between ks ms)) n
    ∙ ap (λ (z : List Token). span_between z ms) (sym w)
begun a xs ks ms s e (inr (b, bs, f, q, t)) r =
    ap (λ (z : Attributes). begun_by z (span_between ks ms)) q
    ∙ (ap (λ (z : Span). begun_by (b ∷ bs) z) (span_runs s e ks ms r)
    ∙ sym (span_runs b.span.start e xs ms (runs_join _ _ _ _ xs ks ms t r)))

span_of_attribute : (L : Dialect) (M : Mode) (D : WrittenRelation) (a : Spanned AttributeParts)
    (xs ys : List Token) → Means M D (rules L attribute) a xs ys → span_between xs ys ≡ a.span
span_of_attribute parsed M D a xs ys (c, (p, e, d)) = ap (λ (z : Spanned AttributeParts). z.span) e
span_of_attribute recognized M D a xs ys (p, e, d) = ap (λ (z : Spanned AttributeParts). z.span) e

placed_at_start : (a : Spanned AttributeParts) (xs ys : List Token) → span_between xs ys ≡ a.span
    → (t : Token) × (q : List Token) × (xs ≡ t ∷ (q ++ ys)) → (e : ℕ) × Runs a.span.start e xs ys
placed_at_start a xs ys e (t, q, w) =
    let r : Runs t.start (last_end t.end q) xs ys = (t, q, w, refl, refl) in
    let s : t.start ≡ a.span.start = ap (λ (z : Span). z.start) (sym (span_runs _ _ xs ys r) ∙ e) in
    (last_end t.end q, subst (λ (z : ℕ). Runs z (last_end t.end q) xs ys) s r)

written_at : (L : Dialect) (M : Mode) → AllAt (WrittenPart L M)
written_at L M a xs ys d =
    placed_at_start a xs ys
    (span_of_attribute L M (WrittenPart L M) a xs ys (unroll M (rules L) attribute a xs ys d))
    (takes_one M (rules L) taking (written_takes L) attribute refl a xs ys d)

read_at : (L : Dialect) (M : Mode) → AllAt (ReadPart L M)
read_at L M a xs ys d =
    placed_at_start a xs ys (span_of_attribute L M (ReadPart L M) a xs ys (lifted_out M (Part M
    (factored L)) (rules L attribute) a xs ys (unroll M (factored L) (of attribute) a xs ys d)))
    (takes_one M (factored L) never_empty (body_takes L) (of attribute) refl a xs ys d)

abbrev pub Takes : List Token → List Token → Type 0
Takes ks ms = (t : Token) × (q : List Token) × (ks ≡ t ∷ (q ++ ms))

begun_at : (L : Dialect) (M : Mode) (D : WrittenRelation) → AllAt D
    → (a : Attributes) (xs ks ms : List Token) → Means M D (leading L) a xs ks → Takes ks ms
    → begun_by a (span_between ks ms) ≡ span_between xs ms
begun_at parsed M D H a xs ks ms d (t, q, w) = begun a xs ks ms t.start (last_end t.end q)
    (begins M D H xs a ks d) (t, q, w, refl, refl)
begun_at recognized M D H a xs ks ms (n, e) (t, q, w) = begun a xs ks ms t.start (last_end t.end q)
    (inl (sym n, e)) (t, q, w, refl, refl)

-- of both grammars, where attributes may be left out in a dialect, and where they may not
pub read_begun : (L : Dialect) (M : Mode) (a : Attributes) (xs ks ms : List Token)
    → Means M (Part M (factored L)) (leading_list L) a xs ks → Takes ks ms
    → begun_by a (span_between ks ms) ≡ span_between xs ms
read_begun L M a xs ks ms d w = begun_at L M (ReadPart L M) (read_at L M) a xs ks ms
    (leading_from L M (ReadPart L M) (Part M (factored L)) (read_list L M) a xs ks d) w

pub list_begun : (L : Dialect) (M : Mode) (a : Attributes) (xs ks ms : List Token)
    → Part M (factored L) (further attribute_list) a xs ks → Takes ks ms
    → begun_by a (span_between ks ms) ≡ span_between xs ms
list_begun L M a xs ks ms d w = begun_at parsed M (ReadPart L M) (read_at L M) a xs ks ms
    ((read_list L M).from_list a xs ks d) w

pub written_begun : (L : Dialect) (M : Mode) (a : Attributes) (xs ks ms : List Token)
    → Means M (Meant L M (WrittenPart L M)) (leading_list L) a xs ks → Takes ks ms
    → begun_by a (span_between ks ms) ≡ span_between xs ms
written_begun L M a xs ks ms d w = begun_at L M (WrittenPart L M) (written_at L M) a xs ks ms
    (leading_from L M (WrittenPart L M) (Meant L M (WrittenPart L M)) (meant_list L M) a xs ks d) w

pub attributes_begun : (L : Dialect) (M : Mode) (a : Attributes) (xs ks ms : List Token)
    → Means M (WrittenPart L M) attributes a xs ks → Takes ks ms
    → begun_by a (span_between ks ms) ≡ span_between xs ms
attributes_begun L M a xs ks ms d w = begun_at parsed M (WrittenPart L M) (written_at L M) a xs ks ms d w
