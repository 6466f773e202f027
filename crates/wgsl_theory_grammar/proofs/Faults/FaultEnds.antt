-- No two checked faults have the same last token, and none ends with `(`.
use Rattle.std.proofs.Common.{◌≡◌, ℕ, true, false, eqb, List, [], ◌∷◌, ◌++◌, length, inl, inr, refl, sym, ap, ap₂, subst, ◌∙◌, append_assoc, append-nil, arith, length-append, eq-eqb}
use Rattle.std.specs.Prelude.{Option, Some, None}
use Rattle.grammar.specs.Tokens.{Token, Fault, span_of}
use Rattle.grammar.specs.Grammar.{Mode.unchecked, is_among, Means, Part, Derives}
use Rattle.grammar.specs.Endings.{last_class, Ending}
use Rattle.grammar.proofs.Reading.Sets.{clash, not_left, not_right, apart}
use Rattle.grammar.proofs.Reading.Beginnings.{cond_yes}
use Rattle.grammar.proofs.Reading.Depth.{unroll}
use Rattle.grammar.proofs.Faults.Anchors.{last_append}
use Rattle.grammar.proofs.Reading.Exact.{same_front}
use Rattle.wgsl_model.specs.Tokens.ClassTable.{SymAttr, SymParenLeft, SymParenRight, KwVar, Ident, ReservedWord, TemplateArgsEnd}
use Rattle.wgsl_model.specs.Faults.Kinds.{span_of_token, reserved_word, diagnostic_severity}
use Rattle.wgsl_model.specs.Trees.Spanned.{Spanned}
use Rattle.wgsl_model.specs.Trees.Expressions.{ExpressionNode}
use Rattle.wgsl_model.specs.Grammar.TokenValues.{text_of}
use Rattle.wgsl_model.specs.Grammar.Checks.{var_fault, AttributeParts, attribute_fault}
use Rattle.wgsl_model.specs.Grammar.Symbols.{Symbol.template_list, Symbol.arguments, Symbol.attribute, Symbol.var_template}
use Rattle.wgsl_model.specs.Grammar.Written.{keyword_classes, written}
use Rattle.wgsl_model.specs.Faults.Checked.{IsApart, IsAttributeFault, IsVarTemplateFault, IsCheckedFault, IsCheckedFault.reserved_fault, IsCheckedFault.severity_fault_at, IsCheckedFault.attribute_fault_at, IsCheckedFault.var_template_fault}
use Rattle.wgsl_theory_grammar.proofs.Faults.Avoids.{NoneOf, EndsWith}
use Rattle.wgsl_theory_grammar.proofs.Faults.WrittenEnds.{attribute_or_var, expression_holds_none, arguments_close, template_closes}
use Rattle.wgsl_theory_grammar.proofs.Faults.PlainFaults.{one_class, some_is}
use Rattle.wgsl_theory_grammar.proofs.WrittenTree.{written_one_tree}

abbrev names : List ℕ
names = Ident ∷ ReservedWord ∷ keyword_classes

-- ---- how the tokens up to a fault's last one look
data Shape (F : List Token) (x : Fault) : Type 0 where
  reserved_shape : (before : List Token) (t : Token) → F ≡ before ++ (t ∷ []) → IsApart before
      → t.class ≡ ReservedWord → x ≡ reserved_word (text_of t) (span_of_token t) → Shape F x
  severity_shape : (before : List Token) (p t : Token) → F ≡ (before ++ (p ∷ [])) ++ (t ∷ [])
      → p.class ≡ SymParenLeft → t.class ≡ Ident → x ≡ diagnostic_severity (span_of_token t) → Shape F x
  bare_shape : (before : List Token) (a t : Token) (v : Spanned AttributeParts)
      → F ≡ (before ++ (a ∷ [])) ++ (t ∷ []) → a.class ≡ SymAttr → is_among t.class names ≡ true
      → Derives unchecked written attribute v (a ∷ t ∷ [])
      → attribute_fault v (span_of (a ∷ t ∷ [])) ≡ Some x → Shape F x
  attribute_shape : (before : List Token) (a : Token) (w : List Token) (v : Spanned AttributeParts)
      → F ≡ before ++ (a ∷ w) → a.class ≡ SymAttr → NoneOf (SymAttr ∷ []) w → last_class 0 F ≡ SymParenRight
      → Derives unchecked written attribute v (a ∷ w) → attribute_fault v (span_of (a ∷ w)) ≡ Some x
      → Shape F x
  var_shape : (before : List Token) (a : Token) (w : List Token) (v : Option (List ExpressionNode))
      → F ≡ before ++ (a ∷ w) → a.class ≡ KwVar → NoneOf (KwVar ∷ []) w → last_class 0 F ≡ TemplateArgsEnd
      → Derives unchecked written var_template v (a ∷ w) → var_fault v (span_of (a ∷ w)) ≡ Some x
      → Shape F x

-- a list after which nothing is
all_of : (xs p : List Token) → xs ≡ p ++ [] → xs ≡ p
all_of xs p e = e ∙ append-nil p

-- the last class of a list with an end that is not empty
last_after : (c : ℕ) (p : List Token) (t : Token) (q : List Token) → last_class c (p ++ (t ∷ q)) ≡ last_class t.class q
last_after c p t q = last_append c p (t ∷ q)

ends_token : (c : ℕ) (p : List Token) → EndsWith (c ∷ []) p → (p ≡ [] → ⊥) → (d : ℕ) → last_class d p ≡ c
ends_token c [] e n d = absurd (n refl)
ends_token c (t ∷ p) (inl e) n d = absurd (n e)
ends_token c (t ∷ p) (inr e) n d = one_class _ c e

-- the one class or the other
none_attribute : (p : List Token) → NoneOf attribute_or_var p → NoneOf (SymAttr ∷ []) p
none_attribute [] n = tt
none_attribute (t ∷ p) n = (not_left t.class (SymAttr ∷ []) (KwVar ∷ []) n.0, none_attribute p n.1)

none_var : (p : List Token) → NoneOf attribute_or_var p → NoneOf (KwVar ∷ []) p
none_var [] n = tt
none_var (t ∷ p) n = (not_right t.class (SymAttr ∷ []) (KwVar ∷ []) n.0, none_var p n.1)

shape_of_attribute : (ts : List Token) (ending : Ending) (x : Fault) (ys : List Token)
    → IsAttributeFault ts ending x ys → (F : List Token) × (ts ≡ F ++ ys) × Shape F x
shape_of_attribute ts ending x ys (before, p, v, w, d, c, e) =
    (before ++ p, w ∙ sym (append_assoc before p ys), go (unroll unchecked written attribute v p [] d))
  where
    go : Means unchecked (Part unchecked written) (written attribute) v p [] → Shape (before ++ p) x
    go (k, (r, f, (q, g, (ms, (m1, e1), (us, (m2, e2), inr (h, z)))))) =
        let l : p ≡ q.0 ∷ q.1.0 ∷ [] = e1
        ∙ ap (λ (u : List Token). q.0 ∷ u) (e2 ∙ ap (λ (u : List Token). q.1.0 ∷ u) z) in
        bare_shape before q.0 q.1.0 v
        (ap (λ (u : List Token). before ++ u) l ∙ sym (append_assoc before (q.0 ∷ []) (q.1.0 ∷ [])))
        (one_class _ _ m1) m2
        (subst (λ (u : List Token). Derives unchecked written attribute v u) l d)
        (subst (λ (u : List Token). attribute_fault v (span_of u) ≡ Some x) l e)
    go (k, (r, f, (q, g, (ms, (m1, e1), (us, (m2, e2), inl (es, h, z)))))) =
        let n = expression_holds_none arguments refl es us [] z in
        let b = arguments_close es us [] z in
        let s : us ≡ n.0 = all_of us n.0 n.1 in
        let t : us ≡ b.0 = all_of us b.0 b.1 in
        let o = unroll unchecked written arguments es us [] z in
        let l : p ≡ q.0 ∷ q.1.0 ∷ us = e1 ∙ ap (λ (u : List Token). q.0 ∷ u) e2 in
        let full : us ≡ [] → ⊥ = λ nil. let r = sym o.2.1.1 ∙ nil in cc in
        let last : last_class 0 (before ++ p) ≡ SymParenRight =
        ap (λ (u : List Token). last_class 0 (before ++ u)) l ∙ (last_after 0 before q.0 (q.1.0 ∷ us)
        ∙ ends_token SymParenRight us (subst (EndsWith (SymParenRight ∷ [])) (sym t) b.2) full q.1.0.class) in
        attribute_shape before q.0 (q.1.0 ∷ us) v (ap (λ (u : List Token). before ++ u) l)
        (one_class _ _ m1) (
          apart q.1.0.class names (SymAttr ∷ []) refl m2,
          none_attribute us (subst (NoneOf attribute_or_var) (sym s) n.2),
        ) last
        (subst (λ (u : List Token). Derives unchecked written attribute v u) l d)
        (subst (λ (u : List Token). attribute_fault v (span_of u) ≡ Some x) l e)

shape_of_var : (ts : List Token) (x : Fault) (ys : List Token) → IsVarTemplateFault ts x ys
    → (F : List Token) × (ts ≡ F ++ ys) × Shape F x
shape_of_var ts x ys (before, p, es, w, i, d, e) =
    (before ++ p, w ∙ sym (append_assoc before p ys), go (unroll unchecked written var_template given p [] d))
  where
    given : Option (List ExpressionNode)
    given = Some es

    go : Means unchecked (Part unchecked written) (written var_template) given p [] → Shape (before ++ p) x
    go (k, (q, g, (ms, (m1, e1), inr (h, z)))) = let r : None ≡ given = h ∙ g in absurd cc
    go (k, (q, g, (ms, (m1, e1), inl (fs, h, z)))) =
        let n = expression_holds_none template_list refl fs ms [] z in
        let b = template_closes fs ms [] z in
        let s : ms ≡ n.0 = all_of ms n.0 n.1 in
        let t : ms ≡ b.0 = all_of ms b.0 b.1 in
        let o = unroll unchecked written template_list fs ms [] z in
        let full : ms ≡ [] → ⊥ = λ nil. let r = sym o.2.1.1 ∙ nil in cc in
        let last : last_class 0 (before ++ p) ≡ TemplateArgsEnd =
        ap (λ (u : List Token). last_class 0 (before ++ u)) e1 ∙ (last_after 0 before q.0 ms
        ∙ ends_token TemplateArgsEnd ms (subst (EndsWith (TemplateArgsEnd ∷ [])) (sym t) b.2) full q.0.class) in
        var_shape before q.0 ms given (ap (λ (u : List Token). before ++ u) e1) (one_class _ _ m1)
        (none_var ms (subst (NoneOf attribute_or_var) (sym s) n.2)) last
        (subst (λ (u : List Token). Derives unchecked written var_template given u) e1 d)
        (subst (λ (u : List Token). var_fault given (span_of u) ≡ Some x) e1 e)

shape_of : (ts : List Token) (ending : Ending) (x : Fault) (ys : List Token)
    → IsCheckedFault ts ending x ys → (F : List Token) × (ts ≡ F ++ ys) × Shape F x
shape_of ts ending x ys (reserved_fault (before, t, w, a, c, e)) =
    (before ++ (t ∷ []), w ∙ sym (append_assoc before (t ∷ []) ys), reserved_shape before t refl a c e)
shape_of ts ending x ys (severity_fault_at (before, d, p, t, w, a, c1, c2, c3, n, e)) = (
  ((before ++ (d ∷ [])) ++ (p ∷ [])) ++ (t ∷ []),
  w ∙ (sym (append_assoc before (d ∷ []) (p ∷ t ∷ ys)) ∙ (sym (append_assoc (before ++ (d ∷ []))
      (p ∷ []) (t ∷ ys)) ∙ sym (append_assoc ((before ++ (d ∷ [])) ++ (p ∷ [])) (t ∷ []) ys))),
  severity_shape (before ++ (d ∷ [])) p t refl c2 c3 e,
)
shape_of ts ending x ys (attribute_fault_at r) = shape_of_attribute ts ending x ys r
shape_of ts ending x ys (var_template_fault r) = shape_of_var ts x ys r

-- ---- the last class of each
last_one : (p : List Token) (t : Token) (F : List Token) → F ≡ p ++ (t ∷ []) → last_class 0 F ≡ t.class
last_one p t F w = ap (λ (u : List Token). last_class 0 u) w ∙ last_after 0 p t []

eqb_same : (c : ℕ) → eqb c c ≡ true
eqb_same c = eq-eqb c c refl

differ : (F : List Token) (c d : ℕ) → last_class 0 F ≡ c → last_class 0 F ≡ d → eqb c d ≡ false → {A : Type 0} → A
differ F c d e f n = let g : c ≡ d = sym e ∙ f in absurd (clash _ (subst (λ (z : ℕ). eqb c z ≡ true) g (eqb_same c)) n)

no_name : (F : List Token) (c d : ℕ) → last_class 0 F ≡ c → last_class 0 F ≡ d
    → is_among c names ≡ true → is_among d names ≡ false → {A : Type 0} → A
no_name F c d e f m n = absurd (clash _ (subst (λ (z : ℕ). is_among z names ≡ true) (sym e ∙ f) m) n)

-- two lists with one token after
snoc_same : (p q : List Token) (a b : Token) → p ++ (a ∷ []) ≡ q ++ (b ∷ []) → (p ≡ q) × (a ≡ b)
snoc_same [] [] a b e = let f : a ≡ b = cc in (refl, f)
snoc_same [] (y ∷ q) a b e = let f = ap length e in absurd (omega (arith, f, length-append q (b ∷ [])))
snoc_same (x ∷ p) [] a b e = let f = ap length e in absurd (omega (arith, f, length-append p (a ∷ [])))
snoc_same (x ∷ p) (y ∷ q) a b e =
    let h : x ≡ y = cc in let i : p ++ (a ∷ []) ≡ q ++ (b ∷ []) = cc in
    let r = snoc_same p q a b i in (ap₂ (λ (z : Token) (u : List Token). z ∷ u) h r.0, r.1)

-- two ends that begin with a token of a class that is nowhere after it
none_there : (c : ℕ) (t b : List Token) (q : List Token) (a : Token) → NoneOf (c ∷ []) t
    → t ≡ q ++ (a ∷ b) → a.class ≡ c → ⊥
none_there c t b [] a n e k =
    let m = subst (NoneOf (c ∷ [])) e n in clash _
    (subst (λ (z : ℕ). is_among z (c ∷ []) ≡ true) (sym k) (among_same c)) m.0
  where
    among_same : (c : ℕ) → is_among c (c ∷ []) ≡ true
    among_same c = cond_yes (eqb c c) true false (eqb_same c)
none_there c t b (y ∷ q) a n e k = let m = subst (NoneOf (c ∷ [])) e n in none_there c (q ++ (a ∷ b)) b q a m.1 refl k

cut_same : (c : ℕ) (p q : List Token) (a b : Token) (t u : List Token) → p ++ (a ∷ t) ≡ q ++ (b ∷ u)
    → a.class ≡ c → b.class ≡ c → NoneOf (c ∷ []) t → NoneOf (c ∷ []) u → (a ∷ t) ≡ (b ∷ u)
cut_same c [] [] a b t u e k l n m = e
cut_same c [] (y ∷ q) a b t u e k l n m = let f : t ≡ q ++ (b ∷ u) = cc in absurd (none_there c t u q b n f l)
cut_same c (x ∷ p) [] a b t u e k l n m = let f : u ≡ p ++ (a ∷ t) = cc in absurd (none_there c u t p a m f k)
cut_same c (x ∷ p) (y ∷ q) a b t u e k l n m =
    let f : p ++ (a ∷ t) ≡ q ++ (b ∷ u) = cc in cut_same c p q a b t u f k l n m

-- a check of one slice finds one fault
attribute_once : (p q : List Token) (v w : Spanned AttributeParts) (x y : Fault) → p ≡ q
    → Derives unchecked written attribute v p → Derives unchecked written attribute w q
    → attribute_fault v (span_of p) ≡ Some x → attribute_fault w (span_of q) ≡ Some y → x ≡ y
attribute_once p q v w x y e d d' f g =
    let same : v ≡ w = written_one_tree unchecked attribute v w q
    (subst (λ (u : List Token). Derives unchecked written attribute v u) e d) d' in
    some_is x y (sym f ∙ (ap (λ (u : List Token). attribute_fault v (span_of u)) e
    ∙ (ap (λ (z : Spanned AttributeParts). attribute_fault z (span_of q)) same ∙ g)))

var_once : (p q : List Token) (v w : Option (List ExpressionNode)) (x y : Fault) → p ≡ q
    → Derives unchecked written var_template v p → Derives unchecked written var_template w q
    → var_fault v (span_of p) ≡ Some x → var_fault w (span_of q) ≡ Some y → x ≡ y
var_once p q v w x y e d d' f g =
    let same : v ≡ w = written_one_tree unchecked var_template v w q
    (subst (λ (u : List Token). Derives unchecked written var_template v u) e d) d' in
    some_is x y (sym f ∙ (ap (λ (u : List Token). var_fault v (span_of u)) e
    ∙ (ap (λ (z : Option (List ExpressionNode)). var_fault z (span_of q)) same ∙ g)))

-- the token before the last one
before_last : (p q : List Token) (a b s t : Token) (F : List Token)
    → F ≡ (p ++ (a ∷ [])) ++ (s ∷ []) → F ≡ (q ++ (b ∷ [])) ++ (t ∷ []) → (a ≡ b) × (s ≡ t)
before_last p q a b s t F e f =
    let r = snoc_same (p ++ (a ∷ [])) (q ++ (b ∷ [])) s t (sym e ∙ f) in ((snoc_same p q a b r.0).1, r.1)

-- a reserved word that is the name of an attribute is after `@`
not_attribute : (before p : List Token) (a s t : Token) (F : List Token) → F ≡ before ++ (s ∷ [])
    → F ≡ (p ++ (a ∷ [])) ++ (t ∷ []) → IsApart before → a.class ≡ SymAttr → {A : Type 0} → A
not_attribute before p a s t F e f i k =
    let r = snoc_same before (p ++ (a ∷ [])) s t (sym e ∙ f) in
    let l : last_class 0 before ≡ SymAttr = last_one p a before r.0 ∙ k in
    absurd (clash _ (subst (λ (z : ℕ). is_among z (SymAttr ∷ []) ≡ true) (sym l) refl) i)

parens_apart : SymParenLeft ≡ SymAttr → ⊥
parens_apart e = clash _ (subst (λ (z : ℕ). eqb SymParenLeft z ≡ true) e refl) refl

once : (F : List Token) (x y : Fault) → Shape F x → Shape F y → x ≡ y
once F x y (reserved_shape p t w a c e) (reserved_shape q u z b d f) =
    e ∙ (ap (λ (s : Token). reserved_word (text_of s) (span_of_token s)) (snoc_same p q t u (sym w ∙ z)).1 ∙ sym f)
once F x y (reserved_shape p t w a c e) (severity_shape q r u z b d f) = differ F ReservedWord Ident
    (last_one p t F w ∙ c) (last_one _ u F z ∙ d) refl
once F x y (reserved_shape p t w a c e) (bare_shape q b u v z k m d f) = not_attribute p q b t u F w z a k
once F x y (reserved_shape p t w a c e) (attribute_shape q b u v z k n l d f) =
    differ F ReservedWord SymParenRight (last_one p t F w ∙ c) l refl
once F x y (reserved_shape p t w a c e) (var_shape q b u v z k n l d f) =
    differ F ReservedWord TemplateArgsEnd (last_one p t F w ∙ c) l refl
once F x y (severity_shape q r u z b d f) (reserved_shape p t w a c e) = differ F ReservedWord Ident
    (last_one p t F w ∙ c) (last_one _ u F z ∙ d) refl
once F x y (severity_shape p r t w b c e) (severity_shape q s u z d g f) =
    e ∙ (ap (λ (s : Token). diagnostic_severity (span_of_token s)) (snoc_same _ _ t u (sym w ∙ z)).1 ∙ sym f)
once F x y (severity_shape p r t w b c e) (bare_shape q s u v z k m d f) =
    let h = (before_last p q r s t u F w z).0 in
    let i : SymParenLeft ≡ SymAttr = sym b ∙ (ap (λ (s : Token). s.class) h ∙ k) in absurd (parens_apart i)
once F x y (severity_shape p r t w b c e) (attribute_shape q s u v z k n l d f) =
    differ F Ident SymParenRight (last_one _ t F w ∙ c) l refl
once F x y (severity_shape p r t w b c e) (var_shape q s u v z k n l d f) =
    differ F Ident TemplateArgsEnd (last_one _ t F w ∙ c) l refl
once F x y (bare_shape q b u v z k m d f) (reserved_shape p t w a c e) = not_attribute p q b t u F w z a k
once F x y (bare_shape q s u v z k m d f) (severity_shape p r t w b c e) =
    let h = (before_last p q r s t u F w z).0 in
    let i : SymParenLeft ≡ SymAttr = sym b ∙ (ap (λ (s : Token). s.class) h ∙ k) in absurd (parens_apart i)
once F x y (bare_shape p a t v w k m d f) (bare_shape q b u v' z l n d' g) =
    let r = before_last p q a b t u F w z in attribute_once (a ∷ t ∷ []) (b ∷ u ∷ []) v v' x y
    (ap₂ (λ (h i : Token). h ∷ i ∷ []) r.0 r.1) d d' f g
once F x y (bare_shape p a t v w k m d f) (attribute_shape q b u v' z l n h d' g) =
    no_name F t.class SymParenRight (last_one _ t F w) h m refl
once F x y (bare_shape p a t v w k m d f) (var_shape q b u v' z l n h d' g) =
    no_name F t.class TemplateArgsEnd (last_one _ t F w) h m refl
once F x y (attribute_shape q b u v z k n l d f) (reserved_shape p t w a c e) =
    differ F ReservedWord SymParenRight (last_one p t F w ∙ c) l refl
once F x y (attribute_shape q s u v z k n l d f) (severity_shape p r t w b c e) =
    differ F Ident SymParenRight (last_one _ t F w ∙ c) l refl
once F x y (attribute_shape q b u v' z l n h d' g) (bare_shape p a t v w k m d f) =
    no_name F t.class SymParenRight (last_one _ t F w) h m refl
once F x y (attribute_shape p a t v w k n l d f) (attribute_shape q b u v' z k' n' l' d' g) =
    attribute_once (a ∷ t) (b ∷ u) v v' x y (cut_same SymAttr p q a b t u (sym w ∙ z) k k' n n') d d' f g
once F x y (attribute_shape p a t v w k n l d f) (var_shape q b u v' z k' n' l' d' g) =
    differ F SymParenRight TemplateArgsEnd l l' refl
once F x y (var_shape q b u v z k n l d f) (reserved_shape p t w a c e) =
    differ F ReservedWord TemplateArgsEnd (last_one p t F w ∙ c) l refl
once F x y (var_shape q s u v z k n l d f) (severity_shape p r t w b c e) =
    differ F Ident TemplateArgsEnd (last_one _ t F w ∙ c) l refl
once F x y (var_shape q b u v' z l n h d' g) (bare_shape p a t v w k m d f) =
    no_name F t.class TemplateArgsEnd (last_one _ t F w) h m refl
once F x y (var_shape p a t v w k n l d f) (attribute_shape q b u v' z k' n' l' d' g) =
    differ F TemplateArgsEnd SymParenRight l l' refl
once F x y (var_shape p a t v w k n l d f) (var_shape q b u v' z k' n' l' d' g) = var_once (a ∷ t)
    (b ∷ u) v v' x y (cut_same KwVar p q a b t u (sym w ∙ z) k k' n n') d d' f g

-- no two checked faults have the same last token
pub one_fault : (ts : List Token) (ending : Ending) (x y : Fault) (ys : List Token)
    → IsCheckedFault ts ending x ys → IsCheckedFault ts ending y ys → x ≡ y
one_fault ts ending x y ys f g =
    let s = shape_of ts ending x ys f in let t = shape_of ts ending y ys g in
    let e : s.0 ≡ t.0 = same_front s.0 t.0 ys (sym s.1 ∙ t.1) in
    once t.0 x y (subst (λ (u : List Token). Shape u x) e s.2) t.2

-- no checked fault ends with `(`
not_opening : (F : List Token) (x : Fault) → Shape F x → last_class 0 F ≡ SymParenLeft → ⊥
not_opening F x (reserved_shape p t w a c e) l = differ F ReservedWord SymParenLeft (last_one p t F w ∙ c) l refl
not_opening F x (severity_shape p r t w b c e) l = differ F Ident SymParenLeft (last_one _ t F w ∙ c) l refl
not_opening F x (bare_shape p a t v w k m d f) l = no_name F t.class SymParenLeft (last_one _ t F w) l m refl
not_opening F x (attribute_shape p a t v w k n h d f) l = differ F SymParenRight SymParenLeft h l refl
not_opening F x (var_shape p a t v w k n h d f) l = differ F TemplateArgsEnd SymParenLeft h l refl

pub no_fault_opens : (ts : List Token) (ending : Ending) (x : Fault) (t : Token)
    → t.class ≡ SymParenLeft → IsCheckedFault (ts ++ (t ∷ [])) ending x [] → ⊥
no_fault_opens ts ending x t c f =
    let s = shape_of (ts ++ (t ∷ [])) ending x [] f in
    not_opening s.0 x s.2 (last_one ts t s.0 (sym (s.1 ∙ append-nil s.0)) ∙ c)
