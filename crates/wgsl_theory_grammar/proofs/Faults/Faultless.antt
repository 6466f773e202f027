-- A sentence without a checked fault derives a tree, however its tokens ended.
use Rattle.grammar.proofs.Reading.Sets.{apart as apart_classes}
use Rattle.std.proofs.Common.{◌≡◌, ℕ, true, false, List, [], ◌∷◌, ◌++◌, length, inl, inr, refl, sym, ap, subst, ◌∙◌, append-nil, arith, length-append}
use Rattle.std.specs.Prelude.{Some, None}
use Rattle.grammar.specs.Tokens.{Token, Fault}
use Rattle.grammar.specs.Grammar.{Mode.checking, Mode.unchecked, is_among, Means, Part, Derives, IsSentence}
use Rattle.grammar.specs.Endings.{last_class, Ending, Ending.finished}
use Rattle.grammar.specs.Tables.{disjoint}
use Rattle.grammar.proofs.Reading.Sets.{clash}
use Rattle.grammar.proofs.Reading.Depth.{unroll}
use Rattle.grammar.proofs.Faults.Anchors.{last_append}
use Rattle.grammar.proofs.Faults.Outcomes.{faultless}
use Rattle.wgsl_model.specs.Tokens.ClassTable.{SymAttr, Ident, ReservedWord}
use Rattle.wgsl_model.specs.Trees.Spanned.{Spanned}
use Rattle.wgsl_model.specs.Grammar.Checks.{Arguments, AttributeParts}
use Rattle.wgsl_model.specs.Grammar.Symbols.{Dialect.parsed, Symbol, Symbol.template_list, Symbol.literal, Symbol.expression, Symbol.attribute, Symbol.statement, Symbol.global_declaration, Symbol.global_directive, Symbol.unit, Value, is_read_alone}
use Rattle.wgsl_model.specs.Grammar.Written.{keyword_classes, written}
use Rattle.wgsl_model.specs.Faults.Checked.{IsUnopened, IsWhole, IsCheckedFault, IsCheckedFault.reserved_fault, IsCheckedFault.severity_fault_at, IsCheckedFault.attribute_fault_at, IsCheckedFault.var_template_fault}
use Rattle.wgsl_theory_grammar.specs.Factored.{FactoredSymbol.of, body}
use Rattle.wgsl_theory_grammar.specs.Tables.{rank_limit, tables}
use Rattle.wgsl_theory_grammar.specs.Apart.{apart}
use Rattle.wgsl_theory_grammar.proofs.Outcomes.{tested}
use Rattle.wgsl_theory_grammar.proofs.Forms.Links.{factored_is_written}
use Rattle.wgsl_theory_grammar.proofs.Faults.PlainFaults.{one_class, fault_is_plain}
use Rattle.wgsl_theory_grammar.proofs.Faults.Avoids.{NoneOf, EndsWith}
use Rattle.wgsl_theory_grammar.proofs.Faults.WrittenEnds.{in_expression, attribute_or_var, expression_holds_none, closing, closers, sentence_closes}
use Rattle.wgsl_theory_grammar.proofs.WrittenTree.{sentence_in}

abbrev names : List ℕ
names = Ident ∷ ReservedWord ∷ keyword_classes

-- a list that ends with `@` and a name
abbrev EndsBare : List Token → Type 0
EndsBare ts = (before : List Token) × (a t : Token) × (ts ≡ before ++ (a ∷ t ∷ []))
    × (a.class ≡ SymAttr) × (is_among t.class names ≡ true)

-- no sentence does
holds_attribute : (before : List Token) (a : Token) (q p : List Token) → p ≡ before ++ (a ∷ q)
    → a.class ≡ SymAttr → NoneOf attribute_or_var p → ⊥
holds_attribute [] a q p e c n =
    let m = subst (NoneOf attribute_or_var) e n in
    clash _ (subst (λ (z : ℕ). is_among z attribute_or_var ≡ true) (sym c) refl) m.0
holds_attribute (x ∷ before) a q p e c n =
    let m = subst (NoneOf attribute_or_var) e n in holds_attribute before a q (before ++ (a ∷ q)) refl c m.1

not_in_expression : (n : Symbol) → in_expression n ≡ true → (v : Value n) (ts : List Token)
    → Derives unchecked written n v ts → EndsBare ts → ⊥
not_in_expression n k v ts d (before, a, t, e, c, m) =
    let w = expression_holds_none n k v ts [] d in
    holds_attribute before a (t ∷ []) w.0 (sym (w.1 ∙ append-nil w.0) ∙ e) c w.2

last_bare : (ts before : List Token) (a t : Token) → ts ≡ before ++ (a ∷ t ∷ []) → last_class 0 ts ≡ t.class
last_bare ts before a t e = ap (λ (z : List Token). last_class 0 z) e ∙ last_append 0 before (a ∷ t ∷ [])

not_closed : (cs : List ℕ) → disjoint names cs ≡ true → (ts p : List Token) → ts ≡ p → EndsWith cs p → EndsBare ts → ⊥
not_closed cs k ts p e (inl n) (before, a, t, f, c, m) =
    let g = ap length (sym f ∙ (e ∙ n)) in let h = length-append before (a ∷ t ∷ []) in absurd (omega (arith, g, h))
not_closed cs k ts p e (inr l) (before, a, t, f, c, m) =
    let q = ap (λ (z : List Token). last_class 0 z) e in
    clash _ l (subst (λ (z : ℕ). is_among z cs ≡ false) (sym (last_bare ts before a t f) ∙ q)
    (apart_classes t.class names cs k m))

not_closing : (n : Symbol) → closing n ≡ true → (v : Value n) (ts : List Token)
    → Derives unchecked written n v ts → EndsBare ts → ⊥
not_closing n k v ts d b =
    let w = sentence_closes n k v ts [] d in not_closed closers refl ts w.0 (w.1 ∙ append-nil w.0) w.2 b

not_bare : (n : Symbol) → is_read_alone n ≡ true → (v : Value n) (ts : List Token)
    → Derives unchecked written n v ts → EndsBare ts → ⊥
not_bare unit k v ts d b = not_closing unit refl v ts d b
not_bare global_directive k v ts d b = not_closing global_directive refl v ts d b
not_bare global_declaration k v ts d b = not_closing global_declaration refl v ts d b
not_bare statement k v ts d b = not_closing statement refl v ts d b
not_bare expression k v ts d b = not_in_expression expression refl v ts d b
not_bare literal k v ts d b = not_in_expression literal refl v ts d b
not_bare template_list k v ts d b = not_in_expression template_list refl v ts d b
not_bare n k v ts d b = absurd cc

-- the same fault, however the tokens ended, where no bare name of an attribute is the last token
any_unopened : (ys : List Token) (ending : Ending) → IsUnopened ys finished → (ys ≡ [] → ⊥) → IsUnopened ys ending
any_unopened [] ending u n = absurd (n refl)
any_unopened (t ∷ ys) ending u n = u

any_whole : (o : Arguments) (ys : List Token) (ending : Ending) → IsWhole o ys finished
    → (o ≡ None → ys ≡ [] → ⊥) → IsWhole o ys ending
any_whole None ys ending w n = any_unopened ys ending w (n refl)
any_whole (Some es) ys ending w n = tt

-- an attribute without arguments is `@` and a name
bare_is : (v : Spanned AttributeParts) (p : List Token) → Derives unchecked written attribute v p
    → v.node.arguments ≡ None
    → (a t : Token) × (p ≡ a ∷ t ∷ []) × (a.class ≡ SymAttr) × (is_among t.class names ≡ true)
bare_is v p d n = go (unroll unchecked written attribute v p [] d)
  where
    go : Means unchecked (Part unchecked written) (written attribute) v p []
        → (a t : Token) × (p ≡ a ∷ t ∷ []) × (a.class ≡ SymAttr) × (is_among t.class names ≡ true)
    go (k, (r, f, (q, g, (ms, (m1, e1), (us, (m2, e2), inr (h, z)))))) = (
      q.0,
      q.1.0,
      e1 ∙ ap (λ (u : List Token). q.0 ∷ u) (e2 ∙ ap (λ (u : List Token). q.1.0 ∷ u) z),
      one_class _ _ m1,
      m2,
    )
    go (k, (r, f, (q, g, (ms, (m1, e1), (us, (m2, e2), inl (es, h, z)))))) =
        let s : Some es ≡ v.node.arguments = h ∙ (ap (λ (z : Token × Arguments). z.1) g
        ∙ ap (λ (z : Spanned AttributeParts). z.node.arguments) f) in
        let s' : Some es ≡ None = s ∙ n in absurd cc

any_fault : (ts : List Token) (ending : Ending) (x : Fault) (ys : List Token) → (EndsBare ts → ⊥)
    → IsCheckedFault ts finished x ys → IsCheckedFault ts ending x ys
any_fault ts ending x ys b (reserved_fault r) = reserved_fault r
any_fault ts ending x ys b (severity_fault_at r) = severity_fault_at r
any_fault ts ending x ys b (attribute_fault_at (before, p, v, w, d, c, e)) =
    attribute_fault_at (
      before,
      p,
      v,
      w,
      d,
      any_whole v.node.arguments ys ending c (λ n nil. let r = bare_is v p d n in
          b (
            before,
            r.0,
            r.1,
            w ∙ ap (λ (z : List Token). before ++ z) (ap (λ (z : List Token). p ++ z) nil ∙ (append-nil p ∙ r.2)),
            r.3,
            r.4,
          )),
      e,
    )
any_fault ts ending x ys b (var_template_fault r) = var_template_fault r

-- a sentence of one of the seven symbols that has no checked fault derives a tree
pub checked_sentence_is_full : (n : Symbol) → is_read_alone n ≡ true
    → (ts : List Token) (ending : Ending) → IsSentence written n ts
    → ((x : Fault) (ys : List Token) → IsCheckedFault ts ending x ys → ⊥)
    → (v : Value n) × Derives checking written n v ts
checked_sentence_is_full n k ts ending s none =
    let r = faultless tables body rank_limit apart tested (of n) ts (sentence_in parsed n ts s)
    (λ x ys f. none x ys
    (any_fault ts ending x ys (not_bare n k s.0 ts s.1) (fault_is_plain ts finished refl x ys f))) in
    (r.0, factored_is_written parsed checking n r.0 ts [] r.1)
