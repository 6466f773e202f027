-- The faults of the checks, in the plain words of the four kinds.
use Rattle.std.proofs.Common.{◌≡◌, ℕ, true, false, eqb, List, [], ◌∷◌, ◌++◌, inl, inr, refl, sym, ap, subst, ◌∙◌, eqb-true}
use Rattle.std.specs.Prelude.{Option, Some, None}
use Rattle.grammar.specs.Tokens.{Token, Span, Fault, span_of, span_between}
use Rattle.grammar.specs.Grammar.{Mode.unchecked, is_among, Means, Part}
use Rattle.grammar.specs.Endings.{last_class, Ending}
use Rattle.grammar.specs.Faults.{head_check, IsFaulty, IsEnded, FaultIn}
use Rattle.grammar.specs.Reading.{chooses}
use Rattle.grammar.proofs.Reading.Sets.{clash, cases}
use Rattle.grammar.proofs.Reading.Beginnings.{cond_yes, cond_no}
use Rattle.grammar.proofs.Reading.Depth.{roll, unroll}
use Rattle.grammar.proofs.Reading.Frame.{span_append, part_is_front, front_is_part}
use Rattle.grammar.proofs.Faults.First.{ended_read}
use Rattle.grammar.proofs.Faults.Guards.{ended_alone, Closed}
use Rattle.wgsl_model.specs.Tokens.ClassTable.{SymParenLeft, Ident, ReservedWord}
use Rattle.wgsl_model.specs.Tokens.Words.{look_up}
use Rattle.wgsl_model.specs.Faults.Kinds.{span_of_token, reserved_word, diagnostic_severity}
use Rattle.wgsl_model.specs.Trees.NamedValues.{DiagnosticSeverity, severities}
use Rattle.wgsl_model.specs.Trees.Expressions.{ExpressionNode}
use Rattle.wgsl_model.specs.Grammar.TokenValues.{text_of}
use Rattle.wgsl_model.specs.Grammar.Checks.{unreserved, fault_unless, severity_fault, var_fault, Arguments, attribute_fault}
use Rattle.wgsl_model.specs.Grammar.Symbols.{Dialect.parsed, Symbol, Symbol.ident, Symbol.arguments, Symbol.attribute, Symbol.var_template}
use Rattle.wgsl_model.specs.Faults.Checked.{IsApart, wants_memory, IsUnopened, IsReservedFault, IsSeverityFault, IsWhole, IsAttributeFault, IsVarTemplateFault, IsCheckedFault, IsCheckedFault.reserved_fault, IsCheckedFault.severity_fault_at, IsCheckedFault.attribute_fault_at, IsCheckedFault.var_template_fault}
use Rattle.wgsl_theory_grammar.specs.Factored.{Further.components, FactoredSymbol, FactoredSymbol.of, FactoredSymbol.further, FactoredValue, body}
use Rattle.wgsl_theory_grammar.specs.Apart.{apart}
use Rattle.wgsl_theory_grammar.specs.Tables.{firsts, rank_limit, tables}
use Rattle.wgsl_theory_grammar.proofs.Passes.{passes}
use Rattle.wgsl_theory_grammar.proofs.Guards.{reserved_class, attribute_closed, attribute_read, var_read}
use Rattle.wgsl_theory_grammar.proofs.Forms.Links.{written_is_factored, factored_is_written}

pub one_class : (c d : ℕ) → is_among c (d ∷ []) ≡ true → c ≡ d
one_class c d e = elim (cases (eqb c d)) [
  | inl y ↦ eqb-true c d y
  | inr y ↦ clash _ e (cond_no (eqb c d) true false y)
]

pub class_one : (c d : ℕ) → is_among d (d ∷ []) ≡ true → c ≡ d → is_among c (d ∷ []) ≡ true
class_one c d m e = subst (λ (z : ℕ). is_among z (d ∷ []) ≡ true) (sym e) m

pub some_is : (x y : Fault) → Some x ≡ Some y → x ≡ y
some_is x y e = cc

-- a check of one token knows its span
one_span : (t : Token) (xs ys : List Token) → xs ≡ t ∷ ys → span_between xs ys ≡ span_of_token t
one_span t xs ys w = ap (λ (z : List Token). span_between z ys) w ∙ span_append (t ∷ []) ys

-- ---- reserved words
reserved_is : (t : Token) (s : Span) (x : Fault) → unreserved t s ≡ Some x
    → (t.class ≡ ReservedWord) × (x ≡ reserved_word (text_of t) s)
reserved_is t s x e =
    let c = reserved_class t s x e in
    let d = one_class t.class ReservedWord c in
    let y : eqb t.class ReservedWord ≡ true = subst (λ (z : ℕ). eqb z ReservedWord ≡ true) (sym d) refl in (
      d,
      some_is x (reserved_word (text_of t) s) (sym e ∙ cond_yes {A = Option Fault}
          (eqb t.class ReservedWord) (Some (reserved_word (text_of t) s)) None y),
    )

is_reserved : (t : Token) (s : Span) → t.class ≡ ReservedWord → unreserved t s ≡ Some (reserved_word (text_of t) s)
is_reserved t s c = cond_yes {A = Option Fault} (eqb t.class ReservedWord)
    (Some (reserved_word (text_of t) s)) None (subst (λ (z : ℕ). eqb z ReservedWord ≡ true) (sym c) refl)

ident_plain : (ts : List Token) (ending : Ending) (x : Fault) (ys before from : List Token)
    → ts ≡ before ++ from → IsApart before → IsFaulty body (of ident) x from ys
    → IsCheckedFault ts ending x ys
ident_plain ts ending x ys before from w a (v, d, e) =
    let u = unroll unchecked body (of ident) v from ys d in
    let r = reserved_is v (span_between from ys) x e in
    reserved_fault (
      before,
      v,
      w ∙ ap (λ (z : List Token). before ++ z) u.1.1,
      a,
      r.0,
      r.1 ∙ ap (λ (z : Span). reserved_word (text_of v) z) (one_span v from ys u.1.1),
    )

-- ---- severities
-- what a severity that is a fault is
abbrev IsWrong : Token → Fault → Type 0
IsWrong t x = (t.class ≡ Ident) × (look_up severities (text_of t) ≡ None) × (x ≡ diagnostic_severity (span_of_token t))

ident_class : (c : ℕ) → is_among c (Ident ∷ ReservedWord ∷ []) ≡ true → eqb c ReservedWord ≡ false → c ≡ Ident
ident_class c m f = elim (cases (eqb c Ident)) [
  | inl y ↦ eqb-true c Ident y
  | inr y ↦ clash _ m (cond_no (eqb c Ident) true (is_among c (ReservedWord ∷ [])) y
      ∙ cond_no (eqb c ReservedWord) true false f)
]

unless_some : (o : Option DiagnosticSeverity) (f x : Fault) → fault_unless o f ≡ Some x → (o ≡ None) × (x ≡ f)
unless_some None f x e = (refl, some_is x f (sym e))
unless_some (Some a) f x e = absurd cc

severity_wrong : (t : Token) (x : Fault) → is_among t.class (Ident ∷ ReservedWord ∷ []) ≡ true
    → severity_fault t ≡ Some x → IsWrong t x
severity_wrong t x m e = elim (cases (eqb t.class ReservedWord)) [
  | inl y ↦ let q = cond_yes {A = Option Fault} (eqb t.class ReservedWord) None
      (fault_unless (look_up severities (text_of t)) (diagnostic_severity (span_of_token t))) y in absurd cc
  | inr y ↦
      let q = cond_no {A = Option Fault} (eqb t.class ReservedWord) None
      (fault_unless (look_up severities (text_of t)) (diagnostic_severity (span_of_token t))) y in
      let r = unless_some (look_up severities (text_of t)) (diagnostic_severity (span_of_token t)) x (sym q ∙ e) in
      (ident_class t.class m y, r.0, r.1)
]

wrong_severity : (t : Token) (x : Fault) → IsWrong t x → severity_fault t ≡ Some x
wrong_severity t x (c, n, e) =
    let f : Fault = diagnostic_severity (span_of_token t) in
    let y : eqb t.class ReservedWord ≡ false = subst (λ (z : ℕ). eqb z ReservedWord ≡ false) (sym c) refl in
    cond_no {A = Option Fault} (eqb t.class ReservedWord) None (fault_unless (look_up severities (text_of t)) f) y
    ∙ (ap (λ (z : Option DiagnosticSeverity). fault_unless z f) n ∙ ap (λ (z : Fault). Some z) (sym e))

severity_plain : (ts : List Token) (ending : Ending) (x : Fault) (ys before from : List Token)
    → ts ≡ before ++ from → IsApart before → IsFaulty body (of Symbol.diagnostic_severity) x from ys
    → IsCheckedFault ts ending x ys
severity_plain ts ending x ys before from w a (v, d, e) =
    go (unroll unchecked body (of Symbol.diagnostic_severity) v from ys d)
  where
    go : Means unchecked (Part unchecked body) (body (of Symbol.diagnostic_severity)) v from ys
        → IsCheckedFault ts ending x ys
    go (c, (q, g, (ms, (m1, e1), (r, h, (us, (m2, e2), n))))) =
        let u = unroll unchecked body (of ident) r.1 us ys n in
        let l : from ≡ q.0 ∷ r.0 ∷ r.1 ∷ ys = e1
        ∙ ap (λ (z : List Token). q.0 ∷ z) (e2 ∙ ap (λ (z : List Token). r.0 ∷ z) u.1.1) in
        let y = severity_wrong r.1 x u.1.0 (subst (λ (z : Token). severity_fault z ≡ Some x) (sym (h ∙ g)) e) in
        severity_fault_at (
          before,
          q.0,
          r.0,
          r.1,
          w ∙ ap (λ (z : List Token). before ++ z) l,
          a,
          one_class _ _ m1,
          one_class _ _ m2,
          y.0,
          y.1,
          y.2,
        )

-- ---- attributes and `var` templates: slices
-- no `(` follows, where it was not refused for memory
unopened : (ys : List Token) (ending : Ending) → wants_memory ending ≡ false
    → chooses (SymParenLeft ∷ []) ys ≡ false → IsUnopened ys ending
unopened [] ending m c = m
unopened (t ∷ ys) ending m c = elim (cases (eqb t.class SymParenLeft)) [
  | inl y ↦ clash _ (cond_yes (eqb t.class SymParenLeft) true false y) c
  | inr y ↦ y
]

closed_is : (ys : List Token) (ending : Ending) → IsUnopened ys ending → chooses (SymParenLeft ∷ []) ys ≡ false
closed_is [] ending u = refl
closed_is (t ∷ ys) ending u = cond_no (eqb t.class SymParenLeft) true false u

whole_of : (o : Arguments) (ys : List Token) (ending : Ending) → wants_memory ending ≡ false
    → Closed (firsts (of arguments)) o ys → IsWhole o ys ending
whole_of None ys ending m (inl e) = absurd cc
whole_of None ys ending m (inr c) = unopened ys ending m c
whole_of (Some es) ys ending m c = tt

of_whole : (o : Arguments) (ys : List Token) (ending : Ending) → IsWhole o ys ending
    → Closed (firsts (of arguments)) o ys
of_whole None ys ending w = inr (closed_is ys ending w)
of_whole (Some es) ys ending w = inl refl

attribute_plain : (ts : List Token) (ending : Ending) → wants_memory ending ≡ false
    → (x : Fault) (ys before from : List Token) → ts ≡ before ++ from → IsEnded body (of attribute) from ys
    → IsFaulty body (of attribute) x from ys → IsCheckedFault ts ending x ys
attribute_plain ts ending m x ys before from w i (v, d, e) =
    let p = part_is_front unchecked body (of attribute) v from ys d in
    let s : span_between from ys ≡ span_of p.0 = ap (λ (z : List Token). span_between z ys) p.1 ∙ span_append p.0 ys in
    attribute_fault_at (
      before,
      p.0,
      v,
      w ∙ ap (λ (z : List Token). before ++ z) p.1,
      factored_is_written parsed unchecked attribute v p.0 [] p.2,
      whole_of v.node.arguments ys ending m
          (attribute_closed v from ys (unroll unchecked body (of attribute) v from ys d) i),
      subst (λ (z : Span). attribute_fault v z ≡ Some x) s e,
    )

var_plain : (ts : List Token) (ending : Ending) (x : Fault) (ys before from : List Token)
    → ts ≡ before ++ from → IsApart before → IsFaulty body (of var_template) x from ys
    → IsCheckedFault ts ending x ys
var_plain ts ending x ys before from w a (None, d, e) = absurd cc
var_plain ts ending x ys before from w a (Some es, d, e) =
    let v : Option (List ExpressionNode) = Some es in
    let p = part_is_front unchecked body (of var_template) v from ys d in
    let s : span_between from ys ≡ span_of p.0 = ap (λ (z : List Token). span_between z ys) p.1 ∙ span_append p.0 ys in
    var_template_fault (
      before,
      p.0,
      es,
      w ∙ ap (λ (z : List Token). before ++ z) p.1,
      a,
      factored_is_written parsed unchecked var_template v p.0 [] p.2,
      subst (λ (z : Span). var_fault v z ≡ Some x) s e,
    )

-- ---- all symbols
no_check : (n : FactoredSymbol) → ((v : FactoredValue n) (s : Span) → head_check (body n) v s ≡ None)
    → (x : Fault) (xs ys : List Token) → IsFaulty body n x xs ys → ⊥
no_check n H x xs ys (v, d, e) = let q = sym (H v (span_between xs ys)) ∙ e in absurd cc

plain_of : (ts : List Token) (ending : Ending) → wants_memory ending ≡ false
    → (x : Fault) (ys : List Token) (n : FactoredSymbol) (before from : List Token) → ts ≡ before ++ from
    → is_among (last_class 0 before) (apart n) ≡ false → IsEnded body n from ys
    → IsFaulty body n x from ys → IsCheckedFault ts ending x ys
plain_of ts ending m x ys (of ident) before from w a i f = ident_plain ts ending x ys before from w a f
plain_of ts ending m x ys (of Symbol.diagnostic_severity) before from w a i f =
    severity_plain ts ending x ys before from w a f
plain_of ts ending m x ys (of attribute) before from w a i f = attribute_plain ts ending m x ys before from w i f
plain_of ts ending m x ys (of var_template) before from w a i f = var_plain ts ending x ys before from w a f
plain_of ts ending m x ys (of n) before from w a i f = absurd (no_check (of n) (λ v s. refl) x from ys f)
plain_of ts ending m x ys (further components) before from w a i f =
    absurd (no_check (further components) (λ v s. refl) x from ys f)
plain_of ts ending m x ys (further y) before from w a i f = absurd (no_check (further y) (λ v s. refl) x from ys f)

-- what the checks find is one of the four kinds, where memory was not refused
pub fault_is_plain : (ts : List Token) (ending : Ending) → wants_memory ending ≡ false
    → (x : Fault) (ys : List Token) → FaultIn body apart ts x ys → IsCheckedFault ts ending x ys
fault_is_plain ts ending m x ys f =
    plain_of ts ending m x ys f.symbol_of f.before f.from f.whole f.not_after f.ended f.faulty

-- ---- and back
reserved_back : (ts : List Token) (x : Fault) (ys : List Token) → IsReservedFault ts x ys → FaultIn body apart ts x ys
reserved_back ts x ys (before, t, w, a, c, e) =
    let m : is_among t.class (Ident ∷ ReservedWord ∷ []) ≡ true =
    subst (λ (z : ℕ). is_among z (Ident ∷ ReservedWord ∷ []) ≡ true) (sym c) refl in
    let d : Part unchecked body (of ident) t (t ∷ ys) ys = roll unchecked body (of ident) t
    (t ∷ ys) ys (refl, (m, refl)) in
    record {
      symbol_of = of ident;
      before = before;
      from = t ∷ ys;
      whole = w;
      not_after = a;
      ended = ended_alone tables body rank_limit passes (of ident) refl t (t ∷ ys) ys d;
      faulty = (
        t,
        d,
        is_reserved t (span_between (t ∷ ys) ys) c ∙ ap (λ (z : Fault). Some z)
            (ap (λ (z : Span). reserved_word (text_of t) z) (one_span t (t ∷ ys) ys refl) ∙ sym e),
      );
    }

severity_back : (ts : List Token) (x : Fault) (ys : List Token) → IsSeverityFault ts x ys → FaultIn body apart ts x ys
severity_back ts x ys (before, d, p, t, w, a, c1, c2, c3, n, e) =
    let m : is_among t.class (Ident ∷ ReservedWord ∷ []) ≡ true =
    subst (λ (z : ℕ). is_among z (Ident ∷ ReservedWord ∷ []) ≡ true) (sym c3) refl in
    let inner : Part unchecked body (of ident) t (t ∷ ys) ys = roll unchecked body (of ident) t
    (t ∷ ys) ys (refl, (m, refl)) in
    let from : List Token = d ∷ p ∷ t ∷ ys in
    let i : Token × Token = (p, t) in
    let h : Token × Token = (d, t) in
    let r : Part unchecked body (of Symbol.diagnostic_severity) t from ys = roll unchecked body
    (of Symbol.diagnostic_severity) t from ys (
      refl,
      (h, refl, (p ∷ t ∷ ys, (class_one _ _ refl c1, refl), (i, refl, (t ∷ ys, (class_one _ _ refl c2, refl), inner)))),
    ) in
    record {
      symbol_of = of Symbol.diagnostic_severity;
      before = before;
      from = from;
      whole = w;
      not_after = a;
      ended = ended_alone tables body rank_limit passes (of Symbol.diagnostic_severity) refl t from ys r;
      faulty = (t, r, wrong_severity t x (c3, n, e));
    }

attribute_back : (ts : List Token) (ending : Ending) (x : Fault) (ys : List Token)
    → IsAttributeFault ts ending x ys → FaultIn body apart ts x ys
attribute_back ts ending x ys (before, p, v, w, d, c, e) =
    let r : Part unchecked body (of attribute) v (p ++ ys) ys = front_is_part unchecked body
    (of attribute) v p ys (written_is_factored parsed unchecked attribute v p [] d) in
    record {
      symbol_of = of attribute;
      before = before;
      from = p ++ ys;
      whole = w;
      not_after = refl;
      ended = ended_read tables body rank_limit passes (of attribute) v (p ++ ys) ys
          (attribute_read v (p ++ ys) ys (unroll unchecked body (of attribute) v (p ++ ys) ys r)
          (of_whole v.node.arguments ys ending c));
      faulty = (v, r, subst (λ (z : Span). attribute_fault v z ≡ Some x) (sym (span_append p ys)) e);
    }

var_back : (ts : List Token) (x : Fault) (ys : List Token) → IsVarTemplateFault ts x ys → FaultIn body apart ts x ys
var_back ts x ys (before, p, es, w, a, d, e) =
    let v : Option (List ExpressionNode) = Some es in
    let r : Part unchecked body (of var_template) v (p ++ ys) ys = front_is_part unchecked body
    (of var_template) v p ys (written_is_factored parsed unchecked var_template v p [] d) in
    record {
      symbol_of = of var_template;
      before = before;
      from = p ++ ys;
      whole = w;
      not_after = a;
      ended = ended_read tables body rank_limit passes (of var_template) v (p ++ ys) ys
          (var_read v (p ++ ys) ys (unroll unchecked body (of var_template) v (p ++ ys) ys r) (inl refl));
      faulty = (v, r, subst (λ (z : Span). var_fault v z ≡ Some x) (sym (span_append p ys)) e);
    }

-- each of the four kinds is a fault that the checks find
pub plain_is_fault : (ts : List Token) (ending : Ending) (x : Fault) (ys : List Token)
    → IsCheckedFault ts ending x ys → FaultIn body apart ts x ys
plain_is_fault ts ending x ys (reserved_fault r) = reserved_back ts x ys r
plain_is_fault ts ending x ys (severity_fault_at r) = severity_back ts x ys r
plain_is_fault ts ending x ys (attribute_fault_at r) = attribute_back ts ending x ys r
plain_is_fault ts ending x ys (var_template_fault r) = var_back ts x ys r
