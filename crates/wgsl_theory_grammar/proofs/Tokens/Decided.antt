-- A text begins with a template list, or it does not.
use Rattle.std.proofs.Common.{◌≡◌, ◌⊎◌, ℕ, zero, suc, ◌<◌, Bool, true, false, eqb, eqb-true, List, [], ◌∷◌, ◌++◌, length, inl, inr, refl, sym, ap, subst, ◌∙◌, arith}
use Rattle.grammar.specs.Tokens.{Token}
use Rattle.grammar.specs.Grammar.{Mode.checking, Derives}
use Rattle.grammar.specs.Reading.{Outcome, Outcome.ok, Outcome.stuck, Outcome.bad, Outcome.out, read_all}
use Rattle.grammar.proofs.Reading.Sets.{cases, clash}
use Rattle.wgsl_model.specs.Tokens.ClassTable.{SymLessThan}
use Rattle.wgsl_model.specs.Tokens.Kind.{Kind}
use Rattle.wgsl_model.specs.Tokens.Raw.{Raw, none_left, invalid, token, raw}
use Rattle.wgsl_model.specs.Trees.Expressions.{ExpressionNode}
use Rattle.wgsl_model.specs.Grammar.Symbols.{Symbol.expressions}
use Rattle.wgsl_model.specs.Grammar.Written.{written}
use Rattle.wgsl_model.specs.Tokens.Templates.{is_word, is_opening, is_closing, begins_with_greater, is_short_circuit, goes_on, TemplateRelation, Inside, at_greater, at_opening, at_closing, Enclosed, enclosed, TemplateUpTo, Template}
use Rattle.wgsl_theory_grammar.specs.Factored.{FactoredSymbol.of, body}
use Rattle.wgsl_theory_grammar.specs.Tables.{tables, rank_limit}
use Rattle.wgsl_theory_grammar.proofs.WrittenTree.{written_exact}
use Rattle.wgsl_theory_grammar.proofs.Tokens.Cuts.{ends_length, shorter}
use Rattle.wgsl_theory_grammar.proofs.Tokens.Bounds.{LeavesEnd, up_to_leaves}
use Rattle.wgsl_theory_grammar.proofs.Tokens.Classes.{goes_on_zero, goes_on_deeper}
use Rattle.wgsl_theory_grammar.proofs.Tokens.Inside.{at, After, after_list, after_none, step_at, from_opening, from_closing, from_short_circuit, from_other, to_other}
use Rattle.wgsl_theory_grammar.proofs.Tokens.Unique.{IsUnique, inside_unique, up_to_unique}

-- it holds, or it does not
abbrev pub Decided : Type 0 → Type 0
Decided A = A ⊎ (A → ⊥)

-- the tokens are a list of expressions
abbrev pub IsList : List Token → Type 0
IsList ts = (v : List ExpressionNode) × Derives checking written expressions v ts

list_by : (ts : List Token) (o : Outcome (List ExpressionNode))
    → read_all tables checking body rank_limit (of expressions) ts ≡ o → Decided (IsList ts)
list_by ts (ok v []) e = inl (v, (written_exact checking expressions v ts).0 e)
list_by ts (ok v (t ∷ us)) e = inr (λ h. let k = (written_exact checking expressions h.0 ts).1 h.1 in cc)
list_by ts (stuck us) e = inr (λ h. let k = (written_exact checking expressions h.0 ts).1 h.1 in cc)
list_by ts (bad x us) e = inr (λ h. let k = (written_exact checking expressions h.0 ts).1 h.1 in cc)
list_by ts out e = inr (λ h. let k = (written_exact checking expressions h.0 ts).1 h.1 in cc)

pub list_decided : (ts : List Token) → Decided (IsList ts)
list_decided ts = list_by ts (read_all tables checking body rank_limit (of expressions) ts) refl

-- the text begins with a list
abbrev pub Begins : TemplateRelation → List ℕ → Type 0
Begins R text = (ts : List Token) × (rest : List ℕ) × R text ts rest

abbrev pub IsDecided : TemplateRelation → Type 0
IsDecided R = (text : List ℕ) → Decided (Begins R text)

-- tokens are inside
abbrev pub Stands : ℕ → TemplateRelation → ℕ → List ℕ → Type 0
Stands total R depth text = (ts : List Token) × (end : List ℕ) × Inside total R depth text ts end

-- ---- by what is at the front
opening_decided : (total : ℕ) (R : TemplateRelation) (depth : ℕ) (text from after : List ℕ) (kind : Kind)
    → raw text ≡ token kind from after → is_opening kind.class ≡ true
    → Decided (Stands total R (suc depth) after) → Decided (Stands total R depth text)
opening_decided total R depth text from after kind r g (inl (ts, end, h)) =
    inl (at total kind from after ∷ ts, end, at_opening depth text from after end kind ts r g h)
opening_decided total R depth text from after kind r g (inr never) =
    inr (λ (ts, end, h). let k = from_opening total R depth kind from after ts end g
    (step_at total R depth text ts end (token kind from after) r h) in never (k.0, end, k.2))

closing_decided : (total : ℕ) (R : TemplateRelation) (depth : ℕ) (text from after : List ℕ) (kind : Kind)
    → raw text ≡ token kind from after → is_closing kind.class ≡ true
    → ((d : ℕ) → Decided (Stands total R d after)) → Decided (Stands total R depth text)
closing_decided total R zero text from after kind r g o =
    inr (λ (ts, end, h). let k = from_closing total R 0 kind from after ts end g
    (step_at total R 0 text ts end (token kind from after) r h) in let e = k.1 in cc)
closing_decided total R (suc d) text from after kind r g o = elim (o d) [
  | inl (ts, end, h) ↦
      inl (at total kind from after ∷ ts, end, at_closing d text from after end kind ts r g h)
  | inr never ↦ inr (λ (ts, end, h).
      let k = from_closing total R (suc d) kind from after ts end g
      (step_at total R (suc d) text ts end (token kind from after) r h) in
      let e = k.1 in let same : k.0 ≡ d = cc in
      never (k.2, end, subst (λ x. Inside total R x after k.2 end) same k.4))
]

-- after a token, which may be a word
after_decided : (total : ℕ) (R : TemplateRelation) → IsUnique R
    → (word : Bool) (depth : ℕ) (text : List ℕ) → Decided (Begins R text)
    → ((rest : List ℕ) → (ts : List Token) → R text ts rest → Decided (Stands total R depth rest))
    → Decided (Stands total R depth text)
    → Decided ((ts : List Token) × (end : List ℕ) × After total R word depth text ts end)
after_decided total R u false depth text o inner (inl (ts, end, h)) = inl (ts, end, after_none (λ w. absurd cc) h)
after_decided total R u false depth text o inner (inr never) = inr go where
  go : (ts : List Token) × (end : List ℕ) × After total R false depth text ts end → ⊥
  go (ts, end, after_list w us vs rest q e h) = cc
  go (ts, end, after_none n h) = never (ts, end, h)
after_decided total R u true depth text (inl (us, rest, q)) inner o = elim (inner rest us q) [
  | inl (ts, end, h) ↦ inl (us ++ ts, end, after_list refl us ts rest q refl h)
  | inr never ↦ inr (go never)
] where
  go : (Stands total R depth rest → ⊥) → (ts : List Token) × (end : List ℕ) × After total R true depth text ts end → ⊥
  go never (ts, end, after_list w us' vs rest' q' e h) = never
      (vs, end, subst (λ x. Inside total R depth x vs end) (sym (u text us us' rest rest' q q').1) h)
  go never (ts, end, after_none n h) = n refl us rest q
after_decided total R u true depth text (inr none) inner (inl (ts, end, h)) =
    inl (ts, end, after_none (λ w us rest q. none (us, rest, q)) h)
after_decided total R u true depth text (inr none) inner (inr never) = inr go where
  go : (ts : List Token) × (end : List ℕ) × After total R true depth text ts end → ⊥
  go (ts, end, after_list w us vs rest q e h) = none (us, rest, q)
  go (ts, end, after_none n h) = never (ts, end, h)

other_decided : (total : ℕ) (R : TemplateRelation) (depth : ℕ) (text from after : List ℕ) (kind : Kind)
    → raw text ≡ token kind from after → goes_on depth kind.class ≡ true
    → Decided ((ts : List Token) × (end : List ℕ) × After total R (is_word kind.class) depth after ts end)
    → Decided (Stands total R depth text)
other_decided total R depth text from after kind r g (inl (ts, end, h)) =
    inl (at total kind from after ∷ ts, end, to_other total R depth text from after kind ts end r g h)
other_decided total R depth text from after kind r g (inr never) =
    inr (λ (ts, end, h). let k = from_other total R depth kind from after ts end g
    (step_at total R depth text ts end (token kind from after) r h) in never (k.0, end, k.2))

-- by the class of the token
class_decided : (total : ℕ) (R : TemplateRelation)
    → (depth : ℕ) (text from after : List ℕ) (kind : Kind) → raw text ≡ token kind from after
    → ((d : ℕ) → Decided (Stands total R d after))
    → (goes_on depth kind.class ≡ true → Decided ((ts : List Token) × (end : List ℕ)
    × After total R (is_word kind.class) depth after ts end)) → Decided (Stands total R depth text)
class_decided total R depth text from after kind r o b = elim (cases (is_opening kind.class)) [
  | inl g ↦ opening_decided total R depth text from after kind r g (o (suc depth))
  | inr g ↦ elim (cases (is_closing kind.class)) [
    | inl l ↦ closing_decided total R depth text from after kind r l o
    | inr l ↦ at_depth depth r b g l
  ]
] where
  at_depth : (depth : ℕ) → raw text ≡ token kind from after → (goes_on depth kind.class ≡ true
      → Decided ((ts : List Token) × (end : List ℕ) × After total R (is_word kind.class) depth after ts end))
      → is_opening kind.class ≡ false → is_closing kind.class ≡ false → Decided (Stands total R depth text)
  at_depth (suc d) r b g l =
      let on = goes_on_deeper d kind.class g l in other_decided total R
      (suc d) text from after kind r on (b on)
  at_depth zero r b g l = elim (cases (begins_with_greater kind.class)) [
    | inl e ↦ inl ([], from, at_greater text from after kind r e)
    | inr e ↦ elim (cases (is_short_circuit kind.class)) [
      | inl s ↦ inr (λ (ts, end, h). from_short_circuit total R kind from after ts end s
          (step_at total R 0 text ts end (token kind from after) r h))
      | inr s ↦ let on = goes_on_zero kind.class g l e s in
          other_decided total R 0 text from after kind r on (b on)
    ]
  ]

-- by what is at the front, where shorter texts are decided
front_decided : (k total : ℕ) (R : TemplateRelation) → IsUnique R → IsDecided R → LeavesEnd R
    → (depth : ℕ) (text : List ℕ) (r : Raw) → raw text ≡ r → length text < suc k
    → ((deep : ℕ) (t : List ℕ) → length t < k → Decided (Stands total R deep t))
    → Decided (Stands total R depth text)
front_decided k total R u d s depth text none_left e lt more =
    inr (λ (ts, end, h). step_at total R depth text ts end none_left e h)
front_decided k total R u d s depth text (invalid from after) e lt more =
    inr (λ (ts, end, h). step_at total R depth text ts end (invalid from after) e h)
front_decided k total R u d s depth text (token kind from after) e lt more =
    let less = shorter text from after kind e in
    class_decided total R depth text from after kind e (λ deep. more deep after (omega (arith, less)))
    (λ on. after_decided total R u (is_word kind.class) depth after (d after)
    (λ rest ts q. more depth rest (omega (arith, less, ends_length after rest (s after ts rest q))))
    (more depth after (omega (arith, less))))

-- what is inside, of texts shorter than a bound
inside_decided : (k total : ℕ) (R : TemplateRelation) → IsUnique R → LeavesEnd R → IsDecided R
    → (depth : ℕ) (text : List ℕ) → length text < k → Decided (Stands total R depth text)
inside_decided zero total R u s d depth text lt = absurd (omega arith)
inside_decided (suc k) total R u s d depth text lt = front_decided k total R u d s depth text
    (raw text) refl lt (λ deep t less. inside_decided k total R u s d deep t less)

-- ---- a list with its marks
pub enclosed_kind : (total : ℕ) (R : TemplateRelation) (text : List ℕ) (ts : List Token) (rest : List ℕ)
    → Enclosed total R text ts rest
    → (from after end : List ℕ) × (kind : Kind) × (us : List Token) × (raw text ≡ token kind from after)
    × (kind.class ≡ SymLessThan) × Inside total R 0 after us end × IsList us
enclosed_kind total R text ts rest (enclosed t from after end kind us v e c i d) =
    (from, after, end, kind, us, e, c, i, (v, d))

enclosed_decided : (total : ℕ) (R : TemplateRelation) → IsUnique R → LeavesEnd R → IsDecided R
    → IsDecided (Enclosed total R)
enclosed_decided total R u s d text = by_front (raw text) refl where
  by_inside : (from after : List ℕ) (kind : Kind) → raw text ≡ token kind from after
      → kind.class ≡ SymLessThan → Decided (Stands total R 0 after)
      → Decided (Begins (Enclosed total R) text)
  by_inside from after kind e c (inr never) = inr (λ (ts, rest, h).
      let k = enclosed_kind total R text ts rest h in
      let same : token kind from after ≡ token k.3 k.0 k.1 = sym e ∙ k.5 in let a : k.1 ≡ after = cc in
      never (k.4, k.2, subst (λ x. Inside total R 0 x k.4 k.2) a k.7))
  by_inside from after kind e c (inl (us, end, i)) = elim (list_decided us) [
    | inl (v, l) ↦ inl (_, _, enclosed text from after end kind us v e c i l)
    | inr never ↦ inr (λ (ts, rest, h).
        let k = enclosed_kind total R text ts rest h in
        let same : token kind from after ≡ token k.3 k.0 k.1 = sym e ∙ k.5 in let a : k.1 ≡ after = cc in
        let one = inside_unique total R u 0 after us k.4 end k.2 i (subst (λ x. Inside total R 0 x k.4 k.2) a k.7) in
        never (subst IsList (sym one.0) k.8))
  ]

  other_front : (r : Raw) → raw text ≡ r
      → ((from after : List ℕ) (kind : Kind) → r ≡ token kind from after → kind.class ≡ SymLessThan → ⊥)
      → Decided (Begins (Enclosed total R) text)
  other_front r e never =
      inr (λ (ts, rest, h). let k = enclosed_kind total R text ts rest h in never k.0 k.1 k.3 (sym e ∙ k.5) k.6)

  by_class : (from after : List ℕ) (kind : Kind) → raw text ≡ token kind from after
      → (eqb kind.class SymLessThan ≡ true) ⊎ (eqb kind.class SymLessThan ≡ false)
      → Decided (Begins (Enclosed total R) text)
  by_class from after kind e (inl c) = by_inside from after kind e (eqb-true kind.class SymLessThan c)
      (inside_decided (suc (length after)) total R u s d 0 after (omega arith))
  by_class from after kind e (inr c) = other_front (token kind from after) e (λ f a k same less.
      let q : kind ≡ k = cc in let one : kind.class ≡ SymLessThan = ap (λ (x : Kind). x.class) q ∙ less in
      clash _ (subst (λ n. eqb n SymLessThan ≡ true) (sym one) refl) c)

  by_front : (r : Raw) → raw text ≡ r → Decided (Begins (Enclosed total R) text)
  by_front none_left e = other_front none_left e (λ f a k same less. cc)
  by_front (invalid from after) e = other_front (invalid from after) e (λ f a k same less. cc)
  by_front (token kind from after) e = by_class from after kind e (cases (eqb kind.class SymLessThan))

up_to_decided : (n total : ℕ) → IsDecided (TemplateUpTo n total)
up_to_decided zero total text = inr (λ (ts, rest, h). h)
up_to_decided (suc n) total text = enclosed_decided total (TemplateUpTo n total)
    (up_to_unique n total) (up_to_leaves n total) (up_to_decided n total) text

pub template_decided : (total : ℕ) → IsDecided (Template total)
template_decided total text = up_to_decided (length text) total text
