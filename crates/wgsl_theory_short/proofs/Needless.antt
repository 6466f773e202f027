-- Without the `case` before each `default` that is alone, tokens derive the same module. All are at
-- one place, so that no span depends on which tokens there are.
use Rattle.std.proofs.Common.{◌≡◌, ℕ, zero, suc, Bool, true, false, cond, not, ◌&&◌, ◌||◌, ◌==◌, inl, inr, refl, sym, ap, subst, ◌∙◌, List, [], ◌∷◌, ◌++◌, ◌-◌, length, length-append, map, Option, arith}
use Rattle.std.proofs.lemmas.Bool.{true≢false, and_parts, eqb-true}
use Rattle.grammar.specs.Tokens.{Token, Span, last_end, span_of, first_tokens, tokens_between, span_between}
use Rattle.grammar.specs.Grammar.{Grammar.empty, Grammar.token, Grammar.sequence, Grammar.choice, Grammar.mapped, Grammar.node, Grammar.checked, Grammar.symbol, Grammar.left_chain, Mode.checking, is_among, found, Chain, Chain.base, Chain.more, Means, Derives}
use Rattle.grammar.specs.Notation.{one_token, ◌then◌, ◌or◌, ◌gives◌, ◌▹◌, optional, list}
use Rattle.grammar.specs.Tables.{disjoint}
use Rattle.grammar.proofs.Reading.Depth.{roll, unroll}
use Rattle.grammar.proofs.Reading.Sets.{clash, not_true}
use Rattle.wgsl_model.specs.Tokens.ClassTable.{SymAttr, SymColon, SymComma, SymSemicolon, KwCase, KwDefault, Ident, ReservedWord, keyword_classes}
use Rattle.wgsl_model.specs.Trees.Expressions.{ExpressionNode}
use Rattle.wgsl_model.specs.Trees.Statements.{CaseSelector, CompoundStatement, SwitchClause}
use Rattle.wgsl_model.specs.Trees.Units.{TranslationUnit}
use Rattle.wgsl_model.specs.Grammar.Checks.{attribute_fault, attribute_parts}
use Rattle.wgsl_model.specs.Grammar.StatementParts.{attributes}
use Rattle.wgsl_model.specs.Grammar.Symbols.{Symbol, Dialect.parsed, arguments, attribute, case_selector, compound_statement, expression, ident, switch_clause, unit, Value, Rule}
use Rattle.wgsl_model.specs.Grammar.Written.{written}
use Rattle.wgsl_theory_grammar.proofs.Faults.Avoids.{AllOf, none_of, takes_only}
use Rattle.wgsl_theory_grammar.proofs.Faults.WrittenEnds.{in_expression}
use Rattle.wgsl_theory_grammar.proofs.Forms.LevelLinks.{taking, written_takes}
use Rattle.wgsl_theory_grammar.proofs.Forms.Taking.{takes_one}
use Rattle.wgsl_theory_grammar.proofs.Tokens.CheckedRules.{checked_rule, expression_takes}
use Rattle.wgsl_theory_reread.proofs.Again.{D}
use Rattle.wgsl_theory_reread.proofs.Derived.{Relation, by_derivation}
use Rattle.wgsl_model_short.specs.Respelled.{is_needless, without_needless}

-- ---- what stays

abbrev pub class_of : Token → ℕ
class_of t = t.class

abbrev pub kept_tokens : List Token → List Token
kept_tokens ts = without_needless class_of SymSemicolon ts

pub no_case : (last class : ℕ) (after : List ℕ) → (class == KwCase) ≡ false → is_needless last class after ≡ false
no_case last class [] h = refl
no_case last class (d ∷ []) h = refl
no_case last class (d ∷ (e ∷ others)) h = rw h refl

no_name : (last class : ℕ) (after : List ℕ) → (last == SymAttr) ≡ true → is_needless last class after ≡ false
no_name last class [] h = refl
no_name last class (d ∷ []) h = refl
no_name last class (d ∷ (e ∷ others)) h = rw h (go (class == KwCase) (d == KwDefault))
  where
    go : (a b : Bool) → (a && (b && false)) ≡ false
    go true true = refl
    go true false = refl
    go false b = refl

same_needless : (last class : ℕ) (after : List ℕ) → (last == SymAttr) ≡ false
    → is_needless last class after ≡ is_needless SymSemicolon class after
same_needless last class [] h = refl
same_needless last class (d ∷ []) h = refl
same_needless last class (d ∷ (e ∷ others)) h = rw h refl

-- only after `@` it matters which token is before
same_last : (last : ℕ) (ts : List Token) → (last == SymAttr) ≡ false
    → without_needless class_of last ts ≡ kept_tokens ts
same_last last [] h = refl
same_last last (t ∷ ts) h =
    let others = without_needless class_of t.class ts in
    ap (λ b. cond b others (t ∷ others)) (same_needless last t.class (map class_of ts) h)

one_kept : (t : Token) (ts : List Token) (b : Bool) → (t.class == SymAttr) ≡ false
    → is_needless SymSemicolon t.class (map class_of ts) ≡ b
    → kept_tokens (t ∷ ts) ≡ cond b (kept_tokens ts) (t ∷ kept_tokens ts)
one_kept t ts b h e =
    let others = without_needless class_of t.class ts in
    ap (λ x. cond x others (t ∷ others)) e ∙ ap (λ us. cond b us (t ∷ us)) (same_last t.class ts h)

-- ---- at one place

abbrev IsAtStart : Token → Type 0
IsAtStart t = (t.start ≡ 0) × (t.end ≡ 0)

abbrev pub AtStart : List Token → Type 0
AtStart ts = AllOf IsAtStart ts

abbrev no_span : Span
no_span = record { start = 0; end = 0 }

end_at : (place : ℕ) (ts : List Token) → place ≡ 0 → AtStart ts → last_end place ts ≡ 0
end_at place [] e h = e
end_at place (t ∷ ts) e h = end_at t.end ts h.0.1 h.1

first_at : (n : ℕ) (ts : List Token) → AtStart ts → AtStart (first_tokens n ts)
first_at zero ts h = tt
first_at (suc n) [] h = tt
first_at (suc n) (t ∷ ts) h = (h.0, first_at n ts h.1)

span_at : (ts : List Token) → AtStart ts → span_of ts ≡ no_span
span_at [] h = refl
span_at (t ∷ ts) h = λ i. record { start = h.0.0 i; end = end_at t.end ts h.0.1 h.1 i }

kept_at : (last : ℕ) (ts : List Token) → AtStart ts → AtStart (without_needless class_of last ts)
kept_at last [] h = tt
kept_at last (t ∷ ts) h =
    go (is_needless last t.class (map class_of ts)) (without_needless class_of t.class ts) (kept_at t.class ts h.1)
  where
    go : (b : Bool) (us : List Token) → AtStart us → AtStart (cond b us (t ∷ us))
    go true us k = k
    go false us k = (h.0, k)

none_between : (xs ys : List Token) → AtStart xs → span_between xs ys ≡ no_span
none_between xs ys h = span_at (tokens_between xs ys) (first_at (length xs - length ys) xs h)

same_span : (xs ys : List Token) → AtStart xs → span_between (kept_tokens xs) (kept_tokens ys) ≡ span_between xs ys
same_span xs ys h = none_between (kept_tokens xs) (kept_tokens ys) (kept_at SymSemicolon xs h) ∙ sym (none_between xs ys h)

-- ---- parts of rules without `case`

-- what is derived is also derived from what stays
abbrev Stays : Relation
Stays n v xs ys = D n v xs ys × (AtStart xs → AtStart ys × D n v (kept_tokens xs) (kept_tokens ys))

-- a class is none of a list that has no class of another
no_class : (k : ℕ) (t : Token) (s : List ℕ) → disjoint s (k ∷ []) ≡ true → is_among t.class s ≡ true
    → (t.class == k) ≡ false
no_class k t s h m = go (t.class == k) refl ((none_of (k ∷ [])).passed t.class s h m)
  where
    go : (b : Bool) → (t.class == k) ≡ b → cond (t.class == k) true false ≡ false → (t.class == k) ≡ false
    go true e f = absurd (true≢false (sym (ap (λ b. cond b true false) e) ∙ f))
    go false e f = e

-- these classes have neither `case` nor `@`
abbrev without_case : List ℕ → Bool
without_case s = disjoint s (KwCase ∷ []) && disjoint s (SymAttr ∷ [])

abbrev StaysBy : {A : Type 0} → Rule A → A → List Token → List Token → Type 0
StaysBy g v xs ys = AtStart xs → AtStart ys × Means checking D g v (kept_tokens xs) (kept_tokens ys)

abbrev is_fit : {A : Type 0} → Rule A → Bool
is_fit g = takes_only without_case (λ n. true) g

-- one relation follows from another, for what stays
abbrev Follows : {A : Type 0} → (A → List Token → List Token → Type 0)
    → (A → List Token → List Token → Type 0) → Type 0
Follows {A} P Q = (v : A) (xs ys : List Token) → P v xs ys → AtStart xs
    → AtStart ys × Q v (kept_tokens xs) (kept_tokens ys)

chain_stays : {A B : Type 0} (f : A → B → Span → A) (P P' : A → List Token → List Token → Type 0)
    (Q Q' : B → List Token → List Token → Type 0) → Follows P P' → Follows Q Q'
    → (xs : List Token) → AtStart xs → (v : A) (ys : List Token) → Chain f P Q xs v ys
    → AtStart ys × Chain f P' Q' (kept_tokens xs) v (kept_tokens ys)
chain_stays f P P' Q Q' H K xs h _ _ (base a ys d) =
    let w = H a xs ys d h in (w.0, base a (kept_tokens ys) w.1)
chain_stays f P P' Q Q' H K xs h _ _ (more a b ys zs c d) =
    let first = chain_stays f P P' Q Q' H K xs h a ys c in
    let second = K b ys zs d first.0 in (
      second.0,
      subst (λ s. Chain f P' Q' (kept_tokens xs) (f a b s) (kept_tokens zs)) (same_span xs zs h)
          (more a b (kept_tokens ys) (kept_tokens zs) first.1 second.1),
    )

stays : {A : Type 0} (g : Rule A) → is_fit g ≡ true → (v : A) (xs ys : List Token)
    → Means checking Stays g v xs ys → StaysBy g v xs ys
stays (empty a) e v xs ys d h = (subst AtStart d.1 h, (d.0, ap kept_tokens d.1))
stays (token s) e v xs ys d h =
    let at : AtStart (v ∷ ys) = subst AtStart d.1 h in
    let parts = and_parts (disjoint s (KwCase ∷ [])) (disjoint s (SymAttr ∷ [])) e in
    let kept = no_case SymSemicolon v.class (map class_of ys) (no_class KwCase v s parts.0 d.0) in
    (at.1, (d.0, ap kept_tokens d.1 ∙ one_kept v ys false (no_class SymAttr v s parts.1 d.0) kept))
stays (sequence g k) e v xs ys d h =
    let parts = and_parts (is_fit g) (is_fit k) e in
    let first = stays g parts.0 v.0 xs d.0 d.1 h in
    let second = stays k parts.1 v.1 d.0 ys d.2 first.0 in
    (second.0, (kept_tokens d.0, first.1, second.1))
stays (choice g k) e v xs ys (inl d) h =
    let w = stays g (and_parts (is_fit g) (is_fit k) e).0 v xs ys d h in (w.0, inl w.1)
stays (choice g k) e v xs ys (inr d) h =
    let w = stays k (and_parts (is_fit g) (is_fit k) e).1 v xs ys d h in (w.0, inr w.1)
stays (mapped f g) e v xs ys d h = let w = stays g e d.0 xs ys d.2 h in (w.0, (d.0, d.1, w.1))
stays (node f g) e v xs ys d h =
    let w = stays g e d.0 xs ys d.2 h in (w.0, (d.0, ap (f d.0) (same_span xs ys h) ∙ d.1, w.1))
stays (checked f g) e v xs ys d h =
    let w = stays g e v xs ys d.1 h in
    (w.0, (ap (λ s. found checking (f v s)) (same_span xs ys h) ∙ d.0, w.1))
stays (symbol n) e v xs ys d h = d.1 h
stays (left_chain f g k) e v xs ys d h =
    let parts = and_parts (is_fit g) (is_fit k) e in
    chain_stays f (Means checking Stays g) (Means checking D g) (Means checking Stays k) (Means checking D k)
    (stays g parts.0) (stays k parts.1) xs h v ys d

-- ---- what a clause selects

-- no expression begins with `default`
held : (n : Symbol) → (not (in_expression n)
    || takes_only (λ s. disjoint s (KwDefault ∷ [])) in_expression (checked_rule n)) ≡ true
held ident = refl
held n = refl

no_expression : (t : Token) (ts ys : List Token) (v : ExpressionNode) → t.class ≡ KwDefault
    → D expression v (t ∷ ts) ys → ⊥
no_expression t ts ys v e d = go w.0 w.1 w.2
  where
    w : (p : List Token) × (t ∷ ts ≡ p ++ ys) × AllOf (λ (u : Token). is_among u.class (KwDefault ∷ []) ≡ false) p
    w = expression_takes (none_of (KwDefault ∷ [])) held expression refl v (t ∷ ts) ys d

    go : (p : List Token) → t ∷ ts ≡ p ++ ys → AllOf (λ (u : Token). is_among u.class (KwDefault ∷ []) ≡ false) p → ⊥
    go [] q h =
        let less = takes_one checking written taking (written_takes parsed) expression refl v (t ∷ ts) ys d in
        omega (arith, ap length less.2, ap length q, length-append less.1 ys)
    go (u ∷ p) q h =
        let same : t ≡ u = cc in
        clash (is_among u.class (KwDefault ∷ []))
        (ap (λ c. is_among c (KwDefault ∷ [])) (ap class_of (sym same) ∙ e)) h.0

-- a selector of a `default`
record IsDefault (v : CaseSelector) (ts ys : List Token) : Type 0 where
  selector : v ≡ CaseSelector.default_selector
  rest : ys ≡ ts

default_first : (t : Token) (ts ys : List Token) (v : CaseSelector) → t.class ≡ KwDefault
    → D case_selector v (t ∷ ts) ys → IsDefault v ts ys
default_first t ts ys v e d = go (unroll checking written case_selector v (t ∷ ts) ys d)
  where
    go : Means checking D (written case_selector) v (t ∷ ts) ys → IsDefault v ts ys
    go (inl h) = record { selector = sym h.1; rest = cc }
    go (inr h) = absurd (no_expression t ts ys h.0 e h.2)

-- no comma is first
abbrev NoComma : List Token → Type 0
NoComma [] = Unit {0}
NoComma (t ∷ ts) = (t.class == SymComma) ≡ false

no_comma : (ts us : List Token) (t : Token) → NoComma ts → ts ≡ t ∷ us → is_among t.class (SymComma ∷ []) ≡ true → ⊥
no_comma [] us t n q m = absurd cc
no_comma (s ∷ ts) us t n q m =
    let same : s ≡ t = cc in
    true≢false (sym m ∙ ap (λ b. cond b true false) (ap (λ (x : Token). x.class == SymComma) (sym same) ∙ n))

record IsDefaultList (v : List CaseSelector) (ts ys : List Token) : Type 0 where
  selectors : v ≡ CaseSelector.default_selector ∷ []
  rest : ys ≡ ts

only_default : (t : Token) (ts : List Token) → t.class ≡ KwDefault → NoComma ts → (v : List CaseSelector) (ys : List Token)
    → Chain (λ (xs : List CaseSelector) (x : CaseSelector) s. xs ++ (x ∷ []))
    (Means checking Stays (symbol case_selector gives (λ (x : CaseSelector). x ∷ [])))
    (Means checking Stays (SymComma ▹ symbol case_selector)) (t ∷ ts) v ys
    → IsDefaultList v ts ys
only_default t ts e n _ _ (base v ys d) =
    let one = default_first t ts ys d.0 e d.2.0 in
    record { selectors = sym d.1 ∙ ap (λ x. x ∷ []) one.selector; rest = one.rest }
only_default t ts e n _ _ (more a b ys zs c d) =
    let before = only_default t ts e n a ys c in
    absurd (no_comma ts d.2.0 d.0.0 n (sym before.rest ∙ d.2.1.1) d.2.1.0)

default_list : (t : Token) (ts : List Token) → t.class ≡ KwDefault → NoComma ts → (v : List CaseSelector) (ys : List Token)
    → Means checking Stays (list SymComma (symbol case_selector)) v (t ∷ ts) ys → IsDefaultList v ts ys
default_list t ts e n v ys (inl d) = only_default t ts e n v ys d
default_list t ts e n v ys (inr d) =
    let before = only_default t ts e n d.0.0 d.2.0 d.2.1 in
    absurd (no_comma ts ys d.0.1 n (sym before.rest ∙ d.2.2.1) d.2.2.0)

-- ---- a clause

abbrev Body : Type 0
Body = List CaseSelector × CompoundStatement

abbrev block : Rule (Option Token × CompoundStatement)
block = optional (one_token SymColon) then symbol compound_statement

abbrev selected : Rule (List CaseSelector × (Option Token × CompoundStatement))
selected = list SymComma (symbol case_selector) then block

abbrev with_case : Rule Body
with_case = KwCase ▹ selected gives (λ (selectors, (colon, block)). (selectors, block))

abbrev alone : Rule Body
alone = KwDefault ▹ block gives λ (colon, block). (CaseSelector.default_selector ∷ [], block)

-- the classes after a needless `case`
record IsNeedless (ts : List Token) : Type 0 where
  default : Token
  rest : List Token
  whole : ts ≡ default ∷ rest
  is_default : default.class ≡ KwDefault
  no_comma : NoComma rest

needless : (class : ℕ) (ts : List Token) → is_needless SymSemicolon class (map class_of ts) ≡ true → IsNeedless ts
needless class [] h = absurd (true≢false (sym h))
needless class (d ∷ []) h = absurd (true≢false (sym h))
needless class (d ∷ (e ∷ others)) h =
    let inner = and_parts (d.class == KwDefault) (not (e.class == SymComma)) (and_parts (class == KwCase) _ h).1 in
    record {
      default = d;
      rest = e ∷ others;
      whole = refl;
      is_default = eqb-true d.class KwDefault inner.0;
      no_comma = not_true (e.class == SymComma) inner.1;
    }

-- the clause stays without its `case`
needless_clause : (v : Body) (ns ys : List Token) → AtStart ns → IsNeedless ns
    → (a : List CaseSelector × (Option Token × CompoundStatement)) → (a.0, a.1.1) ≡ v
    → Means checking Stays selected a ns ys
    → AtStart ys × Means checking D alone v (kept_tokens ns) (kept_tokens ys)
needless_clause v ns ys h i a q d =
    let here : Means checking Stays (list SymComma (symbol case_selector)) a.0 (i.default ∷ i.rest) d.0 =
    subst (λ xs. Means checking Stays (list SymComma (symbol case_selector)) a.0 xs d.0) i.whole d.1 in
    let only = default_list i.default i.rest i.is_default i.no_comma a.0 d.0 here in
    let at : AtStart (i.default ∷ i.rest) = subst AtStart i.whole h in
    let following = stays block refl a.1 d.0 ys d.2 (subst AtStart (sym only.rest) at.1) in
    let first : kept_tokens ns ≡ i.default ∷ kept_tokens d.0 = ap kept_tokens i.whole
    ∙ one_kept i.default i.rest false (ap (λ c. c == SymAttr) i.is_default)
    (no_case SymSemicolon i.default.class (map class_of i.rest) (ap (λ c. c == KwCase) i.is_default))
    ∙ ap (λ xs. i.default ∷ kept_tokens xs) (sym only.rest) in
    let value : (CaseSelector.default_selector ∷ [], a.1.1) ≡ v = ap (λ s. (s, a.1.1)) (sym only.selectors) ∙ q in (
      following.0,
      (
        a.1,
        value,
        (
          (i.default, a.1),
          refl,
          (
            kept_tokens d.0,
            (ap (λ c. is_among c (KwDefault ∷ [])) i.is_default, first),
            following.1,
          ),
        ),
      ),
    )

body_stays : (v : Body) (xs ys : List Token) → Means checking Stays (with_case or alone) v xs ys
    → StaysBy (with_case or alone) v xs ys
body_stays v xs ys (inr d) h = let w = stays alone refl v xs ys d h in (w.0, inr w.1)
body_stays v xs ys (inl d) h = go (is_needless SymSemicolon case.class (map class_of ns)) refl
  where
    case : Token
    case = d.2.0.0

    ns : List Token
    ns = d.2.2.0

    at : AtStart (case ∷ ns)
    at = subst AtStart d.2.2.1.1 h

    no_at : (case.class == SymAttr) ≡ false
    no_at = no_class SymAttr case (KwCase ∷ []) refl d.2.2.1.0

    inner : Means checking Stays selected d.0 ns ys
    inner = subst (λ a. Means checking Stays selected a ns ys) d.2.1 d.2.2.2

    go : (b : Bool) → is_needless SymSemicolon case.class (map class_of ns) ≡ b
        → AtStart ys × Means checking D (with_case or alone) v (kept_tokens xs) (kept_tokens ys)
    go true e =
        let w = needless_clause v ns ys at.1 (needless case.class ns e) d.0 d.1 inner in (
          w.0,
          inr (subst (λ us. Means checking D alone v us (kept_tokens ys))
              (sym (ap kept_tokens d.2.2.1.1 ∙ one_kept case ns true no_at e)) w.1),
        )
    go false e =
        let w = stays selected refl d.0 ns ys inner at.1 in (
          w.0,
          inl (
            d.0,
            d.1,
            (
              (case, d.0),
              refl,
              (
                kept_tokens ns,
                (d.2.2.1.0, ap kept_tokens d.2.2.1.1 ∙ one_kept case ns false no_at e),
                w.1,
              ),
            ),
          ),
        )

clause_stays : (v : SwitchClause) (xs ys : List Token) → Means checking Stays (written switch_clause) v xs ys
    → StaysBy (written switch_clause) v xs ys
clause_stays v xs ys d h =
    let first = stays attributes refl d.0.0 xs d.2.0 d.2.1 h in
    let second = body_stays d.0.1 d.2.0 ys d.2.2 first.0 in
    (second.0, (d.0, d.1, (kept_tokens d.2.0, first.1, second.1)))

-- ---- an attribute

-- `@`, a name, which may be `case`, and what is after
at_kept : (t u : Token) (ts : List Token) → is_among t.class (SymAttr ∷ []) ≡ true → (u.class == SymAttr) ≡ false
    → kept_tokens (t ∷ (u ∷ ts)) ≡ t ∷ (u ∷ kept_tokens ts)
at_kept t u ts m n =
    let others = without_needless class_of u.class ts in
    let first = no_case SymSemicolon t.class (map class_of (u ∷ ts)) (no_class KwCase t (SymAttr ∷ []) refl m) in
    let second = no_name t.class u.class (map class_of ts) (is_at t.class m) in
    let following = without_needless class_of t.class (u ∷ ts) in
    ap (λ b. cond b following (t ∷ following)) first
    ∙ ap (λ b. t ∷ cond b others (u ∷ others)) second
    ∙ ap (λ us. t ∷ (u ∷ us)) (same_last u.class ts n)
  where
    is_at : (c : ℕ) → is_among c (SymAttr ∷ []) ≡ true → (c == SymAttr) ≡ true
    is_at c h = go (c == SymAttr) refl h
      where
        go : (b : Bool) → (c == SymAttr) ≡ b → cond (c == SymAttr) true false ≡ true → (c == SymAttr) ≡ true
        go true e f = e
        go false e f = absurd (true≢false (sym f ∙ ap (λ b. cond b true false) e))

abbrev names : List ℕ
names = Ident ∷ ReservedWord ∷ keyword_classes

attribute_stays : (v : Value attribute) (xs ys : List Token) → Means checking Stays (written attribute) v xs ys
    → StaysBy (written attribute) v xs ys
attribute_stays v xs ys d h = (
  following.0,
  (
    ap (λ s. found checking (attribute_fault v s)) span ∙ d.0,
    (
      d.1.0,
      ap (attribute_parts d.1.0) span ∙ d.1.1,
      (
        (at, (name, p.1.1)),
        d.1.2.1,
        (
          name ∷ kept_tokens os,
          (part.1.0, whole),
          (kept_tokens os, (part.2.1.0, refl), following.1),
        ),
      ),
    ),
  ),
)
  where
    p : Token × (Token × Option (List ExpressionNode))
    p = d.1.2.0

    at : Token
    at = p.0

    name : Token
    name = p.1.0

    part : Means checking Stays (sequence (token (SymAttr ∷ [])) (token names then optional (symbol arguments))) p xs ys
    part = d.1.2.2

    os : List Token
    os = part.2.0

    span : span_between (kept_tokens xs) (kept_tokens ys) ≡ span_between xs ys
    span = same_span xs ys h

    whole_tokens : xs ≡ at ∷ (name ∷ os)
    whole_tokens = part.1.1 ∙ ap (λ us. at ∷ us) part.2.1.1

    following : AtStart ys × Means checking D (optional (symbol arguments)) p.1.1 (kept_tokens os) (kept_tokens ys)
    following = stays (optional (symbol arguments)) refl p.1.1 os ys part.2.2 (subst AtStart whole_tokens h).1.1

    whole : kept_tokens xs ≡ at ∷ (name ∷ kept_tokens os)
    whole = ap kept_tokens whole_tokens ∙ at_kept at name os part.1.0 (no_class SymAttr name names refl part.2.1.0)

-- ---- all symbols

rules : (n : Symbol) (v : Value n) (xs ys : List Token) → Means checking Stays (written n) v xs ys
    → StaysBy (written n) v xs ys
rules switch_clause = clause_stays
rules attribute = attribute_stays
rules n = stays (written n) refl

rolled : (n : Symbol) (v : Value n) (xs ys : List Token)
    → AtStart ys × Means checking D (written n) v (kept_tokens xs) (kept_tokens ys)
    → AtStart ys × D n v (kept_tokens xs) (kept_tokens ys)
rolled n v xs ys w = (w.0, roll checking written n v (kept_tokens xs) (kept_tokens ys) w.1)

pub unit_stays : (u : TranslationUnit) (ts : List Token) → Derives checking written unit u ts → AtStart ts
    → Derives checking written unit u (kept_tokens ts)
unit_stays u ts d h = ((by_derivation Stays each unit u ts [] d).1 h).1
  where
    each : (n : Symbol) (v : Value n) (xs ys : List Token) → D n v xs ys
        → Means checking Stays (written n) v xs ys → Stays n v xs ys
    each n v xs ys here d = (here, λ h. rolled n v xs ys (rules n v xs ys d h))
