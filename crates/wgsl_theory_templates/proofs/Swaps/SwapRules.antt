-- Tokens stay a list of expressions where template lists in them, and what is between
-- parentheses, are in place of others.
use Rattle.std.proofs.Common.{◌≡◌, ℕ, Bool, true, false, ◌&&◌, ◌==◌, if◌then◌else◌, Some, None, List, [], ◌∷◌, ◌++◌, inl, inr, refl, sym, ap, subst, ◌∙◌}
use Rattle.grammar.specs.Tokens.{Token, Fault, Span, span_between}
use Rattle.grammar.specs.Grammar.{Grammar, Grammar.empty, Grammar.token, Grammar.sequence, Grammar.choice, Grammar.mapped, Grammar.node, Grammar.checked, Grammar.symbol, Grammar.left_chain, Mode.checking, Chain, Chain.base, Chain.more, Means, is_among}
use Rattle.grammar.specs.Notation.{◌or◌, ◌gives◌, ◌▹◌, ◌◃◌, list, list_or_none}
use Rattle.grammar.specs.Tables.{disjoint}
use Rattle.grammar.proofs.Reading.Complete.{Stops}
use Rattle.grammar.proofs.Reading.Depth.{same_mode, means_mono, roll, unroll}
use Rattle.grammar.proofs.Reading.Exact.{same_front}
use Rattle.grammar.proofs.Reading.Frame.{part_is_front, front_is_part}
use Rattle.grammar.proofs.Reading.Sets.{and_true, apart, clash, implied}
use Rattle.grammar.proofs.Faults.Anchors.{tail_of}
use Rattle.wgsl_model.specs.Tokens.ClassTable.{SymComma, SymParenLeft, SymParenRight, Ident, ReservedWord, TemplateArgsStart, TemplateArgsEnd}
use Rattle.wgsl_model.specs.Trees.Expressions.{ExpressionNode, Expression}
use Rattle.wgsl_model.specs.Grammar.ExpressionParts.{placed_expression}
use Rattle.wgsl_model.specs.Grammar.Symbols.{Symbol, Symbol.ident, Symbol.type_specifier, Symbol.template_list, Symbol.expressions, Symbol.call, Symbol.arguments, Symbol.literal, Symbol.primary_expression, Symbol.expression, Value}
use Rattle.wgsl_model.specs.Grammar.Written.{written}
use Rattle.wgsl_theory_grammar.specs.Factored.{FactoredSymbol.of}
use Rattle.wgsl_theory_grammar.specs.Tables.{mores}
use Rattle.wgsl_theory_grammar.proofs.Faults.PlainFaults.{one_class}
use Rattle.wgsl_theory_grammar.proofs.Faults.WrittenEnds.{in_expression}
use Rattle.wgsl_theory_grammar.proofs.Tokens.Decided.{IsList}
use Rattle.wgsl_theory_reread.proofs.Again.{D}
use Rattle.wgsl_theory_reread.proofs.Derived.{by_derivation}
use Rattle.wgsl_theory_templates.proofs.Swaps.SameRest.{same_rest}
use Rattle.wgsl_theory_templates.proofs.Swaps.Swapped.{IsTemplate, IsGroup, IsOne, Swapped, none_swapped, with_token, with_enclosed, Begins, begins, starts, begins_alike}

-- ---- right sides
-- from the tokens zs something is derived too, before tokens that are in place of ys
abbrev pub Also : {A : Type 0} → (A → List Token → List Token → Type 0) → List Token → List Token → Type 0
Also {A} P zs ys = (w : A) × (rest : List Token) × P w zs rest × Swapped ys rest

-- where P is derived, Q is derived from tokens in place of them
abbrev Swaps : {A : Type 0} → (A → List Token → List Token → Type 0) → (A → List Token → List Token → Type 0) → Type 0
Swaps {A} P Q = (v : A) (xs ys : List Token) → P v xs ys → (zs : List Token) → Swapped xs zs → Also Q zs ys

-- what is known of the symbols of expressions
abbrev Known : (n : Symbol) → Value n → List Token → List Token → Type 0
Known n v xs ys = D n v xs ys × (in_expression n ≡ true → (zs : List Token) → Swapped xs zs → Also (D n) zs ys)

derived : {A : Type 0} (g : Grammar Symbol Value A) (v : A) (xs ys : List Token)
    → Means checking Known g v xs ys → Means checking D g v xs ys
derived g = means_mono checking checking (same_mode checking) Known D (λ n v xs ys d. d.0) g

-- a right side begins no template list and no parentheses itself, has no checks, and its symbols
-- are in expressions
abbrev is_steady : {A : Type 0} → Grammar Symbol Value A → Bool
is_steady (empty a) = true
is_steady (token s) = disjoint s (starts)
is_steady (sequence g h) = is_steady g && is_steady h
is_steady (choice g h) = is_steady g && is_steady h
is_steady (mapped f g) = is_steady g
is_steady (node f g) = is_steady g
is_steady (checked f g) = false
is_steady (symbol n) = in_expression n
is_steady (left_chain f g h) = is_steady g && is_steady h

chain_swaps : {A B : Type 0} (f : A → B → Span → A) (P P' : A → List Token → List Token → Type 0)
    (Q Q' : B → List Token → List Token → Type 0) → Swaps P P' → Swaps Q Q'
    → (xs : List Token) (v : A) (ys : List Token) → Chain f P Q xs v ys → (zs : List Token)
    → Swapped xs zs → (w : A) × (rest : List Token) × Chain f P' Q' zs w rest × Swapped ys rest
chain_swaps f P P' Q Q' H K xs _ _ (base v ys d) zs s = let a = H v xs ys d zs s in (a.0, a.1, base a.0 a.1 a.2, a.3)
chain_swaps f P P' Q Q' H K xs _ _ (more v x ms ys c d) zs s =
    let a = chain_swaps f P P' Q Q' H K xs v ms c zs s in
    let b = K x ms ys d a.1 a.3 in
    (f a.0 b.0 (span_between zs b.1), b.1, more a.0 b.0 a.1 b.1 a.2 b.2, b.3)

swaps : {A : Type 0} (g : Grammar Symbol Value A) → is_steady g ≡ true
    → Swaps (Means checking Known g) (Means checking D g)
swaps (empty a) e v xs ys d zs s = (v, zs, (d.0, refl), subst (λ (l : List Token). Swapped l zs) d.1 s)
swaps (token c) e v xs ys d zs s =
    let a = begins_alike xs zs s v ys d.1 (apart v.class c (starts) e d.0) in
    (a.0, a.1, (ap (λ (x : ℕ). is_among x c) (sym a.3) ∙ d.0, a.2), a.4)
swaps (sequence g h) e v xs ys d zs s =
    let t = and_true (is_steady g) (is_steady h) e in
    let a = swaps g t.0 v.0 xs d.0 d.1 zs s in
    let b = swaps h t.1 v.1 d.0 ys d.2 a.1 a.3 in
    ((a.0, b.0), b.1, (a.1, a.2, b.2), b.3)
swaps (choice g h) e v xs ys (inl d) zs s =
    let a = swaps g (and_true (is_steady g) (is_steady h) e).0 v xs ys d zs s in (a.0, a.1, inl a.2, a.3)
swaps (choice g h) e v xs ys (inr d) zs s =
    let a = swaps h (and_true (is_steady g) (is_steady h) e).1 v xs ys d zs s in (a.0, a.1, inr a.2, a.3)
swaps (mapped f g) e v xs ys d zs s = let a = swaps g e d.0 xs ys d.2 zs s in (f a.0, a.1, (a.0, refl, a.2), a.3)
swaps (node f g) e v xs ys d zs s =
    let a = swaps g e d.0 xs ys d.2 zs s in (f a.0 (span_between zs a.1), a.1, (a.0, refl, a.2), a.3)
swaps (checked f g) e v xs ys d zs s = absurd cc
swaps (symbol n) e v xs ys d zs s = d.1 e zs s
swaps (left_chain f g h) e v xs ys d zs s =
    let t = and_true (is_steady g) (is_steady h) e in
    chain_swaps f (Means checking Known g) (Means checking D g) (Means checking Known h)
    (Means checking D h) (swaps g t.0) (swaps h t.1) xs v ys d zs s

-- a rule without checks
steady_rule : (n : Symbol) → is_steady (written n) ≡ true → (v : Value n) (xs ys : List Token)
    → Means checking Known (written n) v xs ys
    → (zs : List Token) → Swapped xs zs → Also (D n) zs ys
steady_rule n e v xs ys d zs s =
    let a = swaps (written n) e v xs ys d zs s in (a.0, a.1, roll checking written n a.0 zs a.1 a.2, a.3)

-- ---- names
-- a name of the class of one that has no fault has none
either_fault : (b : Bool) (x y : Fault) → (if b then Some x else None) ≡ None → (if b then Some y else None) ≡ None
either_fault true x y e = absurd cc
either_fault false x y e = refl

no_fault : (c e : ℕ) (x y : Fault) → c ≡ e → (if c == ReservedWord then Some x else None) ≡ None
    → (if e == ReservedWord then Some y else None) ≡ None
no_fault c e x y q h = subst (λ (k : ℕ). (if k == ReservedWord then Some y else None) ≡ None) q
    (either_fault (c == ReservedWord) x y h)

ident_rule : (v : Token) (xs ys : List Token) → Means checking Known (written ident) v xs ys
    → (zs : List Token) → Swapped xs zs → Also (D ident) zs ys
ident_rule v xs ys d zs s =
    let a = begins_alike xs zs s v ys d.1.1 (apart v.class (Ident ∷ ReservedWord ∷ []) (starts) refl d.1.0) in (
      a.0,
      a.1,
      roll checking written ident a.0 zs a.1 (
        no_fault v.class a.0.class _ _ a.3 d.0,
        (ap (λ (x : ℕ). is_among x (Ident ∷ ReservedWord ∷ [])) (sym a.3) ∙ d.1.0, a.2),
      ),
      a.4,
    )

-- ---- what is between two tokens
-- it is made of them and of a part
made : {A : Type 0} (c e : ℕ) (g : Grammar Symbol Value A) (start end : Token) (w : A) (zs us ms ys : List Token)
    → is_among start.class (c ∷ []) ≡ true → is_among end.class (e ∷ []) ≡ true
    → zs ≡ start ∷ us → ms ≡ end ∷ ys → Means checking D g w us ms → Means checking D (c ▹ g ◃ e) w zs ys
made c e g start end w zs us ms ys k l i j d = ((start, w), refl, (us, (k, i), ((w, end), refl, (ms, d, (l, j)))))

is_class : (c d : ℕ) → c ≡ d → is_among d (d ∷ []) ≡ true → is_among c (d ∷ []) ≡ true
is_class c d q h = ap (λ (x : ℕ). is_among x (d ∷ [])) q ∙ h

-- where a token is in place of the first, one is in place of the last
token_between : {A : Type 0} (c e : ℕ) (g : Grammar Symbol Value A) → is_steady g ≡ true
    → disjoint (e ∷ []) starts ≡ true
    → (v : A) (xs ys : List Token) (d : Means checking Known (c ▹ g ◃ e) v xs ys)
    → (zs us : List Token) (u : Token) → zs ≡ u ∷ us → d.0.0.class ≡ u.class → Swapped d.2.0 us
    → Also (Means checking D (c ▹ g ◃ e)) zs ys
token_between c e g steady plain v xs ys d zs us u i same m =
    let body = d.2.2 in
    let end = body.0.1 in
    let inner = swaps g steady body.0.0 d.2.0 body.2.0 body.2.1 us m in
    let last = begins_alike body.2.0 inner.1 inner.3 end ys body.2.2.1
    (apart end.class (e ∷ []) starts plain body.2.2.0) in (
      inner.0,
      last.1,
      made c e g u last.0 inner.0 zs us inner.1 last.1
          (ap (λ (x : ℕ). is_among x (c ∷ [])) (sym same) ∙ d.2.1.0)
          (ap (λ (x : ℕ). is_among x (e ∷ [])) (sym last.3) ∙ body.2.2.0) i last.2 inner.2,
      last.4,
    )

-- what is between two tokens derives a symbol, in place of it too
abbrev Encloses : Symbol → (Token → List Token → Token → Type 0) → Type 0
Encloses n P = (s e : Token) (us ps : List Token) → P s us e → (w : Value n) × D n w (s ∷ (us ++ (e ∷ ps))) ps

enclosed_swaps : (n : Symbol) (P : Token → List Token → Token → Type 0) → Encloses n P
    → ((ts : List Token) → Stops (mores (of n)) ts) → (v : Value n) (xs ys zs : List Token) → D n v xs ys
    → (s e t f : Token) (us vs ps qs : List Token) → xs ≡ s ∷ (us ++ (e ∷ ps))
    → zs ≡ t ∷ (vs ++ (f ∷ qs)) → P s us e → P t vs f → Swapped ps qs → Also (D n) zs ys
enclosed_swaps n P make none v xs ys zs d s e t f us vs ps qs i j a b m =
    let here = make s e us ps a in
    let there = make t f vs qs b in
    let same = same_rest n v here.0 xs ys ps d
    (subst (λ (z : List Token). D n here.0 z ps) (sym i) here.1) (none ys) (none ps) in (
      there.0,
      qs,
      subst (λ (z : List Token). D n there.0 z qs) (sym j) there.1,
      subst (λ (z : List Token). Swapped z qs) (sym same.1) m,
    )

-- a list of expressions before a token
before : (us ps : List Token) (e : Token) (l : IsList us)
    → Means checking D (list SymComma (symbol expression)) l.0 (us ++ (e ∷ ps)) (e ∷ ps)
before us ps e l = unroll checking written expressions l.0 (us ++ (e ∷ ps)) (e ∷ ps)
    (front_is_part checking written expressions l.0 us (e ∷ ps) l.1)

stops_none : (ts : List Token) → Stops [] ts
stops_none [] = refl
stops_none (t ∷ ts) = refl

-- ---- template lists
template_made : Encloses template_list IsTemplate
template_made s e us ps a =
    let w = a.2 in
    let ts = s ∷ (us ++ (e ∷ ps)) in (
      w.0,
      roll checking written template_list w.0 ts ps (made TemplateArgsStart TemplateArgsEnd
          (list SymComma (symbol expression)) s e w.0 ts (us ++ (e ∷ ps)) (e ∷ ps) ps
          (is_class s.class TemplateArgsStart a.0 refl)
          (is_class e.class TemplateArgsEnd a.1 refl) refl refl (before us ps e w)),
    )

template_rule : (v : List ExpressionNode) (xs ys : List Token) → D template_list v xs ys
    → Means checking Known (written template_list) v xs ys → (zs : List Token) → Swapped xs zs
    → Also (D template_list) zs ys
template_rule v xs ys here d zs s = by_front (begins xs zs s d.0.0 d.2.0 d.2.1.1) where
  by_front : Begins d.0.0 d.2.0 zs → Also (D template_list) zs ys
  by_front (with_token u us e c m) =
      let a = token_between TemplateArgsStart TemplateArgsEnd
      (list SymComma (symbol expression)) refl refl v xs ys d zs us u e c m in
      (a.0, a.1, roll checking written template_list a.0 zs a.1 a.2, a.3)
  by_front (with_enclosed e u f us vs ps qs i j (inl (a, b)) m) =
      enclosed_swaps template_list IsTemplate template_made stops_none v xs ys zs here d.0.0 e u f
      us vs ps qs (d.2.1.1 ∙ ap (λ (z : List Token). d.0.0 ∷ z) i) j a b m
  by_front (with_enclosed e u f us vs ps qs i j (inr (a, b, o)) m) = clash _ d.2.1.0
      (ap (λ (x : ℕ). is_among x (TemplateArgsStart ∷ [])) a.0)

-- ---- arguments
arguments_made : Encloses arguments IsGroup
arguments_made s e us ps a =
    let w = a.2 in
    let ts = s ∷ (us ++ (e ∷ ps)) in (
      w.0,
      roll checking written arguments w.0 ts ps (made SymParenLeft SymParenRight
          (list_or_none SymComma (symbol expression)) s e w.0 ts (us ++ (e ∷ ps)) (e ∷ ps) ps
          (is_class s.class SymParenLeft a.0 refl)
          (is_class e.class SymParenRight a.1 refl) refl refl (inl (before us ps e w))),
    )

arguments_rule : (v : List ExpressionNode) (xs ys : List Token) → D arguments v xs ys
    → Means checking Known (written arguments) v xs ys → (zs : List Token) → Swapped xs zs
    → Also (D arguments) zs ys
arguments_rule v xs ys here d zs s = by_front (begins xs zs s d.0.0 d.2.0 d.2.1.1) where
  by_front : Begins d.0.0 d.2.0 zs → Also (D arguments) zs ys
  by_front (with_token u us e c m) =
      let a = token_between SymParenLeft SymParenRight
      (list_or_none SymComma (symbol expression)) refl refl v xs ys d zs us u e c m in
      (a.0, a.1, roll checking written arguments a.0 zs a.1 a.2, a.3)
  by_front (with_enclosed e u f us vs ps qs i j (inl (a, b)) m) = clash _ d.2.1.0
      (ap (λ (x : ℕ). is_among x (SymParenLeft ∷ [])) a.0)
  by_front (with_enclosed e u f us vs ps qs i j (inr (a, b, o)) m) =
      enclosed_swaps arguments IsGroup arguments_made stops_none v xs ys zs here d.0.0 e u f us vs
      ps qs (d.2.1.1 ∙ ap (λ (z : List Token). d.0.0 ∷ z) i) j a b m

-- ---- parenthesized expressions
abbrev parenthesized : Grammar Symbol Value ExpressionNode
parenthesized = SymParenLeft ▹ symbol expression ◃ SymParenRight

-- what is derived up to the end of tokens is derived from them
whole : (w : ExpressionNode) (us ps : List Token) → D expression w (us ++ ps) ps → IsOne us
whole w us ps d =
    let p = part_is_front checking written expression w (us ++ ps) ps d in
    (w, subst (λ (z : List Token). D expression w z []) (same_front p.0 us ps (sym p.1)) p.2)

-- an expression is a list of one
one_of_list : (w : ExpressionNode) (xs ys : List Token) → D expression w xs ys → D expressions (w ∷ []) xs ys
one_of_list w xs ys d = roll checking written expressions (w ∷ []) xs ys (inl (base (w ∷ []) ys (w, refl, d)))

pub one_is_list : (ts : List Token) → IsOne ts → IsList ts
one_is_list ts (w, d) = (w ∷ [], one_of_list w ts [] d)

-- no list of expressions goes on with `)`
closes : (t : Token) (ms ys : List Token) → t.class ≡ SymParenRight → ms ≡ t ∷ ys → Stops (mores (of expressions)) ms
closes t ms ys e w = subst (λ (z : List Token). Stops (mores (of expressions)) z) (sym w)
    (ap (λ (x : ℕ). is_among x (mores (of expressions))) e)

parenthesized_swaps : Swaps (Means checking Known parenthesized) (Means checking D parenthesized)
parenthesized_swaps v xs ys d zs s = by_front (begins xs zs s d.0.0 d.2.0 d.2.1.1) where
  by_front : Begins d.0.0 d.2.0 zs → Also (Means checking D parenthesized) zs ys
  by_front (with_token u us e c m) = token_between SymParenLeft SymParenRight
      (symbol expression) refl refl v xs ys d zs us u e c m
  by_front (with_enclosed e u f us vs ps qs i j (inl (a, b)) m) = clash _ d.2.1.0
      (ap (λ (x : ℕ). is_among x (SymParenLeft ∷ [])) a.0)
  by_front (with_enclosed e u f us vs ps qs i j (inr (a, b, o)) m) =
      let body = d.2.2 in
      let end = body.0.1 in
      let w = body.0.0 in
      let content = subst (λ (z : List Token). D expression w z body.2.0) i body.2.1.0 in
      let same = same_rest expressions (w ∷ []) a.2.0 (us ++ (e ∷ ps)) body.2.0 (e ∷ ps) (one_of_list w
      (us ++ (e ∷ ps)) body.2.0 content) (front_is_part checking written expressions a.2.0 us (e ∷ ps) a.2.1)
      (closes end body.2.0 ys (one_class end.class SymParenRight body.2.2.0) body.2.2.1)
      (closes e (e ∷ ps) ps a.1 refl) in
      let other = o.0 (whole w us (e ∷ ps)
      (subst (λ (z : List Token). D expression w (us ++ (e ∷ ps)) z) same.1 content)) in (
        other.0,
        qs,
        made SymParenLeft SymParenRight (symbol expression) u f other.0 zs (vs ++ (f ∷ qs)) (f ∷ qs) qs
            (is_class u.class SymParenLeft b.0 refl) (is_class f.class SymParenRight b.1 refl) j refl
            (front_is_part checking written expression other.0 vs (f ∷ qs) other.1),
        subst (λ (z : List Token). Swapped z qs) (sym (tail_of end e ys ps (sym body.2.2.1 ∙ same.1))) m,
      )

-- one of four
abbrev primary : Grammar Symbol Value Expression
primary = symbol type_specifier gives Expression.type_or_identifier
    or symbol call gives Expression.function_call or symbol literal gives Expression.literal
    or parenthesized gives Expression.parenthesized

primary_swaps : Swaps (Means checking Known primary) (Means checking D primary)
primary_swaps v xs ys (inl d) zs s =
    let a = swaps (symbol type_specifier gives Expression.type_or_identifier) refl v xs ys d zs s in
    (a.0, a.1, inl a.2, a.3)
primary_swaps v xs ys (inr (inl d)) zs s =
    let a = swaps (symbol call gives Expression.function_call) refl v xs ys d zs s in
    (a.0, a.1, inr (inl a.2), a.3)
primary_swaps v xs ys (inr (inr (inl d))) zs s =
    let a = swaps (symbol literal gives Expression.literal) refl v xs ys d zs s in
    (a.0, a.1, inr (inr (inl a.2)), a.3)
primary_swaps v xs ys (inr (inr (inr d))) zs s =
    let a = parenthesized_swaps d.0 xs ys d.2 zs s in
    (Expression.parenthesized a.0, a.1, inr (inr (inr (a.0, refl, a.2))), a.3)

primary_rule : (v : ExpressionNode) (xs ys : List Token)
    → Means checking Known (written primary_expression) v xs ys → (zs : List Token) → Swapped xs zs
    → Also (D primary_expression) zs ys
primary_rule v xs ys d zs s =
    let a = primary_swaps d.0 xs ys d.2 zs s in
    let w = placed_expression a.0 (span_between zs a.1) in
    (w, a.1, roll checking written primary_expression w zs a.1 (a.0, refl, a.2), a.3)

-- ---- all rules of expressions
rule_swaps : (n : Symbol) (v : Value n) (xs ys : List Token) → D n v xs ys
    → Means checking Known (written n) v xs ys → in_expression n ≡ true → (zs : List Token)
    → Swapped xs zs → Also (D n) zs ys
rule_swaps ident v xs ys here d e zs s = ident_rule v xs ys d zs s
rule_swaps template_list v xs ys here d e zs s = template_rule v xs ys here d zs s
rule_swaps arguments v xs ys here d e zs s = arguments_rule v xs ys here d zs s
rule_swaps primary_expression v xs ys here d e zs s = primary_rule v xs ys d zs s
rule_swaps n v xs ys here d e zs s = steady_rule n
    (implied (in_expression n) (is_steady (written n)) refl e) v xs ys d zs s

-- what is in expressions is there too with such tokens in place of others
pub swapped_derives : (n : Symbol) → in_expression n ≡ true → (v : Value n) (xs ys : List Token)
    → D n v xs ys → (zs : List Token) → Swapped xs zs → Also (D n) zs ys
swapped_derives n e v xs ys d =
    (by_derivation Known (λ m w us ts here h. (here, rule_swaps m w us ts here h)) n v xs ys d).1 e

-- a list of expressions stays one
pub swapped_list : (xs ys : List Token) → Swapped xs ys → IsList xs → IsList ys
swapped_list xs ys s l =
    let a = swapped_derives expressions refl l.0 xs [] l.1 ys s in
    (a.0, subst (λ (z : List Token). D expressions a.0 ys z) (none_swapped [] a.1 a.3 refl) a.2)
