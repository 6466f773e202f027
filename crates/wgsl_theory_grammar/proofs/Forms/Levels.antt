-- Chains of operands, and what makes a first operand grow.
use Rattle.std.proofs.Common.{◌≡◌, ℕ, List, [], ◌∷◌, ◌++◌, refl, sym, ap, subst, ◌∙◌, append_assoc}
use Rattle.grammar.specs.Tokens.{Token, Span, last_end, span_between}
use Rattle.grammar.specs.Grammar.{Chain, Chain.base, Chain.more}
use Rattle.grammar.proofs.Reading.Frame.{span_append, ChainOf}
use Rattle.wgsl_model.specs.Trees.Operators.{BinaryOperator}
use Rattle.wgsl_model.specs.Trees.Expressions.{ExpressionNode, ExpressionNode.expression_node, Expression, start_of, end_of}
use Rattle.wgsl_model.specs.Grammar.ExpressionParts.{with_component, binary_of, operation_of}
use Rattle.wgsl_theory_grammar.specs.Factored.{Growth, grown_by_component, with_operand, grown}

abbrev pub Runs : ℕ → ℕ → List Token → List Token → Type 0
Runs s e xs ys = (t : Token) × (p : List Token) × (xs ≡ t ∷ (p ++ ys)) × (t.start ≡ s) × (last_end t.end p ≡ e)

last_append : (e : ℕ) (xs : List Token) (y : Token) (ys : List Token) → last_end e (xs ++ (y ∷ ys)) ≡ last_end y.end ys
last_append e [] y ys = refl
last_append e (x ∷ xs) y ys = last_append x.end xs y ys

pub runs_token : (t : Token) (xs ys : List Token) → xs ≡ t ∷ ys → Runs t.start t.end xs ys
runs_token t xs ys w = (t, [], w, refl, refl)

pub runs_join : (s e s' e' : ℕ) (xs ms ys : List Token) → Runs s e xs ms → Runs s' e' ms ys → Runs s e' xs ys
runs_join s e s' e' xs ms ys (t, p, w, a, b) (t', p', w', a', b') = (
  t,
  p ++ (t' ∷ p'),
  w ∙ ap (λ (z : List Token). t ∷ z) (ap (λ (z : List Token). p ++ z) w' ∙ sym (append_assoc p (t' ∷ p') ys)),
  a,
  last_append t.end p t' p' ∙ b',
)

pub span_runs : (s e : ℕ) (xs ys : List Token) → Runs s e xs ys → span_between xs ys ≡ record { start = s; end = e }
span_runs s e xs ys (t, p, w, a, b) =
    ap (λ (z : List Token). span_between z ys) w
    ∙ (span_append (t ∷ p) ys ∙ (ap (λ (z : ℕ). the_span z (last_end t.end p)) a ∙ ap (λ (z : ℕ). the_span s z) b))
  where
    the_span : ℕ → ℕ → Span
    the_span u v = record { start = u; end = v }

-- an expression has the place of its tokens
abbrev pub Placed : ExpressionNode → List Token → List Token → Type 0
Placed v xs ys = Runs (start_of v) (end_of v) xs ys

-- its end is the last token's
abbrev pub Ended : ExpressionNode → List Token → List Token → Type 0
Ended v xs ys = (s : ℕ) × Runs s (end_of v) xs ys

pub placed_at : (n : Expression) (s e : ℕ) (xs ys : List Token) → Runs s e xs ys
    → Placed (expression_node n (span_between xs ys)) xs ys
placed_at n s e xs ys r = subst (λ (z : Span). Runs z.start z.end xs ys) (sym (span_runs s e xs ys r)) r

abbrev pub ExpressionRelation : Type 1
ExpressionRelation = ExpressionNode → List Token → List Token → Type 0

abbrev pub Item : Type 0
Item = BinaryOperator × ExpressionNode

abbrev pub ItemRelation : Type 1
ItemRelation = Item → List Token → List Token → Type 0

abbrev pub GrowthRelation : Type 1
GrowthRelation = Growth → List Token → List Token → Type 0

abbrev pub AllPlaced : ExpressionRelation → Type 0
AllPlaced P = (v : ExpressionNode) (xs ys : List Token) → P v xs ys → Placed v xs ys

abbrev pub AllEnded : ItemRelation → Type 0
AllEnded Q = (b : Item) (xs ys : List Token) → Q b xs ys → Ended b.1 xs ys

-- one operator more
pub joined_is : (a : ExpressionNode) (b : Item) (xs ms ys : List Token) → Placed a xs ms
    → Ended b.1 ms ys → with_operand b a ≡ binary_of a b (span_between xs ys)
joined_is a b xs ms ys p q = ap (λ (z : Span). expression_node (Expression.binary b.0 a b.1) z)
    (sym (span_runs _ _ xs ys (runs_join _ _ _ _ xs ms ys p q.1)))

pub binary_placed : (a : ExpressionNode) (b : Item) (xs ms ys : List Token) → Placed a xs ms
    → Ended b.1 ms ys → Placed (binary_of a b (span_between xs ys)) xs ys
binary_placed a b xs ms ys p q = placed_at (Expression.binary b.0 a b.1) _ _ xs ys (runs_join _ _ _ _ xs ms ys p q.1)

pub chain_placed : (B : ExpressionRelation) (Q : ItemRelation) → AllPlaced B → AllEnded Q
    → (xs : List Token) (v : ExpressionNode) (ys : List Token) → Chain binary_of B Q xs v ys
    → Placed v xs ys
chain_placed B Q H E xs _ _ (base v ys d) = H v xs ys d
chain_placed B Q H E xs _ _ (more a b ys zs c d) = binary_placed a b xs ys zs
    (chain_placed B Q H E xs a ys c) (E b ys zs d)

-- ---- a first operand, and what makes it grow
abbrev pub Grown : ExpressionRelation → GrowthRelation → ExpressionRelation
Grown P G v xs ys = (a : ExpressionNode) × (f : Growth) × (ms : List Token) × P a xs ms × G f ms ys × (f a ≡ v)

abbrev pub Grows : ExpressionRelation → ExpressionRelation → GrowthRelation → Type 0
Grows B P G = (v : ExpressionNode) (xs ys : List Token) → B v xs ys → Grown P G v xs ys

abbrev pub Shrinks : ExpressionRelation → ExpressionRelation → GrowthRelation → Type 0
Shrinks B P G = (a : ExpressionNode) (xs ms : List Token) → P a xs ms
    → (f : Growth) (ys : List Token) → G f ms ys → B (f a) xs ys

grow_from : (B P : ExpressionRelation) (G : GrowthRelation) (Q : ItemRelation) → AllPlaced B
    → AllEnded Q → Grows B P G → (xs : List Token) (v : ExpressionNode) (ys : List Token)
    → Chain binary_of B Q xs v ys → Grown P (ChainOf grown G Q) v xs ys
grow_from B P G Q H E K xs _ _ (base v ys d) = let i = K v xs ys d in (i.0, i.1, i.2, i.3, base i.1 ys i.4, i.5)
grow_from B P G Q H E K xs _ _ (more a b ys zs c d) =
    let i = grow_from B P G Q H E K xs a ys c in (
      i.0,
      grown i.1 b (span_between i.2 zs),
      i.2,
      i.3,
      more i.1 b ys zs i.4 d,
      ap (λ (z : ExpressionNode). with_operand b z) i.5
          ∙ joined_is a b xs ys zs (chain_placed B Q H E xs a ys c) (E b ys zs d),
    )

pub to_grow : (B P : ExpressionRelation) (G : GrowthRelation) (Q : ItemRelation) → AllPlaced B
    → AllEnded Q → Grows B P G → Grows (ChainOf binary_of B Q) P (ChainOf grown G Q)
to_grow B P G Q H E K v xs ys c = grow_from B P G Q H E K xs v ys c

pub from_grow : (B P : ExpressionRelation) (G : GrowthRelation) (Q : ItemRelation) → AllPlaced B
    → AllEnded Q → Shrinks B P G → Shrinks (ChainOf binary_of B Q) P (ChainOf grown G Q)
from_grow B P G Q H E K a xs ms p _ _ (base f ys d) = base (f a) ys (K a xs ms p f ys d)
from_grow B P G Q H E K a xs ms p _ _ (more f b ys zs c d) =
    let i = from_grow B P G Q H E K a xs ms p f ys c in
    subst (λ (v : ExpressionNode). Chain binary_of B Q xs v zs)
    (sym (joined_is (f a) b xs ys zs (chain_placed B Q H E xs (f a) ys i) (E b ys zs d)))
    (more (f a) b ys zs i d)

-- nothing more
abbrev pub Same : GrowthRelation
Same f xs ys = ((λ (a : ExpressionNode). a) ≡ f) × (xs ≡ ys)

pub same_grows : (P : ExpressionRelation) → Grows P P Same
same_grows P v xs ys p = (v, (λ a. a), ys, p, (refl, refl), refl)

pub same_shrinks : (P : ExpressionRelation) → Shrinks P P Same
same_shrinks P a xs ms p f ys (e, w) = subst (λ (g : Growth). P (g a) xs ys) e
    (subst (λ (z : List Token). P a xs z) w p)

-- one operand more
abbrev pub Two : ExpressionRelation → ItemRelation → ExpressionRelation
Two P Q v xs ys = (p : ExpressionNode × Item) × (operation_of p (span_between xs ys) ≡ v)
    × ((ms : List Token) × P p.0 xs ms × Q p.1 ms ys)

abbrev pub One : ItemRelation → GrowthRelation
One Q f xs ys = (b : Item) × (with_operand b ≡ f) × Q b xs ys

pub two_grows : (P : ExpressionRelation) (Q : ItemRelation) → AllPlaced P → AllEnded Q → Grows (Two P Q) P (One Q)
two_grows P Q H E v xs ys (p, e, (ms, d, q)) =
    (p.0, with_operand p.1, ms, d, (p.1, refl, q), joined_is p.0 p.1 xs ms ys (H p.0 xs ms d) (E p.1 ms ys q) ∙ e)

pub two_shrinks : (P : ExpressionRelation) (Q : ItemRelation) → AllPlaced P → AllEnded Q → Shrinks (Two P Q) P (One Q)
two_shrinks P Q H E a xs ms d f ys (b, e, q) =
    let p : ExpressionNode × Item = (a, b) in
    (p, sym (joined_is a b xs ms ys (H a xs ms d) (E b ms ys q)) ∙ ap (λ (g : Growth). g a) e, (ms, d, q))

pub two_placed : (P : ExpressionRelation) (Q : ItemRelation) → AllPlaced P → AllEnded Q → AllPlaced (Two P Q)
two_placed P Q H E v xs ys (p, e, (ms, d, q)) = subst (λ (z : ExpressionNode). Placed z xs ys) e
    (binary_placed p.0 p.1 xs ms ys (H p.0 xs ms d) (E p.1 ms ys q))

-- ---- components after a base
abbrev pub ComponentOf : Type 0
ComponentOf = ExpressionNode → Expression

-- a component takes a token
abbrev pub AllTake : (ComponentOf → List Token → List Token → Type 0) → Type 0
AllTake C = (c : ComponentOf) (xs ys : List Token) → C c xs ys → (s e : ℕ) × Runs s e xs ys

-- a component with its end
abbrev pub WithEnd : (ComponentOf → List Token → List Token → Type 0) → ComponentOf × ℕ → List Token
    → List Token → Type 0
WithEnd C p xs ys = (c : ComponentOf) × ((c, (span_between xs ys).end) ≡ p) × C c xs ys

abbrev pub Components : (ComponentOf → List Token → List Token → Type 0) → GrowthRelation
Components C f xs ys = Chain grown_by_component Same (WithEnd C) xs f ys

component_placed : (C : ComponentOf → List Token → List Token → Type 0) → AllTake C
    → (a : ExpressionNode) (c : ComponentOf) (xs ms ys : List Token) → Placed a xs ms → C c ms ys
    → Placed (with_component a c (span_between xs ys)) xs ys × (expression_node (c a)
    (record { start = start_of a; end = (span_between ms ys).end }) ≡ with_component a c (span_between xs ys))
component_placed C T a c xs ms ys p d =
    let t = T c ms ys d in
    let r = runs_join _ _ _ _ xs ms ys p t.2 in
    let s = span_runs _ _ xs ys r in
    let u = span_runs _ _ ms ys t.2 in (
      placed_at (c a) _ _ xs ys r,
      ap (λ (z : ℕ). expression_node (c a) (record { start = start_of a; end = z }))
          (ap (λ (z : Span). z.end) u) ∙ ap (λ (z : Span). expression_node (c a) z) (sym s),
    )

pub to_components : (P : ExpressionRelation) (C : ComponentOf → List Token → List Token → Type 0)
    → AllPlaced P → AllTake C → (xs : List Token) (v : ExpressionNode) (ys : List Token)
    → Chain with_component P C xs v ys
    → Grown P (Components C) v xs ys × Placed v xs ys
to_components P C H T xs _ _ (base v ys d) = ((v, (λ a. a), ys, d, base (λ a. a) ys (refl, refl), refl), H v xs ys d)
to_components P C H T xs _ _ (more a c ys zs i d) =
    let r = to_components P C H T xs a ys i in
    let g = r.0 in
    let q = component_placed C T a c xs ys zs r.1 d in
    let b : ComponentOf × ℕ = (c, (span_between ys zs).end) in (
      (
        g.0,
        grown_by_component g.1 b (span_between g.2 zs),
        g.2,
        g.3,
        more g.1 b ys zs g.4 (c, refl, d),
        ap (λ (z : ExpressionNode). expression_node (c z)
            (record { start = start_of z; end = (span_between ys zs).end })) g.5 ∙ q.1,
      ),
      q.0,
    )

pub from_components : (P : ExpressionRelation) (C : ComponentOf → List Token → List Token → Type 0)
    → AllPlaced P → AllTake C → (a : ExpressionNode) (xs ms : List Token) → P a xs ms
    → (f : Growth) (ys : List Token) → Components C f ms ys
    → Chain with_component P C xs (f a) ys × Placed (f a) xs ys
from_components P C H T a xs ms p _ _ (base f ys (e, w)) =
    subst (λ (g : Growth). Chain with_component P C xs (g a) ys × Placed (g a) xs ys) e
    (subst (λ (z : List Token). Chain with_component P C xs a z × Placed a xs z) w (base a ms p, H a xs ms p))
from_components P C H T a xs ms p _ _ (more f b ys zs i (c, e, d)) =
    let r = from_components P C H T a xs ms p f ys i in
    let q = component_placed C T (f a) c xs ys zs r.1 d in
    subst (λ (z : ComponentOf × ℕ). Chain with_component P C xs (grown_by_component f z
    (span_between ms zs) a) zs × Placed (grown_by_component f z (span_between ms zs) a) xs zs) e
    (subst (λ (z : ExpressionNode). Chain with_component P C xs z zs × Placed z xs zs) (sym q.1)
    (more (f a) c ys zs r.0 d, q.0))
