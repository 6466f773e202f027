-- Shifts, comparisons and whole expressions: the written rules and their growths mean the same.
use Rattle.std.proofs.Common.{◌≡◌, ℕ, List, ◌∷◌, ◌⊎◌, inl, inr, refl, sym, ap, subst, ◌∙◌}
use Rattle.grammar.specs.Tokens.{Token, Span}
use Rattle.grammar.specs.Grammar.{Mode, Chain.base, Chain.more, Means}
use Rattle.grammar.specs.Notation.{◌means◌}
use Rattle.grammar.proofs.Reading.Frame.{ChainOf}
use Rattle.wgsl_model.specs.Tokens.ClassTable.{SymAnd, SymAndAnd, SymShiftRight, SymShiftLeft, SymOr, SymOrOr, SymXor}
use Rattle.wgsl_model.specs.Trees.Operators.{BinaryOperator, BinaryOperator.short_circuit_or, BinaryOperator.short_circuit_and, BinaryOperator.bitwise_or, BinaryOperator.bitwise_and, BinaryOperator.bitwise_xor, BinaryOperator.shift_left, BinaryOperator.shift_right}
use Rattle.wgsl_model.specs.Trees.Expressions.{ExpressionNode, end_of}
use Rattle.wgsl_model.specs.Grammar.ExpressionParts.{binary_of, multiplicative_operator, additive_operator, relational_operator, summand}
use Rattle.wgsl_model.specs.Grammar.Symbols.{Dialect, Dialect.parsed, Dialect.recognized, Symbol.unary_expression, Symbol.multiplicative_expression, Symbol.negated_expression, Symbol.additive_expression, Symbol.shift_expression, Symbol.relational_expression, Symbol.expression, Rule}
use Rattle.wgsl_model.specs.Grammar.Written.{rules}
use Rattle.wgsl_theory_grammar.specs.Factored.{FactoredSymbol.of, FactoredSymbol.further, Growth, grown, factored}
use Rattle.wgsl_theory_grammar.specs.Meaning.{sum_growth, relation_growth, expression_growth}
use Rattle.wgsl_theory_grammar.specs.MeaningRules.{meaning}
use Rattle.wgsl_theory_grammar.proofs.Forms.Lifted.{WrittenRelation, FactoredRelation}
use Rattle.wgsl_theory_grammar.proofs.Forms.Levels.{Runs, runs_token, runs_join, span_runs, Placed, Ended, ExpressionRelation, Item, ItemRelation, GrowthRelation, AllPlaced, AllEnded, chain_placed, Grown, Grows, Shrinks, to_grow, from_grow, Same, same_grows, same_shrinks, Two, One, two_grows, two_shrinks, two_placed}

-- what the factored symbols mean
abbrev pub Meant : Dialect → Mode → WrittenRelation → FactoredRelation
Meant L M D (of n) v xs ys = D n v xs ys
Meant L M D (further x) v xs ys = Means M D (meaning L x) v xs ys

-- what is asked of the written symbols below
pub record Steps (L : Dialect) (M : Mode) (D : WrittenRelation) : Type 0 where
  pub unary_placed : AllPlaced (D unary_expression)
  pub unroll_product : (v : ExpressionNode) (xs ys : List Token)
      → D multiplicative_expression v xs ys → Means M D (rules L multiplicative_expression) v xs ys
  pub roll_product : (v : ExpressionNode) (xs ys : List Token)
      → Means M D (rules L multiplicative_expression) v xs ys → D multiplicative_expression v xs ys
  pub unroll_negated : (v : ExpressionNode) (xs ys : List Token) → D negated_expression v xs ys
      → Means M D (rules L negated_expression) v xs ys
  pub unroll_sum : (v : ExpressionNode) (xs ys : List Token) → D additive_expression v xs ys
      → Means M D (rules L additive_expression) v xs ys
  pub roll_sum : (v : ExpressionNode) (xs ys : List Token)
      → Means M D (rules L additive_expression) v xs ys → D additive_expression v xs ys

-- ---- items
abbrev OneToken : Dialect → Mode → WrittenRelation → Rule BinaryOperator → Type 0
OneToken L M D g = (o : BinaryOperator) (xs ys : List Token) → Means M D g o xs ys → (t : Token) × (xs ≡ t ∷ ys)

product_token : (L : Dialect) (M : Mode) (D : WrittenRelation) → OneToken L M D multiplicative_operator
product_token L M D o xs ys (inl d) = (d.0, d.2.1)
product_token L M D o xs ys (inr (inl d)) = (d.0, d.2.1)
product_token L M D o xs ys (inr (inr d)) = (d.0, d.2.1)

sum_token : (L : Dialect) (M : Mode) (D : WrittenRelation) → OneToken L M D additive_operator
sum_token L M D o xs ys (inl d) = (d.0, d.2.1)
sum_token L M D o xs ys (inr d) = (d.0, d.2.1)

comparison_token : (L : Dialect) (M : Mode) (D : WrittenRelation) → OneToken L M D relational_operator
comparison_token L M D o xs ys (inl d) = (d.0, d.2.1)
comparison_token L M D o xs ys (inr (inl d)) = (d.0, d.2.1)
comparison_token L M D o xs ys (inr (inr (inl d))) = (d.0, d.2.1)
comparison_token L M D o xs ys (inr (inr (inr (inl d)))) = (d.0, d.2.1)
comparison_token L M D o xs ys (inr (inr (inr (inr (inl d))))) = (d.0, d.2.1)
comparison_token L M D o xs ys (inr (inr (inr (inr (inr d))))) = (d.0, d.2.1)

word_token : (L : Dialect) (M : Mode) (D : WrittenRelation) (c : ℕ) (b : BinaryOperator) → OneToken L M D (c means b)
word_token L M D c b o xs ys d = (d.0, d.2.1)

-- an operator and an operand
abbrev ItemOf : Dialect → Mode → WrittenRelation → Rule BinaryOperator → ExpressionRelation → ItemRelation
ItemOf L M D g P b xs ys = (ms : List Token) × Means M D g b.0 xs ms × P b.1 ms ys

item_ended : (L : Dialect) (M : Mode) (D : WrittenRelation) (g : Rule BinaryOperator) (P : ExpressionRelation)
    → OneToken L M D g → AllPlaced P → AllEnded (ItemOf L M D g P)
item_ended L M D g P T H b xs ys (ms, o, d) =
    let t = T b.0 xs ms o in
    (t.0.start, runs_join _ _ _ _ xs ms ys (runs_token t.0 xs ms t.1) (H b.1 ms ys d))

-- ---- sums
product_placed : (L : Dialect) (M : Mode) (D : WrittenRelation) → Steps L M D → AllPlaced (D multiplicative_expression)
product_placed L M D S v xs ys d = chain_placed (D unary_expression)
    (ItemOf L M D multiplicative_operator (D unary_expression)) S.unary_placed
    (item_ended L M D multiplicative_operator (D unary_expression) (product_token L M D) S.unary_placed)
    xs v ys (S.unroll_product v xs ys d)

later_ended : (L : Dialect) (M : Mode) (D : WrittenRelation) → Steps L M D
    → (xs : List Token) (v : ExpressionNode) (ys : List Token)
    → Means M D (rules L negated_expression) v xs ys → Ended v xs ys
later_ended L M D S xs _ _ (base v ys (e, h, (q, g, (ms, (m, w), d)))) =
    let r = runs_join _ _ _ _ xs ms ys (runs_token q.0 xs ms w) (S.unary_placed q.1 ms ys d) in (
      q.0.start,
      subst (λ (z : ℕ). Runs q.0.start z xs ys)
          (sym (ap (λ (z : Span). z.end) (span_runs _ _ xs ys r)) ∙ ap end_of h) r,
    )
later_ended L M D S xs _ _ (more a b ys zs c d) =
    let i = later_ended L M D S xs a ys c in
    let r = runs_join _ _ _ _ xs ys zs i.1 (item_ended L M D multiplicative_operator
    (D unary_expression) (product_token L M D) S.unary_placed b ys zs d).1 in
    (i.0, subst (λ (z : ℕ). Runs i.0 z xs zs) (sym (ap (λ (z : Span). z.end) (span_runs _ _ xs zs r))) r)

abbrev Summand : Dialect → Mode → WrittenRelation → ItemRelation
Summand L M D b xs ys = Means M D (summand L) b xs ys

summand_ended : (L : Dialect) (M : Mode) (D : WrittenRelation) → Steps L M D → AllEnded (Summand L M D)
summand_ended parsed M D S b xs ys (inl d) = item_ended parsed M D additive_operator
    (D multiplicative_expression) (sum_token parsed M D) (product_placed parsed M D S) b xs ys d
summand_ended parsed M D S b xs ys (inr (a, e, d)) = subst (λ (z : Item). Ended z.1 xs ys) e
    (later_ended parsed M D S xs a ys (S.unroll_negated a xs ys d))
summand_ended recognized M D S b xs ys d = item_ended recognized M D additive_operator
    (D multiplicative_expression) (sum_token recognized M D) (product_placed recognized M D S) b xs ys d

abbrev Factor : Dialect → Mode → WrittenRelation → ItemRelation
Factor L M D = ItemOf L M D multiplicative_operator (D unary_expression)

factor_ended : (L : Dialect) (M : Mode) (D : WrittenRelation) → Steps L M D → AllEnded (Factor L M D)
factor_ended L M D S = item_ended L M D multiplicative_operator (D unary_expression)
    (product_token L M D) S.unary_placed

sum_placed : (L : Dialect) (M : Mode) (D : WrittenRelation) → Steps L M D → AllPlaced (D additive_expression)
sum_placed L M D S v xs ys d = chain_placed (D multiplicative_expression) (Summand L M D)
    (product_placed L M D S) (summand_ended L M D S) xs v ys (S.unroll_sum v xs ys d)

-- ---- shifts

abbrev SumRest : Dialect → Mode → WrittenRelation → GrowthRelation
SumRest L M D f xs ys = Means M D (sum_growth L) f xs ys

abbrev Left : Dialect → Mode → WrittenRelation → ItemRelation
Left L M D = ItemOf L M D (SymShiftLeft means shift_left) (D unary_expression)

abbrev Right : Dialect → Mode → WrittenRelation → ItemRelation
Right L M D = ItemOf L M D (SymShiftRight means shift_right) (D unary_expression)

by_ended : (L : Dialect) (M : Mode) (D : WrittenRelation) (c : ℕ) (o : BinaryOperator) (P : ExpressionRelation)
    → AllPlaced P → AllEnded (ItemOf L M D (c means o) P)
by_ended L M D c o P H = item_ended L M D (c means o) P (word_token L M D c o) H

pub shift_grows : (L : Dialect) (M : Mode) (D : WrittenRelation) → Steps L M D
    → (v : ExpressionNode) (xs ys : List Token) → Means M D (rules L shift_expression) v xs ys
    → Grown (D unary_expression) (SumRest L M D) v xs ys
shift_grows L M D S v xs ys (inl d) =
    let i = to_grow (D multiplicative_expression) (D multiplicative_expression) Same (Summand L M D)
    (product_placed L M D S) (summand_ended L M D S)
    (same_grows (D multiplicative_expression)) v xs ys (S.unroll_sum v xs ys d) in
    let j = to_grow (D unary_expression) (D unary_expression) Same (Factor L M D) S.unary_placed
    (factor_ended L M D S) (same_grows (D unary_expression)) i.0 xs i.2 (S.unroll_product i.0 xs i.2 i.3) in
    let p : Growth × Growth = (j.1, i.1) in
    (j.0, (λ a. i.1 (j.1 a)), j.2, j.3, inr (inr (p, refl, (i.2, j.4, i.4))), ap i.1 j.5 ∙ i.5)
shift_grows L M D S v xs ys (inr (inl d)) =
    let i = two_grows (D unary_expression) (Left L M D) S.unary_placed (by_ended L M D SymShiftLeft
    shift_left (D unary_expression) S.unary_placed) v xs ys d in (i.0, i.1, i.2, i.3, inl i.4, i.5)
shift_grows L M D S v xs ys (inr (inr d)) =
    let i = two_grows (D unary_expression) (Right L M D) S.unary_placed
    (by_ended L M D SymShiftRight shift_right (D unary_expression) S.unary_placed) v xs ys d in
    (i.0, i.1, i.2, i.3, inr (inl i.4), i.5)

pub shift_shrinks : (L : Dialect) (M : Mode) (D : WrittenRelation) → Steps L M D
    → Shrinks (λ v xs ys. Means M D (rules L shift_expression) v xs ys) (D unary_expression) (SumRest L M D)
shift_shrinks L M D S a xs ms d f ys (inl g) =
    inr (inl (two_shrinks (D unary_expression) (Left L M D) S.unary_placed
    (by_ended L M D SymShiftLeft shift_left (D unary_expression) S.unary_placed) a xs ms d f ys g))
shift_shrinks L M D S a xs ms d f ys (inr (inl g)) =
    inr (inr (two_shrinks (D unary_expression) (Right L M D) S.unary_placed
    (by_ended L M D SymShiftRight shift_right (D unary_expression) S.unary_placed) a xs ms d f ys g))
shift_shrinks L M D S a xs ms d f ys (inr (inr (p, e, (us, g, h)))) =
    let m = S.roll_product (p.0 a) xs us (from_grow (D unary_expression) (D unary_expression) Same (Factor L M D)
    S.unary_placed (factor_ended L M D S) (same_shrinks (D unary_expression)) a xs ms d p.0 us g) in
    let s = S.roll_sum (p.1 (p.0 a)) xs ys (from_grow (D multiplicative_expression)
    (D multiplicative_expression) Same (Summand L M D) (product_placed L M D S)
    (summand_ended L M D S) (same_shrinks (D multiplicative_expression)) (p.0 a) xs us m p.1 ys h) in
    inl (subst (λ (k : Growth). D additive_expression (k a) xs ys) e s)

pub shift_placed : (L : Dialect) (M : Mode) (D : WrittenRelation) → Steps L M D
    → (v : ExpressionNode) (xs ys : List Token) → Means M D (rules L shift_expression) v xs ys
    → Placed v xs ys
shift_placed L M D S v xs ys (inl d) = sum_placed L M D S v xs ys d
shift_placed L M D S v xs ys (inr (inl d)) = two_placed (D unary_expression) (Left L M D) S.unary_placed
    (by_ended L M D SymShiftLeft shift_left (D unary_expression) S.unary_placed) v xs ys d
shift_placed L M D S v xs ys (inr (inr d)) = two_placed (D unary_expression) (Right L M D) S.unary_placed
    (by_ended L M D SymShiftRight shift_right (D unary_expression) S.unary_placed) v xs ys d

pub shift_in : (L : Dialect) (M : Mode) (D : WrittenRelation) → Steps L M D
    → (v : ExpressionNode) (xs ys : List Token) → Means M D (rules L shift_expression) v xs ys
    → Means M (Meant L M D) (factored L (of shift_expression)) v xs ys
shift_in L M D S v xs ys d =
    let i = shift_grows L M D S v xs ys d in let p : ExpressionNode × Growth = (i.0, i.1) in
    (p, i.5, (i.2, i.3, i.4))

pub shift_out : (L : Dialect) (M : Mode) (D : WrittenRelation) → Steps L M D
    → (v : ExpressionNode) (xs ys : List Token)
    → Means M (Meant L M D) (factored L (of shift_expression)) v xs ys
    → Means M D (rules L shift_expression) v xs ys
shift_out L M D S v xs ys (p, e, (ms, d, g)) =
    subst (λ (z : ExpressionNode). Means M D (rules L shift_expression) z xs ys) e
    (shift_shrinks L M D S p.0 xs ms d p.1 ys g)

-- ---- comparisons: what is asked of shifts
pub record ShiftSteps (L : Dialect) (M : Mode) (D : WrittenRelation) : Type 0 where
  pub unroll_shift : (v : ExpressionNode) (xs ys : List Token) → D shift_expression v xs ys
      → Means M D (rules L shift_expression) v xs ys
  pub roll_shift : (v : ExpressionNode) (xs ys : List Token)
      → Means M D (rules L shift_expression) v xs ys → D shift_expression v xs ys

abbrev Compared : Dialect → Mode → WrittenRelation → ItemRelation
Compared L M D = ItemOf L M D relational_operator (D shift_expression)

placed_shift : (L : Dialect) (M : Mode) (D : WrittenRelation) → Steps L M D → ShiftSteps L M D
    → AllPlaced (D shift_expression)
placed_shift L M D S U v xs ys d = shift_placed L M D S v xs ys (U.unroll_shift v xs ys d)

compared_ended : (L : Dialect) (M : Mode) (D : WrittenRelation) → Steps L M D → ShiftSteps L M D
    → AllEnded (Compared L M D)
compared_ended L M D S U = item_ended L M D relational_operator (D shift_expression)
    (comparison_token L M D) (placed_shift L M D S U)

abbrev ComparisonRest : Dialect → Mode → WrittenRelation → GrowthRelation
ComparisonRest L M D f xs ys = Means M D relation_growth f xs ys

pub comparison_grows : (L : Dialect) (M : Mode) (D : WrittenRelation) → Steps L M D → ShiftSteps L M D
    → (v : ExpressionNode) (xs ys : List Token) → Means M D (rules L relational_expression) v xs ys
    → Grown (D shift_expression) (ComparisonRest L M D) v xs ys
comparison_grows L M D S U v xs ys (inl d) = (v, (λ a. a), ys, d, inr (refl, refl), refl)
comparison_grows L M D S U v xs ys (inr d) =
    let i = two_grows (D shift_expression) (Compared L M D) (placed_shift L M D S U)
    (compared_ended L M D S U) v xs ys d in (i.0, i.1, i.2, i.3, inl i.4, i.5)

pub comparison_shrinks : (L : Dialect) (M : Mode) (D : WrittenRelation) → Steps L M D
    → ShiftSteps L M D → Shrinks (λ v xs ys. Means M D (rules L relational_expression) v xs ys)
    (D shift_expression) (ComparisonRest L M D)
comparison_shrinks L M D S U a xs ms d f ys (inl g) = inr (two_shrinks (D shift_expression)
    (Compared L M D) (placed_shift L M D S U) (compared_ended L M D S U) a xs ms d f ys g)
comparison_shrinks L M D S U a xs ms d f ys (inr g) = inl (same_shrinks (D shift_expression) a xs ms d f ys g)

pub comparison_placed : (L : Dialect) (M : Mode) (D : WrittenRelation) → Steps L M D
    → ShiftSteps L M D → (v : ExpressionNode) (xs ys : List Token)
    → Means M D (rules L relational_expression) v xs ys → Placed v xs ys
comparison_placed L M D S U v xs ys (inl d) = placed_shift L M D S U v xs ys d
comparison_placed L M D S U v xs ys (inr d) = two_placed (D shift_expression) (Compared L M D)
    (placed_shift L M D S U) (compared_ended L M D S U) v xs ys d

pub comparison_in : (L : Dialect) (M : Mode) (D : WrittenRelation) → Steps L M D → ShiftSteps L M D
    → (v : ExpressionNode) (xs ys : List Token) → Means M D (rules L relational_expression) v xs ys
    → Means M (Meant L M D) (factored L (of relational_expression)) v xs ys
comparison_in L M D S U v xs ys d =
    let i = comparison_grows L M D S U v xs ys d in let p : ExpressionNode × Growth = (i.0, i.1) in
    (p, i.5, (i.2, i.3, i.4))

pub comparison_out : (L : Dialect) (M : Mode) (D : WrittenRelation) → Steps L M D → ShiftSteps L M D
    → (v : ExpressionNode) (xs ys : List Token)
    → Means M (Meant L M D) (factored L (of relational_expression)) v xs ys
    → Means M D (rules L relational_expression) v xs ys
comparison_out L M D S U v xs ys (p, e, (ms, d, g)) =
    subst (λ (z : ExpressionNode). Means M D (rules L relational_expression) z xs ys) e
    (comparison_shrinks L M D S U p.0 xs ms d p.1 ys g)

-- ---- expression: what is asked of comparisons
pub record ComparisonSteps (L : Dialect) (M : Mode) (D : WrittenRelation) : Type 0 where
  pub unroll_comparison : (v : ExpressionNode) (xs ys : List Token)
      → D relational_expression v xs ys → Means M D (rules L relational_expression) v xs ys
  pub roll_comparison : (v : ExpressionNode) (xs ys : List Token)
      → Means M D (rules L relational_expression) v xs ys → D relational_expression v xs ys

placed_comparison : (L : Dialect) (M : Mode) (D : WrittenRelation) → Steps L M D → ShiftSteps L M D
    → ComparisonSteps L M D → AllPlaced (D relational_expression)
placed_comparison L M D S U V v xs ys d = comparison_placed L M D S U v xs ys (V.unroll_comparison v xs ys d)

-- X (c X)+
abbrev Several : Dialect → Mode → WrittenRelation → ℕ → BinaryOperator → ExpressionRelation → ExpressionRelation
Several L M D c o P = ChainOf binary_of (Two P (ItemOf L M D (c means o) P)) (ItemOf L M D (c means o) P)

abbrev SeveralRest : Dialect → Mode → WrittenRelation → ℕ → BinaryOperator → ExpressionRelation → GrowthRelation
SeveralRest L M D c o P = ChainOf grown (One (ItemOf L M D (c means o) P)) (ItemOf L M D (c means o) P)

several_grows : (L : Dialect) (M : Mode) (D : WrittenRelation) (c : ℕ) (o : BinaryOperator)
    (P : ExpressionRelation) → AllPlaced P → Grows (Several L M D c o P) P (SeveralRest L M D c o P)
several_grows L M D c o P H =
    let E = by_ended L M D c o P H in to_grow (Two P (ItemOf L M D (c means o) P)) P
    (One (ItemOf L M D (c means o) P)) (ItemOf L M D (c means o) P)
    (two_placed P (ItemOf L M D (c means o) P) H E) E (two_grows P (ItemOf L M D (c means o) P) H E)

several_shrinks : (L : Dialect) (M : Mode) (D : WrittenRelation) (c : ℕ) (o : BinaryOperator)
    (P : ExpressionRelation) → AllPlaced P → Shrinks (Several L M D c o P) P (SeveralRest L M D c o P)
several_shrinks L M D c o P H =
    let E = by_ended L M D c o P H in from_grow (Two P (ItemOf L M D (c means o) P)) P
    (One (ItemOf L M D (c means o) P)) (ItemOf L M D (c means o) P)
    (two_placed P (ItemOf L M D (c means o) P) H E) E (two_shrinks P (ItemOf L M D (c means o) P) H E)

abbrev ExpressionRest : Dialect → Mode → WrittenRelation → GrowthRelation
ExpressionRest L M D f xs ys = Means M D (expression_growth L) f xs ys

-- `&&` and `||` after a relational_expression, or nothing
abbrev Last : Dialect → Mode → WrittenRelation → GrowthRelation
Last L M D f xs ys = SeveralRest L M D SymAndAnd short_circuit_and (D relational_expression) f xs ys
    ⊎ (SeveralRest L M D SymOrOr short_circuit_or (D relational_expression) f xs ys ⊎ Same f xs ys)

-- from a relational_expression to its first operand
with_last : (L : Dialect) (M : Mode) (D : WrittenRelation) → Steps L M D → ShiftSteps L M D
    → ComparisonSteps L M D → (v : ExpressionNode) (xs ys : List Token)
    → Grown (D relational_expression) (Last L M D) v xs ys
    → Grown (D unary_expression) (ExpressionRest L M D) v xs ys
with_last L M D S U V v xs ys (r, h, vs, d, l, e) =
    let i = comparison_grows L M D S U r xs vs (V.unroll_comparison r xs vs d) in
    let j = shift_grows L M D S i.0 xs i.2 (U.unroll_shift i.0 xs i.2 i.3) in
    let q : Growth × Growth = (i.1, h) in
    let p : Growth × (Growth × Growth) = (j.1, q) in (
      j.0,
      (λ a. h (i.1 (j.1 a))),
      j.2,
      j.3,
      inr (inr (inr (p, refl, (i.2, j.4, (vs, i.4, l))))),
      ap (λ (z : ExpressionNode). h (i.1 z)) j.5 ∙ (ap h i.5 ∙ e),
    )

pub expression_grows : (L : Dialect) (M : Mode) (D : WrittenRelation) → Steps L M D
    → ShiftSteps L M D → ComparisonSteps L M D → (v : ExpressionNode) (xs ys : List Token)
    → Means M D (rules L expression) v xs ys → Grown (D unary_expression) (ExpressionRest L M D) v xs ys
expression_grows L M D S U V v xs ys (inl d) = with_last L M D S U V v xs ys
    (v, (λ a. a), ys, d, inr (inr (refl, refl)), refl)
expression_grows L M D S U V v xs ys (inr (inl d)) =
    let i = several_grows L M D SymAndAnd short_circuit_and (D relational_expression)
    (placed_comparison L M D S U V) v xs ys d in with_last L M D S U V v xs ys
    (i.0, i.1, i.2, i.3, inl i.4, i.5)
expression_grows L M D S U V v xs ys (inr (inr (inl d))) =
    let i = several_grows L M D SymOrOr short_circuit_or (D relational_expression)
    (placed_comparison L M D S U V) v xs ys d in with_last L M D S U V v xs ys
    (i.0, i.1, i.2, i.3, inr (inl i.4), i.5)
expression_grows L M D S U V v xs ys (inr (inr (inr (inl d)))) =
    let i = several_grows L M D SymAnd bitwise_and (D unary_expression) S.unary_placed v xs ys d in
    (i.0, i.1, i.2, i.3, inl i.4, i.5)
expression_grows L M D S U V v xs ys (inr (inr (inr (inr (inl d))))) =
    let i = several_grows L M D SymOr bitwise_or (D unary_expression) S.unary_placed v xs ys d in
    (i.0, i.1, i.2, i.3, inr (inl i.4), i.5)
expression_grows L M D S U V v xs ys (inr (inr (inr (inr (inr d))))) =
    let i = several_grows L M D SymXor bitwise_xor (D unary_expression) S.unary_placed v xs ys d in
    (i.0, i.1, i.2, i.3, inr (inr (inl i.4)), i.5)

last_shrinks : (L : Dialect) (M : Mode) (D : WrittenRelation) → Steps L M D → ShiftSteps L M D
    → ComparisonSteps L M D
    → Shrinks (λ v xs ys. Means M D (rules L expression) v xs ys) (D relational_expression) (Last L M D)
last_shrinks L M D S U V a xs ms d f ys (inl g) = inr (inl (several_shrinks L M D SymAndAnd
    short_circuit_and (D relational_expression) (placed_comparison L M D S U V) a xs ms d f ys g))
last_shrinks L M D S U V a xs ms d f ys (inr (inl g)) = inr (inr (inl (several_shrinks L M D SymOrOr
    short_circuit_or (D relational_expression) (placed_comparison L M D S U V) a xs ms d f ys g)))
last_shrinks L M D S U V a xs ms d f ys (inr (inr g)) = inl (same_shrinks (D relational_expression) a xs ms d f ys g)

pub expression_shrinks : (L : Dialect) (M : Mode) (D : WrittenRelation) → Steps L M D
    → ShiftSteps L M D → ComparisonSteps L M D
    → Shrinks (λ v xs ys. Means M D (rules L expression) v xs ys) (D unary_expression) (ExpressionRest L M D)
expression_shrinks L M D S U V a xs ms d f ys (inl g) = inr
    (inr (inr (inl (several_shrinks L M D SymAnd bitwise_and (D unary_expression) S.unary_placed a xs ms d f ys g))))
expression_shrinks L M D S U V a xs ms d f ys (inr (inl g)) = inr (inr (inr (inr (inl
    (several_shrinks L M D SymOr bitwise_or (D unary_expression) S.unary_placed a xs ms d f ys g)))))
expression_shrinks L M D S U V a xs ms d f ys (inr (inr (inl g))) = inr (inr (inr (inr (inr
    (several_shrinks L M D SymXor bitwise_xor (D unary_expression) S.unary_placed a xs ms d f ys g)))))
expression_shrinks L M D S U V a xs ms d f ys (inr (inr (inr (p, e, (us, g, (vs, h, l)))))) =
    let s = U.roll_shift (p.0 a) xs us (shift_shrinks L M D S a xs ms d p.0 us g) in
    let r = V.roll_comparison (p.1.0 (p.0 a)) xs vs (comparison_shrinks L M D S U (p.0 a) xs us s p.1.0 vs h) in
    subst (λ (k : Growth). Means M D (rules L expression) (k a) xs ys) e
    (last_shrinks L M D S U V (p.1.0 (p.0 a)) xs vs r p.1.1 ys l)

pub expression_in : (L : Dialect) (M : Mode) (D : WrittenRelation) → Steps L M D → ShiftSteps L M D
    → ComparisonSteps L M D → (v : ExpressionNode) (xs ys : List Token)
    → Means M D (rules L expression) v xs ys → Means M (Meant L M D) (factored L (of expression)) v xs ys
expression_in L M D S U V v xs ys d =
    let i = expression_grows L M D S U V v xs ys d in
    let p : ExpressionNode × Growth = (i.0, i.1) in (p, i.5, (i.2, i.3, i.4))

pub expression_out : (L : Dialect) (M : Mode) (D : WrittenRelation) → Steps L M D → ShiftSteps L M D
    → ComparisonSteps L M D → (v : ExpressionNode) (xs ys : List Token)
    → Means M (Meant L M D) (factored L (of expression)) v xs ys → Means M D (rules L expression) v xs ys
expression_out L M D S U V v xs ys (p, e, (ms, d, g)) =
    subst (λ (z : ExpressionNode). Means M D (rules L expression) z xs ys) e
    (expression_shrinks L M D S U V p.0 xs ms d p.1 ys g)
