-- The levels of expressions: what the written rules say, the factored ones derive, and back.
use Rattle.std.proofs.Common.{◌≡◌, Bool, true, false, not, List, ◌∷◌, ◌++◌, inl, inr, refl, subst}
use Rattle.grammar.specs.Tokens.{Token, last_end, span_between}
use Rattle.grammar.specs.Grammar.{Grammar.symbol, Mode, Means, Part}
use Rattle.grammar.specs.Notation.{◌or◌}
use Rattle.wgsl_model.specs.Tokens.ClassTable.{SymAndAnd, SymOrOr}
use Rattle.wgsl_model.specs.Trees.Operators.{BinaryOperator.short_circuit_or, BinaryOperator.short_circuit_and}
use Rattle.grammar.proofs.Reading.Depth.{roll, unroll}
use Rattle.wgsl_model.specs.Trees.Expressions.{ExpressionNode, ExpressionNode.expression_node, Expression}
use Rattle.wgsl_model.specs.Grammar.Symbols.{Dialect, Dialect.parsed, Dialect.recognized, Symbol, Symbol.primary_expression, Symbol.singular_expression, Symbol.component, Symbol.unary_expression, Symbol.multiplicative_expression, Symbol.negated_expression, Symbol.additive_expression, Symbol.shift_expression, Symbol.relational_expression, Symbol.expression, Symbol.unit}
use Rattle.wgsl_model.specs.Grammar.Written.{rules}
use Rattle.wgsl_theory_grammar.specs.Factored.{Further.components, Further.factors, Further.summands, Further.sum_rest, Further.relation_rest, Further.and_rest, Further.or_rest, Further.bitwise_and_rest, Further.bitwise_or_rest, Further.bitwise_xor_rest, Further.expression_rest, Further.attribute_list, Further.else_rest, Further.declaration_list, Further.front, FactoredSymbol, FactoredSymbol.of, FactoredSymbol.further, Growth, unchanged, some_more, factored}
use Rattle.wgsl_theory_grammar.specs.Tables.{empties}
use Rattle.wgsl_theory_grammar.specs.MeaningRules.{meaning}
use Rattle.wgsl_theory_grammar.proofs.Forms.Taking.{surely_takes, takes_one}
use Rattle.wgsl_theory_grammar.proofs.Forms.Levels.{Placed, placed_at, AllPlaced, ComponentOf, AllTake, Components, to_components, from_components}
use Rattle.wgsl_theory_grammar.proofs.Forms.Lifted.{WrittenRelation, lifted_in, lifted_out}
use Rattle.wgsl_theory_grammar.proofs.Forms.Shifts.{Meant, Steps, shift_in, shift_out, ShiftSteps, comparison_in, comparison_out, ComparisonSteps, expression_in, expression_out}

abbrev pub WrittenPart : Dialect → Mode → WrittenRelation
WrittenPart L M n v xs ys = Part M (rules L) n v xs ys

abbrev pub ReadPart : Dialect → Mode → WrittenRelation
ReadPart L M n v xs ys = Part M (factored L) (of n) v xs ys

-- every written symbol takes a token, but for a unit
abbrev pub taking : Symbol → Bool
taking unit = false
taking n = true

pub written_takes : (L : Dialect) (n : Symbol) → taking n ≡ true → surely_takes taking (rules L n) ≡ true
written_takes parsed unit e = absurd cc
written_takes recognized unit e = absurd cc
written_takes L n e = refl

abbrev pub never_empty : FactoredSymbol → Bool
never_empty n = not (empties n)

pub body_takes : (L : Dialect) (n : FactoredSymbol) → never_empty n ≡ true
    → surely_takes never_empty (factored L n) ≡ true
body_takes parsed (of unit) e = absurd cc
body_takes recognized (of unit) e = absurd cc
body_takes parsed (further components) e = absurd cc
body_takes recognized (further components) e = absurd cc
body_takes L (of n) e = refl
body_takes L (further factors) e = absurd cc
body_takes L (further summands) e = absurd cc
body_takes L (further sum_rest) e = absurd cc
body_takes L (further relation_rest) e = absurd cc
body_takes L (further expression_rest) e = absurd cc
body_takes L (further attribute_list) e = absurd cc
body_takes L (further else_rest) e = absurd cc
body_takes L (further front) e = absurd cc
body_takes L (further declaration_list) e = absurd cc
body_takes L (further x) e = refl

-- what is asked of both grammars: components and primary expressions take tokens, and one knows its
-- place
abbrev pub AtNode : ExpressionNode → List Token → List Token → Type 0
AtNode v xs ys = (n : Expression) × (expression_node n (span_between xs ys) ≡ v)

abbrev pub TakesOne : {A : Type 0} → (A → List Token → List Token → Type 0) → Type 0
TakesOne {A} P = (v : A) (xs ys : List Token) → P v xs ys → (t : Token) × (q : List Token) × (xs ≡ t ∷ (q ++ ys))

pub node_placed : (v : ExpressionNode) (xs ys : List Token) → AtNode v xs ys
    → (t : Token) × (q : List Token) × (xs ≡ t ∷ (q ++ ys)) → Placed v xs ys
node_placed v xs ys (n, e) (t, q, w) = subst (λ (z : ExpressionNode). Placed z xs ys) e
    (placed_at n t.start (last_end t.end q) xs ys (t, q, w, refl, refl))

pub all_take : (C : ComponentOf → List Token → List Token → Type 0) → TakesOne C → AllTake C
all_take C T c xs ys d = let w = T c xs ys d in (w.0.start, last_end w.0.end w.1, (w.0, w.1, w.2, refl, refl))

written_primary : (L : Dialect) (M : Mode) → AllPlaced (WrittenPart L M primary_expression)
written_primary L M v xs ys d =
    let u = unroll M (rules L) primary_expression v xs ys d in node_placed v xs ys (u.0, u.1)
    (takes_one M (rules L) taking (written_takes L) primary_expression refl v xs ys d)

read_primary : (L : Dialect) (M : Mode) → AllPlaced (ReadPart L M primary_expression)
read_primary L M v xs ys d =
    let u = unroll M (factored L) (of primary_expression) v xs ys d in node_placed v xs ys (u.0, u.1)
    (takes_one M (factored L) never_empty (body_takes L) (of primary_expression) refl v xs ys d)

pub written_component : (L : Dialect) (M : Mode) → AllTake (WrittenPart L M component)
written_component L M = all_take (WrittenPart L M component)
    (takes_one M (rules L) taking (written_takes L) component refl)

pub read_component : (L : Dialect) (M : Mode) → AllTake (ReadPart L M component)
read_component L M = all_take (ReadPart L M component)
    (takes_one M (factored L) never_empty (body_takes L) (of component) refl)

-- ---- singular expressions: components after a primary expression
pub singular_in : (L : Dialect) (M : Mode) (D : WrittenRelation) → AllPlaced (D primary_expression)
    → AllTake (D component) → (v : ExpressionNode) (xs ys : List Token)
    → Means M D (rules L singular_expression) v xs ys
    → Means M (Meant L M D) (factored L (of singular_expression)) v xs ys
singular_in L M D H T v xs ys d =
    let g = (to_components (D primary_expression) (D component) H T xs v ys d).0 in
    let p : ExpressionNode × Growth = (g.0, g.1) in (p, g.5, (g.2, g.3, g.4))

pub singular_out : (L : Dialect) (M : Mode) (D : WrittenRelation) → AllPlaced (D primary_expression)
    → AllTake (D component) → (v : ExpressionNode) (xs ys : List Token)
    → Means M (Meant L M D) (factored L (of singular_expression)) v xs ys
    → Means M D (rules L singular_expression) v xs ys
singular_out L M D H T v xs ys (p, e, (ms, d, g)) =
    subst (λ (z : ExpressionNode). Means M D (rules L singular_expression) z xs ys) e
    (from_components (D primary_expression) (D component) H T p.0 xs ms d p.1 ys g).0

singular_placed : (L : Dialect) (M : Mode) (D : WrittenRelation) → AllPlaced (D primary_expression)
    → AllTake (D component) → (v : ExpressionNode) (xs ys : List Token)
    → Means M D (rules L singular_expression) v xs ys → Placed v xs ys
singular_placed L M D H T v xs ys d = (to_components (D primary_expression) (D component) H T xs v ys d).1

written_singular : (L : Dialect) (M : Mode) → AllPlaced (WrittenPart L M singular_expression)
written_singular L M v xs ys d = singular_placed L M (WrittenPart L M) (written_primary L M)
    (written_component L M) v xs ys (unroll M (rules L) singular_expression v xs ys d)

-- what a singular expression is read as
read_components : (L : Dialect) (M : Mode) (f : Growth) (xs ys : List Token)
    → Part M (factored L) (further components) f xs ys → Components (ReadPart L M component) f xs ys
read_components L M f xs ys d = unroll M (factored L) (further components) f xs ys d

read_singular : (L : Dialect) (M : Mode) (v : ExpressionNode) (xs ys : List Token)
    → ReadPart L M singular_expression v xs ys
    → Means M (Meant L M (ReadPart L M)) (factored L (of singular_expression)) v xs ys
read_singular L M v xs ys d =
    let u = unroll M (factored L) (of singular_expression) v xs ys d in
    (u.0, u.1, (u.2.0, u.2.1, read_components L M u.0.1 u.2.0 ys u.2.2))

singular_read : (L : Dialect) (M : Mode) (v : ExpressionNode) (xs ys : List Token)
    → Means M (Meant L M (ReadPart L M)) (factored L (of singular_expression)) v xs ys
    → ReadPart L M singular_expression v xs ys
singular_read L M v xs ys (p, e, (ms, d, g)) = roll M (factored L) (of singular_expression) v xs ys
    (p, e, (ms, d, roll M (factored L) (further components) p.1 ms ys g))

placed_singular : (L : Dialect) (M : Mode) → AllPlaced (ReadPart L M singular_expression)
placed_singular L M v xs ys d = singular_placed L M (ReadPart L M) (read_primary L M)
    (read_component L M) v xs ys (singular_out L M (ReadPart L M) (read_primary L M)
    (read_component L M) v xs ys (read_singular L M v xs ys d))

unary_placed : (L : Dialect) (M : Mode) (D : WrittenRelation) → AllPlaced (D singular_expression)
    → (v : ExpressionNode) (xs ys : List Token) → Means M D (rules L unary_expression) v xs ys
    → (t : Token) × (q : List Token) × (xs ≡ t ∷ (q ++ ys)) → Placed v xs ys
unary_placed L M D H v xs ys (inl d) w = H v xs ys d
unary_placed L M D H v xs ys (inr (p, e, d)) w = node_placed v xs ys (Expression.unary p.0 p.1, e) w

pub written_steps : (L : Dialect) (M : Mode) → Steps L M (WrittenPart L M)
written_steps L M = record {
  unary_placed = λ v xs ys d. unary_placed L M (WrittenPart L M) (written_singular L M) v xs ys
      (unroll M (rules L) unary_expression v xs ys d)
      (takes_one M (rules L) taking (written_takes L) unary_expression refl v xs ys d);
  unroll_product = unroll M (rules L) multiplicative_expression;
  roll_product = roll M (rules L) multiplicative_expression;
  unroll_negated = unroll M (rules L) negated_expression;
  unroll_sum = unroll M (rules L) additive_expression;
  roll_sum = roll M (rules L) additive_expression;
}

pub read_steps : (L : Dialect) (M : Mode) → Steps L M (ReadPart L M)
read_steps L M = record {
  unary_placed = λ v xs ys d. unary_placed L M (ReadPart L M) (placed_singular L M) v xs ys
      (unroll M (factored L) (of unary_expression) v xs ys d)
      (takes_one M (factored L) never_empty (body_takes L) (of unary_expression) refl v xs ys d);
  unroll_product = unroll M (factored L) (of multiplicative_expression);
  roll_product = roll M (factored L) (of multiplicative_expression);
  unroll_negated = unroll M (factored L) (of negated_expression);
  unroll_sum = λ v xs ys d. lifted_out M (Part M (factored L)) (rules L additive_expression) v xs ys
      (unroll M (factored L) (of additive_expression) v xs ys d);
  roll_sum = λ v xs ys d. roll M (factored L) (of additive_expression) v xs ys
      (lifted_in M (Part M (factored L)) (rules L additive_expression) v xs ys d);
}

-- ---- growths: what is meant, is read, and back
pub summands_read : (L : Dialect) (M : Mode) (f : Growth) (xs ys : List Token)
    → Meant L M (ReadPart L M) (further summands) f xs ys → Part M (factored L) (further summands) f xs ys
summands_read L M f xs ys d = roll M (factored L) (further summands) f xs ys
    (lifted_in M (Part M (factored L)) (meaning L summands) f xs ys d)

read_summands : (L : Dialect) (M : Mode) (f : Growth) (xs ys : List Token)
    → Part M (factored L) (further summands) f xs ys → Meant L M (ReadPart L M) (further summands) f xs ys
read_summands L M f xs ys d = lifted_out M (Part M (factored L)) (meaning L summands) f xs ys
    (unroll M (factored L) (further summands) f xs ys d)

pub sum_read : (L : Dialect) (M : Mode) (f : Growth) (xs ys : List Token)
    → Meant L M (ReadPart L M) (further sum_rest) f xs ys → Part M (factored L) (further sum_rest) f xs ys
sum_read L M f xs ys (inl d) = roll M (factored L) (further sum_rest) f xs ys (inl d)
sum_read L M f xs ys (inr (inl d)) = roll M (factored L) (further sum_rest) f xs ys (inr (inl d))
sum_read L M f xs ys (inr (inr (p, e, (us, g, h)))) =
    roll M (factored L) (further sum_rest) f xs ys
    (inr (inr (p, e, (us, roll M (factored L) (further factors) p.0 xs us g, summands_read L M p.1 us ys h))))

read_sum : (L : Dialect) (M : Mode) (f : Growth) (xs ys : List Token)
    → Part M (factored L) (further sum_rest) f xs ys → Meant L M (ReadPart L M) (further sum_rest) f xs ys
read_sum L M f xs ys d = go (unroll M (factored L) (further sum_rest) f xs ys d)
  where
    go : Means M (Part M (factored L)) (factored L (further sum_rest)) f xs ys
        → Meant L M (ReadPart L M) (further sum_rest) f xs ys
    go (inl d) = inl d
    go (inr (inl d)) = inr (inl d)
    go (inr (inr (p, e, (us, g, h)))) =
        inr (inr (p, e, (us, unroll M (factored L) (further factors) p.0 xs us g, read_summands L M p.1 us ys h)))

pub relation_read : (L : Dialect) (M : Mode) (f : Growth) (xs ys : List Token)
    → Meant L M (ReadPart L M) (further relation_rest) f xs ys
    → Part M (factored L) (further relation_rest) f xs ys
relation_read L M = roll M (factored L) (further relation_rest)

pub expression_read : (L : Dialect) (M : Mode) (f : Growth) (xs ys : List Token)
    → Meant L M (ReadPart L M) (further expression_rest) f xs ys
    → Part M (factored L) (further expression_rest) f xs ys
expression_read L M f xs ys (inl d) = roll M (factored L) (further expression_rest) f xs ys
    (inl (roll M (factored L) (further bitwise_and_rest) f xs ys d))
expression_read L M f xs ys (inr (inl d)) = roll M (factored L) (further expression_rest) f xs ys
    (inr (inl (roll M (factored L) (further bitwise_or_rest) f xs ys d)))
expression_read L M f xs ys (inr (inr (inl d))) = roll M (factored L) (further expression_rest) f xs
    ys (inr (inr (inl (roll M (factored L) (further bitwise_xor_rest) f xs ys d))))
expression_read L M f xs ys (inr (inr (inr (p, e, (us, g, (vs, h, l)))))) =
    roll M (factored L) (further expression_rest) f xs ys
    (inr (inr (inr (p, e, (us, sum_read L M p.0 xs us g, (vs, relation_read L M p.1.0 us vs h, last l))))))
  where
    last : Means M (ReadPart L M) (some_more SymAndAnd short_circuit_and (symbol relational_expression)
        or some_more SymOrOr short_circuit_or (symbol relational_expression) or unchanged) p.1.1 vs ys
        → Means M (Part M (factored L)) (symbol (further and_rest) or symbol (further or_rest) or unchanged) p.1.1 vs ys
    last (inl d) = inl (roll M (factored L) (further and_rest) p.1.1 vs ys d)
    last (inr (inl d)) = inr (inl (roll M (factored L) (further or_rest) p.1.1 vs ys d))
    last (inr (inr d)) = inr (inr d)

-- ---- the written rules, over what the factored grammar derives
meant_shift : (L : Dialect) (M : Mode) (v : ExpressionNode) (xs ys : List Token)
    → ReadPart L M shift_expression v xs ys
    → Means M (Meant L M (ReadPart L M)) (factored L (of shift_expression)) v xs ys
meant_shift L M v xs ys d =
    let u = unroll M (factored L) (of shift_expression) v xs ys d in
    (u.0, u.1, (u.2.0, u.2.1, read_sum L M u.0.1 u.2.0 ys u.2.2))

shift_meant : (L : Dialect) (M : Mode) (v : ExpressionNode) (xs ys : List Token)
    → Means M (Meant L M (ReadPart L M)) (factored L (of shift_expression)) v xs ys
    → ReadPart L M shift_expression v xs ys
shift_meant L M v xs ys (p, e, (ms, d, g)) = roll M (factored L) (of shift_expression) v xs ys
    (p, e, (ms, d, sum_read L M p.1 ms ys g))

read_shift : (L : Dialect) (M : Mode) → ShiftSteps L M (ReadPart L M)
read_shift L M = record {
  unroll_shift = λ v xs ys d. shift_out L M (ReadPart L M) (read_steps L M) v xs ys (meant_shift L M v xs ys d);
  roll_shift = λ v xs ys d. shift_meant L M v xs ys (shift_in L M (ReadPart L M) (read_steps L M) v xs ys d);
}

relation_meant : (L : Dialect) (M : Mode) (v : ExpressionNode) (xs ys : List Token)
    → Means M (Meant L M (ReadPart L M)) (factored L (of relational_expression)) v xs ys
    → ReadPart L M relational_expression v xs ys
relation_meant L M v xs ys (p, e, (ms, d, g)) = roll M (factored L)
    (of relational_expression) v xs ys (p, e, (ms, d, relation_read L M p.1 ms ys g))

meant_relation : (L : Dialect) (M : Mode) (v : ExpressionNode) (xs ys : List Token)
    → ReadPart L M relational_expression v xs ys
    → Means M (Meant L M (ReadPart L M)) (factored L (of relational_expression)) v xs ys
meant_relation L M v xs ys d =
    let u = unroll M (factored L) (of relational_expression) v xs ys d in
    (u.0, u.1, (u.2.0, u.2.1, unroll M (factored L) (further relation_rest) u.0.1 u.2.0 ys u.2.2))

read_comparison : (L : Dialect) (M : Mode) → ComparisonSteps L M (ReadPart L M)
read_comparison L M = record {
  unroll_comparison = λ v xs ys d. comparison_out L M (ReadPart L M) (read_steps L M)
      (read_shift L M) v xs ys (meant_relation L M v xs ys d);
  roll_comparison = λ v xs ys d. relation_meant L M v xs ys
      (comparison_in L M (ReadPart L M) (read_steps L M) (read_shift L M) v xs ys d);
}

-- what the written rule says, the factored grammar derives
pub singular_derived : (L : Dialect) (M : Mode) (v : ExpressionNode) (xs ys : List Token)
    → Means M (ReadPart L M) (rules L singular_expression) v xs ys
    → ReadPart L M singular_expression v xs ys
singular_derived L M v xs ys d = singular_read L M v xs ys
    (singular_in L M (ReadPart L M) (read_primary L M) (read_component L M) v xs ys d)

pub shift_derived : (L : Dialect) (M : Mode) (v : ExpressionNode) (xs ys : List Token)
    → Means M (ReadPart L M) (rules L shift_expression) v xs ys → ReadPart L M shift_expression v xs ys
shift_derived L M = (read_shift L M).roll_shift

pub relation_derived : (L : Dialect) (M : Mode) (v : ExpressionNode) (xs ys : List Token)
    → Means M (ReadPart L M) (rules L relational_expression) v xs ys
    → ReadPart L M relational_expression v xs ys
relation_derived L M = (read_comparison L M).roll_comparison

pub expression_derived : (L : Dialect) (M : Mode) (v : ExpressionNode) (xs ys : List Token)
    → Means M (ReadPart L M) (rules L expression) v xs ys → ReadPart L M expression v xs ys
expression_derived L M v xs ys d =
    let i = expression_in L M (ReadPart L M) (read_steps L M) (read_shift L M) (read_comparison L M) v xs ys d in
    roll M (factored L) (of expression) v xs ys (i.0, i.1, (i.2.0, i.2.1, expression_read L M i.0.1 i.2.0 ys i.2.2))

-- ---- the factored rules, over what the written grammar derives
written_shift : (L : Dialect) (M : Mode) → ShiftSteps L M (WrittenPart L M)
written_shift L M =
    record { unroll_shift = unroll M (rules L) shift_expression; roll_shift = roll M (rules L) shift_expression }

written_comparison : (L : Dialect) (M : Mode) → ComparisonSteps L M (WrittenPart L M)
written_comparison L M = record {
  unroll_comparison = unroll M (rules L) relational_expression;
  roll_comparison = roll M (rules L) relational_expression;
}

pub singular_back : (L : Dialect) (M : Mode) (v : ExpressionNode) (xs ys : List Token)
    → Means M (Meant L M (WrittenPart L M)) (factored L (of singular_expression)) v xs ys
    → WrittenPart L M singular_expression v xs ys
singular_back L M v xs ys d = roll M (rules L) singular_expression v xs ys
    (singular_out L M (WrittenPart L M) (written_primary L M) (written_component L M) v xs ys d)

pub shift_back : (L : Dialect) (M : Mode) (v : ExpressionNode) (xs ys : List Token)
    → Means M (Meant L M (WrittenPart L M)) (factored L (of shift_expression)) v xs ys
    → WrittenPart L M shift_expression v xs ys
shift_back L M v xs ys d = roll M (rules L) shift_expression v xs ys
    (shift_out L M (WrittenPart L M) (written_steps L M) v xs ys d)

pub relation_back : (L : Dialect) (M : Mode) (v : ExpressionNode) (xs ys : List Token)
    → Means M (Meant L M (WrittenPart L M)) (factored L (of relational_expression)) v xs ys
    → WrittenPart L M relational_expression v xs ys
relation_back L M v xs ys d = roll M (rules L) relational_expression v xs ys
    (comparison_out L M (WrittenPart L M) (written_steps L M) (written_shift L M) v xs ys d)

pub expression_back : (L : Dialect) (M : Mode) (v : ExpressionNode) (xs ys : List Token)
    → Means M (Meant L M (WrittenPart L M)) (factored L (of expression)) v xs ys
    → WrittenPart L M expression v xs ys
expression_back L M v xs ys d = roll M (rules L) expression v xs ys (expression_out L M
    (WrittenPart L M) (written_steps L M) (written_shift L M) (written_comparison L M) v xs ys d)
