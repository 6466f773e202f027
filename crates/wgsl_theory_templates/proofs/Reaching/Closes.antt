-- From a derived expression on, the tokens before one that begins with `>` are a list of
-- expressions.
use Rattle.std.proofs.Common.{◌≡◌, ℕ, true, false, List, [], ◌∷◌, ◌++◌, ◌⊎◌, inl, inr, refl, sym, ap, subst, ◌∙◌}
use Rattle.std.proofs.lemmas.Bool.{false≢true}
use Rattle.grammar.specs.Tokens.{Token, Span, first_tokens}
use Rattle.grammar.specs.Grammar.{Grammar.symbol, Mode.checking, Chain, Chain.base, Chain.more, Means, Derives, is_among}
use Rattle.grammar.specs.Notation.{◌then◌, ◌gives◌, ◌▹◌, ◌means◌, list}
use Rattle.grammar.proofs.Reading.Depth.{roll, unroll}
use Rattle.wgsl_model.specs.Tokens.ClassTable.{SymAnd, SymAndAnd, SymEqualEqual, SymNotEqual, SymLessThan, SymLessThanEqual, SymShiftLeft, SymOr, SymOrOr, SymXor, SymComma, SymGreaterThan, SymGreaterThanEqual, SymShiftRight}
use Rattle.wgsl_model.specs.Trees.Operators.{BinaryOperator, short_circuit_and, short_circuit_or, bitwise_and, bitwise_or, bitwise_xor, shift_left, less_than, less_than_equal, equality, inequality}
use Rattle.wgsl_model.specs.Trees.Expressions.{ExpressionNode}
use Rattle.wgsl_model.specs.Grammar.ExpressionParts.{relational_operator, binary_of, two, two_or_more}
use Rattle.wgsl_model.specs.Grammar.Symbols.{Symbol, expressions, unary_expression, multiplicative_expression, additive_expression, shift_expression, relational_expression, expression, Value}
use Rattle.wgsl_model.specs.Grammar.Written.{written}
use Rattle.wgsl_theory_grammar.proofs.Faults.PlainFaults.{one_class}
use Rattle.wgsl_theory_reread.proofs.Again.{D}
use Rattle.wgsl_theory_templates.proofs.Reaching.Reach.{Role, greater, short_circuit, other, role, Place, reach_role, reach, ahead_role, ahead}
use Rattle.wgsl_theory_templates.proofs.Reaching.Moves.{kinds, stretch, Moves, flat_moves, Passes, both_pass, passed_derives}
use Rattle.wgsl_theory_templates.proofs.Reaching.Passing.{walked}

-- ---- where a token of a role is first
-- one that begins with `>` ends the stretch
at_greater : (c : ℕ) {t : Token} {xs ys : List Token} → role c ≡ greater
    → is_among t.class (c ∷ []) ≡ true → xs ≡ t ∷ ys → stretch 0 0 xs ≡ []
at_greater c {t} {xs} {ys} e known w =
    ap (stretch 0 0) w
    ∙ ap (λ (r : Role). first_tokens (ahead_role r 0 0 (λ j f. ahead j f (kinds ys))) (t ∷ ys))
    (ap role (one_class t.class c known) ∙ e)

-- `&&` and `||` rule a template list out
at_short_circuit : (c : ℕ) (p : Place) {t : Token} {xs ys : List Token} → role c ≡ short_circuit
    → is_among t.class (c ∷ []) ≡ true → xs ≡ t ∷ ys → reach p 0 0 (kinds xs) ≡ false
at_short_circuit c p {t} {xs} {ys} e known w =
    ap (λ (z : List Token). reach p 0 0 (kinds z)) w
    ∙ ap (λ (r : Role). reach_role r 0 0 (λ j f. reach p j f (kinds ys))) (ap role (one_class t.class c known) ∙ e)

-- ---- the ways
-- if a token that begins with `>` is reached, the tokens before it derive the symbol
abbrev pub Closed : Symbol → Place → List Token → Type 0
Closed n p xs = reach p 0 0 (kinds xs) ≡ true → (v : Value n) × Derives checking written n v (stretch 0 0 xs)

-- the tokens of a symbol are passed, or such a token or one that rules a template list out is
-- among them
pub data Way (n : Symbol) (p : Place) (xs ys : List Token) : Type 0 where
  passed : Passes p 0 0 0 0 xs ys → Way n p xs ys
  closed : Closed n p xs → Way n p xs ys

-- what derives one symbol derives another
abbrev Lifts : Symbol → Symbol → Type 0
Lifts m n = (v : Value m) (xs : List Token) → Derives checking written m v xs
    → (w : Value n) × Derives checking written n w xs

lifted : (m n : Symbol) (p : Place) (xs ys : List Token) → Lifts m n → Way m p xs ys → Way n p xs ys
lifted m n p xs ys f (passed a) = passed a
lifted m n p xs ys f (closed g) = closed (λ h. let w = g h in f w.0 (stretch 0 0 xs) w.1)

pub unary_is_shift : (v : ExpressionNode) (xs ys : List Token) → D unary_expression v xs ys → D shift_expression v xs ys
unary_is_shift v xs ys d =
    let m = roll checking written multiplicative_expression v xs ys (base v ys d) in
    roll checking written shift_expression v xs ys
    (inl (roll checking written additive_expression v xs ys (base v ys m)))

unary_shifts : Lifts unary_expression shift_expression
unary_shifts v xs d = (v, unary_is_shift v xs [] d)

shift_relates : Lifts shift_expression relational_expression
shift_relates v xs d = (v, roll checking written relational_expression v xs [] (inl d))

relation_is : Lifts relational_expression expression
relation_is v xs d = (v, roll checking written expression v xs [] (inl d))

-- ---- shifts
shift_way : (p : Place) (v : ExpressionNode) (xs ys : List Token)
    → Means checking D (written shift_expression) v xs ys → Way shift_expression p xs ys
shift_way p v xs ys (inl d) = passed (walked p (symbol additive_expression) refl v xs ys d)
shift_way p v xs ys (inr (inl d)) =
    passed (walked p (two SymShiftLeft shift_left (symbol unary_expression)) refl v xs ys d)
shift_way p v xs ys (inr (inr d)) =
    let front_part = walked p (symbol unary_expression) refl d.0.0 xs d.2.0 d.2.1 in
    let ends : stretch 0 0 d.2.0 ≡ [] = at_greater SymShiftRight refl d.2.2.1.2.0 d.2.2.1.2.1 in
    closed (λ h. unary_shifts d.0.0 (stretch 0 0 xs) (subst (λ (z : List Token). D unary_expression
    d.0.0 (stretch 0 0 xs) z) ends (passed_derives (symbol unary_expression) d.0.0 front_part d.2.1)))

-- ---- comparisons
-- an operator that begins with `>` ends the stretch, each other is passed
operator_way : (p : Place) (o : BinaryOperator) (xs ys : List Token)
    → Means checking D relational_operator o xs ys → Passes p 0 0 0 0 xs ys ⊎ (stretch 0 0 xs ≡ [])
operator_way p o xs ys (inl d) = inl (walked p (SymLessThan means less_than) refl o xs ys d)
operator_way p o xs ys (inr (inl d)) = inr (at_greater SymGreaterThan refl d.2.0 d.2.1)
operator_way p o xs ys (inr (inr (inl d))) = inl (walked p (SymLessThanEqual means less_than_equal) refl o xs ys d)
operator_way p o xs ys (inr (inr (inr (inl d)))) = inr (at_greater SymGreaterThanEqual refl d.2.0 d.2.1)
operator_way p o xs ys (inr (inr (inr (inr (inl d))))) = inl (walked p (SymEqualEqual means equality) refl o xs ys d)
operator_way p o xs ys (inr (inr (inr (inr (inr d))))) = inl (walked p (SymNotEqual means inequality) refl o xs ys d)

-- after the first operand and the operator
second_way : (p : Place) (a b : ExpressionNode) (o : BinaryOperator) (xs ms ns ys : List Token)
    → D shift_expression a xs ms → Means checking D relational_operator o ms ns
    → Passes p 0 0 0 0 xs ms → Passes p 0 0 0 0 ms ns → Way shift_expression p ns ys
    → Way relational_expression p xs ys
second_way p a b o xs ms ns ys d i x y (passed z) = passed (both_pass x (both_pass y z))
second_way p a b o xs ms ns ys d i x y (closed f) = closed (λ h.
    let w = f (sym y.reached ∙ (sym x.reached ∙ h)) in
    let v : ExpressionNode = _ in (
      v,
      roll checking written relational_expression v (stretch 0 0 xs) [] (inr (
        (a, (o, w.0)),
        refl,
        (
          stretch 0 0 ms,
          passed_derives (symbol shift_expression) a x d,
          (stretch 0 0 ns, passed_derives relational_operator o y i, w.1),
        ),
      )),
    ))

relational_way : (p : Place) (v : ExpressionNode) (xs ys : List Token)
    → Means checking D (written relational_expression) v xs ys → Way relational_expression p xs ys
relational_way p v xs ys (inl d) = lifted shift_expression relational_expression p xs ys shift_relates
    (shift_way p v xs ys (unroll checking written shift_expression v xs ys d))
relational_way p v xs ys (inr d) = first_way
    (shift_way p d.0.0 xs d.2.0 (unroll checking written shift_expression d.0.0 xs d.2.0 d.2.1))
  where
    following : Passes p 0 0 0 0 xs d.2.0 → Passes p 0 0 0 0 d.2.0 d.2.2.0 ⊎ (stretch 0 0 d.2.0 ≡ [])
        → Way relational_expression p xs ys
    following a (inl o) =
        second_way p d.0.0 d.0.1.1 d.0.1.0 xs d.2.0 d.2.2.0 ys d.2.1 d.2.2.1 a o
        (shift_way p d.0.1.1 d.2.2.0 ys (unroll checking written shift_expression d.0.1.1 d.2.2.0 ys d.2.2.2))
    following a (inr e) = closed (λ h. shift_relates d.0.0 (stretch 0 0 xs) (subst (λ (z : List Token).
        D shift_expression d.0.0 (stretch 0 0 xs) z) e (passed_derives (symbol shift_expression) d.0.0 a d.2.1)))

    first_way : Way shift_expression p xs d.2.0 → Way relational_expression p xs ys
    first_way (passed a) = following a (operator_way p d.0.1.0 d.2.0 d.2.2.0 d.2.2.1)
    first_way (closed f) = closed (λ h. let w = f h in shift_relates w.0 (stretch 0 0 xs) w.1)

-- ---- chains of `&&` and `||`
-- such a chain is never passed
chain_closed : (c : ℕ) (o : BinaryOperator) (p : Place) → role c ≡ short_circuit
    → (xs : List Token) (v : ExpressionNode) (ys : List Token)
    → Chain binary_of (Means checking D (two c o (symbol relational_expression)))
    (Means checking D (c means o then symbol relational_expression)) xs v ys → Closed expression p xs
chain_closed c o p e xs _ _ (base v ys d) = first_closed (relational_way p d.0.0 xs d.2.0
    (unroll checking written relational_expression d.0.0 xs d.2.0 d.2.1))
  where
    first_closed : Way relational_expression p xs d.2.0 → Closed expression p xs
    first_closed (passed a) h =
        absurd (false≢true (sym (a.reached ∙ at_short_circuit c p e d.2.2.1.2.0 d.2.2.1.2.1) ∙ h))
    first_closed (closed f) h = let w = f h in relation_is w.0 (stretch 0 0 xs) w.1
chain_closed c o p e xs _ _ (more a b ys zs i d) = chain_closed c o p e xs a ys i

-- ---- expressions
expression_way : (p : Place) (v : ExpressionNode) (xs ys : List Token)
    → Means checking D (written expression) v xs ys → Way expression p xs ys
expression_way p v xs ys (inl d) = lifted relational_expression expression p xs ys relation_is
    (relational_way p v xs ys (unroll checking written relational_expression v xs ys d))
expression_way p v xs ys (inr (inl d)) = closed (chain_closed SymAndAnd short_circuit_and p refl xs v ys d)
expression_way p v xs ys (inr (inr (inl d))) = closed (chain_closed SymOrOr short_circuit_or p refl xs v ys d)
expression_way p v xs ys (inr (inr (inr (inl d)))) =
    passed (walked p (two_or_more SymAnd bitwise_and (symbol unary_expression)) refl v xs ys d)
expression_way p v xs ys (inr (inr (inr (inr (inl d))))) =
    passed (walked p (two_or_more SymOr bitwise_or (symbol unary_expression)) refl v xs ys d)
expression_way p v xs ys (inr (inr (inr (inr (inr d))))) =
    passed (walked p (two_or_more SymXor bitwise_xor (symbol unary_expression)) refl v xs ys d)

-- ---- lists
-- an expression, a comma and a list are a list
longer : (v : ExpressionNode) (xs ys zs : List Token) (t : Token) → D expression v xs ys
    → ys ≡ t ∷ zs → is_among t.class (SymComma ∷ []) ≡ true → (w : List ExpressionNode)
    → Derives checking written expressions w zs → Derives checking written expressions (v ∷ w) xs
longer v xs ys zs t d e known w l = roll checking written expressions (v ∷ w) xs []
    (whole w (unroll checking written expressions w zs [] l))
  where
    push : List ExpressionNode → ExpressionNode → Span → List ExpressionNode
    push a b s = a ++ (b ∷ [])

    First : List ExpressionNode → List Token → List Token → Type 0
    First = Means checking D (symbol expression gives (λ (x : ExpressionNode). x ∷ []))

    Next : ExpressionNode → List Token → List Token → Type 0
    Next = Means checking D (SymComma ▹ symbol expression)

    go : (a : List ExpressionNode) (us : List Token) → Chain push First Next zs a us
        → Chain push First Next xs (v ∷ a) us
    go _ _ (base a us (x, is, i)) =
        subst (λ (z : List ExpressionNode). Chain push First Next xs (v ∷ z) us) is
        (more (v ∷ []) x ys us (base (v ∷ []) ys (v, refl, d)) ((t, x), refl, (zs, (known, e), i)))
    go _ _ (more a b us vs c i) = more (v ∷ a) b us vs (go a us c) i

    whole : (w : List ExpressionNode) → Means checking D (list SymComma (symbol expression)) w zs []
        → Means checking D (list SymComma (symbol expression)) (v ∷ w) xs []
    whole w (inl c) = inl (go w [] c)
    whole w (inr (a, is, (us, c, i))) =
        inr ((v ∷ a.0, a.1), ap (λ (z : List ExpressionNode). v ∷ z) is, (us, go a.0 us c, i))

-- an expression is a list, also with a comma after it
one_item : (v : ExpressionNode) (xs : List Token) → Derives checking written expression v xs
    → Derives checking written expressions (v ∷ []) xs
one_item v xs d = roll checking written expressions (v ∷ []) xs [] (inl (base (v ∷ []) [] (v, refl, d)))

one_item_comma : (v : ExpressionNode) (xs ys : List Token) (t : Token) → D expression v xs ys → ys ≡ t ∷ []
    → is_among t.class (SymComma ∷ []) ≡ true → Derives checking written expressions (v ∷ []) xs
one_item_comma v xs ys t d e known = roll checking written expressions (v ∷ []) xs []
    (inr ((v ∷ [], t), refl, (ys, base (v ∷ []) ys (v, refl, d), (known, e))))

-- ---- what goes on with a list
-- what is after an expression, if a token that begins with `>` is reached: that token, or a
-- comma with nothing or a list of expressions before that token
pub data Following (ys : List Token) : Type 0 where
  ended : stretch 0 0 ys ≡ [] → Following ys
  last_comma : (t : Token) (zs : List Token) → ys ≡ t ∷ zs → is_among t.class (SymComma ∷ []) ≡ true
      → stretch 0 0 zs ≡ [] → Following ys
  comma : (t : Token) (zs : List Token) → ys ≡ t ∷ zs → is_among t.class (SymComma ∷ []) ≡ true
      → (w : List ExpressionNode) → Derives checking written expressions w (stretch 0 0 zs) → Following ys

abbrev pub GoesOn : Place → List Token → Type 0
GoesOn p ys = reach p 0 0 (kinds ys) ≡ true → Following ys

-- a comma is passed
pub comma_moves : (t : Token) → is_among t.class (SymComma ∷ []) ≡ true → Moves (role t.class) 0 0 0 0
comma_moves t known = subst (λ (c : ℕ). Moves (role c) 0 0 0 0)
    (sym (one_class t.class SymComma known)) (flat_moves other 0 0 refl)

at_comma : {t : Token} {ys zs : List Token} → is_among t.class (SymComma ∷ []) ≡ true → ys ≡ t ∷ zs
    → stretch 0 0 ys ≡ t ∷ stretch 0 0 zs
at_comma {t} {ys} {zs} known e = ap (stretch 0 0) e
    ∙ ap (λ (n : ℕ). first_tokens n (t ∷ zs)) ((comma_moves t known).counted (λ j f. ahead j f (kinds zs)))

-- a whole list of tokens is a list of expressions
abbrev pub IsList : List Token → Type 0
IsList xs = (w : List ExpressionNode) × Derives checking written expressions w xs

after_expression : (v : ExpressionNode) (xs ys : List Token) → D expression v xs (stretch 0 0 ys)
    → Following ys → IsList xs
after_expression v xs ys d (ended e) = (v ∷ [], one_item v xs (subst (D expression v xs) e d))
after_expression v xs ys d (last_comma t zs w known e) =
    (v ∷ [], one_item_comma v xs (stretch 0 0 ys) t d (at_comma known w ∙ ap (λ (z : List Token). t ∷ z) e) known)
after_expression v xs ys d (comma t zs w known l i) =
    (v ∷ l, longer v xs (stretch 0 0 ys) (stretch 0 0 zs) t d (at_comma known w) known l i)

-- the tokens from an expression to a token that begins with `>` are a list of expressions
pub closes : (v : ExpressionNode) (xs ys : List Token) → D expression v xs ys → (p : Place)
    → GoesOn p ys → reach p 0 0 (kinds xs) ≡ true → IsList (stretch 0 0 xs)
closes v xs ys d p g h = by (expression_way p v xs ys (unroll checking written expression v xs ys d))
  where
    by : Way expression p xs ys → IsList (stretch 0 0 xs)
    by (passed a) = after_expression v (stretch 0 0 xs) ys
        (passed_derives (symbol expression) v a d) (g (sym a.reached ∙ h))
    by (closed f) = let w = f h in (w.0 ∷ [], one_item w.0 (stretch 0 0 xs) w.1)
