-- Primary expressions, left sides, and the statements that begin with them: both forms derive the
-- same.
use Rattle.std.proofs.Common.{◌≡◌, List, [], ◌∷◌, inl, inr, refl, sym, ap, subst, ◌∙◌}
use Rattle.std.specs.Prelude.{Option, Some, None}
use Rattle.grammar.specs.Tokens.{Token, Span, span_between}
use Rattle.grammar.specs.Grammar.{Grammar.symbol, Mode, Means, Part}
use Rattle.grammar.specs.Notation.{◌makes◌, ◌▹◌, ◌◃◌, ◌or◌, ◌gives◌}
use Rattle.grammar.proofs.Reading.Depth.{roll, unroll}
use Rattle.grammar.proofs.Reading.Frame.{span_append}
use Rattle.wgsl_model.specs.Tokens.ClassTable.{SymParenLeft, SymParenRight}
use Rattle.wgsl_model.specs.Trees.Operators.{AssignmentOperator}
use Rattle.wgsl_model.specs.Trees.Expressions.{ExpressionNode, Expression, FunctionCall, TypeExpression}
use Rattle.wgsl_model.specs.Trees.Attributes.{Attributes}
use Rattle.wgsl_model.specs.Trees.Statements.{Statement, statement, UnattributedStatement, unattributed, assignment_of, increment_of, decrement_of, call_statement_of}
use Rattle.wgsl_model.specs.Grammar.TokenValues.{text_of}
use Rattle.wgsl_model.specs.Grammar.ExpressionParts.{type_of, call_of, variable}
use Rattle.wgsl_model.specs.Grammar.StatementParts.{variable_at, parenthesized_at, leading, open_left_side, parenthesized_left_side, left_side}
use Rattle.wgsl_model.specs.Grammar.Symbols.{Dialect, Dialect.parsed, Dialect.recognized, Symbol.ident, Symbol.type_specifier, Symbol.call, Symbol.primary_expression, Symbol.component, Symbol.lhs_expression, Symbol.call_statement, Symbol.assignment, Symbol.increment, Symbol.decrement, Rule, Symbol.phony_assignment}
use Rattle.wgsl_model.specs.Grammar.Written.{rules}
use Rattle.wgsl_theory_grammar.specs.Factored.{Further.components, Further.left_side_rest, Further.name_rest_statement, FactoredSymbol.of, FactoredSymbol.further, Growth, call_or_type, variable_of, call_by_name, factored, Further.left_side_in_parentheses, Further.prefixed_left_side, Further.parenthesized_statement, Further.phony_part, Further.simple_part, FactoredRule, leading_before}
use Rattle.wgsl_theory_grammar.specs.Meaning.{left_side_growth, parenthesized_growth, simple_kinds}
use Rattle.wgsl_theory_grammar.proofs.Forms.Taking.{takes_one, part_takes}
use Rattle.wgsl_theory_grammar.proofs.Forms.Levels.{AllPlaced, AllTake, to_components, from_components}
use Rattle.wgsl_theory_grammar.proofs.Forms.Lifted.{WrittenRelation, lifted_out}
use Rattle.wgsl_theory_grammar.proofs.Forms.Shifts.{Meant}
use Rattle.wgsl_theory_grammar.proofs.Forms.AttributeLinks.{read_list, meant_list, leading_to, leading_from, leading_kept}
use Rattle.wgsl_theory_grammar.proofs.Forms.LevelLinks.{WrittenPart, ReadPart, taking, written_takes, never_empty, body_takes, node_placed, written_component, read_component}

-- ---- primary expressions
pub primary_in : (L : Dialect) (M : Mode) (v : ExpressionNode) (xs ys : List Token)
    → Means M (ReadPart L M) (rules L primary_expression) v xs ys
    → Part M (factored L) (of primary_expression) v xs ys
primary_in L M v xs ys (e, q, inl (t, r, h)) =
    let p : TypeExpression × Option (List ExpressionNode) = (t, None) in
    roll M (factored L) (of primary_expression) v xs ys (e, q, inl (p, r, (ys, h, inr (refl, refl))))
primary_in L M v xs ys (e, q, inr (inl (c, r, h))) =
    let u = unroll M (factored L) (of call) c xs ys h in
    let p : TypeExpression × Option (List ExpressionNode) = (u.0.0, Some u.0.1) in
    roll M (factored L) (of primary_expression) v xs ys (
      e,
      q,
      inl (p, ap (λ (z : FunctionCall). Expression.function_call z) u.1 ∙ r, (u.2.0, u.2.1, inl (u.0.1, refl, u.2.2))),
    )
primary_in L M v xs ys (e, q, inr (inr d)) = roll M (factored L) (of primary_expression) v xs ys (e, q, inr d)

pub primary_out : (L : Dialect) (M : Mode) (v : ExpressionNode) (xs ys : List Token)
    → Means M (Meant L M (WrittenPart L M)) (factored L (of primary_expression)) v xs ys
    → Part M (rules L) primary_expression v xs ys
primary_out L M v xs ys (e, q, inl (p, r, (ms, h, inl (es, k, i)))) =
    let c : TypeExpression × List ExpressionNode = (p.0, es) in
    roll M (rules L) primary_expression v xs ys (
      e,
      q,
      inr (inl (
        call_of c,
        ap (λ (z : Option (List ExpressionNode)). call_or_type (p.0, z)) k ∙ r,
        roll M (rules L) call (call_of c) xs ys (c, refl, (ms, h, i)),
      )),
    )
primary_out L M v xs ys (e, q, inl (p, r, (ms, h, inr i))) =
    roll M (rules L) primary_expression v xs ys (
      e,
      q,
      inl (
        p.0,
        ap (λ (z : Option (List ExpressionNode)). call_or_type (p.0, z)) i.0 ∙ r,
        subst (λ (z : List Token). Part M (rules L) type_specifier p.0 xs z) i.1 h,
      ),
    )
primary_out L M v xs ys (e, q, inr d) = roll M (rules L) primary_expression v xs ys (e, q, inr (inr d))

-- ---- left sides
-- a name is one token
read_ident : (L : Dialect) (M : Mode) (t : Token) (xs ys : List Token) → ReadPart L M ident t xs ys → xs ≡ t ∷ ys
read_ident parsed M t xs ys d = (unroll M (factored parsed) (of ident) t xs ys d).1.1
read_ident recognized M t xs ys d = (unroll M (factored recognized) (of ident) t xs ys d).1

written_ident : (L : Dialect) (M : Mode) (t : Token) (xs ys : List Token) → WrittenPart L M ident t xs ys → xs ≡ t ∷ ys
written_ident parsed M t xs ys d = (unroll M (rules parsed) ident t xs ys d).1.1
written_ident recognized M t xs ys d = (unroll M (rules recognized) ident t xs ys d).1

abbrev name_node : Rule ExpressionNode
name_node = symbol ident makes variable_at

abbrev parenthesized_node : Rule ExpressionNode
parenthesized_node = SymParenLeft ▹ symbol lhs_expression ◃ SymParenRight makes parenthesized_at

-- what is asked of both grammars
record LeftSteps (L : Dialect) (M : Mode) (D : WrittenRelation) : Type 0 where
  pub name_placed : AllPlaced (λ v xs ys. Means M D name_node v xs ys)
  pub parenthesized_placed : AllPlaced (λ v xs ys. Means M D parenthesized_node v xs ys)
  pub component_takes : AllTake (D component)

read_left : (L : Dialect) (M : Mode) → LeftSteps L M (ReadPart L M)
read_left L M = record {
  name_placed = λ v xs ys d. node_placed v xs ys (variable (text_of d.0), d.1)
      (takes_one M (factored L) never_empty (body_takes L) (of ident) refl d.0 xs ys d.2);
  parenthesized_placed = λ v xs ys d. node_placed v xs ys (Expression.parenthesized d.0, d.1)
      (part_takes M (factored L) never_empty (body_takes L)
      (SymParenLeft ▹ symbol (of lhs_expression) ◃ SymParenRight) refl d.0 xs ys d.2);
  component_takes = read_component L M;
}

written_left : (L : Dialect) (M : Mode) → LeftSteps L M (WrittenPart L M)
written_left L M = record {
  name_placed = λ v xs ys d. node_placed v xs ys (variable (text_of d.0), d.1)
      (takes_one M (rules L) taking (written_takes L) ident refl d.0 xs ys d.2);
  parenthesized_placed = λ v xs ys d. node_placed v xs ys (Expression.parenthesized d.0, d.1)
      (part_takes M (rules L) taking (written_takes L)
      (SymParenLeft ▹ symbol lhs_expression ◃ SymParenRight) refl d.0 xs ys d.2);
  component_takes = written_component L M;
}

pub parenthesized_in : (L : Dialect) (M : Mode) (v : ExpressionNode) (xs ys : List Token)
    → Means M (ReadPart L M) parenthesized_left_side v xs ys
    → Part M (factored L) (further left_side_in_parentheses) v xs ys
parenthesized_in L M v xs ys d =
    let g = (to_components (λ v xs ys. Means M (ReadPart L M) parenthesized_node v xs ys)
    (ReadPart L M component) (read_left L M).parenthesized_placed (read_component L M) xs v ys d).0 in
    let p : ExpressionNode × Growth = (g.0, g.1) in
    roll M (factored L) (further left_side_in_parentheses) v xs ys
    (p, g.5, (g.2, g.3, roll M (factored L) (further components) g.1 g.2 ys g.4))

pub parenthesized_out : (L : Dialect) (M : Mode) (v : ExpressionNode) (xs ys : List Token)
    → Means M (Meant L M (WrittenPart L M)) (factored L (further left_side_in_parentheses)) v xs ys
    → Means M (WrittenPart L M) parenthesized_left_side v xs ys
parenthesized_out L M v xs ys (p, e, (ms, d, g)) =
    subst (λ (z : ExpressionNode). Means M (WrittenPart L M) parenthesized_left_side z xs ys) e
    (from_components (λ v xs ys. Means M (WrittenPart L M) parenthesized_node v xs ys) (WrittenPart L M
    component) (written_left L M).parenthesized_placed (written_component L M) p.0 xs ms d p.1 ys g).0

pub left_in : (L : Dialect) (M : Mode) (v : ExpressionNode) (xs ys : List Token)
    → Means M (ReadPart L M) (rules L lhs_expression) v xs ys
    → Part M (factored L) (of lhs_expression) v xs ys
left_in L M v xs ys (inl (inl d)) =
    let g = (to_components (λ v xs ys. Means M (ReadPart L M) name_node v xs ys)
    (ReadPart L M component) (read_left L M).name_placed (read_component L M) xs v ys d).0 in
    let p : ExpressionNode × Growth = (g.0, g.1) in
    roll M (factored L) (of lhs_expression) v xs ys
    (inl (p, g.5, (g.2, g.3, roll M (factored L) (further components) g.1 g.2 ys g.4)))
left_in L M v xs ys (inl (inr d)) = roll M (factored L) (of lhs_expression) v xs ys
    (inr (inl (roll M (factored L) (further prefixed_left_side) v xs ys d)))
left_in L M v xs ys (inr d) = roll M (factored L) (of lhs_expression) v xs ys
    (inr (inr (parenthesized_in L M v xs ys d)))

-- a name with components, as it is written
named_out : (L : Dialect) (M : Mode) (a : ExpressionNode) (xs ms : List Token)
    → Means M (WrittenPart L M) name_node a xs ms → (f : Growth) (ys : List Token)
    → Meant L M (WrittenPart L M) (further components) f ms ys
    → Means M (WrittenPart L M) open_left_side (f a) xs ys
named_out L M a xs ms d f ys g =
    inl (from_components (λ v xs ys. Means M (WrittenPart L M) name_node v xs ys)
    (WrittenPart L M component) (written_left L M).name_placed (written_component L M) a xs ms d f ys g).0

pub left_out : (L : Dialect) (M : Mode) (v : ExpressionNode) (xs ys : List Token)
    → Means M (Meant L M (WrittenPart L M)) (factored L (of lhs_expression)) v xs ys
    → Part M (rules L) lhs_expression v xs ys
left_out L M v xs ys (inl (p, e, (ms, d, g))) =
    roll M (rules L) lhs_expression v xs ys (inl (subst (λ (z : ExpressionNode). Means M
    (WrittenPart L M) open_left_side z xs ys) e (named_out L M p.0 xs ms d p.1 ys g)))
left_out L M v xs ys (inr (inl d)) = roll M (rules L) lhs_expression v xs ys (inl (inr d))
left_out L M v xs ys (inr (inr d)) = roll M (rules L) lhs_expression v xs ys (inr d)

-- ---- calls, assignments, increments and decrements
-- as they are written, and as they are read
abbrev pub written_simple : Rule Statement
written_simple = symbol assignment or symbol phony_assignment or symbol increment
    or symbol decrement or symbol call_statement

abbrev pub read_simple : Dialect → FactoredRule Statement
read_simple L = symbol (further parenthesized_statement) gives unattributed
    or leading_before L statement (symbol (further simple_part))

-- a name as a left side has the span of its token
name_is : (t : Token) (xs ys : List Token) → xs ≡ t ∷ ys → variable_at t (span_between xs ys) ≡ variable_of t
name_is t xs ys w = ap (λ (z : Span). variable_at t z)
    (ap (λ (z : List Token). span_between z ys) w ∙ span_append (t ∷ []) ys)

-- what is done to a left side, which begins with `(` or does not
enclosed_in : (L : Dialect) (M : Mode) (l : ExpressionNode) (xs ms : List Token)
    → Means M (ReadPart L M) parenthesized_left_side l xs ms
    → (f : ExpressionNode → UnattributedStatement) (ys : List Token)
    → Means M (ReadPart L M) left_side_growth f ms ys
    → Part M (factored L) (further parenthesized_statement) (f l) xs ys
enclosed_in L M l xs ms d f ys h =
    let k : ExpressionNode × (ExpressionNode → UnattributedStatement) = (l, f) in
    roll M (factored L) (further parenthesized_statement) (f l) xs ys
    (k, refl, (ms, parenthesized_in L M l xs ms d, roll M (factored L) (further left_side_rest) f ms ys h))

opened_in : (L : Dialect) (M : Mode) (l : ExpressionNode) (xs ms : List Token)
    → Means M (ReadPart L M) open_left_side l xs ms
    → (f : ExpressionNode → UnattributedStatement) (ys : List Token)
    → Means M (ReadPart L M) left_side_growth f ms ys
    → Part M (factored L) (further simple_part) (f l) xs ys
opened_in L M l xs ms (inl d) f ys h =
    let g = (to_components (λ v xs ys. Means M (ReadPart L M) name_node v xs ys)
    (ReadPart L M component) (read_left L M).name_placed (read_component L M) xs l ms d).0 in
    let t = g.3.0 in
    let w = read_ident L M t xs g.2 g.3.2 in
    let i : Growth × (ExpressionNode → UnattributedStatement) = (g.1, f) in
    let k : Token × (Token → UnattributedStatement) = (t, (λ t. f (g.1 (variable_of t)))) in
    let rest : Part M (factored L) (further left_side_rest) f ms ys = roll M (factored L)
    (further left_side_rest) f ms ys h in
    let more_components : Part M (factored L) (further components) g.1 g.2 ms = roll M (factored L)
    (further components) g.1 g.2 ms g.4 in
    let j : Part M (factored L) (further name_rest_statement) k.1 g.2 ys = roll M (factored L)
    (further name_rest_statement) k.1 g.2 ys (inr (i, refl, (ms, more_components, rest))) in
    roll M (factored L) (further simple_part) (f l) xs ys
    (inl (k, ap (λ (z : ExpressionNode). f (g.1 z)) (sym (name_is t xs g.2 w) ∙ g.3.1) ∙ ap f g.5, (g.2, g.3.2, j)))
opened_in L M l xs ms (inr d) f ys h =
    let k : ExpressionNode × (ExpressionNode → UnattributedStatement) = (l, f) in
    roll M (factored L) (further simple_part) (f l) xs ys (inr (inl (
      k,
      refl,
      (
        ms,
        roll M (factored L) (further prefixed_left_side) l xs ms d,
        roll M (factored L) (further left_side_rest) f ms ys h,
      ),
    )))

assigned_in : (L : Dialect) (M : Mode) (p : Attributes × ExpressionNode) (xs ms : List Token)
    → Means M (ReadPart L M) (left_side L) p xs ms
    → (f : ExpressionNode → UnattributedStatement) (ys : List Token)
    → Means M (ReadPart L M) left_side_growth f ms ys
    → Means M (Part M (factored L)) (read_simple L) (statement p.0 (f p.1)) xs ys
assigned_in L M p xs ms (inl (ks, d, o)) f ys h =
    let i : Attributes × UnattributedStatement = (p.0, f p.1) in
    inr (
      i,
      refl,
      (
        ks,
        leading_to L M (ReadPart L M) (Part M (factored L)) (read_list L M) p.0 xs ks d,
        opened_in L M p.1 ks ms o f ys h,
      ),
    )
assigned_in L M p xs ms (inr (l, e, o)) f ys h =
    inl (f l, ap (λ (z : Attributes × ExpressionNode). statement z.0 (f z.1)) e, enclosed_in L M l xs ms o f ys h)

pub simple_in : (L : Dialect) (M : Mode) (v : Statement) (xs ys : List Token)
    → Means M (ReadPart L M) written_simple v xs ys → Means M (Part M (factored L)) (read_simple L) v xs ys
simple_in L M v xs ys (inl d) =
    let u = lifted_out M (Part M (factored L)) (rules L assignment) v xs ys
    (unroll M (factored L) (of assignment) v xs ys d) in
    let p : AssignmentOperator × ExpressionNode = u.0.1 in
    subst (λ (z : Statement). Means M (Part M (factored L)) (read_simple L) z xs ys) u.1
    (assigned_in L M u.0.0 xs u.2.0 u.2.1 (λ l. assignment_of l p.0 p.1) ys (inl (p, refl, u.2.2)))
simple_in L M v xs ys (inr (inl d)) =
    inr (leading_kept L M (Part M (factored L)) statement (symbol (further phony_part)) (symbol (further simple_part))
    (λ u us vs s. roll M (factored L) (further simple_part) u us vs (inr (inr s))) v xs ys
    (unroll M (factored L) (of phony_assignment) v xs ys d))
simple_in L M v xs ys (inr (inr (inl d))) =
    let u = lifted_out M (Part M (factored L)) (rules L increment) v xs ys
    (unroll M (factored L) (of increment) v xs ys d) in
    subst (λ (z : Statement). Means M (Part M (factored L)) (read_simple L) z xs ys)
    (ap (λ (z : Attributes × ExpressionNode). statement z.0 (increment_of z.1)) u.2.1 ∙ u.1)
    (assigned_in L M u.2.0.0 xs u.2.2.0 u.2.2.1 increment_of ys (inr (inl (u.2.0.1, refl, u.2.2.2))))
simple_in L M v xs ys (inr (inr (inr (inl d)))) =
    let u = lifted_out M (Part M (factored L)) (rules L decrement) v xs ys
    (unroll M (factored L) (of decrement) v xs ys d) in
    subst (λ (z : Statement). Means M (Part M (factored L)) (read_simple L) z xs ys)
    (ap (λ (z : Attributes × ExpressionNode). statement z.0 (decrement_of z.1)) u.2.1 ∙ u.1)
    (assigned_in L M u.2.0.0 xs u.2.2.0 u.2.2.1 decrement_of ys (inr (inr (u.2.0.1, refl, u.2.2.2))))
simple_in L M v xs ys (inr (inr (inr (inr d)))) =
    inr (leading_kept L M (Part M (factored L)) statement (symbol (of call) gives call_statement_of)
    (symbol (further simple_part)) (λ u us vs s. called_in L M u us vs s) v xs ys
    (unroll M (factored L) (of call_statement) v xs ys d))
  where
    called_in : (L : Dialect) (M : Mode) (v : UnattributedStatement) (xs ys : List Token)
        → Means M (Part M (factored L)) (symbol (of call) gives call_statement_of) v xs ys
        → Part M (factored L) (further simple_part) v xs ys
    called_in L M v xs ys s =
        let c = unroll M (factored L) (of call) s.0 xs ys s.2 in
        let y = unroll M (factored L) (of type_specifier) c.0.0 xs c.2.0 c.2.1 in
        let p : Option (List ExpressionNode) × List ExpressionNode = (y.0.1, c.0.1) in
        let k : Token × (Token → UnattributedStatement) = (y.0.0, (λ t. call_by_name t p)) in
        let j : Part M (factored L) (further name_rest_statement) k.1 y.2.0 ys = roll M (factored L)
        (further name_rest_statement) k.1 y.2.0 ys (inl (p, refl, (c.2.0, y.2.2, c.2.2))) in
        roll M (factored L) (further simple_part) v xs ys (inl (
          k,
          ap (λ (z : TypeExpression). call_statement_of (call_of (z, c.0.1))) y.1
              ∙ (ap call_statement_of c.1 ∙ s.1),
          (y.2.0, y.2.1, j),
        ))

-- ---- and back
-- what is done to a left side, by what follows it
assigned_out : (L : Dialect) (M : Mode) (p : Attributes × ExpressionNode) (xs ms : List Token)
    → Means M (WrittenPart L M) (left_side L) p xs ms
    → (f : ExpressionNode → UnattributedStatement) (ys : List Token)
    → Means M (WrittenPart L M) left_side_growth f ms ys
    → (v : Statement) → statement p.0 (f p.1) ≡ v → Means M (WrittenPart L M) written_simple v xs ys
assigned_out L M p xs ms d f ys (inl (o, k, h)) v q =
    let i : (Attributes × ExpressionNode) × (AssignmentOperator × ExpressionNode) = (p, o) in
    inl (roll M (rules L) assignment v xs ys
    (i, ap (λ (g : ExpressionNode → UnattributedStatement). statement p.0 (g p.1)) k ∙ q, (ms, d, h)))
assigned_out L M p xs ms d f ys (inr (inl (t, k, h))) v q =
    let i : (Attributes × ExpressionNode) × Token = (p, t) in
    inr (inr (inl (roll M (rules L) increment v xs ys
    (p, ap (λ (g : ExpressionNode → UnattributedStatement). statement p.0 (g p.1)) k ∙ q, (i, refl, (ms, d, h))))))
assigned_out L M p xs ms d f ys (inr (inr (t, k, h))) v q =
    let i : (Attributes × ExpressionNode) × Token = (p, t) in
    inr (inr (inr (inl (roll M (rules L) decrement v xs ys
    (p, ap (λ (g : ExpressionNode → UnattributedStatement). statement p.0 (g p.1)) k ∙ q, (i, refl, (ms, d, h)))))))

-- what begins with `(`
pub enclosed_out : (L : Dialect) (M : Mode) (v : UnattributedStatement) (xs ys : List Token)
    → Means M (WrittenPart L M) parenthesized_growth v xs ys
    → Means M (WrittenPart L M) written_simple (unattributed v) xs ys
enclosed_out L M v xs ys (k, e, (ms, d, h)) =
    let p : Attributes × ExpressionNode = ([], k.0) in
    assigned_out L M p xs ms (inr (k.0, refl, d)) k.1 ys h (unattributed v) (ap unattributed e)

-- what is after attributes
pub led_simple_out : (L : Dialect) (M : Mode) (v : Statement) (xs ys : List Token)
    → Means M (Meant L M (WrittenPart L M)) (leading_before L statement (symbol (further simple_part))) v xs ys
    → Means M (WrittenPart L M) written_simple v xs ys
led_simple_out L M v xs ys (p, e, (ks, d, s)) = go s
  where
    leads : Means M (WrittenPart L M) (leading L) p.0 xs ks
    leads = leading_from L M (WrittenPart L M) (Meant L M (WrittenPart L M)) (meant_list L M) p.0 xs ks d

    go : Means M (WrittenPart L M) simple_kinds p.1 ks ys → Means M (WrittenPart L M) written_simple v xs ys
    go (inl (k, q, (ms, o, h))) =
        let i : Attributes × ExpressionNode = (p.0, k.0) in
        assigned_out L M i xs ms (inl (ks, leads, o)) k.1 ys h v (ap (statement p.0) q ∙ e)
    go (inr (inl h)) = inr (inl (roll M (rules L) phony_assignment v xs ys (p, e, (ks, leads, h))))
    go (inr (inr h)) = inr (inr (inr (inr (roll M (rules L) call_statement v xs ys (p, e, (ks, leads, h))))))

pub simple_out : (L : Dialect) (M : Mode) (v : Statement) (xs ys : List Token)
    → Means M (Meant L M (WrittenPart L M)) (read_simple L) v xs ys
    → Means M (WrittenPart L M) written_simple v xs ys
simple_out L M v xs ys (inl (u, e, d)) =
    subst (λ (z : Statement). Means M (WrittenPart L M) written_simple z xs ys) e
    (enclosed_out L M u xs ys d)
simple_out L M v xs ys (inr d) = led_simple_out L M v xs ys d

pub simple_part_out : (L : Dialect) (M : Mode) (v : UnattributedStatement) (xs ys : List Token)
    → Means M (Meant L M (WrittenPart L M)) (factored L (further simple_part)) v xs ys
    → Means M (WrittenPart L M) simple_kinds v xs ys
simple_part_out L M v xs ys (inl (k, q, (ms, n, inl (p, e, (us, i, h))))) =
    let y : Token × Option (List ExpressionNode) = (k.0, p.0) in
    let c : TypeExpression × List ExpressionNode = (type_of y, p.1) in
    let ty : Part M (rules L) type_specifier (type_of y) xs us = roll M (rules L) type_specifier
    (type_of y) xs us (y, refl, (ms, n, i)) in
    inr (inr (
      call_of c,
      ap (λ (g : Token → UnattributedStatement). g k.0) e ∙ q,
      roll M (rules L) call (call_of c) xs ys (c, refl, (us, ty, h)),
    ))
simple_part_out L M v xs ys (inl (k, q, (ms, n, inr (p, e, (us, g, h))))) =
    let w = written_ident L M k.0 xs ms n in
    let d : Means M (WrittenPart L M) name_node (variable_of k.0) xs ms = (k.0, name_is k.0 xs ms w, n) in
    let i : ExpressionNode × (ExpressionNode → UnattributedStatement) = (p.0 (variable_of k.0), p.1) in
    inl (
      i,
      ap (λ (g : Token → UnattributedStatement). g k.0) e ∙ q,
      (us, named_out L M (variable_of k.0) xs ms d p.0 us g, h),
    )
simple_part_out L M v xs ys (inr (inl (k, q, (ms, d, h)))) = inl (k, q, (ms, inr d, h))
simple_part_out L M v xs ys (inr (inr d)) = inr (inl d)
