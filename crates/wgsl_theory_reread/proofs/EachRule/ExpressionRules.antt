-- How parts of expressions, and rules that RuleTerms leaves out, are read again.
use Rattle.std.proofs.Common.{◌≡◌, ℕ, Bool, true, false, cond, eqb, List, [], ◌∷◌, map, Option, Some, None, refl, sym, ap, subst, ◌∙◌, inl, inr}
use Rattle.std.specs.Option.{option_map}
use Rattle.grammar.specs.Tokens.{Token, Span, Fault, span_between}
use Rattle.grammar.specs.Grammar.{Grammar.symbol, Grammar.left_chain, Mode.checking, Chain, Chain.base, Chain.more, Means, is_among}
use Rattle.grammar.specs.Notation.{optional, ◌then◌, ◌or◌, ◌gives◌, ◌makes◌, ◌▹◌, ◌◃◌, ◌means◌}
use Rattle.grammar.proofs.Reading.Depth.{roll}
use Rattle.wgsl_model.specs.Tokens.ClassTable.{SymComma, SymBracketLeft, SymBracketRight, SymMinus, SymMinusMinus, SymParenLeft, SymParenRight, SymPeriod, KwTrue, KwFalse, Ident, ReservedWord, AbstractInt, I32, U32, AbstractFloat, F32, F16, TemplateArgsStart, TemplateArgsEnd}
use Rattle.wgsl_model.specs.Tokens.Kind.{Kind, plain, placed}
use Rattle.wgsl_model.specs.Tokens.Raw.{kind_of_word}
use Rattle.wgsl_model.specs.Trees.Operators.{UnaryOperator, negation, address_of, indirection, BinaryOperator, addition, subtraction, multiplication, division, remainder}
use Rattle.wgsl_model.specs.Trees.Expressions.{LiteralExpression, boolean, ExpressionNode, expression_node, Expression, TemplateArguments, expression_before, expressions_of, template_of}
use Rattle.wgsl_model.specs.Grammar.TokenValues.{text_of, literal_of}
use Rattle.wgsl_model.specs.Faults.Kinds.{reserved_word}
use Rattle.wgsl_model.specs.Trees.WithoutSpans.{no_span, bare_expression, bare_expression_node, bare_expressions, bare_template}
use Rattle.wgsl_model.specs.Grammar.ExpressionParts.{placed_expression, variable, operation_of, with_component, negation_of, negated_product_of, unary_of, binary_of, index_of, component_of, multiplicative_operator, additive_operator, two_or_more, summand}
use Rattle.wgsl_model.specs.Grammar.StatementParts.{open_left_side, parenthesized_left_side}
use Rattle.wgsl_model.specs.Grammar.Symbols.{Dialect.parsed, ident, template_list, arguments, literal, component, unary_expression, multiplicative_expression, negated_expression, expression, lhs_expression, Value, Rule}
use Rattle.wgsl_model.specs.Grammar.Written.{written, keyword_classes}
use Rattle.wgsl_theory_reread.specs.CanonicalExpressions.{Writer, optional_tokens, further_tokens, list_tokens, unary_operator_class, binary_operator_class, literal_token, expression_tokens, expression_node_tokens, template_tokens, expressions_tokens, further_expressions_tokens}
use Rattle.wgsl_theory_reread.specs.CanonicalUnits.{without_place}
use Rattle.wgsl_theory_reread.proofs.Words.{NoPeriod, AllWords}
use Rattle.wgsl_theory_reread.proofs.Again.{D, Again, write, Same, Finds, FindsComponent, template_list_tokens}
use Rattle.wgsl_theory_reread.proofs.Ways.{Outcome, Reads, found_as, found_in, first_of, class_of, words_after, equal_reads, then_reads, or_reads, makes_reads, before_reads, after_reads, means_reads, optional_reads, chain_reads}
use Rattle.wgsl_theory_reread.proofs.Rules.{rolled, symbol_reads}

-- ---- names
-- a class that is one of two is one of more
pub one_of_more : (a b c : Bool) → cond a true (cond b true false) ≡ true → cond a true (cond b true c) ≡ true
one_of_more true b c h = refl
one_of_more false true c h = refl
one_of_more false false c h = cc

-- whether there is a fault does not depend on which
no_fault : (b : Bool) (x y : Fault) → cond b (Some x) None ≡ None → cond b (Some y) None ≡ None
no_fault true x y h = cc
no_fault false x y h = refl

pub ident_rule : (v : Token) (xs ys : List Token) → Means checking Again (written ident) v xs ys → Again ident v xs ys
ident_rule v xs ys d words =
    let known : AllWords (v ∷ ys) = subst AllWords d.1.1 words in
    let word : (without_place v ≡ kind_of_word (text_of v)) × NoPeriod (text_of v) = known.0 (one_of_more
    (eqb v.class Ident) (eqb v.class ReservedWord) (is_among v.class keyword_classes) d.1.0) in (
      known.1,
      word.1,
      λ us ks e.
          let first = first_of (kind_of_word (text_of v)) ks us e in
          let same : without_place first.token ≡ without_place v = first.kind ∙ sym word.0 in
          let class : first.token.class ≡ v.class = ap (λ (k : Kind). k.class) same in
          rolled {n = ident} (record {
            value = first.token;
            rest = first.rest;
            kinds = first.kinds;
            like = ap (λ (k : Kind). text_of (placed k 0 0)) same;
            derived = (
              subst (λ (c : ℕ). cond (eqb c ReservedWord) (Some (reserved_word (text_of first.token)
                  (span_between us first.rest))) None ≡ None) (sym class)
                  (no_fault (eqb v.class ReservedWord) (reserved_word (text_of v) (span_between xs ys))
                  (reserved_word (text_of first.token) (span_between us first.rest)) d.0),
              (
                subst (λ (c : ℕ). is_among c (Ident ∷ ReservedWord ∷ []) ≡ true) (sym class) d.1.0,
                first.whole,
              ),
            );
          }),
    )

-- ---- lists in trees
further_written : (es : List ExpressionNode) (rest : List Kind)
    → further_expressions_tokens (expressions_of es) rest ≡ further_tokens expression_node_tokens es rest
further_written [] rest = refl
further_written (e ∷ es) rest = ap (λ z. plain SymComma ∷ expression_node_tokens e z) (further_written es rest)

-- expressions are written as their list
pub expressions_written : (es : List ExpressionNode) (rest : List Kind)
    → expressions_tokens (expressions_of es) rest ≡ list_tokens expression_node_tokens es rest
expressions_written [] rest = refl
expressions_written (e ∷ es) rest = ap (expression_node_tokens e) (further_written es rest)

-- a template is written as its list
pub template_written : (o : Option (List ExpressionNode)) (rest : List Kind)
    → template_tokens (template_of o) rest ≡ optional_tokens template_list_tokens o rest
template_written None rest = refl
template_written (Some es) rest = ap (λ z. plain TemplateArgsStart ∷ z)
    (expressions_written es (plain TemplateArgsEnd ∷ rest))

-- spans are set aside in each of them
pub expressions_bare : (es : List ExpressionNode)
    → bare_expressions (expressions_of es) ≡ expressions_of (map bare_expression_node es)
expressions_bare [] = refl
expressions_bare (e ∷ es) = ap (expression_before (bare_expression_node e)) (expressions_bare es)

pub template_bare : (o : Option (List ExpressionNode))
    → bare_template (template_of o) ≡ template_of (option_map (map bare_expression_node) o)
template_bare None = refl
template_bare (Some es) = ap TemplateArguments.template (expressions_bare es)

-- ---- types and calls
pub template_reads : Reads (optional (symbol template_list)) (λ v rest. template_tokens (template_of v) rest)
    (λ w v. bare_template (template_of w) ≡ bare_template (template_of v))
template_reads = equal_reads (optional_reads {bare = map bare_expression_node}
    {kept = map bare_expression_node} (symbol_reads template_list))
    template_written (λ w v h. template_bare w ∙ ap template_of h ∙ sym (template_bare v))

pub arguments_read : Reads (symbol arguments)
    (λ v rest. plain SymParenLeft ∷ expressions_tokens (expressions_of v) (plain SymParenRight ∷ rest))
    (λ w v. bare_expressions (expressions_of w) ≡ bare_expressions (expressions_of v))
arguments_read = equal_reads (symbol_reads arguments)
    (λ v rest. ap (λ z. plain SymParenLeft ∷ z) (expressions_written v (plain SymParenRight ∷ rest)))
    (λ w v h. expressions_bare w ∙ ap expressions_of h ∙ sym (expressions_bare v))

-- ---- literals
abbrev pub literal_classes : List ℕ
literal_classes = KwTrue ∷ KwFalse ∷ AbstractInt ∷ I32 ∷ U32 ∷ AbstractFloat ∷ F32 ∷ F16 ∷ []

-- the token that is written from a literal is that literal
literal_is : (l : LiteralExpression) → (is_among (literal_token l).class literal_classes ≡ true)
    × (literal_of (placed (literal_token l) 0 0) ≡ l)
literal_is (boolean true) = (refl, refl)
literal_is (boolean false) = (refl, refl)
literal_is l = (refl, refl)

literal_again : (l : LiteralExpression) (t : Token) → without_place t ≡ literal_token l
    → (is_among t.class literal_classes ≡ true) × (literal_of t ≡ l)
literal_again l t e =
    subst (λ (k : Kind). (is_among k.class literal_classes ≡ true) × (literal_of (placed k 0 0) ≡ l))
    (sym e) (literal_is l)

pub literal_reads : Reads (written literal) (write literal) (Same literal)
literal_reads = record {
  again = λ v xs ys d words. (
    words_after d.0 xs ys d.2.1 words,
    λ us ks e.
        let first = first_of (literal_token v) ks us e in
        let known = literal_again v first.token first.kind in
        record {
          value = literal_of first.token;
          rest = first.rest;
          kinds = first.kinds;
          like = known.1;
          derived = (first.token, refl, (known.0, first.whole));
        },
  );
}

-- ---- an expression of one part, with its components
-- two expressions that differ by spans alone
abbrev pub same_node : ExpressionNode → ExpressionNode → Type 0
same_node w v = bare_expression_node w ≡ bare_expression_node v

abbrev pub same_expression : Expression → Expression → Type 0
same_expression w v = bare_expression w ≡ bare_expression v

-- an expression and where it is
pub node_reads : {g : Rule Expression} → Reads g expression_tokens same_expression
    → Reads (g makes placed_expression) expression_node_tokens same_node
node_reads G = makes_reads G (λ a span rest. refl) (λ w a s r h. λ i. expression_node (h i) no_span)

-- an index, and a name
index_reads : Reads (SymBracketLeft ▹ symbol expression ◃ SymBracketRight)
    (λ e rest. plain SymBracketLeft ∷ expression_node_tokens e (plain SymBracketRight ∷ rest)) same_node
index_reads = before_reads SymBracketLeft refl (after_reads SymBracketRight refl (symbol_reads expression))

name_reads : Reads (SymPeriod ▹ symbol ident)
    (λ t rest. plain SymPeriod ∷ (kind_of_word (text_of t) ∷ rest)) (Same ident)
name_reads = before_reads SymPeriod refl (symbol_reads ident)

pub component_rule : (v : Value component) (xs ys : List Token)
    → Means checking Again (written component) v xs ys → Again component v xs ys
component_rule v xs ys (inl d) words =
    let found = index_reads.again d.0 xs ys d.2 words in
    subst (λ (z : Value component). AllWords ys × Unit {0} × FindsComponent z) d.1 (
      found.0,
      tt,
      λ ks. (
        plain SymBracketLeft ∷ expression_node_tokens d.0 (plain SymBracketRight ∷ ks),
        λ base. refl,
        λ us e. rolled {n = component} (found_as (λ a rest. index_of a) (λ a rest i. inl (a, refl, i))
            (λ a rest k x y h. λ i. Expression.indexing (h i) (k i)) (found.1 us ks e)),
      ),
    )
component_rule v xs ys (inr d) words =
    let found = name_reads.again d.0 xs ys d.2 words in
    subst (λ (z : Value component). AllWords ys × Unit {0} × FindsComponent z) d.1 (
      found.0,
      tt,
      λ ks. (
        plain SymPeriod ∷ (kind_of_word (text_of d.0) ∷ ks),
        λ base. refl,
        λ us e. rolled {n = component} (found_as (λ a rest. component_of a) (λ a rest i. inr (a, refl, i))
            (λ a rest k x y h. λ i. Expression.named_component (h i) (k i)) (found.1 us ks e)),
      ),
    )

-- components after an expression
pub components_reads : {g : Rule ExpressionNode} → Reads g expression_node_tokens same_node
    → Reads (left_chain with_component g (symbol component)) expression_node_tokens same_node
components_reads {g} G = record { again = λ v xs ys d words. go xs v ys d words } where
  go : (xs : List Token) (v : ExpressionNode) (ys : List Token)
      → Chain with_component (Means checking Again g) (Again component) xs v ys → AllWords xs
      → Outcome (left_chain with_component g (symbol component)) expression_node_tokens same_node v ys
  go xs _ _ (base a ys d) words =
      let found = G.again a xs ys d words in
      (found.0, λ us ks e. found_in (λ x rest i. base x rest i) (found.1 us ks e))
  go xs _ _ (more a b ys zs c d) words =
      let before = go xs a ys c words in
      let last = d before.0 in (
        last.0,
        λ us ks e.
            let following = last.2 ks in
            let x = before.1 us following.0 (e ∙ following.1 a) in
            let y = following.2 x.rest x.kinds in
            record {
              value = with_component x.value y.value (span_between us y.rest);
              rest = y.rest;
              kinds = y.kinds;
              like = λ i. expression_node (y.like x.value a x.like i) no_span;
              derived = more x.value y.value x.rest y.rest x.derived y.derived;
            },
      )

-- ---- an operator before an operand
abbrev pub unary_operator_tokens : Writer UnaryOperator
unary_operator_tokens o rest = plain (unary_operator_class o) ∷ rest

abbrev pub same_unary_operator : UnaryOperator → UnaryOperator → Type 0
same_unary_operator w v = w ≡ v

unary_sign_reads : (o : UnaryOperator)
    → is_among (unary_operator_class o) (unary_operator_class o ∷ []) ≡ true
    → Reads (unary_operator_class o means o) unary_operator_tokens same_unary_operator
unary_sign_reads o known = means_reads (unary_operator_class o) known (λ rest. refl) refl

-- an operation on an operand
pub operation_reads : {g : Rule UnaryOperator} {h : Rule ExpressionNode}
    → Reads g unary_operator_tokens same_unary_operator → Reads h expression_node_tokens same_node
    → Reads (g then h makes unary_of) expression_node_tokens same_node
operation_reads G H = makes_reads (then_reads G H) (λ a span rest. refl)
    (λ w a s r h. λ i. expression_node (Expression.unary (h.0 i) (h.1 i)) no_span)

-- ---- an operator between operands
abbrev pub operator_tokens : Writer BinaryOperator
operator_tokens o rest = plain (binary_operator_class o) ∷ rest

abbrev pub same_operator : BinaryOperator → BinaryOperator → Type 0
same_operator w v = w ≡ v

sign_reads : (o : BinaryOperator) → is_among (binary_operator_class o) (binary_operator_class o ∷ []) ≡ true
    → Reads (binary_operator_class o means o) operator_tokens same_operator
sign_reads o known = means_reads (binary_operator_class o) known (λ rest. refl) refl

multiplicative_operator_reads : Reads multiplicative_operator operator_tokens same_operator
multiplicative_operator_reads = or_reads (sign_reads multiplication refl)
    (or_reads (sign_reads division refl) (sign_reads remainder refl))

-- an operator and an operand after an operand
abbrev pub Operand : Type 0
Operand = BinaryOperator × ExpressionNode

abbrev pub operand_tokens : Writer Operand
operand_tokens p rest = plain (binary_operator_class p.0) ∷ expression_node_tokens p.1 rest

abbrev pub same_operand : Operand → Operand → Type 0
same_operand w v = same_operator w.0 v.0 × same_node w.1 v.1

pub operand_reads : {g : Rule BinaryOperator} {h : Rule ExpressionNode}
    → Reads g operator_tokens same_operator → Reads h expression_node_tokens same_node
    → Reads (g then h) operand_tokens same_operand
operand_reads G H = then_reads G H

-- a left chain of operations
pub operations_reads : {g : Rule ExpressionNode} {h : Rule Operand}
    → Reads g expression_node_tokens same_node → Reads h operand_tokens same_operand
    → Reads (left_chain binary_of g h) expression_node_tokens same_node
operations_reads G H = chain_reads G H (λ a b span rest. refl)
    (λ w v x y s r h k. λ i. expression_node (Expression.binary (k.0 i) (h i) (k.1 i)) no_span)

-- one operation
pub one_operation_reads : {x y : Rule ExpressionNode} {g : Rule BinaryOperator}
    → Reads x expression_node_tokens same_node → Reads g operator_tokens same_operator
    → Reads y expression_node_tokens same_node
    → Reads (x then g then y makes operation_of) expression_node_tokens same_node
one_operation_reads X G Y = makes_reads (then_reads X (operand_reads G Y)) (λ a span rest. refl)
    (λ w a s r h. λ i. expression_node (Expression.binary (h.1.0 i) (h.0 i) (h.1.1 i)) no_span)

-- ---- a product that the second minus of `--` begins
-- what is written from it is read again as a product
abbrev Negated : ExpressionNode → List Token → Type 0
Negated v ys = AllWords ys × Finds (Means checking D (written multiplicative_expression))
    (λ w. same_node w v) (expression_node_tokens v)

negation_again : (operand : ExpressionNode) (span : Span) (xs ys : List Token)
    → Means checking Again (SymMinusMinus ▹ symbol unary_expression) operand xs ys → AllWords xs
    → Negated (negation_of operand span) ys
negation_again operand span xs ys d words =
    let found = d.2.2 (words_after d.0.0 xs d.2.0 d.2.1.1 words) in
    subst (λ (z : ExpressionNode). Negated (negation_of z span) ys) d.1 (
      found.0,
      λ us ks e.
          let first = first_of (plain SymMinus) (expression_node_tokens d.0.1 ks) us e in
          let x = found.2 first.rest ks first.kinds in
          let value = unary_of (negation, x.value) (span_between us x.rest) in
          record {
            value = value;
            rest = x.rest;
            kinds = x.kinds;
            like = λ i. expression_node (Expression.unary negation (x.like i)) no_span;
            derived = base value x.rest
                (roll checking written unary_expression value us x.rest (inr (
                  (negation, x.value),
                  refl,
                  (
                    first.rest,
                    inl (
                      first.token,
                      refl,
                      (class_of (plain SymMinus) first.token (SymMinus ∷ []) first.kind refl, first.whole),
                    ),
                    x.derived,
                  ),
                )));
          },
    )

negated_again : (xs : List Token) (v : ExpressionNode) (ys : List Token)
    → Chain negated_product_of (Means checking Again (SymMinusMinus ▹ symbol unary_expression makes negation_of))
    (Means checking Again (multiplicative_operator then symbol unary_expression)) xs v ys
    → AllWords xs → Negated v ys
negated_again xs _ _ (base a ys d) words = subst (λ (z : ExpressionNode). Negated z ys) d.1
    (negation_again d.0 (span_between xs ys) xs ys d.2 words)
negated_again xs _ _ (more a b ys zs c d) words =
    let before = negated_again xs a ys c words in
    let last = (operand_reads multiplicative_operator_reads (symbol_reads unary_expression)).again b
    ys zs d before.0 in (
      last.0,
      λ us ks e.
          let x = before.1 us (operand_tokens b ks) e in
          let y = last.1 x.rest ks x.kinds in
          record {
            value = binary_of x.value y.value (span_between us y.rest);
            rest = y.rest;
            kinds = y.kinds;
            like = λ i. expression_node (Expression.binary (y.like.0 i) (x.like i) (y.like.1 i)) no_span;
            derived = more x.value y.value x.rest y.rest x.derived y.derived;
          },
    )

pub negated_expression_rule : (v : Value negated_expression) (xs ys : List Token)
    → Means checking Again (written negated_expression) v xs ys → Again negated_expression v xs ys
negated_expression_rule v xs ys d words =
    let found = negated_again xs v ys d words in
    (found.0, tt, λ us ks e. rolled {n = multiplicative_expression} (found.1 us ks e))

-- an operand of a sum, where a negated product is after a minus
abbrev addend : Rule Operand
addend = additive_operator then symbol multiplicative_expression
    or symbol negated_expression gives λ e. (subtraction, e)

pub addend_reads : Reads (summand parsed) operand_tokens same_operand
addend_reads = record { again = go } where
  go : (v : Operand) (xs ys : List Token) → Means checking Again addend v xs ys → AllWords xs
      → Outcome addend operand_tokens same_operand v ys
  go v xs ys (inl d) words =
      let found = (operand_reads (or_reads (sign_reads addition refl) (sign_reads subtraction refl))
      (symbol_reads multiplicative_expression)).again v xs ys d words in
      (found.0, λ us ks e. found_in (λ x rest i. inl i) (found.1 us ks e))
  go v xs ys (inr d) words =
      let found = d.2 words in
      subst (λ (z : Operand). Outcome addend operand_tokens same_operand z ys) d.1 (
        found.0,
        λ us ks e.
            let first = first_of (plain SymMinus) (expression_node_tokens d.0 ks) us e in
            let x = found.2 first.rest ks first.kinds in
            record {
              value = (subtraction, x.value);
              rest = x.rest;
              kinds = x.kinds;
              like = (refl, x.like);
              derived = inl (
                first.rest,
                inr (
                  first.token,
                  refl,
                  (class_of (plain SymMinus) first.token (SymMinus ∷ []) first.kind refl, first.whole),
                ),
                x.derived,
              );
            },
      )

-- two operands or more, with one operator between
pub two_or_more_reads : {x : Rule ExpressionNode} (c : ℕ) (o : BinaryOperator)
    → is_among c (c ∷ []) ≡ true → binary_operator_class o ≡ c → Reads x expression_node_tokens same_node
    → Reads (two_or_more c o x) expression_node_tokens same_node
two_or_more_reads c o known q X = operations_reads (one_operation_reads X sign X) (operand_reads sign X) where
  sign : Reads (c means o) operator_tokens same_operator
  sign = means_reads c known (λ rest. ap (λ (z : ℕ). plain z ∷ rest) q) refl

-- ---- left sides
pub open_left_side_reads : Reads open_left_side expression_node_tokens same_node
open_left_side_reads = or_reads (components_reads (makes_reads (symbol_reads ident)
    (λ a span rest. refl) (λ w a s r h. λ i. expression_node (variable (h i)) no_span)))
    (or_reads (operation_reads (unary_sign_reads indirection refl) (symbol_reads lhs_expression))
    (operation_reads (unary_sign_reads address_of refl) (symbol_reads lhs_expression)))

pub parenthesized_left_side_reads : Reads parenthesized_left_side expression_node_tokens same_node
parenthesized_left_side_reads =
    components_reads (makes_reads (before_reads SymParenLeft refl
    (after_reads SymParenRight refl (symbol_reads lhs_expression))) (λ a span rest. refl)
    (λ w a s r h. λ i. expression_node (Expression.parenthesized (h i)) no_span))
