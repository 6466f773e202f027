-- What is written from parts of expressions, and from rules that RuleTerms leaves out.
use Rattle.std.proofs.Common.{◌≡◌, ℕ, Bool, true, false, cond, eqb, List, ◌∷◌, refl, sym, ap, subst, inl, inr, eqb-true}
use Rattle.grammar.specs.Tokens.{Token}
use Rattle.grammar.specs.Grammar.{Grammar.symbol, Grammar.left_chain, Mode.checking, Chain, Chain.base, Chain.more, Means, is_among}
use Rattle.grammar.specs.Notation.{◌then◌, ◌makes◌, ◌▹◌, ◌◃◌, ◌means◌, optional}
use Rattle.wgsl_model.specs.Tokens.ClassTable.{SymBracketLeft, SymBracketRight, SymMinus, SymMinusMinus, SymParenLeft, SymParenRight, SymPeriod, SymAnd, SymForwardSlash, SymModulo, SymStar, KwTrue, KwFalse, Ident, ReservedWord, AbstractInt, I32, U32, AbstractFloat, F32, F16}
use Rattle.wgsl_model.specs.Tokens.Kind.{Kind, plain}
use Rattle.wgsl_model.specs.Tokens.Raw.{kind_of_word}
use Rattle.wgsl_model.specs.Trees.Operators.{UnaryOperator, BinaryOperator}
use Rattle.wgsl_model.specs.Trees.Expressions.{LiteralExpression, ExpressionNode, Expression, expressions_of, template_of}
use Rattle.wgsl_model.specs.Grammar.TokenValues.{text_of, literal_of}
use Rattle.wgsl_model.specs.Grammar.ExpressionParts.{placed_expression, operation_of, with_component, negation_of, unary_of, binary_of, multiplicative_operator, two_or_more}
use Rattle.wgsl_model.specs.Grammar.StatementParts.{open_left_side, parenthesized_left_side}
use Rattle.wgsl_model.specs.Grammar.Symbols.{ident, template_list, arguments, literal, component, unary_expression, negated_expression, expression, lhs_expression, Value, Rule}
use Rattle.wgsl_model.specs.Grammar.Written.{written, keyword_classes}
use Rattle.wgsl_theory_grammar.proofs.Faults.PlainFaults.{one_class}
use Rattle.wgsl_theory_reread.specs.CanonicalExpressions.{binary_operator_class, literal_token, expression_tokens, expression_node_tokens, template_tokens, expressions_tokens}
use Rattle.wgsl_theory_reread.specs.CanonicalUnits.{without_place}
use Rattle.wgsl_theory_reread.proofs.Words.{AllWords}
use Rattle.wgsl_theory_reread.proofs.Again.{write}
use Rattle.wgsl_theory_reread.proofs.Ways.{words_after}
use Rattle.wgsl_theory_templates.proofs.Reaching.Moves.{kinds}
use Rattle.wgsl_theory_reread.proofs.EachRule.ExpressionRules.{expressions_written, template_written, Operand, one_of_more, literal_classes, unary_operator_tokens, operator_tokens, operand_tokens}
use Rattle.wgsl_theory_templates.proofs.Changes.Edits.{is_stop, Edits, kept, two_minuses, widen}
use Rattle.wgsl_theory_templates.proofs.Changes.EditWays.{edit_write, Edited, TurnsComponent, Changed, Changes, then_edits, or_edits, makes_edits, before_edits, after_edits, means_edits, optional_edits, chain_edits, equal_edits}
use Rattle.wgsl_theory_templates.proofs.Changes.EditSymbols.{symbol_edits}

-- ---- names
-- a token in place of one of the same class, whatever that is
token_kept : {b : Bool} (t : Token) (j : Kind) (xs ys : List Token) (ks : List Kind)
    → t.class ≡ j.class → xs ≡ t ∷ ys → Edits false (kinds ys) ks → Edits b (kinds xs) (j ∷ ks)
token_kept {b} t j xs ys ks q w h = subst (λ (z : List Token). Edits b (kinds z) (j ∷ ks)) (sym w)
    (kept b (without_place t) j (kinds ys) ks q (widen {e = false} {b = is_stop t.class} tt h))

-- a name is the token that its word is
pub word_kept : {b : Bool} (t : Token) (xs ys : List Token)
    → is_among t.class (Ident ∷ ReservedWord ∷ keyword_classes) ≡ true → xs ≡ t ∷ ys → AllWords xs
    → Changed false b (λ (t : Token) rest. kind_of_word (text_of t) ∷ rest) t xs ys
word_kept t xs ys m w words =
    let known : AllWords (t ∷ ys) = subst AllWords w words in
    (known.1, λ ks r. token_kept t (kind_of_word (text_of t)) xs ys ks (ap (λ (k : Kind). k.class) (known.0 m).0) w r)

pub ident_right : {b : Bool} → Changes false b (written ident) (write ident)
ident_right = record {
  edit = λ v xs ys d words. word_kept v xs ys (one_of_more (eqb v.class Ident)
      (eqb v.class ReservedWord) (is_among v.class keyword_classes) d.1.0) d.1.1 words;
}

-- ---- types and calls
pub template_edits : {b : Bool}
    → Changes false b (optional (symbol template_list)) (λ v rest. template_tokens (template_of v) rest)
template_edits = equal_edits (optional_edits {e = false} tt (symbol_edits template_list tt)) template_written

pub arguments_edits : {b : Bool}
    → Changes false b (symbol arguments)
    (λ v rest. plain SymParenLeft ∷ expressions_tokens (expressions_of v) (plain SymParenRight ∷ rest))
arguments_edits = equal_edits (symbol_edits arguments tt)
    (λ v rest. ap (λ z. plain SymParenLeft ∷ z) (expressions_written v (plain SymParenRight ∷ rest)))

-- ---- literals

-- a literal has the class of its token
literal_class : (t : Token) → is_among t.class literal_classes ≡ true → t.class ≡ (literal_token (literal_of t)).class
literal_class t m = go (eqb t.class KwTrue) (eqb t.class KwFalse) (eqb t.class AbstractInt)
    (eqb t.class I32) (eqb t.class U32) (eqb t.class AbstractFloat) (eqb t.class F32) (eqb t.class F16) m
    (λ h. eqb-true t.class KwTrue h) (λ h. eqb-true t.class KwFalse h)
    (λ h. eqb-true t.class AbstractInt h) (λ h. eqb-true t.class I32 h) (λ h. eqb-true t.class U32 h)
    (λ h. eqb-true t.class AbstractFloat h) (λ h. eqb-true t.class F32 h) (λ h. eqb-true t.class F16 h)
    refl refl refl refl refl refl refl
  where
    go : (a b c d e f g h : Bool) → cond a true (cond b true (cond c true
        (cond d true (cond e true (cond f true (cond g true (cond h true false))))))) ≡ true
        → (a ≡ true → t.class ≡ KwTrue) → (b ≡ true → t.class ≡ KwFalse)
        → (c ≡ true → t.class ≡ AbstractInt) → (d ≡ true → t.class ≡ I32) → (e ≡ true → t.class ≡ U32)
        → (f ≡ true → t.class ≡ AbstractFloat) → (g ≡ true → t.class ≡ F32) → (h ≡ true → t.class ≡ F16)
        → eqb t.class KwTrue ≡ a → eqb t.class KwFalse ≡ b → eqb t.class AbstractInt ≡ c
        → eqb t.class I32 ≡ d → eqb t.class U32 ≡ e → eqb t.class AbstractFloat ≡ f → eqb t.class F32 ≡ g
        → t.class ≡ (literal_token (literal_of t)).class
    go true b c d e f g h m A B C D E F G H p1 p2 p3 p4 p5 p6 p7 = rw p1 (A refl)
    go false true c d e f g h m A B C D E F G H p1 p2 p3 p4 p5 p6 p7 = rw (p1, p2) (B refl)
    go false false true d e f g h m A B C D E F G H p1 p2 p3 p4 p5 p6 p7 = rw (p1, p2, p3) (C refl)
    go false false false true e f g h m A B C D E F G H p1 p2 p3 p4 p5 p6 p7 = rw (p1, p2, p3, p4) (D refl)
    go false false false false true f g h m A B C D E F G H p1 p2 p3 p4 p5 p6 p7 = rw (p1, p2, p3, p4, p5) (E refl)
    go false false false false false true g h m A B C D E F G H p1 p2 p3 p4 p5 p6 p7 =
        rw (p1, p2, p3, p4, p5, p6) (F refl)
    go false false false false false false true h m A B C D E F G H p1 p2 p3 p4 p5 p6 p7 =
        rw (p1, p2, p3, p4, p5, p6, p7) (G refl)
    go false false false false false false false true m A B C D E F G H p1 p2 p3 p4 p5 p6 p7 =
        rw (p1, p2, p3, p4, p5, p6, p7) (H refl)
    go false false false false false false false false m A B C D E F G H p1 p2 p3 p4 p5 p6 p7 = absurd cc

pub literal_right : {b : Bool} → Changes false b (written literal) (write literal)
literal_right {b} = record {
  edit = λ v xs ys d words.
      subst (λ (z : LiteralExpression). Changed false b (write literal) z xs ys) d.1 (
        words_after d.0 xs ys d.2.1 words,
        λ ks r. token_kept d.0 (literal_token (literal_of d.0)) xs ys ks (literal_class d.0 d.2.0) d.2.1 r,
      );
}

-- ---- an expression of one part, with its components
pub node_edits : {e b : Bool} {g : Rule Expression} → Changes e b g expression_tokens
    → Changes e b (g makes placed_expression) expression_node_tokens
node_edits G = makes_edits G (λ a span rest. refl)

index_edits : {b : Bool} → Changes false b (SymBracketLeft ▹ symbol expression ◃ SymBracketRight)
    (λ e rest. plain SymBracketLeft ∷ expression_node_tokens e (plain SymBracketRight ∷ rest))
index_edits = before_edits SymBracketLeft (after_edits {m = false} SymBracketRight (symbol_edits expression tt))

name_edits : {b : Bool} → Changes false b (SymPeriod ▹ symbol ident)
    (λ t rest. plain SymPeriod ∷ (kind_of_word (text_of t) ∷ rest))
name_edits = before_edits SymPeriod (symbol_edits ident tt)

pub component_right : (v : Value component) (xs ys : List Token)
    → Means checking Edited (written component) v xs ys → AllWords xs → AllWords ys × TurnsComponent v xs ys
component_right v xs ys (inl d) words =
    let found = (index_edits {b = false}).edit d.0 xs ys d.2 words in
    subst (λ (z : Value component). AllWords ys × TurnsComponent z xs ys) d.1 (
      found.0,
      λ ks r.
          (plain SymBracketLeft ∷ expression_node_tokens d.0 (plain SymBracketRight ∷ ks), λ base. refl, found.1 ks r),
    )
component_right v xs ys (inr d) words =
    let found = (name_edits {b = false}).edit d.0 xs ys d.2 words in
    subst (λ (z : Value component). AllWords ys × TurnsComponent z xs ys) d.1
    (found.0, λ ks r. (plain SymPeriod ∷ (kind_of_word (text_of d.0) ∷ ks), λ base. refl, found.1 ks r))

-- components after an expression
pub components_edits : {b : Bool} {g : Rule ExpressionNode} → Changes false b g expression_node_tokens
    → Changes false b (left_chain with_component g (symbol component)) expression_node_tokens
components_edits {b} {g} G = record { edit = λ v xs ys d words. go xs v ys d words } where
  go : (xs : List Token) (v : ExpressionNode) (ys : List Token)
      → Chain with_component (Means checking Edited g) (Edited component) xs v ys → AllWords xs
      → Changed false b expression_node_tokens v xs ys
  go xs _ _ (base a ys d) words = G.edit a xs ys d words
  go xs _ _ (more a x ys zs c d) words =
      let before = go xs a ys c words in
      let last = d before.0 in (
        last.0,
        λ ks r.
            let following = last.3 ks r in
            subst (λ (z : List Kind). Edits b (kinds xs) z) (sym (following.1 a)) (before.1 following.0 following.2),
      )

-- ---- an operator before an operand

pub operation_edits : {b : Bool} {g : Rule UnaryOperator} {h : Rule ExpressionNode}
    → Changes false b g unary_operator_tokens → Changes false false h expression_node_tokens
    → Changes false b (g then h makes unary_of) expression_node_tokens
operation_edits G H = makes_edits (then_edits G H) (λ a span rest. refl)

-- ---- an operator between operands

multiplicative_operator_edits : {b : Bool} → Changes false b multiplicative_operator operator_tokens
multiplicative_operator_edits = or_edits (means_edits SymStar (λ rest. refl))
    (or_edits (means_edits SymForwardSlash (λ rest. refl)) (means_edits SymModulo (λ rest. refl)))

pub operand_edits : {b : Bool} {g : Rule BinaryOperator} {h : Rule ExpressionNode}
    → Changes false b g operator_tokens → Changes false false h expression_node_tokens
    → Changes false b (g then h) operand_tokens
operand_edits G H = then_edits G H

pub operations_edits : {b : Bool} {g : Rule ExpressionNode} {h : Rule Operand}
    → Changes false b g expression_node_tokens → Changes false false h operand_tokens
    → Changes false b (left_chain binary_of g h) expression_node_tokens
operations_edits G H = chain_edits G H (λ a x span rest. refl)

pub one_operation_edits : {b : Bool} {x y : Rule ExpressionNode} {g : Rule BinaryOperator}
    → Changes false b x expression_node_tokens → Changes false false g operator_tokens
    → Changes false false y expression_node_tokens
    → Changes false b (x then g then y makes operation_of) expression_node_tokens
one_operation_edits X G Y = makes_edits (then_edits X (operand_edits G Y)) (λ a span rest. refl)

-- ---- a product that the second minus of `--` begins, with the first minus before it
negation_edits : {b : Bool} → Changes false b
    (SymMinusMinus ▹ symbol unary_expression makes negation_of) (edit_write negated_expression)
negation_edits {b} = makes_edits
    {writes = λ e rest. plain SymMinus ∷ (plain SymMinus ∷ expression_node_tokens e rest)} (record {
      edit = λ v xs ys d words.
          subst (λ (z : ExpressionNode). Changed false b
          (λ e rest. plain SymMinus ∷ (plain SymMinus ∷ expression_node_tokens e rest)) z xs ys) d.1 (
          let t = d.0.0 in
          let found = (symbol_edits unary_expression tt {b = false}).edit d.0.1 d.2.0 ys d.2.2
          (words_after t xs d.2.0 d.2.1.1 words) in (
            found.0,
            λ ks r. subst (λ (z : List Token). Edits b (kinds z)
                (plain SymMinus ∷ (plain SymMinus ∷ expression_node_tokens d.0.1 ks))) (sym d.2.1.1)
                (two_minuses b (without_place t) (kinds d.2.0) (expression_node_tokens d.0.1 ks)
                (one_class t.class SymMinusMinus d.2.1.0) (found.1 ks r)),
          )
          );
    }) (λ a span rest. refl)

pub negated_expression_right : {b : Bool} → Changes false b (written negated_expression) (edit_write negated_expression)
negated_expression_right = chain_edits negation_edits
    (operand_edits multiplicative_operator_edits (symbol_edits unary_expression tt)) (λ a x span rest. refl)

-- ---- sums, shifts and comparisons
pub two_or_more_edits : {b : Bool} (c : ℕ) (o : BinaryOperator) {x : Rule ExpressionNode}
    → is_stop c ≡ false → c ≡ binary_operator_class o → Changes false b x expression_node_tokens
    → Changes false false x expression_node_tokens
    → Changes false b (two_or_more c o x) expression_node_tokens
two_or_more_edits c o known q X Y = operations_edits (one_operation_edits X sign Y) (operand_edits sign Y) where
  sign : Changes false false (c means o) operator_tokens
  sign = subst (λ (e : Bool). Changes e false (c means o) operator_tokens) known
      (means_edits c (λ rest. ap (λ (z : ℕ). plain z ∷ rest) (sym q)))

-- ---- left sides
pub open_left_side_edits : {b : Bool} → Changes false b open_left_side expression_node_tokens
open_left_side_edits =
    or_edits (components_edits (makes_edits (symbol_edits ident tt) (λ a span rest. refl)))
    (or_edits (operation_edits (means_edits SymStar (λ rest. refl)) (symbol_edits lhs_expression tt))
    (operation_edits (means_edits SymAnd (λ rest. refl)) (symbol_edits lhs_expression tt)))

pub parenthesized_left_side_edits : {b : Bool} → Changes false b parenthesized_left_side expression_node_tokens
parenthesized_left_side_edits = components_edits (makes_edits (before_edits SymParenLeft
    (after_edits {m = false} SymParenRight (symbol_edits lhs_expression tt))) (λ a span rest. refl))
