-- Parts of expressions, and rules that RuleTerms leaves out, derive the same wherever the tokens
-- are.
use Rattle.std.proofs.Common.{◌≡◌, ℕ, Bool, true, false, cond, eqb, map, Some, None, refl, sym, ap, ◌∙◌}
use Rattle.grammar.specs.Tokens.{Token, Span, Fault}
use Rattle.grammar.specs.Grammar.{Grammar.symbol, Grammar.left_chain}
use Rattle.grammar.specs.Notation.{◌then◌, ◌makes◌, optional}
use Rattle.wgsl_model.specs.Tokens.ClassTable.{SymAnd, SymBracketLeft, SymBracketRight, SymParenLeft, SymParenRight, SymPeriod, SymStar, ReservedWord}
use Rattle.wgsl_model.specs.Tokens.Kind.{Kind, placed}
use Rattle.wgsl_model.specs.Trees.Operators.{UnaryOperator, BinaryOperator}
use Rattle.wgsl_model.specs.Trees.Expressions.{ExpressionNode, expression_node, Expression, expressions_of, template_of}
use Rattle.wgsl_model.specs.Grammar.TokenValues.{text_of, literal_of}
use Rattle.wgsl_model.specs.Trees.WithoutSpans.{no_span, bare_expression_node, bare_template, bare_expressions}
use Rattle.wgsl_model.specs.Grammar.ExpressionParts.{placed_expression, variable, with_component, binary_of, unary_of, operation_of, two, two_or_more}
use Rattle.wgsl_model.specs.Grammar.StatementParts.{open_left_side, parenthesized_left_side}
use Rattle.wgsl_model.specs.Grammar.Symbols.{ident, template_list, arguments, literal, component, expression, lhs_expression, Rule}
use Rattle.wgsl_model.specs.Grammar.Written.{written}
use Rattle.wgsl_theory_reread.specs.CanonicalUnits.{without_place}
use Rattle.wgsl_theory_reread.proofs.EachRule.ExpressionRules.{expressions_bare, template_bare, same_node, same_expression, same_unary_operator, same_operator, Operand, same_operand}
use Rattle.wgsl_theory_tidy.proofs.Moved.Alike.{Alike}
use Rattle.wgsl_theory_tidy.proofs.Moved.Ways.{MovesBy, token_moves, symbol_moves, then_moves, or_moves, gives_moves, makes_moves, check_moves, alike_moves, before_moves, after_moves, means_moves, optional_moves, chain_moves}

-- ---- names
-- two tokens without their places have one class and one text
pub same_class : (w v : Token) → without_place w ≡ without_place v → w.class ≡ v.class
same_class w v h = ap (λ (k : Kind). k.class) h

pub same_text : (w v : Token) → without_place w ≡ without_place v → text_of w ≡ text_of v
same_text w v h = ap (λ (k : Kind). text_of (placed k 0 0)) h

-- a name, by its text
pub name_moves : MovesBy (symbol ident) (λ w v. text_of w ≡ text_of v)
name_moves = alike_moves (symbol_moves ident) same_text

-- whether there is a fault does not depend on which
no_fault : (b c : Bool) (x y : Fault) → b ≡ c → cond c (Some y) None ≡ None → cond b (Some x) None ≡ None
no_fault true true x y e h = absurd (cc)
no_fault true false x y e h = absurd (cc)
no_fault false c x y e h = refl

pub ident_moves : MovesBy (written ident) (Alike ident)
ident_moves = check_moves (token_moves _) (λ w v s r h k. (
  no_fault (eqb w.class ReservedWord) (eqb v.class ReservedWord) _ _
      (ap (λ (c : ℕ). eqb c ReservedWord) (same_class w v h)) k,
  h,
))

-- ---- types, calls and literals
pub template_moves : MovesBy (optional (symbol template_list))
    (λ w v. bare_template (template_of w) ≡ bare_template (template_of v))
template_moves = alike_moves (optional_moves {bare = map bare_expression_node} (symbol_moves template_list))
    (λ w v h. template_bare w ∙ ap template_of h ∙ sym (template_bare v))

pub arguments_move : MovesBy (symbol arguments)
    (λ w v. bare_expressions (expressions_of w) ≡ bare_expressions (expressions_of v))
arguments_move = alike_moves (symbol_moves arguments)
    (λ w v h. expressions_bare w ∙ ap expressions_of h ∙ sym (expressions_bare v))

pub literal_moves : MovesBy (written literal) (Alike literal)
literal_moves = gives_moves (token_moves _) (λ w v h. ap (λ (k : Kind). literal_of (placed k 0 0)) h)

-- ---- an expression of one part, with its components
pub node_moves : {g : Rule Expression} → MovesBy g same_expression → MovesBy (g makes placed_expression) same_node
node_moves G = makes_moves G (λ w v s r h. λ i. expression_node (h i) no_span)

pub component_moves : MovesBy (written component) (Alike component)
component_moves = or_moves
    (gives_moves (before_moves SymBracketLeft (after_moves SymBracketRight (symbol_moves expression)))
    (λ w v h x y k. λ i. Expression.indexing (k i) (h i)))
    (gives_moves (before_moves SymPeriod name_moves) (λ w v h x y k. λ i. Expression.named_component (k i) (h i)))

-- components after an expression
pub components_move : {g : Rule ExpressionNode} → MovesBy g same_node
    → MovesBy (left_chain with_component g (symbol component)) same_node
components_move G = chain_moves G (symbol_moves component) (λ w v x y s r h k. λ i. expression_node (k w v h i) no_span)

-- ---- an operator before an operand
-- an operation on an operand
pub unary_moves : {g : Rule UnaryOperator} {h : Rule ExpressionNode} → MovesBy g same_unary_operator
    → MovesBy h same_node → MovesBy (g then h makes unary_of) same_node
unary_moves G H = makes_moves (then_moves G H)
    (λ w v s r h. λ i. expression_node (Expression.unary (h.0 i) (h.1 i)) no_span)

-- ---- an operator between operands
-- one operation, and a left chain of operations
pub binary_moves : {x y : Rule ExpressionNode} {g : Rule BinaryOperator} → MovesBy x same_node
    → MovesBy g same_operator → MovesBy y same_node → MovesBy (x then g then y makes operation_of) same_node
binary_moves X G Y = makes_moves (then_moves X (then_moves G Y))
    (λ w v s r h. λ i. expression_node (Expression.binary (h.1.0 i) (h.0 i) (h.1.1 i)) no_span)

pub operations_move : {f : ExpressionNode → Operand → Span → ExpressionNode} {g : Rule ExpressionNode}
    {h : Rule Operand} → MovesBy g same_node → MovesBy h same_operand
    → ((e : ExpressionNode) (p : Operand) (s : Span) → bare_expression_node (f e p s)
    ≡ bare_expression_node (binary_of e p s)) → MovesBy (left_chain f g h) same_node
operations_move G H t = chain_moves G H (λ w v x y s r h k. t w x s
    ∙ (λ i. expression_node (Expression.binary (k.0 i) (h i) (k.1 i)) no_span) ∙ sym (t v y r))

-- an operator and an operand after an operand
pub operand_moves : {g : Rule BinaryOperator} {h : Rule ExpressionNode}
    → MovesBy g same_operator → MovesBy h same_node → MovesBy (g then h) same_operand
operand_moves G H = then_moves G H

pub two_move : (class : ℕ) (operator : BinaryOperator) {x : Rule ExpressionNode}
    → MovesBy x same_node → MovesBy (two class operator x) same_node
two_move class operator X = binary_moves X (means_moves class refl) X

pub two_or_more_move : (class : ℕ) (operator : BinaryOperator) {x : Rule ExpressionNode}
    → MovesBy x same_node → MovesBy (two_or_more class operator x) same_node
two_or_more_move class operator X = operations_move (two_move class operator X)
    (then_moves (means_moves class refl) X) (λ e p s. refl)

-- ---- left sides
pub open_left_side_moves : MovesBy open_left_side (Alike lhs_expression)
open_left_side_moves = or_moves
    (components_move (makes_moves name_moves (λ w v s r h. λ i. expression_node (variable (h i)) no_span)))
    (or_moves (unary_moves (means_moves SymStar refl) (symbol_moves lhs_expression))
    (unary_moves (means_moves SymAnd refl) (symbol_moves lhs_expression)))

pub parenthesized_left_side_moves : MovesBy parenthesized_left_side (Alike lhs_expression)
parenthesized_left_side_moves =
    components_move
    (makes_moves (before_moves SymParenLeft (after_moves SymParenRight (symbol_moves lhs_expression)))
    (λ w v s r h. λ i. expression_node (Expression.parenthesized (h i)) no_span))
