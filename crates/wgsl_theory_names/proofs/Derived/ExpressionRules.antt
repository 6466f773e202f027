-- What parts of expressions, and rules that RuleTerms leaves out, derive of renamed tokens.
use Rattle.std.proofs.Common.{◌≡◌, ℕ, Bool, true, false, cond, eqb, eqb-true, List, [], ◌∷◌, map, Option, Some, None, refl, ap, ◌∙◌, inr, subst, sym}
use Rattle.std.specs.Option.{option_map}
use Rattle.grammar.specs.Tokens.{Token, Fault}
use Rattle.grammar.specs.Grammar.{Grammar.symbol, Grammar.left_chain}
use Rattle.grammar.specs.Notation.{◌then◌, ◌makes◌, optional}
use Rattle.wgsl_model.specs.Tokens.ClassTable.{SymAnd, SymBracketLeft, SymBracketRight, SymMinusMinus, SymParenLeft, SymParenRight, SymPeriod, SymStar, SymForwardSlash, SymModulo, Ident, ReservedWord}
use Rattle.wgsl_model.specs.Trees.Operators.{UnaryOperator, UnaryOperator.negation, BinaryOperator}
use Rattle.wgsl_model.specs.Trees.Expressions.{ExpressionNode, expression_node, Expression, expression_before, template, expressions_of, template_of}
use Rattle.wgsl_model.specs.Grammar.TokenValues.{text_of}
use Rattle.wgsl_model.specs.Grammar.ExpressionParts.{placed_expression, variable, with_component, binary_of, unary_of, operation_of, later, two, two_or_more}
use Rattle.wgsl_model.specs.Grammar.StatementParts.{open_left_side, parenthesized_left_side}
use Rattle.wgsl_model.specs.Grammar.Symbols.{ident, template_list, arguments, literal, component, unary_expression, negated_expression, expression, lhs_expression, Rule}
use Rattle.wgsl_model.specs.Grammar.Written.{written}
use Rattle.wgsl_model_names.specs.Renamed.{Renaming, renamed_expression, renamed_node, renamed_expressions, renamed_template}
use Rattle.wgsl_model_names.specs.RenamedTokens.{renamed_token, AreRenamedTokens}
use Rattle.wgsl_theory_names.proofs.Derived.Renews.{Renamed}
use Rattle.wgsl_theory_names.proofs.Derived.Ways.{RenamesBy, symbol_renames, then_renames, or_renames, gives_renames, makes_renames, alike_renames, before_renames, after_renames, means_renames, optional_renames, chain_renames, kept_by}

-- ---- what is renamed
abbrev pub IsRenamedExpression : Renaming → Expression → Expression → Type 0
IsRenamedExpression f w v = w ≡ renamed_expression f v

abbrev pub IsRenamedNode : Renaming → ExpressionNode → ExpressionNode → Type 0
IsRenamedNode f w v = w ≡ renamed_node f v

abbrev pub IsUnaryOperator : UnaryOperator → UnaryOperator → Type 0
IsUnaryOperator w v = w ≡ v

abbrev pub IsOperator : BinaryOperator → BinaryOperator → Type 0
IsOperator w v = w ≡ v

-- an operator and its right operand
abbrev pub Operand : Type 0
Operand = BinaryOperator × ExpressionNode

abbrev pub IsRenamedOperand : Renaming → Operand → Operand → Type 0
IsRenamedOperand f w v = IsOperator w.0 v.0 × IsRenamedNode f w.1 v.1

-- the expressions of a renamed list, and its template
expressions_renamed : (f : Renaming) (es : List ExpressionNode)
    → expressions_of (map (renamed_node f) es) ≡ renamed_expressions f (expressions_of es)
expressions_renamed f [] = refl
expressions_renamed f (e ∷ es) = ap (expression_before (renamed_node f e)) (expressions_renamed f es)

template_renamed : (f : Renaming) (es : Option (List ExpressionNode))
    → template_of (option_map (map (renamed_node f)) es) ≡ renamed_template f (template_of es)
template_renamed f None = refl
template_renamed f (Some es) = ap template (expressions_renamed f es)

-- an identifier that is no reserved word
class_is : (c : ℕ) (a b : Bool) (x : Fault) → eqb c Ident ≡ a → eqb c ReservedWord ≡ b
    → cond a true (cond b true false) ≡ true → cond b (Some x) None ≡ None → c ≡ Ident
class_is c true b x e k h none = eqb-true c Ident e
class_is c false true x e k h none = absurd (cc)
class_is c false false x e k h none = absurd (cc)

no_fault : (b : Bool) (x y : Fault) → cond b (Some y) None ≡ None → cond b (Some x) None ≡ None
no_fault true x y h = absurd (cc)
no_fault false x y h = refl

module _ {f : Renaming} where
  -- ---- names
  pub ident_renames : RenamesBy f (written ident) (Renamed f ident)
  ident_renames = record {
    renames = λ fixes v xs ys d zs e.
        let class = class_is v.class (eqb v.class Ident) (eqb v.class ReservedWord) _ refl refl d.1.0 d.0 in
        record {
          value = renamed_token f v;
          tokens = renamed_token f v ∷ zs;
          renamed = subst (λ (ts : List Token). AreRenamedTokens f ts (renamed_token f v ∷ zs)) (sym d.1.1)
              (inr (class, refl), e);
          like = refl;
          derived = (no_fault (eqb v.class ReservedWord) _ _ d.0, (d.1.0, refl));
        };
  }

  -- a name, by its text
  pub name_renames : RenamesBy f (symbol ident) (λ w v. text_of w ≡ f (text_of v))
  name_renames = alike_renames (symbol_renames ident) (λ w v h. ap text_of h)

  -- ---- types, calls and literals
  pub template_renames : RenamesBy f (optional (symbol template_list))
      (λ w v. template_of w ≡ renamed_template f (template_of v))
  template_renames = alike_renames (optional_renames {change = map (renamed_node f)} (symbol_renames template_list))
      (λ w v h. ap template_of h ∙ template_renamed f v)

  pub arguments_rename : RenamesBy f (symbol arguments)
      (λ w v. expressions_of w ≡ renamed_expressions f (expressions_of v))
  arguments_rename = alike_renames (symbol_renames arguments)
      (λ w v h. ap expressions_of h ∙ expressions_renamed f v)

  pub literal_renames : RenamesBy f (written literal) (Renamed f literal)
  literal_renames = kept_by (written literal)

  -- ---- an expression of one part, with its components
  pub node_renames : {g : Rule Expression} → RenamesBy f g (IsRenamedExpression f)
      → RenamesBy f (g makes placed_expression) (IsRenamedNode f)
  node_renames G = makes_renames G (λ w v s h. λ i. expression_node (h i) s)

  pub component_renames : RenamesBy f (written component) (Renamed f component)
  component_renames = or_renames
      (gives_renames (before_renames SymBracketLeft (after_renames SymBracketRight (symbol_renames expression)))
      (λ w v h x y k. λ i. Expression.indexing (k i) (h i)))
      (gives_renames (before_renames SymPeriod (kept_by (symbol ident)))
      (λ w v h x y k. λ i. Expression.named_component (k i) (text_of (h i))))

  -- components after an expression
  pub components_rename : {g : Rule ExpressionNode} → RenamesBy f g (IsRenamedNode f)
      → RenamesBy f (left_chain with_component g (symbol component)) (IsRenamedNode f)
  components_rename G = chain_renames G (symbol_renames component) (λ w v x y s h k. λ i. expression_node (k w v h i) s)

  -- ---- an operator before an operand
  pub unary_renames : {g : Rule UnaryOperator} {h : Rule ExpressionNode} → RenamesBy f g IsUnaryOperator
      → RenamesBy f h (IsRenamedNode f) → RenamesBy f (g then h makes unary_of) (IsRenamedNode f)
  unary_renames G H = makes_renames (then_renames G H)
      (λ w v s h. λ i. expression_node (Expression.unary (h.0 i) (h.1 i)) s)

  -- ---- an operator between operands
  -- one operation, and a left chain of operations
  pub binary_renames : {x y : Rule ExpressionNode} {g : Rule BinaryOperator} → RenamesBy f x (IsRenamedNode f)
      → RenamesBy f g IsOperator → RenamesBy f y (IsRenamedNode f)
      → RenamesBy f (x then g then y makes operation_of) (IsRenamedNode f)
  binary_renames X G Y = makes_renames (then_renames X (then_renames G Y))
      (λ w v s h. λ i. expression_node (Expression.binary (h.1.0 i) (h.0 i) (h.1.1 i)) s)

  pub operations_rename : {g : Rule ExpressionNode} {h : Rule Operand} → RenamesBy f g (IsRenamedNode f)
      → RenamesBy f h (IsRenamedOperand f) → RenamesBy f (left_chain binary_of g h) (IsRenamedNode f)
  operations_rename G H = chain_renames G H
      (λ w v x y s h k. λ i. expression_node (Expression.binary (k.0 i) (h i) (k.1 i)) s)

  -- an operator and an operand after an operand
  pub operand_renames : {g : Rule BinaryOperator} {h : Rule ExpressionNode}
      → RenamesBy f g IsOperator → RenamesBy f h (IsRenamedNode f) → RenamesBy f (g then h) (IsRenamedOperand f)
  operand_renames G H = then_renames G H

  pub two_rename : (class : ℕ) (operator : BinaryOperator) {x : Rule ExpressionNode}
      → RenamesBy f x (IsRenamedNode f) → RenamesBy f (two class operator x) (IsRenamedNode f)
  two_rename class operator X = binary_renames X (means_renames class refl) X

  pub two_or_more_rename : (class : ℕ) (operator : BinaryOperator) {x : Rule ExpressionNode}
      → RenamesBy f x (IsRenamedNode f) → RenamesBy f (two_or_more class operator x) (IsRenamedNode f)
  two_or_more_rename class operator X = operations_rename (two_rename class operator X)
      (then_renames (means_renames class refl) X)

  -- a negation after the first minus of `--`, and products of it
  pub negated_expression_renames : RenamesBy f (written negated_expression) (Renamed f negated_expression)
  negated_expression_renames = chain_renames {like = IsRenamedNode f}
      (makes_renames {like = IsRenamedNode f} (before_renames SymMinusMinus (symbol_renames unary_expression))
      (λ w v s h. λ i. expression_node (Expression.unary negation (h i)) (later s)))
      (operand_renames (or_renames (means_renames SymStar refl)
      (or_renames (means_renames SymForwardSlash refl) (means_renames SymModulo refl)))
      (symbol_renames unary_expression))
      (λ w v x y s h k. λ i. expression_node (Expression.binary (k.0 i) (h i) (k.1 i)) (later s))

  -- ---- left sides
  pub open_left_side_renames : RenamesBy f open_left_side (Renamed f lhs_expression)
  open_left_side_renames = or_renames
      (components_rename (makes_renames name_renames (λ w v s h. λ i. expression_node (variable (h i)) s)))
      (or_renames (unary_renames (means_renames SymStar refl) (symbol_renames lhs_expression))
      (unary_renames (means_renames SymAnd refl) (symbol_renames lhs_expression)))

  pub parenthesized_left_side_renames : RenamesBy f parenthesized_left_side (Renamed f lhs_expression)
  parenthesized_left_side_renames =
      components_rename
      (makes_renames (before_renames SymParenLeft (after_renames SymParenRight (symbol_renames lhs_expression)))
      (λ w v s h. λ i. expression_node (Expression.parenthesized (h i)) s))
