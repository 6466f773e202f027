-- What parts of statements derive of renamed tokens.
use Rattle.std.proofs.Common.{◌≡◌, List, [], ◌∷◌, map, Option, None, refl, sym, ap, ◌∙◌}
use Rattle.std.specs.Option.{option_map}
use Rattle.grammar.specs.Grammar.{Grammar.symbol}
use Rattle.grammar.specs.Notation.{one_token, ◌or◌, ◌means◌, ◌gives◌, ◌makes◌, optional, many, several}
use Rattle.wgsl_model.specs.Tokens.ClassTable.{SymEqual, SymSemicolon, SymUnderscore, KwBreak, KwConst, KwElse, KwIf, KwLet}
use Rattle.wgsl_model.specs.Trees.Attributed.{Attributed, with_attributes}
use Rattle.wgsl_model.specs.Trees.Expressions.{expression_node}
use Rattle.wgsl_model.specs.Trees.Statements as tree
use Rattle.wgsl_model.specs.Trees.Statements.{CaseSelector, StatementNode, UnattributedStatement, CompoundStatement, ElseIfClause, SwitchClause, BreakIfStatement, statement_before, statements_of, else_if_before, else_ifs_of, else_of, clause_before, clauses_of, continuing_of, maybe_statement, clause_of, continuing_statement_of, DeclarationKind}
use Rattle.wgsl_model.specs.Grammar.ExpressionParts.{variable}
use Rattle.wgsl_model.specs.Grammar.StatementParts.{attributed, statements, initializer, var_kind, assignment_operator, left_side, else_if, else_block, underscore_at, break_if}
use Rattle.wgsl_model.specs.Grammar.Symbols.{Dialect.parsed, expression, compound_statement, statement, switch_clause, continuing_statement, var_template, Rule}
use Rattle.wgsl_model_names.specs.Renamed.{Renaming, renamed_node, renamed_attributes, renamed_attributed, renamed_break_if, renamed_selector, renaming, renamed_compound}
use Rattle.wgsl_theory_names.proofs.Derived.Renews.{renamed_statement, renamed_statement_node, renamed_switch_clause, renamed_continuing}
use Rattle.wgsl_theory_names.proofs.Derived.Ways.{RenamesBy, sign_renames, symbol_renames, none_renames, then_renames, or_renames, gives_renames, makes_renames, alike_renames, before_renames, after_renames, many_renames, several_renames, kept_by}
use Rattle.wgsl_theory_names.proofs.Derived.ExpressionRules.{open_left_side_renames, parenthesized_left_side_renames}
use Rattle.wgsl_theory_names.proofs.Derived.AttributeRules.{attributes_rename}

-- ---- lists, as they are in a tree
statements_renamed : (f : Renaming) (ss : List StatementNode)
    → statements_of (map (renamed_statement_node f) ss) ≡ tree.changed_statements (renaming f) (statements_of ss)
statements_renamed f [] = refl
statements_renamed f (s ∷ ss) = ap (statement_before (renamed_statement_node f s)) (statements_renamed f ss)

else_ifs_renamed : (f : Renaming) (cs : List ElseIfClause)
    → else_ifs_of (map (tree.changed_else_if_clause (renaming f)) cs)
    ≡ tree.changed_else_ifs (renaming f) (else_ifs_of cs)
else_ifs_renamed f [] = refl
else_ifs_renamed f (c ∷ cs) = ap (else_if_before (tree.changed_else_if_clause (renaming f) c)) (else_ifs_renamed f cs)

clauses_renamed : (f : Renaming) (cs : List SwitchClause)
    → clauses_of (map (renamed_switch_clause f) cs) ≡ tree.changed_clauses (renaming f) (clauses_of cs)
clauses_renamed f [] = refl
clauses_renamed f (c ∷ cs) = ap (clause_before (renamed_switch_clause f c)) (clauses_renamed f cs)

block_renamed : (f : Renaming) (b : CompoundStatement)
    → tree.block_statement (renamed_compound f b) ≡ renamed_statement f (tree.block_statement b)
block_renamed f (tree.compound_statement attributes ss) = refl

module _ {f : Renaming} where
  pub statements_rename : RenamesBy f statements
      (λ w v. statements_of w ≡ tree.changed_statements (renaming f) (statements_of v))
  statements_rename = alike_renames (many_renames {change = renamed_statement_node f} (symbol_renames statement))
      (λ w v h. ap statements_of h ∙ statements_renamed f v)

  -- ---- parts of several rules
  pub initializer_renames : RenamesBy f initializer (λ w v. w ≡ renamed_node f v)
  initializer_renames = before_renames SymEqual (symbol_renames expression)

  pub var_kind_renames : RenamesBy f var_kind (λ w v. w ≡ v)
  var_kind_renames = gives_renames (symbol_renames var_template) (λ w v h. h)

  -- a statement after attributes
  pub attributed_renames : {g : Rule UnattributedStatement}
      → RenamesBy f g (λ w v. w ≡ tree.changed_unattributed (renaming f) v)
      → RenamesBy f (attributed tree.statement g) (λ w v. w ≡ renamed_statement f v)
  attributed_renames G = gives_renames (then_renames attributes_rename G)
      (λ w v h. λ i. tree.statement (h.0 i) (h.1 i))

  -- another node after attributes
  pub with_attributes_renames : {A : Type 0} {g : Rule A} {change : A → A} → RenamesBy f g (λ w v. w ≡ change v)
      → RenamesBy f (attributed with_attributes g) (λ w v. w ≡ renamed_attributed f change v)
  with_attributes_renames G = gives_renames (then_renames attributes_rename G)
      (λ w v h. λ i. with_attributes (h.0 i) (h.1 i))

  -- ---- statements that end with a block
  else_if_renames : RenamesBy f else_if (λ w v. w ≡ tree.changed_else_if_clause (renaming f) v)
  else_if_renames = gives_renames (before_renames KwElse
      (before_renames KwIf (then_renames (symbol_renames expression) (symbol_renames compound_statement))))
      (λ w v h. λ i. tree.else_if_clause [] (h.0 i) (h.1 i))

  pub else_ifs_rename : RenamesBy f (many else_if)
      (λ w v. else_ifs_of w ≡ tree.changed_else_ifs (renaming f) (else_ifs_of v))
  else_ifs_rename =
      alike_renames (many_renames {change = tree.changed_else_if_clause (renaming f)} else_if_renames)
      (λ w v h. ap else_ifs_of h ∙ else_ifs_renamed f v)

  pub else_renames : RenamesBy f (optional else_block) (λ w v. else_of w ≡ tree.changed_else (renaming f) (else_of v))
  else_renames = or_renames (gives_renames
      (gives_renames {same = λ w v. w ≡ tree.changed_else_clause (renaming f) v}
      (before_renames KwElse (symbol_renames compound_statement)) (λ w v h. λ i. tree.else_clause [] (h i)))
      (λ w v h. λ i. tree.one_else (h i)))
      (none_renames None refl)

  pub clauses_rename : RenamesBy f (several (symbol switch_clause))
      (λ w v. clauses_of w ≡ tree.changed_clauses (renaming f) (clauses_of v))
  clauses_rename = alike_renames (several_renames {change = renamed_switch_clause f} (symbol_renames switch_clause))
      (λ w v h. ap clauses_of h ∙ clauses_renamed f v)

  pub maybe_continuing_renames : RenamesBy f (optional (symbol continuing_statement))
      (λ w v. continuing_of w ≡ tree.changed_maybe_continuing (renaming f) (continuing_of v))
  maybe_continuing_renames = or_renames (gives_renames (symbol_renames continuing_statement)
      (λ w v h. λ i. tree.one_continuing (h i))) (none_renames None refl)

  -- a part of the header of a `for`
  pub part_renames : {g : Rule StatementNode} → RenamesBy f g (λ w v. w ≡ renamed_statement_node f v)
      → RenamesBy f (optional g) (λ w v. maybe_statement w ≡ tree.changed_part (renaming f) (maybe_statement v))
  part_renames G = or_renames (gives_renames G (λ w v h. λ i. tree.one_statement (h i))) (none_renames None refl)

  -- a block as a statement
  pub block_renames : RenamesBy f (symbol compound_statement gives tree.block_statement)
      (λ w v. w ≡ renamed_statement f v)
  block_renames = gives_renames (symbol_renames compound_statement)
      (λ w v h. ap tree.block_statement h ∙ block_renamed f v)

  -- ---- statements that end with a `;`
  pub value_kind_renames : RenamesBy f
      (KwLet means DeclarationKind.let_kind or KwConst means DeclarationKind.const_kind) (λ w v. w ≡ v)
  value_kind_renames = kept_by _

  -- the left side of a phony assignment
  pub underscore_renames : RenamesBy f (one_token SymUnderscore makes underscore_at) (λ w v. w ≡ renamed_node f v)
  underscore_renames = record {
    renames = λ fixes. (makes_renames {f = f} {same = λ w v. w ≡ renamed_node f v} (sign_renames SymUnderscore)
        (λ w v s h. λ i. expression_node (variable (sym fixes i)) s)).renames fixes;
  }

  -- a left side after attributes
  pub left_side_renames : RenamesBy f (left_side parsed)
      (λ w v. (w.0 ≡ renamed_attributes f v.0) × (w.1 ≡ renamed_node f v.1))
  left_side_renames = or_renames (then_renames attributes_rename open_left_side_renames)
      (gives_renames parenthesized_left_side_renames (λ w v h. (refl, h)))

  pub assignment_operator_renames : RenamesBy f assignment_operator (λ w v. w ≡ v)
  assignment_operator_renames = kept_by assignment_operator

  -- ---- clauses and `continuing`
  pub clause_renames : {g : Rule (List CaseSelector × CompoundStatement)}
      → RenamesBy f g (λ w v. (w.0 ≡ map (renamed_selector f) v.0) × (w.1 ≡ renamed_compound f v.1))
      → RenamesBy f (attributed clause_of g) (λ w v. w ≡ renamed_switch_clause f v)
  clause_renames G = gives_renames (then_renames attributes_rename G)
      (λ w v h. λ i. tree.switch_clause (h.0 i) (h.1.0 i) (h.1.1 i))

  pub break_if_renames : RenamesBy f (break_if parsed) (λ w v. w ≡ renamed_attributed f (renamed_break_if f) v)
  break_if_renames = with_attributes_renames {change = renamed_break_if f}
      (gives_renames (before_renames KwBreak (before_renames KwIf (after_renames SymSemicolon
      (symbol_renames expression)))) (λ w v h. λ i. record { expression = h i }))

  pub continuing_renames : {g : Rule (CompoundStatement × Option (Attributed BreakIfStatement))}
      → RenamesBy f g (λ w v. (w.0 ≡ renamed_compound f v.0)
      × (w.1 ≡ option_map (renamed_attributed f (renamed_break_if f)) v.1))
      → RenamesBy f (attributed continuing_statement_of g) (λ w v. w ≡ renamed_continuing f v)
  continuing_renames G = gives_renames (then_renames attributes_rename G)
      (λ w v h. λ i. tree.continuing (h.0 i) (h.1.0 i) (h.1.1 i))
