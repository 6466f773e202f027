-- What a renaming makes of lists of statements and of clauses, and of parts that may be left out.
use Rattle.std.proofs.Common.{◌≡◌, refl, sym, ◌∙◌, ap, List, [], ◌∷◌, Option, None, Some, map}
use Rattle.std.specs.Option.{option_map}
use Rattle.wgsl_model.specs.Trees.Statements as plain
use Rattle.wgsl_model.specs.Trees.Statements.{changed_clauses, changed_compound, changed_continuing, changed_else, changed_else_clause, changed_else_if_clause, changed_else_ifs, changed_maybe_continuing, changed_node, changed_part, changed_statement, changed_statements, changed_switch_clause}
use Rattle.wgsl_model_names.specs.Renamed.{Renaming, renaming}
use Rattle.wgsl_span.specs.declared.Spanned.{Spanned}
use Rattle.wgsl_span.specs.Spanned.{spanned_node, spanned_span}
use Rattle.wgsl_span.specs.View.{span_view}
use Rattle.wgsl_tree_statement.specs.declared.statement.Statement.{Statement}
use Rattle.wgsl_tree_statement.specs.View.{statement_node_view, statement_nodes_view, statement_view}

listed : (xs : List (Spanned Statement)) → statement_nodes_view xs ≡ plain.statements_of (map statement_node_view xs)
listed [] = refl
listed (x ∷ xs) = ap (plain.statement_before (statement_node_view x)) (listed xs)

module _ (f : Renaming) where
  nodes_renamed : (ns : List plain.StatementNode)
      → plain.statements_of (map (changed_node (renaming f)) ns)
      ≡ changed_statements (renaming f) (plain.statements_of ns)
  nodes_renamed [] = refl
  nodes_renamed (n ∷ ns) = ap (plain.statement_before (changed_node (renaming f) n)) (nodes_renamed ns)

  pub statements_renamed : (xs ys : List (Spanned Statement))
      → map statement_node_view ys ≡ map (changed_node (renaming f)) (map statement_node_view xs)
      → statement_nodes_view ys ≡ changed_statements (renaming f) (statement_nodes_view xs)
  statements_renamed xs ys h =
      listed ys ∙ ap plain.statements_of h ∙ nodes_renamed (map statement_node_view xs)
      ∙ sym (ap (changed_statements (renaming f)) (listed xs))

  pub else_ifs_renamed : (cs : List plain.ElseIfClause)
      → plain.else_ifs_of (map (changed_else_if_clause (renaming f)) cs)
      ≡ changed_else_ifs (renaming f) (plain.else_ifs_of cs)
  else_ifs_renamed [] = refl
  else_ifs_renamed (c ∷ cs) =
      ap (plain.else_if_before (changed_else_if_clause (renaming f) c)) (else_ifs_renamed cs)

  pub clauses_renamed : (cs : List plain.SwitchClause)
      → plain.clauses_of (map (changed_switch_clause (renaming f)) cs)
      ≡ changed_clauses (renaming f) (plain.clauses_of cs)
  clauses_renamed [] = refl
  clauses_renamed (c ∷ cs) =
      ap (plain.clause_before (changed_switch_clause (renaming f) c)) (clauses_renamed cs)

  pub else_renamed : (o : Option plain.ElseClause)
      → plain.else_of (option_map (changed_else_clause (renaming f)) o)
      ≡ changed_else (renaming f) (plain.else_of o)
  else_renamed None = refl
  else_renamed (Some x) = refl

  pub maybe_continuing_renamed : (o : Option plain.ContinuingStatement)
      → plain.continuing_of (option_map (changed_continuing (renaming f)) o)
      ≡ changed_maybe_continuing (renaming f) (plain.continuing_of o)
  maybe_continuing_renamed None = refl
  maybe_continuing_renamed (Some x) = refl

  pub part_renamed : (o : Option plain.StatementNode)
      → plain.maybe_statement (option_map (changed_node (renaming f)) o)
      ≡ changed_part (renaming f) (plain.maybe_statement o)
  part_renamed None = refl
  part_renamed (Some x) = refl

  pub block_renamed : (b : plain.CompoundStatement)
      → plain.block_statement (changed_compound (renaming f) b)
      ≡ changed_statement (renaming f) (plain.block_statement b)
  block_renamed (plain.compound_statement attributes ss) = refl

  -- a statement, where it is
  pub node_renamed : (old copy : Spanned Statement) (s : Statement) → spanned_node copy ≡ s
      → spanned_span copy ≡ spanned_span old
      → statement_view s ≡ changed_statement (renaming f) (statement_view (spanned_node old))
      → statement_node_view copy ≡ changed_node (renaming f) (statement_node_view old)
  node_renamed old copy s is at same =
      (λ i. plain.statement_node (statement_view (is i)) (span_view (at i)))
      ∙ ap (λ v. plain.statement_node v (span_view (spanned_span old))) same

  -- a statement by its variant
  pub variant_renamed : (old copy : Statement) {seen made : plain.Statement}
      → statement_view copy ≡ made
      → made ≡ changed_statement (renaming f) seen → statement_view old ≡ seen
      → statement_view copy ≡ changed_statement (renaming f) (statement_view old)
  variant_renamed old copy is same was = is ∙ same ∙ sym (ap (changed_statement (renaming f)) was)
