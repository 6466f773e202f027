-- The lemmas that the proofs of laws of several clauses cite.
use Rattle.wgsl_theory_grammar.proofs.Tokens.Lists.{token_list_exists, token_list_unique}
use Rattle.wgsl_theory_reread.proofs.Trees.EmptyItems.{statement_twice, compound_twice, statement_printed, compound_printed, declaration_twice, declaration_printed, unit_twice, unit_printed}
use Rattle.wgsl_theory_reread.proofs.Trees.Spans.{expression_bare}
use Rattle.wgsl_theory_reread.proofs.Trees.SpansStatements.{statement_bare, compound_bare}
use Rattle.wgsl_theory_reread.proofs.Trees.SpansUnits.{global_bare, unit_print_bare}
use Rattle.wgsl_lexer.proofs.InOrder.{tokens_in_order, fault_after}
use Rattle.wgsl_tree_path.proofs.JoinLaws.{joins_associative, self_first, self_last}
use Rattle.wgsl_tree_statement.proofs.Views.{layer_views, clause_views}
use Rattle.wgsl_tree_node.proofs.StatementLists.{statement_listed}

-- of tokens, of paths, and of trees without their empty items or their spans
pub ruleset token_lists = (token_list_exists, token_list_unique)

pub ruleset token_order = (tokens_in_order, fault_after)

pub ruleset joins = (joins_associative, self_first, self_last)

pub ruleset without_empty_items = (
  statement_twice,
  compound_twice,
  declaration_twice,
  unit_twice,
  statement_printed,
  compound_printed,
  declaration_printed,
  unit_printed,
)

pub ruleset without_spans = (expression_bare, statement_bare, compound_bare, global_bare, unit_print_bare)

-- of the attributes of nodes
pub ruleset attributes = (layer_views, clause_views, statement_listed)
