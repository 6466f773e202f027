-- Written by tools/tables/node_laws.py from crates/wgsl_model/nodes: lemmas of laws of several
-- clauses.
use Rattle.wgsl_tree_code.proofs.SpanlessStatementNodes.{assignment_statement_equal}
use Rattle.wgsl_tree_code.proofs.SpanlessStatementNodes.{break_if_statement_equal}
use Rattle.wgsl_tree_code.proofs.SpanlessStatementNodes.{case_selector_equal}
use Rattle.wgsl_tree_code.proofs.SpanlessStatementNodes.{compound_statement_equal}
use Rattle.wgsl_tree_code.proofs.SpanlessStatementNodes.{const_assert_equal}
use Rattle.wgsl_tree_code.proofs.SpanlessStatementNodes.{continuing_statement_equal}
use Rattle.wgsl_tree_code.proofs.SpanlessStatementNodes.{declaration_equal}
use Rattle.wgsl_tree_code.proofs.SpanlessStatementNodes.{declaration_kind_equal}
use Rattle.wgsl_tree_code.proofs.SpanlessStatementNodes.{decrement_statement_equal}
use Rattle.wgsl_tree_code.proofs.SpanlessStatementNodes.{else_clause_equal}
use Rattle.wgsl_tree_code.proofs.SpanlessStatementNodes.{else_if_clause_equal}
use Rattle.wgsl_tree_code.proofs.SpanlessStatementNodes.{for_statement_equal}
use Rattle.wgsl_tree_code.proofs.SpanlessStatementNodes.{function_call_statement_equal}
use Rattle.wgsl_tree_code.proofs.SpanlessStatementNodes.{if_clause_equal}
use Rattle.wgsl_tree_code.proofs.SpanlessStatementNodes.{if_statement_equal}
use Rattle.wgsl_tree_code.proofs.SpanlessStatementNodes.{increment_statement_equal}
use Rattle.wgsl_tree_code.proofs.SpanlessStatementNodes.{loop_statement_equal}
use Rattle.wgsl_tree_code.proofs.SpanlessStatementNodes.{return_statement_equal}
use Rattle.wgsl_tree_code.proofs.SpanlessStatementNodes.{statement_equal}
use Rattle.wgsl_tree_code.proofs.SpanlessStatementNodes.{statement_node_equal}
use Rattle.wgsl_tree_code.proofs.SpanlessStatementNodes.{switch_clause_equal}
use Rattle.wgsl_tree_code.proofs.SpanlessStatementNodes.{switch_statement_equal}
use Rattle.wgsl_tree_code.proofs.SpanlessStatementNodes.{while_statement_equal}
use Rattle.wgsl_tree_code.proofs.SpanlessUnitNodes.{diagnostic_directive_equal}
use Rattle.wgsl_tree_code.proofs.SpanlessUnitNodes.{enable_directive_equal}
use Rattle.wgsl_tree_code.proofs.SpanlessUnitNodes.{formal_parameter_equal}
use Rattle.wgsl_tree_code.proofs.SpanlessUnitNodes.{function_equal}
use Rattle.wgsl_tree_code.proofs.SpanlessUnitNodes.{global_declaration_equal}
use Rattle.wgsl_tree_code.proofs.SpanlessUnitNodes.{global_directive_equal}
use Rattle.wgsl_tree_code.proofs.SpanlessUnitNodes.{requires_directive_equal}
use Rattle.wgsl_tree_code.proofs.SpanlessUnitNodes.{struct_equal, struct_member_equal}
use Rattle.wgsl_tree_code.proofs.SpanlessUnitNodes.{type_alias_equal}
use Rattle.wgsl_tree_simple.proofs.Equalities.{declarations_agree, kinds_agree}
use Rattle.wgsl_tree_unit.proofs.Equalities.{diagnostics_agree, directives_agree}
use Rattle.wgsl_tree_unit.proofs.Equalities.{enables_agree, functions_agree}
use Rattle.wgsl_tree_unit.proofs.Equalities.{global_declarations_agree, members_agree}
use Rattle.wgsl_tree_unit.proofs.Equalities.{parameters_agree, requires_agree}
use Rattle.wgsl_tree_unit.proofs.Equalities.{structs_agree, type_aliases_agree}

pub ruleset equality_declarations = (declaration_kind_equal, declaration_equal)

pub ruleset equality_simple_statements = (
  assignment_statement_equal,
  increment_statement_equal,
  decrement_statement_equal,
  case_selector_equal,
  break_if_statement_equal,
  return_statement_equal,
  function_call_statement_equal,
  const_assert_equal,
)

pub ruleset equality_statements = (statement_equal, statement_node_equal, compound_statement_equal)

pub ruleset equality_branches = (
  if_statement_equal,
  if_clause_equal,
  else_if_clause_equal,
  else_clause_equal,
  switch_statement_equal,
  switch_clause_equal,
)

pub ruleset equality_loops = (
  continuing_statement_equal,
  for_statement_equal,
  loop_statement_equal,
  while_statement_equal,
)

pub ruleset equality_directives = (
  global_directive_equal,
  diagnostic_directive_equal,
  enable_directive_equal,
  requires_directive_equal,
)

pub ruleset equality_global_declarations = (
  global_declaration_equal,
  struct_equal,
  struct_member_equal,
  type_alias_equal,
  function_equal,
  formal_parameter_equal,
)

pub ruleset simple_equality_declarations = (kinds_agree, declarations_agree)

pub ruleset unit_equality_directives = (
  directives_agree,
  diagnostics_agree,
  enables_agree,
  requires_agree,
)

pub ruleset unit_equality_global_declarations = (
  global_declarations_agree,
  structs_agree,
  members_agree,
  type_aliases_agree,
  functions_agree,
  parameters_agree,
)
