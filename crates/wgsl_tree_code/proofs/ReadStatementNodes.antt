-- Written by tools/tables/tree_readers.py from crates/wgsl_model/nodes: statements read from their
-- codes.
use Rattle.std.specs.Prelude.{[], ◌∷◌, Option, None, Some, codes, ◌≡◌}
use Rattle.std.proofs.Common.{refl}
use Rattle.wgsl_model.specs.Trees.Statements as plain
use Rattle.wgsl_model.specs.Trees.Attributed.{Attributed, with_attributes}
use Rattle.wgsl_model.specs.Trees.Attributes.{Attributes}
use Rattle.wgsl_tree_code.specs.Code.{Code, Codes, Fields, absent, attributed_code, code_before, field, list, no_codes, no_fields, node, optional, pair_of, text}
use Rattle.wgsl_tree_code.proofs.Reading.{chosen, expression_node_there, items_read, list_read_of, named, optional_of, optional_read, pair_of_codes, pair_read, span_of, text_of, text_read, then_of, type_expression_there}
use Rattle.wgsl_tree_code.specs.WordNodes.{access_mode_code, address_space_code}
use Rattle.wgsl_tree_code.proofs.ReadWordNodes.{access_mode_of, access_mode_read, address_space_of, address_space_read}
use Rattle.wgsl_tree_code.proofs.ReadOperatorNodes.{assignment_operator_of, assignment_operator_read}
use Rattle.wgsl_tree_code.specs.ExpressionNodes.{expression_node_code, type_code}
use Rattle.wgsl_tree_code.proofs.ReadExpressionNodes.{expression_node_of, expression_node_read, function_call_of, function_call_read, type_expression_of, type_expression_read}
use Rattle.wgsl_tree_code.proofs.ReadAttributeNodes.{attributes_of, attributes_read, lone_attributes_of, lone_attributes_read}
use Rattle.wgsl_tree_code.specs.StatementNodes.{assert_code, assignment_code, break_code, break_if_code, call_statement_code, clauses_code, compound_code, continue_code, continuing_code, declaration_code, declaration_kind_code, decrement_code, discard_code, else_clause_code, else_code, else_if_clause_code, else_ifs_code, for_code, if_clause_code, if_code, increment_code, loop_code, maybe_continuing_code, part_code, return_code, selector_code, statement_code, statement_node_code, statements_code, switch_clause_code, switch_code, unattributed_code, while_code}

abbrev pub declaration_kind_of : Code → Option plain.DeclarationKind
declaration_kind_of (text name) = chosen name ((codes "Const", λ _. Some plain.const_kind)
    ∷ (codes "Override", λ _. Some plain.override_kind) ∷ (codes "Let", λ _. Some plain.let_kind) ∷ [])
declaration_kind_of (node (field name value no_fields)) = chosen name ((
  codes "Var",
  λ _. then_of (optional_of (pair_of_codes address_space_of (optional_of access_mode_of)) value)
      (λ x0. Some (plain.var_kind x0)),
) ∷ [])
declaration_kind_of c = None

abbrev pub assignment_statement_of : Code → Option (Attributed plain.AssignmentStatement)
assignment_statement_of (node (field n0 c0 (field n1 c1 (field n2 c2 (field n3 c3 no_fields))))) =
    named (n0 ∷ n1 ∷ n2 ∷ n3 ∷ []) (codes "attributes" ∷ codes "operator" ∷ codes "lhs" ∷ codes "rhs" ∷ [])
    (then_of (attributes_of c0) (λ x0. then_of (assignment_operator_of c1)
    (λ x1. then_of (expression_node_of c2) (λ x2. then_of (expression_node_of c3)
    (λ x3. Some (with_attributes x0 (record { operator = x1; lhs = x2; rhs = x3 })))))))
assignment_statement_of c = None

abbrev pub increment_statement_of : Code → Option (Attributed plain.IncrementStatement)
increment_statement_of (node (field n0 c0 (field n1 c1 no_fields))) = named (n0 ∷ n1 ∷ [])
    (codes "attributes" ∷ codes "expression" ∷ []) (then_of (attributes_of c0)
    (λ x0. then_of (expression_node_of c1) (λ x1. Some (with_attributes x0 (record { expression = x1 })))))
increment_statement_of c = None

abbrev pub decrement_statement_of : Code → Option (Attributed plain.DecrementStatement)
decrement_statement_of (node (field n0 c0 (field n1 c1 no_fields))) = named (n0 ∷ n1 ∷ [])
    (codes "attributes" ∷ codes "expression" ∷ []) (then_of (attributes_of c0)
    (λ x0. then_of (expression_node_of c1) (λ x1. Some (with_attributes x0 (record { expression = x1 })))))
decrement_statement_of c = None

abbrev pub case_selector_of : Code → Option plain.CaseSelector
case_selector_of (text name) = chosen name ((codes "Default", λ _. Some plain.default_selector) ∷ [])
case_selector_of (node (field name value no_fields)) = chosen name
    ((codes "Expression", λ _. then_of (expression_node_of value) (λ x0. Some (plain.expression_selector x0))) ∷ [])
case_selector_of c = None

abbrev pub break_if_statement_of : Code → Option (Attributed plain.BreakIfStatement)
break_if_statement_of (node (field n0 c0 (field n1 c1 no_fields))) = named (n0 ∷ n1 ∷ [])
    (codes "attributes" ∷ codes "expression" ∷ []) (then_of (attributes_of c0)
    (λ x0. then_of (expression_node_of c1) (λ x1. Some (with_attributes x0 (record { expression = x1 })))))
break_if_statement_of c = None

abbrev pub break_statement_of : Code → Option Attributes
break_statement_of (node (field n0 c0 no_fields)) = named (n0 ∷ []) (codes "attributes" ∷ [])
    (then_of (attributes_of c0) (λ x0. Some x0))
break_statement_of c = None

abbrev pub continue_statement_of : Code → Option Attributes
continue_statement_of (node (field n0 c0 no_fields)) = named (n0 ∷ []) (codes "attributes" ∷ [])
    (then_of (attributes_of c0) (λ x0. Some x0))
continue_statement_of c = None

abbrev pub return_statement_of : Code → Option (Attributed plain.ReturnStatement)
return_statement_of (node (field n0 c0 (field n1 c1 no_fields))) = named (n0 ∷ n1 ∷ [])
    (codes "attributes" ∷ codes "expression" ∷ [])
    (then_of (attributes_of c0) (λ x0. then_of (optional_of expression_node_of c1)
    (λ x1. Some (with_attributes x0 (record { expression = x1 })))))
return_statement_of c = None

abbrev pub discard_statement_of : Code → Option Attributes
discard_statement_of (node (field n0 c0 no_fields)) = named (n0 ∷ []) (codes "attributes" ∷ [])
    (then_of (attributes_of c0) (λ x0. Some x0))
discard_statement_of c = None

abbrev pub function_call_statement_of : Code → Option (Attributed plain.FunctionCallStatement)
function_call_statement_of (node (field n0 c0 (field n1 c1 no_fields))) = named (n0 ∷ n1 ∷ [])
    (codes "attributes" ∷ codes "call" ∷ []) (then_of (attributes_of c0)
    (λ x0. then_of (function_call_of c1) (λ x1. Some (with_attributes x0 (record { call = x1 })))))
function_call_statement_of c = None

abbrev pub const_assert_of : Code → Option (Attributed plain.ConstAssert)
const_assert_of (node (field n0 c0 (field n1 c1 no_fields))) = named (n0 ∷ n1 ∷ [])
    (codes "attributes" ∷ codes "expression" ∷ []) (then_of (attributes_of c0)
    (λ x0. then_of (expression_node_of c1) (λ x1. Some (with_attributes x0 (record { expression = x1 })))))
const_assert_of c = None

abbrev pub declaration_of : Code → Option (Attributed plain.Declaration)
declaration_of (node (field n0 c0 (field n1 c1 (field n2 c2 (field n3 c3 (field n4 c4 no_fields)))))) =
    named (n0 ∷ n1 ∷ n2 ∷ n3 ∷ n4 ∷ [])
    (codes "attributes" ∷ codes "kind" ∷ codes "ident" ∷ codes "ty" ∷ codes "initializer" ∷ [])
    (then_of (attributes_of c0) (λ x0. then_of (declaration_kind_of c1) (λ x1. then_of (text_of c2)
    (λ x2. then_of (optional_of type_expression_of c3) (λ x3. then_of (optional_of expression_node_of c4)
    (λ x4. Some (with_attributes x0 (record { kind = x1; ident = x2; ty = x3; initializer = x4 }))))))))
declaration_of c = None

abbrev mutual
  pub compound_statement_of : Code → Option plain.CompoundStatement
  compound_statement_of (node (field n0 c0 (field n1 (list c1) no_fields))) = named (n0 ∷ n1 ∷ [])
      (codes "attributes" ∷ codes "statements" ∷ []) (then_of (attributes_of c0)
      (λ x0. then_of (statement_nodes_of c1) (λ x1. Some (plain.compound_statement x0 x1))))
  compound_statement_of c = None

  pub if_clause_of : Code → Option plain.IfClause
  if_clause_of (node (field n0 c0 (field n1 c1 no_fields))) = named (n0 ∷ n1 ∷ [])
      (codes "expression" ∷ codes "body" ∷ []) (then_of (expression_node_of c0)
      (λ x0. then_of (compound_statement_of c1) (λ x1. Some (plain.if_clause x0 x1))))
  if_clause_of c = None

  pub else_if_clause_of : Code → Option plain.ElseIfClause
  else_if_clause_of (node (field n0 c0 (field n1 c1 (field n2 c2 no_fields)))) =
      named (n0 ∷ n1 ∷ n2 ∷ []) (codes "attributes" ∷ codes "expression" ∷ codes "body" ∷ [])
      (then_of (attributes_of c0) (λ x0. then_of (expression_node_of c1)
      (λ x1. then_of (compound_statement_of c2) (λ x2. Some (plain.else_if_clause x0 x1 x2)))))
  else_if_clause_of c = None

  pub else_clause_in : Fields → Option plain.ElseClause
  else_clause_in (field n0 c0 (field n1 c1 no_fields)) = named (n0 ∷ n1 ∷ [])
      (codes "attributes" ∷ codes "body" ∷ []) (then_of (attributes_of c0)
      (λ x0. then_of (compound_statement_of c1) (λ x1. Some (plain.else_clause x0 x1))))
  else_clause_in fs = None

  pub if_statement_of : Code → Option (Attributed plain.IfStatement)
  if_statement_of (node (field n0 c0 (field n1 c1 (field n2 (list c2) (field n3 c3 no_fields))))) =
      named (n0 ∷ n1 ∷ n2 ∷ n3 ∷ [])
      (codes "attributes" ∷ codes "if_clause" ∷ codes "else_if_clauses" ∷ codes "else_clause" ∷ [])
      (then_of (attributes_of c0) (λ x0. then_of (if_clause_of c1) (λ x1. then_of (else_if_clauses_of c2)
      (λ x2. then_of (maybe_else_clause_of c3) (λ x3. Some (with_attributes x0 (plain.if_else x1 x2 x3)))))))
  if_statement_of c = None

  pub switch_clause_of : Code → Option plain.SwitchClause
  switch_clause_of (node (field n0 c0 (field n1 c1 (field n2 c2 no_fields)))) =
      named (n0 ∷ n1 ∷ n2 ∷ []) (codes "attributes" ∷ codes "case_selectors" ∷ codes "body" ∷ [])
      (then_of (attributes_of c0) (λ x0. then_of (list_read_of case_selector_of c1)
      (λ x1. then_of (compound_statement_of c2) (λ x2. Some (plain.switch_clause x0 x1 x2)))))
  switch_clause_of c = None

  pub switch_statement_of : Code → Option (Attributed plain.SwitchStatement)
  switch_statement_of (node (field n0 c0 (field n1 c1 (field n2 c2 (field n3 (list c3) no_fields))))) =
      named (n0 ∷ n1 ∷ n2 ∷ n3 ∷ [])
      (codes "attributes" ∷ codes "expression" ∷ codes "body_attributes" ∷ codes "clauses" ∷ [])
      (then_of (attributes_of c0) (λ x0. then_of (expression_node_of c1) (λ x1. then_of (attributes_of c2)
      (λ x2. then_of (switch_clauses_of c3) (λ x3. Some (with_attributes x0 (plain.switch x1 x2 x3)))))))
  switch_statement_of c = None

  pub continuing_statement_in : Fields → Option plain.ContinuingStatement
  continuing_statement_in (field n0 c0 (field n1 c1 (field n2 c2 no_fields))) =
      named (n0 ∷ n1 ∷ n2 ∷ []) (codes "attributes" ∷ codes "body" ∷ codes "break_if" ∷ [])
      (then_of (attributes_of c0) (λ x0. then_of (compound_statement_of c1)
      (λ x1. then_of (optional_of break_if_statement_of c2) (λ x2. Some (plain.continuing x0 x1 x2)))))
  continuing_statement_in fs = None

  pub loop_statement_of : Code → Option (Attributed plain.LoopStatement)
  loop_statement_of (node (field n0 c0 (field n1 c1 (field n2 c2 no_fields)))) =
      named (n0 ∷ n1 ∷ n2 ∷ []) (codes "attributes" ∷ codes "body" ∷ codes "continuing" ∷ [])
      (then_of (attributes_of c0) (λ x0. then_of (compound_statement_of c1)
      (λ x1. then_of (maybe_continuing_of c2) (λ x2. Some (with_attributes x0 (plain.repeat x1 x2))))))
  loop_statement_of c = None

  pub for_statement_of : Code → Option (Attributed plain.ForStatement)
  for_statement_of (node (field n0 c0 (field n1 c1 (field n2 c2 (field n3 c3 (field n4 c4 no_fields)))))) =
      named (n0 ∷ n1 ∷ n2 ∷ n3 ∷ n4 ∷ [])
      (codes "attributes" ∷ codes "initializer" ∷ codes "condition" ∷ codes "update" ∷ codes "body" ∷ [])
      (then_of (attributes_of c0) (λ x0. then_of (maybe_statement_of c1)
      (λ x1. then_of (optional_of expression_node_of c2) (λ x2. then_of (maybe_statement_of c3) (λ x3.
      then_of (compound_statement_of c4) (λ x4. Some (with_attributes x0 (plain.repeat_for x1 x2 x3 x4))))))))
  for_statement_of c = None

  pub while_statement_of : Code → Option (Attributed plain.WhileStatement)
  while_statement_of (node (field n0 c0 (field n1 c1 (field n2 c2 no_fields)))) =
      named (n0 ∷ n1 ∷ n2 ∷ []) (codes "attributes" ∷ codes "condition" ∷ codes "body" ∷ [])
      (then_of (attributes_of c0) (λ x0. then_of (expression_node_of c1) (λ x1.
      then_of (compound_statement_of c2) (λ x2. Some (with_attributes x0 (plain.repeat_while x1 x2))))))
  while_statement_of c = None

  pub statement_of : Code → Option plain.Statement
  statement_of (text name) = chosen name ((codes "Void", λ _. Some (plain.statement [] plain.void)) ∷ [])
  statement_of (node (field name value no_fields)) = chosen name ((
    codes "Void",
    λ _. then_of (lone_attributes_of value) (λ x0. Some (plain.statement x0 plain.void)),
  ) ∷ (codes "Compound", λ _. then_of (compound_statement_of value) (λ x0. Some (plain.block_statement x0))) ∷ (
    codes "Assignment",
    λ _. then_of (assignment_statement_of value) (λ x0. Some (plain.as_statement plain.assignment x0)),
  ) ∷ (
    codes "Increment",
    λ _. then_of (increment_statement_of value) (λ x0. Some (plain.as_statement plain.increment x0)),
  ) ∷ (
    codes "Decrement",
    λ _. then_of (decrement_statement_of value) (λ x0. Some (plain.as_statement plain.decrement x0)),
  ) ∷ (codes "If", λ _. then_of (if_statement_of value) (λ x0. Some (plain.as_statement plain.if_statement x0))) ∷ (
    codes "Switch",
    λ _. then_of (switch_statement_of value) (λ x0. Some (plain.as_statement plain.switch_statement x0)),
  ) ∷ (
    codes "Loop",
    λ _. then_of (loop_statement_of value) (λ x0. Some (plain.as_statement plain.loop_statement x0)),
  ) ∷ (codes "For", λ _. then_of (for_statement_of value) (λ x0. Some (plain.as_statement plain.for_statement x0))) ∷ (
    codes "While",
    λ _. then_of (while_statement_of value) (λ x0. Some (plain.as_statement plain.while_statement x0)),
  ) ∷ (
    codes "Break",
    λ _. then_of (break_statement_of value) (λ x0. Some (plain.statement x0 plain.break_statement)),
  ) ∷ (
    codes "Continue",
    λ _. then_of (continue_statement_of value) (λ x0. Some (plain.statement x0 plain.continue_statement)),
  ) ∷ (
    codes "Return",
    λ _. then_of (return_statement_of value) (λ x0. Some (plain.as_statement plain.return_statement x0)),
  ) ∷ (
    codes "Discard",
    λ _. then_of (discard_statement_of value) (λ x0. Some (plain.statement x0 plain.discard_statement)),
  ) ∷ (
    codes "FunctionCall",
    λ _. then_of (function_call_statement_of value) (λ x0. Some (plain.as_statement plain.function_call_statement x0)),
  ) ∷ (
    codes "ConstAssert",
    λ _. then_of (const_assert_of value) (λ x0. Some (plain.as_statement plain.const_assert x0)),
  ) ∷ (codes "Declaration", λ _. then_of (declaration_of value) (λ x0. Some (plain.as_statement plain.declaration x0)))
      ∷ [])
  statement_of c = None

  pub statement_node_in : Fields → Option plain.StatementNode
  statement_node_in (field n0 c0 (field n1 c1 no_fields)) = named (n0 ∷ n1 ∷ [])
      (codes "span" ∷ codes "node" ∷ [])
      (then_of (span_of c0) (λ x0. then_of (statement_of c1) (λ x1. Some (plain.statement_node x1 x0))))
  statement_node_in fs = None

  pub statement_node_of : Code → Option plain.StatementNode
  statement_node_of (node fs) = statement_node_in fs
  statement_node_of c = None

  pub statement_nodes_of : Codes → Option plain.StatementNodes
  statement_nodes_of no_codes = Some plain.no_statements
  statement_nodes_of (code_before c cs) = then_of (statement_node_of c)
      (λ x0. then_of (statement_nodes_of cs) (λ x1. Some (plain.statement_before x0 x1)))

  pub maybe_statement_of : Code → Option plain.MaybeStatement
  maybe_statement_of absent = Some plain.no_statement
  maybe_statement_of (node cs) = then_of (statement_node_in cs) (λ x0. Some (plain.one_statement x0))
  maybe_statement_of c = None

  pub else_if_clauses_of : Codes → Option plain.ElseIfClauses
  else_if_clauses_of no_codes = Some plain.no_else_ifs
  else_if_clauses_of (code_before c cs) = then_of (else_if_clause_of c)
      (λ x0. then_of (else_if_clauses_of cs) (λ x1. Some (plain.else_if_before x0 x1)))

  pub maybe_else_clause_of : Code → Option plain.MaybeElseClause
  maybe_else_clause_of absent = Some plain.no_else
  maybe_else_clause_of (node cs) = then_of (else_clause_in cs) (λ x0. Some (plain.one_else x0))
  maybe_else_clause_of c = None

  pub switch_clauses_of : Codes → Option plain.SwitchClauses
  switch_clauses_of no_codes = Some plain.no_clauses
  switch_clauses_of (code_before c cs) = then_of (switch_clause_of c)
      (λ x0. then_of (switch_clauses_of cs) (λ x1. Some (plain.clause_before x0 x1)))

  pub maybe_continuing_of : Code → Option plain.MaybeContinuing
  maybe_continuing_of absent = Some plain.no_continuing
  maybe_continuing_of (node cs) = then_of (continuing_statement_in cs) (λ x0. Some (plain.one_continuing x0))
  maybe_continuing_of c = None

abbrev pub else_clause_of : Code → Option plain.ElseClause
else_clause_of (node fs) = else_clause_in fs
else_clause_of c = None

abbrev pub continuing_statement_of : Code → Option plain.ContinuingStatement
continuing_statement_of (node fs) = continuing_statement_in fs
continuing_statement_of c = None

pub declaration_kind_read : (x : plain.DeclarationKind) → declaration_kind_of (declaration_kind_code x) ≡ Some x
declaration_kind_read plain.const_kind = refl
declaration_kind_read plain.override_kind = refl
declaration_kind_read plain.let_kind = refl
declaration_kind_read (plain.var_kind x) =
    λ i. then_of (optional_read (λ p. pair_of (address_space_code p.0) ((optional access_mode_code) p.1))
    (pair_of_codes address_space_of (optional_of access_mode_of)) (pair_read address_space_code
    address_space_of address_space_read (optional access_mode_code) (optional_of access_mode_of)
    (optional_read access_mode_code access_mode_of access_mode_read (λ x. refl))) (λ x. refl) x i)
    (λ x0. Some (plain.var_kind x0))

pub assignment_statement_read : (attributes : Attributes) (x : plain.AssignmentStatement)
    → assignment_statement_of (assignment_code attributes x) ≡ Some (with_attributes attributes x)
assignment_statement_read attributes n =
    λ i. then_of (attributes_read attributes i) (λ x0. then_of (assignment_operator_read n.operator i)
    (λ x1. then_of (expression_node_read n.lhs i) (λ x2. then_of (expression_node_read n.rhs i)
    (λ x3. Some (with_attributes x0 (record { operator = x1; lhs = x2; rhs = x3 }))))))

pub increment_statement_read : (attributes : Attributes) (x : plain.IncrementStatement)
    → increment_statement_of (increment_code attributes x) ≡ Some (with_attributes attributes x)
increment_statement_read attributes n =
    λ i. then_of (attributes_read attributes i) (λ x0. then_of (expression_node_read n.expression i)
    (λ x1. Some (with_attributes x0 (record { expression = x1 }))))

pub decrement_statement_read : (attributes : Attributes) (x : plain.DecrementStatement)
    → decrement_statement_of (decrement_code attributes x) ≡ Some (with_attributes attributes x)
decrement_statement_read attributes n =
    λ i. then_of (attributes_read attributes i) (λ x0. then_of (expression_node_read n.expression i)
    (λ x1. Some (with_attributes x0 (record { expression = x1 }))))

pub case_selector_read : (x : plain.CaseSelector) → case_selector_of (selector_code x) ≡ Some x
case_selector_read plain.default_selector = refl
case_selector_read (plain.expression_selector x) =
    λ i. then_of (expression_node_read x i) (λ x0. Some (plain.expression_selector x0))

pub break_if_statement_read : (attributes : Attributes) (x : plain.BreakIfStatement)
    → break_if_statement_of (break_if_code attributes x) ≡ Some (with_attributes attributes x)
break_if_statement_read attributes n =
    λ i. then_of (attributes_read attributes i) (λ x0. then_of (expression_node_read n.expression i)
    (λ x1. Some (with_attributes x0 (record { expression = x1 }))))

pub break_statement_read : (attributes : Attributes) → break_statement_of (break_code attributes) ≡ Some attributes
break_statement_read attributes = λ i. then_of (attributes_read attributes i) (λ x0. Some x0)

pub continue_statement_read : (attributes : Attributes)
    → continue_statement_of (continue_code attributes) ≡ Some attributes
continue_statement_read attributes = λ i. then_of (attributes_read attributes i) (λ x0. Some x0)

pub return_statement_read : (attributes : Attributes) (x : plain.ReturnStatement)
    → return_statement_of (return_code attributes x) ≡ Some (with_attributes attributes x)
return_statement_read attributes n = λ i. then_of (attributes_read attributes i)
    (λ x0. then_of (optional_read expression_node_code expression_node_of expression_node_read
    expression_node_there n.expression i) (λ x1. Some (with_attributes x0 (record { expression = x1 }))))

pub discard_statement_read : (attributes : Attributes)
    → discard_statement_of (discard_code attributes) ≡ Some attributes
discard_statement_read attributes = λ i. then_of (attributes_read attributes i) (λ x0. Some x0)

pub function_call_statement_read : (attributes : Attributes) (x : plain.FunctionCallStatement)
    → function_call_statement_of (call_statement_code attributes x) ≡ Some (with_attributes attributes x)
function_call_statement_read attributes n = λ i. then_of (attributes_read attributes i)
    (λ x0. then_of (function_call_read n.call i) (λ x1. Some (with_attributes x0 (record { call = x1 }))))

pub const_assert_read : (attributes : Attributes) (x : plain.ConstAssert)
    → const_assert_of (assert_code attributes x) ≡ Some (with_attributes attributes x)
const_assert_read attributes n =
    λ i. then_of (attributes_read attributes i) (λ x0. then_of (expression_node_read n.expression i)
    (λ x1. Some (with_attributes x0 (record { expression = x1 }))))

pub declaration_read : (attributes : Attributes) (x : plain.Declaration)
    → declaration_of (declaration_code attributes x) ≡ Some (with_attributes attributes x)
declaration_read attributes n =
    λ i. then_of (attributes_read attributes i) (λ x0. then_of (declaration_kind_read n.kind i)
    (λ x1. then_of (text_read n.ident i) (λ x2. then_of (optional_read type_code type_expression_of
    type_expression_read type_expression_there n.ty i) (λ x3. then_of (optional_read expression_node_code
    expression_node_of expression_node_read expression_node_there n.initializer i)
    (λ x4. Some (with_attributes x0 (record { kind = x1; ident = x2; ty = x3; initializer = x4 })))))))

mutual
  pub compound_statement_read : (x : plain.CompoundStatement) → compound_statement_of (compound_code x) ≡ Some x
  compound_statement_read (plain.compound_statement attributes statements) =
      λ i. then_of (attributes_read attributes i)
      (λ x0. then_of (statement_nodes_read statements i) (λ x1. Some (plain.compound_statement x0 x1)))

  pub if_clause_read : (x : plain.IfClause) → if_clause_of (if_clause_code x) ≡ Some x
  if_clause_read (plain.if_clause expression body) = λ i. then_of (expression_node_read expression i)
      (λ x0. then_of (compound_statement_read body i) (λ x1. Some (plain.if_clause x0 x1)))

  pub else_if_clause_read : (x : plain.ElseIfClause) → else_if_clause_of (else_if_clause_code x) ≡ Some x
  else_if_clause_read (plain.else_if_clause attributes expression body) =
      λ i. then_of (attributes_read attributes i) (λ x0. then_of (expression_node_read expression i)
      (λ x1. then_of (compound_statement_read body i) (λ x2. Some (plain.else_if_clause x0 x1 x2))))

  pub if_statement_read : (attributes : Attributes) (x : plain.IfStatement)
      → if_statement_of (if_code attributes x) ≡ Some (with_attributes attributes x)
  if_statement_read attributes (plain.if_else first_clause else_if_clauses else_clause) =
      λ i. then_of (attributes_read attributes i) (λ x0. then_of (if_clause_read first_clause i)
      (λ x1. then_of (else_if_clauses_read else_if_clauses i) (λ x2. then_of (maybe_else_clause_read
      else_clause i) (λ x3. Some (with_attributes x0 (plain.if_else x1 x2 x3))))))

  pub switch_clause_read : (x : plain.SwitchClause) → switch_clause_of (switch_clause_code x) ≡ Some x
  switch_clause_read (plain.switch_clause attributes case_selectors body) =
      λ i. then_of (attributes_read attributes i)
      (λ x0. then_of (items_read selector_code case_selector_of case_selector_read case_selectors i)
      (λ x1. then_of (compound_statement_read body i) (λ x2. Some (plain.switch_clause x0 x1 x2))))

  pub switch_statement_read : (attributes : Attributes) (x : plain.SwitchStatement)
      → switch_statement_of (switch_code attributes x) ≡ Some (with_attributes attributes x)
  switch_statement_read attributes (plain.switch expression body_attributes clauses) =
      λ i. then_of (attributes_read attributes i) (λ x0. then_of (expression_node_read expression i)
      (λ x1. then_of (attributes_read body_attributes i) (λ x2. then_of (switch_clauses_read clauses i)
      (λ x3. Some (with_attributes x0 (plain.switch x1 x2 x3))))))

  pub loop_statement_read : (attributes : Attributes) (x : plain.LoopStatement)
      → loop_statement_of (loop_code attributes x) ≡ Some (with_attributes attributes x)
  loop_statement_read attributes (plain.repeat body continuing) =
      λ i. then_of (attributes_read attributes i) (λ x0. then_of (compound_statement_read body i)
      (λ x1. then_of (maybe_continuing_read continuing i) (λ x2. Some (with_attributes x0 (plain.repeat x1 x2)))))

  pub for_statement_read : (attributes : Attributes) (x : plain.ForStatement)
      → for_statement_of (for_code attributes x) ≡ Some (with_attributes attributes x)
  for_statement_read attributes (plain.repeat_for initializer condition update body) =
      λ i. then_of (attributes_read attributes i) (λ x0. then_of (maybe_statement_read initializer i)
      (λ x1. then_of (optional_read expression_node_code expression_node_of expression_node_read
      expression_node_there condition i) (λ x2. then_of (maybe_statement_read update i) (λ x3. then_of
      (compound_statement_read body i) (λ x4. Some (with_attributes x0 (plain.repeat_for x1 x2 x3 x4)))))))

  pub while_statement_read : (attributes : Attributes) (x : plain.WhileStatement)
      → while_statement_of (while_code attributes x) ≡ Some (with_attributes attributes x)
  while_statement_read attributes (plain.repeat_while condition body) =
      λ i. then_of (attributes_read attributes i) (λ x0. then_of (expression_node_read condition i)
      (λ x1. then_of (compound_statement_read body i) (λ x2. Some (with_attributes x0 (plain.repeat_while x1 x2)))))

  pub unattributed_statement_read : (attributes : Attributes) (x : plain.UnattributedStatement)
      → statement_of (unattributed_code attributes x) ≡ Some (plain.statement attributes x)
  unattributed_statement_read attributes (plain.compound ss) =
      λ i. then_of (then_of (attributes_read attributes i) (λ x0. then_of (statement_nodes_read ss i)
      (λ x1. Some (plain.compound_statement x0 x1)))) (λ x0. Some (plain.block_statement x0))
  unattributed_statement_read attributes (plain.assignment x) =
      λ i. then_of (assignment_statement_read attributes x i) (λ x0. Some (plain.as_statement plain.assignment x0))
  unattributed_statement_read attributes (plain.increment x) =
      λ i. then_of (increment_statement_read attributes x i) (λ x0. Some (plain.as_statement plain.increment x0))
  unattributed_statement_read attributes (plain.decrement x) =
      λ i. then_of (decrement_statement_read attributes x i) (λ x0. Some (plain.as_statement plain.decrement x0))
  unattributed_statement_read attributes (plain.if_statement x) =
      λ i. then_of (if_statement_read attributes x i) (λ x0. Some (plain.as_statement plain.if_statement x0))
  unattributed_statement_read attributes (plain.switch_statement x) =
      λ i. then_of (switch_statement_read attributes x i) (λ x0. Some (plain.as_statement plain.switch_statement x0))
  unattributed_statement_read attributes (plain.loop_statement x) =
      λ i. then_of (loop_statement_read attributes x i) (λ x0. Some (plain.as_statement plain.loop_statement x0))
  unattributed_statement_read attributes (plain.for_statement x) =
      λ i. then_of (for_statement_read attributes x i) (λ x0. Some (plain.as_statement plain.for_statement x0))
  unattributed_statement_read attributes (plain.while_statement x) =
      λ i. then_of (while_statement_read attributes x i) (λ x0. Some (plain.as_statement plain.while_statement x0))
  unattributed_statement_read attributes plain.break_statement =
      λ i. then_of (break_statement_read attributes i) (λ x0. Some (plain.statement x0 plain.break_statement))
  unattributed_statement_read attributes plain.continue_statement =
      λ i. then_of (continue_statement_read attributes i) (λ x0. Some (plain.statement x0 plain.continue_statement))
  unattributed_statement_read attributes (plain.return_statement x) =
      λ i. then_of (return_statement_read attributes x i) (λ x0. Some (plain.as_statement plain.return_statement x0))
  unattributed_statement_read attributes plain.discard_statement =
      λ i. then_of (discard_statement_read attributes i) (λ x0. Some (plain.statement x0 plain.discard_statement))
  unattributed_statement_read attributes (plain.function_call_statement x) =
      λ i. then_of (function_call_statement_read attributes x i)
      (λ x0. Some (plain.as_statement plain.function_call_statement x0))
  unattributed_statement_read attributes (plain.const_assert x) =
      λ i. then_of (const_assert_read attributes x i) (λ x0. Some (plain.as_statement plain.const_assert x0))
  unattributed_statement_read attributes (plain.declaration x) =
      λ i. then_of (declaration_read attributes x i) (λ x0. Some (plain.as_statement plain.declaration x0))
  unattributed_statement_read [] plain.void = refl
  unattributed_statement_read (a ∷ more) plain.void =
      λ i. then_of (lone_attributes_read (a ∷ more) i) (λ x0. Some (plain.statement x0 plain.void))

  pub statement_read : (x : plain.Statement) → statement_of (statement_code x) ≡ Some x
  statement_read (plain.statement attributes x) = unattributed_statement_read attributes x

  pub statement_node_read : (x : plain.StatementNode) → statement_node_of (statement_node_code x) ≡ Some x
  statement_node_read (plain.statement_node n span) =
      λ i. then_of (statement_read n i) (λ x0. Some (plain.statement_node x0 span))

  pub statement_nodes_read : (x : plain.StatementNodes) → statement_nodes_of (statements_code x) ≡ Some x
  statement_nodes_read plain.no_statements = refl
  statement_nodes_read (plain.statement_before x xs) = λ i. then_of (statement_node_read x i)
      (λ x0. then_of (statement_nodes_read xs i) (λ x1. Some (plain.statement_before x0 x1)))

  pub maybe_statement_read : (x : plain.MaybeStatement) → maybe_statement_of (part_code x) ≡ Some x
  maybe_statement_read plain.no_statement = refl
  maybe_statement_read (plain.one_statement (plain.statement_node n span)) =
      λ i. then_of (then_of (statement_read n i) (λ x0. Some (plain.statement_node x0 span)))
      (λ x0. Some (plain.one_statement x0))

  pub else_if_clauses_read : (x : plain.ElseIfClauses) → else_if_clauses_of (else_ifs_code x) ≡ Some x
  else_if_clauses_read plain.no_else_ifs = refl
  else_if_clauses_read (plain.else_if_before x xs) = λ i. then_of (else_if_clause_read x i)
      (λ x0. then_of (else_if_clauses_read xs i) (λ x1. Some (plain.else_if_before x0 x1)))

  pub maybe_else_clause_read : (x : plain.MaybeElseClause) → maybe_else_clause_of (else_code x) ≡ Some x
  maybe_else_clause_read plain.no_else = refl
  maybe_else_clause_read (plain.one_else (plain.else_clause attributes body)) =
      λ i. then_of (then_of (attributes_read attributes i) (λ x0. then_of (compound_statement_read body i)
      (λ x1. Some (plain.else_clause x0 x1)))) (λ x0. Some (plain.one_else x0))

  pub switch_clauses_read : (x : plain.SwitchClauses) → switch_clauses_of (clauses_code x) ≡ Some x
  switch_clauses_read plain.no_clauses = refl
  switch_clauses_read (plain.clause_before x xs) = λ i. then_of (switch_clause_read x i)
      (λ x0. then_of (switch_clauses_read xs i) (λ x1. Some (plain.clause_before x0 x1)))

  pub maybe_continuing_read : (x : plain.MaybeContinuing) → maybe_continuing_of (maybe_continuing_code x) ≡ Some x
  maybe_continuing_read plain.no_continuing = refl
  maybe_continuing_read (plain.one_continuing (plain.continuing attributes body break_if)) =
      λ i. then_of (then_of (attributes_read attributes i) (λ x0. then_of (compound_statement_read body i)
      (λ x1. then_of (optional_read (attributed_code break_if_code) break_if_statement_of
      (λ a. break_if_statement_read a.attributes a.node) (λ x. refl) break_if i)
      (λ x2. Some (plain.continuing x0 x1 x2))))) (λ x0. Some (plain.one_continuing x0))

pub else_clause_read : (x : plain.ElseClause) → else_clause_of (else_clause_code x) ≡ Some x
else_clause_read (plain.else_clause attributes body) = λ i. then_of (attributes_read attributes i)
    (λ x0. then_of (compound_statement_read body i) (λ x1. Some (plain.else_clause x0 x1)))

pub continuing_statement_read : (x : plain.ContinuingStatement) → continuing_statement_of (continuing_code x) ≡ Some x
continuing_statement_read (plain.continuing attributes body break_if) =
    λ i. then_of (attributes_read attributes i) (λ x0. then_of (compound_statement_read body i)
    (λ x1. then_of (optional_read (attributed_code break_if_code) break_if_statement_of (λ a.
    break_if_statement_read a.attributes a.node) (λ x. refl) break_if i) (λ x2. Some (plain.continuing x0 x1 x2))))
