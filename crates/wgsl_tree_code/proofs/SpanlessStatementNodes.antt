-- Written by tools/tables/tree_spans.py from crates/wgsl_model/nodes: statements without their
-- spans.
use Rattle.std.specs.Prelude.{[], ◌∷◌, codes, true, ◌≡◌, ◌↔◌}
use Rattle.std.proofs.Common.{refl}
use Rattle.wgsl_model.specs.Trees.Statements.{changed_for, changed_if, changed_loop, changed_switch, changed_while}
use Rattle.wgsl_model.specs.Trees.Statements as plain
use Rattle.wgsl_model.specs.Trees.Attributed.{Attributed}
use Rattle.wgsl_model.specs.Trees.Attributes.{Attributes}
use Rattle.wgsl_model.specs.Trees.WithoutSpans.{bare_attributes, bare_expression_node, bare_type, no_span}
use Rattle.wgsl_model.specs.Trees.StatementsWithoutSpans.{bare_assert, bare_assignment, bare_attributed, bare_break_if, bare_call_statement, bare_clauses, bare_compound, bare_continuing, bare_declaration, bare_decrement, bare_else, bare_else_clause, bare_else_if_clause, bare_else_ifs, bare_if_clause, bare_increment, bare_maybe_continuing, bare_part, bare_return, bare_selector, bare_statement, bare_statement_node, bare_statements, bare_switch_clause, bare_unattributed, without_spans}
use Rattle.wgsl_tree_code.specs.Code.{attributed_code, code_before, list, node_of, optional, pair_of, placed, text, variant}
use Rattle.wgsl_tree_code.specs.Same.{same, spanless, spanless_items}
use Rattle.wgsl_tree_code.specs.Laws.{same_is}
use Rattle.wgsl_tree_code.proofs.Spanless.{list_spanless, optional_alike, optional_spanless}
use Rattle.wgsl_tree_code.specs.WordNodes.{access_mode_code, address_space_code}
use Rattle.wgsl_tree_code.specs.OperatorNodes.{assignment_operator_code}
use Rattle.wgsl_tree_code.specs.ExpressionNodes.{expression_node_code, type_code}
use Rattle.wgsl_tree_code.specs.StatementNodes.{assert_code, assignment_code, break_code, break_if_code, call_statement_code, clauses_code, compound_code, continue_code, continuing_code, declaration_code, declaration_kind_code, decrement_code, discard_code, else_clause_code, else_code, else_if_clause_code, else_ifs_code, for_code, if_clause_code, if_code, increment_code, loop_code, maybe_continuing_code, part_code, return_code, selector_code, statement_code, statement_node_code, statements_code, switch_clause_code, switch_code, unattributed_code, while_code}
use Rattle.wgsl_tree_code.proofs.ReadStatementNodes.{assignment_statement_of, assignment_statement_read, break_if_statement_of, break_if_statement_read, case_selector_of, case_selector_read, compound_statement_of, compound_statement_read, const_assert_of, const_assert_read, continuing_statement_of, continuing_statement_read, declaration_kind_of, declaration_kind_read, declaration_of, declaration_read, decrement_statement_of, decrement_statement_read, else_clause_of, else_clause_read, else_if_clause_of, else_if_clause_read, for_statement_of, for_statement_read, function_call_statement_of, function_call_statement_read, if_clause_of, if_clause_read, if_statement_of, if_statement_read, increment_statement_of, increment_statement_read, loop_statement_of, loop_statement_read, return_statement_of, return_statement_read, statement_node_of, statement_node_read, statement_of, statement_read, switch_clause_of, switch_clause_read, switch_statement_of, switch_statement_read, while_statement_of, while_statement_read}
use Rattle.wgsl_tree_code.proofs.SpanlessExpressionNodes.{expression_node_spanless, function_call_spanless, type_expression_spanless}
use Rattle.wgsl_tree_code.proofs.SpanlessAttributeNodes.{attributes_spanless}

pub declaration_kind_spanless : (x : plain.DeclarationKind)
    → spanless (declaration_kind_code x) ≡ declaration_kind_code x
declaration_kind_spanless plain.const_kind = refl
declaration_kind_spanless plain.override_kind = refl
declaration_kind_spanless plain.let_kind = refl
declaration_kind_spanless (plain.var_kind x) = λ i. variant (codes "Var")
    (optional_alike (λ p. pair_of (address_space_code p.0) ((optional access_mode_code) p.1))
    (λ p i. pair_of (address_space_code p.0) (optional_alike access_mode_code (λ x. refl) p.1 i)) x i)

pub assignment_statement_spanless : (attributes : Attributes) (x : plain.AssignmentStatement)
    → spanless (assignment_code attributes x) ≡ assignment_code (bare_attributes attributes) (bare_assignment x)
assignment_statement_spanless attributes n =
    λ i. node_of ((codes "attributes", attributes_spanless attributes i)
    ∷ (codes "operator", assignment_operator_code n.operator)
    ∷ (codes "lhs", expression_node_spanless n.lhs i) ∷ (codes "rhs", expression_node_spanless n.rhs i) ∷ [])

pub increment_statement_spanless : (attributes : Attributes) (x : plain.IncrementStatement)
    → spanless (increment_code attributes x) ≡ increment_code (bare_attributes attributes) (bare_increment x)
increment_statement_spanless attributes n =
    λ i. node_of ((codes "attributes", attributes_spanless attributes i)
    ∷ (codes "expression", expression_node_spanless n.expression i) ∷ [])

pub decrement_statement_spanless : (attributes : Attributes) (x : plain.DecrementStatement)
    → spanless (decrement_code attributes x) ≡ decrement_code (bare_attributes attributes) (bare_decrement x)
decrement_statement_spanless attributes n =
    λ i. node_of ((codes "attributes", attributes_spanless attributes i)
    ∷ (codes "expression", expression_node_spanless n.expression i) ∷ [])

pub case_selector_spanless : (x : plain.CaseSelector) → spanless (selector_code x) ≡ selector_code (bare_selector x)
case_selector_spanless plain.default_selector = refl
case_selector_spanless (plain.expression_selector x) = λ i. variant (codes "Expression") (expression_node_spanless x i)

pub break_if_statement_spanless : (attributes : Attributes) (x : plain.BreakIfStatement)
    → spanless (break_if_code attributes x) ≡ break_if_code (bare_attributes attributes) (bare_break_if x)
break_if_statement_spanless attributes n =
    λ i. node_of ((codes "attributes", attributes_spanless attributes i)
    ∷ (codes "expression", expression_node_spanless n.expression i) ∷ [])

pub break_statement_spanless : (attributes : Attributes)
    → spanless (break_code attributes) ≡ break_code (bare_attributes attributes)
break_statement_spanless attributes = λ i. node_of ((codes "attributes", attributes_spanless attributes i) ∷ [])

pub continue_statement_spanless : (attributes : Attributes)
    → spanless (continue_code attributes) ≡ continue_code (bare_attributes attributes)
continue_statement_spanless attributes = λ i. node_of ((codes "attributes", attributes_spanless attributes i) ∷ [])

pub return_statement_spanless : (attributes : Attributes) (x : plain.ReturnStatement)
    → spanless (return_code attributes x) ≡ return_code (bare_attributes attributes) (bare_return x)
return_statement_spanless attributes n =
    λ i. node_of ((codes "attributes", attributes_spanless attributes i) ∷ (
      codes "expression",
      optional_spanless expression_node_code bare_expression_node expression_node_spanless n.expression i,
    ) ∷ [])

pub discard_statement_spanless : (attributes : Attributes)
    → spanless (discard_code attributes) ≡ discard_code (bare_attributes attributes)
discard_statement_spanless attributes = λ i. node_of ((codes "attributes", attributes_spanless attributes i) ∷ [])

pub function_call_statement_spanless : (attributes : Attributes) (x : plain.FunctionCallStatement)
    → spanless (call_statement_code attributes x)
    ≡ call_statement_code (bare_attributes attributes) (bare_call_statement x)
function_call_statement_spanless attributes n =
    λ i. node_of ((codes "attributes", attributes_spanless attributes i)
    ∷ (codes "call", function_call_spanless n.call i) ∷ [])

pub const_assert_spanless : (attributes : Attributes) (x : plain.ConstAssert)
    → spanless (assert_code attributes x) ≡ assert_code (bare_attributes attributes) (bare_assert x)
const_assert_spanless attributes n = λ i. node_of ((codes "attributes", attributes_spanless attributes i)
    ∷ (codes "expression", expression_node_spanless n.expression i) ∷ [])

pub declaration_spanless : (attributes : Attributes) (x : plain.Declaration)
    → spanless (declaration_code attributes x) ≡ declaration_code (bare_attributes attributes) (bare_declaration x)
declaration_spanless attributes n = λ i. node_of ((codes "attributes", attributes_spanless attributes i)
    ∷ (codes "kind", declaration_kind_spanless n.kind i) ∷ (codes "ident", text n.ident)
    ∷ (codes "ty", optional_spanless type_code bare_type type_expression_spanless n.ty i) ∷ (
      codes "initializer",
      optional_spanless expression_node_code bare_expression_node expression_node_spanless n.initializer i,
    ) ∷ [])

pub declaration_kind_equal : (a b : plain.DeclarationKind)
    → (same (declaration_kind_code a) (declaration_kind_code b) ≡ true) ↔ (a ≡ b)
declaration_kind_equal = same_is declaration_kind_code declaration_kind_of
    (λ t. t) declaration_kind_read declaration_kind_spanless

pub assignment_statement_equal : (a b : Attributed plain.AssignmentStatement)
    → (same (attributed_code assignment_code a) (attributed_code assignment_code b) ≡ true)
    ↔ (bare_attributed bare_assignment a ≡ bare_attributed bare_assignment b)
assignment_statement_equal = same_is (attributed_code assignment_code) assignment_statement_of
    (bare_attributed bare_assignment) (λ a. assignment_statement_read a.attributes a.node)
    (λ a. assignment_statement_spanless a.attributes a.node)

pub increment_statement_equal : (a b : Attributed plain.IncrementStatement)
    → (same (attributed_code increment_code a) (attributed_code increment_code b) ≡ true)
    ↔ (bare_attributed bare_increment a ≡ bare_attributed bare_increment b)
increment_statement_equal = same_is (attributed_code increment_code) increment_statement_of
    (bare_attributed bare_increment) (λ a. increment_statement_read a.attributes a.node)
    (λ a. increment_statement_spanless a.attributes a.node)

pub decrement_statement_equal : (a b : Attributed plain.DecrementStatement)
    → (same (attributed_code decrement_code a) (attributed_code decrement_code b) ≡ true)
    ↔ (bare_attributed bare_decrement a ≡ bare_attributed bare_decrement b)
decrement_statement_equal = same_is (attributed_code decrement_code) decrement_statement_of
    (bare_attributed bare_decrement) (λ a. decrement_statement_read a.attributes a.node)
    (λ a. decrement_statement_spanless a.attributes a.node)

pub case_selector_equal : (a b : plain.CaseSelector)
    → (same (selector_code a) (selector_code b) ≡ true) ↔ (bare_selector a ≡ bare_selector b)
case_selector_equal = same_is selector_code case_selector_of bare_selector case_selector_read case_selector_spanless

pub break_if_statement_equal : (a b : Attributed plain.BreakIfStatement)
    → (same (attributed_code break_if_code a) (attributed_code break_if_code b) ≡ true)
    ↔ (bare_attributed bare_break_if a ≡ bare_attributed bare_break_if b)
break_if_statement_equal = same_is (attributed_code break_if_code) break_if_statement_of
    (bare_attributed bare_break_if) (λ a. break_if_statement_read a.attributes a.node)
    (λ a. break_if_statement_spanless a.attributes a.node)

pub return_statement_equal : (a b : Attributed plain.ReturnStatement)
    → (same (attributed_code return_code a) (attributed_code return_code b) ≡ true)
    ↔ (bare_attributed bare_return a ≡ bare_attributed bare_return b)
return_statement_equal = same_is (attributed_code return_code) return_statement_of
    (bare_attributed bare_return) (λ a. return_statement_read a.attributes a.node)
    (λ a. return_statement_spanless a.attributes a.node)

pub function_call_statement_equal : (a b : Attributed plain.FunctionCallStatement)
    → (same (attributed_code call_statement_code a) (attributed_code call_statement_code b) ≡ true)
    ↔ (bare_attributed bare_call_statement a ≡ bare_attributed bare_call_statement b)
function_call_statement_equal = same_is (attributed_code call_statement_code) function_call_statement_of
    (bare_attributed bare_call_statement) (λ a. function_call_statement_read a.attributes a.node)
    (λ a. function_call_statement_spanless a.attributes a.node)

pub const_assert_equal : (a b : Attributed plain.ConstAssert)
    → (same (attributed_code assert_code a) (attributed_code assert_code b) ≡ true)
    ↔ (bare_attributed bare_assert a ≡ bare_attributed bare_assert b)
const_assert_equal = same_is (attributed_code assert_code) const_assert_of (bare_attributed bare_assert)
    (λ a. const_assert_read a.attributes a.node) (λ a. const_assert_spanless a.attributes a.node)

pub declaration_equal : (a b : Attributed plain.Declaration)
    → (same (attributed_code declaration_code a) (attributed_code declaration_code b) ≡ true)
    ↔ (bare_attributed bare_declaration a ≡ bare_attributed bare_declaration b)
declaration_equal = same_is (attributed_code declaration_code) declaration_of
    (bare_attributed bare_declaration) (λ a. declaration_read a.attributes a.node)
    (λ a. declaration_spanless a.attributes a.node)

mutual
  pub compound_statement_spanless : (x : plain.CompoundStatement)
      → spanless (compound_code x) ≡ compound_code (bare_compound x)
  compound_statement_spanless (plain.compound_statement attributes statements) =
      λ i. node_of ((codes "attributes", attributes_spanless attributes i)
      ∷ (codes "statements", list (statement_nodes_spanless statements i)) ∷ [])

  pub if_clause_spanless : (x : plain.IfClause) → spanless (if_clause_code x) ≡ if_clause_code (bare_if_clause x)
  if_clause_spanless (plain.if_clause expression body) =
      λ i. node_of ((codes "expression", expression_node_spanless expression i)
      ∷ (codes "body", compound_statement_spanless body i) ∷ [])

  pub else_if_clause_spanless : (x : plain.ElseIfClause)
      → spanless (else_if_clause_code x) ≡ else_if_clause_code (bare_else_if_clause x)
  else_if_clause_spanless (plain.else_if_clause attributes expression body) =
      λ i. node_of ((codes "attributes", attributes_spanless attributes i)
      ∷ (codes "expression", expression_node_spanless expression i)
      ∷ (codes "body", compound_statement_spanless body i) ∷ [])

  pub else_clause_spanless : (x : plain.ElseClause)
      → spanless (else_clause_code x) ≡ else_clause_code (bare_else_clause x)
  else_clause_spanless (plain.else_clause attributes body) =
      λ i. node_of ((codes "attributes", attributes_spanless attributes i)
      ∷ (codes "body", compound_statement_spanless body i) ∷ [])

  pub if_statement_spanless : (attributes : Attributes) (x : plain.IfStatement)
      → spanless (if_code attributes x) ≡ if_code (bare_attributes attributes) (changed_if without_spans x)
  if_statement_spanless attributes (plain.if_else first_clause else_if_clauses else_clause) =
      λ i. node_of ((codes "attributes", attributes_spanless attributes i)
      ∷ (codes "if_clause", if_clause_spanless first_clause i) ∷ (
        codes "else_if_clauses",
        list (else_if_clauses_spanless else_if_clauses i),
      ) ∷ (codes "else_clause", maybe_else_clause_spanless else_clause i) ∷ [])

  pub switch_clause_spanless : (x : plain.SwitchClause)
      → spanless (switch_clause_code x) ≡ switch_clause_code (bare_switch_clause x)
  switch_clause_spanless (plain.switch_clause attributes case_selectors body) =
      λ i. node_of ((codes "attributes", attributes_spanless attributes i) ∷ (
        codes "case_selectors",
        list_spanless selector_code bare_selector case_selector_spanless case_selectors i,
      ) ∷ (codes "body", compound_statement_spanless body i) ∷ [])

  pub switch_statement_spanless : (attributes : Attributes) (x : plain.SwitchStatement)
      → spanless (switch_code attributes x) ≡ switch_code (bare_attributes attributes) (changed_switch without_spans x)
  switch_statement_spanless attributes (plain.switch expression body_attributes clauses) =
      λ i. node_of ((codes "attributes", attributes_spanless attributes i)
      ∷ (codes "expression", expression_node_spanless expression i) ∷ (
        codes "body_attributes",
        attributes_spanless body_attributes i,
      ) ∷ (codes "clauses", list (switch_clauses_spanless clauses i)) ∷ [])

  pub continuing_statement_spanless : (x : plain.ContinuingStatement)
      → spanless (continuing_code x) ≡ continuing_code (bare_continuing x)
  continuing_statement_spanless (plain.continuing attributes body break_if) =
      λ i. node_of ((codes "attributes", attributes_spanless attributes i)
      ∷ (codes "body", compound_statement_spanless body i) ∷ (
        codes "break_if",
        optional_spanless (attributed_code break_if_code) (bare_attributed bare_break_if)
            (λ a. break_if_statement_spanless a.attributes a.node) break_if i,
      ) ∷ [])

  pub loop_statement_spanless : (attributes : Attributes) (x : plain.LoopStatement)
      → spanless (loop_code attributes x) ≡ loop_code (bare_attributes attributes) (changed_loop without_spans x)
  loop_statement_spanless attributes (plain.repeat body continuing) =
      λ i. node_of ((codes "attributes", attributes_spanless attributes i)
      ∷ (codes "body", compound_statement_spanless body i)
      ∷ (codes "continuing", maybe_continuing_spanless continuing i) ∷ [])

  pub for_statement_spanless : (attributes : Attributes) (x : plain.ForStatement)
      → spanless (for_code attributes x) ≡ for_code (bare_attributes attributes) (changed_for without_spans x)
  for_statement_spanless attributes (plain.repeat_for initializer condition update body) =
      λ i. node_of ((codes "attributes", attributes_spanless attributes i)
      ∷ (codes "initializer", maybe_statement_spanless initializer i) ∷ (
        codes "condition",
        optional_spanless expression_node_code bare_expression_node expression_node_spanless condition i,
      ) ∷ (codes "update", maybe_statement_spanless update i) ∷ (codes "body", compound_statement_spanless body i) ∷ [])

  pub while_statement_spanless : (attributes : Attributes) (x : plain.WhileStatement)
      → spanless (while_code attributes x) ≡ while_code (bare_attributes attributes) (changed_while without_spans x)
  while_statement_spanless attributes (plain.repeat_while condition body) =
      λ i. node_of ((codes "attributes", attributes_spanless attributes i)
      ∷ (codes "condition", expression_node_spanless condition i)
      ∷ (codes "body", compound_statement_spanless body i) ∷ [])

  pub unattributed_statement_spanless : (attributes : Attributes) (x : plain.UnattributedStatement)
      → spanless (unattributed_code attributes x) ≡ unattributed_code (bare_attributes attributes) (bare_unattributed x)
  unattributed_statement_spanless [] plain.void = refl
  unattributed_statement_spanless (a ∷ more) plain.void =
      λ i. variant (codes "Void") (node_of ((codes "attributes", attributes_spanless (a ∷ more) i) ∷ []))
  unattributed_statement_spanless attributes (plain.compound ss) =
      λ i. variant (codes "Compound") (node_of ((codes "attributes", attributes_spanless attributes i)
      ∷ (codes "statements", list (statement_nodes_spanless ss i)) ∷ []))
  unattributed_statement_spanless attributes (plain.assignment x) =
      λ i. variant (codes "Assignment") (assignment_statement_spanless attributes x i)
  unattributed_statement_spanless attributes (plain.increment x) =
      λ i. variant (codes "Increment") (increment_statement_spanless attributes x i)
  unattributed_statement_spanless attributes (plain.decrement x) =
      λ i. variant (codes "Decrement") (decrement_statement_spanless attributes x i)
  unattributed_statement_spanless attributes (plain.if_statement x) =
      λ i. variant (codes "If") (if_statement_spanless attributes x i)
  unattributed_statement_spanless attributes (plain.switch_statement x) =
      λ i. variant (codes "Switch") (switch_statement_spanless attributes x i)
  unattributed_statement_spanless attributes (plain.loop_statement x) =
      λ i. variant (codes "Loop") (loop_statement_spanless attributes x i)
  unattributed_statement_spanless attributes (plain.for_statement x) =
      λ i. variant (codes "For") (for_statement_spanless attributes x i)
  unattributed_statement_spanless attributes (plain.while_statement x) =
      λ i. variant (codes "While") (while_statement_spanless attributes x i)
  unattributed_statement_spanless attributes plain.break_statement =
      λ i. variant (codes "Break") (break_statement_spanless attributes i)
  unattributed_statement_spanless attributes plain.continue_statement =
      λ i. variant (codes "Continue") (continue_statement_spanless attributes i)
  unattributed_statement_spanless attributes (plain.return_statement x) =
      λ i. variant (codes "Return") (return_statement_spanless attributes x i)
  unattributed_statement_spanless attributes plain.discard_statement =
      λ i. variant (codes "Discard") (discard_statement_spanless attributes i)
  unattributed_statement_spanless attributes (plain.function_call_statement x) =
      λ i. variant (codes "FunctionCall") (function_call_statement_spanless attributes x i)
  unattributed_statement_spanless attributes (plain.const_assert x) =
      λ i. variant (codes "ConstAssert") (const_assert_spanless attributes x i)
  unattributed_statement_spanless attributes (plain.declaration x) =
      λ i. variant (codes "Declaration") (declaration_spanless attributes x i)

  pub statement_spanless : (x : plain.Statement) → spanless (statement_code x) ≡ statement_code (bare_statement x)
  statement_spanless (plain.statement attributes x) = unattributed_statement_spanless attributes x

  pub statement_node_spanless : (x : plain.StatementNode)
      → spanless (statement_node_code x) ≡ statement_node_code (bare_statement_node x)
  statement_node_spanless (plain.statement_node n span) = λ i. placed no_span (statement_spanless n i)

  pub statement_nodes_spanless : (x : plain.StatementNodes)
      → spanless_items (statements_code x) ≡ statements_code (bare_statements x)
  statement_nodes_spanless plain.no_statements = refl
  statement_nodes_spanless (plain.statement_before x xs) =
      λ i. code_before (statement_node_spanless x i) (statement_nodes_spanless xs i)

  pub maybe_statement_spanless : (x : plain.MaybeStatement) → spanless (part_code x) ≡ part_code (bare_part x)
  maybe_statement_spanless plain.no_statement = refl
  maybe_statement_spanless (plain.one_statement x) = λ i. statement_node_spanless x i

  pub else_if_clauses_spanless : (x : plain.ElseIfClauses)
      → spanless_items (else_ifs_code x) ≡ else_ifs_code (bare_else_ifs x)
  else_if_clauses_spanless plain.no_else_ifs = refl
  else_if_clauses_spanless (plain.else_if_before x xs) =
      λ i. code_before (else_if_clause_spanless x i) (else_if_clauses_spanless xs i)

  pub maybe_else_clause_spanless : (x : plain.MaybeElseClause) → spanless (else_code x) ≡ else_code (bare_else x)
  maybe_else_clause_spanless plain.no_else = refl
  maybe_else_clause_spanless (plain.one_else x) = λ i. else_clause_spanless x i

  pub switch_clauses_spanless : (x : plain.SwitchClauses)
      → spanless_items (clauses_code x) ≡ clauses_code (bare_clauses x)
  switch_clauses_spanless plain.no_clauses = refl
  switch_clauses_spanless (plain.clause_before x xs) =
      λ i. code_before (switch_clause_spanless x i) (switch_clauses_spanless xs i)

  pub maybe_continuing_spanless : (x : plain.MaybeContinuing)
      → spanless (maybe_continuing_code x) ≡ maybe_continuing_code (bare_maybe_continuing x)
  maybe_continuing_spanless plain.no_continuing = refl
  maybe_continuing_spanless (plain.one_continuing x) = λ i. continuing_statement_spanless x i

pub compound_statement_equal : (a b : plain.CompoundStatement)
    → (same (compound_code a) (compound_code b) ≡ true) ↔ (bare_compound a ≡ bare_compound b)
compound_statement_equal = same_is compound_code compound_statement_of bare_compound
    compound_statement_read compound_statement_spanless

pub if_clause_equal : (a b : plain.IfClause)
    → (same (if_clause_code a) (if_clause_code b) ≡ true) ↔ (bare_if_clause a ≡ bare_if_clause b)
if_clause_equal = same_is if_clause_code if_clause_of bare_if_clause if_clause_read if_clause_spanless

pub else_if_clause_equal : (a b : plain.ElseIfClause)
    → (same (else_if_clause_code a) (else_if_clause_code b) ≡ true) ↔ (bare_else_if_clause a ≡ bare_else_if_clause b)
else_if_clause_equal = same_is else_if_clause_code else_if_clause_of bare_else_if_clause
    else_if_clause_read else_if_clause_spanless

pub else_clause_equal : (a b : plain.ElseClause)
    → (same (else_clause_code a) (else_clause_code b) ≡ true) ↔ (bare_else_clause a ≡ bare_else_clause b)
else_clause_equal = same_is else_clause_code else_clause_of bare_else_clause else_clause_read else_clause_spanless

pub if_statement_equal : (a b : Attributed plain.IfStatement)
    → (same (attributed_code if_code a) (attributed_code if_code b) ≡ true)
    ↔ (bare_attributed (changed_if without_spans) a ≡ bare_attributed (changed_if without_spans) b)
if_statement_equal = same_is (attributed_code if_code) if_statement_of
    (bare_attributed (changed_if without_spans)) (λ a. if_statement_read a.attributes a.node)
    (λ a. if_statement_spanless a.attributes a.node)

pub switch_clause_equal : (a b : plain.SwitchClause)
    → (same (switch_clause_code a) (switch_clause_code b) ≡ true) ↔ (bare_switch_clause a ≡ bare_switch_clause b)
switch_clause_equal = same_is switch_clause_code switch_clause_of bare_switch_clause
    switch_clause_read switch_clause_spanless

pub switch_statement_equal : (a b : Attributed plain.SwitchStatement)
    → (same (attributed_code switch_code a) (attributed_code switch_code b) ≡ true)
    ↔ (bare_attributed (changed_switch without_spans) a ≡ bare_attributed (changed_switch without_spans) b)
switch_statement_equal = same_is (attributed_code switch_code) switch_statement_of
    (bare_attributed (changed_switch without_spans)) (λ a. switch_statement_read a.attributes a.node)
    (λ a. switch_statement_spanless a.attributes a.node)

pub continuing_statement_equal : (a b : plain.ContinuingStatement)
    → (same (continuing_code a) (continuing_code b) ≡ true) ↔ (bare_continuing a ≡ bare_continuing b)
continuing_statement_equal = same_is continuing_code continuing_statement_of bare_continuing
    continuing_statement_read continuing_statement_spanless

pub loop_statement_equal : (a b : Attributed plain.LoopStatement)
    → (same (attributed_code loop_code a) (attributed_code loop_code b) ≡ true)
    ↔ (bare_attributed (changed_loop without_spans) a ≡ bare_attributed (changed_loop without_spans) b)
loop_statement_equal = same_is (attributed_code loop_code) loop_statement_of
    (bare_attributed (changed_loop without_spans)) (λ a. loop_statement_read a.attributes a.node)
    (λ a. loop_statement_spanless a.attributes a.node)

pub for_statement_equal : (a b : Attributed plain.ForStatement)
    → (same (attributed_code for_code a) (attributed_code for_code b) ≡ true)
    ↔ (bare_attributed (changed_for without_spans) a ≡ bare_attributed (changed_for without_spans) b)
for_statement_equal = same_is (attributed_code for_code) for_statement_of
    (bare_attributed (changed_for without_spans)) (λ a. for_statement_read a.attributes a.node)
    (λ a. for_statement_spanless a.attributes a.node)

pub while_statement_equal : (a b : Attributed plain.WhileStatement)
    → (same (attributed_code while_code a) (attributed_code while_code b) ≡ true)
    ↔ (bare_attributed (changed_while without_spans) a ≡ bare_attributed (changed_while without_spans) b)
while_statement_equal = same_is (attributed_code while_code) while_statement_of
    (bare_attributed (changed_while without_spans)) (λ a. while_statement_read a.attributes a.node)
    (λ a. while_statement_spanless a.attributes a.node)

pub statement_equal : (a b : plain.Statement)
    → (same (statement_code a) (statement_code b) ≡ true) ↔ (bare_statement a ≡ bare_statement b)
statement_equal = same_is statement_code statement_of bare_statement statement_read statement_spanless

pub statement_node_equal : (a b : plain.StatementNode)
    → (same (statement_node_code a) (statement_node_code b) ≡ true) ↔ (bare_statement_node a ≡ bare_statement_node b)
statement_node_equal = same_is statement_node_code statement_node_of bare_statement_node
    statement_node_read statement_node_spanless
