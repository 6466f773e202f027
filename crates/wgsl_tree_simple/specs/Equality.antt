-- What `==` of declarations, and of the statements that hold no others, returns.
use Rattle.std.specs.Prelude.{Bool}
use Rattle.wgsl_tree_simple.specs.declared.declaration.DeclarationKind.{DeclarationKind}
use Rattle.wgsl_tree_simple.specs.declared.declaration.Declaration.{Declaration}
use Rattle.wgsl_tree_simple.specs.declared.assignment.AssignmentStatement.{AssignmentStatement}
use Rattle.wgsl_tree_simple.specs.declared.increment.IncrementStatement.{IncrementStatement}
use Rattle.wgsl_tree_simple.specs.declared.increment.DecrementStatement.{DecrementStatement}
use Rattle.wgsl_tree_simple.specs.declared.single_word.BreakStatement.{BreakStatement}
use Rattle.wgsl_tree_simple.specs.declared.single_word.ContinueStatement.{ContinueStatement}
use Rattle.wgsl_tree_simple.specs.declared.single_word.DiscardStatement.{DiscardStatement}
use Rattle.wgsl_tree_simple.specs.declared.return_statement.ReturnStatement.{ReturnStatement}
use Rattle.wgsl_tree_simple.specs.declared.call_statement.FunctionCallStatement.{FunctionCallStatement}
use Rattle.wgsl_tree_simple.specs.declared.const_assert.ConstAssert.{ConstAssert}
use Rattle.wgsl_tree_simple.specs.declared.break_if.BreakIfStatement.{BreakIfStatement}
use Rattle.wgsl_tree_simple.specs.declared.case_selector.CaseSelector.{CaseSelector}
use Rattle.wgsl_tree_simple.specs.contracts.declaration.DeclarationKindPartialEq.TheImpl as declaration_kind_eq
use Rattle.wgsl_tree_simple.specs.contracts.declaration.DeclarationPartialEq.TheImpl as declaration_eq
use Rattle.wgsl_tree_simple.specs.contracts.assignment.AssignmentStatementPartialEq.TheImpl as assignment_eq
use Rattle.wgsl_tree_simple.specs.contracts.increment.IncrementStatementPartialEq.TheImpl as increment_eq
use Rattle.wgsl_tree_simple.specs.contracts.increment.DecrementStatementPartialEq.TheImpl as decrement_eq
use Rattle.wgsl_tree_simple.specs.contracts.single_word.BreakStatementPartialEq.TheImpl as break_eq
use Rattle.wgsl_tree_simple.specs.contracts.single_word.ContinueStatementPartialEq.TheImpl as continue_eq
use Rattle.wgsl_tree_simple.specs.contracts.single_word.DiscardStatementPartialEq.TheImpl as discard_eq
use Rattle.wgsl_tree_simple.specs.contracts.return_statement.ReturnStatementPartialEq.TheImpl as return_eq
use Rattle.wgsl_tree_simple.specs.contracts.call_statement.FunctionCallStatementPartialEq.TheImpl as call_statement_eq
use Rattle.wgsl_tree_simple.specs.contracts.const_assert.ConstAssertPartialEq.TheImpl as assert_eq
use Rattle.wgsl_tree_simple.specs.contracts.break_if.BreakIfStatementPartialEq.TheImpl as break_if_eq
use Rattle.wgsl_tree_simple.specs.contracts.case_selector.CaseSelectorPartialEq.TheImpl as selector_eq

abbrev pub equal_kinds : DeclarationKind → DeclarationKind → Bool
equal_kinds = (declaration_kind_eq.ghosts).eq

abbrev pub equal_declarations : Declaration → Declaration → Bool
equal_declarations = (declaration_eq.ghosts).eq

abbrev pub equal_assignments : AssignmentStatement → AssignmentStatement → Bool
equal_assignments = (assignment_eq.ghosts).eq

abbrev pub equal_increments : IncrementStatement → IncrementStatement → Bool
equal_increments = (increment_eq.ghosts).eq

abbrev pub equal_decrements : DecrementStatement → DecrementStatement → Bool
equal_decrements = (decrement_eq.ghosts).eq

abbrev pub equal_breaks : BreakStatement → BreakStatement → Bool
equal_breaks = (break_eq.ghosts).eq

abbrev pub equal_continues : ContinueStatement → ContinueStatement → Bool
equal_continues = (continue_eq.ghosts).eq

abbrev pub equal_discards : DiscardStatement → DiscardStatement → Bool
equal_discards = (discard_eq.ghosts).eq

abbrev pub equal_returns : ReturnStatement → ReturnStatement → Bool
equal_returns = (return_eq.ghosts).eq

abbrev pub equal_call_statements : FunctionCallStatement → FunctionCallStatement → Bool
equal_call_statements = (call_statement_eq.ghosts).eq

abbrev pub equal_asserts : ConstAssert → ConstAssert → Bool
equal_asserts = (assert_eq.ghosts).eq

abbrev pub equal_break_ifs : BreakIfStatement → BreakIfStatement → Bool
equal_break_ifs = (break_if_eq.ghosts).eq

abbrev pub equal_selectors : CaseSelector → CaseSelector → Bool
equal_selectors = (selector_eq.ghosts).eq
